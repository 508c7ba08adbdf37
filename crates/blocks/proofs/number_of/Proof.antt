-- `blocks::number_of` meets its contract: the four fields are bytes, so each is read back. Assumes nothing.
use mathlib.Core.Path.{ap, ◌∙◌}
use Prim.Native.Nat.{◌<◌}
use borrow.Author.Rules.{rules}
use Rattle.blocks.specs.Numbers.{number_of, block_in}
use Rattle.blocks.proofs.BlockNumbers.{block_in_number_of}
use Rattle.blocks.proofs.number_of.Statement.{statement}
use Rattle.blocks.proofs.number_of.Tie as tie
use Rattle.blocks.proofs.number_of.Reads as reads
use Rattle.blocks.proofs.number_of.Lts as lts
use Rattle.integers.proofs.join_bytes.Reads as join-bytes-reads

join_bytes_requires : tie.Need-join_bytes-requires
join_bytes_requires c κs = search rules

returns : tie.Need-returns
unfolding number_of
returns c =
    let b = c.before.args.b in
    let first : b.first < 256 = search rules in
    let k : b.k < 256 = search rules in
    let min : b.min < 256 = search rules in
    let max : b.max < 256 = search rules in
    (c.join_bytes.ensures, ap block_in c.join_bytes.ensures ∙ block_in_number_of b first k min max)

pub number_of_spec : {M : Type 1} → statement M
number_of_spec = tie.close (tie.spec join_bytes_requires returns)
