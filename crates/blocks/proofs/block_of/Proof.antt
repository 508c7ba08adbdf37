-- `blocks::block_of` meets its contract: the code takes the bytes that the definition takes. Assumes nothing.
use mathlib.Core.Path.{refl}
use borrow.Author.Rules.{rules}
use Rattle.blocks.specs.Numbers.{block_in}
use Rattle.blocks.proofs.block_of.Statement.{statement}
use Rattle.blocks.proofs.block_of.Tie as tie
use Rattle.blocks.proofs.block_of.Reads as reads
use Rattle.blocks.proofs.block_of.Lts as lts

cast_t3 : tie.Need-overflow_cast-result
cast_t3 c = search rules

cast_t6 : tie.Need-overflow_cast-result-2
cast_t6 c = search rules

cast_t9 : tie.Need-overflow_cast-result-3
cast_t9 c = search rules

cast_t12 : tie.Need-overflow_cast-result-4
cast_t12 c = search rules

returns : tie.Need-returns
unfolding block_in
returns c = refl

pub block_of_spec : {M : Type 1} → statement M
block_of_spec = tie.close (tie.spec cast_t3 cast_t6 cast_t9 cast_t12 returns)
