-- `floats::float_at` meets its contract: the two halves are joined, and the number is read as a float's bits. Assumes nothing.
use mathlib.Core.Path.{ap, ◌∙◌}
use lib.Ieee.{binary64, of_bits}
use Rattle.floats.specs.Bytes.{float_at}
use Rattle.floats.proofs.FloatBytes.{both_halves}
use borrow.Author.Rules.{rules}
use Rattle.floats.proofs.float_at.Statement.{statement}
use Rattle.floats.proofs.float_at.Tie as tie

bits_at_requires : tie.Need-bits_at-requires
bits_at_requires c κs = search rules

add_bits_at : tie.Need-overflow_add-at
add_bits_at c = search rules

bits_at_requires_2 : tie.Need-bits_at-requires-2
bits_at_requires_2 c κs = search rules

join_halves_requires : tie.Need-join_halves-requires
join_halves_requires c κs = search rules

from_pattern_requires : tie.Need-from_pattern-requires
from_pattern_requires c κs = search rules

returns : tie.Need-returns
unfolding float_at
returns c =
    let at_halves = c.before in
    let at_high = at_halves.before in
    let at_low = at_high.before in
    c.from_pattern.ensures ∙ ap (of_bits binary64) (at_halves.join_halves.ensures ∙ both_halves at_low.bits_at.ensures at_high.bits_at-2.ensures)

pub float_at_spec : {M : Type 1} → statement M
float_at_spec =
    tie.close
    (tie.spec
    bits_at_requires
    add_bits_at
    bits_at_requires_2
    join_halves_requires
    from_pattern_requires
    returns)
