-- `rivals`: what three masks have in common.
use Rattle.std.proofs.Common.{Bool, ◌&&◌, ℕ, bit_and, get_or, ap, ◌∙◌}
use mathlib.Core.Path.{ap₂}
use Rattle.masks.specs.Masks.{bit}
use Rattle.facts.specs.Counting.{between}
use Rattle.masks.proofs.Masks.{bit_and_lem}
use Rattle.rows.proofs.Rows.{row_may}
use Rattle.refining.proofs.rivals.Goals as goal

pub returns : goal.returns
returns c m =
    let row = get_or c.args.rows.now c.args.e 0 in
    bit_and_lem (bit_and row c.args.left) c.below-bound.result m
    ∙ ap₂ (λ (s t : Bool). s && t) (bit_and_lem row c.args.left m ∙ ap (λ (t : Bool). t && bit c.args.left m) (row_may c.args.rows.now m c.args.e))
    (c.below-bound.ensures m ∙ ap (λ (n : ℕ). between 0 n m) c.lesser_byte.ensures)
