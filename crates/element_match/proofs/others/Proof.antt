-- `element_match::others` meets its contract. Assumes nothing.
use mathlib.Core.Path.{ap, ◌∙◌}
use mathlib.Core.Bool.{Bool}
use Rattle.masks.specs.Masks.{bit}
use Rattle.masks.proofs.Masks.{bit_xor_lem, odd}
use Rattle.element_match.proofs.Asked.{other_bits}
use Rattle.element_match.proofs.others.Statement.{statement}
use Rattle.element_match.proofs.others.Tie as tie

returns : tie.Need-returns
returns c =
    let asked = c.args.asked in
    let those = c.args.those in
    λ test h. record { told = λ j. bit_xor_lem asked those j ∙ ap (λ (v : Bool). odd v (bit asked j)) (h.told j) ∙ other_bits (bit asked j) (test j) }

pub others_spec : {M : Type 1} → statement M
others_spec = tie.close (tie.spec returns)
