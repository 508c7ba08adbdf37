-- `none_spare`: no byte is 255 just where none is counted.
use Rattle.std.proofs.Common.{◌≡◌, not, List, [], ◌∷◌, ℕ, ◌+◌, eqb, refl, sym, ap, ◌∙◌, zero-add, arith}
use Rattle.std.specs.List.{list_any}
use borrow.Author.Tests.{ne_eqb}
use Rattle.facts.specs.Counting.{cnt}
use Rattle.facts.proofs.Cases.{by-test}
use Rattle.judging.proofs.none_spare.Goals as goal

none_counted : (v : ℕ) (w : List ℕ) → not (list_any (λ x. eqb x v) w) ≡ eqb (cnt v w) 0
unfolding cnt
none_counted v [] = refl
none_counted v (x ∷ xs) = by-test (eqb x v)
    (λ h. rw h (sym (ne_eqb (1 + cnt v xs) 0 (λ z. omega arith))))
    (λ h. rw (h, zero-add (cnt v xs)) (none_counted v xs))

pub returns : goal.returns
returns c = ap not c.contains.ensures.value ∙ none_counted 255 c.args.w.now
