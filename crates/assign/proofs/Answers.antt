-- An answer of `first_assignment`: one is found where there is one, and the promise allows one answer. answer_at: what an Option with a list in it says. Assumes nothing.
use mathlib.Core.Path.{◌≡◌, sym, ◌∙◌, subst}
use mathlib.Core.Logic.{◌⊎◌, ⊎_elim}
use mathlib.Core.Bool.{Bool, true, false}
use mathlib.Core.List.{List}
use Prim.Native.Nat.{ℕ, ◌-◌}
use lib.Seq.{slice}
use Rattle.std.specs.declared.option.Option.{Option}
use Rattle.std.specs.declared.option.Option.TheVariants.{Some}
use Rattle.std.specs.Option.{is_some}
use Rattle.blocks.specs.Assignment.{Assigns}
use Rattle.blocks.specs.Pieces.{bytes_of}
use Rattle.assign.specs.Answer.{Answer}
use Rattle.facts.proofs.Cases.{holds?, clash, not_so}
use Rattle.facts.proofs.Slices.{same_around}
use Rattle.byte_order.proofs.ByteOrder.{first_unique}

pub answer_complete : {may : ℕ → ℕ → Bool} {first k from to : ℕ} {found : Bool} {w : List ℕ} → Answer may first k from to found w → (a : List ℕ) → Assigns may first k from to a → found ≡ true
answer_complete {may} {first} {k} {from} {to} {found} {w} h a g = ⊎_elim (λ f. f) (λ f. absurd (h.none f a g)) (holds? found)

-- two answers of which one was found
both_found : {may : ℕ → ℕ → Bool} {first k from to : ℕ} {found found' : Bool} {w w' : List ℕ}
    → Answer may first k from to found w → Answer may first k from to found' w' → found ≡ true → found' ≡ true
both_found {may} {first} {k} {from} {to} {found} {found'} {w} {w'} p q f = answer_complete q (slice from to w) (p.best f).holds

pub answer_unique : {may : ℕ → ℕ → Bool} {first k from to : ℕ} {found found' : Bool} {w w' : List ℕ}
    → Answer may first k from to found w → Answer may first k from to found' w' → (found ≡ found') × (w ≡ w')
answer_unique {may} {first} {k} {from} {to} {found} {found'} {w} {w'} p q = ⊎_elim
    (λ (f : found ≡ true).
    let f' = both_found p q f in
    (f ∙ sym f', same_around from to w w' p.size q.size (first_unique (p.best f) (q.best f')) (λ i l b. p.outside i l b ∙ sym (q.outside i l b))))
    (λ (f : found ≡ false).
    let f' = not_so found' (λ t. clash (both_found q p t) f) in
    (f ∙ sym f', p.blank f ∙ sym (q.blank f')))
    (holds? found)

pub answer_at : {may : ℕ → ℕ → Bool} {first k from to : ℕ} {r : Option (List ℕ)} {w : List ℕ} → Answer may first k from to (is_some r) (bytes_of r) → r ≡ Some w → Answer may first k from to true w
answer_at {may} {first} {k} {from} {to} {r} {w} h q = subst (λ (x : Option (List ℕ)). Answer may first k from to (is_some x) (bytes_of x)) q h
