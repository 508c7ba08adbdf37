-- The numbers of a mask gone through one by one: each is turned off when its turn comes. Assumes nothing.
-- flipped_down: who is left was there. flipped_out: whose turn it was is not left. left_falls: fewer are left.
use mathlib.Core.Path.{◌≡◌, sym, ap, ◌∙◌}
use mathlib.Core.Bool.{Bool, true, false, not}
use mathlib.Core.Logic.{⊎_elim}
use Prim.Native.Nat.{ℕ, ◌<◌}
use Rattle.facts.specs.Counting.{count}
use Rattle.facts.proofs.Cases.{same?, clash, not_so}
use Rattle.facts.proofs.Counting.{count_less}
use Rattle.masks.specs.Masks.{Flipped}

pub flipped_down : {G K : ℕ → Bool} {e : ℕ} → Flipped G e K → G e ≡ true → (j : ℕ) → K j ≡ true → G j ≡ true
flipped_down {G} {K} {e} f here j t = ⊎_elim (λ (q : j ≡ e). rw q here) (λ (n : j ≡ e → ⊥). sym (f.other j n) ∙ t) (same? j e)

pub flipped_out : {G K : ℕ → Bool} {e : ℕ} → Flipped G e K → G e ≡ true → K e ≡ false
flipped_out f here = f.self ∙ ap not here

pub left_falls : {G K L : ℕ → Bool} (e : ℕ) → Flipped G e K → G e ≡ true → e < 32 → ((j : ℕ) → L j ≡ true → K j ≡ true) → count L 32 < count G 32
left_falls {G} {K} {L} e f here low down = count_less {P = L} {S = G}
    (λ j t. flipped_down f here j (down j t))
    e (not_so (L e) (λ q. clash (down e q) (flipped_out f here))) here 32 low
