-- A list written over the front of zeros. Assumes nothing.
use Rattle.std.proofs.Common.{◌≡◌, List, ℕ, zero, suc, ◌+◌, ◌-◌, ◌≤◌, ◌<◌, ◌++◌, length, get_or, drop, refl, sym, ◌∙◌, arith, ℤ, pos}
use Rattle.std.proofs.Math.ListN.{replicate, get_or-eq_default, get_or-append}
use Rattle.std.proofs.Math.Seq.{get_or-append_right}
use Rattle.std.proofs.lemmas.List.{length-append, length-drop, length-replicate, get_or-drop}
use Rattle.std.proofs.Math.Logic.{⊎_elim}
use Rattle.facts.proofs.Cases.{below}
use Rattle.member_rows.specs.Places.{Widened}

zeros : (k e : ℕ) → get_or (replicate k (pos 0)) e (pos 0) ≡ pos 0
zeros zero e = refl
zeros (suc k) zero = refl
zeros (suc k) (suc e) = zeros k e

module _ (k : ℕ) (xs : List ℤ) where
  front_size : length xs ≤ k → length (xs ++ drop (length xs) (replicate k (pos 0))) ≡ k
  front_size few = simp (length-append, length-drop, length-replicate) (omega arith)

  front_same : (e : ℕ) → get_or (xs ++ drop (length xs) (replicate k (pos 0))) e (pos 0) ≡ get_or xs e (pos 0)
  front_same e =
      ⊎_elim
      (λ (l : e < length xs). get_or-append xs _ (pos 0) e l)
      (λ (l : length xs ≤ e). get_or-append_right xs _ e (pos 0) l ∙ get_or-drop (length xs) (replicate k (pos 0)) (e - length xs) (pos 0) ∙ zeros k (length xs + (e - length xs)) ∙ sym (get_or-eq_default xs (pos 0) l))
      (below e (length xs))

pub widened_front : (xs front : List ℤ) → length xs ≤ 32 → front ≡ xs → Widened xs (front ++ drop (length xs) (replicate 32 (pos 0)))
widened_front xs front few z = rw z (record { size = front_size 32 xs few; same = front_same 32 xs })
