-- One turn: the line of a list, the fault of one, the end. Assumes nothing.
use mathlib.Core.Path.{◌≡◌, refl, sym, ap, ◌∙◌}
use mathlib.Core.Bool.{true, false}
use mathlib.Core.List.{List, [], ◌∷◌}
use Prim.Native.Nat.{ℕ, zero, suc, ◌≤◌}
use native.Mathlib.Omega.{arith}
use lib.ListN.{length, take, drop, length-drop}
use lib.IntN.{ℤ}
use borrow.Author.Tests.{eq-eqb, ne_eqb}
use Rattle.format.specs.declared.Family.{Family}
use Rattle.matching.specs.Answer.{given, match_answer}
use Rattle.lines.specs.Line.{line}
use Rattle.lines.specs.Contract.{Wrote}
use Rattle.stream.specs.Input.{list_here}
use Rattle.stream.specs.Contract.{Listed, faulty, read}
use Rattle.stream.proofs.Rests.{list_rest}
use Rattle.intake_lines.specs.Output.{empty_room, answered, list_line, turned, turn}
use Rattle.intake_lines.specs.Contract.{Turned, stopped, went}

-- ---- the line of a list

as_wrote : (l l' before after : List ℕ) (n : ℕ) → l' ≡ l → Wrote l before after n → Wrote l' before after n
as_wrote l l' before after n e w = rw e w

module _ (t : List ℕ) (k : ℕ) (xs : List ℤ) (room : List ℕ) where
  line_matched : (a : ℕ) → given a room ≡ match_answer Family.Integers t xs empty_room → a ≡ 0 → list_line t k xs ≡ line k (0 ∷ length xs ∷ take (length xs) room)
  unfolding list_line answered
  line_matched zero learnt z = ap (answered k (length xs)) (sym learnt)
  line_matched (suc a) learnt z = absurd (omega arith)

  line_other : (a : ℕ) → given a room ≡ match_answer Family.Integers t xs empty_room → (a ≡ 0 → ⊥) → list_line t k xs ≡ line k (a ∷ length xs ∷ [])
  unfolding list_line answered
  line_other zero learnt bad = absurd (bad refl)
  line_other (suc a) learnt bad = ap (answered k (length xs)) (sym learnt)

  pub wrote_matched : (a : ℕ) → given a room ≡ match_answer Family.Integers t xs empty_room → a ≡ 0 → (before after : List ℕ) (n : ℕ)
      → Wrote (line k (0 ∷ length xs ∷ take (length xs) room)) before after n → Wrote (list_line t k xs) before after n
  wrote_matched a learnt z before after n w = as_wrote _ _ before after n (line_matched a learnt z) w

  pub wrote_other : (a : ℕ) → given a room ≡ match_answer Family.Integers t xs empty_room → (a ≡ 0 → ⊥) → (before after : List ℕ) (n : ℕ)
      → Wrote (line k (a ∷ length xs ∷ [])) before after n → Wrote (list_line t k xs) before after n
  wrote_other a learnt bad before after n w = as_wrote _ _ before after n (line_other a learnt bad) w

-- ---- the turn

module _ (t : List ℕ) (k : ℕ) (input : List ℕ) (at : ℕ) where
  pub turn_ended : (o : List ℕ) → at ≡ length input → Turned (turn t k (drop at input)) input at o o 0 at false
  unfolding turn
  turn_ended o h = stopped [] (rw (eq-eqb (length (drop at input)) 0 (omega (arith, length-drop at input)))) (record { bytes = refl; count = refl }) refl refl

  module _ (inside : at ≤ length input) (more : at ≡ length input → ⊥) where
    opened : turn t k (drop at input) ≡ turned t k (list_here (drop at input))
    unfolding turn
    opened = rw (ne_eqb (length (drop at input)) 0 (λ z. more (omega (arith, length-drop at input))))

    pub turn_faulty : (code n next : ℕ) (xs : List ℤ) → Listed input (list_here (drop at input)) code n next xs → (code ≡ 0 → ⊥)
        → (before after : List ℕ) (wrote : ℕ) → Wrote (line k (code ∷ 0 ∷ [])) before after wrote → Turned (turn t k (drop at input)) input at before after wrote at false
    unfolding turned
    turn_faulty code n next xs (faulty q p m u b) bad before after wrote w = stopped _ (opened ∙ ap (turned t k) q) w refl refl
    turn_faulty code n next xs (read q z f i l b) bad before after wrote w = absurd (bad z)

    pub turn_went : (code n next : ℕ) (xs : List ℤ) → Listed input (list_here (drop at input)) code n next xs → code ≡ 0
        → (before after : List ℕ) (wrote : ℕ) → Wrote (list_line t k (take n xs)) before after wrote → Turned (turn t k (drop at input)) input at before after wrote next true
    unfolding turned
    turn_went code n next xs (faulty q p m u b) none before after wrote w = absurd (omega arith)
    turn_went code n next xs (read q z f i l b) none before after wrote w =
        let rest = list_rest (drop at input) (take n xs) (drop next input) q in
        let l = length-drop at input in
        let l' = length-drop next input in
        went _ (opened ∙ ap (turned t k) q) w (omega arith) i refl
