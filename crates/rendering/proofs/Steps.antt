-- The lines of all lists, one turn at a time. A turn that is not the last leaves fewer bytes, so the number of turns allowed does not matter.
-- Assumes nothing.
use mathlib.Core.Path.{◌≡◌, refl, sym, ap, ◌∙◌}
use mathlib.Core.Bool.{true, false}
use mathlib.Core.List.{List, [], ◌++◌}
use Prim.Native.Nat.{ℕ, zero, suc, ◌+◌, ◌≤◌, ◌<◌}
use native.Mathlib.Omega.{arith}
use lib.Dec.{eqb}
use lib.ListN.{length}
use lib.IntN.{ℤ}
use borrow.Author.Tests.{eq-eqb}
use Rattle.facts.proofs.Cases.{by-test}
use Rattle.grammar.specs.Read.{Read, refuse, got}
use Rattle.stream.specs.Input.{list_here}
use Rattle.stream.proofs.Rests.{list_rest}
use Rattle.intake_lines.specs.Output.{Turn, stop, go, list_line, turned, turn, follow, lines_by, lines_from}

-- ---- a turn that is not the last

-- it prints the line of the list that was read
pub record Went (t : List ℕ) (k : ℕ) (s l s' : List ℕ) : Type 0 where
  pub xs : List ℤ
  pub list : list_here s ≡ got xs s'
  pub prints : l ≡ list_line t k xs

turned_went : (t : List ℕ) (k : ℕ) (s : List ℕ) (o : Read (List ℤ)) → list_here s ≡ o → (l s' : List ℕ) → turned t k o ≡ go l s' → Went t k s l s'
unfolding turned
turned_went t k s (refuse r) h l s' e = let z : ◌≡◌ {A = ℕ} 0 1 = cc in absurd (omega arith)
turned_went t k s (got xs s'') h l s' e = let q : s'' ≡ s' = cc in record { xs = xs; list = h ∙ ap (λ (b : List ℕ). got xs b) q; prints = cc }

pub turn_went : (t : List ℕ) (k : ℕ) (s l s' : List ℕ) → turn t k s ≡ go l s' → Went t k s l s'
unfolding turn
turn_went t k s l s' e =
    by-test (eqb (length s) 0)
    (λ (a : eqb (length s) 0 ≡ true). let q : stop [] ≡ go l s' = rw a at e in let z : ◌≡◌ {A = ℕ} 0 1 = cc in absurd (omega arith))
    (λ (a : eqb (length s) 0 ≡ false). turned_went t k s (list_here s) refl l s' (rw a at e))

turn_rest : (t : List ℕ) (k : ℕ) (s l s' : List ℕ) → turn t k s ≡ go l s' → length s' < length s
turn_rest t k s l s' e = let w = turn_went t k s l s' e in let r = list_rest s w.xs s' w.list in omega arith

-- ---- the turns allowed

turn_none : (t : List ℕ) (k : ℕ) (s : List ℕ) → length s ≡ 0 → turn t k s ≡ stop []
unfolding turn
turn_none t k s h = rw (eq-eqb (length s) 0 h)

lines_none : (f : ℕ) (t : List ℕ) (k : ℕ) (s : List ℕ) → length s ≡ 0 → lines_by f t k s ≡ []
unfolding lines_by follow
lines_none zero t k s h = refl
lines_none (suc f) t k s h = ap (λ (u : Turn). follow u (lines_by f t (k + 1))) (turn_none t k s h)

follow_same : (u : Turn) (f g : List ℕ → List ℕ) → ((l s : List ℕ) → u ≡ go l s → f s ≡ g s) → follow u f ≡ follow u g
unfolding follow
follow_same (stop l) f g h = refl
follow_same (go l s) f g h = ap (λ (r : List ℕ). l ++ r) (h l s refl)

lines_same : (f g : ℕ) (t : List ℕ) (k : ℕ) (s : List ℕ) → length s ≤ f → length s ≤ g → lines_by f t k s ≡ lines_by g t k s
unfolding lines_by
lines_same zero g t k s p q = sym (lines_none g t k s (omega arith))
lines_same (suc f) zero t k s p q = lines_none (suc f) t k s (omega arith)
lines_same (suc f) (suc g) t k s p q =
    follow_same (turn t k s) (lines_by f t (k + 1)) (lines_by g t (k + 1)) (λ (l s' : List ℕ) (e : turn t k s ≡ go l s').
    let h = turn_rest t k s l s' e in
    lines_same f g t (k + 1) s' (omega arith) (omega arith))

one_turn : (t : List ℕ) (k : ℕ) (s : List ℕ) → lines_from t k s ≡ follow (turn t k s) (lines_by (length s) t (k + 1))
unfolding lines_from lines_by
one_turn t k s = lines_same (length s) (suc (length s)) t k s (omega arith) (omega arith)

-- ---- the lines from a list on

-- where a turn is the last one, its bytes are all
pub lines_last : (t : List ℕ) (k : ℕ) (s l : List ℕ) → turn t k s ≡ stop l → lines_from t k s ≡ l
unfolding follow
lines_last t k s l e = one_turn t k s ∙ ap (λ (u : Turn). follow u (lines_by (length s) t (k + 1))) e

-- else its bytes stand before the lines of the lists that are left
pub lines_more : (t : List ℕ) (k : ℕ) (s l s' : List ℕ) → turn t k s ≡ go l s' → lines_from t k s ≡ l ++ lines_from t (k + 1) s'
unfolding follow lines_from
lines_more t k s l s' e =
    let h = turn_rest t k s l s' e in
    one_turn t k s
    ∙ ap (λ (u : Turn). follow u (lines_by (length s) t (k + 1))) e
    ∙ ap (λ (r : List ℕ). l ++ r) (lines_same (length s) (length s') t (k + 1) s' (omega arith) (omega arith))
