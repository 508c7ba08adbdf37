-- Which member matches which element, however it is held: any two holdings say the same. Assumes nothing.
use mathlib.Core.Path.{◌≡◌, sym, ◌∙◌}
use mathlib.Core.Logic.{⊎_elim}
use mathlib.Core.Bool.{Bool, false}
use mathlib.Core.List.{List}
use Prim.Native.Nat.{ℕ, ◌≤◌, ◌<◌}
use lib.ListN.{length, get_or}
use lib.Seq.{ext_get_or}
use Rattle.facts.proofs.Cases.{below}
use Rattle.grammar.specs.Element.{Elem}
use Rattle.format.specs.declared.Family.{Family}
use Rattle.grammar.specs.Family.{LeafOf, ElementOf, no_element, matches_of}
use Rattle.rows.specs.Rows.{may}
use Rattle.masks.proofs.Masks.{bits_same}
use Rattle.rows.proofs.Rows.{row_may}
use Rattle.grammar.specs.Members.{member_hits}
use Rattle.member_rows.specs.Contract.{RowsOf}

-- which member matches which element, however it is held
pub record Says (fam : Family) (es : List (Elem (LeafOf fam))) (xs : List (ElementOf fam)) (ok : ℕ → ℕ → Bool) : Type 0 where
  pub right : (m e : ℕ) → m < length es → e < length xs → ok m e ≡ member_hits (matches_of fam) es m (get_or xs e (no_element fam))
  pub no_member : (m e : ℕ) → length es ≤ m → ok m e ≡ false
  pub no_element : (m e : ℕ) → length xs ≤ e → ok m e ≡ false

pub rows_say : {fam : Family} {es : List (Elem (LeafOf fam))} {xs : List (ElementOf fam)} {rows : List ℕ} → RowsOf fam es xs rows → Says fam es xs (may rows)
rows_say p = record { right = p.right; no_member = p.no_member; no_element = p.no_element }

pub says_same : {fam : Family} {es : List (Elem (LeafOf fam))} {xs : List (ElementOf fam)} {ok ok' : ℕ → ℕ → Bool} → Says fam es xs ok → Says fam es xs ok' → (m e : ℕ) → ok m e ≡ ok' m e
says_same {fam} {es} {xs} p q m e =
    ⊎_elim
    (λ (i : m < length es). ⊎_elim
    (λ (j : e < length xs). p.right m e i j ∙ sym (q.right m e i j))
    (λ (j : length xs ≤ e). p.no_element m e j ∙ sym (q.no_element m e j))
    (below e (length xs)))
    (λ (i : length es ≤ m). p.no_member m e i ∙ sym (q.no_member m e i))
    (below m (length es))

-- the rows depend on the members only, not on the places where equal ones are found
pub rows_same : (fam : Family) (es : List (Elem (LeafOf fam))) (xs : List (ElementOf fam)) (rows rows' : List ℕ) → RowsOf fam es xs rows → RowsOf fam es xs rows' → rows ≡ rows'
rows_same fam es xs rows rows' p q = ext_get_or 0 rows rows' (p.size ∙ sym q.size)
    (λ e l. bits_same (get_or rows e 0) (get_or rows' e 0) (λ m. row_may rows m e ∙ says_same (rows_say p) (rows_say q) m e ∙ sym (row_may rows' m e)))
