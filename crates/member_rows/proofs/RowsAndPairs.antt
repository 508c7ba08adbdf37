-- The rows of a list say of each pair of a member and an element whether it matches. Assumes nothing.
use mathlib.Core.Path.{◌≡◌, sym, ◌∙◌}
use mathlib.Core.Logic.{⊎_elim}
use mathlib.Core.List.{List}
use Prim.Native.Nat.{ℕ, ◌≤◌, ◌<◌}
use lib.ListN.{length, get_or}
use Rattle.rows.specs.Rows.{may}
use Rattle.grammar.specs.Element.{Elem}
use Rattle.format.specs.declared.Family.{Family}
use Rattle.grammar.specs.Family.{LeafOf, ElementOf, no_element, matches_of}
use Rattle.facts.proofs.Cases.{below}
use Rattle.grammar.proofs.Members.{hits_none}
use Rattle.member_rows.specs.Contract.{pair_of, RowsOf}

pub same_pairs : {fam : Family} {es : List (Elem (LeafOf fam))} {xs : List (ElementOf fam)} {rows : List ℕ} → RowsOf fam es xs rows → (m e : ℕ) → e < length xs → may rows m e ≡ pair_of fam es xs m e
same_pairs {fam} {es} {xs} r m e l = ⊎_elim
    (λ (i : m < length es). r.right m e i l)
    (λ (i : length es ≤ m). r.no_member m e i ∙ sym (hits_none (matches_of fam) es m (get_or xs e (no_element fam)) i))
    (below m (length es))
