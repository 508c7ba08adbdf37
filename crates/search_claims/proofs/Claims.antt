-- The claims of specs/Claims.antt, proved: each cites laws of the crates below. Assumes nothing.
use mathlib.Core.Path.{◌≡◌, refl, sym, ap, ◌∙◌, subst, fun_ext}
use mathlib.Core.Logic.{inl, inr, ⊎_elim}
use mathlib.Core.Bool.{Bool, true}
use mathlib.Core.List.{List}
use Prim.Native.Nat.{ℕ, ◌≤◌, ◌+◌}
use native.Mathlib.Omega.{arith}
use native.Mathlib.Nat.{zero-add}
use lib.ListN.{length, take, length-take, get_or}
use lib.Seq.{slice}
use Rattle.facts.proofs.Cases.{not_so}
use Rattle.rows.specs.Rows.{may, picks}
use Rattle.blocks.specs.Pieces.{Cuts, Fills, Passing, Cutting, Filling}
use Rattle.blocks.proofs.Assignments.{assigns_test, test_assigns, short_never}
use Rattle.blocks.proofs.FirstLists.{best_found, best_unique, passing_holds, passing_unique, best_same}
use Rattle.assign.proofs.Answers.{answer_complete, answer_unique}
use Rattle.grammar.specs.Element.{Elem}
use Rattle.format.specs.declared.Family.{Family}
use Rattle.grammar.specs.Family.{LeafOf, ElementOf}
use Rattle.member_rows.proofs.Agreeing.{Says, rows_say, says_same}
use Rattle.judging.specs.Reach.{any_pair}
use Rattle.member_rows.specs.Contract.{pair_of}
use Rattle.member_rows.proofs.RowsAndPairs.{same_pairs}
use Rattle.search_claims.specs.Claims.{Sound, Complete, Least, Unique, Explained, Tested, UniqueCut, UniqueFilling, CutPasses, CutFound, FillingPasses, FillingFound, NothingChanges, ColumnsOf, SameOfEveryPair, PairsOrRows, PairsApart}
use Rattle.search_claims.proofs.OtherPairs.{cuts_by, cuts_agree, cuts_right}

-- ---- assignments
pub sound : Sound
sound may first k from to found w h f = (h.best f).holds

pub complete : Complete
complete may first k from to found w h a g = answer_complete h a g

pub least : Least
least may first k from to found w h a g = (h.best (answer_complete h a g)).least a g

pub unique : Unique
unique may first k from to found found' w w' piece end p q = answer_unique p q

pub explained : Explained
explained may first k from to found w block piece end h = (
  h.short,
  λ s. not_so found (λ f. short_never s block piece end (slice from to w) (h.best f).holds),
)

pub tested : Tested
tested may first k from to a n = (assigns_test, test_assigns n)

-- ---- cuts and fillings
-- the first n bytes of 32
bytes : (n : ℕ) (w v : List ℕ) → n ≤ 32 → length w ≡ 32 → v ≡ take n w → length v ≡ n
bytes n w v h l q = let x = length-take n w in ap (λ (y : List ℕ). length y) q ∙ omega arith

pub unique_cut_lem : UniqueCut
unique_cut_lem may bs n found found' w w' b c = best_unique b c

pub unique_filling : UniqueFilling
unique_filling may k n found found' w w' b c = best_unique b c

pub cut_passes : CutPasses
cut_passes may bs n found r w v h b f q p =
    let c : Cuts may bs 0 n v = subst (λ (x : List ℕ). Cuts may bs 0 n x) (sym q) (b.best f).holds in
    passing_holds p (subst (λ (m : ℕ). Cuts may bs 0 m v) (sym (bytes n w v h b.size q)) c)

pub cut_found : CutFound
cut_found may bs n found w v b l p = best_found v b (subst (λ (m : ℕ). Cuts may bs 0 m v) l (p.passed refl))

pub filling_passes : FillingPasses
filling_passes may k n found r w v h b f q p =
    let c : Fills may k n v = subst (λ (x : List ℕ). Fills may k n x) (sym q) (b.best f).holds in
    passing_holds p (subst (λ (m : ℕ). Fills may k m v) (sym (bytes n w v h b.size q)) c)

pub filling_found : FillingFound
filling_found may k n found w v b l p = best_found v b (subst (λ (m : ℕ). Fills may k m v) l (p.passed refl))

-- two relations that say the same of every pair are one
pub nothing_changes : NothingChanges
nothing_changes rows cols same bs k n found found' passed passed' w w' =
    let one : picks cols ≡ may rows = fun_ext (λ m. fun_ext (λ e. same m e)) in (
      λ p q. unique_cut_lem (may rows) bs n found found' w w' (subst (λ (r : ℕ → ℕ → Bool). Cutting r bs n found w) one p) q,
      λ p q. unique_filling (may rows) k n found found' w w' (subst (λ (r : ℕ → ℕ → Bool). Filling r k n found w) one p) q,
      λ p q. passing_unique (subst (λ (r : ℕ → ℕ → Bool). Passing (Cuts r bs 0 n w) passed) one p) q,
      λ p q. passing_unique (subst (λ (r : ℕ → ℕ → Bool). Passing (Fills r k n w) passed) one p) q,
    )

pub pairs_or_rows : PairsOrRows
pairs_or_rows fam es xs rows r bs found found' w w' b c =
    let there = cuts_agree (pair_of fam es xs) (may rows) (length xs) bs (λ m e l. sym (same_pairs r m e l)) in
    let back = cuts_agree (may rows) (pair_of fam es xs) (length xs) bs (same_pairs r) in
    best_unique (best_same there back b) c

pub pairs_apart : PairsApart
pairs_apart may bs w any passed p q = (
  λ h. let c = q.passed h in (
    passing_holds p (cuts_by may any_pair bs 0 (length w) w (λ i l _ _. refl) c),
    λ e l. ⊎_elim
        (λ (z : get_or w e 0 ≡ 255). inl z)
        (λ (z : may (get_or w e 0) (0 + e) ≡ true). inr (subst (λ (x : ℕ). may (get_or w e 0) x ≡ true) (zero-add e) z))
        (cuts_right may bs 0 (length w) w c e l),
  ),
  λ h right. passing_holds q (cuts_by any_pair may bs 0 (length w) w
      (λ i l n _. ⊎_elim
      (λ (z : get_or w i 0 ≡ 255). absurd (n z))
      (λ (z : may (get_or w i 0) i ≡ true). subst (λ (x : ℕ). may (get_or w i 0) x ≡ true) (sym (zero-add i)) z)
      (right i l))
      (p.passed h)),
)

-- ---- rows
columns_say : {fam : Family} {es : List (Elem (LeafOf fam))} {xs : List (ElementOf fam)} {cols : List ℕ} → ColumnsOf fam es xs cols → Says fam es xs (picks cols)
columns_say p = record { right = p.right; no_member = p.no_member; no_element = p.no_element }

pub same_of_every_pair : SameOfEveryPair
same_of_every_pair fam es xs rows cols r c = says_same (columns_say c) (rows_say r)
