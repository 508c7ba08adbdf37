-- The claims of the sheets, proved: over calls by the demands, and by the reading under either sheet. Assumes nothing.
use mathlib.Core.Path.{◌≡◌, refl, sym, ap, ◌∙◌, subst}
use mathlib.Core.Bool.{true, false}
use mathlib.Core.List.{List, [], ◌∷◌}
use Prim.Native.Nat.{ℕ, zero, suc, ◌≤◌, ◌<◌}
use native.Mathlib.Omega.{arith}
use native.Mathlib.Nat.{zero-add}
use borrow.Author.Tests.{le-ltb}
use lib.Dec.{ltb}
use lib.ListN.{length, get_or}
use Rattle.format.specs.declared.Family.{Family}
use Rattle.grammar.specs.Element.{Elem}
use Rattle.grammar.specs.Family.{LeafOf, ElementOf, no_element, matches_of}
use Rattle.grammar.specs.Members.{member_hits}
use Rattle.grammar.specs.Record.{kind_of}
use Rattle.grammar.specs.Read.{Read}
use Rattle.grammar.specs.Template.{Body, subset, Sheet, sheet1, sheet2, Heads, Template, template, members_of}
use Rattle.grammar.specs.Whole.{read_template}
use Rattle.grammar.proofs.Members.{hits_low}
use Rattle.grammar.proofs.MemberLimit.{accepted_few}
use Rattle.member_rows.specs.Contract.{pair_of}
use Rattle.matching.specs.Search.{Maybe}
use Rattle.matching.specs.Answer.{Given, given, or_refused, written, element_outside, match_read, match_answer, Taken}
use Rattle.matching.proofs.RulesByBlocks.{Agree, agree_from, Under, ByBlocks, obeys_says, obeys_test}
use Rattle.demands.specs.Claims.{Accepts, Inside}
use Rattle.demands.proofs.Calls.{match_answer_lem}
use Rattle.demands.proofs.Claims.{first, second}
use Rattle.sheet_claims.specs.Claims.{OldSheet, OldWitness, AsWithout, is_subset, SubsetOnly, SubsetOf, Plainly, OnceEach, PlainlyMatched}
use Rattle.sheet_claims.proofs.Reading.{old, template_second, read_old, obeys_old, witness_old}

-- ---- from one sheet to the other

-- the types are the same under both sheets
inside_old : (f : Family) (h : Heads) (b : Body (LeafOf f)) (xs : List (ElementOf f)) → Inside f (template h b) xs → Inside f (template (old h) b) xs
unfolding element_outside old
inside_old f h b xs i = i

pub old_sheet : OldSheet
old_sheet f u xs room after after' r c c' =
    let a = (first.matcher f (0x32 ∷ 2 ∷ u) xs room 0 after c).rows.answered.0 (omega arith) in
    again a.0 a.1 a.2.0 a.2.1 a.2.2
  where
    again : Taken (0x32 ∷ 2 ∷ u) xs → length xs ≤ length room → (s : Template (LeafOf f)) → Accepts f (0x32 ∷ 2 ∷ u) s → Inside f s xs → r ≡ 0
    again taken fits (template h b) q i =
        let m = (second.matcher f (0x32 ∷ 2 ∷ u) xs (template h b) room 0 after c taken fits q i).matched.0 refl in
        (second.matcher f (0x32 ∷ 1 ∷ u) xs (template (old h) b) room r after' c' taken fits (read_old f u h b q) (inside_old f h b xs i)).matched.1 (m.0, obeys_old f h xs b m.0 m.1)

pub old_witness : OldWitness
old_witness f u xs w r c c' =
    let a = (first.judge f (0x32 ∷ 2 ∷ u) xs w 0 c).rows.answered.0 (omega arith) in
    again a.0 a.1 a.2.0 a.2.1 a.2.2
  where
    again : Taken (0x32 ∷ 2 ∷ u) xs → length w ≡ length xs → (s : Template (LeafOf f)) → Accepts f (0x32 ∷ 2 ∷ u) s → Inside f s xs → r ≡ 0
    again taken fits (template h b) q i =
        let o = (second.judge f (0x32 ∷ 2 ∷ u) xs (template h b) w 0 c taken fits q i).passed.0 refl in
        (second.judge f (0x32 ∷ 1 ∷ u) xs (template (old h) b) w r c' taken fits (read_old f u h b q) (inside_old f h b xs i)).passed.1 (obeys_old f h xs b w o)

same_given : (g g' : Given) (r r' : ℕ) (a a' : List ℕ) → g ≡ given r a → g' ≡ given r' a' → g ≡ g' → (r ≡ r') × (a ≡ a')
same_given g g' r r' a a' p q e = let z : given r a ≡ given r' a' = sym p ∙ e ∙ q in (cc, cc)

second_answer : (f : Family) (u : List ℕ) (xs : List (ElementOf f)) (room : List ℕ) → length u ≤ 4094 → (kind_of u ≡ 0x32 → ⊥) → match_answer f u xs room ≡ match_answer f (0x32 ∷ 2 ∷ u) xs room
unfolding match_answer read_template
second_answer f u xs room short none = rw (le-ltb 4096 (length u) (omega arith), le-ltb 4096 (length (0x32 ∷ 2 ∷ u)) (omega arith), template_second f u none)

pub as_without : AsWithout
as_without f u xs room after after' r r' short none c c' =
    same_given _ _ r r' after after' (match_answer_lem f u xs room r after c) (match_answer_lem f (0x32 ∷ 2 ∷ u) xs room r' after' c') (second_answer f u xs room short none)

other_answer : (f : Family) (u : List ℕ) (h : Heads) (b : Body (LeafOf f)) (xs : List (ElementOf f)) (room : List ℕ) → Accepts f (0x32 ∷ 2 ∷ u) (template h b) → is_subset b ≡ false
    → match_answer f (0x32 ∷ 1 ∷ u) xs room ≡ match_answer f (0x32 ∷ 2 ∷ u) xs room
unfolding match_answer match_read element_outside old
other_answer f u h b xs room q other =
    ap (λ (o : Read (Template (LeafOf f))). rows (match_read f o xs room)) (read_old f u h b q)
    ∙ ap (λ (m : Maybe). rows (or_refused (element_outside f (template h b) xs) 17 room (written m room))) (witness_old f h xs b other)
    ∙ sym (ap (λ (o : Read (Template (LeafOf f))). rows (match_read f o xs room)) q)
  where
    -- the rows before the scan
    rows : Given → Given
    rows g = or_refused (ltb 4096 (length (0x32 ∷ 2 ∷ u))) 2 room (or_refused (ltb 32 (length xs)) 11 room (or_refused (ltb (length room) (length xs)) 12 room g))

pub subset_only : SubsetOnly
subset_only f u h b xs room after after' r r' q other c c' =
    same_given _ _ r r' after after' (match_answer_lem f (0x32 ∷ 1 ∷ u) xs room r after c) (match_answer_lem f (0x32 ∷ 2 ∷ u) xs room r' after' c') (other_answer f u h b xs room q other)

-- ---- each reading

module _ (f : Family) (h : Heads) (es : List (Elem (LeafOf f))) (xs : List (ElementOf f)) where
  agrees : Agree (matches_of f) es 0 xs (pair_of f es xs)
  agrees = agree_from (matches_of f) (no_element f) es (pair_of f es xs) 0 xs (λ m i l. rw (zero-add i) refl)

  under_sheet : (v : Sheet) → h.sheet ≡ v → SubsetOf f es h xs (Under v (pair_of f es xs) (length es) (length xs))
  unfolding ByBlocks members_of
  under_sheet v q few short w = (
    λ o. let s = obeys_says (matches_of f) h (subset es) (pair_of f es xs) xs agrees few short w o in (subst (λ (v : Sheet). Under v (pair_of f es xs) (length es) (length xs) w) q s.0, s.1),
    λ p. obeys_test (matches_of f) h (subset es) (pair_of f es xs) xs agrees few short w (subst (λ (v : Sheet). Under v (pair_of f es xs) (length es) (length xs) w) (sym q) p.0) p.1,
  )

pub plainly : Plainly
plainly f h es xs q = under_sheet f h es xs sheet1 q

pub once_each : OnceEach
once_each f h es xs q = under_sheet f h es xs sheet2 q

-- one number for each place, as a list
gathered : (P : ℕ → ℕ → Type 0) (n : ℕ) → ((e : ℕ) → e < n → (m : ℕ) × P e m) → (w : List ℕ) × (length w ≡ n) × ((e : ℕ) → e < n → P e (get_or w e 0))
gathered P zero g = ([], refl, λ e l. absurd (omega arith))
gathered P (suc n) g =
    let here = g 0 (omega arith) in
    let more = gathered (λ e m. P (suc e) m) n (λ e l. g (suc e) (omega arith)) in
    (here.0 ∷ more.0, ap suc more.1, at here.0 here.1 more.0 more.2)
  where
    at : (m : ℕ) → P 0 m → (w : List ℕ) → ((e : ℕ) → e < n → P (suc e) (get_or w e 0)) → (e : ℕ) → e < suc n → P e (get_or (m ∷ w) e 0)
    at m p w h zero l = p
    at m p w h (suc e) l = h e (omega arith)

pub plainly_matched : PlainlyMatched
unfolding members_of
plainly_matched f t h es xs room after r c taken fits q i v =
    let matched = (second.matcher f t xs (template h (subset es)) room r after c taken fits q i).matched in
    let few : length es ≤ 32 = accepted_few f t h (subset es) q in
    let reads = plainly f h es xs v few taken.1 in (
      λ z. let m = matched.0 z in let p = (reads m.0).0 m.1 in (p.1, λ e l. (get_or m.0 e 0, p.0.right e l)),
      λ p.
          let w = gathered (λ e m. member_hits (matches_of f) es m (get_or xs e (no_element f)) ≡ true) (length xs) p.1 in
          matched.1 (w.0, (reads w.0).1 (record { size = w.1; member = λ e l. hits_low (matches_of f) es (get_or w.0 e 0) (get_or xs e (no_element f)) (w.2 e l); right = w.2 }, p.0)),
    )
