-- What obeys a superset or a subset, and groups. Assumes nothing.
-- pairs_agree: `pairs` says of each member which elements it matches.
-- superset_assigns, assigns_superset: what obeys a superset are the assignments of the whole list by its members.
-- subset_chosen, chosen_subset: what obeys a subset under sheet 2 gives each element a member of its own.
-- superset_unmet, subset_unmet: where a group is short nothing obeys. superset_met, subset_met: where there are choices, something does.
-- asked_question: both, of whatever is asked. explained_asked: something is asked of a superset and a subset.
use mathlib.Core.Path.{◌≡◌, refl, sym, ap, ap₂, ◌∙◌, subst}
use mathlib.Core.Bool.{Bool, true, ◌&&◌, cond}
use mathlib.Core.Logic.{⊎_elim}
use mathlib.Core.List.{List, ◌++◌, append-nil}
use Prim.Native.Nat.{ℕ, ◌+◌, ◌≤◌, ◌<◌}
use native.Mathlib.Nat.{zero-add}
use native.Mathlib.Omega.{arith}
use lib.ListN.{length, get_or}
use borrow.Author.Tests.{lt-ltb}
use Rattle.facts.proofs.Cases.{by-test, same?, below, and_left}
use Rattle.blocks.specs.Assignment.{Assigns, all_right, all_once, assigns}
use Rattle.blocks.proofs.Assignments.{assigns_test, short_never}
use Rattle.facts.proofs.Counting.{cnt_two}
use Rattle.blocks.specs.Pieces.{Cuts, Fills}
use Rattle.grammar.specs.Element.{Elem}
use Rattle.format.specs.declared.Family.{Family}
use Rattle.grammar.specs.Family.{LeafOf, ElementOf, no_element, matches_of}
use Rattle.grammar.specs.Template.{Body, record_of, set_of, superset, subset, Sheet, sheet1, sheet2, is_plain, Heads, Template, template, members_of}
use Rattle.grammar.specs.Blocks.{blocks_of}
use Rattle.grammar.specs.Members.{member_hits}
use Rattle.matching.specs.Obeys.{length_met, obeys}
use Rattle.matching.specs.Search.{members_count}
use Rattle.matching.proofs.ItemsAsBlocks.{right_split, length_once}
use Rattle.matching.proofs.RulesByBlocks.{Agree, agree_from, Under, ByBlocks, whole_cut, obeys_says, obeys_test}
use Rattle.reasons.specs.Reason.{ShortGroup, Chosen}
use Rattle.reasons.proofs.Choices.{listed, listed_size, listed_at, listed_once, chosen_assigns, group_short, chosen_never}
use Rattle.why.specs.Why.{pairs, Asked, of_nothing, of_groups, asked_by, asked_of}
use Rattle.why.specs.Unmatched.{Explained, a_superset, a_subset}

pub pairs_agree : (fam : Family) (es : List (Elem (LeafOf fam))) (xs : List (ElementOf fam)) → Agree (matches_of fam) es 0 xs (pairs fam es xs)
unfolding pairs
pairs_agree fam es xs = agree_from (matches_of fam) (no_element fam) es (pairs fam es xs) 0 xs (λ m i l. rw (zero-add i) (ap (λ b. b && member_hits (matches_of fam) es m (get_or xs i (no_element fam))) (lt-ltb i (length xs) l)))

module _ {L : Type 0} (h : Heads) (es : List (Elem L)) (ok : ℕ → ℕ → Bool) (n : ℕ) (few : length es ≤ 32) (short : n ≤ 32) (w : List ℕ) where
  superset_assigns : ByBlocks h (superset es) ok n w → Assigns ok 0 (length es) 0 n w
  unfolding ByBlocks blocks_of Cuts
  superset_assigns c =
      let j = c.parts in
      let same : w ≡ j.left = j.whole ∙ ap (λ v. j.left ++ v) j.on_right.1 ∙ append-nil j.left in
      subst (λ (v : List ℕ). Assigns ok 0 (length es) 0 n v) (sym same) (subst (λ (m : ℕ). Assigns ok 0 (length es) 0 m j.left) j.on_right.0 j.on_left.assigned)

  assigns_superset : Assigns ok 0 (length es) 0 n w → ByBlocks h (superset es) ok n w
  unfolding ByBlocks blocks_of assigns
  assigns_superset a =
      let r = right_split ok 0 (length es) 0 w (and_left (all_right ok 0 (length es) 0 w) (all_once 0 (length es) w) (assigns_test a)) in
      let z = length_once 0 (length es) w (omega arith) r.0 a.once in
      let size = a.size in
      whole_cut ok 0 (length es) 0 255 n w (record { within = r.0; once = a.once; enough = omega arith; few = omega arith }) r.1 (omega arith)

  subset_chosen : Fills ok (length es) n w → Chosen (λ e m. ok m e) n (length es) (λ e. get_or w e 0)
  subset_chosen f = record {
    low = f.member;
    right = f.right;
    apart = λ i j a b q. ⊎_elim
        (λ (l : i < j). absurd (twice i j l b q))
        (λ (l : j ≤ i). ⊎_elim (λ (s : i ≡ j). s) (λ (s : i ≡ j → ⊥). absurd (twice j i (omega arith) a (sym q))) (same? i j))
        (below i j);
  }
    where
      twice : (i j : ℕ) → i < j → j < n → get_or w i 0 ≡ get_or w j 0 → ⊥
      twice i j l b q = let size = f.size in let two = cnt_two w i j l (omega arith) q in let one = f.once (get_or w j 0) (f.member j b) in omega arith

chosen_subset : {L : Type 0} (es : List (Elem L)) (ok : ℕ → ℕ → Bool) (n : ℕ) (f : ℕ → ℕ) → Chosen (λ e m. ok m e) n (length es) f → Fills ok (length es) n (listed f n)
chosen_subset es ok n f c = record {
  size = listed_size f n;
  member = λ e l. subst (λ (y : ℕ). y < length es) (sym (listed_at f n e l)) (c.low e l);
  right = λ e l. subst (λ (y : ℕ). ok y e ≡ true) (sym (listed_at f n e l)) (c.right e l);
  once = λ m l. listed_once f n m c.apart;
}

module _ (fam : Family) (h : Heads) (es : List (Elem (LeafOf fam))) (xs : List (ElementOf fam)) (few : length es ≤ 32) (short : length xs ≤ 32) where
  -- ---- a superset: its members on the elements
  superset_unmet : (G : ℕ → Bool) → ShortGroup (pairs fam es xs) (length es) (length xs) G → (w : List ℕ) → obeys fam (template h (superset es)) xs w ≡ true → ⊥
  unfolding members_of
  superset_unmet G s w o =
      let c = (obeys_says (matches_of fam) h (superset es) (pairs fam es xs) xs (pairs_agree fam es xs) few short w o).0 in
      short_never (group_short s) (omega arith) (omega arith) short w (superset_assigns h es (pairs fam es xs) (length xs) few short w c)

  superset_met : length_met h.length (length xs) ≡ true → (f : ℕ → ℕ) → Chosen (pairs fam es xs) (length es) (length xs) f → (w : List ℕ) × (obeys fam (template h (superset es)) xs w ≡ true)
  unfolding members_of
  superset_met m f c =
      let w = chosen_assigns (pairs fam es xs) (length es) (length xs) f few c in
      (w.0, obeys_test (matches_of fam) h (superset es) (pairs fam es xs) xs (pairs_agree fam es xs) few short w.0 (assigns_superset h es (pairs fam es xs) (length xs) few short w.0 w.1) m)

  -- ---- a subset: the elements on its members
  subset_unmet : h.sheet ≡ sheet2 → (G : ℕ → Bool) → ShortGroup (λ e m. pairs fam es xs m e) (length xs) (length es) G → (w : List ℕ) → obeys fam (template h (subset es)) xs w ≡ true → ⊥
  unfolding members_of ByBlocks
  subset_unmet second G s w o =
      let f = (obeys_says (matches_of fam) h (subset es) (pairs fam es xs) xs (pairs_agree fam es xs) few short w o).0 in
      chosen_never short few (subset_chosen h es (pairs fam es xs) (length xs) few short w (subst (λ (v : Sheet). Under v (pairs fam es xs) (length es) (length xs) w) second f)) s

  subset_met : h.sheet ≡ sheet2 → length_met h.length (length xs) ≡ true → (f : ℕ → ℕ) → Chosen (λ e m. pairs fam es xs m e) (length xs) (length es) f → (w : List ℕ) × (obeys fam (template h (subset es)) xs w ≡ true)
  unfolding members_of ByBlocks
  subset_met second m f c =
      let w = listed f (length xs) in
      (w, obeys_test (matches_of fam) h (subset es) (pairs fam es xs) xs (pairs_agree fam es xs) few short w (subst (λ (v : Sheet). Under v (pairs fam es xs) (length es) (length xs) w) (sym second) (chosen_subset es (pairs fam es xs) (length xs) f c)) m)

-- ---- what is asked
pub record Question (fam : Family) (s : Template (LeafOf fam)) (xs : List (ElementOf fam)) (ok : ℕ → ℕ → Bool) (k n : ℕ) : Type 0 where
  pub few : k ≤ 32
  pub short : n ≤ 32
  pub explained : Explained s xs
  pub unmet : (G : ℕ → Bool) → ShortGroup ok k n G → (w : List ℕ) → obeys fam s xs w ≡ true → ⊥
  pub met : (f : ℕ → ℕ) → Chosen ok k n f → (w : List ℕ) × (obeys fam s xs w ≡ true)

unfoldable Sensible : (fam : Family) → Template (LeafOf fam) → List (ElementOf fam) → Asked → Type 0
Sensible fam s xs of_nothing = Unit {0}
Sensible fam s xs (of_groups ok k n) = Question fam s xs ok k n

body_sensible : (fam : Family) (h : Heads) (b : Body (LeafOf fam)) (xs : List (ElementOf fam)) → length (members_of b) ≤ 32 → length xs ≤ 32 → length_met h.length (length xs) ≡ true → Sensible fam (template h b) xs (asked_by fam h b xs)
unfolding Sensible asked_by members_of
body_sensible fam h (record_of is) xs few short m = tt
body_sensible fam h (set_of g) xs few short m = tt
body_sensible fam h (superset es) xs few short m = record { few = omega arith; short = omega arith; explained = a_superset h es xs m; unmet = superset_unmet fam h es xs few short; met = superset_met fam h es xs few short m }
body_sensible fam h (subset es) xs few short m = under h.sheet refl
  where
    asked : Sheet → Type 0
    asked v = Sensible fam (template h (subset es)) xs (cond (is_plain v) of_nothing (of_groups (λ e m. pairs fam es xs m e) (length xs) (length es)))

    under : (v : Sheet) → h.sheet ≡ v → asked v
    under sheet1 q = tt
    under sheet2 q = record { few = omega arith; short = omega arith; explained = a_subset h es xs q m; unmet = subset_unmet fam h es xs few short q; met = subset_met fam h es xs few short q m }

asked_sensible : (fam : Family) (s : Template (LeafOf fam)) (xs : List (ElementOf fam)) → members_count s ≤ 32 → length xs ≤ 32 → Sensible fam s xs (asked_of fam s xs)
unfolding Sensible asked_of members_count
asked_sensible fam (template h b) xs few short = by-test (length_met h.length (length xs))
    (λ m. subst (λ (t : Bool). Sensible fam (template h b) xs (cond t (asked_by fam h b xs) of_nothing)) (sym m) (body_sensible fam h b xs few short m))
    (λ m. subst (λ (t : Bool). Sensible fam (template h b) xs (cond t (asked_by fam h b xs) of_nothing)) (sym m) tt)

pub asked_question : {fam : Family} {s : Template (LeafOf fam)} {xs : List (ElementOf fam)} {ok : ℕ → ℕ → Bool} {k n : ℕ} → members_count s ≤ 32 → length xs ≤ 32 → asked_of fam s xs ≡ of_groups ok k n → Question fam s xs ok k n
unfolding Sensible
asked_question {fam} {s} {xs} few short q = subst (Sensible fam s xs) q (asked_sensible fam s xs few short)

-- something is asked of what is to be explained
pub explained_asked : (fam : Family) {s : Template (LeafOf fam)} {xs : List (ElementOf fam)} → Explained s xs → (ok : ℕ → ℕ → Bool) × (k : ℕ) × (n : ℕ) × (asked_of fam s xs ≡ of_groups ok k n)
unfolding asked_of asked_by
explained_asked fam (a_superset h es xs m) = (pairs fam es xs, length es, length xs, ap (λ (t : Bool). cond t (of_groups (pairs fam es xs) (length es) (length xs)) of_nothing) m)
explained_asked fam (a_subset h es xs q m) = ((λ e m. pairs fam es xs m e), length xs, length es, ap₂ (λ (v : Sheet) (t : Bool). cond t (cond (is_plain v) of_nothing (of_groups (λ e m. pairs fam es xs m e) (length xs) (length es))) of_nothing) q m)
