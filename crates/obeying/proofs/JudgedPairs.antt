-- Whether a witness obeys, by the pairs that it gives and by what the body asks besides; a subset under sheet 1 by its pairs alone. Assumes nothing.
use mathlib.Core.Path.{◌≡◌, refl, sym, ap, ◌∙◌}
use mathlib.Core.Bool.{Bool, true, false, ◌&&◌, ◌||◌, cond}
use mathlib.Core.Logic.{◌⊎◌, inl, inr, ⊎_elim}
use mathlib.Core.List.{List, [], ◌∷◌}
use Prim.Native.Nat.{ℕ, zero, suc, ◌≤◌, ◌<◌}
use native.Mathlib.Omega.{arith}
use native.Mathlib.Nat.{zero-add}
use borrow.Author.Tests.{eqb-true, eq-eqb}
use lib.Dec.{eqb}
use lib.ListN.{length, get_or}
use Rattle.facts.proofs.Cases.{clash, and_left, and_right, both, one_of, or_left, or_right, not_so, same_test}
use Rattle.masks.specs.Masks.{bit}
use Rattle.blocks.specs.Pieces.{Contains, Passing}
use Rattle.blocks.proofs.FirstLists.{passing_holds}
use Rattle.grammar.specs.Element.{Elem}
use Rattle.format.specs.declared.Family.{Family}
use Rattle.grammar.specs.Family.{LeafOf, ElementOf, no_element, matches_of}
use Rattle.grammar.specs.Template.{Sheet, sheet1, sheet2, is_plain, template, Heads, Body, record_of, set_of, superset, subset, plainly, members_of}
use Rattle.grammar.specs.Members.{member_hits}
use Rattle.grammar.specs.Blocks.{body_kind, kind_read}
use Rattle.grammar.proofs.Members.{hits_low}
use Rattle.member_rows.specs.Contract.{pair_of}
use Rattle.pairs.specs.Pairs.{Right, Left, Paired, right, wrong}
use Rattle.obeying.specs.Spread.{Spread}
use Rattle.matching.specs.Obeys.{spare, right_bytes, none_twice, body_met, length_met, obeys_by, obeys, Obeys}
use Rattle.matching.proofs.RulesByBlocks.{agree_from, twice_test, twice_says, Under, ByBlocks, obeys_says, obeys_test}

-- ---- the bytes, one by one

bytes_right : (fam : Family) (es : List (Elem (LeafOf fam))) (xs : List (ElementOf fam)) (w : List ℕ) → length w ≡ length xs → ((e : ℕ) → e < length xs → (get_or w e 0 ≡ 255) ⊎ (member_hits (matches_of fam) es (get_or w e 0) (get_or xs e (no_element fam)) ≡ true))
    → right_bytes (matches_of fam) es xs w ≡ true
unfolding right_bytes
bytes_right fam es [] [] l h = refl
bytes_right fam es [] (b ∷ w) l h = absurd (omega arith)
bytes_right fam es (x ∷ xs) [] l h = absurd (omega arith)
bytes_right fam es (x ∷ xs) (b ∷ w) l h =
    both (eqb b spare || member_hits (matches_of fam) es b x) (right_bytes (matches_of fam) es xs w)
    (⊎_elim (λ (q : b ≡ 255). or_left (eqb b spare) (member_hits (matches_of fam) es b x) (eq-eqb b spare q)) (λ (q : member_hits (matches_of fam) es b x ≡ true). or_right (eqb b spare) (member_hits (matches_of fam) es b x) q) (h 0 (omega arith)))
    (bytes_right fam es xs w (omega arith) (λ e k. h (suc e) (omega arith)))

right_bytes_lem : (fam : Family) (es : List (Elem (LeafOf fam))) (xs : List (ElementOf fam)) (w : List ℕ) → right_bytes (matches_of fam) es xs w ≡ true → (e : ℕ) → e < length xs → (get_or w e 0 ≡ 255) ⊎ (member_hits (matches_of fam) es (get_or w e 0) (get_or xs e (no_element fam)) ≡ true)
unfolding right_bytes
right_bytes_lem fam es [] w h e l = absurd (omega arith)
right_bytes_lem fam es (x ∷ xs) [] h e l = absurd (mathlib.Core.Bool.true≢false (sym h))
right_bytes_lem fam es (x ∷ xs) (b ∷ w) h zero l =
    ⊎_elim (λ (q : eqb b spare ≡ true). inl (eqb-true b spare q)) (λ (q : member_hits (matches_of fam) es b x ≡ true). inr q)
    (one_of (eqb b spare) (member_hits (matches_of fam) es b x) (and_left (eqb b spare || member_hits (matches_of fam) es b x) (right_bytes (matches_of fam) es xs w) h))
right_bytes_lem fam es (x ∷ xs) (b ∷ w) h (suc e) l = right_bytes_lem fam es xs w (and_right (eqb b spare || member_hits (matches_of fam) es b x) (right_bytes (matches_of fam) es xs w) h) e (omega arith)

-- ---- all pairs

module _ (fam : Family) (a : Heads) (b : Body (LeafOf fam)) (xs : List (ElementOf fam)) (w : List ℕ) (size : length w ≡ length xs) where
  abbrev es : List (Elem (LeafOf fam))
  es = members_of b

  -- the rules ask for right pairs
  obeys_right : plainly a b ≡ false → Obeys fam (template a b) xs w → Right fam es xs w
  unfolding obeys_by
  obeys_right other o =
      let once = plainly a b || none_twice (length es) w in
      let rest = once && (body_met b w && length_met a.length (length xs)) in
      record {
        bytes = right_bytes_lem fam es xs w (and_left (right_bytes (matches_of fam) es xs w) rest o);
        once = twice_says (length es) w (rw other at (and_left once (body_met b w && length_met a.length (length xs)) (and_right (right_bytes (matches_of fam) es xs w) rest o)));
      }

  -- where the pairs are right and the length is met, what the body asks is left
  right_obeys : Right fam es xs w → length_met a.length (length xs) ≡ true → obeys fam (template a b) xs w ≡ body_met b w
  unfolding obeys_by
  right_obeys r met =
      ap (λ (v : Bool). v && ((plainly a b || none_twice (length es) w) && (body_met b w && length_met a.length (length xs)))) (bytes_right fam es xs w size r.bytes)
      ∙ ap (λ (v : Bool). v && (body_met b w && length_met a.length (length xs))) (or_right (plainly a b) (none_twice (length es) w) (twice_test (length es) w r.once))
      ∙ ap (λ (v : Bool). body_met b w && v) met ∙ and_true (body_met b w)
    where
      and_true : (v : Bool) → (v && true) ≡ v
      and_true true = refl
      and_true false = refl

  right_spread : (left : ℕ) → length es ≤ 32 → Right fam es xs w → Left (length es) w left → Spread b w left
  right_spread left few r l = record {
    few = few;
    bytes = λ e i. ⊎_elim
        (λ (q : get_or w e 0 ≡ 255). inl q)
        (λ (q : member_hits (matches_of fam) es (get_or w e 0) (get_or xs e (no_element fam)) ≡ true). inr (hits_low (matches_of fam) es (get_or w e 0) (get_or xs e (no_element fam)) q))
        (r.bytes e (omega arith));
    once = r.once;
    left_over = l;
  }

  -- no mask of 32 members is so large
  wrong_pairs : (r : ℕ) → length es ≤ 32 → r ≡ 4294967296 → Paired fam es xs w r → Right fam es xs w → ⊥
  unfolding bit
  wrong_pairs r few z (wrong n q) = n
  wrong_pairs r few z (right a l) = λ u. let o = l.only 32 (ap (λ (n : ℕ). bit n 32) z ∙ refl) in omega (arith, o.0)

  right_pairs : (r : ℕ) → (r ≡ 4294967296 → ⊥) → Paired fam es xs w r → Right fam es xs w × Left (length es) w r
  right_pairs r n (wrong m q) = absurd (n q)
  right_pairs r n (right a l) = (a, l)

  pub judged_wrong : (r : ℕ) → plainly a b ≡ false → length es ≤ 32 → r ≡ 4294967296 → Paired fam es xs w r → obeys fam (template a b) xs w ≡ false
  judged_wrong r other few z p = not_so (obeys fam (template a b) xs w) (λ o. wrong_pairs r few z p (obeys_right other o))

  pub judged_right : (r : ℕ) (met : Bool) → length es ≤ 32 → length_met a.length (length xs) ≡ true → (r ≡ 4294967296 → ⊥) → Paired fam es xs w r → (Spread b w r → met ≡ body_met b w) → met ≡ obeys fam (template a b) xs w
  judged_right r met few l n p says = let u = right_pairs r n p in says (right_spread r few u.0 u.1) ∙ sym (right_obeys u.0 l)

-- ---- a subset under sheet 1

-- its kind says so
pub read_plainly : {L : Type 0} (h : Heads) (b : Body L) → kind_read h b ≡ 0x14 → plainly h b ≡ true
unfolding kind_read plainly body_kind
read_plainly h (record_of is) q = absurd (omega arith)
read_plainly h (set_of g) q = absurd (omega arith)
read_plainly h (superset es) q = absurd (omega arith)
read_plainly h (subset es) q = so (is_plain h.sheet) q
  where
    so : (p : Bool) → ◌≡◌ {A = ℕ} (cond p 0x14 0x13) 0x14 → p ≡ true
    so true z = refl
    so false z = absurd (omega arith)

pub not_plainly : {L : Type 0} (h : Heads) (b : Body L) → (kind_read h b ≡ 0x14 → ⊥) → plainly h b ≡ false
unfolding kind_read
not_plainly h b n = not_so (plainly h b) (λ p. n (ap (λ (v : Bool). cond v 0x14 (body_kind b)) p))

module _ (may : ℕ → ℕ → Bool) (k n : ℕ) (w : List ℕ) where
  plain_under : (v : Sheet) → is_plain v ≡ true → Contains may k n w → Under v may k n w
  plain_under sheet1 p c = c
  plain_under sheet2 p c = absurd (clash p refl)

  under_plain : (v : Sheet) → is_plain v ≡ true → Under v may k n w → Contains may k n w
  under_plain sheet1 p u = u
  under_plain sheet2 p u = absurd (clash p refl)

module _ (fam : Family) (h : Heads) (xs : List (ElementOf fam)) (w : List ℕ) (short : length xs ≤ 32) (met : length_met h.length (length xs) ≡ true) (r : Bool) where
  -- what holds of the pairs is what obeys
  pub plainly_judged : (b : Body (LeafOf fam)) → plainly h b ≡ true → length (members_of b) ≤ 32 → Passing (Contains (pair_of fam (members_of b) xs) (length (members_of b)) (length xs) w) r → r ≡ obeys fam (template h b) xs w
  unfolding plainly ByBlocks members_of
  plainly_judged (record_of is) p few t = absurd (clash p refl)
  plainly_judged (set_of g) p few t = absurd (clash p refl)
  plainly_judged (superset es) p few t = absurd (clash p refl)
  plainly_judged (subset es) p few t =
      let related = pair_of fam es xs in
      let agree = agree_from (matches_of fam) (no_element fam) es related 0 xs (λ m i l. rw (zero-add i) refl) in
      same_test r (obeys fam (template h (subset es)) xs w)
      (λ q. obeys_test (matches_of fam) h (subset es) related xs agree few short w (plain_under related (length es) (length xs) w h.sheet p (t.passed q)) met)
      (λ o. passing_holds t (under_plain related (length es) (length xs) w h.sheet p (obeys_says (matches_of fam) h (subset es) related xs agree few short w o).0))
