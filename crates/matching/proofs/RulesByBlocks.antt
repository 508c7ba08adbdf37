-- A template's rules by its blocks: an assignment obeys exactly where its blocks cut the list, or, for a subset, where its members fill it or, under sheet 1, contain it.
-- Assumes nothing.
-- Agree hits es e xs may <-> may says of each member of es which of the elements xs it matches, the first of which is e
use mathlib.Core.Path.{◌≡◌, refl, sym, ap, ◌∙◌}
use mathlib.Core.Bool.{Bool, true, false, ◌&&◌, ◌||◌}
use mathlib.Core.Logic.{◌⊎◌, inl, inr, ⊎_elim}
use mathlib.Core.List.{List, [], ◌∷◌, ◌++◌, append-nil}
use Prim.Native.Nat.{ℕ, zero, suc, ◌+◌, ◌-◌, ◌≤◌, ◌<◌}
use native.Mathlib.Omega.{arith}
use native.Mathlib.Nat.{zero-add}
use borrow.Author.Tests.{eqb-true, eq-eqb, leb-true, le-leb}
use lib.Dec.{eqb, leb}
use lib.ListN.{length, get_or, take, drop, length-append, length-drop}
use lib.Seq.{length-take-le, drop-append_seam, take-append_seam}
use Rattle.facts.specs.Counting.{cnt}
use Rattle.facts.proofs.Cases.{and_left, and_right, both, one_of, or_left, or_right, same?, hit, miss, below}
use Rattle.facts.proofs.Counting.{cnt_append}
use Rattle.facts.proofs.Slices.{nil_of_length}
use Rattle.blocks.proofs.Assignments.{once_test, test_once}
use Rattle.blocks.specs.Pieces.{Takes, Cuts, Contains, Fills}
use Rattle.grammar.specs.Element.{Elem}
use Rattle.grammar.specs.Template.{grouped, Item, one, spares, permutation, Body, record_of, set_of, superset, subset, Sheet, sheet1, sheet2, is_plain, Heads, plainly, template, members_of_group, members_of_item, members_of_items, members_of}
use Rattle.grammar.specs.Members.{member_hits}
use Rattle.grammar.specs.Blocks.{min_of, max_of, block_of_group, block_of_item, blocks_of_items, blocks_of}
use Rattle.grammar.proofs.Members.{hits_low}
use Rattle.blocks.specs.Numbers.{block}
use Rattle.matching.specs.Obeys.{spare, right_bytes, none_twice, some_cut, cuts, item_takes, body_met, length_met, obeys_by}
use Rattle.matching.proofs.ItemsAsBlocks.{MayByte, MayAll, may_append, may_left, may_right, Within, Once, length_once, cnt_outside, Piece, PieceOf, takes_piece, piece_takes, group_says, group_test, item_says, item_test}

-- ---- the bytes are right where may says so

unfoldable pub Agree : {L X : Type 0} → (Elem L → X → Bool) → List (Elem L) → ℕ → List X → (ℕ → ℕ → Bool) → Type 0
Agree hits es e [] may = Unit {0}
Agree hits es e (x ∷ xs) may = ((m : ℕ) → may m e ≡ member_hits hits es m x) × Agree hits es (suc e) xs may

-- what is so of each pair is what may says
pub agree_from : {L X : Type 0} (hits : Elem L → X → Bool) (x₀ : X) (es : List (Elem L)) (may : ℕ → ℕ → Bool) (e : ℕ) (xs : List X) → ((m i : ℕ) → i < length xs → may m (e + i) ≡ member_hits hits es m (get_or xs i x₀)) → Agree hits es e xs may
unfolding Agree
agree_from hits x₀ es may e [] h = tt
agree_from hits x₀ es may e (x ∷ xs) h =
    let z : e + 0 ≡ e = omega arith in
    (λ m. rw z at (h m 0 (omega arith)), agree_from hits x₀ es may (suc e) xs (λ m i l. let y : suc e + i ≡ e + suc i = omega arith in rw y (h m (suc i) (omega arith))))

module _ {L X : Type 0} (hits : Elem L → X → Bool) (es : List (Elem L)) (may : ℕ → ℕ → Bool) where
  pub right_says : (e : ℕ) (xs : List X) (w : List ℕ) → Agree hits es e xs may → right_bytes hits es xs w ≡ true → MayAll may e w × (length w ≡ length xs)
  unfolding right_bytes MayAll Agree
  right_says e [] [] a h = (tt, refl)
  right_says e [] (b ∷ w) a h = absurd (mathlib.Core.Bool.true≢false (sym h))
  right_says e (x ∷ xs) [] a h = absurd (mathlib.Core.Bool.true≢false (sym h))
  right_says e (x ∷ xs) (b ∷ w) a h =
      let u = one_of (eqb b spare) (member_hits hits es b x) (and_left (eqb b spare || member_hits hits es b x) (right_bytes hits es xs w) h) in
      let r = right_says (suc e) xs w a.1 (and_right (eqb b spare || member_hits hits es b x) (right_bytes hits es xs w) h) in
      ((⊎_elim (λ (s : eqb b spare ≡ true). inl (eqb-true b spare s)) (λ (s : member_hits hits es b x ≡ true). inr (a.0 b ∙ s)) u, r.0), ap suc r.1)

  pub right_test : (e : ℕ) (xs : List X) (w : List ℕ) → Agree hits es e xs may → MayAll may e w → length w ≡ length xs → right_bytes hits es xs w ≡ true
  unfolding right_bytes MayAll Agree
  right_test e [] [] a h l = refl
  right_test e [] (b ∷ w) a h l = absurd (omega arith)
  right_test e (x ∷ xs) [] a h l = absurd (omega arith)
  right_test e (x ∷ xs) (b ∷ w) a h l =
      both (eqb b spare || member_hits hits es b x) (right_bytes hits es xs w)
      (⊎_elim (λ (s : b ≡ 255). or_left (eqb b spare) (member_hits hits es b x) (eq-eqb b spare s)) (λ (s : may b e ≡ true). or_right (eqb b spare) (member_hits hits es b x) (sym (a.0 b) ∙ s)) h.0)
      (right_test (suc e) xs w a.1 h.1 (omega arith))

  pub right_within : (e : ℕ) (xs : List X) (w : List ℕ) → Agree hits es e xs may → MayAll may e w → length w ≡ length xs → Within 0 (length es) w
  unfolding MayAll Agree Within
  right_within e [] [] a h l = tt
  right_within e [] (b ∷ w) a h l = absurd (omega arith)
  right_within e (x ∷ xs) [] a h l = absurd (omega arith)
  right_within e (x ∷ xs) (b ∷ w) a h l = (
    ⊎_elim (λ (s : b ≡ 255). inl s) (λ (s : may b e ≡ true). let z = hits_low hits es b x (sym (a.0 b) ∙ s) in inr (omega arith, omega arith)) h.0,
    right_within (suc e) xs w a.1 h.1 (omega arith),
  )

-- ---- no member twice

pub twice_test : (k : ℕ) (w : List ℕ) → ((v : ℕ) → v < k → cnt v w ≤ 1) → none_twice k w ≡ true
unfolding none_twice
twice_test zero w h = refl
twice_test (suc k) w h = both (leb (cnt k w) 1) (none_twice k w) (le-leb (cnt k w) 1 (h k (omega arith))) (twice_test k w (λ v l. h v (omega arith)))

pub twice_says : (k : ℕ) (w : List ℕ) → none_twice k w ≡ true → (v : ℕ) → v < k → cnt v w ≤ 1
unfolding none_twice
twice_says zero w h v l = absurd (omega arith)
twice_says (suc k) w h v l =
    ⊎_elim
    (λ (e : v ≡ k). rw e (leb-true (cnt k w) 1 (and_left (leb (cnt k w) 1) (none_twice k w) h)))
    (λ (n : v ≡ k → ⊥). twice_says k w (and_right (leb (cnt k w) 1) (none_twice k w) h) v (omega arith))
    (same? v k)

-- ---- a record of

-- a cut that is there
record SomeCut (n : ℕ) (f : ℕ → Bool) : Type 0 where
  at : ℕ
  low : at ≤ n
  holds : f at ≡ true

cut_says : (n : ℕ) (f : ℕ → Bool) → some_cut n f ≡ true → SomeCut n f
unfolding some_cut
cut_says zero f h = record { at = 0; low = omega arith; holds = h }
cut_says (suc n) f h =
    ⊎_elim
    (λ (s : f (suc n) ≡ true). record { at = suc n; low = omega arith; holds = s })
    (λ (s : some_cut n f ≡ true). let c = cut_says n f s in let l = c.low in record { at = c.at; low = omega arith; holds = c.holds })
    (one_of (f (suc n)) (some_cut n f) h)

cut_test : (n : ℕ) (f : ℕ → Bool) (i : ℕ) → i ≤ n → f i ≡ true → some_cut n f ≡ true
unfolding some_cut
cut_test zero f i l h = let e : i ≡ 0 = omega arith in rw e at h
cut_test (suc n) f i l h =
    ⊎_elim
    (λ (e : i ≡ suc n). or_left (f (suc n)) (some_cut n f) (rw e at h))
    (λ (d : i ≡ suc n → ⊥). or_right (f (suc n)) (some_cut n f) (cut_test n f i (omega arith) h))
    (same? i (suc n))

take_drop : (n : ℕ) (w : List ℕ) → w ≡ take n w ++ drop n w
take_drop zero w = refl
take_drop (suc n) [] = refl
take_drop (suc n) (x ∷ w) = ap (λ v. x ∷ v) (take_drop n w)

item_size : {L : Type 0} (m : ℕ) (i : Item L) → ((block_of_item m i).k ≡ length (members_of_item i)) × ((block_of_item m i).first ≡ m)
unfolding block_of_item block_of_group members_of_item members_of_group
item_size m (one e) = (refl, refl)
item_size m (spares min max) = (refl, refl)
item_size m (permutation (grouped es st)) = (refl, refl)

abbrev count_of : {L : Type 0} → List (Item L) → ℕ
count_of is = length (members_of_items is)

count_cons : {L : Type 0} (i : Item L) (is : List (Item L)) → count_of (i ∷ is) ≡ length (members_of_item i) + count_of is
unfolding members_of_items
count_cons i is = length-append (members_of_item i) (members_of_items is)

within_as : (a b m k : ℕ) (p : List ℕ) → a ≡ m → b ≡ k → Within a b p → Within m k p
within_as a b m k p e f h = rw (e, f) at h

-- a piece of the block stands within any larger range
wider : (m k j n : ℕ) (p : List ℕ) → j ≤ m → m + k ≤ j + n → Within m k p → Within j n p
unfolding Within
wider m k j n [] a b h = tt
wider m k j n (x ∷ p) a b h = (⊎_elim (λ (s : x ≡ 255). inl s) (λ (s : (m ≤ x) × (x < m + k)). inr (omega arith, omega arith)) h.0, wider m k j n p a b h.1)

within_append : (m k : ℕ) (p q : List ℕ) → Within m k p → Within m k q → Within m k (p ++ q)
unfolding Within
within_append m k [] q a b = b
within_append m k (x ∷ p) q a b = (a.0, within_append m k p q a.1 b)

module _ {L : Type 0} (may : ℕ → ℕ → Bool) where
  pub cuts_says : (m : ℕ) (is : List (Item L)) (w : List ℕ) (from : ℕ) → m + count_of is ≤ 255 → cuts m is w ≡ true → MayAll may from w → Cuts may (blocks_of_items m is) from (from + length w) w
  unfolding cuts Cuts blocks_of_items
  cuts_says m [] w from l h r = let z = eqb-true (length w) 0 h in (omega arith, nil_of_length w z)
  cuts_says m (i ∷ is) w from l h r =
      let c = cut_says (length w) (λ n. item_takes m i (take n w) && cuts (m + length (members_of_item i)) is (drop n w)) h in
      let n = c.at in
      let low = c.low in
      let both_hold = c.holds in
      let cc_count = count_cons i is in
      let size = item_size m i in
      let left = and_left (item_takes m i (take n w)) (cuts (m + length (members_of_item i)) is (drop n w)) both_hold in
      let right = and_right (item_takes m i (take n w)) (cuts (m + length (members_of_item i)) is (drop n w)) both_hold in
      let whole : w ≡ take n w ++ drop n w = take_drop n w in
      let r₁ : MayAll may from (take n w ++ drop n w) = rw (sym whole) r in
      let ln : length (take n w) ≡ n = length-take-le n w low in
      let ld : length (drop n w) ≡ length w - n = length-drop n w in
      let p : PieceOf (block_of_item m i) (take n w) = item_says m i (take n w) (omega (arith, size.0)) left in
      let t : Takes may (block_of_item m i) from (from + n) (take n w) = piece_takes may (block_of_item m i).first (block_of_item m i).k (block_of_item m i).min (block_of_item m i).max from (from + n) (take n w) p (may_left may from (take n w) (drop n w) r₁) (omega arith) in
      let r₂ : MayAll may (from + n) (drop n w) = rw ln at (may_right may from (take n w) (drop n w) r₁) in
      let q = cuts_says (m + length (members_of_item i)) is (drop n w) (from + n) (omega arith) right r₂ in
      let z : from + n + length (drop n w) ≡ from + length w = omega arith in
      record { mid = from + n; after = omega arith; inside = omega arith; parts = record { left = take n w; right = drop n w; whole = whole; on_left = t; on_right = rw z at q } }

  pub record CutsTest (m : ℕ) (is : List (Item L)) (from to : ℕ) (w : List ℕ) : Type 0 where
    pub test : cuts m is w ≡ true
    pub rights : MayAll may from w
    pub size : from + length w ≡ to
    pub within : Within m (count_of is) w
    pub few : (v : ℕ) → (v ≡ 255 → ⊥) → cnt v w ≤ 1

  pub cuts_test : (m : ℕ) (is : List (Item L)) (from to : ℕ) (w : List ℕ) → m + count_of is ≤ 255 → Cuts may (blocks_of_items m is) from to w → CutsTest m is from to w
  unfolding cuts Cuts blocks_of_items MayAll Within cnt
  cuts_test m [] from to w l c =
      let e = c.0 in
      rw c.1 (record { test = refl; rights = tt; size = omega arith; within = tt; few = λ v n. omega arith })
  cuts_test m (i ∷ is) from to w l c =
      let cc_count = count_cons i is in
      let size = item_size m i in
      let j = c.parts in
      let p = j.left in
      let q = j.right in
      let k = length (members_of_item i) in
      let t = takes_piece may (block_of_item m i).first (block_of_item m i).k (block_of_item m i).min (block_of_item m i).max from c.mid p c.after j.on_left in
      let u = cuts_test (m + k) is c.mid to q (omega arith) j.on_right in
      let lp = t.2 in
      let lq = u.size in
      let la : length (p ++ q) ≡ length p + length q = length-append p q in
      let pw : Within m k p = within_as (block_of_item m i).first (block_of_item m i).k m k p size.1 size.0 t.0.within in
      let first_test : item_takes m i p ≡ true = item_test m i p (omega (arith, size.0)) t.0 in
      let tk : take (length p) (p ++ q) ≡ p = take-append_seam p q in
      let dr : drop (length p) (p ++ q) ≡ q = drop-append_seam p q in
      let here : (item_takes m i (take (length p) (p ++ q)) && cuts (m + k) is (drop (length p) (p ++ q))) ≡ true = rw (tk, dr) (both (item_takes m i p) (cuts (m + k) is q) first_test u.test) in
      rw j.whole
      (record {
        test = cut_test (length (p ++ q)) (λ n. item_takes m i (take n (p ++ q)) && cuts (m + k) is (drop n (p ++ q))) (length p) (omega arith) here;
        rights = may_append may from p q t.1 (rw lp u.rights);
        size = omega arith;
        within = within_append m (count_of (i ∷ is)) p q (wider m k m (count_of (i ∷ is)) p (omega arith) (omega arith) pw) (wider (m + k) (count_of is) m (count_of (i ∷ is)) q (omega arith) (omega arith) u.within);
        few = λ v n.
            let ca = cnt_append v p q in
            ⊎_elim
            (λ (low : v < m + k).
            let zq = cnt_outside (m + k) (count_of is) v q u.within n (inl low) in
            ⊎_elim
            (λ (b : v < m). let zp = cnt_outside m k v p pw n (inl b) in omega arith)
            (λ (b : m ≤ v). let zp : cnt v p ≡ 1 = t.0.once v (omega (arith, size.1)) (omega (arith, size.0, size.1)) in omega arith)
            (below v m))
            (λ (high : m + k ≤ v).
            let zp = cnt_outside m k v p pw n (inr high) in
            let uq = u.few v n in
            omega arith)
            (below v (m + k));
      })

-- ---- a set of and a superset: one block over the whole list

module _ (may : ℕ → ℕ → Bool) (m k min max n : ℕ) (w : List ℕ) where
  pub whole_cut : Piece m k min max w → MayAll may 0 w → length w ≡ n → Cuts may (block m k min max ∷ []) 0 n w
  unfolding Cuts
  whole_cut p r l =
      record {
        mid = n;
        after = omega arith;
        inside = omega arith;
        parts = record { left = w; right = []; whole = sym (append-nil w); on_left = piece_takes may m k min max 0 n w p r (omega arith); on_right = (refl, refl) };
      }

  pub cut_whole : Cuts may (block m k min max ∷ []) 0 n w → Piece m k min max w × MayAll may 0 w × (length w ≡ n)
  unfolding Cuts
  cut_whole c =
      let j = c.parts in
      let e : w ≡ j.left = j.whole ∙ ap (λ v. j.left ++ v) j.on_right.1 ∙ append-nil j.left in
      let t = takes_piece may m k min max 0 c.mid j.left c.after j.on_left in
      let z = t.2 in
      let y = j.on_right.0 in
      rw e (t.0, t.1, omega arith)

-- once each, and so not twice
once_few : (m k : ℕ) (w : List ℕ) → Once m k w → (v : ℕ) → m ≤ v → v < m + k → cnt v w ≤ 1
once_few m k w h v a b = let z = h v a b in omega arith

-- ---- a subset

all_given : (w : List ℕ) (n k : ℕ) → Within 0 k w → cnt spare w ≡ 0 → length w ≡ n → (e : ℕ) → e < n → get_or w e 0 < k
unfolding Within cnt
all_given [] n k h c l e b = absurd (omega arith)
all_given (x ∷ w) n k h c l zero b = ⊎_elim (λ (s : x ≡ 255). let z = hit x 255 s in absurd (omega arith)) (λ (s : (0 ≤ x) × (x < 0 + k)). omega arith) h.0
all_given (x ∷ w) n k h c l (suc e) b = all_given w (length w) k h.1 (omega arith) refl e (omega arith)

may_at : (may : ℕ → ℕ → Bool) (e : ℕ) (w : List ℕ) → MayAll may e w → (i : ℕ) → i < length w → MayByte may (e + i) (get_or w i 0)
unfolding MayAll
may_at may e [] h i l = absurd (omega arith)
may_at may e (x ∷ w) h zero l = let z : e + 0 ≡ e = omega arith in rw z h.0
may_at may e (x ∷ w) h (suc i) l = let z : suc e + i ≡ e + suc i = omega arith in rw z at (may_at may (suc e) w h.1 i (omega arith))

may_from : (may : ℕ → ℕ → Bool) (e : ℕ) (w : List ℕ) → ((i : ℕ) → i < length w → may (get_or w i 0) (e + i) ≡ true) → MayAll may e w
unfolding MayAll
may_from may e [] h = tt
may_from may e (x ∷ w) h =
    let z : e + 0 ≡ e = omega arith in
    (inr (rw z at (h 0 (omega arith))), may_from may (suc e) w (λ i l. let y : suc e + i ≡ e + suc i = omega arith in rw y (h (suc i) (omega arith))))

no_spare : (w : List ℕ) (k : ℕ) → k ≤ 255 → ((e : ℕ) → e < length w → get_or w e 0 < k) → cnt spare w ≡ 0
unfolding cnt
no_spare [] k l h = refl
no_spare (x ∷ w) k l h =
    let a = h 0 (omega arith) in
    let z = miss x 255 (λ e. omega arith) in
    let ih = no_spare w k l (λ e b. h (suc e) (omega arith)) in
    omega arith

module _ (may : ℕ → ℕ → Bool) (k n : ℕ) (w : List ℕ) where
  contains_says : MayAll may 0 w → Within 0 k w → length w ≡ n → cnt spare w ≡ 0 → k ≤ 255 → Contains may k n w
  contains_says r b l c low = record {
    size = l;
    member = all_given w n k b c l;
    right = λ e h. ⊎_elim (λ (s : get_or w e 0 ≡ 255). let z = all_given w n k b c l e h in absurd (omega arith)) (λ (s : may (get_or w e 0) (0 + e) ≡ true). rw (zero-add e) at s) (may_at may 0 w r e (omega arith));
  }

  contains_test : Contains may k n w → k ≤ 255 → MayAll may 0 w × (cnt spare w ≡ 0)
  contains_test f low =
      let l = f.size in
      (may_from may 0 w (λ i h. rw (zero-add i) (f.right i (omega arith))), no_spare w k low (λ e h. f.member e (omega arith)))

  pub fills_contains : Fills may k n w → Contains may k n w
  fills_contains f = record { size = f.size; member = f.member; right = f.right }

  pub subset_says : MayAll may 0 w → Within 0 k w → length w ≡ n → ((v : ℕ) → v < k → cnt v w ≤ 1) → cnt spare w ≡ 0 → k ≤ 255 → Fills may k n w
  subset_says r b l o c low = let g = contains_says r b l c low in record { size = g.size; member = g.member; right = g.right; once = o }

  pub subset_test : Fills may k n w → k ≤ 255 → MayAll may 0 w × (cnt spare w ≡ 0)
  subset_test f low = contains_test (fills_contains f) low

-- a subset under the sheet v
abbrev pub Under : Sheet → (ℕ → ℕ → Bool) → ℕ → ℕ → List ℕ → Type 0
Under sheet1 may k n w = Contains may k n w
Under sheet2 may k n w = Fills may k n w

module _ (may : ℕ → ℕ → Bool) (k n : ℕ) (w : List ℕ) (low : k ≤ 255) where
  under_says : (v : Sheet) → MayAll may 0 w → Within 0 k w → length w ≡ n → (is_plain v || none_twice k w) ≡ true → cnt spare w ≡ 0 → Under v may k n w
  under_says sheet1 r b l t c = contains_says may k n w r b l c low
  under_says sheet2 r b l t c = subset_says may k n w r b l (twice_says k w t) c low

  record UnderTest (v : Sheet) : Type 0 where
    rights : MayAll may 0 w
    size : length w ≡ n
    none : (is_plain v || none_twice k w) ≡ true
    given : cnt spare w ≡ 0

  under_test : (v : Sheet) → Under v may k n w → UnderTest v
  under_test sheet1 g = let u = contains_test may k n w g low in record { rights = u.0; size = g.size; none = refl; given = u.1 }
  under_test sheet2 f = let u = subset_test may k n w f low in record { rights = u.0; size = f.size; none = twice_test k w f.once; given = u.1 }

-- ---- any body

unfoldable pub ByBlocks : {L : Type 0} → Heads → Body L → (ℕ → ℕ → Bool) → ℕ → List ℕ → Type 0
ByBlocks h (record_of is) may n w = Cuts may (blocks_of (record_of is)) 0 n w
ByBlocks h (set_of g) may n w = Cuts may (blocks_of (set_of g)) 0 n w
ByBlocks h (superset es) may n w = Cuts may (blocks_of (superset es)) 0 n w
ByBlocks h (subset es) may n w = Under h.sheet may (length es) n w

-- what is left of the rules once the bytes are right: none twice, and what the kind asks
module _ {L : Type 0} (h : Heads) (may : ℕ → ℕ → Bool) (n : ℕ) (w : List ℕ) (short : n ≤ 32) where
  body_says : (b : Body L) → length (members_of b) ≤ 32 → MayAll may 0 w → length w ≡ n → Within 0 (length (members_of b)) w → (plainly h b || none_twice (length (members_of b)) w) ≡ true → body_met b w ≡ true → ByBlocks h b may n w
  unfolding ByBlocks plainly blocks_of body_met members_of block_of_group members_of_group
  body_says (record_of is) k r l b t m = let z : 0 + length w ≡ n = omega arith in rw z at (cuts_says may 0 is w 0 (omega arith) m r)
  body_says (set_of (grouped es st)) k r l b t m =
      let p = group_says 0 (grouped es st) w (omega arith) m in
      whole_cut may 0 (length es) (min_of st) (max_of st) n w p r l
  body_says (superset es) k r l b t m =
      let o = test_once 0 (length es) w m in
      let z = length_once 0 (length es) w (omega arith) b o in
      whole_cut may 0 (length es) 0 255 n w (record { within = b; once = o; enough = omega arith; few = omega arith }) r l
  body_says (subset es) k r l b t m = under_says may (length es) n w (omega arith) h.sheet r b l t (eqb-true (cnt spare w) 0 m)

  record BodyTest (b : Body L) : Type 0 where
    rights : MayAll may 0 w
    size : length w ≡ n
    none : (plainly h b || none_twice (length (members_of b)) w) ≡ true
    test : body_met b w ≡ true

  body_test : (b : Body L) → length (members_of b) ≤ 32 → ByBlocks h b may n w → BodyTest b
  unfolding ByBlocks plainly blocks_of body_met members_of block_of_group members_of_group
  body_test (record_of is) k c =
      let u = cuts_test may 0 is 0 n w (omega arith) c in
      let z = u.size in
      record { rights = u.rights; size = omega arith; none = twice_test (length (members_of_items is)) w (λ v l. u.few v (λ e. omega arith)); test = u.test }
  body_test (set_of (grouped es st)) k c =
      let u = cut_whole may 0 (length es) (min_of st) (max_of st) n w c in
      record { rights = u.1; size = u.2; none = twice_test (length es) w (λ v l. once_few 0 (length es) w u.0.once v (omega arith) (omega arith)); test = group_test 0 (grouped es st) w (omega arith) u.0 }
  body_test (superset es) k c =
      let u = cut_whole may 0 (length es) 0 255 n w c in
      record { rights = u.1; size = u.2; none = twice_test (length es) w (λ v l. once_few 0 (length es) w u.0.once v (omega arith) (omega arith)); test = once_test 0 (length es) w u.0.once }
  body_test (subset es) k f =
      let u = under_test may (length es) n w (omega arith) h.sheet f in
      record { rights = u.rights; size = u.size; none = u.none; test = eq-eqb (cnt spare w) 0 u.given }

module _ {L X : Type 0} (hits : Elem L → X → Bool) (h : Heads) (b : Body L) (may : ℕ → ℕ → Bool) (xs : List X) (agree : Agree hits (members_of b) 0 xs may) (few : length (members_of b) ≤ 32) (short : length xs ≤ 32) (w : List ℕ) where
  abbrev right_bytes_lem : Bool
  right_bytes_lem = right_bytes hits (members_of b) xs w

  abbrev none_twice_lem : Bool
  none_twice_lem = plainly h b || none_twice (length (members_of b)) w

  -- an assignment obeys exactly where the length is met and the blocks cut the list, or the members fill it
  pub obeys_says : obeys_by hits (template h b) xs w ≡ true → ByBlocks h b may (length xs) w × (length_met h.length (length xs) ≡ true)
  unfolding obeys_by
  obeys_says o =
      let o₁ = and_right right_bytes_lem (none_twice_lem && (body_met b w && length_met h.length (length xs))) o in
      let o₂ = and_right none_twice_lem (body_met b w && length_met h.length (length xs)) o₁ in
      let r = right_says hits (members_of b) may 0 xs w agree (and_left right_bytes_lem (none_twice_lem && (body_met b w && length_met h.length (length xs))) o) in (
        body_says h may (length xs) w short b few r.0 r.1 (right_within hits (members_of b) may 0 xs w agree r.0 r.1) (and_left none_twice_lem (body_met b w && length_met h.length (length xs)) o₁) (and_left (body_met b w) (length_met h.length (length xs)) o₂),
        and_right (body_met b w) (length_met h.length (length xs)) o₂,
      )

  pub obeys_test : ByBlocks h b may (length xs) w → length_met h.length (length xs) ≡ true → obeys_by hits (template h b) xs w ≡ true
  unfolding obeys_by
  obeys_test c m =
      let u = body_test h may (length xs) w short b few c in
      both right_bytes_lem (none_twice_lem && (body_met b w && length_met h.length (length xs))) (right_test hits (members_of b) may 0 xs w agree u.rights u.size)
      (both none_twice_lem (body_met b w && length_met h.length (length xs)) u.none (both (body_met b w) (length_met h.length (length xs)) u.test m))
