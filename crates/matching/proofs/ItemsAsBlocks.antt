-- Each item is its block: what docs/RULES.md, "When a list matches", says of the piece that an item takes is what `cuts` says of its block. Assumes nothing.
-- MayAll may e w <-> every byte of w is spare, or a member that may take its element, the first of which is e
-- Within m k p    <-> every byte of p is spare, or one of the members m .. m + k - 1
-- Once m k p      <-> each of these members stands in p exactly once
-- Piece m k min max p <-> the shape of a piece of the block: its members and spares, each member once, min to max spares
use mathlib.Core.Path.{◌≡◌, refl, sym, ◌∙◌}
use mathlib.Core.Bool.{Bool, true, ◌&&◌, ◌||◌}
use mathlib.Core.Logic.{◌⊎◌, inl, inr, ⊎_elim}
use mathlib.Core.List.{List, [], ◌∷◌, ◌++◌}
use Prim.Native.Nat.{ℕ, zero, suc, ◌+◌, ◌-◌, ◌≤◌, ◌<◌}
use native.Mathlib.Omega.{arith}
use borrow.Author.Tests.{eqb-true, eq-eqb, leb-true, le-leb}
use lib.Dec.{eqb, leb}
use lib.ListN.{length}
use Rattle.facts.specs.Counting.{between, cnt}
use Rattle.blocks.specs.Assignment.{takes, all_right, all_once, assigns}
use Rattle.facts.proofs.Cases.{and_left, and_right, both, one_of, or_left, or_right, hit, miss, same?}
use Rattle.facts.proofs.Spans.{between_in, between_from, between_to}
use Rattle.blocks.proofs.Assignments.{assigns_test, test_assigns, once_test, test_once}
use Rattle.blocks.specs.Pieces.{Takes}
use Rattle.grammar.specs.Template.{Star, no_star, star, Group, grouped, Item, one, spares, permutation}
use Rattle.grammar.specs.Blocks.{min_of, max_of, block_of_group, block_of_item}
use Rattle.blocks.specs.Numbers.{block}
use Rattle.matching.specs.Obeys.{spare, all_spare, within_block, star_met, group_takes, item_takes}

abbrev pub MayByte : (ℕ → ℕ → Bool) → ℕ → ℕ → Type 0
MayByte may e b = (b ≡ 255) ⊎ (may b e ≡ true)

unfoldable pub MayAll : (ℕ → ℕ → Bool) → ℕ → List ℕ → Type 0
MayAll may e [] = Unit {0}
MayAll may e (b ∷ w) = MayByte may e b × MayAll may (suc e) w

abbrev pub OneOf : ℕ → ℕ → ℕ → Type 0
OneOf m k b = (b ≡ 255) ⊎ ((m ≤ b) × (b < m + k))

unfoldable pub Within : ℕ → ℕ → List ℕ → Type 0
Within m k [] = Unit {0}
Within m k (b ∷ p) = OneOf m k b × Within m k p

abbrev pub Once : ℕ → ℕ → List ℕ → Type 0
Once m k p = (v : ℕ) → m ≤ v → v < m + k → cnt v p ≡ 1

-- ---- over a concatenation

module _ (may : ℕ → ℕ → Bool) where
  pub may_append : (e : ℕ) (p q : List ℕ) → MayAll may e p → MayAll may (e + length p) q → MayAll may e (p ++ q)
  unfolding MayAll
  may_append e [] q a b = let z : e + 0 ≡ e = omega arith in rw z at b
  may_append e (x ∷ p) q a b = let z : suc e + length p ≡ e + suc (length p) = omega arith in (a.0, may_append (suc e) p q a.1 (rw z b))

  pub may_left : (e : ℕ) (p q : List ℕ) → MayAll may e (p ++ q) → MayAll may e p
  unfolding MayAll
  may_left e [] q a = tt
  may_left e (x ∷ p) q a = (a.0, may_left (suc e) p q a.1)

  pub may_right : (e : ℕ) (p q : List ℕ) → MayAll may e (p ++ q) → MayAll may (e + length p) q
  unfolding MayAll
  may_right e [] q a = let z : e + 0 ≡ e = omega arith in rw z a
  may_right e (x ∷ p) q a = let z : suc e + length p ≡ e + suc (length p) = omega arith in rw z at (may_right (suc e) p q a.1)

-- ---- tests and what they say

module _ (m k : ℕ) where
  pub within_says : (p : List ℕ) → within_block m k p ≡ true → Within m k p
  unfolding within_block Within
  within_says [] h = tt
  within_says (b ∷ p) h =
      let u = and_left (eqb b spare || between m (m + k) b) (within_block m k p) h in (
        ⊎_elim (λ (s : eqb b spare ≡ true). inl (eqb-true b spare s)) (λ (s : between m (m + k) b ≡ true). inr (between_from m (m + k) b s, between_to m (m + k) b s)) (one_of (eqb b spare) (between m (m + k) b) u),
        within_says p (and_right (eqb b spare || between m (m + k) b) (within_block m k p) h),
      )

  byte_test : (b : ℕ) → OneOf m k b → (eqb b spare || between m (m + k) b) ≡ true
  byte_test b h = ⊎_elim (λ (s : b ≡ 255). or_left (eqb b spare) (between m (m + k) b) (eq-eqb b spare s)) (λ s. or_right (eqb b spare) (between m (m + k) b) (between_in m (m + k) b s.0 s.1)) h

  pub within_test : (p : List ℕ) → Within m k p → within_block m k p ≡ true
  unfolding within_block Within
  within_test [] h = refl
  within_test (b ∷ p) h = both (eqb b spare || between m (m + k) b) (within_block m k p) (byte_test b h.0) (within_test p h.1)

-- ---- a right byte is one of the block, and may take its element

module _ (may : ℕ → ℕ → Bool) (m k : ℕ) where
  split_byte : (x e : ℕ) → takes may m k e x ≡ true → OneOf m k x × MayByte may e x
  unfolding takes
  split_byte x e h =
      ⊎_elim
      (λ (s : eqb x 255 ≡ true). (inl (eqb-true x 255 s), inl (eqb-true x 255 s)))
      (λ (s : (between m (m + k) x && may x e) ≡ true).
      let b = and_left (between m (m + k) x) (may x e) s in
      (inr (between_from m (m + k) x b, between_to m (m + k) x b), inr (and_right (between m (m + k) x) (may x e) s)))
      (one_of (eqb x 255) (between m (m + k) x && may x e) h)

  join_byte : (x e : ℕ) → OneOf m k x → MayByte may e x → takes may m k e x ≡ true
  unfolding takes
  join_byte x e a b = ⊎_elim (λ (s : x ≡ 255). or_left (eqb x 255) (between m (m + k) x && may x e) (eq-eqb x 255 s)) (λ s. ⊎_elim (λ (r : x ≡ 255). or_left (eqb x 255) (between m (m + k) x && may x e) (eq-eqb x 255 r))
      (λ (r : may x e ≡ true). or_right (eqb x 255) (between m (m + k) x && may x e) (both (between m (m + k) x) (may x e) (between_in m (m + k) x s.0 s.1) r)) b) a

  pub right_split : (e : ℕ) (p : List ℕ) → all_right may m k e p ≡ true → Within m k p × MayAll may e p
  unfolding all_right Within MayAll
  right_split e [] h = (tt, tt)
  right_split e (x ∷ p) h =
      let v = split_byte x e (and_left (takes may m k e x) (all_right may m k (suc e) p) h) in
      let u = right_split (suc e) p (and_right (takes may m k e x) (all_right may m k (suc e) p) h) in
      ((v.0, u.0), (v.1, u.1))

  right_join : (e : ℕ) (p : List ℕ) → Within m k p → MayAll may e p → all_right may m k e p ≡ true
  unfolding all_right Within MayAll
  right_join e [] a b = refl
  right_join e (x ∷ p) a b = both (takes may m k e x) (all_right may m k (suc e) p) (join_byte x e a.0 b.0) (right_join (suc e) p a.1 b.1)

-- ---- counting a piece: its members and its spares are all that it has

-- how many of the k members from m on stand in p, each as often as it does
sum_cnt : ℕ → ℕ → List ℕ → ℕ
sum_cnt m zero p = 0
sum_cnt m (suc k) p = cnt (m + k) p + sum_cnt m k p

sum_none : (m k : ℕ) → sum_cnt m k [] ≡ 0
unfolding sum_cnt cnt
sum_none m zero = refl
sum_none m (suc k) = let ih = sum_none m k in omega arith

-- a byte counts once if it is one of the members, and not otherwise
sum_miss : (m k x : ℕ) (p : List ℕ) → m + k ≤ x → sum_cnt m k (x ∷ p) ≡ sum_cnt m k p
unfolding sum_cnt cnt
sum_miss m zero x p l = refl
sum_miss m (suc k) x p l =
    let ih = sum_miss m k x p (omega arith) in
    let z = miss x (m + k) (λ e. omega arith) in
    omega arith

sum_hit : (m k x : ℕ) (p : List ℕ) → m ≤ x → x < m + k → sum_cnt m k (x ∷ p) ≡ suc (sum_cnt m k p)
unfolding sum_cnt cnt
sum_hit m zero x p a b = absurd (omega arith)
sum_hit m (suc k) x p a b =
    ⊎_elim
    (λ (e : x ≡ m + k).
    let z = hit x (m + k) e in
    let ih = sum_miss m k x p (omega arith) in
    omega arith)
    (λ (n : x ≡ m + k → ⊥).
    let z = miss x (m + k) n in
    let ih = sum_hit m k x p a (omega arith) in
    omega arith)
    (same? x (m + k))

sum_once : (m k : ℕ) (p : List ℕ) → Once m k p → sum_cnt m k p ≡ k
unfolding sum_cnt
sum_once m zero p h = refl
sum_once m (suc k) p h =
    let ih = sum_once m k p (λ v a b. h v a (omega arith)) in
    let z = h (m + k) (omega arith) (omega arith) in
    omega arith

length_block : (m k : ℕ) (p : List ℕ) → m + k ≤ 255 → Within m k p → length p ≡ sum_cnt m k p + cnt spare p
unfolding Within cnt
length_block m k [] l h = let z = sum_none m k in omega arith
length_block m k (x ∷ p) l h =
    let ih = length_block m k p l h.1 in
    ⊎_elim
    (λ (e : x ≡ 255).
    let z = hit x 255 e in
    let u = sum_miss m k x p (omega arith) in
    omega arith)
    (λ (s : (m ≤ x) × (x < m + k)).
    let z = miss x 255 (λ e. omega arith) in
    let u = sum_hit m k x p s.0 s.1 in
    omega arith)
    h.0

pub length_once : (m k : ℕ) (p : List ℕ) → m + k ≤ 255 → Within m k p → Once m k p → length p ≡ k + cnt spare p
length_once m k p l w o =
    let a = length_block m k p l w in
    let b = sum_once m k p o in
    omega arith

-- a number outside the block, and not spare, does not stand in the piece
pub cnt_outside : (m k v : ℕ) (p : List ℕ) → Within m k p → (v ≡ 255 → ⊥) → (v < m) ⊎ (m + k ≤ v) → cnt v p ≡ 0
unfolding Within cnt
cnt_outside m k v [] h n o = refl
cnt_outside m k v (x ∷ p) h n o =
    let ih = cnt_outside m k v p h.1 n o in
    let z = miss x v (λ e. ⊎_elim (λ (s : x ≡ 255). n (sym e ∙ s)) (λ (s : (m ≤ x) × (x < m + k)). ⊎_elim (λ (l : v < m). omega arith) (λ (l : m + k ≤ v). omega arith) o) h.0) in
    omega arith

-- ---- the shape of a piece

pub record Piece (m k min max : ℕ) (p : List ℕ) : Type 0 where
  pub within : Within m k p
  pub once : Once m k p
  pub enough : k + min ≤ length p
  pub few : length p ≤ k + max

module _ (may : ℕ → ℕ → Bool) (m k min max from to : ℕ) (p : List ℕ) where
  pub takes_piece : from ≤ to → Takes may (block m k min max) from to p → Piece m k min max p × MayAll may from p × (from + length p ≡ to)
  unfolding assigns
  takes_piece l t =
      let a = assigns_test t.assigned in
      let r = right_split may m k from p (and_left (all_right may m k from p) (all_once m k p) a) in
      let s = t.assigned.size in
      let e = t.enough in
      let f = t.few in
      (record { within = r.0; once = test_once m k p (and_right (all_right may m k from p) (all_once m k p) a); enough = omega arith; few = omega arith }, r.1, omega arith)

  pub piece_takes : Piece m k min max p → MayAll may from p → from + length p ≡ to → Takes may (block m k min max) from to p
  unfolding assigns
  piece_takes c r e =
      let x = c.enough in
      let y = c.few in
      record {
        assigned = test_assigns (omega arith) (both (all_right may m k from p) (all_once m k p) (right_join may m k from p c.within r) (once_test m k p c.once));
        enough = omega arith;
        few = omega arith;
      }

-- ---- items

module _ (m k : ℕ) (low : m + k ≤ 255) (p : List ℕ) (within : Within m k p) (once : Once m k p) where
  size : length p ≡ k + cnt spare p
  size = length_once m k p low within once

  pub star_says : (st : Star) → star_met st (cnt spare p) ≡ true → Piece m k (min_of st) (max_of st) p
  unfolding star_met
  star_says no_star h = let z = eqb-true (cnt spare p) 0 h in record { within = within; once = once; enough = omega (arith, size); few = omega (arith, size) }
  star_says (star min max) h =
      let a = leb-true min (cnt spare p) (and_left (leb min (cnt spare p)) (leb (cnt spare p) max) h) in
      let b = leb-true (cnt spare p) max (and_right (leb min (cnt spare p)) (leb (cnt spare p) max) h) in
      record { within = within; once = once; enough = omega (arith, size); few = omega (arith, size) }

  pub star_test : (st : Star) → k + min_of st ≤ length p → length p ≤ k + max_of st → star_met st (cnt spare p) ≡ true
  unfolding star_met
  star_test no_star a b = eq-eqb (cnt spare p) 0 (omega (arith, size))
  star_test (star min max) a b = both (leb min (cnt spare p)) (leb (cnt spare p) max) (le-leb min (cnt spare p) (omega (arith, size))) (le-leb (cnt spare p) max (omega (arith, size)))

-- the block b, taken apart
abbrev pub PieceOf : Rattle.blocks.specs.declared.Block.Block → List ℕ → Type 0
PieceOf b p = Piece b.first b.k b.min b.max p

module _ (m : ℕ) where
  all_spare_says : (p : List ℕ) → all_spare p ≡ true → Within m 0 p
  unfolding all_spare Within
  all_spare_says [] h = tt
  all_spare_says (b ∷ p) h = (inl (eqb-true b spare (and_left (eqb b spare) (all_spare p) h)), all_spare_says p (and_right (eqb b spare) (all_spare p) h))

  all_spare_test : (p : List ℕ) → Within m 0 p → all_spare p ≡ true
  unfolding all_spare Within
  all_spare_test [] h = refl
  all_spare_test (b ∷ p) h = both (eqb b spare) (all_spare p) (⊎_elim (λ (s : b ≡ 255). eq-eqb b spare s) (λ (s : (m ≤ b) × (b < m + 0)). absurd (omega arith)) h.0) (all_spare_test p h.1)

  -- one byte, which is the member m
  one_within : (p : List ℕ) → length p ≡ 1 → cnt m p ≡ 1 → Within m 1 p
  unfolding Within cnt
  one_within [] a b = absurd (omega arith)
  one_within (x ∷ y ∷ p) a b = absurd (omega arith)
  one_within (x ∷ []) a b = (⊎_elim (λ (e : x ≡ m). inr (omega arith, omega arith)) (λ (n : x ≡ m → ⊥). let z = miss x m n in absurd (omega arith)) (same? x m), tt)

  only : (p : List ℕ) → cnt m p ≡ 1 → Once m 1 p
  only p h v a b = let e : v ≡ m = omega arith in rw e h

module _ {L : Type 0} (m : ℕ) where
  pub group_says : (g : Group L) (p : List ℕ) → m + (block_of_group m g).k ≤ 255 → group_takes m g p ≡ true → PieceOf (block_of_group m g) p
  unfolding group_takes block_of_group
  group_says (grouped es st) p l h =
      let k = length es in
      let a = within_says m k p (and_left (within_block m k p) (all_once m k p && star_met st (cnt spare p)) h) in
      let r = and_right (within_block m k p) (all_once m k p && star_met st (cnt spare p)) h in
      let b = test_once m k p (and_left (all_once m k p) (star_met st (cnt spare p)) r) in
      star_says m k l p a b st (and_right (all_once m k p) (star_met st (cnt spare p)) r)

  pub group_test : (g : Group L) (p : List ℕ) → m + (block_of_group m g).k ≤ 255 → PieceOf (block_of_group m g) p → group_takes m g p ≡ true
  unfolding group_takes block_of_group
  group_test (grouped es st) p l c =
      let k = length es in
      both (within_block m k p) (all_once m k p && star_met st (cnt spare p)) (within_test m k p c.within)
      (both (all_once m k p) (star_met st (cnt spare p)) (once_test m k p c.once) (star_test m k l p c.within c.once st c.enough c.few))

  pub item_says : (i : Item L) (p : List ℕ) → m + (block_of_item m i).k ≤ 255 → item_takes m i p ≡ true → PieceOf (block_of_item m i) p
  unfolding item_takes block_of_item
  item_says (one e) p l h =
      let a = eqb-true (length p) 1 (and_left (eqb (length p) 1) (eqb (cnt m p) 1) h) in
      let b = eqb-true (cnt m p) 1 (and_right (eqb (length p) 1) (eqb (cnt m p) 1) h) in
      record { within = one_within m p a b; once = only m p b; enough = omega arith; few = omega arith }
  item_says (spares min max) p l h =
      let r = and_right (all_spare p) (leb min (length p) && leb (length p) max) h in
      let a = leb-true min (length p) (and_left (leb min (length p)) (leb (length p) max) r) in
      let b = leb-true (length p) max (and_right (leb min (length p)) (leb (length p) max) r) in
      record { within = all_spare_says m p (and_left (all_spare p) (leb min (length p) && leb (length p) max) h); once = λ v x y. absurd (omega arith); enough = omega arith; few = omega arith }
  item_says (permutation g) p l h = group_says g p l h

  pub item_test : (i : Item L) (p : List ℕ) → m + (block_of_item m i).k ≤ 255 → PieceOf (block_of_item m i) p → item_takes m i p ≡ true
  unfolding item_takes block_of_item
  item_test (one e) p l c =
      let a = c.enough in
      let b = c.few in
      both (eqb (length p) 1) (eqb (cnt m p) 1) (eq-eqb (length p) 1 (omega arith)) (eq-eqb (cnt m p) 1 (c.once m (omega arith) (omega arith)))
  item_test (spares min max) p l c =
      let a = c.enough in
      let b = c.few in
      both (all_spare p) (leb min (length p) && leb (length p) max) (all_spare_test m p c.within) (both (leb min (length p)) (leb (length p) max) (le-leb min (length p) (omega arith)) (le-leb (length p) max (omega arith)))
  item_test (permutation g) p l c = group_test g p l c
