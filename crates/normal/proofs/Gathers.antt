-- The ranges that the walk gathers in two arrays, turn by turn: one range stored, those of a call, and a part that is lent and comes back.
-- Assumes nothing.
use mathlib.Core.Path.{◌≡◌, refl, sym, ap, ap₂, ◌∙◌}
use mathlib.Core.List.{List, [], ◌∷◌, ◌++◌, append_assoc, append-nil}
use Prim.Native.Nat.{ℕ, ◌+◌, ◌-◌, ◌*◌, ◌≤◌, ◌<◌}
use native.Mathlib.Omega.{arith}
use native.Mathlib.Numerals.{add-one}
use lib.IntN.{ℤ}
use lib.ListN.{length, take, drop, set, length-append, length-set, length-drop, drop_of_length-le}
use lib.Seq.{drop_at, take_at, take_all, length-take-le}
use borrow.Rule.Slice.PartMut.{put_mid}
use Rattle.ranges.specs.Shown.{view, Became}
use Rattle.ranges.specs.Spans.{Span, span}
use Rattle.ranges.proofs.Views.{length_view, view_push, view_take, view_drop, view_cut, view_of_take}
use Rattle.elements.specs.Contract.{place_in, count_in}
use Rattle.normal.specs.Contract.{More}

-- a place and a count as one number
pub packed : (n p : ℕ) → p < 65536 → (count_in (n * 65536 + p) ≡ n) × (place_in (n * 65536 + p) ≡ p)
packed n p h = (omega arith, omega arith)

-- ---- more ranges

pub more_none : (from : ℕ) (los his : List ℤ) → More from los his los his from []
more_none from los his = record { size_low = refl; size_high = refl; count = omega arith; ranges = sym (append-nil (view (count_in from) los his)) }

pub more_and : (from s r : ℕ) (los his los₁ his₁ los₂ his₂ : List ℤ) (rs ws : List Span) → More from los his los₁ his₁ s rs → More s los₁ his₁ los₂ his₂ r ws
    → More from los his los₂ his₂ r (rs ++ ws)
more_and from s r los his los₁ his₁ los₂ his₂ rs ws p q = record {
  size_low = q.size_low ∙ p.size_low;
  size_high = q.size_high ∙ p.size_high;
  count = omega (arith, p.count, q.count, length-append rs ws);
  ranges = q.ranges ∙ ap (λ (z : List Span). z ++ ws) p.ranges ∙ append_assoc (view (count_in from) los his) rs ws;
}

-- one that is stored
pub more_one : (s r : ℕ) (los his : List ℤ) (a b : ℤ) → count_in s < length los → count_in s < length his → count_in r ≡ count_in s + 1
    → More s los his (set los (count_in s) a) (set his (count_in s) b) r (span a b ∷ [])
more_one s r los his a b p q e = record {
  size_low = length-set los (count_in s) a;
  size_high = length-set his (count_in s) b;
  count = e;
  ranges = ap (λ (n : ℕ). view n (set los (count_in s) a) (set his (count_in s) b)) (e ∙ add-one (count_in s)) ∙ view_push (count_in s) los his a b p q;
}

-- the same from a place on
pub more_from : (from from' r : ℕ) (los his los' his' : List ℤ) (rs : List Span) → count_in from ≡ count_in from' → More from los his los' his' r rs → More from' los his los' his' r rs
more_from from from' r los his los' his' rs e m = record {
  size_low = m.size_low;
  size_high = m.size_high;
  count = m.count ∙ ap (λ (n : ℕ). n + length rs) e;
  ranges = m.ranges ∙ ap (λ (n : ℕ). view n los his ++ rs) e;
}

-- ---- a part that is lent

module _ (xs : List ℤ) (n : ℕ) (p : n ≤ length xs) where
  pub lent : take (length xs - n) (drop n xs) ≡ drop n xs
  lent = take_all (length xs - n) (drop n xs) (rw (length-drop n xs) (omega arith))

  pub lent_length : length (take (length xs - n) (drop n xs)) ≡ length xs - n
  lent_length = ap length lent ∙ length-drop n xs

  module _ (ys : List ℤ) where
    back : put_mid n (length xs - n) xs ys ≡ take n xs ++ ys
    back =
        let e : drop (length xs - n) (drop n xs) ≡ [] = drop_of_length-le (drop n xs) {i = length xs - n} (rw (length-drop n xs) (omega arith)) in
        ap (λ (z : List ℤ). take n xs ++ (ys ++ z)) e ∙ ap (λ (z : List ℤ). take n xs ++ z) (append-nil ys)

    size : length (take n xs) ≡ n
    size = length-take-le n xs p

    pub back_take : take n (put_mid n (length xs - n) xs ys) ≡ take n xs
    back_take = ap (take n) back ∙ take_at (take n xs) ys n size

    pub back_drop : drop n (put_mid n (length xs - n) xs ys) ≡ ys
    back_drop = ap (drop n) back ∙ drop_at (take n xs) ys n size

    pub back_length : length ys ≡ length (take (length xs - n) (drop n xs)) → length (put_mid n (length xs - n) xs ys) ≡ length xs
    back_length e = ap length back ∙ length-append (take n xs) ys ∙ omega (arith, size, lent_length)

-- the ranges after those that stood there are lent, and others come back in their place
module _ (from s : ℕ) (los his los₁ his₁ : List ℤ) (rs : List Span) (m : More from los his los₁ his₁ s rs) (pl : count_in from ≤ length los) (ph : count_in from ≤ length his) where
  abbrev n : ℕ
  n = count_in from

  abbrev part_low : List ℤ
  part_low = take (length los₁ - n) (drop n los₁)

  abbrev part_high : List ℤ
  part_high = take (length his₁ - n) (drop n his₁)

  low_fits : n ≤ length los₁
  low_fits = omega (arith, m.size_low)

  high_fits : n ≤ length his₁
  high_fits = omega (arith, m.size_high)

  stood : length (view n los his) ≡ n
  stood = length_view n los his pl ph

  pub part_view : view (count_in s - n) part_low part_high ≡ rs
  part_view =
      ap₂ (λ (x y : List ℤ). view (count_in s - n) x y) (lent los₁ n low_fits) (lent his₁ n high_fits)
      ∙ sym (view_drop n (count_in s) los₁ his₁) ∙ ap (drop n) m.ranges ∙ drop_at (view n los his) rs n stood

  front_same : view n los₁ his₁ ≡ view n los his
  front_same = sym (view_take n (count_in s) los₁ his₁ (omega (arith, m.count))) ∙ ap (take n) m.ranges ∙ take_at (view n los his) rs n stood

  pub more_back : (r g : ℕ) (los₂ his₂ : List ℤ) (ws : List Span) → Became part_low part_high los₂ his₂ g ws → count_in r ≡ n + g
      → More from los his (put_mid n (length los₁ - n) los₁ los₂) (put_mid n (length his₁ - n) his₁ his₂) r ws
  more_back r g los₂ his₂ ws b e =
      let los₃ = put_mid n (length los₁ - n) los₁ los₂ in
      let his₃ = put_mid n (length his₁ - n) his₁ his₂ in
      let front : view n los₃ his₃ ≡ view n los his =
      sym (view_of_take n los₃ his₃) ∙ ap₂ (λ (x y : List ℤ). view n x y) (back_take los₁ n low_fits los₂) (back_take his₁ n high_fits his₂) ∙ view_of_take n los₁ his₁ ∙ front_same in
      let left : count_in r - n ≡ g = omega arith in
      record {
        size_low = back_length los₁ n low_fits los₂ b.size_low ∙ m.size_low;
        size_high = back_length his₁ n high_fits his₂ b.size_high ∙ m.size_high;
        count = e ∙ ap (λ (k : ℕ). n + k) b.count;
        ranges =
            view_cut n (count_in r) los₃ his₃ (omega arith)
            ∙ ap₂ (λ (x y : List Span). x ++ y) front
            (ap₂ (λ (x y : List ℤ). view (count_in r - n) x y) (back_drop los₁ n low_fits los₂) (back_drop his₁ n high_fits his₂) ∙ ap (λ (k : ℕ). view k los₂ his₂) left ∙ b.ranges);
      }
