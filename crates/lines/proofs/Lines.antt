-- A line put together: each part after the one before it, with how many bytes there are by then; and how long a line is. Assumes nothing.
use mathlib.Core.Path.{◌≡◌, refl, sym, ap, ◌∙◌}
use mathlib.Core.List.{List, [], ◌∷◌, ◌++◌, append_assoc, append-nil}
use Prim.Native.Nat.{ℕ, zero, suc, ◌+◌, ◌*◌, ◌≤◌, ◌<◌}
use native.Mathlib.Omega.{arith}
use native.Mathlib.Numerals.{add-one}
use native.Mathlib.Nat.{add-zero}
use lib.ListN.{length, take, drop, get_or, set, length-append, length-set, take-append-drop}
use lib.Seq.{take-suc}
use Rattle.lines.specs.Line.{decimal, space_then, spaced, line}
use Rattle.lines.specs.Contract.{placed, Wrote}
use Rattle.lines.proofs.Places.{placed_set, placed_then, length_placed, placed_front}
use Rattle.lines.proofs.Digits.{length_decimal}

-- ---- a space and a number

length_next : (n : ℕ) → length (space_then n) ≡ length (decimal n) + 1
unfolding space_then
length_next n = sym (add-one (length (decimal n)))

pub byte_next : (b : ℕ) → b < 256 → length (space_then b) ≤ 4
byte_next b h = let l = length_next b in let d : length (decimal b) ≤ 3 = length_decimal 2 b (omega arith) in omega arith

pub few_next : (n : ℕ) → n ≤ 32 → length (space_then n) ≤ 3
few_next n h = let l = length_next n in let d : length (decimal n) ≤ 2 = length_decimal 1 n (omega arith) in omega arith

pub digit_next : (n : ℕ) → n < 10 → length (space_then n) ≤ 2
digit_next n h = let l = length_next n in let d : length (decimal n) ≤ 1 = length_decimal 0 n (omega arith) in omega arith

-- the count of a list's elements, by that count
pub count_next : (n : ℕ) → n ≤ 32 → length (space_then n) ≤ 2 + n
count_next zero h = digit_next 0 (omega arith)
count_next (suc n) h = let f = few_next (suc n) h in omega arith

pub number_few : (n : ℕ) → n < 100000 → length (decimal n) ≤ 5
number_few n h = length_decimal 4 n h

module _ (o o' : List ℕ) (at n : ℕ) (fits : at + length (space_then n) ≤ length o) where
  pub next_inside : at < length o
  next_inside = let l = length_next n in omega arith

  pub next_fits : at + 1 + length (decimal n) ≤ length (set o at 32)
  next_fits = let l = length_next n in let s = length-set o at 32 in omega arith

  pub next_place : (r : ℕ) → r ≡ at + 1 + length (decimal n) → r ≡ at + length (space_then n)
  next_place r h = let l = length_next n in omega arith

  pub next_placed : o' ≡ placed (at + 1) (decimal n) (set o at 32) → o' ≡ placed at (space_then n) o
  unfolding space_then
  next_placed h =
      h
      ∙ ap (λ (l : List ℕ). placed (at + 1) (decimal n) l) (placed_set o at 32 next_inside)
      ∙ placed_then o (32 ∷ []) (decimal n) at (at + 1) (let l = next_inside in omega arith) refl

  pub next_length : o' ≡ placed (at + 1) (decimal n) (set o at 32) → length o' ≡ length o
  next_length h = ap length (next_placed h) ∙ length_placed o (space_then n) at fits

-- ---- bytes, a space in front of each

spaced_append : (xs ys : List ℕ) → spaced (xs ++ ys) ≡ spaced xs ++ spaced ys
unfolding spaced
spaced_append [] ys = refl
spaced_append (x ∷ xs) ys = ap (λ (l : List ℕ). space_then x ++ l) (spaced_append xs ys) ∙ sym (append_assoc (space_then x) (spaced xs) (spaced ys))

spaced_one : (x : ℕ) → spaced (x ∷ []) ≡ space_then x
unfolding spaced
spaced_one x = append-nil (space_then x)

spaced_more : (w : List ℕ) (i : ℕ) → i < length w → spaced (take (i + 1) w) ≡ spaced (take i w) ++ space_then (get_or w i 0)
spaced_more w i h =
    ap (λ (j : ℕ). spaced (take j w)) (add-one i)
    ∙ ap spaced (take-suc w i 0 h)
    ∙ spaced_append (take i w) (get_or w i 0 ∷ [])
    ∙ ap (λ (l : List ℕ). spaced (take i w) ++ l) (spaced_one (get_or w i 0))

pub record Each (o w : List ℕ) (at : ℕ) (o' : List ℕ) (p i : ℕ) : Type 0 where
  pub bytes : o' ≡ placed at (spaced (take i w)) o
  pub place : p ≡ at + length (spaced (take i w))
  pub few : length (spaced (take i w)) ≤ 4 * i
  pub inside : i ≤ length w

placed_nothing : (o : List ℕ) (at : ℕ) → o ≡ placed at [] o
unfolding placed
placed_nothing o at = sym (take-append-drop at o) ∙ ap (λ (j : ℕ). take at o ++ drop j o) (sym (add-zero at))

module _ (o w : List ℕ) (at : ℕ) (fits : at + 4 * length w ≤ length o) where
  pub each_start : Each o w at o at 0
  unfolding spaced
  each_start = record { bytes = placed_nothing o at; place = sym (add-zero at); few = omega arith; inside = omega arith }

  module _ (o' : List ℕ) (p i : ℕ) where
    pub each_length : Each o w at o' p i → length o' ≡ length o
    each_length e =
        let few = e.few in
        let inside = e.inside in
        ap length e.bytes ∙ length_placed o (spaced (take i w)) at (omega arith)

    pub each_fits : Each o w at o' p i → i < length w → get_or w i 0 < 256 → p + length (space_then (get_or w i 0)) ≤ length o'
    each_fits e more small =
        let l = each_length e in
        let b = byte_next (get_or w i 0) small in
        let few = e.few in
        let place = e.place in
        omega arith

    pub each_step : Each o w at o' p i → i < length w → get_or w i 0 < 256 → (o'' : List ℕ) (q : ℕ) → o'' ≡ placed p (space_then (get_or w i 0)) o'
        → q ≡ p + length (space_then (get_or w i 0)) → Each o w at o'' q (i + 1)
    each_step e more small o'' q h next =
        let few = e.few in
        let inside = e.inside in
        let place = e.place in
        let b = byte_next (get_or w i 0) small in
        let grown = spaced_more w i more in
        let size : length (spaced (take (i + 1) w)) ≡ length (spaced (take i w)) + length (space_then (get_or w i 0)) = ap length grown ∙ length-append (spaced (take i w)) (space_then (get_or w i 0)) in
        record {
          bytes =
              h
              ∙ ap (λ (l : List ℕ). placed p (space_then (get_or w i 0)) l) e.bytes
              ∙ placed_then o (spaced (take i w)) (space_then (get_or w i 0)) at p (omega arith) place
              ∙ ap (λ (l : List ℕ). placed at l o) (sym grown);
          place = omega arith;
          few = omega arith;
          inside = omega arith;
        }

pub length_spaced : (w : List ℕ) → ((i : ℕ) → i < length w → get_or w i 0 < 256) → length (spaced w) ≤ 4 * length w
unfolding spaced
length_spaced [] small = omega arith
length_spaced (x ∷ w) small =
    let b = byte_next x (small 0 (omega arith)) in
    let ih = length_spaced w (λ i h. small (suc i) (omega arith)) in
    let l = length-append (space_then x) (spaced w) in
    omega arith

-- ---- the line

pub record Built (o l : List ℕ) (most : ℕ) (o' : List ℕ) (p : ℕ) : Type 0 where
  pub bytes : o' ≡ placed 0 l o
  pub place : p ≡ length l
  pub few : length l ≤ most

pub built_first : (o bs o' : List ℕ) (p most : ℕ) → o' ≡ placed 0 bs o → p ≡ 0 + length bs → length bs ≤ most → Built o bs most o' p
built_first o bs o' p most h e few = record { bytes = h; place = omega arith; few = few }

module _ (o l : List ℕ) (most : ℕ) (o' : List ℕ) (p : ℕ) (built : Built o l most o' p) (room : most ≤ length o) where
  pub built_length : length o' ≡ length o
  built_length = let few = built.few in ap length built.bytes ∙ length_placed o l 0 (omega arith)

  pub built_fits : (bs : List ℕ) (m : ℕ) → length bs ≤ m → most + m ≤ length o → p + length bs ≤ length o'
  built_fits bs m h fits = let few = built.few in let place = built.place in let s = built_length in omega arith

  pub built_room : (m : ℕ) → most + m ≤ length o → p + m ≤ length o'
  built_room m fits = let few = built.few in let place = built.place in let s = built_length in omega arith

  pub built_next : (bs : List ℕ) (m : ℕ) (o'' : List ℕ) (q : ℕ) → length bs ≤ m → o'' ≡ placed p bs o' → q ≡ p + length bs → Built o (l ++ bs) (most + m) o'' q
  built_next bs m o'' q h e next =
      let few = built.few in
      let place = built.place in
      let size = length-append l bs in
      record {
        bytes = e ∙ ap (λ (x : List ℕ). placed p bs x) built.bytes ∙ placed_then o l bs 0 p (omega arith) (omega arith);
        place = omega arith;
        few = omega arith;
      }

pub line_is : (k a n : ℕ) (w : List ℕ) → (((decimal k ++ space_then a) ++ space_then n) ++ spaced w) ++ (10 ∷ []) ≡ line k (a ∷ n ∷ w)
unfolding line spaced
line_is k a n w = simp append_assoc

pub line_length : (k a n : ℕ) (w : List ℕ) → length (line k (a ∷ n ∷ w)) ≡ length (decimal k) + length (space_then a) + length (space_then n) + length (spaced w) + 1
line_length k a n w =
    let whole = sym (ap length (line_is k a n w)) ∙ length-append (((decimal k ++ space_then a) ++ space_then n) ++ spaced w) (10 ∷ []) in
    let with_count = length-append ((decimal k ++ space_then a) ++ space_then n) (spaced w) in
    let with_answer = length-append (decimal k ++ space_then a) (space_then n) in
    let first = length-append (decimal k) (space_then a) in
    omega arith

pub line_wrote : (o : List ℕ) (k a n : ℕ) (w : List ℕ) (most : ℕ) (o' : List ℕ) (p : ℕ) → Built o (((decimal k ++ space_then a) ++ space_then n) ++ spaced w) most o' p → most < length o
    → Wrote (line k (a ∷ n ∷ w)) o (set o' p 10) (p + 1)
line_wrote o k a n w most o' p built room =
    let front = ((decimal k ++ space_then a) ++ space_then n) ++ spaced w in
    let few = built.few in
    let place = built.place in
    let same = built_length o front most o' p built (omega arith) in
    let is = line_is k a n w in
    let size : length (line k (a ∷ n ∷ w)) ≡ length front + 1 = sym (ap length is) ∙ length-append front (10 ∷ []) in
    let last = built_next o front most o' p built (omega arith) (10 ∷ []) 1 (set o' p 10) (p + 1) (omega arith) (placed_set o' p 10 (omega arith)) (omega arith) in
    record {
      bytes = last.bytes ∙ ap (λ (l : List ℕ). placed 0 l o) is ∙ placed_front o (line k (a ∷ n ∷ w));
      count = omega arith;
    }

-- what was written is within the buffer
pub wrote_inside : (l before after : List ℕ) (wrote : ℕ) → Wrote l before after wrote → wrote ≤ length after
wrote_inside l before after wrote w =
    let size = ap length w.bytes ∙ length-append l (drop (length l) before) in
    let count = w.count in
    omega arith
