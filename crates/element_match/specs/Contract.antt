-- What the functions say. A place is an index into the template's bytes t; what stands there is `drop place t`. A list is lent as the integers xs and the
-- floats ys, of which one is empty; `list_of f xs ys` is that of the family f. A mask has the numbers of its elements.
-- ElementAt f t at <-> an element template of the family f at depth 1 stands at `at`, with all that it holds
-- Among asked xs <-> the numbers of the mask are of elements of xs
-- Tells asked test mask <-> of the asked ones the mask has those for which the test holds
-- Missed xs asked lower upper mask <-> of the asked elements the mask has those that lie outside the bounds; each is a 32-bit integer
-- Members f t at n left <-> n element templates of the family f with so many depths left stand at `at`
-- Asks t at xs ys asked <-> an element template of some family stands at `at`, and the asked ones are of its list; AsksOne t at xs ys e <-> e is one of its list
-- Walks t at n left xs ys asked <-> n element templates of some family stand at `at`, and the asked ones are of its list
-- HitsAt f t at xs asked mask <-> of the asked elements of xs the mask has those that the element template at `at` matches
-- OneHit f t at x hit <-> `hit` says whether it matches x
-- turn turned b == b, or its opposite where `turned` holds
-- WalkTells f turned t at n left xs asked mask next <-> of the asked elements the mask has those that at least one of them matches (turned false), or
--   those that none of them does (turned true), and `next` is the place after them
-- mask_in r, place_in r == the mask, and the place, that the number r says
-- Assumes nothing: these are definitions.
use Rattle.std.specs.Prelude.{◌≡◌, Bool, true, false, not, ◌&&◌, List, ℕ, ◌≤◌, ◌<◌, ◌%◌, ◌/◌, length, drop, get_or, ℤ, pos, Float}
use Rattle.std.specs.Int.Signed.{le_z}
use Rattle.integers.specs.Integer.{Word}
use Rattle.masks.specs.Masks.{bit}
use Rattle.format.specs.declared.Family.{Family}
use Rattle.grammar.specs.Element.{Elem, Elems}
use Rattle.grammar.specs.Family.{LeafOf, leaves_of, ElementOf, no_element, matches_of, any_matches_of, list_of}
use Rattle.grammar.specs.Read.{got}
use Rattle.grammar.specs.Reading.{counted, many, elem, outermost}
use Rattle.leaves.specs.Leaves.{ElementHere}

abbrev pub ElementAt : Family → List ℕ → ℕ → Type 0
ElementAt f t at = ElementHere f t at

pub record Among {X : Type 0} (asked : ℕ) (xs : List X) : Type 0 where
  pub inside : (j : ℕ) → bit asked j ≡ true → j < length xs

pub record Tells (asked : ℕ) (test : ℕ → Bool) (mask : ℕ) : Type 0 where
  pub told : (j : ℕ) → bit mask j ≡ (bit asked j && test j)

pub record Missed (xs : List ℤ) (asked : ℕ) (lower upper : ℤ) (mask : ℕ) : Type 0 where
  pub words : (j : ℕ) → bit asked j ≡ true → Word (get_or xs j (pos 0))
  pub outside : Tells asked (λ j. not (le_z lower (get_or xs j (pos 0)) && le_z (get_or xs j (pos 0)) upper)) mask

pub record Members (f : Family) (t : List ℕ) (at n left : ℕ) : Type 0 where
  pub inside : at ≤ length t
  pub leaves : ℕ
  pub found : Elems (LeafOf f)
  pub after : ℕ
  pub rest : List ℕ
  pub reads : many (elem (leaves_of f) left) n leaves (drop at t) ≡ got (counted found after) rest

pub record Asks (t : List ℕ) (at : ℕ) (xs : List ℤ) (ys : List Float) (asked : ℕ) : Type 0 where
  pub family : Family
  pub here : ElementAt family t at
  pub short : length t < 65536
  pub among : Among asked (list_of family xs ys)

pub record AsksOne (t : List ℕ) (at : ℕ) (xs : List ℤ) (ys : List Float) (e : ℕ) : Type 0 where
  pub family : Family
  pub here : ElementAt family t at
  pub short : length t < 65536
  pub inside : e < length (list_of family xs ys)
  pub few : e < 32

pub record Walks (t : List ℕ) (at n left : ℕ) (xs : List ℤ) (ys : List Float) (asked : ℕ) : Type 0 where
  pub family : Family
  pub members : Members family t at n left
  pub short : length t < 65536
  pub among : Among asked (list_of family xs ys)

pub record HitsAt (f : Family) (t : List ℕ) (at : ℕ) (xs : List (ElementOf f)) (asked mask : ℕ) : Type 0 where
  pub right : (e : Elem (LeafOf f)) (k : ℕ) (rest : List ℕ) → outermost (leaves_of f) (drop at t) ≡ got (counted e k) rest → Tells asked (λ j. matches_of f e (get_or xs j (no_element f))) mask

pub record OneHit (f : Family) (t : List ℕ) (at : ℕ) (x : ElementOf f) (hit : Bool) : Type 0 where
  pub right : (e : Elem (LeafOf f)) (k : ℕ) (rest : List ℕ) → outermost (leaves_of f) (drop at t) ≡ got (counted e k) rest → hit ≡ matches_of f e x

abbrev pub turn : Bool → Bool → Bool
turn false b = b
turn true b = not b

pub record WalkTells (f : Family) (turned : Bool) (t : List ℕ) (at n left : ℕ) (xs : List (ElementOf f)) (asked mask next : ℕ) : Type 0 where
  pub inside : next ≤ length t
  pub right : (k : ℕ) (es : Elems (LeafOf f)) (after : ℕ) (rest : List ℕ) → many (elem (leaves_of f) left) n k (drop at t) ≡ got (counted es after) rest
      → Tells asked (λ j. turn turned (any_matches_of f es (get_or xs j (no_element f)))) mask × (drop next t ≡ rest)

abbrev pub mask_in : ℕ → ℕ
mask_in r = r % 4294967296

abbrev pub place_in : ℕ → ℕ
place_in r = r / 4294967296
