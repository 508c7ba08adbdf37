-- Assignments (docs/RULES.md, "When a list matches"). A witness is a list of bytes, one for each element: a member's number, or 255 (spare).
-- L is the type of the leaves, X that of the elements, and hits e x says whether the element template e matches the element x.
-- spare            == 255
-- right_bytes hits es xs w == w has one byte for each element of xs, and an element is given only to a member that matches it
-- none_twice k w    == no member below k is given twice in w
-- all_spare p       == every byte of the piece p is spare
-- within_block m k p == every byte of the piece p is spare or one of the members m .. m + k - 1
-- numbered min max n == n is min to max
-- star_met st n     == n spare elements are allowed: none without a 20, min to max with one
-- group_takes m g p == the permutation g, whose first member is m, takes the piece p
-- item_takes m i p  == the item i, whose first member is m, takes the piece p
-- some_cut n f      == f holds of a number 0 to n
-- cuts m is w      == w can be cut into consecutive pieces, one for each of the items is in order, the first of whose members is m
-- body_met b w      == what the kind of the body asks besides
-- length_met a n    == a list of n elements meets the length attribute a
-- obeys_by hits t xs w == w is an assignment of the list xs that obeys the rules of the template t
-- obeys f t xs w   == the same for the family f
-- Obeys f t xs w  <-> the same as a statement
-- Assumes nothing: these are definitions.
use Rattle.std.specs.Prelude.{◌≡◌, Bool, true, false, ◌&&◌, ◌||◌, List, [], ◌∷◌, ℕ, zero, suc, ◌+◌, eqb, leb, length, take, drop}
use Rattle.facts.specs.Counting.{between, cnt}
use Rattle.blocks.specs.Assignment.{all_once}
use Rattle.grammar.specs.Element.{Elem}
use Rattle.grammar.specs.Template.{Star, no_star, star, Group, grouped, Item, one, spares, permutation, Body, record_of, set_of, superset, subset, Length, any_length, between as length_between, Template, template, plainly, members_of_item, members_of}
use Rattle.format.specs.declared.Family.{Family}
use Rattle.grammar.specs.Family.{LeafOf, ElementOf, matches_of}
use Rattle.grammar.specs.Members.{member_hits}

abbrev pub spare : ℕ
spare = 255

-- "An assignment gives each element a member's number or 255 (spare)"
module _ {L X : Type 0} (hits : Elem L → X → Bool) where
  unfoldable pub right_bytes : List (Elem L) → List X → List ℕ → Bool
  right_bytes es [] [] = true
  right_bytes es [] (b ∷ w) = false
  right_bytes es (x ∷ xs) [] = false
  right_bytes es (x ∷ xs) (b ∷ w) = (eqb b spare || member_hits hits es b x) && right_bytes es xs w

-- "No member is given twice"
unfoldable pub none_twice : ℕ → List ℕ → Bool
none_twice zero w = true
none_twice (suc k) w = leb (cnt k w) 1 && none_twice k w

unfoldable pub all_spare : List ℕ → Bool
all_spare [] = true
all_spare (b ∷ p) = eqb b spare && all_spare p

unfoldable pub within_block : ℕ → ℕ → List ℕ → Bool
within_block m k [] = true
within_block m k (b ∷ p) = (eqb b spare || between m (m + k) b) && within_block m k p

abbrev pub numbered : ℕ → ℕ → ℕ → Bool
numbered min max n = leb min n && leb n max

unfoldable pub star_met : Star → ℕ → Bool
star_met no_star n = eqb n 0
star_met (star min max) n = numbered min max n

-- "A permutation takes a piece in which each of its members is assigned once; without a 20 in it nothing there is spare, with one the spare
-- elements there number min to max."
unfoldable pub group_takes : {L : Type 0} → ℕ → Group L → List ℕ → Bool
group_takes m (grouped es st) p = within_block m (length es) p && (all_once m (length es) p && star_met st (cnt spare p))

-- "An element template takes a piece of one element, assigned to it. A 20 takes a piece of min to max elements, all spare."
unfoldable pub item_takes : {L : Type 0} → ℕ → Item L → List ℕ → Bool
item_takes m (one e) p = eqb (length p) 1 && eqb (cnt m p) 1
item_takes m (spares min max) p = all_spare p && numbered min max (length p)
item_takes m (permutation g) p = group_takes m g p

unfoldable pub some_cut : ℕ → (ℕ → Bool) → Bool
some_cut zero f = f 0
some_cut (suc n) f = f (suc n) || some_cut n f

-- "the list can be cut into consecutive pieces, one for each item in order"
unfoldable pub cuts : {L : Type 0} → ℕ → List (Item L) → List ℕ → Bool
cuts m [] w = eqb (length w) 0
cuts m (i ∷ is) w = some_cut (length w) (λ n. item_takes m i (take n w) && cuts (m + length (members_of_item i)) is (drop n w))

-- "set of: the same as one permutation over the whole list. superset: every member is assigned; other elements are spare, any number.
-- subset: every element is assigned; members may be unused."
unfoldable pub body_met : {L : Type 0} → Body L → List ℕ → Bool
body_met (record_of is) w = cuts 0 is w
body_met (set_of g) w = group_takes 0 g w
body_met (superset es) w = all_once 0 (length es) w
body_met (subset es) w = eqb (cnt spare w) 0

unfoldable pub length_met : Length → ℕ → Bool
length_met any_length n = true
length_met (length_between min max) n = numbered min max n

-- "Under sheet 1 a subset's assignment may give a member many times"
unfoldable pub obeys_by : {L X : Type 0} → (Elem L → X → Bool) → Template L → List X → List ℕ → Bool
obeys_by hits (template h b) xs w =
    right_bytes hits (members_of b) xs w
    && ((plainly h b || none_twice (length (members_of b)) w)
    && (body_met b w
    && length_met h.length (length xs)))

abbrev pub obeys : (f : Family) → Template (LeafOf f) → List (ElementOf f) → List ℕ → Bool
obeys f t xs w = obeys_by (matches_of f) t xs w

abbrev pub Obeys : (f : Family) → Template (LeafOf f) → List (ElementOf f) → List ℕ → Type 0
Obeys f t xs w = obeys f t xs w ≡ true
