-- Bytes read to whole templates (docs/RULES.md, "The records" and "Numbers given back").
-- has_star st      == whether st is a 20; as_spares st == the 20 st as an item of a record of
-- fewest kind     == the least n in a body of this kind
-- numbered m h o  == the member o, whose first record is h, with m members before it: h's own fault, 8 for a 33rd, else o
-- put_member e o   == the member e in front of the group o; put_item i o == the item i in front of the items o
-- then_members o f == the member o, then what f reads after it; then_star o f == the same of a 20; then_items m o f == the same of an item
-- member m s      == the element template that stands as an item at the front of s, with m members before it
-- star_here seen s == the 20 at the front of s; `seen`: its set of or permutation has one already
-- members stars n m st s == n items of a set of or permutation (stars: a 20 is allowed), superset or subset (it is not), with
--                    m members and the 20 st before them
-- items n m s     == n items of a record of, with m members before them
-- permutation_here m s == the permutation at the front of s, with m members before it
-- item m s        == the item of a record of at the front of s, with m members before it
-- contents kind n s == what follows the header of a body of this kind with n items
-- clashes v a kind n == row 9: superset with length min below n, or, under sheet 2, subset with length max above n
-- body_here h s    == the body at the front of s, after the heads h
-- sheet_of v       == the sheet whose number is v, 1 or 2
-- sheet_here h s   == the heads h with the sheet at the front of s, or h where none stands there
-- length_here h s  == the heads h with the length attribute at the front of s, or h where none stands there
-- type_here f h s  == the heads h with the element type at the front of s, or h where none stands there
-- rest_here f h s  == the heads h with the length attribute and the element type at the front of s
-- heads_here f s   == the heads at the front of s, in their order: a head that comes too late, or twice, stands where a body is due
-- template_here f s == the template of the family f at the front of s
-- read_template f s == s as a whole template
-- What stands in a body is read by the reader leaf_head of the leaves. At one record the tests stand in the order of docs/RULES.md, "Numbers given back":
-- 3 for a missing kind, 4, 3 for a short body, 5, 6, 7, 8, 9.
-- Assumes nothing: these are definitions.
use Rattle.std.specs.Prelude.{ℕ, zero, suc, ◌+◌, List, [], ◌∷◌, Bool, true, false, not, ◌||◌, ◌&&◌, cond, length, get_or, drop, ltb, eqb}
use Rattle.grammar.specs.Element.{Elem}
use Rattle.format.specs.declared.Family.{Family}
use Rattle.integers.specs.Integer.{int_at}
use Rattle.grammar.specs.Family.{LeafOf, has_types, leaves_in}
use Rattle.grammar.specs.Template.{Star, no_star, star, Group, grouped, Item, one, spares, permutation, Body, record_of, set_of, superset, subset, Length, any_length, between, Sheet, sheet1, sheet2, is_plain, Heads, no_heads, Template, template, members_of_group, members_of_item}
use Rattle.grammar.specs.Record.{Head, fault, leaf_here, group, kind_of, outside, count_fault, bounds_fault, sheet_fault, type_fault, head}
use Rattle.grammar.specs.Read.{Read, refuse, got, or_refuse, refuse_or, ended, limited, map_read, and_then}
use Rattle.grammar.specs.Reading.{uncounted, outermost}

abbrev pub has_star : Star → Bool
has_star no_star = false
has_star (star min max) = true

abbrev pub as_spares : {L : Type 0} → Star → Item L
as_spares no_star = spares 0 0
as_spares (star min max) = spares min max

-- "a second 20 in one set of or permutation": after its own 3 and 6
unfoldable pub star_here : Bool → List ℕ → Read Star
star_here seen s =
    refuse_or (bounds_fault s)
    (or_refuse seen 8
    (got (star (get_or s 1 0) (get_or s 2 0)) (drop 3 s)))

-- "n is .. 0 to 32 in 10 and 11, 1 to 32 in 12, 13 and 21"
abbrev pub fewest : ℕ → ℕ
fewest kind = cond (ltb kind 0x12) 0 1

-- "Under sheet 1 .. rule 9 isn't applied to subset"
unfoldable pub clashes : Sheet → Length → ℕ → ℕ → Bool
clashes v any_length kind n = false
clashes v (between min max) kind n = (eqb kind 0x12 && ltb min n) || (eqb kind 0x13 && (not (is_plain v) && ltb n max))

module _ {L : Type 0} where
  -- "a 33rd member": at its first record, after that record's own faults and before anything inside it
  unfoldable pub numbered : ℕ → Head L → Read (Elem L) → Read (Elem L)
  numbered m (fault r) o = refuse r
  numbered m (leaf_here l s) o = or_refuse (ltb 31 m) 8 o
  numbered m (group c n s) o = or_refuse (ltb 31 m) 8 o

  unfoldable pub put_member : Elem L → Read (Group L) → Read (Group L)
  put_member e (refuse r) = refuse r
  put_member e (got (grouped es st) s) = got (grouped (e ∷ es) st) s

  unfoldable pub then_members : Read (Elem L) → (List ℕ → Read (Group L)) → Read (Group L)
  then_members (refuse r) f = refuse r
  then_members (got e s) f = put_member e (f s)

  unfoldable pub then_star : Read Star → (Star → List ℕ → Read (Group L)) → Read (Group L)
  then_star (refuse r) f = refuse r
  then_star (got st s) f = f st s

  unfoldable pub put_item : Item L → Read (List (Item L)) → Read (List (Item L))
  put_item i (refuse r) = refuse r
  put_item i (got is s) = got (i ∷ is) s

  unfoldable pub then_items : ℕ → Read (Item L) → (ℕ → List ℕ → Read (List (Item L))) → Read (List (Item L))
  then_items m (refuse r) f = refuse r
  then_items m (got i s) f = put_item i (f (m + length (members_of_item i)) s)

module _ {L : Type 0} (leaf_head : List ℕ → Head L) where
  unfoldable pub member : ℕ → List ℕ → Read (Elem L)
  member m s = numbered m (head leaf_head s) (uncounted (outermost leaf_head s))

  unfoldable pub members : Bool → ℕ → ℕ → Star → List ℕ → Read (Group L)
  members stars zero m st s = got (grouped [] st) s
  members stars (suc n) m st s =
      cond (stars && eqb (kind_of s) 0x20)
      (then_star (star_here (has_star st) s) (members stars n m))
      (then_members (member m s) (members stars n (m + 1) st))

  unfoldable pub permutation_here : ℕ → List ℕ → Read (Item L)
  permutation_here m s =
      refuse_or (count_fault 1 32 s)
      (map_read permutation (members true (get_or s 1 0) m no_star (drop 2 s)))

  unfoldable pub item : ℕ → List ℕ → Read (Item L)
  item m s =
      cond (eqb (kind_of s) 0x20) (map_read as_spares (star_here false s))
      (cond (eqb (kind_of s) 0x21) (permutation_here m s)
      (map_read one (member m s)))

  unfoldable pub items : ℕ → ℕ → List ℕ → Read (List (Item L))
  items zero m s = got [] s
  items (suc n) m s = then_items m (item m s) (items n)

  unfoldable pub contents : ℕ → ℕ → List ℕ → Read (Body L)
  contents kind n s =
      cond (eqb kind 0x10) (map_read record_of (items n 0 s))
      (cond (eqb kind 0x11) (map_read set_of (members true n 0 no_star s))
      (cond (eqb kind 0x12) (map_read (λ g. superset (members_of_group g)) (members false n 0 no_star s))
      (map_read (λ g. subset (members_of_group g)) (members false n 0 no_star s))))

  unfoldable pub body_here : Heads → List ℕ → Read (Template L)
  body_here h s =
      or_refuse (eqb (length s) 0) 3
      (or_refuse (outside 0x10 0x13 (kind_of s)) 4
      (refuse_or (count_fault (fewest (kind_of s)) 32 s)
      (or_refuse (clashes h.sheet h.length (kind_of s) (get_or s 1 0)) 9
      (map_read (template h) (contents (kind_of s) (get_or s 1 0) (drop 2 s))))))

abbrev pub sheet_of : ℕ → Sheet
sheet_of v = cond (eqb v 1) sheet1 sheet2

-- "may stand first of all; without it sheet 2 holds"
unfoldable pub sheet_here : Heads → List ℕ → Read Heads
sheet_here h s =
    cond (eqb (kind_of s) 0x32)
    (refuse_or (sheet_fault s) (got (record { sheet = sheet_of (get_or s 1 0); length = h.length; lower = h.lower; upper = h.upper }) (drop 2 s)))
    (got h s)

unfoldable pub length_here : Heads → List ℕ → Read Heads
length_here h s =
    cond (eqb (kind_of s) 0x30)
    (refuse_or (bounds_fault s) (got (record { sheet = h.sheet; length = between (get_or s 1 0) (get_or s 2 0); lower = h.lower; upper = h.upper }) (drop 3 s)))
    (got h s)

-- "lower and upper bound of the element type, after a 30 if there is one; without it, all 32-bit integers"
unfoldable pub type_here : Family → Heads → List ℕ → Read Heads
type_here f h s =
    cond (has_types f && eqb (kind_of s) 0x31)
    (refuse_or (type_fault s) (got (record { sheet = h.sheet; length = h.length; lower = int_at s 1; upper = int_at s 5 }) (drop 9 s)))
    (got h s)

unfoldable pub rest_here : Family → Heads → List ℕ → Read Heads
rest_here f h s = and_then (length_here h s) (type_here f)

unfoldable pub heads_here : Family → List ℕ → Read Heads
heads_here f s = and_then (sheet_here no_heads s) (rest_here f)

unfoldable pub template_here : (f : Family) → List ℕ → Read (Template (LeafOf f))
template_here f s = and_then (heads_here f s) (λ h. body_here (leaves_in f h.lower h.upper) h)

unfoldable pub read_template : (f : Family) → List ℕ → Read (Template (LeafOf f))
read_template f s = limited s (ended (template_here f s))
