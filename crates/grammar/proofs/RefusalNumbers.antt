-- Which numbers a refusal can have: what holds of the table's rows holds of every refusal. Assumes nothing.
-- OwnRow fam Q  <-> Q holds of the number that only templates of this family have: 16 for integers, 14 for floats
-- Row fam Q     <-> Q holds of the numbers 3 to 8, those of one record of an element template, and of the family's own
-- Refusals Q o  <-> Q holds of o's number, where o is a refusal
-- elem_numbers, whole_numbers == so it is of element templates, and, where Q holds of 9 too, of templates
-- TableRow fam s r <-> r is one of the rows about the bytes s themselves, and 2 only where they are too long
-- template_row, element_row, element_not_nine == what the refusals of a whole input are; that of an element template by itself is never 9
-- read_cases, element_cases == a whole input is refused by a number above 0, or read to its end
use mathlib.Core.Path.{◌≡◌, refl, subst}
use mathlib.Core.Bool.{Bool, true, false, ◌&&◌, ◌||◌, cond}
use mathlib.Core.Logic.{inl, inr}
use mathlib.Core.List.{List, [], ◌∷◌}
use Prim.Native.Nat.{ℕ, zero, suc, ◌+◌, ◌<◌, ◌≤◌}
use native.Mathlib.Omega.{arith}
use borrow.Author.Tests.{ltb-true}
use lib.Dec.{ltb, eqb}
use lib.IntN.{ℤ}
use lib.Signed.{lt_z}
use lib.Ieee.{is_nan, lt}
use lib.ListN.{length, get_or, drop}
use Rattle.integers.specs.Integer.{least, greatest, int_at}
use Rattle.floats.specs.Bytes.{float_at}
use Rattle.floats.specs.Leaves.{one_fault, bounds_fault as range_fault}
use Rattle.floats.specs.declared.Leaf.{Leaf as FloatLeaf}
use Rattle.format.specs.declared.Family.{Family}
use Rattle.grammar.specs.Element.{Elem, Elems, leaf}
use Rattle.grammar.specs.Template.{Star, no_star, star, Group, grouped, Item, one, permutation, record_of, set_of, superset, subset, Heads, no_heads, template, members_of_group, members_of_item}
use Rattle.format.specs.Bounds.{bad_bounds}
use Rattle.grammar.specs.Record.{Head, fault, leaf_here, group, kind_of, outside, count_fault, bounds_fault, sheet_fault, type_fault, fault_or, group_head, head}
use Rattle.grammar.specs.Leaf.{Leaf, single, range, any, single_head, range_head, leaf_head, reaches, of_type, typed_head}
use Rattle.grammar.specs.FloatLeaf.{bounds_at, one_head, float_range_head, float_head}
use Rattle.grammar.specs.Family.{LeafOf, has_types, leaves_in, ElementRowOf, RowOf}
use Rattle.grammar.specs.Read.{Read, refuse, got, or_refuse, refuse_or, ended, limited, map_read, and_then}
use Rattle.grammar.specs.Reading.{Counted, counted, uncounted, put_first, then_more, many, closed, too_deep, opened, elem, outermost, read_element}
use Rattle.grammar.specs.Whole.{as_spares, has_star, star_here, fewest, clashes, numbered, put_member, then_members, then_star, put_item, then_items, member, members, permutation_here, item, items, contents, body_here, sheet_here, length_here, type_here, rest_here, heads_here, template_here, read_template}

abbrev OwnRow : Family → (ℕ → Type 0) → Type 0
OwnRow Family.Integers Q = Q 16
OwnRow Family.Floats Q = Q 14

pub record Row (fam : Family) (Q : ℕ → Type 0) : Type 0 where
  pub r3 : Q 3
  pub r4 : Q 4
  pub r5 : Q 5
  pub r6 : Q 6
  pub r7 : Q 7
  pub r8 : Q 8
  pub own : OwnRow fam Q

abbrev pub Refusals : {A : Type 0} → (ℕ → Type 0) → Read A → Type 0
Refusals Q (refuse r) = Q r
Refusals Q (got a s) = Unit {0}

abbrev Faults : {L : Type 0} → (ℕ → Type 0) → Head L → Type 0
Faults Q (fault r) = Q r
Faults Q (leaf_here l s) = Unit {0}
Faults Q (group c n s) = Unit {0}

module _ (Q : ℕ → Type 0) where
  fault_either : {L : Type 0} (b : Bool) (g h : Head L) → Faults Q g → Faults Q h → Faults Q (cond b g h)
  fault_either true g h p q = p
  fault_either false g h p q = q

  pub read_either : {A : Type 0} (b : Bool) (o u : Read A) → Refusals Q o → Refusals Q u → Refusals Q (cond b o u)
  read_either true o u p q = p
  read_either false o u p q = q

  mapped : {A B : Type 0} (f : A → B) (o : Read A) → Refusals Q o → Refusals Q (map_read f o)
  unfolding map_read
  mapped f (refuse r) p = p
  mapped f (got a s) p = tt

  uncounted_numbers : {A : Type 0} (o : Read (Counted A)) → Refusals Q o → Refusals Q (uncounted o)
  unfolding uncounted
  uncounted_numbers (refuse r) p = p
  uncounted_numbers (got (counted a k) s) p = tt

  integer_numbers : Row Family.Integers Q → (s : List ℕ) → Faults Q (leaf_head s)
  unfolding leaf_head single_head range_head
  integer_numbers row s =
      fault_either (eqb (kind_of s) 1) _ _ (fault_either (ltb (length s) 5) (fault 3) (leaf_here (single (int_at s 1)) (drop 5 s)) row.r3 tt)
      (fault_either (eqb (kind_of s) 2) _ _
      (fault_either (ltb (length s) 9) (fault 3) _ row.r3 (fault_either (lt_z (int_at s 5) (int_at s 1)) (fault 6) (leaf_here (range (int_at s 1) (int_at s 5)) (drop 9 s)) row.r6 tt))
      (fault_either (eqb (kind_of s) 3) (leaf_here any (drop 1 s)) (fault 4) tt row.r4))

  float_numbers : Row Family.Floats Q → (s : List ℕ) → Faults Q (float_head s)
  unfolding float_head one_head float_range_head one_fault range_fault
  float_numbers row s =
      fault_either (eqb (kind_of s) 6) _ _ (fault_either (ltb (length s) 9) (fault 3) _ row.r3 (one (is_nan (float_at s 1))))
      (fault_either (eqb (kind_of s) 7) _ _ (fault_either (ltb (length s) 17) (fault 3) _ row.r3 (two (is_nan (float_at s 1) || is_nan (float_at s 9)) (lt (float_at s 9) (float_at s 1))))
      (fault_either (eqb (kind_of s) 3) (leaf_here FloatLeaf.Any (drop 1 s)) (fault 4) tt row.r4))
    where
      one : (b : Bool) → Faults Q (fault_or (cond b 14 0) (leaf_here (FloatLeaf.Float (float_at s 1)) (drop 9 s)))
      one true = row.own
      one false = tt

      two : (b o : Bool) → Faults Q (fault_or (cond b 14 (cond o 6 0)) (leaf_here (FloatLeaf.Range (bounds_at s 1)) (drop 17 s)))
      two true o = row.own
      two false true = row.r6
      two false false = tt

  typed_numbers : (lo hi : ℤ) (h : Head Leaf) → Q 16 → Faults Q h → Faults Q (of_type lo hi h)
  unfolding of_type
  typed_numbers lo hi (fault r) own p = p
  typed_numbers lo hi (leaf_here l s) own p = fault_either (reaches lo hi l) (fault 16) (leaf_here l s) own tt
  typed_numbers lo hi (group c n s) own p = tt

  by_family : (fam : Family) (lo hi : ℤ) → Row fam Q → (s : List ℕ) → Faults Q (leaves_in fam lo hi s)
  by_family Family.Integers lo hi row s = typed_numbers lo hi (leaf_head s) row.own (integer_numbers row s)
  by_family Family.Floats lo hi row s = float_numbers row s

  module _ (fam : Family) (lo hi : ℤ) (row : Row fam Q) where
    count_numbers : (few most : ℕ) (s : List ℕ) {A : Type 0} (o : Read A) → Refusals Q o → Refusals Q (refuse_or (count_fault few most s) o)
    unfolding count_fault
    count_numbers few most s o p = go (ltb (length s) 2) (outside few most (get_or s 1 0))
      where
        go : (a b : Bool) → Refusals Q (refuse_or (cond a 3 (cond b 5 0)) o)
        go true b = row.r3
        go false true = row.r5
        go false false = p

    bounds_numbers : (s : List ℕ) {A : Type 0} (o : Read A) → Refusals Q o → Refusals Q (refuse_or (bounds_fault s) o)
    unfolding bounds_fault
    bounds_numbers s o p = go (ltb (length s) 3) (bad_bounds (get_or s 1 0) (get_or s 2 0))
      where
        go : (a b : Bool) → Refusals Q (refuse_or (cond a 3 (cond b 6 0)) o)
        go true b = row.r3
        go false true = row.r6
        go false false = p

    -- ---- one record

    group_numbers : (c : Bool) (s : List ℕ) → Faults {L = LeafOf fam} Q (group_head c s)
    unfolding group_head count_fault
    group_numbers c s = go (ltb (length s) 2) (outside 1 64 (get_or s 1 0))
      where
        go : (a b : Bool) → Faults {L = LeafOf fam} Q (fault_or (cond a 3 (cond b 5 0)) (group c (get_or s 1 0) (drop 2 s)))
        go true b = row.r3
        go false true = row.r5
        go false false = tt

    leaf_numbers : (s : List ℕ) → Faults Q (leaves_in fam lo hi s)
    leaf_numbers s = by_family fam lo hi row s

    head_numbers : (s : List ℕ) → Faults Q (head (leaves_in fam lo hi) s)
    unfolding head
    head_numbers s =
        fault_either (eqb (length s) 0) (fault 3) _ row.r3
        (fault_either (eqb (kind_of s) 4) (group_head false s) _ (group_numbers false s)
        (fault_either (eqb (kind_of s) 5) (group_head true s) (leaves_in fam lo hi s) (group_numbers true s) (leaf_numbers s)))

    -- ---- element templates

    put_numbers : (e : Elem (LeafOf fam)) (o : Read (Counted (Elems (LeafOf fam)))) → Refusals Q o → Refusals Q (put_first e o)
    unfolding put_first
    put_numbers e (refuse r) n = n
    put_numbers e (got (counted es k) s) n = tt

    many_numbers : (p : ℕ → List ℕ → Read (Counted (Elem (LeafOf fam)))) → ((k : ℕ) (s : List ℕ) → Refusals Q (p k s)) → (n k : ℕ) (s : List ℕ) → Refusals Q (many p n k s)
    unfolding many then_more
    many_numbers p h zero k s = tt
    many_numbers p h (suc n) k s = go (p k s) (h k s) (λ j r. many_numbers p h n j r)
      where
        go : (o : Read (Counted (Elem (LeafOf fam)))) → Refusals Q o → ((j : ℕ) (r : List ℕ) → Refusals Q (many p n j r)) → Refusals Q (then_more o (many p n))
        go (refuse r) x y = x
        go (got (counted e j) r) x y = put_numbers e (many p n j r) (y j r)

    pub elem_numbers : (left k : ℕ) (s : List ℕ) → Refusals Q (elem (leaves_in fam lo hi) left k s)
    unfolding elem too_deep opened closed
    elem_numbers zero k s = go (head (leaves_in fam lo hi) s) (head_numbers s)
      where
        go : (h : Head (LeafOf fam)) → Faults Q h → Refusals Q (too_deep h)
        go (fault r) x = x
        go (leaf_here l r) x = row.r7
        go (group c n r) x = row.r7
    elem_numbers (suc left) k s = go (head (leaves_in fam lo hi) s) (head_numbers s) (many_numbers (elem (leaves_in fam lo hi) left) (λ j r. elem_numbers left j r))
      where
        close : (c : Bool) (o : Read (Counted (Elems (LeafOf fam)))) → Refusals Q o → Refusals Q (closed c o)
        close c (refuse r) x = x
        close false (got (counted es j) r) x = tt
        close true (got (counted es j) r) x = tt

        go : (h : Head (LeafOf fam)) → Faults Q h → ((n j : ℕ) (r : List ℕ) → Refusals Q (many (elem (leaves_in fam lo hi) left) n j r)) → Refusals Q (opened (elem (leaves_in fam lo hi) left) k h)
        go (fault r) x y = x
        go (leaf_here l r) x y = read_either (ltb 63 k) (refuse 8) (got (counted (leaf l) (k + 1)) r) row.r8 tt
        go (group c n r) x y = close c (many (elem (leaves_in fam lo hi) left) n k r) (y n k r)

    -- ---- templates

    star_numbers : (seen : Bool) (s : List ℕ) → Refusals Q (star_here seen s)
    unfolding star_here
    star_numbers seen s = bounds_numbers s _ (read_either seen (refuse 8) (got (star (get_or s 1 0) (get_or s 2 0)) (drop 3 s)) row.r8 tt)

    member_numbers : (m : ℕ) (s : List ℕ) → Refusals Q (member (leaves_in fam lo hi) m s)
    unfolding member numbered
    member_numbers m s = go (head (leaves_in fam lo hi) s) (head_numbers s)
      where
        inner : Refusals Q (uncounted (outermost (leaves_in fam lo hi) s))
        inner = uncounted_numbers (outermost (leaves_in fam lo hi) s) (elem_numbers 8 0 s)

        go : (h : Head (LeafOf fam)) → Faults Q h → Refusals Q (numbered m h (uncounted (outermost (leaves_in fam lo hi) s)))
        go (fault r) x = x
        go (leaf_here l r) x = read_either (ltb 31 m) (refuse 8) _ row.r8 inner
        go (group c n r) x = read_either (ltb 31 m) (refuse 8) _ row.r8 inner

    members_numbers : (stars : Bool) (n m : ℕ) (st : Star) (s : List ℕ) → Refusals Q (members (leaves_in fam lo hi) stars n m st s)
    unfolding members then_star then_members put_member
    members_numbers stars zero m st s = tt
    members_numbers stars (suc n) m st s =
        read_either (stars && eqb (kind_of s) 32) _ _ (by_star (star_here (has_star st) s) (star_numbers (has_star st) s) (λ st' s'. members_numbers stars n m st' s')) (by_member (member (leaves_in fam lo hi) m s) (member_numbers m s) (λ s'. members_numbers stars n (m + 1) st s'))
      where
        put : (e : Elem (LeafOf fam)) (o : Read (Group (LeafOf fam))) → Refusals Q o → Refusals Q (put_member e o)
        put e (refuse r) x = x
        put e (got (grouped es st') s') x = tt

        by_star : (o : Read Star) → Refusals Q o → ((st' : Star) (s' : List ℕ) → Refusals Q (members (leaves_in fam lo hi) stars n m st' s')) → Refusals Q (then_star o (members (leaves_in fam lo hi) stars n m))
        by_star (refuse r) x h = x
        by_star (got st' s') x h = h st' s'

        by_member : (o : Read (Elem (LeafOf fam))) → Refusals Q o → ((s' : List ℕ) → Refusals Q (members (leaves_in fam lo hi) stars n (m + 1) st s')) → Refusals Q (then_members o (members (leaves_in fam lo hi) stars n (m + 1) st))
        by_member (refuse r) x h = x
        by_member (got e s') x h = put e (members (leaves_in fam lo hi) stars n (m + 1) st s') (h s')

    item_numbers : (m : ℕ) (s : List ℕ) → Refusals Q (item (leaves_in fam lo hi) m s)
    unfolding item permutation_here
    item_numbers m s =
        read_either (eqb (kind_of s) 32) _ _ (mapped as_spares _ (star_numbers false s))
        (read_either (eqb (kind_of s) 33) _ _ (count_numbers 1 32 s _ (mapped permutation _ (members_numbers true (get_or s 1 0) m no_star (drop 2 s))))
        (mapped one _ (member_numbers m s)))

    items_numbers : (n m : ℕ) (s : List ℕ) → Refusals Q (items (leaves_in fam lo hi) n m s)
    unfolding items then_items put_item
    items_numbers zero m s = tt
    items_numbers (suc n) m s = by_item (item (leaves_in fam lo hi) m s) (item_numbers m s) (λ k s'. items_numbers n k s')
      where
        put : (i : Item (LeafOf fam)) (o : Read (List (Item (LeafOf fam)))) → Refusals Q o → Refusals Q (put_item i o)
        put i (refuse r) x = x
        put i (got is t) x = tt

        by_item : (o : Read (Item (LeafOf fam))) → Refusals Q o → ((k : ℕ) (s' : List ℕ) → Refusals Q (items (leaves_in fam lo hi) n k s')) → Refusals Q (then_items m o (items (leaves_in fam lo hi) n))
        by_item (refuse r) x h = x
        by_item (got i s') x h = put i (items (leaves_in fam lo hi) n (m + length (members_of_item i)) s') (h (m + length (members_of_item i)) s')

    contents_numbers : (kind n : ℕ) (s : List ℕ) → Refusals Q (contents (leaves_in fam lo hi) kind n s)
    unfolding contents
    contents_numbers kind n s =
        read_either (eqb kind 16) _ _ (mapped record_of _ (items_numbers n 0 s))
        (read_either (eqb kind 17) _ _ (mapped set_of _ (members_numbers true n 0 no_star s))
        (read_either (eqb kind 18) _ _ (mapped (λ g. superset (members_of_group g)) _ (members_numbers false n 0 no_star s)) (mapped (λ g. subset (members_of_group g)) _ (members_numbers false n 0 no_star s))))

    module _ (r9 : Q 9) where
      body_numbers : (h : Heads) (s : List ℕ) → Refusals Q (body_here (leaves_in fam lo hi) h s)
      unfolding body_here
      body_numbers h s =
          read_either (eqb (length s) 0) (refuse 3) _ row.r3
          (read_either (outside 16 19 (kind_of s)) (refuse 4) _ row.r4
          (count_numbers (fewest (kind_of s)) 32 s _
          (read_either (clashes h.sheet h.length (kind_of s) (get_or s 1 0)) (refuse 9) _ r9
          (mapped (template h) _ (contents_numbers (kind_of s) (get_or s 1 0) (drop 2 s))))))

  -- ---- the heads, and a whole template

  module _ (fam : Family) (row : Row fam Q) where
    type_numbers : (s : List ℕ) {A : Type 0} (o : Read A) → Refusals Q o → Refusals Q (refuse_or (type_fault s) o)
    unfolding type_fault
    type_numbers s o p = go (ltb (length s) 9) (lt_z (int_at s 5) (int_at s 1))
      where
        go : (a b : Bool) → Refusals Q (refuse_or (cond a 3 (cond b 6 0)) o)
        go true b = row.r3
        go false true = row.r6
        go false false = p

    then_numbers : (next : Heads → List ℕ → Read Heads) → ((h : Heads) (s : List ℕ) → Refusals Q (next h s)) → (o : Read Heads) → Refusals Q o → Refusals Q (and_then o next)
    unfolding and_then
    then_numbers next k (refuse r) x = x
    then_numbers next k (got h s) x = k h s

    rest_numbers : (h : Heads) (s : List ℕ) → Refusals Q (rest_here fam h s)
    unfolding rest_here length_here type_here
    rest_numbers h s =
        then_numbers (type_here fam) (λ h' s'. read_either (has_types fam && eqb (kind_of s') 49) _ _ (type_numbers s' _ tt) tt) (length_here h s)
        (read_either (eqb (kind_of s) 48) _ _ (bounds_numbers fam least greatest row s _ tt) tt)

    module _ (r20 : Q 20) where
      sheet_numbers : (s : List ℕ) {A : Type 0} (o : Read A) → Refusals Q o → Refusals Q (refuse_or (sheet_fault s) o)
      unfolding sheet_fault
      sheet_numbers s o p = go (ltb (length s) 2) (outside 1 2 (get_or s 1 0))
        where
          go : (a b : Bool) → Refusals Q (refuse_or (cond a 3 (cond b 20 0)) o)
          go true b = row.r3
          go false true = r20
          go false false = p

      heads_numbers : (s : List ℕ) → Refusals Q (heads_here fam s)
      unfolding heads_here sheet_here
      heads_numbers s = then_numbers (rest_here fam) rest_numbers (sheet_here no_heads s) (read_either (eqb (kind_of s) 50) _ _ (sheet_numbers s _ tt) tt)

    whole_numbers : Q 9 → Q 20 → (s : List ℕ) → Refusals Q (template_here fam s)
    unfolding template_here and_then
    whole_numbers r9 r20 s = go (heads_here fam s) (heads_numbers r20 s)
      where
        go : (o : Read Heads) → Refusals Q o → Refusals Q (and_then o (λ h. body_here (leaves_in fam h.lower h.upper) h))
        go (refuse r) x = x
        go (got h s') x = body_numbers fam h.lower h.upper row r9 h s'

-- ---- a whole input: 2 for over 4,096 bytes, 10 for bytes left

whole : (Q : ℕ → Type 0) {A : Type 0} (s : List ℕ) (o : Read A) → (4096 < length s → Q 2) → Q 10 → Refusals Q o → Refusals Q (limited s (ended o))
unfolding ended
whole Q s o p2 p10 h = go (ltb 4096 (length s)) refl o h
  where
    go : {A : Type 0} (b : Bool) → ltb 4096 (length s) ≡ b → (o : Read A) → Refusals Q o → Refusals Q (or_refuse b 2 (ended o))
    go true e o h = p2 (ltb-true 4096 (length s) e)
    go false e (refuse r) h = h
    go false e (got a []) h = tt
    go false e (got a (x ∷ t)) h = p10

refused_so : {A : Type 0} (Q : ℕ → Type 0) (o : Read A) (r : ℕ) → Refusals Q o → o ≡ refuse r → Q r
refused_so Q o r h e = subst (λ u. Refusals Q u) e h

-- the rows P about the bytes of an input; 2 only where it is too long
pub record TableRow (P : ℕ → Type 0) (s : List ℕ) (r : ℕ) : Type 0 where
  pub row : P r
  pub long : r ≡ 2 → 4096 < length s

row_of : (fam : Family) (r : ℕ) → 2 ≤ r → r ≤ 10 → ElementRowOf fam r
row_of Family.Integers r p q = inl (p, q)
row_of Family.Floats r p q = inl (p, q)

-- P has the rows about element templates
abbrev HasRows : Family → (ℕ → Type 0) → Type 0
HasRows fam P = (r : ℕ) → ElementRowOf fam r → P r

own_row : (fam : Family) (P : ℕ → Type 0) → HasRows fam P → (s : List ℕ) → OwnRow fam (TableRow P s)
own_row Family.Integers P has s = record { row = has 16 (inr refl); long = λ e. absurd (omega arith) }
own_row Family.Floats P has s = record { row = has 14 (inr refl); long = λ e. absurd (omega arith) }

module _ (fam : Family) (P : ℕ → Type 0) (has : HasRows fam P) (s : List ℕ) where
  table_row : (r : ℕ) → 3 ≤ r → r ≤ 10 → TableRow P s r
  table_row r p q = record { row = has r (row_of fam r (omega arith) q); long = λ e. absurd (omega arith) }

  table_rows : Row fam (TableRow P s)
  table_rows = record {
    r3 = table_row 3 (omega arith) (omega arith);
    r4 = table_row 4 (omega arith) (omega arith);
    r5 = table_row 5 (omega arith) (omega arith);
    r6 = table_row 6 (omega arith) (omega arith);
    r7 = table_row 7 (omega arith) (omega arith);
    r8 = table_row 8 (omega arith) (omega arith);
    own = own_row fam P has s;
  }

  too_long_lem : 4096 < length s → TableRow P s 2
  too_long_lem h = record { row = has 2 (row_of fam 2 (omega arith) (omega arith)); long = λ e. h }

pub template_row : (fam : Family) (s : List ℕ) (r : ℕ) → read_template fam s ≡ refuse r → TableRow (RowOf fam) s r
unfolding read_template
template_row fam s r e =
    let has : HasRows fam (RowOf fam) = λ n p. inl p in
    let twenty : TableRow (RowOf fam) s 20 = record { row = inr refl; long = λ z. absurd (omega arith) } in
    refused_so (TableRow (RowOf fam) s) (read_template fam s) r
    (whole (TableRow (RowOf fam) s) s (template_here fam s) (too_long_lem fam (RowOf fam) has s) (table_row fam (RowOf fam) has s 10 (omega arith) (omega arith))
    (whole_numbers (TableRow (RowOf fam) s) fam (table_rows fam (RowOf fam) has s) (table_row fam (RowOf fam) has s 9 (omega arith) (omega arith)) twenty s)) e

element_numbers : (Q : ℕ → Type 0) (lo hi : ℤ) (s : List ℕ) → Row Family.Integers Q → (4096 < length s → Q 2) → Q 10 → Refusals Q (read_element (typed_head lo hi) s)
unfolding read_element
element_numbers Q lo hi s row p2 p10 = whole Q s (uncounted (outermost (typed_head lo hi) s)) p2 p10 (uncounted_numbers Q (outermost (typed_head lo hi) s) (elem_numbers Q Family.Integers lo hi row 8 0 s))

pub element_row : (lo hi : ℤ) (s : List ℕ) (r : ℕ) → read_element (typed_head lo hi) s ≡ refuse r → TableRow (ElementRowOf Family.Integers) s r
element_row lo hi s r e =
    let P = ElementRowOf Family.Integers in
    let has : HasRows Family.Integers P = λ n p. p in
    refused_so (TableRow P s) (read_element (typed_head lo hi) s) r
    (element_numbers (TableRow P s) lo hi s (table_rows Family.Integers P has s) (too_long_lem Family.Integers P has s) (table_row Family.Integers P has s 10 (omega arith) (omega arith))) e

-- row 9 is found only at a body: no record of an element template has it
not_nine : Row Family.Integers (λ r. r ≡ 9 → ⊥)
not_nine = record { r3 = λ e. omega arith; r4 = λ e. omega arith; r5 = λ e. omega arith; r6 = λ e. omega arith; r7 = λ e. omega arith; r8 = λ e. omega arith; own = λ e. omega arith }

pub element_not_nine : (lo hi : ℤ) (s : List ℕ) (r : ℕ) → read_element (typed_head lo hi) s ≡ refuse r → r ≡ 9 → ⊥
element_not_nine lo hi s r e =
    refused_so (λ r. r ≡ 9 → ⊥) (read_element (typed_head lo hi) s) r (element_numbers (λ r. r ≡ 9 → ⊥) lo hi s not_nine (λ _ z. omega arith) (λ z. omega arith)) e

-- an input is refused by a number above 0, or read to its end
pub data Cases {A : Type 0} (o : Read A) : Type 0 where
  is_refused : (r : ℕ) → o ≡ refuse r → 0 < r → Cases o
  is_read : (a : A) → o ≡ got a [] → Cases o

cases_of : {A : Type 0} (s : List ℕ) (o : Read A) → Refusals (λ r. 0 < r) o → Cases (limited s (ended o))
unfolding ended
cases_of s o h = go (ltb 4096 (length s)) o h
  where
    go : {A : Type 0} (b : Bool) (o : Read A) → Refusals (λ r. 0 < r) o → Cases (or_refuse b 2 (ended o))
    go true o h = is_refused 2 refl (omega arith)
    go false (refuse r) h = is_refused r refl h
    go false (got a []) h = is_read a refl
    go false (got a (x ∷ t)) h = is_refused 10 refl (omega arith)

own_above : (fam : Family) → OwnRow fam (λ r. 0 < r)
own_above Family.Integers = omega arith
own_above Family.Floats = omega arith

above_zero : (fam : Family) → Row fam (λ r. 0 < r)
above_zero fam = record { r3 = omega arith; r4 = omega arith; r5 = omega arith; r6 = omega arith; r7 = omega arith; r8 = omega arith; own = own_above fam }

pub read_cases : (fam : Family) (s : List ℕ) → Cases (read_template fam s)
unfolding read_template
read_cases fam s = cases_of s (template_here fam s) (whole_numbers (λ r. 0 < r) fam (above_zero fam) (omega arith) (omega arith) s)

pub element_cases : (lo hi : ℤ) (s : List ℕ) → Cases (read_element (typed_head lo hi) s)
unfolding read_element
element_cases lo hi s = cases_of s (uncounted (outermost (typed_head lo hi) s)) (uncounted_numbers (λ r. 0 < r) (outermost (typed_head lo hi) s) (elem_numbers (λ r. 0 < r) Family.Integers lo hi (above_zero Family.Integers) 8 0 s))
