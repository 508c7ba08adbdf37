-- Bytes read to element templates (docs/RULES.md, "The records" and "Numbers given back").
-- The first record at fault from the front decides: each reader stops at the first refusal.
-- Counted A == what was read, with the leaves so far in its outermost element template
-- uncounted o == o without the count of leaves
-- put_first e o == e in front of the element templates o; then_more o f == the element template o, then those that f reads after it
-- many p n k s == n element templates in a row, by the reader p of one, with k leaves before them
-- closed c o == the list (c false) or the complement (c true) of the members o
-- too_deep h == the record h at depth 9: its own fault, or 7
-- opened p k h == the element template whose first record is h: its leaf, or 8 for a 65th; or its members, each read by p
-- elem leaf_head left k s == the element template at the front of s; `left` depths are left, its own among them; k leaves before it
-- outermost leaf_head s == the element template at depth 1 at the front of s
-- read_element leaf_head s == s as one element template by itself, the normaliser's whole input
-- Assumes nothing: these are definitions.
use Rattle.std.specs.Prelude.{ℕ, zero, suc, ◌+◌, List, Bool, true, false, ltb}
use Rattle.grammar.specs.Element.{Elem, leaf, one_of, none_of, Elems, none, more}
use Rattle.grammar.specs.Record.{Head, fault, leaf_here, group, head}
use Rattle.grammar.specs.Read.{Read, refuse, got, or_refuse, ended, limited}

pub data Counted (A : Type 0) : Type 0 where
  counted : A → ℕ → Counted A

unfoldable pub uncounted : {A : Type 0} → Read (Counted A) → Read A
uncounted (refuse r) = refuse r
uncounted (got (counted a k) s) = got a s

module _ {L : Type 0} where
  unfoldable pub put_first : Elem L → Read (Counted (Elems L)) → Read (Counted (Elems L))
  put_first e (refuse r) = refuse r
  put_first e (got (counted es k) s) = got (counted (more e es) k) s

  unfoldable pub then_more : Read (Counted (Elem L)) → (ℕ → List ℕ → Read (Counted (Elems L))) → Read (Counted (Elems L))
  then_more (refuse r) f = refuse r
  then_more (got (counted e k) s) f = put_first e (f k s)

  unfoldable pub many : (ℕ → List ℕ → Read (Counted (Elem L))) → ℕ → ℕ → List ℕ → Read (Counted (Elems L))
  many p zero k s = got (counted none k) s
  many p (suc n) k s = then_more (p k s) (many p n)

  unfoldable pub closed : Bool → Read (Counted (Elems L)) → Read (Counted (Elem L))
  closed c (refuse r) = refuse r
  closed false (got (counted es k) s) = got (counted (one_of es) k) s
  closed true (got (counted es k) s) = got (counted (none_of es) k) s

  -- "element template at depth 9": the record's own faults come first
  unfoldable pub too_deep : Head L → Read (Counted (Elem L))
  too_deep (fault r) = refuse r
  too_deep (leaf_here l s) = refuse 7
  too_deep (group c n s) = refuse 7

  -- "a 65th leaf": at the leaf's own record
  unfoldable pub opened : (ℕ → List ℕ → Read (Counted (Elem L))) → ℕ → Head L → Read (Counted (Elem L))
  opened p k (fault r) = refuse r
  opened p k (leaf_here l s) = or_refuse (ltb 63 k) 8 (got (counted (leaf l) (k + 1)) s)
  opened p k (group c n s) = closed c (many p n k s)

module _ {L : Type 0} (leaf_head : List ℕ → Head L) where
  unfoldable pub elem : ℕ → ℕ → List ℕ → Read (Counted (Elem L))
  elem zero k s = too_deep (head leaf_head s)
  elem (suc left) k s = opened (elem left) k (head leaf_head s)

  -- an element template at depth 1: an item, or the normaliser's whole input
  abbrev pub outermost : List ℕ → Read (Counted (Elem L))
  outermost s = elem 8 0 s

  unfoldable pub read_element : List ℕ → Read (Elem L)
  read_element s = limited s (ended (uncounted (outermost s)))
