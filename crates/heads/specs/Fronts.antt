-- What is said of the heads of a template and of the record of its body.
-- sheet_for plain       == the sheet, which reads a subset plainly or not
-- length_of given min max == the length attribute, where one is given
-- Bounds given min max <-> min and max are the length bounds of the attribute, also where none is given
-- Said f a h          <-> h says the heads a: the sheet, the length attribute, and the sort of the leaves
-- NoHeads f h         <-> h says that a template of the family f has no heads
-- refused_heads code   == the heads that are refused with this number: all else is 0
-- HeadsAt f t o h     <-> h is what was read as o at the front of t: refused_heads of its fault, never 0; or 0, the heads and the place after them
-- Begun t h           <-> h says heads at the front of t, of a template of some family, without fault
-- first_fault q r      == the fault q, or r where q is 0
-- own_fault v a s      == the fault of the body's own record at the front of s, after the length attribute a, under the sheet v: 3, 4, 3, 5, 9, or 0 for none
-- Assumes nothing: these are definitions.
use Rattle.std.specs.Prelude.{◌≡◌, Bool, false, cond, List, ℕ, zero, suc, ◌≤◌, ◌<◌, eqb, length, get_or, drop}
use Rattle.grammar.specs.Template.{Length, any_length, between, Sheet, sheet1, sheet2, Heads as HeadsRead, no_heads, InOrder}
use Rattle.format.specs.declared.Family.{Family}
use Rattle.grammar.specs.Record.{kind_of, outside, count_fault}
use Rattle.grammar.specs.Read.{Read, refuse, got}
use Rattle.grammar.specs.Whole.{fewest, clashes}
use Rattle.grammar.specs.Blocks.{low_of, high_of}
use Rattle.sorts.specs.Sorts.{word_of}
use Rattle.heads.specs.declared.Heads.{Heads}

abbrev pub sheet_for : Bool → Sheet
sheet_for plain = cond plain sheet1 sheet2

abbrev pub length_of : Bool → ℕ → ℕ → Length
length_of given min max = cond given (between min max) any_length

pub record Bounds (given : Bool) (min max : ℕ) : Type 0 where
  pub lower : low_of (length_of given min max) ≡ min
  pub upper : high_of (length_of given min max) ≡ max

pub record Said (f : Family) (a : HeadsRead) (h : Heads) : Type 0 where
  pub sheet : a.sheet ≡ sheet_for h.plain
  pub attribute : a.length ≡ length_of h.given h.min h.max
  pub bounds : Bounds h.given h.min h.max
  pub order : InOrder a
  pub sort : h.sort.word ≡ word_of f a.lower a.upper

pub record NoHeads (f : Family) (h : Heads) : Type 0 where
  pub done : h.code ≡ 0
  pub here : h.next ≡ 0
  pub said : Said f no_heads h

abbrev pub refused_heads : ℕ → Heads
refused_heads code = record { code = code; next = 0; plain = false; given = false; min = 0; max = 0; sort = record { word = 0 } }

pub data HeadsAt (f : Family) (t : List ℕ) (o : Read HeadsRead) (h : Heads) : Type 0 where
  heads_fault : (code : ℕ) → o ≡ refuse code → 0 < code → h ≡ refused_heads code → HeadsAt f t o h
  heads_read : (a : HeadsRead) → o ≡ got a (drop h.next t) → h.code ≡ 0 → h.next ≤ length t → Said f a h → HeadsAt f t o h

pub record Begun (t : List ℕ) (h : Heads) : Type 0 where
  pub family : Family
  pub read : HeadsRead
  pub said : Said family read h
  pub done : h.code ≡ 0
  pub inside : h.next ≤ length t
  pub short : length t < 65536

abbrev pub first_fault : ℕ → ℕ → ℕ
first_fault zero r = r
first_fault (suc q) r = suc q

unfoldable pub own_fault : Sheet → Length → List ℕ → ℕ
own_fault v a s =
    cond (eqb (length s) 0) 3
    (cond (outside 0x10 0x13 (kind_of s)) 4
    (first_fault (count_fault (fewest (kind_of s)) 32 s)
    (cond (clashes v a (kind_of s) (get_or s 1 0)) 9
    0)))
