-- What demand 3 speaks of: element templates by themselves, whose elements are of the type from lo to hi.
-- Accepted lo hi t e      <-> the bytes t are one element template by itself, and that is e
-- SameIntegers lo hi e e' <-> e and e' match the same integers of the type
-- Assumes nothing: these are definitions.
use Rattle.std.specs.Prelude.{ℕ, ◌≡◌, List, [], ℤ, ◌≤ℤ◌}
use Rattle.grammar.specs.Element.{Elem}
use Rattle.grammar.specs.Leaf.{Leaf, typed_head}
use Rattle.grammar.specs.Read.{got}
use Rattle.grammar.specs.Reading.{read_element}
use Rattle.grammar.specs.Matches.{matches}

abbrev pub Accepted : ℤ → ℤ → List ℕ → Elem Leaf → Type 0
Accepted lo hi t e = read_element (typed_head lo hi) t ≡ got e []

abbrev pub SameIntegers : ℤ → ℤ → Elem Leaf → Elem Leaf → Type 0
SameIntegers lo hi e e' = (x : ℤ) → lo ≤ℤ x → x ≤ℤ hi → matches e x ≡ matches e' x
