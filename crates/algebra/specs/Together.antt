-- Element templates put together by hand (docs/RULES.md, "Joining and negating rules").
-- depth e, depth_all es == how deep e is, or the deepest of es: a leaf by itself has depth 1, the members of a list or a complement are one deeper
-- together ss   == the bytes ss, one after the other
-- list_of ss, complement_of ss == the bytes of a list, or of a complement, with the members ss
-- members es    == the element templates es, as the members of a list or a complement
-- list es, complement es == what such bytes are to read as
-- Fits e       <-> e "stays within 64 leaves and depth 8"
-- Parts lo hi ss es <-> each of the bytes ss is one element template by itself, with elements of the type from lo to hi: that at the same place of es
-- Assumes nothing: these are definitions.
use Rattle.std.specs.Prelude.{ℕ, ◌+◌, ◌≤◌, max, List, [], ◌∷◌, ◌++◌, ℤ, length}
use Rattle.grammar.specs.Element.{Elem, leaf, one_of, none_of, Elems, none, more, leaves}
use Rattle.grammar.specs.Leaf.{Leaf}
use Rattle.demands.specs.NormalForms.{Accepted}

unfoldable mutual
  pub depth : {L : Type 0} → Elem L → ℕ
  depth (leaf l) = 1
  depth (one_of es) = 1 + depth_all es
  depth (none_of es) = 1 + depth_all es

  pub depth_all : {L : Type 0} → Elems L → ℕ
  depth_all none = 0
  depth_all (more e es) = max (depth e) (depth_all es)

unfoldable pub together : List (List ℕ) → List ℕ
together [] = []
together (s ∷ ss) = s ++ together ss

abbrev pub list_of : List (List ℕ) → List ℕ
list_of ss = 0x04 ∷ length ss ∷ together ss

abbrev pub complement_of : List (List ℕ) → List ℕ
complement_of ss = 0x05 ∷ length ss ∷ together ss

abbrev pub members : List (Elem Leaf) → Elems Leaf
members [] = none
members (e ∷ es) = more e (members es)

abbrev pub list : List (Elem Leaf) → Elem Leaf
list es = one_of (members es)

abbrev pub complement : List (Elem Leaf) → Elem Leaf
complement es = none_of (members es)

pub record Fits (e : Elem Leaf) : Type 0 where
  pub few : leaves e ≤ 64
  pub flat : depth e ≤ 8

abbrev pub Parts : ℤ → ℤ → List (List ℕ) → List (Elem Leaf) → Type 0
Parts lo hi [] [] = Unit {0}
Parts lo hi [] (e ∷ es) = ⊥
Parts lo hi (s ∷ ss) [] = ⊥
Parts lo hi (s ∷ ss) (e ∷ es) = Accepted lo hi s e × Parts lo hi ss es
