-- When a group is to be given.
-- Unmatched f t xs s <-> t is accepted as s, no row of the table holds, so that every element is of the type, and no assignment obeys
-- Explained s xs <-> s is a superset, or a subset under sheet 2, and any length attribute is met
-- Assumes nothing: these are definitions.
use Rattle.std.specs.Prelude.{◌≡◌, true, false, List, [], ℕ, length}
use Rattle.grammar.specs.Element.{Elem}
use Rattle.format.specs.declared.Family.{Family}
use Rattle.grammar.specs.Family.{LeafOf, ElementOf}
use Rattle.grammar.specs.Read.{got}
use Rattle.grammar.specs.Template.{superset, subset, sheet2, Heads, Template, template}
use Rattle.grammar.specs.Whole.{read_template}
use Rattle.matching.specs.Obeys.{obeys, length_met}
use Rattle.matching.specs.Answer.{element_outside, Taken}

pub record Unmatched (f : Family) (t : List ℕ) (xs : List (ElementOf f)) (s : Template (LeafOf f)) : Type 0 where
  pub taken : Taken t xs
  pub reading : read_template f t ≡ got s []
  pub inside : element_outside f s xs ≡ false
  pub none : (w : List ℕ) → obeys f s xs w ≡ true → ⊥

pub data Explained {L X : Type 0} : Template L → List X → Type 0 where
  a_superset : (h : Heads) (es : List (Elem L)) (xs : List X) → length_met h.length (length xs) ≡ true → Explained (template h (superset es)) xs
  a_subset : (h : Heads) (es : List (Elem L)) (xs : List X) → h.sheet ≡ sheet2 → length_met h.length (length xs) ≡ true → Explained (template h (subset es)) xs
