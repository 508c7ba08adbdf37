-- What the private functions say.
-- Grouped q g       <-> g is the mask of the reason, 0 where no group is short or nothing is asked
-- GroupFor f t xs g   <-> g is that mask for the template bytes t and the list xs, where no row of the table holds; where one does, it is 0
-- Assumes nothing: these are definitions.
use Rattle.std.specs.Prelude.{◌≡◌, false, List, [], ℕ}
use Rattle.format.specs.declared.Family.{Family}
use Rattle.grammar.specs.Family.{LeafOf, ElementOf}
use Rattle.grammar.specs.Template.{Template}
use Rattle.grammar.specs.Read.{got}
use Rattle.grammar.specs.Whole.{read_template}
use Rattle.matching.specs.Answer.{element_outside, Taken}
use Rattle.reasons.specs.Reason.{Given}
use Rattle.why.specs.Why.{Asked, of_nothing, of_groups, asked_of}

unfoldable pub Grouped : Asked → ℕ → Type 0
Grouped of_nothing g = g ≡ 0
Grouped (of_groups ok k n) g = Given ok k n g

pub record GroupFor (f : Family) (t : List ℕ) (xs : List (ElementOf f)) (g : ℕ) : Type 0 where
  pub accepted : (g ≡ 0 → ⊥) → (s : Template (LeafOf f)) × Taken t xs × (read_template f t ≡ got s []) × (element_outside f s xs ≡ false)
  pub group : Taken t xs → (s : Template (LeafOf f)) → read_template f t ≡ got s [] → element_outside f s xs ≡ false → Grouped (asked_of f s xs) g
