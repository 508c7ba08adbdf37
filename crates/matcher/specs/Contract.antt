-- What the functions say.
-- outside_sort k xs == an element of xs is outside the type that the sort k says; of all the 32-bit integers none is
-- refusal_by number k xs == the number by which a list is refused, or 0: the template's own, or 17 where an element is outside the type
-- Copied n w room after <-> `after` is the room with the first n bytes of w in front
-- Planning t p xs ys <-> p is the plan of the bytes t as a template of some family, and its list is lent: of the integers xs and the floats ys
-- Assumes nothing: these are definitions.
use Rattle.std.specs.Prelude.{◌≡◌, Bool, not, ◌&&◌, cond, List, ◌++◌, ℕ, eqb, ℤ, Float, take, drop}
use Rattle.format.specs.declared.Family.{Family}
use Rattle.grammar.specs.Family.{Lent, some_outside}
use Rattle.sorts.specs.declared.Sort.{Sort}
use Rattle.sorts.specs.Sorts.{whole, lower_of, upper_of}
use Rattle.plans.specs.declared.Plan.{Plan}
use Rattle.plans.specs.Plans.{PlanOf}

abbrev pub outside_sort : Sort → List ℤ → Bool
outside_sort k xs = not (eqb k.word whole.word) && some_outside (lower_of k) (upper_of k) xs

unfoldable pub refusal_by : ℕ → Sort → List ℤ → ℕ
refusal_by number k xs = cond (eqb number 0) (cond (outside_sort k xs) 17 0) number

abbrev pub Copied : ℕ → List ℕ → List ℕ → List ℕ → Type 0
Copied n w room after = after ≡ take n w ++ drop n room

pub record Planning (t : List ℕ) (p : Plan) (xs : List ℤ) (ys : List Float) : Type 0 where
  pub family : Family
  pub plan : PlanOf family t p
  pub lent : Lent family xs ys
