-- What the functions say. A place is an index into the bytes; what stands there is `drop place bytes`.
-- InputPlan s p       <-> p is the plan of bytes that are refused with the number for the whole input s; or the plan of its template, where that
--                        is reached and accepted
-- Headed s before after wrote next more p <-> the refusal line of the whole input, and then `next` is 0, `more` false and p a refused plan; or nothing
--                        was written, `more` is true, the template stands from 3 to `next`, p is its plan, and the lists stand from `next` on
-- Refused s before after wrote number <-> the input is refused in this way: the plan is that of bytes refused with the number
-- StepFits at number input o <-> `at` is a place of the input, the number has at most five digits, and the buffer o has 256 bytes
-- Turned u input at before after wrote next more <-> the turn u at the place `at`: its bytes were written; `more` says whether there
--                        is a next turn, and `next` its place, or `at` where there is none
-- Assumes nothing: these are definitions.
use Rattle.std.specs.Prelude.{◌≡◌, Bool, true, false, List, [], ◌∷◌, ℕ, ◌+◌, ◌-◌, ◌≤◌, ◌<◌, length, take, drop}
use Rattle.format.specs.declared.Family.{Family}
use Rattle.grammar.specs.Read.{refuse, got}
use Rattle.lines.specs.Line.{line}
use Rattle.lines.specs.Contract.{Wrote}
use Rattle.plans.specs.Plans.{no_plan, PlanOf}
use Rattle.plans.specs.declared.Plan.{Plan}
use Rattle.stream.specs.Input.{template_in, after_template, reached}
use Rattle.intake_lines.specs.Output.{Turn, stop, go}

pub data InputPlan (s : List ℕ) (p : Plan) : Type 0 where
  rejected : (r : ℕ) → reached s ≡ refuse r → 0 < r → p ≡ no_plan r → InputPlan s p
  accepted : reached s ≡ got (template_in s) (drop (after_template s) s) → p.number ≡ 0 → after_template s ≤ length s → PlanOf Family.Integers (template_in s) p → InputPlan s p

pub data Headed (s before after : List ℕ) (wrote next : ℕ) (more : Bool) (p : Plan) : Type 0 where
  refused : (r : ℕ) → reached s ≡ refuse r → Wrote (line 0 (r ∷ 0 ∷ [])) before after wrote → next ≡ 0 → more ≡ false → p ≡ no_plan r
      → Headed s before after wrote next more p
  found : reached s ≡ got (take (next - 3) (drop 3 s)) (drop next s) → 3 ≤ next → next ≤ length s → Wrote [] before after wrote → more ≡ true → PlanOf Family.Integers (take (next - 3) (drop 3 s)) p
      → Headed s before after wrote next more p

abbrev pub Refused : List ℕ → List ℕ → List ℕ → ℕ → ℕ → Type 0
Refused s before after wrote number = Headed s before after wrote 0 false (no_plan number)

pub record StepFits (at number : ℕ) (input o : List ℕ) : Type 0 where
  pub inside : at ≤ length input
  pub number_short : number < 100000
  pub room : 256 ≤ length o

pub data Turned (u : Turn) (input : List ℕ) (at : ℕ) (before after : List ℕ) (wrote next : ℕ) (more : Bool) : Type 0 where
  stopped : (l : List ℕ) → u ≡ stop l → Wrote l before after wrote → next ≡ at → more ≡ false → Turned u input at before after wrote next more
  went : (l : List ℕ) → u ≡ go l (drop next input) → Wrote l before after wrote → at + 2 ≤ next → next ≤ length input → more ≡ true
      → Turned u input at before after wrote next more
