-- How far a call goes, for a caller that goes on from there. Assumes nothing.
use mathlib.Core.Path.{◌≡◌}
use mathlib.Core.Bool.{Bool, true}
use mathlib.Core.List.{List}
use Prim.Native.Nat.{ℕ, ◌+◌, ◌-◌, ◌≤◌}
use native.Mathlib.Omega.{arith}
use lib.ListN.{length, take, drop}
use Rattle.format.specs.declared.Family.{Family}
use Rattle.facts.proofs.Cases.{clash}
use Rattle.lines.proofs.Lines.{wrote_inside}
use Rattle.plans.specs.Plans.{PlanOf}
use Rattle.plans.specs.declared.Plan.{Plan}
use Rattle.intake_lines.specs.Output.{Turn}
use Rattle.intake_lines.specs.Contract.{Headed, refused, found, Turned, stopped, went}

module _ (s before after : List ℕ) (wrote next : ℕ) (more : Bool) (p : Plan) where
  pub headed_from : Headed s before after wrote next more p → more ≡ true → 3 ≤ next
  headed_from (refused r q w n m e) go = absurd (clash go m)
  headed_from (found q f i w m pl) go = f

  pub headed_to : Headed s before after wrote next more p → more ≡ true → next ≤ length s
  headed_to (refused r q w n m e) go = absurd (clash go m)
  headed_to (found q f i w m pl) go = i

  pub headed_plan : Headed s before after wrote next more p → more ≡ true → PlanOf Family.Integers (take (next - 3) (drop 3 s)) p
  headed_plan (refused r q w n m e) go = absurd (clash go m)
  headed_plan (found q f i w m pl) go = pl

module _ (u : Turn) (input : List ℕ) (at : ℕ) (before after : List ℕ) (wrote next : ℕ) (more : Bool) where
  pub turned_within : Turned u input at before after wrote next more → length after ≡ length before → wrote ≤ length before
  turned_within (stopped l q w n m) same = let i = wrote_inside l before after wrote w in omega arith
  turned_within (went l q w f i m) same = let k = wrote_inside l before after wrote w in omega arith

  pub turned_from : Turned u input at before after wrote next more → more ≡ true → at + 2 ≤ next
  turned_from (stopped l q w n m) go = absurd (clash go m)
  turned_from (went l q w f i m) go = f

  pub turned_to : Turned u input at before after wrote next more → more ≡ true → next ≤ length input
  turned_to (stopped l q w n m) go = absurd (clash go m)
  turned_to (went l q w f i m) go = i
