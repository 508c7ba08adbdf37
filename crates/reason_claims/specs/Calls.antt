-- Calls of `why_not` and `why_not_floats`: what their contracts allow, the contracts being those that the prover made of the `ensures` in src/, and no copy.
-- WhyIntegersCall, WhyFloatsCall t xs r g <-> by its contract `why_not`, or `why_not_floats`, may give the number r and the group g, a mask, for the
--             template bytes t and the list xs
-- WhyCall f t xs r g <-> this of the entry point for the family f
-- Assumes nothing: these are definitions.
use Rattle.std.specs.Prelude.{◌≡◌, List, ℕ, ℤ, Float}
use borrow.Fn.Kinds.{Dens, res_t, ended_of}
use contract.Lifetimes.{Lfts}
use denote.Triple.Clauses.{AtExit}
use Rattle.format.specs.declared.Family.{Family}
use Rattle.grammar.specs.Family.{ElementOf}
use Rattle.why.proofs.why_not.Reads as why-not
use Rattle.why.proofs.why_not.Kinds as why-not-kinds
use Rattle.why.proofs.why_not_floats.Reads as why-not-floats
use Rattle.why.proofs.why_not_floats.Kinds as why-not-floats-kinds

pub record WhyIntegersCall (t : List ℕ) (xs : List ℤ) (r g : ℕ) : Type 0 where
  pub κs : Lfts 2
  pub lent : Dens κs why-not-kinds.ps
  pub result : (res_t why-not-kinds.r κs).Denot
  pub left : AtExit (ended_of 2 why-not-kinds.ps why-not-kinds.r) κs
  pub bytes : lent.0.now ≡ t
  pub list : lent.1.0.now ≡ xs
  pub number : result.number ≡ r
  pub mask : result.group ≡ g
  pub allowed : why-not.Post κs lent result left

pub record WhyFloatsCall (t : List ℕ) (xs : List Float) (r g : ℕ) : Type 0 where
  pub κs : Lfts 2
  pub lent : Dens κs why-not-floats-kinds.ps
  pub result : (res_t why-not-floats-kinds.r κs).Denot
  pub left : AtExit (ended_of 2 why-not-floats-kinds.ps why-not-floats-kinds.r) κs
  pub bytes : lent.0.now ≡ t
  pub list : lent.1.0.now ≡ xs
  pub number : result.number ≡ r
  pub mask : result.group ≡ g
  pub allowed : why-not-floats.Post κs lent result left

abbrev pub WhyCall : (f : Family) → List ℕ → List (ElementOf f) → ℕ → ℕ → Type 0
WhyCall Family.Integers = WhyIntegersCall
WhyCall Family.Floats = WhyFloatsCall
