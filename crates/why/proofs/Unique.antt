-- Each entry point's promise allows one result only, stated of the contract itself. Assumes nothing.
use mathlib.Core.Path.{◌≡◌, ap₂}
use Prim.Native.Nat.{ℕ}
use borrow.Fn.Kinds.{Dens, res_t, ended_of}
use contract.Lifetimes.{Lfts}
use denote.Triple.Clauses.{AtExit}
use Rattle.why.specs.declared.Why.{Why}
use Rattle.why.proofs.NumberAndGroup.{one_number, one_group}
use Rattle.why.proofs.why_not.Reads as why-not
use Rattle.why.proofs.why_not.Kinds as why-not-kinds
use Rattle.why.proofs.why_not_floats.Reads as why-not-floats
use Rattle.why.proofs.why_not_floats.Kinds as why-not-floats-kinds

abbrev made : ℕ → ℕ → Why
made number group = record { number = number; group = group }

pub why_not_unique : (κs : Lfts 2) (a : Dens κs why-not-kinds.ps) (r r' : (res_t why-not-kinds.r κs).Denot) (s s' : AtExit (ended_of 2 why-not-kinds.ps why-not-kinds.r) κs)
    → why-not.Post κs a r s → why-not.Post κs a r' s' → r ≡ r'
why_not_unique κs a r r' s s' p q = ap₂ made (one_number p q) (one_group p q)

pub why_not_floats_unique : (κs : Lfts 2) (a : Dens κs why-not-floats-kinds.ps) (r r' : (res_t why-not-floats-kinds.r κs).Denot) (s s' : AtExit (ended_of 2 why-not-floats-kinds.ps why-not-floats-kinds.r) κs)
    → why-not-floats.Post κs a r s → why-not-floats.Post κs a r' s' → r ≡ r'
why_not_floats_unique κs a r r' s s' p q = ap₂ made (one_number p q) (one_group p q)
