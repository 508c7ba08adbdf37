-- Any two results that a contract allows are equal; stated of the contract itself. Assumes nothing.
use mathlib.Core.Path.{◌≡◌, sym, ◌∙◌}
use mathlib.Core.Bool.{Bool}
use Prim.Native.Nat.{ℕ}
use borrow.Fn.Kinds.{Dens, res_t, ended_of}
use contract.Lifetimes.{Lfts}
use denote.Triple.Clauses.{AtExit}
use Rattle.masks.proofs.Masks.{bits_same}
use Rattle.reasons.specs.Reason.{Given, a_reason, no_reason}
use Rattle.reasons.proofs.Groups.{reason_same}
use Rattle.reasons.proofs.reason.Reads as reason-reads
use Rattle.reasons.proofs.reason.Kinds as reason-kinds
use Rattle.reasons.proofs.exchanged_reason.Reads as exchanged-reads
use Rattle.reasons.proofs.exchanged_reason.Kinds as exchanged-kinds

given_same : {ok : ℕ → ℕ → Bool} {k n r r' : ℕ} → Given ok k n r → Given ok k n r' → r ≡ r'
given_same {ok} {k} {n} {r} {r'} (a_reason a s) (a_reason b t) = bits_same r r' (reason_same a b)
given_same (a_reason a s) (no_reason z never) = absurd (never _ s)
given_same (no_reason z never) (a_reason b t) = absurd (never _ t)
given_same (no_reason z a) (no_reason y b) = z ∙ sym y

pub reason_unique : (κs : Lfts 1) (a : Dens κs reason-kinds.ps) (r r' : (res_t reason-kinds.r κs).Denot) (s s' : AtExit (ended_of 1 reason-kinds.ps reason-kinds.r) κs)
    → reason-reads.Post κs a r s → reason-reads.Post κs a r' s' → r ≡ r'
reason_unique κs a r r' s s' p q = given_same p q

pub exchanged_reason_unique : (κs : Lfts 1) (a : Dens κs exchanged-kinds.ps) (r r' : (res_t exchanged-kinds.r κs).Denot) (s s' : AtExit (ended_of 1 exchanged-kinds.ps exchanged-kinds.r) κs)
    → exchanged-reads.Post κs a r s → exchanged-reads.Post κs a r' s' → r ≡ r'
exchanged_reason_unique κs a r r' s s' p q = given_same p q
