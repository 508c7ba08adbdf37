-- Each public function's promise allows one result only, stated of the contract itself. Assumes nothing.
use mathlib.Core.Path.{◌≡◌, sym, ◌∙◌}
use borrow.Fn.Kinds.{Dens, res_t, ended_of}
use contract.Lifetimes.{Lfts}
use denote.Triple.Clauses.{AtExit}
use Rattle.integers.proofs.bits_at.Reads as bits_at
use Rattle.integers.proofs.bits_at.Kinds as bits-at-kinds
use Rattle.integers.proofs.int_at.Reads as Int-at
use Rattle.integers.proofs.int_at.Kinds as int-at-kinds
use Rattle.integers.proofs.join_bytes.Reads as join-bytes
use Rattle.integers.proofs.join_bytes.Kinds as join-bytes-kinds
use Rattle.integers.proofs.put_int.Reads as put-int
use Rattle.integers.proofs.put_int.Kinds as put-int-kinds
use Rattle.integers.proofs.same.Reads as same
use Rattle.integers.proofs.same.Kinds as same-kinds
use Rattle.integers.proofs.to_bits.Reads as to_bits
use Rattle.integers.proofs.to_bits.Kinds as to-bits-kinds
use Rattle.integers.proofs.to_signed.Reads as to-signed
use Rattle.integers.proofs.to_signed.Kinds as to-signed-kinds
use Rattle.integers.proofs.within.Reads as within
use Rattle.integers.proofs.within.Kinds as within-kinds

pub bits_at_unique : (κs : Lfts 1) (a : Dens κs bits-at-kinds.ps) (r r' : (res_t bits-at-kinds.r κs).Denot) (s s' : AtExit (ended_of 1 bits-at-kinds.ps bits-at-kinds.r) κs)
    → bits_at.Post κs a r s → bits_at.Post κs a r' s' → r ≡ r'
bits_at_unique κs a r r' s s' p q = p ∙ sym q

pub int_at_unique : (κs : Lfts 1) (a : Dens κs int-at-kinds.ps) (r r' : (res_t int-at-kinds.r κs).Denot) (s s' : AtExit (ended_of 1 int-at-kinds.ps int-at-kinds.r) κs)
    → Int-at.Post κs a r s → Int-at.Post κs a r' s' → r ≡ r'
int_at_unique κs a r r' s s' p q = p ∙ sym q

-- every byte of the part that was lent
pub put_int_unique : (κs : Lfts 1) (a : Dens κs put-int-kinds.ps) (r r' : (res_t put-int-kinds.r κs).Denot) (s s' : AtExit (ended_of 1 put-int-kinds.ps put-int-kinds.r) κs)
    → put-int.Post κs a r s → put-int.Post κs a r' s' → s.0.now ≡ s'.0.now
put_int_unique κs a r r' s s' p q = p ∙ sym q

pub same_unique : (κs : Lfts 0) (a : Dens κs same-kinds.ps) (r r' : (res_t same-kinds.r κs).Denot) (s s' : AtExit (ended_of 0 same-kinds.ps same-kinds.r) κs)
    → same.Post κs a r s → same.Post κs a r' s' → r ≡ r'
same_unique κs a r r' s s' p q = p ∙ sym q

pub within_unique : (κs : Lfts 0) (a : Dens κs within-kinds.ps) (r r' : (res_t within-kinds.r κs).Denot) (s s' : AtExit (ended_of 0 within-kinds.ps within-kinds.r) κs)
    → within.Post κs a r s → within.Post κs a r' s' → r ≡ r'
within_unique κs a r r' s s' p q = p ∙ sym q

pub join_bytes_unique : (κs : Lfts 0) (a : Dens κs join-bytes-kinds.ps) (r r' : (res_t join-bytes-kinds.r κs).Denot) (s s' : AtExit (ended_of 0 join-bytes-kinds.ps join-bytes-kinds.r) κs)
    → join-bytes.Post κs a r s → join-bytes.Post κs a r' s' → r ≡ r'
join_bytes_unique κs a r r' s s' p q = p ∙ sym q

pub to_bits_unique : (κs : Lfts 0) (a : Dens κs to-bits-kinds.ps) (r r' : (res_t to-bits-kinds.r κs).Denot) (s s' : AtExit (ended_of 0 to-bits-kinds.ps to-bits-kinds.r) κs)
    → to_bits.Post κs a r s → to_bits.Post κs a r' s' → r ≡ r'
to_bits_unique κs a r r' s s' p q = p ∙ sym q

pub to_signed_unique : (κs : Lfts 0) (a : Dens κs to-signed-kinds.ps) (r r' : (res_t to-signed-kinds.r κs).Denot) (s s' : AtExit (ended_of 0 to-signed-kinds.ps to-signed-kinds.r) κs)
    → to-signed.Post κs a r s → to-signed.Post κs a r' s' → r ≡ r'
to_signed_unique κs a r r' s s' p q = p ∙ sym q
