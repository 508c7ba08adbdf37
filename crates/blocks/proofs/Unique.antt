-- The contracts of the public functions allow one result each. Stated of the contracts themselves, as the check reads them. Assumes nothing.
use mathlib.Core.Path.{◌≡◌, sym, ◌∙◌}
use borrow.Fn.Kinds.{Dens, res_t, ended_of}
use contract.Lifetimes.{Lfts}
use denote.Triple.Clauses.{AtExit}
use Rattle.blocks.proofs.number_of.Reads as number-of-reads
use Rattle.blocks.proofs.number_of.Kinds as number-of-kinds
use Rattle.blocks.proofs.block_of.Reads as block-of-reads
use Rattle.blocks.proofs.block_of.Kinds as block-of-kinds
use Rattle.blocks.proofs.block_at.Reads as block-at-reads
use Rattle.blocks.proofs.block_at.Kinds as block-at-kinds
use Rattle.blocks.proofs.is_one.Reads as is-one-reads
use Rattle.blocks.proofs.is_one.Kinds as is-one-kinds

pub number_of_unique : (κs : Lfts 0) (a : Dens κs number-of-kinds.ps) (r r' : (res_t number-of-kinds.r κs).Denot) (s s' : AtExit (ended_of 0 number-of-kinds.ps number-of-kinds.r) κs)
    → number-of-reads.Post κs a r s → number-of-reads.Post κs a r' s' → r ≡ r'
number_of_unique κs a r r' s s' p q = p.0 ∙ sym q.0

pub block_of_unique : (κs : Lfts 0) (a : Dens κs block-of-kinds.ps) (r r' : (res_t block-of-kinds.r κs).Denot) (s s' : AtExit (ended_of 0 block-of-kinds.ps block-of-kinds.r) κs)
    → block-of-reads.Post κs a r s → block-of-reads.Post κs a r' s' → r ≡ r'
block_of_unique κs a r r' s s' p q = p ∙ sym q

pub block_at_unique : (κs : Lfts 1) (a : Dens κs block-at-kinds.ps) (r r' : (res_t block-at-kinds.r κs).Denot) (s s' : AtExit (ended_of 1 block-at-kinds.ps block-at-kinds.r) κs)
    → block-at-reads.Post κs a r s → block-at-reads.Post κs a r' s' → r ≡ r'
block_at_unique κs a r r' s s' p q = p ∙ sym q

pub is_one_unique : (κs : Lfts 0) (a : Dens κs is-one-kinds.ps) (r r' : (res_t is-one-kinds.r κs).Denot) (s s' : AtExit (ended_of 0 is-one-kinds.ps is-one-kinds.r) κs)
    → is-one-reads.Post κs a r s → is-one-reads.Post κs a r' s' → r ≡ r'
is_one_unique κs a r r' s s' p q = p ∙ sym q
