-- The contracts of the public functions allow one result each. Stated of the contracts themselves, as the check reads them. Assumes nothing.
use mathlib.Core.Path.{◌≡◌, sym, ◌∙◌}
use Prim.Native.Nat.{ℕ}
use borrow.Fn.Kinds.{Dens, res_t, ended_of}
use contract.Lifetimes.{Lfts}
use denote.Triple.Clauses.{AtExit}
use Rattle.masks.specs.Masks.{bit}
use Rattle.facts.proofs.Cases.{same_test}
use Rattle.masks.proofs.Masks.{bits_same, lowest_same, highest_same}
use Rattle.place_masks.specs.Places.{Before, After}
use Rattle.place_masks.proofs.up_to.Reads as up-to-reads
use Rattle.place_masks.proofs.up_to.Kinds as up-to-kinds
use Rattle.place_masks.proofs.from_on.Reads as from-on-reads
use Rattle.place_masks.proofs.from_on.Kinds as from-on-kinds
use Rattle.place_masks.proofs.in_both.Reads as in-both-reads
use Rattle.place_masks.proofs.in_both.Kinds as in-both-kinds
use Rattle.place_masks.proofs.in_either.Reads as in-either-reads
use Rattle.place_masks.proofs.in_either.Kinds as in-either-kinds
use Rattle.place_masks.proofs.left_out.Reads as left-out-reads
use Rattle.place_masks.proofs.left_out.Kinds as left-out-kinds
use Rattle.place_masks.proofs.lowest_place.Reads as lowest-place-reads
use Rattle.place_masks.proofs.lowest_place.Kinds as lowest-place-kinds
use Rattle.place_masks.proofs.highest_place.Reads as highest-place-reads
use Rattle.place_masks.proofs.highest_place.Kinds as highest-place-kinds
use Rattle.place_masks.proofs.moved_up.Reads as moved-up-reads
use Rattle.place_masks.proofs.moved_up.Kinds as moved-up-kinds
use Rattle.place_masks.proofs.before_spares.Reads as before-spares-reads
use Rattle.place_masks.proofs.before_spares.Kinds as before-spares-kinds
use Rattle.place_masks.proofs.after_spares.Reads as after-spares-reads
use Rattle.place_masks.proofs.after_spares.Kinds as after-spares-kinds

before_same : (n least most r s : ℕ) → Before n least most r → Before n least most s → r ≡ s
before_same n least most r s p q = bits_same r s (λ e. same_test (bit r e) (bit s e) (λ h. q.all e (p.some e h)) (λ h. p.all e (q.some e h)))

after_same : (n least most r s : ℕ) → After n least most r → After n least most s → r ≡ s
after_same n least most r s p q = bits_same r s (λ e. same_test (bit r e) (bit s e) (λ h. q.all e (p.low e h) (p.some e h)) (λ h. p.all e (q.low e h) (q.some e h)))

pub up_to_unique : (κs : Lfts 0) (a : Dens κs up-to-kinds.ps) (r r' : (res_t up-to-kinds.r κs).Denot) (s s' : AtExit (ended_of 0 up-to-kinds.ps up-to-kinds.r) κs)
    → up-to-reads.Post κs a r s → up-to-reads.Post κs a r' s' → r ≡ r'
up_to_unique κs a r r' s s' p q = bits_same r r' (λ e. p e ∙ sym (q e))

pub from_on_unique : (κs : Lfts 0) (a : Dens κs from-on-kinds.ps) (r r' : (res_t from-on-kinds.r κs).Denot) (s s' : AtExit (ended_of 0 from-on-kinds.ps from-on-kinds.r) κs)
    → from-on-reads.Post κs a r s → from-on-reads.Post κs a r' s' → r ≡ r'
from_on_unique κs a r r' s s' p q = bits_same r r' (λ e. p e ∙ sym (q e))

pub in_both_unique : (κs : Lfts 0) (a : Dens κs in-both-kinds.ps) (r r' : (res_t in-both-kinds.r κs).Denot) (s s' : AtExit (ended_of 0 in-both-kinds.ps in-both-kinds.r) κs)
    → in-both-reads.Post κs a r s → in-both-reads.Post κs a r' s' → r ≡ r'
in_both_unique κs a r r' s s' p q = bits_same r r' (λ e. p e ∙ sym (q e))

pub in_either_unique : (κs : Lfts 0) (a : Dens κs in-either-kinds.ps) (r r' : (res_t in-either-kinds.r κs).Denot) (s s' : AtExit (ended_of 0 in-either-kinds.ps in-either-kinds.r) κs)
    → in-either-reads.Post κs a r s → in-either-reads.Post κs a r' s' → r ≡ r'
in_either_unique κs a r r' s s' p q = bits_same r r' (λ e. p e ∙ sym (q e))

pub left_out_unique : (κs : Lfts 0) (a : Dens κs left-out-kinds.ps) (r r' : (res_t left-out-kinds.r κs).Denot) (s s' : AtExit (ended_of 0 left-out-kinds.ps left-out-kinds.r) κs)
    → left-out-reads.Post κs a r s → left-out-reads.Post κs a r' s' → r ≡ r'
left_out_unique κs a r r' s s' p q = bits_same r r' (λ e. p e ∙ sym (q e))

pub lowest_place_unique : (κs : Lfts 0) (a : Dens κs lowest-place-kinds.ps) (r r' : (res_t lowest-place-kinds.r κs).Denot) (s s' : AtExit (ended_of 0 lowest-place-kinds.ps lowest-place-kinds.r) κs)
    → lowest-place-reads.Post κs a r s → lowest-place-reads.Post κs a r' s' → r ≡ r'
lowest_place_unique κs a r r' s s' p q = lowest_same p q

pub highest_place_unique : (κs : Lfts 0) (a : Dens κs highest-place-kinds.ps) (r r' : (res_t highest-place-kinds.r κs).Denot) (s s' : AtExit (ended_of 0 highest-place-kinds.ps highest-place-kinds.r) κs)
    → highest-place-reads.Post κs a r s → highest-place-reads.Post κs a r' s' → r ≡ r'
highest_place_unique κs a r r' s s' p q = highest_same p q

pub moved_up_unique : (κs : Lfts 0) (a : Dens κs moved-up-kinds.ps) (r r' : (res_t moved-up-kinds.r κs).Denot) (s s' : AtExit (ended_of 0 moved-up-kinds.ps moved-up-kinds.r) κs)
    → moved-up-reads.Post κs a r s → moved-up-reads.Post κs a r' s' → r ≡ r'
moved_up_unique κs a r r' s s' p q = bits_same r r' (λ e. p e ∙ sym (q e))

pub before_spares_unique : (κs : Lfts 0) (a : Dens κs before-spares-kinds.ps) (r r' : (res_t before-spares-kinds.r κs).Denot) (s s' : AtExit (ended_of 0 before-spares-kinds.ps before-spares-kinds.r) κs)
    → before-spares-reads.Post κs a r s → before-spares-reads.Post κs a r' s' → r ≡ r'
before_spares_unique κs a r r' s s' p q = before_same a.0 a.1.0 a.1.1.0 r r' p q

pub after_spares_unique : (κs : Lfts 0) (a : Dens κs after-spares-kinds.ps) (r r' : (res_t after-spares-kinds.r κs).Denot) (s s' : AtExit (ended_of 0 after-spares-kinds.ps after-spares-kinds.r) κs)
    → after-spares-reads.Post κs a r s → after-spares-reads.Post κs a r' s' → r ≡ r'
after_spares_unique κs a r r' s s' p q = after_same a.0 a.1.0 a.1.1.0 r r' p q
