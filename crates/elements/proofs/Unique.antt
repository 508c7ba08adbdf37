-- Each public function's promise allows one result only, stated of the contract itself: the number says the refusal too. Assumes nothing.
use mathlib.Core.Path.{◌≡◌, sym, ◌∙◌}
use mathlib.Core.List.{List}
use Prim.Native.Nat.{ℕ}
use native.Mathlib.Omega.{arith}
use lib.ListN.{drop}
use borrow.Fn.Kinds.{Dens, res_t, ended_of}
use contract.Lifetimes.{Lfts}
use denote.Triple.Clauses.{AtExit}
use Rattle.grammar.specs.Record.{Head}
use Rattle.grammar.specs.Read.{Read}
use Rattle.elements.specs.Contract.{fault_in, HeadAt, faulty, a_leaf, a_group, Noted, stopped, noted, Answered, rejected, accepted}
use Rattle.elements.proofs.refusal.Reads as refusal
use Rattle.elements.proofs.refusal.Kinds as refusal-kinds
use Rattle.elements.proofs.count_fault.Reads as count-fault
use Rattle.elements.proofs.count_fault.Kinds as count-fault-kinds
use Rattle.elements.proofs.integer_head_end.Reads as integer-head-end
use Rattle.elements.proofs.integer_head_end.Kinds as integer-head-end-kinds
use Rattle.elements.proofs.other_head_end.Reads as other-head-end
use Rattle.elements.proofs.other_head_end.Kinds as other-head-end-kinds
use Rattle.elements.proofs.rest_end.Reads as rest_end
use Rattle.elements.proofs.rest_end.Kinds as rest-end-kinds
use Rattle.elements.proofs.scan_element.Reads as scan-element
use Rattle.elements.proofs.scan_element.Kinds as scan-element-kinds
use Rattle.facts.proofs.Slices.{same_place}

-- one reading has one number
pub answered_unique : {A : Type 0} (o : Read A) (r r' : ℕ) → Answered o r → Answered o r' → r ≡ r'
answered_unique o r r' (rejected q p) (rejected q' p') = cc
answered_unique o r r' (rejected q p) (accepted a q' z) = let c : ◌≡◌ {A = ℕ} 0 1 = cc in absurd (omega arith)
answered_unique o r r' (accepted a q z) (rejected q' p) = let c : ◌≡◌ {A = ℕ} 0 1 = cc in absurd (omega arith)
answered_unique o r r' (accepted a q z) (accepted b q' z') = z ∙ sym z'

-- one record has one end
head_same : {L : Type 0} (t : List ℕ) (at : ℕ) (h : Head L) (r r' : ℕ) → HeadAt t at h r → HeadAt t at h r' → r ≡ r'
head_same t at h r r' (faulty e p s) (faulty e' p' s') = let c : fault_in r ≡ fault_in r' = cc in omega arith
head_same t at h r r' (faulty e p s) (a_leaf l e' k a i) = let c : ◌≡◌ {A = ℕ} 0 1 = cc in absurd (omega arith)
head_same t at h r r' (faulty e p s) (a_group c e' k a i) = let x : ◌≡◌ {A = ℕ} 0 1 = cc in absurd (omega arith)
head_same t at h r r' (a_leaf l e k a i) (faulty e' p s) = let c : ◌≡◌ {A = ℕ} 0 1 = cc in absurd (omega arith)
head_same t at h r r' (a_leaf l e k a i) (a_leaf l' e' k' a' i') = let d : drop r t ≡ drop r' t = cc in same_place t r r' i i' d
head_same t at h r r' (a_leaf l e k a i) (a_group c e' k' a' i') = let x : ◌≡◌ {A = ℕ} 0 1 = cc in absurd (omega arith)
head_same t at h r r' (a_group c e k a i) (faulty e' p s) = let x : ◌≡◌ {A = ℕ} 0 1 = cc in absurd (omega arith)
head_same t at h r r' (a_group c e k a i) (a_leaf l e' k' a' i') = let x : ◌≡◌ {A = ℕ} 0 1 = cc in absurd (omega arith)
head_same t at h r r' (a_group c e k a i) (a_group c' e' k' a' i') = a ∙ sym a'

-- one reading has one answer, whatever is told of it besides
pub noted_same : {A : Type 0} (Tells Tells' : A → Type 0) (t : List ℕ) (o : Read A) (r r' : ℕ) → Noted Tells t o (fault_in r) r → Noted Tells' t o (fault_in r') r' → r ≡ r'
noted_same Tells Tells' t o r r' (stopped e p s) (stopped e' p' s') = let c : fault_in r ≡ fault_in r' = cc in omega arith
noted_same Tells Tells' t o r r' (stopped e p s) (noted a e' z k f) = let c : ◌≡◌ {A = ℕ} 0 1 = cc in absurd (omega arith)
noted_same Tells Tells' t o r r' (noted a e z k f) (stopped e' p s) = let c : ◌≡◌ {A = ℕ} 0 1 = cc in absurd (omega arith)
noted_same Tells Tells' t o r r' (noted a e z k f) (noted a' e' z' k' f') = let d : drop r t ≡ drop r' t = cc in same_place t r r' f f' d

pub refusal_unique : (κs : Lfts 0) (a : Dens κs refusal-kinds.ps) (r r' : (res_t refusal-kinds.r κs).Denot) (s s' : AtExit (ended_of 0 refusal-kinds.ps refusal-kinds.r) κs)
    → refusal.Post κs a r s → refusal.Post κs a r' s' → r ≡ r'
refusal_unique κs a r r' s s' p q = p ∙ sym q

pub count_fault_unique : (κs : Lfts 1) (a : Dens κs count-fault-kinds.ps) (r r' : (res_t count-fault-kinds.r κs).Denot) (s s' : AtExit (ended_of 1 count-fault-kinds.ps count-fault-kinds.r) κs)
    → count-fault.Post κs a r s → count-fault.Post κs a r' s' → r ≡ r'
count_fault_unique κs a r r' s s' p q = p ∙ sym q

pub integer_head_end_unique : (κs : Lfts 1) (a : Dens κs integer-head-end-kinds.ps) (r r' : (res_t integer-head-end-kinds.r κs).Denot) (s s' : AtExit (ended_of 1 integer-head-end-kinds.ps integer-head-end-kinds.r) κs)
    → integer-head-end.Post κs a r s → integer-head-end.Post κs a r' s' → r ≡ r'
integer_head_end_unique κs a r r' s s' p q = head_same _ _ _ r r' p q

pub other_head_end_unique : (κs : Lfts 1) (a : Dens κs other-head-end-kinds.ps) (r r' : (res_t other-head-end-kinds.r κs).Denot) (s s' : AtExit (ended_of 1 other-head-end-kinds.ps other-head-end-kinds.r) κs)
    → other-head-end.Post κs a r s → other-head-end.Post κs a r' s' → r ≡ r'
other_head_end_unique κs a r r' s s' p q = head_same _ _ _ r r' p q

pub rest_end_unique : (κs : Lfts 1) (a : Dens κs rest-end-kinds.ps) (r r' : (res_t rest-end-kinds.r κs).Denot) (s s' : AtExit (ended_of 1 rest-end-kinds.ps rest-end-kinds.r) κs)
    → rest_end.Post κs a r s → rest_end.Post κs a r' s' → r ≡ r'
rest_end_unique κs a r r' s s' p q = noted_same _ _ _ _ r r' p q

pub scan_element_unique : (κs : Lfts 1) (a : Dens κs scan-element-kinds.ps) (r r' : (res_t scan-element-kinds.r κs).Denot) (s s' : AtExit (ended_of 1 scan-element-kinds.ps scan-element-kinds.r) κs)
    → scan-element.Post κs a r s → scan-element.Post κs a r' s' → r ≡ r'
scan_element_unique κs a r r' s s' p q = answered_unique _ r r' p q
