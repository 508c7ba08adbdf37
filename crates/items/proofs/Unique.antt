-- Each public function's promise allows one result only, stated of the contract itself; of the lent block where the item is not refused, and of the
-- places what stands there. Assumes nothing.
use mathlib.Core.Path.{◌≡◌, sym, ◌∙◌}
use mathlib.Core.List.{List}
use Prim.Native.Nat.{ℕ, ◌≤◌}
use native.Mathlib.Omega.{arith}
use borrow.Fn.Kinds.{Dens, res_t, ended_of}
use contract.Lifetimes.{Lfts}
use denote.Triple.Clauses.{AtExit}
use Rattle.grammar.specs.Family.{LeafOf}
use Rattle.sorts.specs.Sorts.{family_of}
use Rattle.grammar.specs.Read.{Read}
use Rattle.grammar.specs.Template.{Group, Item}
use Rattle.elements.specs.Contract.{fault_in, Noted, stopped, noted}
use Rattle.elements.proofs.Unique.{noted_same}
use Rattle.items.proofs.record.kind_at.Reads as kind_at
use Rattle.items.proofs.record.kind_at.Kinds as kind-at-kinds
use Rattle.items.proofs.record.bounds_fault.Reads as bounds-fault
use Rattle.items.proofs.record.bounds_fault.Kinds as bounds-fault-kinds
use Rattle.items.proofs.group.star_end.Reads as star-end
use Rattle.items.proofs.group.star_end.Kinds as star-end-kinds
use Rattle.items.proofs.group.integer_member_end.Reads as integer-member-end
use Rattle.items.proofs.group.integer_member_end.Kinds as integer-member-end-kinds
use Rattle.items.proofs.group.other_member_end.Reads as other-member-end
use Rattle.items.proofs.group.other_member_end.Kinds as other-member-end-kinds
use Rattle.items.proofs.group.group_end.Reads as group-end
use Rattle.items.proofs.group.group_end.Kinds as group-end-kinds
use Rattle.items.proofs.item.item_end.Reads as item-end
use Rattle.items.proofs.item.item_end.Kinds as item-end-kinds

-- what two scans of one reading say where it is not refused is said of one thing
noted_one : {A : Type 0} {P Q : A → Type 0} {t : List ℕ} {o : Read A} {r r' : ℕ} (R : Type 0) → ((a : A) → P a → Q a → R) → Noted P t o (fault_in r) r → Noted Q t o (fault_in r') r' → r ≤ 16777215 → R
noted_one R f (stopped e p s) v l = absurd (omega arith)
noted_one R f (noted a e z w i) (stopped e' p s) l = let c : ◌≡◌ {A = ℕ} 0 1 = cc in absurd (omega arith)
noted_one R f (noted a e z w i) (noted b e' z' v j) l = let s : b ≡ a = cc in f a w (rw s at v)

pub kind_at_unique : (κs : Lfts 1) (a : Dens κs kind-at-kinds.ps) (r r' : (res_t kind-at-kinds.r κs).Denot) (s s' : AtExit (ended_of 1 kind-at-kinds.ps kind-at-kinds.r) κs)
    → kind_at.Post κs a r s → kind_at.Post κs a r' s' → r ≡ r'
kind_at_unique κs a r r' s s' p q = p ∙ sym q

pub bounds_fault_unique : (κs : Lfts 1) (a : Dens κs bounds-fault-kinds.ps) (r r' : (res_t bounds-fault-kinds.r κs).Denot) (s s' : AtExit (ended_of 1 bounds-fault-kinds.ps bounds-fault-kinds.r) κs)
    → bounds-fault.Post κs a r s → bounds-fault.Post κs a r' s' → r ≡ r'
bounds_fault_unique κs a r r' s s' p q = p ∙ sym q

pub star_end_unique : (κs : Lfts 1) (a : Dens κs star-end-kinds.ps) (r r' : (res_t star-end-kinds.r κs).Denot) (s s' : AtExit (ended_of 1 star-end-kinds.ps star-end-kinds.r) κs)
    → star-end.Post κs a r s → star-end.Post κs a r' s' → r ≡ r'
star_end_unique κs a r r' s s' p q = noted_same _ _ _ _ r r' p q

pub integer_member_end_unique : (κs : Lfts 2) (a : Dens κs integer-member-end-kinds.ps) (r r' : (res_t integer-member-end-kinds.r κs).Denot) (s s' : AtExit (ended_of 2 integer-member-end-kinds.ps integer-member-end-kinds.r) κs)
    → integer-member-end.Post κs a r s → integer-member-end.Post κs a r' s' → r ≡ r'
integer_member_end_unique κs a r r' s s' p q = noted_same _ _ _ _ r r' p.0 q.0

pub other_member_end_unique : (κs : Lfts 2) (a : Dens κs other-member-end-kinds.ps) (r r' : (res_t other-member-end-kinds.r κs).Denot) (s s' : AtExit (ended_of 2 other-member-end-kinds.ps other-member-end-kinds.r) κs)
    → other-member-end.Post κs a r s → other-member-end.Post κs a r' s' → r ≡ r'
other_member_end_unique κs a r r' s s' p q = noted_same _ _ _ _ r r' p.0 q.0

pub group_end_unique : (κs : Lfts 3) (a : Dens κs group-end-kinds.ps) (r r' : (res_t group-end-kinds.r κs).Denot) (s s' : AtExit (ended_of 3 group-end-kinds.ps group-end-kinds.r) κs)
    → group-end.Post κs a r s → group-end.Post κs a r' s' → (r ≡ r') × (r ≤ 16777215 → s.1.1.1.1.1.1.1.0.now ≡ s'.1.1.1.1.1.1.1.0.now)
group_end_unique κs a r r' s s' p q =
    (noted_same _ _ _ _ r r' p.0 q.0, noted_one (s.1.1.1.1.1.1.1.0.now ≡ s'.1.1.1.1.1.1.1.0.now) (λ (g : Group (LeafOf (family_of a.1.1.1.1.1.0))) x y. x.says.0 ∙ sym y.says.0) p.0 q.0)

pub item_end_unique : (κs : Lfts 3) (a : Dens κs item-end-kinds.ps) (r r' : (res_t item-end-kinds.r κs).Denot) (s s' : AtExit (ended_of 3 item-end-kinds.ps item-end-kinds.r) κs)
    → item-end.Post κs a r s → item-end.Post κs a r' s' → (r ≡ r') × (r ≤ 16777215 → s.1.1.1.1.1.0.now ≡ s'.1.1.1.1.1.0.now)
item_end_unique κs a r r' s s' p q =
    (noted_same _ _ _ _ r r' p.0 q.0, noted_one (s.1.1.1.1.1.0.now ≡ s'.1.1.1.1.1.0.now) (λ (i : Item (LeafOf (family_of a.1.1.1.0))) x y. x.says.0 ∙ sym y.says.0) p.0 q.0)
