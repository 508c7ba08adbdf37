-- Each public function's promise allows one result only, stated of the contract itself. Assumes nothing.
use mathlib.Core.Path.{◌≡◌, sym, ap, ap₂, ◌∙◌}
use mathlib.Core.List.{List}
use Prim.Native.Nat.{ℕ}
use lib.IntN.{ℤ}
use borrow.Fn.Kinds.{Dens, res_t, ended_of}
use contract.Lifetimes.{Lfts}
use denote.Triple.Clauses.{AtExit}
use Rattle.facts.proofs.Slices.{same_place}
use Rattle.leaves.specs.Leaves.{LeafHere, BoundsHere}
use Rattle.leaves.specs.declared.Bounds.{Bounds}
use Rattle.leaves.proofs.bounds_at.Reads as bounds-at
use Rattle.leaves.proofs.bounds_at.Kinds as bounds-at-kinds
use Rattle.leaves.proofs.float_leaf_at.Reads as float-leaf-at
use Rattle.leaves.proofs.float_leaf_at.Kinds as float-leaf-at-kinds
use Rattle.leaves.proofs.float_leaf_size.Reads as float-leaf-size
use Rattle.leaves.proofs.float_leaf_size.Kinds as float-leaf-size-kinds

-- the bounds of a leaf and the place after it, each field
bounds_same : (t : List ℕ) (at : ℕ) (r r' : Bounds) → LeafHere t at → BoundsHere t at r.lower r.upper r.next → BoundsHere t at r'.lower r'.upper r'.next → r ≡ r'
bounds_same t at r r' w p q =
    let u = p.right w.what w.rest w.reads in
    let v = q.right w.what w.rest w.reads in
    let lower : r.lower ≡ r'.lower = u.0 ∙ sym v.0 in
    let upper : r.upper ≡ r'.upper = u.1 ∙ sym v.1 in
    let next : r.next ≡ r'.next = same_place t r.next r'.next p.inside q.inside (u.2 ∙ sym v.2) in
    ap₂ (λ (a b : ℤ). made a b r.next) lower upper ∙ ap (made r'.lower r'.upper) next
  where
    made : ℤ → ℤ → ℕ → Bounds
    made a b n = record { lower = a; upper = b; next = n }

pub bounds_at_unique : (κs : Lfts 1) (a : Dens κs bounds-at-kinds.ps) (r r' : (res_t bounds-at-kinds.r κs).Denot) (s s' : AtExit (ended_of 1 bounds-at-kinds.ps bounds-at-kinds.r) κs)
    → bounds-at.Pre κs a → bounds-at.Post κs a r s → bounds-at.Post κs a r' s' → r ≡ r'
bounds_at_unique κs a r r' s s' w p q = bounds_same _ _ r r' w p q

pub float_leaf_at_unique : (κs : Lfts 1) (a : Dens κs float-leaf-at-kinds.ps) (r r' : (res_t float-leaf-at-kinds.r κs).Denot) (s s' : AtExit (ended_of 1 float-leaf-at-kinds.ps float-leaf-at-kinds.r) κs)
    → float-leaf-at.Pre κs a → float-leaf-at.Post κs a r s → float-leaf-at.Post κs a r' s' → r ≡ r'
float_leaf_at_unique κs a r r' s s' w p q = p.right w.what w.rest w.reads ∙ sym (q.right w.what w.rest w.reads)

pub float_leaf_size_unique : (κs : Lfts 0) (a : Dens κs float-leaf-size-kinds.ps) (r r' : (res_t float-leaf-size-kinds.r κs).Denot) (s s' : AtExit (ended_of 0 float-leaf-size-kinds.ps float-leaf-size-kinds.r) κs)
    → float-leaf-size.Post κs a r s → float-leaf-size.Post κs a r' s' → r ≡ r'
float_leaf_size_unique κs a r r' s s' p q = p ∙ sym q
