-- What one member and no spare element take. Assumes nothing.
-- one_parts: such a block in numbers. one_taken, taken_one: it takes one element, and gives it its member.
use mathlib.Core.Path.{◌≡◌, ap, subst}
use mathlib.Core.Logic.{⊎_elim}
use mathlib.Core.Bool.{Bool, true, ◌&&◌}
use mathlib.Core.List.{List, [], ◌∷◌}
use Prim.Native.Nat.{ℕ, zero, suc, ◌+◌, ◌≤◌, ◌<◌}
use native.Mathlib.Omega.{arith}
use lib.Dec.{eqb}
use lib.ListN.{length, get_or}
use borrow.Author.Tests.{eqb-true}
use Rattle.facts.specs.Counting.{between, cnt}
use Rattle.facts.proofs.Cases.{same?, and_left, and_right, hit, miss}
use Rattle.facts.proofs.Spans.{between_in}
use Rattle.blocks.specs.declared.Block.{Block}
use Rattle.blocks.specs.Assignment.{takes}
use Rattle.blocks.specs.Pieces.{Takes, is_one}
use Rattle.blocks.proofs.Assignments.{takes_member, takes_inv}

pub one_parts : (b : Block) → is_one b ≡ true → (b.k ≡ 1) × (b.min ≡ 0) × (b.max ≡ 0)
unfolding is_one
one_parts b h =
    let r = and_right (eqb b.k 1) (eqb b.min 0 && eqb b.max 0) h in
    (eqb-true b.k 1 (and_left (eqb b.k 1) (eqb b.min 0 && eqb b.max 0) h), eqb-true b.min 0 (and_left (eqb b.min 0) (eqb b.max 0) r), eqb-true b.max 0 (and_right (eqb b.min 0) (eqb b.max 0) r))

pub one_taken : (may : ℕ → ℕ → Bool) (b : Block) (p : ℕ) → is_one b ≡ true → may b.first p ≡ true → Takes may b p (p + 1) (b.first ∷ [])
unfolding cnt
one_taken may b p h o =
    let q = one_parts b h in
    let k = q.0 in
    record {
      assigned = record {
        size = omega arith;
        right = at;
        once = λ v f t. let e : b.first ≡ v = omega arith in let z = hit b.first v e in omega arith;
      };
      enough = let m = q.1 in omega arith;
      few = omega arith;
    }
  where
    at : (i : ℕ) → i < length (b.first ∷ []) → takes may b.first b.k (p + i) (get_or (b.first ∷ []) i 0) ≡ true
    at zero l = let k = (one_parts b h).0 in takes_member may b.first b.k (p + 0) b.first (between_in b.first (b.first + b.k) b.first (omega arith) (omega arith))
        (subst (λ (j : ℕ). may b.first j ≡ true) (let z : p ≡ p + 0 = omega arith in z) o)
    at (suc i) l = absurd (omega arith)

pub taken_one : {may : ℕ → ℕ → Bool} {b : Block} {p q : ℕ} (v : List ℕ) → is_one b ≡ true → b.first < 32 → p ≤ q → Takes may b p q v → (q ≡ p + 1) × (v ≡ b.first ∷ []) × (may b.first p ≡ true)
unfolding cnt
taken_one {may} {b} {p} {q} [] h l o t = let k = (one_parts b h).0 in let n = t.assigned.size in let e = t.enough in absurd (omega arith)
taken_one {may} {b} {p} {q} (x ∷ []) h l o t =
    let z = one_parts b h in
    let k = z.0 in
    let top = z.2 in
    let n = t.assigned.size in
    let e = t.enough in
    let f = t.few in
    let c = t.assigned.once b.first (omega arith) (omega arith) in
    let is : x ≡ b.first = ⊎_elim (λ (y : x ≡ b.first). y) (λ (y : x ≡ b.first → ⊥). let m = miss x b.first y in absurd (omega arith)) (same? x b.first) in
    let r = t.assigned.right 0 (omega arith) in (
      omega arith,
      ap (λ (y : ℕ). y ∷ []) is,
      ⊎_elim
          (λ (y : x ≡ 255). absurd (omega arith))
          (λ (y : (between b.first (b.first + b.k) x ≡ true) × (may x (p + 0) ≡ true)).
          subst (λ (m : ℕ). may m p ≡ true) is (subst (λ (j : ℕ). may x j ≡ true) (let w : p + 0 ≡ p = omega arith in w) y.1))
          (takes_inv may b.first b.k (p + 0) x r),
    )
taken_one {may} {b} {p} {q} (x ∷ y ∷ v) h l o t = let z = one_parts b h in let k = z.0 in let top = z.2 in let n = t.assigned.size in let f = t.few in absurd (omega arith)
