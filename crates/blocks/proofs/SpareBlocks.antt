-- What a block with no members takes: spare elements, and nothing else. Assumes nothing.
use mathlib.Core.Path.{◌≡◌, sym, ◌∙◌}
use mathlib.Core.Logic.{⊎_elim}
use mathlib.Core.Bool.{Bool, true}
use mathlib.Core.List.{List}
use Prim.Native.Nat.{ℕ, ◌+◌, ◌-◌, ◌≤◌}
use native.Mathlib.Omega.{arith}
use lib.ListN.{get_or, replicate, length-replicate, get_or-replicate}
use lib.Seq.{ext_get_or}
use Rattle.facts.specs.Counting.{between}
use Rattle.facts.proofs.Spans.{between_from, between_to}
use Rattle.blocks.specs.declared.Block.{Block}
use Rattle.blocks.specs.Pieces.{Takes}
use Rattle.blocks.proofs.Assignments.{takes_spare, takes_inv}

pub spares_taken : (may : ℕ → ℕ → Bool) (b : Block) (from to : ℕ) → b.k ≡ 0 → from ≤ to → from + b.min ≤ to → to ≤ from + b.max → Takes may b from to (replicate (to - from) 255)
spares_taken may b from to z o enough few =
    let n = length-replicate {A = ℕ} (to - from) 255 in
    record {
      assigned = record {
        size = n;
        right = λ i l. takes_spare may b.first b.k (from + i) (get_or (replicate (to - from) 255) i 0) (get_or-replicate {A = ℕ} (to - from) i 255 0 (omega arith));
        once = λ m f t. absurd (omega arith);
      };
      enough = omega arith;
      few = omega arith;
    }

pub spares_only : {may : ℕ → ℕ → Bool} {b : Block} {from to : ℕ} {v : List ℕ} → b.k ≡ 0 → Takes may b from to v → v ≡ replicate (to - from) 255
spares_only {may} {b} {from} {to} {v} z t =
    let n = t.assigned.size in
    let m = length-replicate {A = ℕ} (to - from) 255 in
    ext_get_or 0 v (replicate (to - from) 255) (omega arith) (λ i l. ⊎_elim
    (λ (q : get_or v i 0 ≡ 255). q)
    (λ (q : (between b.first (b.first + b.k) (get_or v i 0) ≡ true) × (may (get_or v i 0) (from + i) ≡ true)).
    let x = between_from b.first (b.first + b.k) (get_or v i 0) q.0 in
    let y = between_to b.first (b.first + b.k) (get_or v i 0) q.0 in
    absurd (omega arith))
    (takes_inv may b.first b.k (from + i) (get_or v i 0) (t.assigned.right i l))
    ∙ sym (get_or-replicate {A = ℕ} (to - from) i 255 0 (omega arith)))
