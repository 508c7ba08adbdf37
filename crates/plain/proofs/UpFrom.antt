-- Numbers one after the other. Assumes nothing.
-- up_length: how many they are. up_at: the one at a place. up_take: written into bytes one after the other. Counted, counted_end: bytes looked
-- at one after the other.
use mathlib.Core.Path.{◌≡◌, refl, sym, ap, ◌∙◌}
use mathlib.Core.Bool.{Bool}
use mathlib.Core.List.{List}
use Prim.Native.Nat.{ℕ, zero, suc, ◌+◌, ◌≤◌, ◌<◌}
use native.Mathlib.Omega.{arith}
use lib.ListN.{length, get_or, take}
use lib.Seq.{ext_get_or, get_or-take, length-take-le}
use Rattle.blocks.specs.Pieces.{Passing}
use Rattle.plain.specs.Plain.{up_from}

pub up_length : (m k : ℕ) → length (up_from m k) ≡ k
unfolding up_from
up_length m zero = refl
up_length m (suc k) = ap suc (up_length (suc m) k)

pub up_at : (m k i : ℕ) → i < k → get_or (up_from m k) i 0 ≡ m + i
unfolding up_from
up_at m zero i l = absurd (omega arith)
up_at m (suc k) zero l = omega arith
up_at m (suc k) (suc i) l = let h = up_at (suc m) k i (omega arith) in omega arith

pub up_take : (n : ℕ) (w : List ℕ) → n ≤ length w → ((i : ℕ) → i < n → get_or w i 0 ≡ i) → take n w ≡ up_from 0 n
up_take n w l h =
    let size = length-take-le n w l in
    ext_get_or 0 (take n w) (up_from 0 n) (size ∙ sym (up_length 0 n)) (λ i u. let v : i < n = omega arith in get_or-take n w i 0 v ∙ h i v ∙ (let z = up_at 0 n i v in omega arith))

-- the flag says whether there are `count` bytes, and those before e are their own places
pub record Counted (w : List ℕ) (count e : ℕ) (up : Bool) : Type 0 where
  pub passes : Passing ((length w ≡ count) × ((i : ℕ) → i < e → get_or w i 0 ≡ i)) up

pub counted_end : (w : List ℕ) (count e : ℕ) (up : Bool) → e ≡ length w → Counted w count e up → Passing (w ≡ up_from 0 count) up
counted_end w count e up z g = record {
  passed = λ h.
      let q = g.passes.passed h in
      ext_get_or 0 w (up_from 0 count) (q.0 ∙ sym (up_length 0 count)) (λ i u. q.1 i (omega arith) ∙ (let y = up_at 0 count i (omega (arith, q.0)) in omega arith));
  failed = λ h q.
      let size : length w ≡ count = ap length q ∙ up_length 0 count in
      g.passes.failed h (size, λ i u. ap (λ (v : List ℕ). get_or v i 0) q ∙ (let y = up_at 0 count i (omega arith) in omega arith));
}
