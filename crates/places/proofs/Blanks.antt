-- Pieces of lists that are 255 at one end. Assumes nothing.
use mathlib.Core.Path.{◌≡◌, sym, ap, ◌∙◌}
use mathlib.Core.List.{List, ◌++◌}
use Prim.Native.Nat.{ℕ, ◌+◌, ◌-◌, ◌≤◌, ◌<◌}
use native.Mathlib.Omega.{arith}
use lib.ListN.{length, get_or, replicate, length-replicate, get_or-replicate}
use lib.Seq.{slice, length-slice, ext_get_or}
use Rattle.facts.proofs.Slices.{slice_at, slice_split}

pub slice_blank : (from to : ℕ) (w : List ℕ) → to ≤ length w → ((i : ℕ) → from ≤ i → i < to → get_or w i 0 ≡ 255) → slice from to w ≡ replicate (to - from) 255
slice_blank from to w t h =
    let n = length-slice from to w t in
    let m = length-replicate {A = ℕ} (to - from) 255 in
    ext_get_or 0 (slice from to w) (replicate (to - from) 255) (omega arith) (λ i l.
    slice_at from to w i (omega arith) ∙ h (from + i) (omega arith) (omega arith) ∙ sym (get_or-replicate {A = ℕ} (to - from) i 255 0 (omega arith)))

pub slice_tail : (from e to : ℕ) (w : List ℕ) → from ≤ e → e ≤ to → to ≤ length w → ((i : ℕ) → e ≤ i → i < to → get_or w i 0 ≡ 255) → slice from to w ≡ slice from e w ++ replicate (to - e) 255
slice_tail from e to w f l k h = slice_split from e to w f l k ∙ ap (λ (z : List ℕ). slice from e w ++ z) (slice_blank e to w k h)

pub slice_front : (from e to : ℕ) (w : List ℕ) → from ≤ e → e ≤ to → to ≤ length w → ((i : ℕ) → from ≤ i → i < e → get_or w i 0 ≡ 255) → slice from to w ≡ replicate (e - from) 255 ++ slice e to w
slice_front from e to w f l k h = slice_split from e to w f l k ∙ ap (λ (z : List ℕ). z ++ slice e to w) (slice_blank from e w (omega arith) h)
