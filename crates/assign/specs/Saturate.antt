-- What the contracts of src/saturate.rt and of `spare_wanted` cite.
-- Saturated .. found w         <-> what `saturate` gives
-- Unwanted may B from to w     <-> no member of B may take a spare place of the piece
-- Assumes nothing.
use Rattle.std.specs.Prelude.{◌≡◌, Bool, true, false, List, ℕ, ◌≤◌, get_or, replicate}
use Rattle.facts.specs.Counting.{between}
use Rattle.blocks.specs.Assignment.{Short}
use Rattle.refining.specs.AsBytes.{Dealt}

pub record Saturated (may : ℕ → ℕ → Bool) (first k from to : ℕ) (found : Bool) (w : List ℕ) : Type 0 where
  pub dealt : found ≡ true → Dealt may first k from to w
  pub short : found ≡ false → Short may first k from to
  pub blank : found ≡ false → w ≡ replicate 32 255

abbrev pub Unwanted : (ℕ → ℕ → Bool) → (ℕ → Bool) → ℕ → ℕ → List ℕ → Type 0
Unwanted may B from to w = (m e : ℕ) → B m ≡ true → between from to e ≡ true → 32 ≤ get_or w e 0 → may m e ≡ false
