-- Four stores at the front leave the four bytes of the bits, and what was after them. Assumes nothing.
use Rattle.std.proofs.Common.{◌≡◌, ◌∙◌, refl, ap, ℕ, ◌≤◌, List, [], ◌∷◌, ◌++◌, length, drop, slice_set, arith}
use Rattle.integers.specs.Integer.{bits, int_bytes, four_bytes}
use Rattle.integers.proofs.SignedLocals.{again_same}
use Rattle.integers.proofs.put_int.Goals as goal

four_set : (l : List ℕ) (a b c d : ℕ) → 4 ≤ length l → slice_set (slice_set (slice_set (slice_set l 0 a) 1 b) 2 c) 3 d ≡ a ∷ b ∷ c ∷ d ∷ drop 4 l
four_set [] a b c d p = absurd (omega arith)
four_set (x ∷ []) a b c d p = absurd (omega arith)
four_set (x ∷ y ∷ []) a b c d p = absurd (omega arith)
four_set (x ∷ y ∷ z ∷ []) a b c d p = absurd (omega arith)
four_set (x ∷ y ∷ z ∷ w ∷ l) a b c d p = refl

pub returns : goal.returns
unfolding int_bytes
returns c =
    let l = c.args.out.now in
    four_set l _ _ _ _ c.requires ∙ ap (λ (u : ℕ). four_bytes u ++ drop 4 l) (c.to_bits-u.ensures ∙ ap bits (again_same c.args.x c.ranges.x.sfits))
