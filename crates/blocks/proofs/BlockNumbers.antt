-- Blocks as numbers: the number of a block says that block, and lists of numbers are lists of blocks, place by place. Assumes nothing.
-- block_in_number_of: a block of bytes is read back from its number. blocks_in-*: how many blocks numbers say, which, the first of them, and those of two lists.
use mathlib.Core.Path.{◌≡◌, refl, ap}
use mathlib.Core.List.{List, [], ◌∷◌, ◌++◌}
use Prim.Native.Nat.{ℕ, zero, suc, ◌<◌}
use native.Mathlib.Omega.{arith}
use lib.ListN.{length, get_or, take}
use Rattle.integers.proofs.FourBytes.{bytes_joined}
use Rattle.blocks.specs.declared.Block.{Block}
use Rattle.blocks.specs.Numbers.{number_of, block_in, blocks_in}

pub block_in_number_of : (b : Block) → b.first < 256 → b.k < 256 → b.min < 256 → b.max < 256 → block_in (number_of b) ≡ b
unfolding block_in number_of
block_in_number_of b first k min max =
    let e = bytes_joined b.first b.k b.min b.max first k min max in
    rw (e.0, e.1, e.2, e.3)

pub length_blocks_in : (vs : List ℕ) → length (blocks_in vs) ≡ length vs
unfolding blocks_in
length_blocks_in [] = refl
length_blocks_in (v ∷ vs) = ap suc (length_blocks_in vs)

pub blocks_in_take : (n : ℕ) (vs : List ℕ) → blocks_in (take n vs) ≡ take n (blocks_in vs)
unfolding blocks_in
blocks_in_take zero vs = refl
blocks_in_take (suc n) [] = refl
blocks_in_take (suc n) (v ∷ vs) = ap (λ (bs : List Block). block_in v ∷ bs) (blocks_in_take n vs)

pub blocks_in_append : (vs us : List ℕ) → blocks_in (vs ++ us) ≡ blocks_in vs ++ blocks_in us
unfolding blocks_in
blocks_in_append [] us = refl
blocks_in_append (v ∷ vs) us = ap (λ (bs : List Block). block_in v ∷ bs) (blocks_in_append vs us)

pub blocks_in_at : (d : Block) (vs : List ℕ) (j : ℕ) → j < length vs → get_or (blocks_in vs) j d ≡ block_in (get_or vs j 0)
unfolding blocks_in
blocks_in_at d [] j l = absurd (omega arith)
blocks_in_at d (v ∷ vs) zero l = refl
blocks_in_at d (v ∷ vs) (suc j) l = blocks_in_at d vs j (omega arith)
