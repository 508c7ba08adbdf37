-- Blocks as numbers, a byte for each field, the low byte first. Numbers can be lent, and blocks can't.
-- block first k min max == a block
-- number_of b     == the number of the block b
-- block_in v      == the block whose number is v
-- numbers_of bs   == the numbers of the blocks bs, in order
-- blocks_in vs    == the blocks whose numbers are vs, in order
-- Assumes nothing: these are definitions.
use Rattle.std.specs.Prelude.{List, [], ◌∷◌, ℕ, ◌/◌, ◌%◌}
use Rattle.integers.specs.Integer.{joined}
use Rattle.blocks.specs.declared.Block.{Block}

abbrev pub block : ℕ → ℕ → ℕ → ℕ → Block
block first k min max = record { first = first; k = k; min = min; max = max }

unfoldable pub number_of : Block → ℕ
number_of b = joined b.first b.k b.min b.max

unfoldable pub block_in : ℕ → Block
block_in v = block (v % 256) (v / 256 % 256) (v / 65536 % 256) (v / 16777216 % 256)

unfoldable pub numbers_of : List Block → List ℕ
numbers_of [] = []
numbers_of (b ∷ bs) = number_of b ∷ numbers_of bs

unfoldable pub blocks_in : List ℕ → List Block
blocks_in [] = []
blocks_in (v ∷ vs) = block_in v ∷ blocks_in vs
