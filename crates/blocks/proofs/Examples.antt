-- The definitions on small examples. Assumes nothing.
use mathlib.Core.Path.{◌≡◌, refl}
use mathlib.Core.Bool.{Bool, true, false, ◌||◌}
use mathlib.Core.List.{[], ◌∷◌}
use Prim.Native.Nat.{ℕ, ◌≤◌}
use native.Mathlib.Omega.{arith}
use lib.Dec.{eqb}
use Rattle.facts.specs.Counting.{between, cnt, count, any_below}
use Rattle.blocks.specs.declared.Block.{Block}
use Rattle.blocks.specs.Assignment.{takes, all_right, all_once, assigns, wanted, joined}
use Rattle.blocks.specs.Numbers.{block, number_of, block_in}
use Rattle.blocks.specs.Pieces.{Takes, Fills}
use Rattle.blocks.proofs.Assignments.{test_assigns}

-- member 0 may take elements 0 and 1, member 1 only element 1
ok : ℕ → ℕ → Bool
ok m e = eqb m 0 || eqb e 1

in_order_lem : assigns ok 0 2 0 (0 ∷ 1 ∷ []) ≡ true
unfolding ok assigns all_right all_once takes between cnt
in_order_lem = refl

not_allowed : assigns ok 0 2 0 (1 ∷ 0 ∷ []) ≡ false
unfolding ok assigns all_right all_once takes between cnt
not_allowed = refl

a_spare : assigns ok 0 1 0 (255 ∷ 0 ∷ []) ≡ true
unfolding ok assigns all_right all_once takes between cnt
a_spare = refl

twice : assigns ok 0 1 0 (0 ∷ 0 ∷ []) ≡ false
unfolding ok assigns all_right all_once takes between cnt
twice = refl

not_of_the_block : assigns ok 1 1 0 (0 ∷ 1 ∷ []) ≡ false
unfolding ok assigns all_right all_once takes between cnt
not_of_the_block = refl

-- the elements from 1 on
later_piece : assigns ok 0 1 1 (0 ∷ []) ≡ true
unfolding ok assigns all_right all_once takes between cnt
later_piece = refl

-- a member and one spare element
one_and_one : Block
one_and_one = record { first = 0; k = 1; min = 1; max = 1 }

-- as many spare elements as it must have, and as it may have
spares_at_both_bounds : Takes ok one_and_one 0 2 (0 ∷ 255 ∷ [])
unfolding one_and_one ok assigns all_right all_once takes between cnt
spares_at_both_bounds = record { assigned = test_assigns {may = ok} {first = 0} {k = 1} {from = 0} {to = 2} {a = 0 ∷ 255 ∷ []} refl refl; enough = omega arith; few = omega arith }

-- a member stands once: a filling is no plain containment
never_twice : Fills ok 2 2 (0 ∷ 0 ∷ []) → ⊥
unfolding cnt
never_twice h = let x : 2 ≤ 1 = h.once 0 (omega arith) in omega arith

-- four members, each of whom may take the first three elements
crowded : ℕ → ℕ → Bool
crowded m e = between 0 3 e

three_elements : joined crowded (between 0 4) 0 8 ≡ 3
unfolding crowded count wanted any_below between
three_elements = refl

four_members : count (between 0 4) 32 ≡ 4
unfolding count between
four_members = refl

-- two members from 3 on, and one or more spare elements
as_a_number : number_of (block 3 2 1 255) ≡ 4278256131
unfolding number_of
as_a_number = refl

as_a_block : block_in 4278256131 ≡ block 3 2 1 255
unfolding block_in
as_a_block = refl
