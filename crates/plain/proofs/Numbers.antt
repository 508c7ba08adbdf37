-- The numbers of plain blocks: that of the block j is 256 + j. Assumes nothing.
use mathlib.Core.Path.{◌≡◌, sym, ap, ◌∙◌}
use mathlib.Core.Bool.{Bool}
use mathlib.Core.List.{List}
use Prim.Native.Nat.{ℕ, ◌+◌, ◌/◌, ◌%◌, ◌<◌}
use native.Mathlib.Omega.{arith}
use borrow.Author.Tests.{eqb-true, eq-eqb}
use lib.Dec.{eqb}
use Rattle.facts.proofs.Cases.{clash}
use Rattle.blocks.specs.declared.Block.{Block}
use Rattle.blocks.specs.Numbers.{block, number_of, block_in}
use Rattle.blocks.proofs.BlockNumbers.{block_in_number_of}
use Rattle.blocks.specs.Pieces.{Passing}
use Rattle.plain.specs.Plain.{Plain}

number_of_one : (j : ℕ) → number_of (block j 1 0 0) ≡ 256 + j
unfolding number_of
number_of_one j = omega arith

number_block : (v j : ℕ) → j < 32 → v ≡ 256 + j → block_in v ≡ block j 1 0 0
number_block v j l q = ap block_in (q ∙ sym (number_of_one j)) ∙ block_in_number_of (block j 1 0 0) (omega arith) (omega arith) (omega arith) (omega arith)

block_number : (v j : ℕ) → v < 4294967296 → block_in v ≡ block j 1 0 0 → v ≡ 256 + j
unfolding block_in
block_number v j f q =
    let a : v % 256 ≡ j = ap (λ (b : Block). b.first) q in
    let b : v / 256 % 256 ≡ 1 = ap (λ (b : Block). b.k) q in
    let c : v / 65536 % 256 ≡ 0 = ap (λ (b : Block). b.min) q in
    let d : v / 16777216 % 256 ≡ 0 = ap (λ (b : Block). b.max) q in
    omega arith

-- the flag says whether the blocks before j are plain
pub record Looked (vs : List ℕ) (j : ℕ) (plain : Bool) : Type 0 where
  pub passes : Passing (Plain j vs) plain

-- the number says so
pub member_number : (v m : ℕ) → m < 32 → v < 4294967296 → Passing (block_in v ≡ block m 1 0 0) (eqb v (256 + m))
member_number v m low fits = record {
  passed = λ h. number_block v m low (eqb-true v (256 + m) h);
  failed = λ h q. clash (eq-eqb v (256 + m) (block_number v m fits q)) h;
}
