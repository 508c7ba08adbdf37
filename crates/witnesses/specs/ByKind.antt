-- Which assignments a body takes, by what a plan says of it. `may m e` says that member m may take element e, however it is held.
-- AllowsBy plain subset bs k may n w <-> w gives each of n elements a member below k, where the body is a subset that sheet 1 reads, and one of its own, where it is
--                                any other subset; else w is cut by the blocks bs
-- Allows kind bs k may n w    <-> w is an assignment of n elements such as a body of this kind takes, with these blocks and k members
-- OneBlock kind count vs      <-> a body of another kind than a record of, and a subset, has one block, the first
-- Assumes nothing: these are definitions.
use Rattle.std.specs.Prelude.{◌≡◌, Bool, true, false, List, [], ◌∷◌, ℕ, eqb, get_or, take}
use Rattle.blocks.specs.Numbers.{block_in, blocks_in}
use Rattle.blocks.specs.declared.Block.{Block}
use Rattle.blocks.specs.Pieces.{Cuts, Contains, Fills}

abbrev pub AllowsBy : Bool → Bool → List Block → ℕ → (ℕ → ℕ → Bool) → ℕ → List ℕ → Type 0
AllowsBy true subset bs k may n w = Contains may k n w
AllowsBy false true bs k may n w = Fills may k n w
AllowsBy false false bs k may n w = Cuts may bs 0 n w

unfoldable pub Allows : ℕ → List Block → ℕ → (ℕ → ℕ → Bool) → ℕ → List ℕ → Type 0
Allows kind bs k may n w = AllowsBy (eqb kind 0x14) (eqb kind 0x13) bs k may n w

pub record OneBlock (kind count : ℕ) (vs : List ℕ) : Type 0 where
  pub alone : (kind ≡ 0x10 → ⊥) → (kind ≡ 0x13 → ⊥) → blocks_in (take count vs) ≡ block_in (get_or vs 0 0) ∷ []
