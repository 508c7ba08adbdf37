-- What is known of an offered witness w when its body is asked.
-- Says kind bs h b <-> the kind and the blocks are those of the body b, read after the heads h
-- Spread b w left <-> each byte of w is 255 or a member of the body b, of 32 at most; no member stands twice, and those of `left` nowhere
-- Assumes nothing: these are definitions.
use Rattle.std.specs.Prelude.{◌≡◌, ◌⊎◌, List, ℕ, ◌≤◌, ◌<◌, length, get_or}
use Rattle.facts.specs.Counting.{cnt}
use Rattle.blocks.specs.declared.Block.{Block}
use Rattle.grammar.specs.Template.{Body, Heads, members_of}
use Rattle.grammar.specs.Blocks.{blocks_of, kind_read}
use Rattle.pairs.specs.Pairs.{Left}

pub record Says {L : Type 0} (kind : ℕ) (bs : List Block) (h : Heads) (b : Body L) : Type 0 where
  pub kind_is : kind ≡ kind_read h b
  pub cut : bs ≡ blocks_of b

pub record Spread {L : Type 0} (b : Body L) (w : List ℕ) (left : ℕ) : Type 0 where
  pub few : length (members_of b) ≤ 32
  pub bytes : (e : ℕ) → e < length w → (get_or w e 0 ≡ 255) ⊎ (get_or w e 0 < length (members_of b))
  pub once : (m : ℕ) → m < length (members_of b) → cnt m w ≤ 1
  pub left_over : Left (length (members_of b)) w left
