-- Every kind of item and of body as a block: each of its k members is assigned once, and the spare elements number min to max.
-- min_of st, max_of st == how many spare elements a 20 allows; none without one
-- block_of_group m g  == a permutation or a set of, whose first member is m
-- block_of_item m i   == an item, whose first member is m
-- blocks_of_items m is == the items of a record of, the first of whose members is m
-- blocks_of b        == a body; a superset allows any number of spare elements, a subset is one block of its members
-- body_kind b          == the kind byte of the body b
-- kind_read h b      == the kind of the body b as its sheet reads it: that of its record, but for a subset under sheet 1 0x14, which is no record's
-- low_of a, high_of a == the least and the greatest length that the length attribute allows; 0 and 255 without one
-- StandsAt f t p e   <-> the element template e of the family f stands at the place p of the bytes t
-- Standing f t es ps <-> each of es stands at its place of ps
-- Assumes nothing: these are definitions.
use Rattle.std.specs.Prelude.{◌≡◌, cond, List, [], ◌∷◌, ℕ, ◌+◌, ◌≤◌, length, drop}
use Rattle.grammar.specs.Element.{Elem}
use Rattle.grammar.specs.Template.{Star, no_star, star, Group, grouped, Item, one, spares, permutation, Body, record_of, set_of, superset, subset, Length, any_length, between, Heads, plainly, members_of_item}
use Rattle.format.specs.declared.Family.{Family}
use Rattle.grammar.specs.Family.{LeafOf, leaves_of}
use Rattle.grammar.specs.Read.{got}
use Rattle.grammar.specs.Reading.{counted, outermost}
use Rattle.blocks.specs.declared.Block.{Block}
use Rattle.blocks.specs.Numbers.{block}

abbrev pub min_of : Star → ℕ
min_of no_star = 0
min_of (star min max) = min

abbrev pub max_of : Star → ℕ
max_of no_star = 0
max_of (star min max) = max

unfoldable pub block_of_group : {L : Type 0} → ℕ → Group L → Block
block_of_group m (grouped es st) = block m (length es) (min_of st) (max_of st)

unfoldable pub block_of_item : {L : Type 0} → ℕ → Item L → Block
block_of_item m (one e) = block m 1 0 0
block_of_item m (spares min max) = block m 0 min max
block_of_item m (permutation g) = block_of_group m g

unfoldable pub blocks_of_items : {L : Type 0} → ℕ → List (Item L) → List Block
blocks_of_items m [] = []
blocks_of_items m (i ∷ is) = block_of_item m i ∷ blocks_of_items (m + length (members_of_item i)) is

unfoldable pub blocks_of : {L : Type 0} → Body L → List Block
blocks_of (record_of is) = blocks_of_items 0 is
blocks_of (set_of g) = block_of_group 0 g ∷ []
blocks_of (superset es) = block 0 (length es) 0 255 ∷ []
blocks_of (subset es) = block 0 (length es) 0 0 ∷ []

unfoldable pub body_kind : {L : Type 0} → Body L → ℕ
body_kind (record_of is) = 0x10
body_kind (set_of g) = 0x11
body_kind (superset es) = 0x12
body_kind (subset es) = 0x13

unfoldable pub kind_read : {L : Type 0} → Heads → Body L → ℕ
kind_read h b = cond (plainly h b) 0x14 (body_kind b)

abbrev pub low_of : Length → ℕ
low_of any_length = 0
low_of (between min max) = min

abbrev pub high_of : Length → ℕ
high_of any_length = 255
high_of (between min max) = max

pub record StandsAt (f : Family) (t : List ℕ) (p : ℕ) (e : Elem (LeafOf f)) : Type 0 where
  pub inside : p ≤ length t
  pub leaves : ℕ
  pub rest : List ℕ
  pub reads : outermost (leaves_of f) (drop p t) ≡ got (counted e leaves) rest

unfoldable pub Standing : (f : Family) → List ℕ → List (Elem (LeafOf f)) → List ℕ → Type 0
Standing f t [] [] = Unit {0}
Standing f t [] (p ∷ ps) = ⊥
Standing f t (e ∷ es) [] = ⊥
Standing f t (e ∷ es) (p ∷ ps) = StandsAt f t p e × Standing f t es ps
