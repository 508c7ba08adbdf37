-- `first_cut_by_group`: one search tells whether there is a cut, and settles the group.
use Rattle.std.proofs.Common.{◌≡◌, true, false, length, ℕ, ◌+◌, ◌≤◌, ◌<◌, get_or, take, List, replicate, refl, sym, ap, ◌∙◌, subst, arith}
use lib.ListN.{length-replicate, get_or-replicate}
use Rattle.rows.specs.Rows.{may as may_rows}
use Rattle.blocks.specs.declared.Block.{Block}
use Rattle.blocks.specs.Numbers.{block_in, blocks_in}
use Rattle.blocks.specs.Pieces.{Inside, is_one}
use Rattle.blocks.proofs.LentBlocks.{lent_inside}
use Rattle.place_masks.proofs.PlaceBits.{bit_pos}
use Rattle.places.specs.Ways.{Low, Leads}
use Rattle.places.proofs.Backward.{ways_low}
use Rattle.fronts.specs.Given.{KnownFor, is_group}
use Rattle.fronts.proofs.Moves.{low_most}
use Rattle.fronts.proofs.Picked.{tried_one, picked_leads}
use Rattle.fronts.proofs.Steps.{only_start}
use Rattle.fronts.proofs.LentFronts.{group_parts, group_never, group_halfway}
use Rattle.fronts.proofs.first_cut_by_group.Goals as goal

-- what is known of the group
known : (rows vs ends : List ℕ) (count n : ℕ) (b : Block) → 0 < count → n ≤ 32 → Inside (blocks_in (take count vs)) → is_group (block_in (get_or vs 0 0)) ≡ true → KnownFor rows count vs ends n
    → b ≡ block_in (get_or vs 0 0) → (b.first + b.k ≤ 32) × (0 < b.k) × (is_one b ≡ false) × Low (get_or ends 0 0) 32
known rows vs ends count n b some few inside group for is =
    let g = group_parts b (ap is_group is ∙ group) in
    (lent_inside count vs 0 is some inside, g.0, g.1, low_most (get_or ends 0 0) n few (ways_low (for.known.ways 0 some)))

pub start-s-requires : goal.start-s-requires
start-s-requires c =
    let p = c.requires in
    let k = known _ _ _ _ _ _ p.0 p.2 p.3 p.4 p.5 c.block_at-b.ensures in
    (k.0, k.1, k.3, bit_pos _ 0 c.at_start-f.ensures.0.self)

pub returns-then-s-eq0 : goal.returns-then-s-eq0
returns-then-s-eq0 c may know =
    let p = c.requires in
    let a = c.args in
    let k = known _ _ _ _ _ _ p.0 p.2 p.3 p.4 p.5 c.block_at-b.ensures in
    let n = c.start-s.ensures.none c.if-s-eq0.true in
    group_never know p.0 c.block_at-b.ensures k.2 (λ l. n.2 (subst (λ (q : ℕ). Leads (may_rows a.rows.now) c.block_at-b.result (get_or a.ends.now 0 0) q) (sym (only_start c.at_start-f.result.places c.at_start-f.ensures.0 n.0 n.1)) l)) refl

pub settle_group-next-requires : goal.settle_group-next-requires
settle_group-next-requires c =
    let p = c.requires in
    let k = known _ _ _ _ _ _ p.0 p.2 p.3 p.4 p.5 c.block_at-b.ensures in
    let from = c.at_start-f.ensures.1 in
    let picked = tried_one (only_start c.at_start-f.result.places c.at_start-f.ensures.0) c.start-s.ensures (omega (arith, c.if-s-eq0.false)) in
    (k.0, k.1, k.3, omega arith, picked.high, record { size = length-replicate {A = ℕ} 32 255; blank = λ i _ l. get_or-replicate {A = ℕ} 32 i 255 0 l; after = λ q h. omega arith })

-- 32 bytes that are 255
abbrev blank : (w : List ℕ) × (length w ≡ 32) × ((i : ℕ) → i < 32 → get_or w i 0 ≡ 255)
blank = (replicate 32 255, length-replicate {A = ℕ} 32 255, λ i l. get_or-replicate {A = ℕ} 32 i 255 0 l)

-- the group is settled
pub cut_on-requires : goal.cut_on-requires
cut_on-requires c =
    let p = c.requires in
    let k = known _ _ _ _ _ _ p.0 p.2 p.3 p.4 p.5 c.block_at-b.ensures in
    let one = only_start c.at_start-f.result.places c.at_start-f.ensures.0 in
    let picked = tried_one one c.start-s.ensures (omega (arith, c.if-s-eq0.false)) in
    let q = p.5 in
    (p.0, p.1, p.2, p.3, record { may = q.may; halfway = group_halfway q.known p.0 c.block_at-b.ensures k.2 blank.0 blank.1 blank.2 c.at_start-f.ensures.0 c.at_start-f.ensures.1 (picked_leads one picked) (c.settle_group-next.ensures _ picked) })

pub returns : goal.returns
returns c may know =
    let p = c.requires in
    let k = known _ _ _ _ _ _ p.0 p.2 p.3 p.4 p.5 c.block_at-b.ensures in
    let one = only_start c.at_start-f.result.places c.at_start-f.ensures.0 in
    let picked = tried_one one c.start-s.ensures (omega (arith, c.if-s-eq0.false)) in
    c.cut_on.ensures may (group_halfway know p.0 c.block_at-b.ensures k.2 blank.0 blank.1 blank.2 c.at_start-f.ensures.0 c.at_start-f.ensures.1 (picked_leads one picked) (c.settle_group-next.ensures _ picked))
