-- From the plan, the rows and the blocks to the rules. Assumes nothing.
-- Ready fam t p n <-> p is the plan of the accepted bytes t, and a list of n elements is short enough. planned_ready: so it is where the plan's number is 0.
-- ready_inside, ready_members: what the search and the rows ask of a plan.
-- length_by: the plan's bounds are the length attribute. best_by, pass-by: what the plan's kind, blocks and members allow by the rows is what obeys.
-- unmet_none: a length that is not met leaves no assignment.
use mathlib.Core.Path.{◌≡◌, refl, sym, ap, ◌∙◌}
use mathlib.Core.Bool.{Bool, true, false, ◌&&◌, ◌||◌, cond}
use mathlib.Core.List.{List, [], ◌∷◌}
use Prim.Native.Nat.{ℕ, ◌+◌, ◌≤◌}
use native.Mathlib.Omega.{arith}
use native.Mathlib.Nat.{zero-add}
use borrow.Author.Tests.{le-leb}
use lib.Dec.{leb}
use lib.ListN.{length, get_or, take}
use Rattle.facts.proofs.Cases.{and_right, both, clash}
use Rattle.blocks.specs.declared.Block.{Block}
use Rattle.blocks.specs.Numbers.{block_in, blocks_in}
use Rattle.obeying.proofs.Bodies.{first_block}
use Rattle.blocks.specs.Pieces.{Inside, Best}
use Rattle.blocks.proofs.FirstLists.{best_same}
use Rattle.grammar.specs.Element.{Elem}
use Rattle.format.specs.declared.Family.{Family}
use Rattle.grammar.specs.Family.{LeafOf, ElementOf, no_element, matches_of}
use Rattle.grammar.specs.Template.{Item, grouped, one, spares, permutation, Body, record_of, set_of, superset, subset, Length, any_length, between, Sheet, sheet1, sheet2, is_plain, Heads, plainly, template, members_of_group, members_of_item, members_of_items, members_of}
use Rattle.grammar.specs.Read.{got}
use Rattle.grammar.specs.Whole.{read_template}
use Rattle.grammar.specs.Blocks.{block_of_group, block_of_item, blocks_of_items, blocks_of, body_kind, kind_read, low_of, high_of, Standing}
use Rattle.grammar.proofs.MemberLimit.{accepted_short}
use Rattle.plans.specs.declared.Plan.{Plan}
use Rattle.plans.specs.Plans.{Planned, PlanOf, refused_plan, a_plan}
use Rattle.member_rows.specs.Places.{MembersAt}
use Rattle.matching.specs.Obeys.{right_bytes, none_twice, body_met, length_met, obeys_by, Obeys}
use Rattle.matching.proofs.RulesByBlocks.{Agree, agree_from, Under, ByBlocks, obeys_says, obeys_test}
use Rattle.member_rows.specs.Contract.{pair_of}
use Rattle.records.specs.Records.{Below}
use Rattle.witnesses.specs.ByKind.{Allows, OneBlock}

-- ---- the plan of accepted bytes

pub record Ready (fam : Family) (t : List ℕ) (p : Plan) (n : ℕ) : Type 0 where
  pub heads : Heads
  pub body : Body (LeafOf fam)
  pub accepted : read_template fam t ≡ got (template heads body) []
  pub planned : Planned fam t heads body p
  pub short : n ≤ 32

pub planned_ready : (fam : Family) (t : List ℕ) (p : Plan) (n : ℕ) → PlanOf fam t p → p.number ≡ 0 → n ≤ 32 → Ready fam t p n
planned_ready fam t p n (refused_plan number q z e) h l = let s : p.number ≡ number = cc in absurd (omega arith)
planned_ready fam t p n (a_plan a b q z pl) h l = record { heads = a; body = b; accepted = q; planned = pl; short = l }

few : {fam : Family} {t : List ℕ} {p : Plan} {n : ℕ} (r : Ready fam t p n) → length (members_of r.body) ≤ 32
few r = let s = r.planned.size in let f = r.planned.few_members in omega arith

pub ready_members : {fam : Family} {t : List ℕ} {p : Plan} {n : ℕ} → Ready fam t p n → MembersAt fam t p.places p.members
ready_members {fam} {t} r = record { few = r.planned.few_members; short = let l = accepted_short fam t (template r.heads r.body) r.accepted in omega arith; who = members_of r.body; size = r.planned.size; stands = r.planned.stands }

-- ---- every block's members are below 32

item_inside : {L : Type 0} (m : ℕ) (i : Item L) → (block_of_item m i).first + (block_of_item m i).k ≡ m + length (members_of_item i)
unfolding block_of_item block_of_group members_of_item members_of_group
item_inside m (one e) = refl
item_inside m (spares min max) = refl
item_inside m (permutation (grouped es st)) = refl

items_inside : {L : Type 0} (m : ℕ) (is : List (Item L)) → m + length (members_of_items is) ≤ 32 → Inside (blocks_of_items m is)
unfolding Inside blocks_of_items members_of_items
items_inside m [] l = tt
items_inside m (i ∷ is) l =
    let z = lib.ListN.length-append (members_of_item i) (members_of_items is) in
    let e = item_inside m i in
    (omega arith, items_inside (m + length (members_of_item i)) is (omega arith))

blocks_inside : {L : Type 0} (b : Body L) → length (members_of b) ≤ 32 → Inside (blocks_of b)
unfolding Inside blocks_of members_of block_of_group members_of_group
blocks_inside (record_of is) l = items_inside 0 is (omega arith)
blocks_inside (set_of (grouped es st)) l = (omega arith, tt)
blocks_inside (superset es) l = (omega arith, tt)
blocks_inside (subset es) l = (omega arith, tt)

pub ready_inside : {fam : Family} {t : List ℕ} {p : Plan} {n : ℕ} → Ready fam t p n → Inside (blocks_in (take p.count p.blocks))
ready_inside r = rw r.planned.cut (blocks_inside r.body (few r))

-- ---- the length attribute

length_is : (a : Length) (n : ℕ) → n ≤ 32 → (leb (low_of a) n && leb n (high_of a)) ≡ length_met a n
unfolding length_met
length_is any_length n l = both (leb 0 n) (leb n 255) (le-leb 0 n (omega arith)) (le-leb n 255 (omega arith))
length_is (between min max) n l = refl

pub length_by : (fam : Family) (t : List ℕ) (p : Plan) (n : ℕ) → n ≤ 32 → (met : Bool) → met ≡ (leb p.low n && leb n p.high) → (h : Heads) (b : Body (LeafOf fam)) → Planned fam t h b p → met ≡ length_met h.length n
length_by fam t p n short met says h b pl = says ∙ rw (pl.lower, pl.upper) (length_is h.length n short)

pub unmet_none : (fam : Family) (h : Heads) (b : Body (LeafOf fam)) (xs : List (ElementOf fam)) → length_met h.length (length xs) ≡ false → (v : List ℕ) → Obeys fam (template h b) xs v → ⊥
unfolding obeys_by
unmet_none fam h b xs m v o =
    let r = right_bytes (matches_of fam) (members_of b) xs v in
    let n = plainly h b || none_twice (length (members_of b)) v in
    let l = length_met h.length (length xs) in
    clash (and_right (body_met b v) l (and_right n (body_met b v && l) (and_right r (n && (body_met b v && l)) o))) m

-- ---- from the kind, the blocks and the members to the rules

subset_allows : (v : Sheet) (bs : List Block) (k : ℕ) (related : ℕ → ℕ → Bool) (n : ℕ) (P : (List ℕ → Type 0) → Type 0) → P (Allows (cond (is_plain v) 0x14 0x13) bs k related n) → P (Under v related k n)
unfolding Allows
subset_allows sheet1 bs k related n P p = p
subset_allows sheet2 bs k related n P p = p

body_allows : {L : Type 0} (h : Heads) (b : Body L) (related : ℕ → ℕ → Bool) (n : ℕ) (P : (List ℕ → Type 0) → Type 0) → P (Allows (kind_read h b) (blocks_of b) (length (members_of b)) related n) → P (ByBlocks h b related n)
unfolding Allows kind_read plainly body_kind ByBlocks members_of
body_allows h (record_of is) related n P p = p
body_allows h (set_of g) related n P p = p
body_allows h (superset es) related n P p = p
body_allows h (subset es) related n P p = subset_allows h.sheet (blocks_of (subset es)) (length es) related n P p

-- ---- what the first witness asks of the blocks

items_below : {L : Type 0} (m k : ℕ) (is : List (Item L)) → m + length (members_of_items is) ≤ k → Below k (blocks_of_items m is)
unfolding Below blocks_of_items members_of_items
items_below m k [] l = tt
items_below m k (i ∷ is) l =
    let z = lib.ListN.length-append (members_of_item i) (members_of_items is) in
    let e = item_inside m i in
    (omega arith, items_below (m + length (members_of_item i)) k is (omega arith))

blocks_below : {L : Type 0} (b : Body L) → Below (length (members_of b)) (blocks_of b)
unfolding Below blocks_of members_of block_of_group members_of_group
blocks_below (record_of is) = items_below 0 (length (members_of_items is)) is (omega arith)
blocks_below (set_of (grouped es st)) = (omega arith, tt)
blocks_below (superset es) = (omega arith, tt)
blocks_below (subset es) = (omega arith, tt)

pub ready_below : {fam : Family} {t : List ℕ} {p : Plan} {n : ℕ} (r : Ready fam t p n) → Below p.members (blocks_in (take p.count p.blocks))
ready_below r = let pl = r.planned in rw (pl.cut, pl.size) (blocks_below r.body)

one_body : {L : Type 0} (kind count : ℕ) (vs : List ℕ) (h : Heads) (b : Body L) → kind ≡ kind_read h b → blocks_in (take count vs) ≡ blocks_of b → (kind ≡ 0x10 → ⊥) → blocks_in (take count vs) ≡ block_in (get_or vs 0 0) ∷ []
unfolding kind_read plainly body_kind blocks_of
one_body kind count vs h (record_of is) k q n = absurd (n k)
one_body kind count vs h (set_of g) k q n = q ∙ ap (λ (c : Block). c ∷ []) (sym (first_block count vs _ q))
one_body kind count vs h (superset es) k q n = q ∙ ap (λ (c : Block). c ∷ []) (sym (first_block count vs _ q))
one_body kind count vs h (subset es) k q n = q ∙ ap (λ (c : Block). c ∷ []) (sym (first_block count vs _ q))

pub ready_alone : {fam : Family} {t : List ℕ} {p : Plan} {n : ℕ} (r : Ready fam t p n) → OneBlock p.kind p.count p.blocks
ready_alone {fam} {t} {p} r = let pl = r.planned in record { alone = λ n10 n13. one_body p.kind p.count p.blocks r.heads r.body pl.kind pl.cut n10 }

-- ---- the first witness

module _ {fam : Family} {t : List ℕ} {p : Plan} (xs : List (ElementOf fam)) (r : Ready fam t p (length xs)) (met : length_met r.heads.length (length xs) ≡ true) where
  abbrev related : ℕ → ℕ → Bool
  related = pair_of fam (members_of r.body) xs

  allowed : (P : (List ℕ → Type 0) → Type 0) → P (Allows p.kind (blocks_in (take p.count p.blocks)) p.members related (length xs)) → P (ByBlocks r.heads r.body related (length xs))
  allowed P h = let pl = r.planned in body_allows r.heads r.body related (length xs) P (rw (pl.kind, pl.cut, pl.size) at h)

  agrees : Agree (matches_of fam) (members_of r.body) 0 xs related
  agrees = agree_from (matches_of fam) (no_element fam) (members_of r.body) related 0 xs (λ m i l. rw (zero-add i) refl)

  there : (v : List ℕ) → ByBlocks r.heads r.body related (length xs) v → Obeys fam (template r.heads r.body) xs v
  there v c = obeys_test (matches_of fam) r.heads r.body related xs agrees (few r) r.short v c met

  back : (v : List ℕ) → Obeys fam (template r.heads r.body) xs v → ByBlocks r.heads r.body related (length xs) v
  back v o = (obeys_says (matches_of fam) r.heads r.body related xs agrees (few r) r.short v o).0

  pub best_by : {found : Bool} {w : List ℕ} → ((es : List (Elem (LeafOf fam))) → Standing fam t es (take p.members p.places) → Best (Allows p.kind (blocks_in (take p.count p.blocks)) p.members (pair_of fam es xs) (length xs)) (length xs) found w)
      → Best (Obeys fam (template r.heads r.body) xs) (length xs) found w
  best_by {found} {w} h = best_same there back (allowed (λ P. Best P (length xs) found w) (h (members_of r.body) r.planned.stands))
