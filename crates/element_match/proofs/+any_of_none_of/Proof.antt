-- The cycle of `any_of` and `none_of`: `none_of` goes over the members, and calls `any_of` with one depth less for a complement; `any_of` is `none_of` turned
-- round. The loop: however the members were read, those from p on, with the members of a list in its place, are the rest of them, and `rest` has the
-- asked elements that the others miss. Each turn takes a byte at least. Assumes nothing.
use mathlib.Core.Path.{◌≡◌, refl, sym, ap}
use mathlib.Core.Bool.{true, false}
use native.Mathlib.Omega.{arith}
use Prim.Native.Nat.{ℕ, ◌+◌, ◌-◌, ◌*◌, ◌<◌}
use lib.ListN.{length, get_or}
use Rattle.format.specs.declared.Family.{Family}
use Rattle.element_match.proofs.Walks.{Here, AllMissed, here_fits, integer_there, float_there, Opened, opened, integers_asked, floats_asked, complement_kind, leaf_misses_again, any_misses, float_misses, complement_misses, Going, start, here, step, few, further, step_into, done, retold, member_retold, turned_round}
use borrow.Fn.Kinds.{In}
use borrow.Fn.PlainCycle.{Measures, is, falls, and}
use Rattle.element_match.proofs.any_of.Reads as any_of
use Rattle.element_match.proofs.any_of.Kinds as any-of-kinds
use Rattle.element_match.proofs.+any_of_none_of.Lts-any_of as any-of-lts
use Rattle.element_match.proofs.none_of.Reads as none_of
use Rattle.element_match.proofs.none_of.Kinds as none-of-kinds
use Rattle.element_match.proofs.+any_of_none_of.Lts-none_of as none-of-lts
use Rattle.element_match.proofs.mask_in.Reads as mask-in-reads
use Rattle.element_match.proofs.missed.Reads as missed-reads
use Rattle.element_match.proofs.missed_floats.Reads as missed-floats-reads
use Rattle.element_match.proofs.others.Reads as others-reads
use Rattle.element_match.proofs.place_in.Reads as place-in-reads
use Rattle.element_match.proofs.said.Reads as said-reads
use Rattle.leaves.proofs.bounds_at.Reads as bounds-at-reads
use Rattle.leaves.proofs.float_leaf_at.Reads as float-leaf-at-reads
use Rattle.leaves.proofs.float_leaf_size.Reads as float-leaf-size-reads
use Rattle.element_match.proofs.+any_of_none_of.{statement}
use Rattle.element_match.proofs.+any_of_none_of.Tie.{close}

-- twice the depth left, and once more where the other is called at the same depth
abbrev μ_any_of : Measures 3 any-of-kinds.ps ℕ
μ_any_of κs a = 2 * a.1.1.1.1.1.1.0 + 1

abbrev μ_none_of : Measures 3 none-of-kinds.ps ℕ
μ_none_of κs a = 2 * a.1.1.1.1.1.1.0

abbrev any_of_at : ℕ → In 3 any-of-kinds.ps
any_of_at t = and 3 any-of-kinds.ps (is 3 any-of-kinds.ps μ_any_of t) any_of.Pre

abbrev any_of_below : ℕ → In 3 any-of-kinds.ps
any_of_below t = and 3 any-of-kinds.ps (falls 3 any-of-kinds.ps ◌<◌ μ_any_of t) any_of.Pre

abbrev none_of_at : ℕ → In 3 none-of-kinds.ps
none_of_at t = and 3 none-of-kinds.ps (is 3 none-of-kinds.ps μ_none_of t) none_of.Pre

abbrev none_of_below : ℕ → In 3 none-of-kinds.ps
none_of_below t = and 3 none-of-kinds.ps (falls 3 none-of-kinds.ps ◌<◌ μ_none_of t) none_of.Pre

abbrev any_calls : ℕ → any-of-lts.Claims
any_calls t = (none_of_below t, none_of.Post, mask-in-reads.Asked, mask-in-reads.Learnt, others-reads.Asked, others-reads.Learnt, place-in-reads.Asked, place-in-reads.Learnt, said-reads.Asked, said-reads.Learnt)

abbrev none_calls : ℕ → none-of-lts.Claims
none_calls t = (
  bounds-at-reads.Asked,
  bounds-at-reads.Learnt,
  missed-reads.Asked,
  missed-reads.Learnt,
  float-leaf-at-reads.Asked,
  float-leaf-at-reads.Learnt,
  missed-floats-reads.Asked,
  missed-floats-reads.Learnt,
  float-leaf-size-reads.Asked,
  float-leaf-size-reads.Learnt,
  any_of_below t,
  any_of.Post,
  mask-in-reads.Asked,
  mask-in-reads.Learnt,
  place-in-reads.Asked,
  place-in-reads.Learnt,
  said-reads.Asked,
  said-reads.Learnt,
)

-- ---- any_of

any_of_returns : (t : ℕ) → any-of-lts.Need-returns (any_calls t) (any_of_at t) any_of.Post
any_of_returns t c =
    let placed = c.before in
    let turned = placed.before in
    let walk = turned.before.before in
    retold false _ _ _ _ _ _ _ (sym c.said.ensures.0) (sym c.said.ensures.1)
    (turned_round _ _ _ _ _ _ _ _ _ _ turned.others.ensures (retold true _ _ _ _ _ _ _ (sym turned.before.mask_in.ensures) (sym placed.place_in.ensures) walk.none_of-r.ensures))

-- ---- none_of

abbrev invariant_loop : none-of-lts.invariant-loop-more
invariant_loop t at n integers floats asked left rest₀ p₀ more₀ rest p more = Going t at n left integers floats asked p more rest

abbrev decreases_loop : none-of-lts.decreases-loop-more
decreases_loop t at n integers floats asked left rest₀ p₀ more₀ rest p more = length t - p

-- the member that a turn is at
module _ (t : ℕ) (c : none-of-lts.In-loop-more (none_calls t) (none_of_at t) none_of.Post invariant_loop decreases_loop) where
  abbrev start_of : none-of-lts.Start (none_calls t) (none_of_at t) none_of.Post invariant_loop decreases_loop
  start_of = c.before.before.before.before

  abbrev family_of : Family
  family_of = c.before.loop-more.invariant.family

  member : Here family_of start_of.args.t.now c.before.loop-more.p start_of.args.left
  member = here _ _ _ _ _ c.loop-more-test.true c.before.loop-more.invariant.todo

  -- the asked elements that it misses, and the place after it
  abbrev Misses : ℕ → ℕ → Type 0
  Misses rest p = AllMissed start_of.args.t.now c.before.loop-more.p start_of.args.left start_of.args.integers.now start_of.args.floats.now c.before.loop-more.rest rest p

  abbrev kind_of : ℕ
  kind_of = get_or start_of.args.t.now c.before.loop-more.p 0

  on_list : kind_of ≡ 4 → Opened family_of start_of.args.t.now c.before.loop-more.p start_of.args.left
  on_list e = opened _ _ _ _ member false e

  on_complement : kind_of ≡ 5 → Opened family_of start_of.args.t.now c.before.loop-more.p start_of.args.left
  on_complement e = opened _ _ _ _ member true e

  -- the loop goes on behind the member
  again : (rest p : ℕ) → Misses rest p
      → Going start_of.args.t.now start_of.args.at start_of.args.n start_of.args.left start_of.args.integers.now start_of.args.floats.now start_of.args.asked p (c.before.loop-more.more - 1) rest
  again rest p w = step _ _ _ _ _ _ _ _ _ c.loop-more-test.true w _ _ _ c.before.loop-more.invariant

  less : (rest p : ℕ) → Misses rest p → length start_of.args.t.now - p < length start_of.args.t.now - c.before.loop-more.p
  less rest p w = further _ _ _ _ _ _ _ _ _ member w

-- a 03
any_missed : (t : ℕ) (c : none-of-lts.Then-kind-eq-ANY (none_calls t) (none_of_at t) none_of.Post invariant_loop decreases_loop) → let turn = c.before.before.before in Misses t turn 0 (turn.before.loop-more.p + 1)
any_missed t c = let turn = c.before.before.before in any_misses _ _ _ _ _ _ c.if-kind-eq-ANY.true (here_fits _ _ _ _ (member t turn))

any_less : (t : ℕ) → none-of-lts.Need-loop-more-smaller-then-kind-eq-ANY (none_calls t) (none_of_at t) none_of.Post invariant_loop decreases_loop
any_less t c = less t c.before.before.before _ _ (any_missed t c)

any_again : (t : ℕ) → none-of-lts.Need-loop-more-preserved-then-kind-eq-ANY (none_calls t) (none_of_at t) none_of.Post invariant_loop decreases_loop
any_again t c = again t c.before.before.before _ _ (any_missed t c)

-- a 01 or 02
low_kind : (kind : ℕ) → kind < 4 → (kind ≡ 3 → ⊥) → kind < 3
low_kind kind h n = omega arith

leaf_kind : (t : ℕ) (c : none-of-lts.Else-kind-eq-ANY (none_calls t) (none_of_at t) none_of.Post invariant_loop decreases_loop) → kind_of t c.before.before.before < 3
leaf_kind t c = low_kind _ c.before.if-kind-lt-LIST.true c.if-kind-eq-ANY.false

leaf_missed : (t : ℕ) (c : none-of-lts.After-missed-rest (none_calls t) (none_of_at t) none_of.Post invariant_loop decreases_loop)
    → Misses t c.before.before.before.before.before.before.before c.missed-rest.result c.before.before.before.bounds_at-b.result.next
leaf_missed t c =
    let told = c.before.before in
    let bounds = told.before in
    leaf_misses_again _ _ _ _ _ _ _ _ _ _ told.struct_told-1.given.0.1 told.struct_told-1.given.1.0.1 (leaf_kind t bounds.before) bounds.bounds_at-b.ensures c.missed-rest.ensures

leaf_less : (t : ℕ) → none-of-lts.Need-loop-more-smaller-else-kind-eq-ANY (none_calls t) (none_of_at t) none_of.Post invariant_loop decreases_loop
leaf_less t c = less t c.before.before.before.before.before.before.before _ _ (leaf_missed t c)

leaf_again : (t : ℕ) → none-of-lts.Need-loop-more-preserved-else-kind-eq-ANY (none_calls t) (none_of_at t) none_of.Post invariant_loop decreases_loop
leaf_again t c = again t c.before.before.before.before.before.before.before _ _ (leaf_missed t c)

-- a list: its members are next
list_counted : (t : ℕ) → none-of-lts.Need-overflow_add-more-then-kind-eq-LIST (none_calls t) (none_of_at t) none_of.Post invariant_loop decreases_loop
list_counted t c =
    let turn = c.before.before.before.before in
    omega (arith, few _ _ _ _ _ turn.before.loop-more.invariant.todo, (start_of t turn).requires.1.short, c.shared_slice_known-then-kind-eq-LIST-1.given (turn.before.loop-more.p + 1))

list_less : (t : ℕ) → none-of-lts.Need-loop-more-smaller-then-kind-eq-LIST (none_calls t) (none_of_at t) none_of.Post invariant_loop decreases_loop
list_less t c = omega (arith, (on_list t c.before.before.before.before c.before.if-kind-eq-LIST.true).fits)

list_again : (t : ℕ) → none-of-lts.Need-loop-more-preserved-then-kind-eq-LIST (none_calls t) (none_of_at t) none_of.Post invariant_loop decreases_loop
list_again t c = let turn = c.before.before.before.before in step_into _ _ _ _ turn.loop-more-test.true c.before.if-kind-eq-LIST.true _ _ _ _ _ _ turn.before.loop-more.invariant

-- a 06 or 07
float_missed : (t : ℕ) (c : none-of-lts.After-float_leaf_size-p (none_calls t) (none_of_at t) none_of.Post invariant_loop decreases_loop)
    → let turn = c.before.before.before.before.before.before.before in Misses t turn c.before.missed_floats-rest.result (turn.before.loop-more.p + c.float_leaf_size-p.result)
float_missed t c =
    let decoded = c.before.before in
    let there = decoded.before in
    let turn = there.before.before.before.before in
    member_retold _ _ _ _ _ _ refl (ap (λ n. turn.before.loop-more.p + n) c.float_leaf_size-p.ensures)
    (float_misses _ _ _ _ _ _ _ _ there.if-kind-gt-COMPLEMENT.true (float_there _ _ _ _ (member t turn) there.if-kind-gt-COMPLEMENT.true) decoded.float_leaf_at.ensures c.before.missed_floats-rest.ensures)

float_less : (t : ℕ) → none-of-lts.Need-loop-more-smaller-then-kind-gt-COMPLEMENT (none_calls t) (none_of_at t) none_of.Post invariant_loop decreases_loop
float_less t c = less t c.before.before.before.before.before.before.before _ _ (float_missed t c)

float_again : (t : ℕ) → none-of-lts.Need-loop-more-preserved-then-kind-gt-COMPLEMENT (none_calls t) (none_of_at t) none_of.Post invariant_loop decreases_loop
float_again t c = again t c.before.before.before.before.before.before.before _ _ (float_missed t c)

-- a complement
complement_here : (t : ℕ) (c : none-of-lts.Else-kind-gt-COMPLEMENT (none_calls t) (none_of_at t) none_of.Post invariant_loop decreases_loop) → kind_of t c.before.before.before.before ≡ 5
complement_here t c = complement_kind _ c.before.before.if-kind-lt-LIST.false c.before.if-kind-eq-LIST.false c.if-kind-gt-COMPLEMENT.false

complement_missed : (t : ℕ) (c : none-of-lts.After-place_in-p (none_calls t) (none_of_at t) none_of.Post invariant_loop decreases_loop)
    → Misses t c.before.before.before.before.before.before.before.before c.before.mask_in-rest.result c.place_in-p.result
complement_missed t c =
    let walk = c.before.before in
    member_retold _ _ _ _ _ _ c.before.mask_in-rest.ensures c.place_in-p.ensures
    (complement_misses _ _ _ _ _ _ _ _ (complement_here t walk.before.before) walk.any_of-r.ensures)

complement_less : (t : ℕ) → none-of-lts.Need-loop-more-smaller (none_calls t) (none_of_at t) none_of.Post invariant_loop decreases_loop
complement_less t c = less t c.before.before.before.before.before.before.before.before _ _ (complement_missed t c)

complement_again : (t : ℕ) → none-of-lts.Need-loop-more-preserved (none_calls t) (none_of_at t) none_of.Post invariant_loop decreases_loop
complement_again t c = again t c.before.before.before.before.before.before.before.before _ _ (complement_missed t c)

-- ---- both

pub +any_of_none_of_spec : {M : Type 1} → statement M
+any_of_none_of_spec = close μ_any_of μ_none_of (λ t. any-of-lts.spec (any_calls t) (any_of_at t) any_of.Post
    -- none_of_requires, mask_in_requires, others_requires, place-in-requires, said_requires, returns
    (λ c κs. (omega (arith, c.before.before.requires.0), c.before.before.requires.1))
    (λ c κs. tt)
    (λ c κs. tt)
    (λ c κs. tt)
    (λ c κs.
    let walk = c.before.before.before in
    let asks = walk.before.before.before.requires.1 in
    omega (arith, c.place_in.ensures, (walk.none_of-r.ensures asks.family).inside, asks.short))
    (any_of_returns t))
    λ t. none-of-lts.spec (none_calls t) (none_of_at t) none_of.Post invariant_loop decreases_loop
    -- loop_holds, shared_slice_read_kind
    (λ c. let asks = c.before.before.requires.1 in start _ _ _ _ _ _ _ _ asks.among asks.members)
    (λ c. omega (arith, here_fits _ _ _ _ (member t c.before)))
    -- a 03: add_p, sub-more, loop_less, loop_again
    (λ c. let turn = c.before.before.before in omega (arith, here_fits _ _ _ _ (member t turn), (start_of t turn).requires.1.short))
    (λ c. c.before.before.before.loop-more-test.true)
    (any_less t)
    (any_again t)
    -- a 01 or 02: bounds_at_requires, missed_requires, sub_more_2, loop_less_2, loop_again_2
    (λ c κs. integer_there _ _ _ _ (member t c.before.before.before) (leaf_kind t c))
    (λ c κs.
    let turn = c.before.before.before.before.before.before in
    integers_asked _ _ _ _ _ _ _ (member t turn) (leaf_kind t c.before.before.before) turn.before.loop-more.invariant.among)
    (λ c. c.before.before.before.before.before.before.before.loop-more-test.true)
    (leaf_less t)
    (leaf_again t)
    -- a list: sub-more-3, add-more, shared-slice-read-more, cast-more, add-more-2, add_p_2, loop_less_3, loop_again_3
    (λ c. c.before.before.before.loop-more-test.true)
    (λ c. omega (arith, (on_list t c.before.before.before c.if-kind-eq-LIST.true).fits, (start_of t c.before.before.before).requires.1.short))
    (λ c. omega (arith, (on_list t c.before.before.before.before c.before.if-kind-eq-LIST.true).fits))
    (λ c. omega (arith, c.shared_slice_known-then-kind-eq-LIST-1.given (c.before.before.before.before.before.loop-more.p + 1)))
    (list_counted t)
    (λ c. let turn = c.before.before.before.before in omega (arith, (on_list t turn c.before.if-kind-eq-LIST.true).fits, (start_of t turn).requires.1.short))
    (list_less t)
    (list_again t)
    -- a 06 or 07: float_leaf_at_requires, missed_floats_requires, float-leaf-size-requires, add-p-3, sub-more-4, loop-less-4, loop-again-4
    (λ c κs. float_there _ _ _ _ (member t c.before.before.before.before) c.if-kind-gt-COMPLEMENT.true)
    (λ c κs.
    let turn = c.before.before.before.before.before in
    floats_asked _ _ _ _ _ _ _ (member t turn) c.before.if-kind-gt-COMPLEMENT.true turn.before.loop-more.invariant.among)
    (λ c κs. tt)
    (λ c. let turn = c.before.before.before.before.before.before.before in omega (arith, (float_missed t c (family_of t turn)).inside, (start_of t turn).requires.1.short))
    (λ c. c.before.before.before.before.before.before.before.loop-more-test.true)
    (float_less t)
    (float_again t)
    -- a complement: add_any_of, add_any_of_2, shared_slice_read_any_of, cast_any_of, sub_any_of, any_of_requires, mask_in_requires, place-in-requires,
    -- sub-more-5, loop-less-5, loop-again-5
    (λ c. let turn = c.before.before.before.before in omega (arith, (on_complement t turn (complement_here t c)).fits, (start_of t turn).requires.1.short))
    (λ c. let turn = c.before.before.before.before in omega (arith, (on_complement t turn (complement_here t c)).fits, (start_of t turn).requires.1.short))
    (λ c. omega (arith, (on_complement t c.before.before.before.before.before (complement_here t c.before)).fits))
    (λ c. omega (arith, c.shared_slice_known-else-kind-gt-COMPLEMENT-1.given (c.before.before.before.before.before.before.loop-more.p + 1)))
    (λ c. (on_complement t c.before.before.before.before.before (complement_here t c.before)).deep)
    (λ c κs.
    let turn = c.before.before.before.before.before in
    let i = on_complement t turn (complement_here t c.before) in
    let s = start_of t turn in
    (omega (arith, s.requires.0, i.deep), record { family = family_of t turn; members = i.members; short = s.requires.1.short; among = turn.before.loop-more.invariant.among }))
    (λ c κs. tt)
    (λ c κs. tt)
    (λ c. c.before.before.before.before.before.before.before.before.loop-more-test.true)
    (complement_less t)
    (complement_again t)
    -- said_requires, returns
    (λ c κs. omega (arith, c.before.loop-more.invariant.todo.inside, c.before.before.before.before.requires.1.short))
    (λ c. retold true _ _ _ _ _ _ _ (sym c.said.ensures.0) (sym c.said.ensures.1) (done _ _ _ _ _ _ _ _ _ _ (omega (arith, c.before.loop-more-test.false)) c.before.before.loop-more.invariant))
