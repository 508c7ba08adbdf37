-- A leaf adds its range, a list or a complement what a call gathers; a complement's own ranges are turned to the gaps between them. Assumes nothing.
use Rattle.std.proofs.Common.{ℕ, ◌≡◌, ◌+◌, ◌-◌, ◌≤◌, ◌<◌, sym, ◌∙◌, subst, length, List, ℤ, arith, rules}
use Rattle.integers.specs.Integer.{Word}
use Rattle.integers.proofs.SignedLocals.{again_same}
use Rattle.ranges.specs.Spans.{Proper}
use Rattle.elements.specs.Contract.{count_in}
use Rattle.normal.proofs.Walks.{here_fits}
use Rattle.normal.proofs.Gathers.{lent_length}
use Rattle.normal.proofs.Turns.{Walking, walking_start, walking_here, walking_room, leaf_at, walking_leaf, walking_call, walking_end, members_fit, same_ranges, members_from, list_gathered, all_few, own_ranges, complement_gathered}
use Rattle.normal.proofs.walk.+any_of_set_of.Goals as goal
use Rattle.normal.proofs.walk.+any_of_set_of.Goals.{any_of-then-kind-lt-LIST, any_of-else-kind-lt-LIST}

-- one member less is left after a turn
one_less : (t : List ℕ) (from n left : ℕ) (los₀ his₀ los his : List ℤ) (s k : ℕ) → Walking t from n left los₀ his₀ los his s (n - k - 1) → Walking t from n left los₀ his₀ los his s (n - (k + 1))
one_less t from n left los₀ his₀ los his s k g = let e : n - k - 1 ≡ n - (k + 1) = omega arith in subst (Walking t from n left los₀ his₀ los his s) e g

pub any_of-loop-init : goal.any_of-loop-init
any_of-loop-init t c = let all : c.args.n ≡ c.args.n - 0 = omega arith in subst (Walking _ _ _ _ _ _ _ _ _) all (walking_start _ _ _ _ _ _ c.requires)

pub any_of-bounds-t-p : goal.any_of-bounds-t-p
any_of-bounds-t-p t c = omega (arith, here_fits _ _ _ (walking_here _ _ _ _ _ _ _ _ _ _ c.loop.invariant c.requires (omega arith)))

pub any_of-bounds_at-l-requires : goal.any_of-bounds_at-l-requires
any_of-bounds_at-l-requires t c = leaf_at _ _ _ _ _ _ _ _ _ _ c.loop.invariant c.requires (omega arith) c.if-kind-lt-LIST.true

pub any_of-set_of-s-requires : goal.any_of-set_of-s-requires
any_of-set_of-s-requires t c =
    let left : 0 < c.args.n - c.loop.counter = omega arith in (
      omega arith,
      record {
        here = walking_here _ _ _ _ _ _ _ _ _ _ c.loop.invariant c.requires left;
        group = omega arith;
        room = walking_room _ _ _ _ _ _ _ _ _ _ c.loop.invariant c.requires left;
      },
    )

pub any_of-loop-preserved : goal.any_of-loop-preserved
any_of-loop-preserved t c =
    let left : 0 < c.args.n - c.loop.counter = omega arith in
    elim c.if-kind-lt-LIST.branch [
      | any_of-then-kind-lt-LIST w ↦
          let a = w.bounds_at-l.result.lower in
          let b = w.bounds_at-l.result.upper in
          let wa : Word a = search rules in
          let wb : Word b = search rules in
          rw (w.lo-is, w.hi-is, w.s-is, again_same a wa, again_same b wb)
          (one_less _ _ _ _ _ _ _ _ _ _ (walking_leaf _ _ _ _ _ _ _ _ _ _ c.loop.invariant c.requires left w.if-kind-lt-LIST.true _ _ _ w.bounds_at-l.ensures))
      | any_of-else-kind-lt-LIST w ↦
          rw (w.lo-is, w.hi-is, w.s-is) (one_less _ _ _ _ _ _ _ _ _ _ (walking_call _ _ _ _ _ _ _ _ _ _ c.loop.invariant c.requires left _ _ _ w.set_of-s.ensures))
    ]

pub any_of-returns : goal.any_of-returns
any_of-returns t c = walking_end _ _ _ _ _ _ _ _ _ _ c.loop.invariant (omega arith)

pub set_of-bounds-t-at : goal.set_of-bounds-t-at
set_of-bounds-t-at t c = omega (arith, members_fit _ _ _ _ _ c.requires)

pub set_of-overflow_sub-left : goal.set_of-overflow_sub-left
set_of-overflow_sub-left t c = (members_fit _ _ _ _ _ c.requires).1

pub set_of-any_of-r-requires : goal.set_of-any_of-r-requires
set_of-any_of-r-requires t c = (omega (arith, members_fit _ _ _ _ _ c.requires), members_from _ _ _ _ _ c.requires)

pub set_of-returns-then-kind-eq-LIST : goal.set_of-returns-then-kind-eq-LIST
set_of-returns-then-kind-eq-LIST t c = list_gathered _ _ _ _ _ c.requires _ _ _ c.any_of-r.ensures c.if-kind-eq-LIST.true

pub set_of-left_out-g-requires : goal.set_of-left_out-g-requires
set_of-left_out-g-requires t c =
    let n = count_in c.args.from in
    let los = c.any_of-r.new.lo in
    let his = c.any_of-r.new.hi in
    let g = c.any_of-r.ensures in
    let few : n ≤ 128 = omega (arith, c.requires.room.few, c.requires.here.few) in
    let all : count_in c.any_of-r.result ≤ 128 = all_few _ _ _ _ _ c.requires _ _ _ g in
    let low : length los ≡ 130 = g.more.size_low ∙ c.requires.room.size_low in
    let high : length his ≡ 130 = g.more.size_high ∙ c.requires.room.size_high in
    let not_fewer : n ≤ count_in c.any_of-r.result = omega (arith, g.more.count, same_ranges _ _ _ _ _ c.requires) in (
      omega (arith, lent_length los n (omega arith)),
      omega (arith, lent_length his n (omega arith)),
      subst Proper (sym (own_ranges _ _ _ _ _ c.requires _ _ _ g)) g.proper,
    )

pub set_of-returns : goal.set_of-returns
set_of-returns t c = complement_gathered _ _ _ _ _ c.requires _ _ _ c.any_of-r.ensures c.left_out-g.new.lo c.left_out-g.new.hi c.left_out-g.result c.if-kind-eq-LIST.false c.left_out-g.ensures
