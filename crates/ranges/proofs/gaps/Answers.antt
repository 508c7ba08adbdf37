-- A turn writes the gap before a range, if there is one, and goes on from the range's upper neighbour, which is taken only where it exists.
-- Assumes nothing.
use Rattle.std.proofs.Common.{◌≡◌, ◌∙◌, ◌<◌, pos, ◌+ℤ◌, ◌-ℤ◌, get_or, length, add-one, arith}
use Rattle.integers.specs.Integer.{Word, greatest}
use Rattle.integers.specs.Rank.{rank}
use lib.ListN.{set, length-set}
use Rattle.integers.proofs.Ranks.{word_next}
use Rattle.integers.proofs.SignedLocals.{num, again, again_same, lt_rank, most_yes, most_no, next_same, prev_same}
use Rattle.ranges.specs.Shown.{view}
use Rattle.ranges.specs.Spans.{gaps}
use Rattle.ranges.proofs.Gapping.{Stepped, gapping_start, step_over, step_gap, stepped_on, stepped_end, gapping_end}
use Rattle.ranges.proofs.Views.{became}
use Rattle.ranges.proofs.gaps.Goals as goal
use Rattle.ranges.proofs.gaps.Goals.{Joined-from-a, then-from-a, else-from-a}

pub loop-k-init : goal.loop-k-init
loop-k-init c = record { word_from = omega arith; going = gapping_start _ _ _ c.requires.0 c.requires.1 c.requires.2 }

-- after the gap before the range, if there is one; its lower end has a lower neighbour then
stepped : (c : Joined-from-a)
    → Stepped c.args.n c.if-from-a.lo c.if-from-a.hi (get_or c.loop-k.hi c.loop-k.k (pos 0)) c.if-from-a.w c.loop-k.k (gaps (view c.args.n c.args.lo.now c.args.hi.now))
stepped c =
    let A = get_or c.loop-k.lo c.loop-k.k (pos 0) in
    let F = num c.loop-k.from-bits in
    let wa : Word A = omega arith in
    let going = c.loop-k.invariant.going in
    elim c.if-from-a.branch [
      | then-from-a w ↦
          let test = rw (again_same A wa) at w.if-from-a.true in
          let lt : rank F < rank A = lt_rank F A c.loop-k.invariant.word_from wa test in
          let end : again (again A -ℤ pos 1) ≡ A -ℤ pos 1 = prev_same A wa (omega arith) in
          rw (w.lo-is, w.hi-is, w.w-is, add-one c.loop-k.w, end) (step_gap _ _ _ _ _ _ _ going c.loop-k-test.true test)
      | else-from-a w ↦
          rw (w.lo-is, w.hi-is, w.w-is) (step_over _ _ _ _ _ _ _ going c.loop-k-test.true (rw (again_same A wa) at w.if-from-a.false))
    ]

pub returns-then-b-eq-GREATEST : goal.returns-then-b-eq-GREATEST
returns-then-b-eq-GREATEST c =
    let B = get_or c.loop-k.hi c.loop-k.k (pos 0) in
    let wb : Word B = omega arith in
    let g = stepped c.before in
    let low : length c.if-from-a.lo ≡ length c.args.lo.now = c.if-from-a.auto.lo ∙ c.loop-k.auto.lo in
    let high : length c.if-from-a.hi ≡ length c.args.hi.now = c.if-from-a.auto.hi ∙ c.loop-k.auto.hi in
    became _ _ _ _ _ _ low high (omega (arith, g.behind, g.inside)) (omega (arith, g.behind, g.inside)) (stepped_end _ _ _ _ _ _ _ g (most_yes B wb c.if-b-eq-GREATEST.true))

pub loop-k-preserved : goal.loop-k-preserved
loop-k-preserved c =
    let B = get_or c.loop-k.hi c.loop-k.k (pos 0) in
    let wb : Word B = omega arith in
    let small : rank B < 4294967295 = most_no B wb c.if-b-eq-GREATEST.false in
    let e : again (again B +ℤ pos 1) ≡ B +ℤ pos 1 = next_same B wb small in
    record { word_from = rw e (word_next B wb small); going = rw (e, add-one c.loop-k.k) (stepped_on _ _ _ _ _ _ _ (stepped c.before) wb) }

pub returns : goal.returns
returns c =
    let g = c.loop-k.invariant.going in
    let F = num c.loop-k.from-bits in
    let low : length (set c.loop-k.lo c.loop-k.w F) ≡ length c.args.lo.now = length-set c.loop-k.lo c.loop-k.w F ∙ c.loop-k.auto.lo in
    let high : length (set c.loop-k.hi c.loop-k.w greatest) ≡ length c.args.hi.now = length-set c.loop-k.hi c.loop-k.w greatest ∙ c.loop-k.auto.hi in
    rw (add-one c.loop-k.w) (became _ _ _ _ _ _ low high (omega arith) (omega arith)
    (gapping_end _ _ _ _ _ _ _ g c.loop-k-test.false c.loop-k.invariant.word_from))
