-- Where nothing is cut the ranges stand; a turn writes what is held of a range, or leaves it out. Assumes nothing.
use Rattle.std.proofs.Common.{◌≡◌, true, false, ◌&&◌, ◌||◌, refl, sym, ap, ap₂, ◌∙◌, ℤ, pos, get_or, add-one, arith, of_z, w32}
use lib.Dec.{eqb}
use lib.Signed.{lt_z}
use borrow.Author.Tests.{eqb-true}
use Rattle.facts.proofs.Cases.{and_left, and_right}
use Rattle.integers.specs.Integer.{Word, least, greatest}
use Rattle.integers.proofs.SignedLocals.{again, again_same, least_yes, most_yes}
use Rattle.ranges.specs.Shown.{view}
use Rattle.ranges.specs.Spans.{lesser, larger, cut_to}
use Rattle.ranges.proofs.Cuts.{cut_whole}
use Rattle.ranges.proofs.Cutting.{Cutting, step_out, step_cut, cutting_end}
use Rattle.ranges.proofs.Views.{became}
use Rattle.ranges.proofs.cut.Goals as goal
use Rattle.ranges.proofs.cut.Goals.{then-not-b-lower, else-not-b-lower}

pub returns-then-lower-upper : goal.returns-then-lower-upper
returns-then-lower-upper c =
    let test : (eqb (of_z w32 c.args.lower) 2147483648 && eqb (of_z w32 c.args.upper) 2147483647) ≡ true = c.if-lower-upper.true in
    let low_end : c.args.lower ≡ least = least_yes c.args.lower c.ranges.lower.sfits (eqb-true (of_z w32 c.args.lower) 2147483648 (and_left (eqb (of_z w32 c.args.lower) 2147483648) _ test)) in
    let high_end : c.args.upper ≡ greatest = most_yes c.args.upper c.ranges.upper.sfits (eqb-true (of_z w32 c.args.upper) 2147483647 (and_right (eqb (of_z w32 c.args.lower) 2147483648) _ test)) in
    let rs = view c.args.n c.args.lo.now c.args.hi.now in
    became _ _ _ _ _ _ refl refl c.requires.0 c.requires.1 (sym (ap₂ (λ (l h : ℤ). cut_to l h rs) low_end high_end ∙ cut_whole rs c.requires.2))

pub loop-k-preserved : goal.loop-k-preserved
loop-k-preserved c =
    let A = get_or c.loop-k.lo c.loop-k.k (pos 0) in
    let B = get_or c.loop-k.hi c.loop-k.k (pos 0) in
    let L = again c.args.lower in
    let H = again c.args.upper in
    let wa : Word A = omega arith in
    let wb : Word B = omega arith in
    let going : Cutting c.args.n c.loop-k.lo c.loop-k.hi L H c.loop-k.w c.loop-k.k (cut_to L H (view c.args.n c.args.lo.now c.args.hi.now)) = c.loop-k.invariant in
    elim c.if-not-b-lower.branch [
      | then-not-b-lower w ↦
          let test : (lt_z B L || lt_z H A) ≡ false = rw (again_same A wa, again_same B wb) at w.if-not-b-lower.true in
          let low_end : again w.max-l.result ≡ larger A L = again_same w.max-l.result w.max-l.type_inv ∙ w.max-l.ensures.value ∙ ap (λ (z : ℤ). larger z L) (again_same A wa) in
          let high_end : again w.min-u.result ≡ lesser B H = again_same w.min-u.result w.min-u.type_inv ∙ w.min-u.ensures.value ∙ ap (λ (z : ℤ). lesser z H) (again_same B wb) in
          rw (w.lo-is, w.hi-is, w.w-is, add-one c.loop-k.w, add-one c.loop-k.k, low_end, high_end) (step_cut _ _ _ _ _ _ _ _ going c.loop-k-test.true test)
      | else-not-b-lower w ↦
          let test : (lt_z B L || lt_z H A) ≡ true = rw (again_same A wa, again_same B wb) at w.if-not-b-lower.false in
          rw (w.lo-is, w.hi-is, w.w-is, add-one c.loop-k.k) (step_out _ _ _ _ _ _ _ _ going c.loop-k-test.true test)
    ]

pub returns : goal.returns
returns c =
    let rs = view c.args.n c.args.lo.now c.args.hi.now in
    let g = c.loop-k.invariant in
    became _ _ _ _ _ _ c.loop-k.auto.lo c.loop-k.auto.hi (omega arith) (omega arith)
    (cutting_end _ _ _ _ _ _ _ _ g c.loop-k-test.false
    ∙ ap₂ (λ (l h : ℤ). cut_to l h rs) (again_same c.args.lower c.ranges.lower.sfits) (again_same c.args.upper c.ranges.upper.sfits))
