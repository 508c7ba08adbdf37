-- A turn counts one range, 9 at most. Assumes nothing.
use Rattle.std.proofs.Common.{◌≡◌, ◌+◌, ◌∷◌, ◌∙◌, subst, suc, List, pos, get_or, drop, add-one, arith}
use Rattle.integers.specs.Integer.{Word}
use Rattle.integers.proofs.SignedLocals.{again_same}
use Rattle.ranges.specs.Shown.{view}
use Rattle.ranges.specs.Spans.{Span, span}
use Rattle.ranges.proofs.Views.{view_end, view_at}
use Rattle.forms.specs.Form.{record_length, records_length}
use Rattle.forms.proofs.Lengths.{record_length_most}
use Rattle.forms.proofs.Records.{count_step, count_end}
use Rattle.forms.proofs.records_length.Goals as goal

pub loop-k-preserved : goal.loop-k-preserved
loop-k-preserved c =
    let rs = view c.args.n c.args.lo.now c.args.hi.now in
    let a = get_or c.args.lo.now c.loop-k.k (pos 0) in
    let b = get_or c.args.hi.now c.loop-k.k (pos 0) in
    let wa : Word a = omega arith in
    let wb : Word b = omega arith in
    let here : c.record_length-length.result ≡ record_length (span a b) = c.record_length-length.ensures ∙ rw (again_same a wa, again_same b wb) in
    let parted : drop c.loop-k.k rs ≡ span a b ∷ drop (suc c.loop-k.k) rs = view_at _ _ _ c.loop-k.k c.loop-k-test.true c.requires.1 c.requires.2 in
    let e : c.loop-k.length + records_length (span a b ∷ drop (suc c.loop-k.k) rs) ≡ records_length rs =
    subst (λ (ss : List Span). c.loop-k.length + records_length ss ≡ records_length rs) parted c.loop-k.invariant.counted in
    record {
      few = omega (arith, here, record_length_most (span a b));
      counted = rw (add-one c.loop-k.k, here) (count_step _ _ _ _ e);
    }

pub returns : goal.returns
returns c =
    count_end _ _ _ (view_end _ _ _ c.loop-k.k c.loop-k-test.false c.requires.1 c.requires.2) c.loop-k.invariant.counted
