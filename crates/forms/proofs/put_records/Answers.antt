-- A turn writes one record behind the others. Assumes nothing.
use Rattle.std.proofs.Common.{◌≡◌, ◌≤◌, ◌<◌, ℕ, ◌-◌, ◌∷◌, ◌++◌, ◌∙◌, subst, suc, List, ℤ, pos, get_or, length, take, drop, add-one, arith}
use Rattle.integers.specs.Integer.{Word}
use Rattle.integers.proofs.SignedLocals.{again_same}
use Rattle.ranges.specs.Shown.{view}
use Rattle.ranges.specs.Spans.{Span, span}
use Rattle.ranges.proofs.Views.{view_end, view_at}
use Rattle.forms.specs.Form.{record_of, record_length}
use Rattle.forms.proofs.Records.{Going, going_lent, going_step, going_end}
use Rattle.forms.proofs.put_records.Goals as goal

-- the range k is the next one
next_range : (o₀ o : List ℕ) (p n : ℕ) (los his : List ℤ) (k : ℕ) → Going o₀ o p (drop k (view n los his)) (view n los his) → k < n → n ≤ length los → n ≤ length his
    → Going o₀ o p (span (get_or los k (pos 0)) (get_or his k (pos 0)) ∷ drop (suc k) (view n los his)) (view n los his)
next_range o₀ o p n los his k g t a b = subst (λ (rs : List Span). Going o₀ o p rs (view n los his)) (view_at n los his k t a b) g

pub put_record-requires : goal.put_record-requires
put_record-requires c =
    let a = get_or c.args.lo.now c.loop-k.k (pos 0) in
    let b = get_or c.args.hi.now c.loop-k.k (pos 0) in
    let wa : Word a = omega arith in
    let wb : Word b = omega arith in
    let going = next_range _ _ _ _ _ _ _ c.loop-k.invariant c.loop-k-test.true c.requires.0.1 c.requires.0.2 in
    rw (again_same a wa, again_same b wb) (going_lent _ _ _ _ _ _ c.requires.1 going)

pub loop-k-preserved : goal.loop-k-preserved
loop-k-preserved c =
    let a = get_or c.args.lo.now c.loop-k.k (pos 0) in
    let b = get_or c.args.hi.now c.loop-k.k (pos 0) in
    let wa : Word a = omega arith in
    let wb : Word b = omega arith in
    let going = next_range _ _ _ _ _ _ _ c.loop-k.invariant c.loop-k-test.true c.requires.0.1 c.requires.0.2 in
    let counted : c.record_length-p.result ≡ record_length (span a b) = c.record_length-p.ensures ∙ rw (again_same a wa, again_same b wb) in
    let wrote : c.put_record.new.out ≡ record_of (span a b) ++ drop (record_length (span a b)) (take (length c.loop-k.out - c.loop-k.p) (drop c.loop-k.p c.loop-k.out)) =
    c.put_record.ensures ∙ rw (again_same a wa, again_same b wb) in
    rw (add-one c.loop-k.k, counted) (going_step _ _ _ _ _ _ c.requires.1 going _ wrote)

pub returns : goal.returns
returns c = going_end _ _ _ _ _ (view_end _ _ _ c.loop-k.k c.loop-k-test.false c.requires.0.1 c.requires.0.2) c.loop-k.invariant
