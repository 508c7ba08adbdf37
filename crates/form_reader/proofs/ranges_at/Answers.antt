-- A turn reads the record of one range, or finds that none can stand there. Assumes nothing.
use Rattle.std.proofs.Common.{◌≡◌, refl, ◌∙◌, true, false, cond, ◌||◌, Bool, ℤ, pos, ◌+ℤ◌, List, ℕ, add-one, rules}
use lib.Signed.{lt_z, le_z}
use Rattle.integers.specs.Integer.{Word}
use Rattle.integers.proofs.SignedLocals.{num, again, again_same}
use Rattle.form_reader.specs.FormRead.{no_ranges}
use Rattle.form_reader.proofs.Ranges.{Going, going_start, going_none, going_outside, going_step, going_end}
use Rattle.form_reader.proofs.ranges_at.Goals as goal

-- the state, with the parameters out of their bits
plain : (t : List ℕ) (at n : ℕ) (low top : ℤ) (los his : List ℤ) (p : ℕ) (l : ℤ) (k : ℕ) → Word low → Word top → Going t at n (again low) (again top) los his p l k → Going t at n low top los his p l k
plain t at n low top los his p l k wl wt g = rw (again_same low wl, again_same top wt) at g

-- the test, out of the bits
tested : (a l top b : ℤ) (f : Bool) → Word a → Word top → Word b → (le_z (again a) l || lt_z (again top) (again b)) ≡ f → (le_z a l || lt_z top b) ≡ f
tested a l top b f wa wt wb e = rw (again_same a wa, again_same top wt, again_same b wb) at e

pub loop-k-init : goal.loop-k-init
loop-k-init c =
    let wl : Word c.args.lower = c.ranges.lower.sfits in
    record { word_last = rw (again_same c.args.lower wl) wl; going = going_start _ _ _ (again c.args.lower) (again c.args.upper) _ _ c.requires.0 c.requires.1 c.requires.2 }

pub returns-in_default : goal.returns-in_default
returns-in_default c =
    let going = plain _ _ _ _ _ _ _ _ _ _ c.ranges.lower.sfits c.ranges.upper.sfits c.loop-k.invariant.going in
    no_ranges refl c.loop-k.auto.lo c.loop-k.auto.hi (going_none _ _ _ _ _ _ _ _ _ _ going c.loop-k-test.true _ _ _ _ c.in_default.ensures refl)

pub returns-then-a-last : goal.returns-then-a-last
returns-then-a-last c =
    let a = c.in-Some.r.lower in
    let b = c.in-Some.r.upper in
    let wa : Word a = search rules in
    let wb : Word b = search rules in
    let going = plain _ _ _ _ _ _ _ _ _ _ c.ranges.lower.sfits c.ranges.upper.sfits c.loop-k.invariant.going in
    no_ranges refl c.loop-k.auto.lo c.loop-k.auto.hi
    (going_outside _ _ _ _ _ _ _ _ _ _ going c.loop-k-test.true _ _ _ _ refl wa wb c.loop-k.invariant.word_last c.ranges.upper.sfits c.in-Some.ensures
    (tested a (num c.loop-k.last-bits) c.args.upper b true wa c.ranges.upper.sfits wb c.if-a-last.true))

pub loop-k-preserved : goal.loop-k-preserved
loop-k-preserved c =
    let a = c.in-Some.r.lower in
    let b = c.in-Some.r.upper in
    let top = c.args.upper in
    let wt : Word top = c.ranges.upper.sfits in
    let wa : Word a = search rules in
    let wb : Word b = search rules in
    let going = plain _ _ _ _ _ _ _ _ _ _ c.ranges.lower.sfits c.ranges.upper.sfits c.loop-k.invariant.going in
    let next = c.bound_after-last in
    let is : next.result ≡ cond (lt_z b top) (b +ℤ pos 1) b = rw (again_same b wb, again_same top wt) at next.ensures in
    record {
      word_last = rw (again_same next.result next.type_inv) next.type_inv;
      going =
          rw (again_same c.args.lower c.ranges.lower.sfits, again_same top wt, again_same a wa, again_same b wb, again_same next.result next.type_inv ∙ is, add-one c.loop-k.k)
          (going_step _ _ _ _ _ _ _ _ _ _ going c.loop-k-test.true _ _ _ _ refl wa wb c.loop-k.invariant.word_last wt c.in-Some.ensures
          (tested a (num c.loop-k.last-bits) top b false wa wt wb c.if-a-last.false));
    }

pub returns : goal.returns
returns c =
    let going = plain _ _ _ _ _ _ _ _ _ _ c.ranges.lower.sfits c.ranges.upper.sfits c.loop-k.invariant.going in
    going_end _ _ _ _ _ _ _ _ _ _ _ _ c.loop-k.auto.lo c.loop-k.auto.hi going c.loop-k-test.false
