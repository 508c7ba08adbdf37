-- `refine`: one place more at a time. At the last place there is nothing to change.
use Rattle.std.proofs.Common.{◌≡◌, true, ℕ, ◌+◌, ◌<◌, ◌≤◌, sym, subst, arith}
use Rattle.masks.specs.Masks.{bit}
use Rattle.rows.specs.Rows.{picks}
use Rattle.chains.proofs.Chains.{spares_after}
use Rattle.refining.specs.Refine.{Rival, Going, Improved, Open}
use Rattle.refining.proofs.AsThirtyTwoBytes.{dealt_one}
use Rattle.refining.proofs.Refinement.{leads_start, leads_step}
use Rattle.refining.proofs.WhoCanHave.{open_start, open_agrees, open_spare, open_held, rivals_sound, rivals_going, leads_last}
use Rattle.refining.proofs.refine.Goals as goal
use Rattle.refining.proofs.refine.Goals.{After-rivals-wanted, then-now-lt-MEMBERS_MOST, else-now-lt-MEMBERS_MOST}

pub loop-e-init : goal.loop-e-init
loop-e-init c =
    let p = c.requires in
    (p.1, c.spare_places-free.ensures, open_start p.0 (omega arith) p.4 c.span-left.ensures, leads_start (omega arith) p.4)

-- who is found is a rival, and every rival is found
found : (c : After-rivals-wanted)
    → ((m : ℕ) → bit c.rivals-wanted.result m ≡ true → Rival (picks c.args.columns.now) c.loop-e.x c.loop-e.e c.args.to m)
    × Going (picks c.args.columns.now) c.args.first c.args.k c.args.from c.args.to c.loop-e.x c.loop-e.e (bit c.rivals-wanted.result)
found c =
    let p = c.requires in
    let i = c.loop-e.invariant in
    let begun : c.args.from ≤ c.loop-e.e = c.loop-e.auto.e in
    let early : c.loop-e.e < c.args.to = omega arith in (
      rivals_sound p.0 begun early p.2 p.3 i.3.dealt i.2 c.rivals-wanted.ensures,
      rivals_going p.0 begun early p.2 p.3 i.3.dealt i.2 c.rivals-wanted.ensures,
    )

pub improve-free-requires : goal.improve-free-requires
improve-free-requires c =
    let p = c.requires in
    let i = c.loop-e.invariant in
    record {
      size = i.3.dealt.size;
      early = omega arith;
      end = p.2;
      once = λ v z. dealt_one i.3.dealt v (omega arith);
      spares = spares_after c.loop-e.free c.span-after.result c.span-after.ensures i.1;
      rivals = (found (goal.at.improve-free-requires c).After-rivals-wanted).0;
    }

pub loop-e-preserved : goal.loop-e-preserved
loop-e-preserved c =
    let i = c.loop-e.invariant in
    let x = c.improve-free.new.w in
    let better : Improved (picks c.args.columns.now) c.args.first c.args.k c.args.from c.args.to c.loop-e.x c.loop-e.e x =
    c.improve-free.ensures.works c.args.first c.args.k c.args.from c.requires.0 c.loop-e.auto.e i.3.dealt (found (goal.at.loop-e-preserved c).After-rivals-wanted).1 in
    let stood : Open c.args.first c.args.k x c.loop-e.e (bit c.loop-e.left) = open_agrees better.agrees i.2 in
    let low : c.loop-e.e < 32 = omega arith in
    let again : ℕ → Type 0 = λ left. Open c.args.first c.args.k x (c.loop-e.e + 1) (bit left) in (
      omega arith,
      c.improve-free.ensures.spares,
      elim c.if-now-lt-MEMBERS_MOST.branch [
        | then-now-lt-MEMBERS_MOST w ↦ subst again (sym w.left-is) (open_held low w.if-now-lt-MEMBERS_MOST.true better.dealt stood w.flip-left.ensures)
        | else-now-lt-MEMBERS_MOST w ↦ subst again (sym w.left-is) (open_spare c.requires.0 w.if-now-lt-MEMBERS_MOST.false stood)
      ],
      leads_step i.3 better,
    )

pub returns : goal.returns
returns c =
    let p = c.requires in
    let i = c.loop-e.invariant in
    leads_last p.0 p.2 c.loop-e.auto.e (omega arith) i.0 p.3 i.2 i.3
