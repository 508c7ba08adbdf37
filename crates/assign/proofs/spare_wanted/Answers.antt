-- `spare_wanted`: a mask of who may take a spare element, one element more at a time.
use Rattle.std.proofs.Common.{◌≡◌, ℕ, ◌+◌, Bool, ◌||◌, get_or, sym, ap, ◌∙◌, subst, arith}
use Rattle.masks.specs.Masks.{bit}
use Rattle.rows.specs.Rows.{may}
use Rattle.facts.proofs.Cases.{not_so}
use Rattle.masks.proofs.Masks.{bit_or_lem}
use Rattle.rows.proofs.Rows.{row_may}
use Rattle.assign.proofs.NobodyWants.{Able, able_none, able_more, able_skip}
use Rattle.assign.proofs.spare_wanted.Goals as goal
use Rattle.assign.proofs.spare_wanted.Goals.{then-w-e-ge-MEMBERS_MOST, else-w-e-ge-MEMBERS_MOST}

pub loop-e-init : goal.loop-e-init
loop-e-init c = able_none (may c.args.rows.now) c.args.from c.args.w (bit 0)

pub loop-e-preserved : goal.loop-e-preserved
loop-e-preserved c =
    let rows = c.args.rows.now in
    let row = get_or rows c.loop-e.e 0 in
    let again : ℕ → Type 0 = λ able. Able (may rows) c.args.from (c.loop-e.e + 1) c.args.w (bit able) in
    elim c.if-w-e-ge-MEMBERS_MOST.branch [
      | then-w-e-ge-MEMBERS_MOST w ↦ subst again (sym w.able-is) (able_more (may rows) c.args.from c.loop-e.e c.args.w (bit c.loop-e.able) c.loop-e.invariant _
          (λ m. bit_or_lem c.loop-e.able row m ∙ ap (λ (t : Bool). bit c.loop-e.able m || t) (row_may rows m c.loop-e.e)))
      | else-w-e-ge-MEMBERS_MOST w ↦ subst again (sym w.able-is) (able_skip (may rows) c.args.from c.loop-e.e c.args.w (bit c.loop-e.able) c.loop-e.invariant w.if-w-e-ge-MEMBERS_MOST.false)
    ]

pub returns : goal.returns
returns c none m e block inside spare =
    let done : c.loop-e.e ≡ c.args.to = omega (arith, c.loop-e.auto.e-end c.requires.0) in
    let all : Able (may c.args.rows.now) c.args.from c.args.to c.args.w (bit c.loop-e.able) = rw done at c.loop-e.invariant in
    not_so (may c.args.rows.now m e) (λ o. c.meets.ensures.none none m (all m e inside spare o) block)
