-- `spare_places`: the place e is spare, or a member holds it.
use Rattle.std.proofs.Common.{ℕ, ◌+◌, sym, subst}
use Rattle.masks.specs.Masks.{bit}
use Rattle.masks.proofs.Masks.{bit_none}
use Rattle.chains.specs.Chain.{Spares}
use Rattle.chains.proofs.Chains.{spares_none, spares_free, spares_held}
use Rattle.chains.proofs.spare_places.Goals as goal
use Rattle.chains.proofs.spare_places.Goals.{then-w-e-ge-MEMBERS_MOST, else-w-e-ge-MEMBERS_MOST}

pub loop-e-init : goal.loop-e-init
loop-e-init c = spares_none bit_none

pub loop-e-preserved : goal.loop-e-preserved
loop-e-preserved c =
    let again : ℕ → Type 0 = λ free. Spares c.args.w c.args.from (c.loop-e.e + 1) (bit free) in
    let begun = c.loop-e.auto.e in
    elim c.if-w-e-ge-MEMBERS_MOST.branch [
      | then-w-e-ge-MEMBERS_MOST w ↦ subst again (sym w.free-is) (spares_free begun c.loop-e.invariant w.with-free.ensures w.if-w-e-ge-MEMBERS_MOST.true)
      | else-w-e-ge-MEMBERS_MOST w ↦ subst again (sym w.free-is) (spares_held begun c.loop-e.invariant w.if-w-e-ge-MEMBERS_MOST.false)
    ]
