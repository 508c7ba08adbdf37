-- `holders`: one place more at a time, the lowest first.
use Rattle.std.proofs.Common.{Bool, not, ◌&&◌, ℕ, sym, ap, ◌∙◌}
use mathlib.Core.Bool.{and-true}
use Rattle.masks.specs.Masks.{bit}
use Rattle.masks.proofs.Masks.{bit_none}
use Rattle.masks.proofs.OneByOne.{left_falls, flipped_down}
use Rattle.refining.proofs.WhoCanHave.{holders_none, holders_more, holders_same}
use Rattle.refining.proofs.holders.Goals as goal

pub loop-rest-init : goal.loop-rest-init
loop-rest-init c = (λ e h. h, holders_none (bit c.args.places) bit_none)

pub with-found-requires : goal.with-found-requires
with-found-requires c = c.requires _ (c.loop-rest.invariant.0 _ c.lowest-e.ensures.inside)

pub loop-rest-smaller : goal.loop-rest-smaller
loop-rest-smaller c =
    let low = c.lowest-e.ensures in
    left_falls c.lowest-e.result (c.without_lowest-rest.ensures _ _ low) low.inside low.low (λ j h. h)

pub loop-rest-preserved : goal.loop-rest-preserved
loop-rest-preserved c =
    let low = c.lowest-e.ensures in
    let gone = c.without_lowest-rest.ensures _ _ low in
    let i = c.loop-rest.invariant in
    (λ e h. i.0 e (flipped_down gone low.inside e h), holders_more (bit c.args.places) c.lowest-e.result low.low low.inside (i.0 _ low.inside) gone c.with-found.ensures i.1)

pub returns : goal.returns
returns c =
    let places = bit c.args.places in
    holders_same (λ e. sym (ap (λ (n : ℕ). places e && not (bit n e)) c.loop-rest-test.false ∙ ap (λ (t : Bool). places e && not t) (bit_none e) ∙ and-true (places e))) c.loop-rest.invariant.1
