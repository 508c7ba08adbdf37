-- `explore`: the lowest place that may be taken and was not tried is tried, and what its holder may take is added.
use Rattle.std.proofs.Common.{Bool, true, ◌||◌, ◌≡◌, ap, ◌∙◌}
use Rattle.masks.specs.Masks.{bit}
use Rattle.masks.proofs.Masks.{bit_or_lem, bit_xor_lem, and_bits, and_none}
use Rattle.masks.proofs.OneByOne.{left_falls}
use Rattle.chains.proofs.Explorations.{exploring_start, exploring_turn, explored_found, explored_stuck, common}
use Rattle.chains.proofs.explore.Goals as goal
use Rattle.chains.proofs.explore.Goals.{After-flip-rest}

pub loop-wide-init : goal.loop-wide-init
loop-wide-init c = exploring_start c.choices-wide.ensures

pub returns-then-wide-rest-eq0 : goal.returns-then-wide-rest-eq0
returns-then-wide-rest-eq0 c =
    explored_stuck c.loop-wide.invariant (λ e. bit_xor_lem c.args.held.now c.loop-wide.rest e)
    (λ e. and_none c.loop-wide.wide c.args.free e c.loop-wide-test.true) (λ e. and_none c.loop-wide.wide c.loop-wide.rest e c.if-wide-rest-eq0.true)

-- the place of this turn is one that may be taken, and was not tried
here : (c : After-flip-rest) → (bit c.loop-wide.wide c.lowest-e.result ≡ true) × (bit c.loop-wide.rest c.lowest-e.result ≡ true)
here c = and_bits c.loop-wide.wide c.loop-wide.rest _ c.lowest-e.ensures.inside

pub choices-row-requires : goal.choices-row-requires
choices-row-requires c = c.requires.held _ (c.loop-wide.invariant.fell _ (here (goal.at.choices-row-requires c).After-flip-rest).1)

pub loop-wide-smaller : goal.loop-wide-smaller
loop-wide-smaller c = left_falls c.lowest-e.result c.flip-rest.ensures (here (goal.at.loop-wide-smaller c).After-flip-rest).1 c.lowest-e.ensures.low (λ j h. h)

pub loop-wide-preserved : goal.loop-wide-preserved
loop-wide-preserved c =
    let h = here (goal.at.loop-wide-preserved c).After-flip-rest in
    exploring_turn c.lowest-e.result c.loop-wide.invariant c.flip-rest.ensures h.1 h.0
    (λ j. bit_or_lem c.loop-wide.wide c.choices-row.result j ∙ ap (λ (t : Bool). bit c.loop-wide.wide j || t) (c.choices-row.ensures j))

pub returns : goal.returns
returns c =
    let f = common c.loop-wide.wide c.args.free c.ranges.free.fits c.loop-wide-test.false in
    explored_found c.loop-wide.invariant (λ e. bit_xor_lem c.args.held.now c.loop-wide.rest e) f.0 f.1 f.2
