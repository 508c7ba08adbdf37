-- `saturate`: one member more by a chain, or a group that is short.
use Rattle.std.proofs.Common.{◌≡◌, Bool, true, List, ℕ, ◌<◌, ◌≤◌, length, refl, ap, ◌∙◌, arith, rules}
use mathlib.Core.Logic.{⊎_elim}
use Rattle.masks.specs.Masks.{bit}
use Rattle.rows.specs.Rows.{picks}
use Rattle.chains.specs.Chain.{Ready, Explored, Settled, within, Served}
use Rattle.facts.proofs.Cases.{below, clash}
use Rattle.masks.proofs.Masks.{bit_none}
use Rattle.masks.proofs.OneByOne.{left_falls}
use Rattle.chains.proofs.Chains.{ready, held_inv, open_in, served_within, spares_filled}
use Rattle.chains.proofs.Explorations.{explored_ready, explored_never}
use Rattle.chains.proofs.Blocked.{holders_of, stuck_blocked}
use Rattle.refining.proofs.AsThirtyTwoBytes.{partly_done, partly_served, partly_short}
use Rattle.assign.proofs.saturate.saturate.Goals as goal

pub loop-waiting-init : goal.loop-waiting-init
loop-waiting-init c = let size : length c.args.begun ≡ 32 = search rules in (size, c.spare_places-free.ensures, λ first k block partly. partly)

pub explore-requires : goal.explore-requires
explore-requires c =
    let i = c.loop-waiting.invariant in
    ready c.span-piece.result c.loop-waiting.free i.1 c.span-piece.ensures i.0 c.lowest-m.ensures.low

pub returns-then-not-explore : goal.returns-then-not-explore
returns-then-not-explore c =
    let a = c.args in
    let i = c.loop-waiting.invariant in
    let asks = ready c.span-piece.result c.loop-waiting.free i.1 c.span-piece.ensures i.0 c.lowest-m.ensures.low in
    let stuck = c.explore.ensures.stuck (search rules) in
    let b = stuck_blocked a.from a.to stuck (holders_of c.loop-waiting.w _) i.0 asks.held (open_in c.span-piece.result c.loop-waiting.free i.1 c.span-piece.ensures) in
    λ first k block partly. record {
      dealt = λ q. absurd (clash q refl);
      short = λ _. partly_short (i.2 first k block partly) block c.lowest-m.ensures.inside b.0;
      blank = λ _. refl;
    }

pub settle-end-requires : goal.settle-end-requires
settle-end-requires c =
    let i = c.loop-waiting.invariant in
    explored_ready (ready c.span-piece.result c.loop-waiting.free i.1 c.span-piece.ensures i.0 c.lowest-m.ensures.low) c.explore.ensures

-- a chain is found
end_low : {may : ℕ → ℕ → Bool} {F H T G : ℕ → Bool} {w x : List ℕ} {m end : ℕ} {found : Bool}
    → Ready F H w m → Explored may F H w m found T → found ≡ true → Settled may F T w m end G x → end < 32
end_low {may} {F} {H} {T} {G} {w} {x} {m} {end} ready explored found settled = ⊎_elim
    (λ (l : end < 32). l)
    (λ (l : 32 ≤ end). absurd (explored_never ready explored found (settled.stuck l)))
    (below end 32)

pub flip-free-requires : goal.flip-free-requires
flip-free-requires c =
    let i = c.loop-waiting.invariant in
    end_low (ready c.span-piece.result c.loop-waiting.free i.1 c.span-piece.ensures i.0 c.lowest-m.ensures.low) c.explore.ensures (search rules) c.settle-end.ensures

pub loop-waiting-smaller : goal.loop-waiting-smaller
loop-waiting-smaller c = left_falls c.lowest-m.result c.flip-waiting.ensures c.lowest-m.ensures.inside c.lowest-m.ensures.low (λ j h. h)

pub loop-waiting-preserved : goal.loop-waiting-preserved
loop-waiting-preserved c =
    let a = c.args in
    let i = c.loop-waiting.invariant in
    let low = end_low (ready c.span-piece.result c.loop-waiting.free i.1 c.span-piece.ensures i.0 c.lowest-m.ensures.low) c.explore.ensures (search rules) c.settle-end.ensures in
    let given = c.settle-end.ensures.served low in
    let served : Served (within (picks a.columns.now) a.from a.to) c.loop-waiting.w c.lowest-m.result c.settle-end.new.w
    = served_within (picks a.columns.now) a.from a.to (bit c.loop-waiting.free) _ (λ e f. (i.1.free e f).0)
    (λ e t. (held_inv c.span-piece.result c.loop-waiting.free i.1 c.span-piece.ensures e (c.explore.ensures.inside e t)).0) given in (
      given.size ∙ i.0,
      spares_filled i.1 (c.settle-end.ensures.filled low) given c.flip-free.ensures,
      λ first k block partly. partly_served (i.2 first k block partly) block c.lowest-m.ensures.inside c.flip-waiting.ensures served,
    )

pub returns : goal.returns
returns c =
    let i = c.loop-waiting.invariant in
    λ first k block partly. record {
      dealt = λ _. partly_done (i.2 first k block partly) (λ m. ap (λ (n : ℕ). bit n m) c.loop-waiting-test.false ∙ bit_none m);
      short = λ q. absurd (clash refl q);
      blank = λ q. absurd (clash refl q);
    }
