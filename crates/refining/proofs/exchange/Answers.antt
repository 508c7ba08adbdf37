-- `exchange`: m takes e and its place is spare then; who held e is served, since the candidates are those for whom that can be done.
use Rattle.std.proofs.Common.{◌≡◌, ◌+◌, ◌<◌, ◌≤◌, get_or, arith}
use mathlib.Core.Logic.{⊎_elim}
use Rattle.masks.specs.Masks.{bit}
use Rattle.rows.specs.Rows.{picks}
use Rattle.facts.proofs.Cases.{below}
use Rattle.chains.specs.Chain.{Spares}
use Rattle.chains.proofs.Chains.{ready, held_inv, open_in, spares_filled, served_within}
use Rattle.refining.proofs.AsThirtyTwoBytes.{swap, swap_size, swap_spares, swap_never, exchange_spare, exchange_served}
use Rattle.refining.proofs.Refinement.{rival_asks}
use Rattle.refining.proofs.exchange.Goals as goal
use Rattle.refining.proofs.exchange.Goals.{After-place_of-p, After-with-spare, After-settle-end}

pub place_of-p-requires : goal.place_of-p-requires
place_of-p-requires c =
    let s = c.requires in
    let l = s.rival.later in
    record { place = l.place; after = l.after; early = let z = l.early in let y = s.end in omega arith; here = l.here }

-- the place of m is after e
found_at : (c : After-place_of-p) → (c.args.e < c.place_of-p.result) × (c.place_of-p.result < c.args.to) × (c.place_of-p.result < 32) × (get_or c.args.w.now c.place_of-p.result 0 ≡ c.args.m)
found_at c =
    let s = c.requires in
    let l = s.rival.later in
    let n = c.place_of-p.ensures in
    let k = n.first l.place l.after l.here in
    let z = l.early in
    let y = s.end in
    let x = n.after in
    (x, omega arith, omega arith, n.here)

pub bounds-w-e : goal.bounds-w-e
bounds-w-e c = let h = found_at (goal.at.bounds-w-e c).After-place_of-p in omega arith

pub bounds-w-p : goal.bounds-w-p
bounds-w-p c = (found_at (goal.at.bounds-w-p c).After-place_of-p).2

pub bounds-w-e-2 : goal.bounds-w-e-2
bounds-w-e-2 c = let h = found_at (goal.at.bounds-w-e-2 c).After-place_of-p in omega arith

pub with-spare-requires : goal.with-spare-requires
with-spare-requires c = (found_at (goal.at.with-spare-requires c).After-place_of-p).2

-- what is spare after the exchange
swapped : (c : After-with-spare) → Spares (swap c.args.w.now c.place_of-p.result c.args.e c.args.m) (c.args.e + 1) c.args.to (bit c.with-spare.result)
swapped c =
    let h = found_at (goal.at.After-with-spare c).After-place_of-p in
    swap_spares c.args.w.now c.place_of-p.result c.args.e c.args.m c.requires.size h.0 h.2 h.3 c.args.to h.1 c.with-spare.ensures c.requires.spares

pub returns-then-owner-ge-MEMBERS_MOST : goal.returns-then-owner-ge-MEMBERS_MOST
returns-then-owner-ge-MEMBERS_MOST c =
    let s = c.requires in
    let h = found_at (goal.at.returns-then-owner-ge-MEMBERS_MOST c).After-place_of-p in
    record {
      spares = swapped (goal.at.returns-then-owner-ge-MEMBERS_MOST c).After-with-spare;
      works = λ first k from block after d.
          exchange_spare block (rival_asks block d after s.end s.rival) (omega arith) s.end h.0 h.2 h.3 c.if-owner-ge-MEMBERS_MOST.true;
    }

pub overflow_add-e : goal.overflow_add-e
overflow_add-e c = let h = found_at (goal.at.overflow_add-e c).After-place_of-p in omega arith

pub span-requires : goal.span-requires
span-requires c = let h = found_at (goal.at.span-requires c).After-place_of-p in (omega arith, c.requires.end)

pub settle-end-requires : goal.settle-end-requires
settle-end-requires c =
    let h = found_at (goal.at.settle-end-requires c).After-place_of-p in
    ready c.span.result c.with-spare.result (swapped (goal.at.settle-end-requires c).After-with-spare) c.span.ensures
    (swap_size c.args.w.now c.place_of-p.result c.args.e c.args.m c.requires.size h.0 h.2 h.3) c.if-owner-ge-MEMBERS_MOST.false

-- a chain is found
end_low : (c : After-settle-end) → c.settle-end.result < 32
end_low c =
    let s = c.requires in
    let h = found_at (goal.at.After-settle-end c).After-place_of-p in
    let free = swapped (goal.at.After-settle-end c).After-with-spare in
    let inv = held_inv c.span.result c.with-spare.result free c.span.ensures in
    ⊎_elim
    (λ (l : c.settle-end.result < 32). l)
    (λ (l : 32 ≤ c.settle-end.result). absurd (swap_never c.args.w.now c.place_of-p.result c.args.e c.args.m s.size h.0 h.2 h.3 c.args.to s.end c.with-spare.ensures s.spares
    (open_in c.span.result c.with-spare.result free c.span.ensures) (λ i t. let v = inv i t in (v.0, v.1)) s.once (s.moves c.if-owner-ge-MEMBERS_MOST.false) (c.settle-end.ensures.stuck l)))
    (below c.settle-end.result 32)

pub flip-requires : goal.flip-requires
flip-requires c = end_low (goal.at.flip-requires c).After-settle-end

pub returns : goal.returns
returns c =
    let s = c.requires in
    let h = found_at (goal.at.returns c).After-place_of-p in
    let free = swapped (goal.at.returns c).After-with-spare in
    let low = end_low (goal.at.returns c).After-settle-end in
    let served = c.settle-end.ensures.served low in
    let inv = held_inv c.span.result c.with-spare.result free c.span.ensures in
    record {
      spares = spares_filled free (c.settle-end.ensures.filled low) served c.flip.ensures;
      works = λ first k from block after d.
          exchange_served block (rival_asks block d after s.end s.rival) (omega arith) s.end h.0 h.2 h.3 c.if-owner-ge-MEMBERS_MOST.false
          (served_within (picks c.args.columns.now) (c.args.e + 1) c.args.to (bit c.with-spare.result) _ (λ i f. (free.free i f).0) (λ i t. (inv i t).0) served);
    }
