-- `improve`: the least of the candidates, if there is one.
use Rattle.std.proofs.Common.{◌≡◌, false, ℕ, ap, ◌∙◌}
use Rattle.masks.specs.Masks.{bit}
use Rattle.masks.proofs.Masks.{bit_none}
use Rattle.refining.proofs.Refinement.{going_less, going_works, going_done}
use Rattle.refining.proofs.improve.Goals as goal

-- a mask that is 0 has nobody
nobody : (n : ℕ) → n ≡ 0 → (j : ℕ) → bit n j ≡ false
nobody n q j = ap (λ (i : ℕ). bit i j) q ∙ bit_none j

pub returns-then-rivals-eq0 : goal.returns-then-rivals-eq0
returns-then-rivals-eq0 c = record {
  spares = c.requires.spares;
  works = λ first k from block after d g. going_done block d g (nobody _ c.if-rivals-eq0.true);
}

pub returns-then-able-eq0 : goal.returns-then-able-eq0
returns-then-able-eq0 c = record {
  spares = c.requires.spares;
  works = λ first k from block after d g. going_done block d (going_less block d after g c.candidates-able.ensures) (nobody _ c.if-able-eq0.true);
}

pub exchange-requires : goal.exchange-requires
exchange-requires c =
    let s = c.requires in
    let m = c.lowest-m.result in
    let here = c.lowest-m.ensures.inside in
    let rival = s.rivals m (c.candidates-able.ensures.sound m here) in
    record { size = s.size; end = s.end; once = s.once m rival.low; spares = s.spares; rival = rival; moves = c.candidates-able.ensures.moves m here }

pub returns : goal.returns
returns c =
    let rival = c.requires.rivals c.lowest-m.result (c.candidates-able.ensures.sound c.lowest-m.result c.lowest-m.ensures.inside) in
    record {
      spares = c.exchange.ensures.spares;
      works = λ first k from block after d g.
          going_works block d (going_less block d after g c.candidates-able.ensures) rival.below c.lowest-m.ensures.least (c.exchange.ensures.works first k from block after d);
    }
