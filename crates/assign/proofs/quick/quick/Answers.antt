-- `quick`: the least member that is free makes the list no later.
use Rattle.std.proofs.Common.{◌≡◌, ℕ, ◌+◌, ◌≤◌, List, get_or, sym, ◌∙◌, arith}
use mathlib.Core.Path.{subst₂}
use Rattle.masks.specs.Masks.{bit}
use Rattle.rows.specs.Rows.{may}
use Rattle.facts.proofs.Cases.{clash, both}
use Rattle.masks.proofs.Masks.{and_bits, and_none, bit_and_lem}
use Rattle.rows.proofs.Rows.{row_may}
use Rattle.assign.proofs.LeastFree.{GreedyTo, greedy_start, greedy_none, greedy_some, greedy_rest}
use Rattle.assign.proofs.quick.quick.Goals as goal
use Rattle.assign.proofs.quick.quick.Goals.{then-free-ne0, else-free-ne0}

pub loop-e-init : goal.loop-e-init
loop-e-init c = let p = c.requires in greedy_start p.0 p.1 p.2 c.span-left.ensures

pub returns-then-left-eq0 : goal.returns-then-left-eq0
returns-then-left-eq0 c = let p = c.requires in greedy_rest p.0 c.loop-e.auto.e (c.loop-e.auto.e-end p.1) p.2 c.if-left-eq0.true c.loop-e.invariant

pub loop-e-preserved : goal.loop-e-preserved
loop-e-preserved c =
    let a = c.args in
    let p = c.requires in
    let i = c.loop-e.invariant in
    let e = c.loop-e.e in
    let after = c.loop-e.auto.e in
    let rows = a.rows.now in
    let row = get_or rows e 0 in
    let left = c.loop-e.left in
    let again : List ℕ → ℕ → Type 0 = λ w left. GreedyTo (may rows) a.first a.k a.from a.to w (bit left) (e + 1) in
    elim c.if-free-ne0.branch [
      | then-free-ne0 w ↦
          let low = w.lowest-m.ensures in
          let bits = and_bits row left w.lowest-m.result low.inside in
          subst₂ again (sym w.w-is) (sym w.left-is) (greedy_some i p.0 after (omega arith) p.2 bits.1 (sym (row_may rows w.lowest-m.result e) ∙ bits.0)
          (λ j z f o. clash (bit_and_lem row left j ∙ both (bit row j) (bit left j) (row_may rows j e ∙ o) f) (low.least j z)) w.flip-left.ensures)
      | else-free-ne0 w ↦ subst₂ again (sym w.w-is) (sym w.left-is) (greedy_none i p.0 after (omega arith) p.2
          (λ m f o. and_none row left m w.if-free-ne0.false (row_may rows m e ∙ o) f))
    ]

pub returns : goal.returns
returns c =
    let g = c.loop-e.invariant.greedy in
    let done : c.loop-e.e ≡ c.args.to = omega (arith, c.loop-e.auto.e-end c.requires.1) in
    rw done at g
