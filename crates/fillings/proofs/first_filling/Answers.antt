-- `first_filling`: with more elements than members there is none; else the first bytes of the first assignment with the pad.
use Rattle.std.proofs.Common.{refl, arith}
use Rattle.blocks.proofs.FirstLists.{none_best}
use Rattle.fillings.proofs.Fillings.{filling_crowded, filling_answer, fills_assigns}
use Rattle.fillings.proofs.first_filling.Goals as goal

pub returns-then-k-n : goal.returns-then-k-n
returns-then-k-n c = filling_crowded c.requires.1 c.if-k-n.true

pub returns-in_err-x : goal.returns-in_err-x
returns-in_err-x c =
    let a = c.in_err-x.ensures in
    rw c.from_residual.ensures (none_best refl (λ v g. a.none refl _ (fills_assigns c.padded-p.ensures c.requires.0 g)))

pub returns : goal.returns
returns c = filling_answer c.requires.0 c.if-k-n.false c.padded-p.ensures c.in_ok-x.ensures c.splice.ensures
