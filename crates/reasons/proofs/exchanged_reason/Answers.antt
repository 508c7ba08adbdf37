-- `exchanged_reason`: the columns, read as rows, are the same pairs with members and elements exchanged.
use Rattle.std.proofs.Common.{sym, ◌∙◌, arith}
use Rattle.facts.proofs.Spans.{between_in}
use Rattle.rows.proofs.Rows.{row_may, row_picks, turned_says}
use Rattle.reasons.proofs.Groups.{given_agree}
use Rattle.reasons.proofs.exchanged_reason.Goals as goal

pub returns : goal.returns
returns c =
    let cols = c.turned-columns.result in
    given_agree
    (λ e m l h. sym (row_may cols e m) ∙ row_picks cols m e ∙ turned_says c.turned-columns.ensures m e (between_in 0 _ m (omega arith) (omega arith)) (between_in 0 _ e (omega arith) (omega arith)))
    c.reason.ensures
