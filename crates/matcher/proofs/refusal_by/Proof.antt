-- `matcher::refusal_by` meets its contract. Assumes nothing.
use mathlib.Core.Path.{sym, ap, ◌∙◌}
use mathlib.Core.Bool.{Bool, cond}
use borrow.Author.Rules.{rules}
use Rattle.matcher.proofs.Inside.{refusal_plain, refusal_typed}
use Rattle.matcher.proofs.refusal_by.Statement.{statement}
use Rattle.matcher.proofs.refusal_by.Tie as tie

returns : tie.Need-returns-then-own-sort
returns c = let a = c.args in refusal_plain a.own a.sort a.list.now c.if-own-sort.true

some_outside_requires : tie.Need-some_outside-requires
some_outside_requires c κs = search rules

returns_2 : tie.Need-returns-then-some_outside
returns_2 c =
    let read = c.before.before in
    let a = read.args in
    sym (ap (λ (b : Bool). cond b 17 0) c.if-some_outside.true) ∙ refusal_typed a.own a.sort a.list.now _ read.if-own-sort.false c.some_outside.ensures

returns_3 : tie.Need-returns
returns_3 c =
    let read = c.before.before in
    let a = read.args in
    sym (ap (λ (b : Bool). cond b 17 0) c.if-some_outside.false) ∙ refusal_typed a.own a.sort a.list.now _ read.if-own-sort.false c.some_outside.ensures

pub refusal_by_spec : {M : Type 1} → statement M
refusal_by_spec = tie.close (tie.spec returns some_outside_requires returns_2 returns_3)
