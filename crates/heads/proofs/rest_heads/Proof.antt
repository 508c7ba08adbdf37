-- `heads::rest_heads` meets its contract: the length attribute, then the type. Assumes nothing.
use mathlib.Core.Path.{sym, ◌∙◌}
use Rattle.grammar.specs.Whole.{rest_here}
use Rattle.heads.proofs.HeadRecords.{type_none, type_never, heads_inside, heads_stop, heads_go, heads_end, by_types}
use borrow.Author.Rules.{rules}
use Rattle.heads.proofs.rest_heads.Statement.{statement}
use Rattle.heads.proofs.rest_heads.Tie as tie

length_head_requires : tie.Need-length_head-g-requires
length_head_requires c κs = search rules

returns : tie.Need-returns-then-g-ne-DONE
unfolding rest_here
returns c = λ a said. heads_stop _ (c.length_head-g.ensures _ a said) c.if-g-ne-DONE.true

kind_at_requires : tie.Need-kind_at-requires
kind_at_requires c κs = search rules

returns_2 : tie.Need-returns-then-kind_at-ne-TYPE
unfolding rest_here
returns_2 c =
    let read = c.before.before in
    let s = read.before.before.before.before in
    λ a said. heads_end _ (read.length_head-g.ensures _ a said) read.if-g-ne-DONE.false (λ h. type_none s.args.family h s.args.t.now read.length_head-g.result.next _ c.kind_at.ensures c.if-kind_at-ne-TYPE.true)

has_types_requires : tie.Need-has_types-requires
has_types_requires c κs = search rules

type_head_requires : tie.Need-type_head-requires
type_head_requires c κs =
    let read = c.before.before.before.before in
    let s = read.before.before.before.before in
    (heads_inside (read.length_head-g.ensures s.requires.family s.requires.read s.requires.said) read.if-g-ne-DONE.false, s.requires.short, sym c.kind_at.ensures ∙ c.if-kind_at-ne-TYPE.false)

returns_3 : tie.Need-returns-then-has_types
unfolding rest_here
returns_3 c =
    let read = c.before.before.before.before.before in
    let s = read.before.before.before.before in
    λ a said. heads_go _ (read.length_head-g.ensures _ a said) read.if-g-ne-DONE.false (by_types s.args.family (sym c.has_types.ensures ∙ c.if-has_types.true) _ _ _ c.type_head.ensures)

returns_4 : tie.Need-returns
unfolding rest_here
returns_4 c =
    let read = c.before.before.before.before in
    let s = read.before.before.before.before in
    λ a said. heads_end _ (read.length_head-g.ensures _ a said) read.if-g-ne-DONE.false (λ h. type_never s.args.family h s.args.t.now read.length_head-g.result.next _ c.kind_at.ensures (sym c.has_types.ensures ∙ c.if-has_types.false))

pub rest_heads_spec : {M : Type 1} → statement M
rest_heads_spec =
    tie.close
    (tie.spec
    length_head_requires
    returns
    kind_at_requires
    returns_2
    has_types_requires
    type_head_requires
    returns_3
    returns_4)
