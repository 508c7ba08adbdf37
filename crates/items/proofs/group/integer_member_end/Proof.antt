-- `items::group::integer_member_end` meets its contract. Assumes nothing.
use mathlib.Core.Path.{refl}
use Rattle.sorts.specs.Sorts.{whole}
use Rattle.elements.proofs.TypedRecords.{sort_whole}
use borrow.Author.Rules.{rules}
use Rattle.items.proofs.group.integer_member_end.Statement.{statement}
use Rattle.items.proofs.group.integer_member_end.Tie as tie

integer_head_end_requires : tie.Need-integer_head_end-end-requires
integer_head_end_requires c κs = search rules

numbered_end_requires : tie.Need-numbered_end-requires
numbered_end_requires c κs =
    let s = c.before.before.before in
    (s.requires.0, sort_whole s.args.t.now s.args.at _ whole refl c.before.integer_head_end-end.ensures, s.requires.1)

returns : tie.Need-returns
returns c = search rules

pub integer_member_end_spec : {M : Type 1} → statement M
integer_member_end_spec =
    tie.close (tie.spec integer_head_end_requires numbered_end_requires returns)
