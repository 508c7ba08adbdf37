-- `mark_group` meets its contract: the members of the group are among the members. Assumes nothing.
use mathlib.Core.Path.{refl}
use native.Mathlib.Omega.{arith}
use Rattle.grammar.proofs.Families.{lent_size}
use Rattle.records.proofs.Blocks.{members_fewer, group_joined}
use borrow.Author.Rules.{rules}
use Rattle.records.proofs.mark_group.Statement.{statement}
use Rattle.records.proofs.mark_group.Tie as tie

cast_first : tie.Need-overflow_cast-first
cast_first c = search rules

cast_mark_members : tie.Need-overflow_cast-b
cast_mark_members c = search rules

add_mark_members : tie.Need-overflow_add-first
add_mark_members c = search rules

mark_members_requires : tie.Need-mark_members-requires
mark_members_requires c κs =
    let p = c.requires in
    let served = p.0 in (
      p.2,
      record { family = served.family; placed = members_fewer _ _ _ _ _ p.3 served.placed; lent = served.lent; few = served.few },
      omega arith,
      p.1,
    )

returns : tie.Need-returns
returns c fam lent es s =
    let p = c.requires in
    group_joined fam _ _ _ _ p.3 es s _ _ _ _ _ (lent_size fam _ _ lent) refl (c.mark_members.ensures fam lent)

pub mark_group_spec : {M : Type 1} → statement M
mark_group_spec =
    tie.close
    (tie.spec cast_first cast_mark_members add_mark_members mark_members_requires returns)
