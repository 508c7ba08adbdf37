-- `padded`: the rows of the elements in front, the others full.
use Rattle.std.proofs.Common.{rules}
use Rattle.fillings.proofs.Fillings.{padded_copied}
use Rattle.fillings.proofs.pad.padded.Goals as goal

pub returns : goal.returns
returns c = padded_copied c.args.rows.now _ c.span-r.result c.requires.0 (search rules) c.copy_from_slice.ensures.after c.span-r.ensures
