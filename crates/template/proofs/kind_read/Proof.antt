-- `template::kind_read` meets its contract: each way that the test goes is a case of `cond`. Assumes nothing.
use mathlib.Core.Path.{sym, ap}
use mathlib.Core.Bool.{Bool, cond}
use Rattle.template.proofs.kind_read.Statement.{statement}
use Rattle.template.proofs.kind_read.Tie as tie

returns : tie.Need-returns-then-plain-kind
returns c = sym (ap (λ (b : Bool). cond b 0x14 c.args.kind) c.if-plain-kind.true)

returns_2 : tie.Need-returns-else-plain-kind
returns_2 c = sym (ap (λ (b : Bool). cond b 0x14 c.args.kind) c.if-plain-kind.false)

pub kind_read_spec : {M : Type 1} → statement M
kind_read_spec = tie.close (tie.spec returns returns_2)
