-- `forms::unmatched_length` meets its contract: by whether there is a range, as the definition. Assumes nothing.
use mathlib.Core.Path.{◌≡◌, sym, ap, ◌∙◌}
use mathlib.Core.List.{List}
use Prim.Native.Nat.{ℕ, ◌+◌}
use native.Mathlib.Omega.{arith}
use lib.ListN.{length}
use borrow.Author.Rules.{rules}
use Rattle.ranges.specs.Shown.{view}
use Rattle.ranges.specs.Spans.{Span}
use Rattle.ranges.proofs.Views.{length_view}
use Rattle.forms.proofs.Lengths.{records_length_most}
use Rattle.forms.proofs.Records.{view_none, unmatched_none, unmatched_some, not_none}
use Rattle.forms.proofs.unmatched_length.Statement.{statement}
use Rattle.forms.proofs.unmatched_length.Tie as tie

-- as many ranges as are counted
abbrev all : tie.Start → List Span
all c = view c.args.n c.args.lo.now c.args.hi.now

size : (c : tie.Start) → length (all c) ≡ c.args.n
size c = length_view _ _ _ c.requires.1 c.requires.2

returns : tie.Need-returns-then-n-eq0
returns c =
    let s = c.before in
    sym (unmatched_none (all s) (view_none _ _ _ c.if-n-eq0.true)).0

records_length_requires : tie.Need-records_length-requires
records_length_requires c κs = search rules

add_result : tie.Need-overflow_add-result
add_result c =
    let s = c.before.before in
    omega (arith, c.records_length.ensures, records_length_most (all s), size s)

returns_2 : tie.Need-returns
returns_2 c =
    let s = c.before.before in
    ap (λ (n : ℕ). 2 + n) c.records_length.ensures ∙ sym (unmatched_some (all s) (not_none s.args.n _ (size s) c.before.if-n-eq0.false)).0

pub unmatched_length_spec : {M : Type 1} → statement M
unmatched_length_spec = tie.close (tie.spec returns records_length_requires add_result returns_2)
