-- `forms::put_unmatched` meets its contract: by whether there is a range, as the definition. Assumes nothing.
use mathlib.Core.Path.{◌≡◌, ap, ◌∙◌}
use mathlib.Core.List.{List, [], ◌∷◌}
use Prim.Native.Nat.{ℕ, ◌+◌, ◌<◌}
use native.Mathlib.Omega.{arith}
use lib.ListN.{length, set}
use borrow.Author.Rules.{rules}
use Rattle.ranges.specs.Shown.{view}
use Rattle.ranges.specs.Spans.{Span}
use Rattle.ranges.proofs.Views.{length_view}
use Rattle.forms.specs.Form.{records, unmatched_form, records_length, unmatched_length}
use Rattle.facts.proofs.Puts.{Put, put_none, put_byte}
use Rattle.forms.proofs.Records.{view_none, unmatched_none, unmatched_some, form_put, not_none}
use Rattle.forms.proofs.put_unmatched.Statement.{statement}
use Rattle.forms.proofs.put_unmatched.Tie as tie

module _ (c : tie.Start) where
  abbrev n : ℕ
  n = c.args.n

  abbrev s : List Span
  s = view n c.args.lo.now c.args.hi.now

  -- as many ranges as are counted
  size : length s ≡ n
  size = length_view _ _ _ c.requires.0.1 c.requires.0.2

  none_there : n ≡ 0 → s ≡ []
  none_there e = view_none _ _ _ e

  some_there : (n ≡ 0 → ⊥) → (unmatched_length s ≡ 2 + records_length s) × (unmatched_form s ≡ 0x05 ∷ n ∷ records s)
  some_there z =
      let m = unmatched_some s (not_none n (length s) size z) in
      (m.0, m.1 ∙ ap (λ (m : ℕ). 0x05 ∷ m ∷ records s) size)

  one_byte : 0 < length c.args.out.now → Put c.args.out.now (set c.args.out.now 0 0x03) (0x03 ∷ []) 1
  one_byte h = put_byte c.args.out.now c.args.out.now [] 0 (put_none c.args.out.now) 0x03 h

room_there : (c : tie.Then-n-eq0) → 0 < length c.before.before.args.out.now
room_there c =
    let u = c.before.before in
    omega (arith, u.requires.1, (unmatched_none (s u) (none_there u c.if-n-eq0.true)).0)

slice_write_out : tie.Need-bounds-out-0
slice_write_out c = room_there c

put_group_requires : tie.Need-put_group-requires
put_group_requires c κs =
    let u = c.before.before.before in
    (u.requires.0, omega (arith, u.requires.1, (some_there u c.before.if-n-eq0.false).0))

same_length : tie.Need-shape_of-out-then-n-eq0
same_length c = search rules

returns : tie.Need-returns-then-n-eq0
returns c =
    let u = c.before.before in
    let m = unmatched_none (s u) (none_there u c.if-n-eq0.true) in
    form_put _ u.args.out.now _ _ _ _ m.1 m.0 (one_byte u (room_there c)).is

same_length_2 : tie.Need-shape_of-out-else-n-eq0
same_length_2 c = search rules

returns_2 : tie.Need-returns-else-n-eq0
returns_2 c =
    let u = c.before.before.before.before.before.before in
    let m = some_there u c.before.before.before.before.if-n-eq0.false in
    form_put _ u.args.out.now _ _ _ _ m.1 m.0 c.before.before.put_group.ensures

pub put_unmatched_spec : {M : Type 1} → statement M
put_unmatched_spec =
    tie.close
    (tie.spec slice_write_out put_group_requires same_length returns same_length_2 returns_2)
