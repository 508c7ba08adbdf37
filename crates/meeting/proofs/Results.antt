-- The form of what leaves out given ranges. Assumes nothing.
use mathlib.Core.Path.{◌≡◌, sym}
use mathlib.Core.Bool.{Bool}
use mathlib.Core.List.{List}
use Prim.Native.Nat.{ℕ, ◌≤◌, ◌<◌}
use lib.IntN.{ℤ}
use lib.ListN.{length}
use borrow.Author.Tests.{lt-ltb, le-ltb}
use Rattle.ranges.specs.Spans.{Span, cut_to}
use Rattle.forms.specs.Answer.{answer, placed}
use Rattle.forms.specs.Form.{side_form}
use Rattle.mixing.specs.Mixing.{gaps_unless}
use Rattle.meeting.specs.Contract.{written_from}

module _ (lo hi : ℤ) (o : Bool) (us : List Span) (room : List ℕ) (cs : List Span) (e : cs ≡ cut_to lo hi (gaps_unless o us)) where
  pub written_over : 64 < length cs → answer 8 0 room ≡ written_from lo hi o us room
  written_over h = rw (sym e, lt-ltb 64 (length cs) h)

  pub written_form : length cs ≤ 64 → placed (side_form o cs) room ≡ written_from lo hi o us room
  written_form h = rw (sym e, le-ltb 64 (length cs) h)
