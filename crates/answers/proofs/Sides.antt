-- A form in a room, and the side that a form is written from. Assumes nothing.
use mathlib.Core.Path.{◌≡◌}
use mathlib.Core.Bool.{true, false}
use mathlib.Core.List.{List, ◌++◌}
use Prim.Native.Nat.{ℕ, ◌≤◌, ◌<◌}
use lib.IntN.{ℤ}
use lib.ListN.{length, drop}
use borrow.Author.Tests.{lt-ltb, le-ltb}
use Rattle.ranges.specs.Spans.{Span, holds, gaps, cut_to}
use Rattle.forms.specs.Answer.{answer, placed}
use Rattle.forms.specs.Form.{matched_form, unmatched_form, form}

-- ---- a form in a room

module _ (f room : List ℕ) (n : ℕ) (size : length f ≡ n) where
  pub placed_short : length room < n → answer 12 0 room ≡ placed f room
  unfolding placed
  placed_short h = rw (size, lt-ltb (length room) n h)

  pub placed_whole : (after : List ℕ) → n ≤ length room → after ≡ f ++ drop n room → answer 0 n after ≡ placed f room
  unfolding placed
  placed_whole after h e = rw (size, le-ltb (length room) n h, e)

-- ---- the form of a set

module _ (lo hi : ℤ) (rs cs : List Span) where
  pub form_matched : cs ≡ cut_to lo hi rs → holds rs lo ≡ false → matched_form cs ≡ form lo hi rs
  unfolding form
  form_matched c h = rw (h, c)

  pub form_unmatched : (gs : List Span) → gs ≡ gaps rs → cs ≡ cut_to lo hi gs → holds rs lo ≡ true → unmatched_form cs ≡ form lo hi rs
  unfolding form
  form_unmatched gs g c h = rw (h, c, g)
