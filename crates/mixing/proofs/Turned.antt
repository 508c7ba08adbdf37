-- What a form leaves out: its ranges as they are, or their gaps; and what two leave out. Assumes nothing.
use mathlib.Core.Path.{◌≡◌, refl}
use mathlib.Core.Bool.{Bool, true, false}
use mathlib.Core.List.{List, [], ◌++◌}
use Prim.Native.Nat.{ℕ, ◌≤◌}
use lib.IntN.{ℤ}
use lib.ListN.{length}
use Rattle.facts.proofs.Cases.{clash}
use Rattle.ranges.specs.Spans.{Span, Ascending, Proper, gaps}
use Rattle.ranges.specs.Shown.{view, Became}
use Rattle.ranges.proofs.JoinsAndGaps.{proper_of, proper_append, ascending_gaps, ascending_joined}
use Rattle.ranges.proofs.Views.{became}
use Rattle.mixing.specs.Mixing.{gaps_unless, not_in_both}

pub ascending_unless : (o : Bool) (rs : List Span) → Ascending rs → Ascending (gaps_unless o rs)
ascending_unless true rs f = f
ascending_unless false rs f = ascending_gaps rs f

module _ (los his : List ℤ) (n : ℕ) where
  pub as_they_are : (o : Bool) → o ≡ true → n ≤ length los → n ≤ length his → Became los his los his n (gaps_unless o (view n los his))
  as_they_are true e p q = became los his los his n _ refl refl p q refl
  as_they_are false e p q = absurd (clash e refl)

  pub as_gaps : (o : Bool) (los' his' : List ℤ) (r : ℕ) → o ≡ false → Became los his los' his' r (gaps (view n los his)) → Became los his los' his' r (gaps_unless o (view n los his))
  as_gaps true los' his' r e b = absurd (clash refl e)
  as_gaps false los' his' r e b = b

-- what two leave out

module _ (o₁ : Bool) (rs : List Span) (o₂ : Bool) (ss : List Span) (f : Ascending rs) (g : Ascending ss) where
  pub proper_both : Proper (gaps_unless o₁ rs ++ gaps_unless o₂ ss)
  proper_both =
      proper_append (gaps_unless o₁ rs) (gaps_unless o₂ ss)
      (proper_of (gaps_unless o₁ rs) (ascending_unless o₁ rs f)) (proper_of (gaps_unless o₂ ss) (ascending_unless o₂ ss g))

  pub ascending_not_in_both : Ascending (not_in_both o₁ rs o₂ ss)
  ascending_not_in_both = ascending_joined (gaps_unless o₁ rs ++ gaps_unless o₂ ss) [] proper_both tt
