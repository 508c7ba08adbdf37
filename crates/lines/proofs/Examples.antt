-- Lines of the program, computed on the definition. Assumes nothing.
use mathlib.Core.Path.{◌≡◌, refl}
use mathlib.Core.List.{[], ◌∷◌}
use Rattle.lines.specs.Line.{digits_by, decimal, space_then, spaced, line}

-- the first line of the example in docs/RULES.md, "The program", "1 0 2 0 1": one space between two numbers
one_space_between : line 1 (0 ∷ 2 ∷ 0 ∷ 1 ∷ []) ≡ 49 ∷ 32 ∷ 48 ∷ 32 ∷ 50 ∷ 32 ∷ 48 ∷ 32 ∷ 49 ∷ 10 ∷ []
unfolding digits_by decimal space_then spaced line
one_space_between = refl

-- "10 255 9": the first digit first, no zero in front
first_digit_first : line 10 (255 ∷ 9 ∷ []) ≡ 49 ∷ 48 ∷ 32 ∷ 50 ∷ 53 ∷ 53 ∷ 32 ∷ 57 ∷ 10 ∷ []
unfolding digits_by decimal space_then spaced line
first_digit_first = refl
