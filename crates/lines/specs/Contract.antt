-- What the functions say. A place is an index into the bytes; what stands there is `drop place bytes`.
-- placed p bs o       == o with the bytes bs at the place p
-- LineFits number count o <-> the number has at most five digits, the list at most 32 elements, and the buffer o 256 bytes: no line is longer
-- Wrote l before after wrote <-> the bytes l were put in front of the lent buffer, and nothing else changed; `wrote` says how many
-- Assumes nothing: these are definitions.
use Rattle.std.specs.Prelude.{◌≡◌, List, ◌++◌, ℕ, ◌+◌, ◌≤◌, ◌<◌, length, take, drop}

unfoldable pub placed : ℕ → List ℕ → List ℕ → List ℕ
placed p bs o = take p o ++ (bs ++ drop (p + length bs) o)

pub record LineFits (number count : ℕ) (o : List ℕ) : Type 0 where
  pub number_short : number < 100000
  pub count_short : count ≤ 32
  pub room : 256 ≤ length o

pub record Wrote (l before after : List ℕ) (wrote : ℕ) : Type 0 where
  pub bytes : after ≡ l ++ drop (length l) before
  pub count : wrote ≡ length l
