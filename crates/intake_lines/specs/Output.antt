-- The whole output (docs/RULES.md, "The program": "the list's number from 1, the answer, the count of elements, the
-- bytes of the witness in decimal").
-- Turn             == what one turn prints: the last bytes, or some bytes, with the input that is left
-- empty_room        == the room that a list's witness is written into: 32 zero bytes
-- answered k n g   == the line of the list number k with n elements, for which the matcher gives g: the witness only on a match. A list with an
--                     element outside the type prints `k 17 n`, and the next list follows
-- list_line t k xs  == the line of the list xs, number k, for the template t
-- turned t k o     == the turn of the list number k that was read as o: a fault in reading it prints `k R 0` and ends
-- turn t k s       == the turn at the bytes s, where the list number k is next: nothing is printed where they have ended
-- follow u f       == what the turn u prints, then what f prints for the input that is left
-- lines_by f t k s  == the lines of the lists in s, the first of which has the number k, with f turns allowed
-- lines_from t k s  == the lines of the lists in s, the first of which has the number k
-- started o        == what is printed where the template was reached as o: a fault prints `0 R 0` and ends
-- output s         == what the program prints for the input s
-- Assumes nothing: these are definitions.
use Rattle.std.specs.Prelude.{cond, List, [], ◌∷◌, ◌++◌, ℕ, zero, suc, ◌+◌, eqb, length, take, replicate, ℤ}
use Rattle.format.specs.declared.Family.{Family}
use Rattle.grammar.specs.Read.{Read, refuse, got}
use Rattle.matching.specs.Answer.{Given, given, match_answer}
use Rattle.lines.specs.Line.{line}
use Rattle.stream.specs.Input.{list_here, reached}

pub data Turn : Type 0 where
  stop : List ℕ → Turn
  go : List ℕ → List ℕ → Turn

abbrev pub empty_room : List ℕ
empty_room = replicate 32 0

unfoldable pub answered : ℕ → ℕ → Given → List ℕ
answered k n (given zero w) = line k (0 ∷ n ∷ take n w)
answered k n (given (suc r) w) = line k (suc r ∷ n ∷ [])

unfoldable pub list_line : List ℕ → ℕ → List ℤ → List ℕ
list_line t k xs = answered k (length xs) (match_answer Family.Integers t xs empty_room)

unfoldable pub turned : List ℕ → ℕ → Read (List ℤ) → Turn
turned t k (refuse r) = stop (line k (r ∷ 0 ∷ []))
turned t k (got xs s) = go (list_line t k xs) s

unfoldable pub turn : List ℕ → ℕ → List ℕ → Turn
turn t k s = cond (eqb (length s) 0) (stop []) (turned t k (list_here s))

unfoldable pub follow : Turn → (List ℕ → List ℕ) → List ℕ
follow (stop l) f = l
follow (go l s) f = l ++ f s

unfoldable pub lines_by : ℕ → List ℕ → ℕ → List ℕ → List ℕ
lines_by zero t k s = []
lines_by (suc f) t k s = follow (turn t k s) (lines_by f t (k + 1))

-- a list has at least two bytes, so there are no more turns than bytes
unfoldable pub lines_from : List ℕ → ℕ → List ℕ → List ℕ
lines_from t k s = lines_by (length s) t k s

unfoldable pub started : Read (List ℕ) → List ℕ
started (refuse r) = line 0 (r ∷ 0 ∷ [])
started (got t s) = lines_from t 1 s

unfoldable pub output : List ℕ → List ℕ
output s = started (reached s)
