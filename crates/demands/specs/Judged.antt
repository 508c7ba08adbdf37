-- The judged examples that are marked P in `examples/judged.txt`, as one table under one statement: list rows and normal-form rows alike.
-- Row         == what is given and what must come out: a template and a list of integers, the number and the room afterwards; or an element template and
--                the bytes of its normal form
-- gives g n after == the answer g is the number n and the room `after`
-- forms g bytes == the answer g is 0, the length of the normal form `bytes`, and the room of 600 bytes with these in front, all others 165
-- comes_out row == the definitions give what the row says. The room of a list is a byte longer than the list, that of a form 600 bytes, all 165; a form is that
--                of all 32-bit integers
-- all_come_out rows == every row is so
-- judged      == the table
-- Assumes nothing: these are definitions.
use Rattle.std.specs.Prelude.{List, [], ◌∷◌, ◌++◌, Bool, true, ◌&&◌, ℕ, suc, ◌-◌, eqb, length, replicate, ℤ, pos}
use Rattle.format.specs.declared.Family.{Family}
use Rattle.integers.specs.Integer.{least, greatest}
use Rattle.facts.specs.SameLists.{same_bytes}
use Rattle.matching.specs.Answer.{Given, given, match_answer}
use Rattle.forms.specs.Answer.{Answer, answer, normalised}

pub data Row : Type 0 where
  on_list : List ℕ → List ℤ → ℕ → List ℕ → Row
  of_form : List ℕ → List ℕ → Row

unfoldable pub gives : Given → ℕ → List ℕ → Bool
gives (given r room) n after = eqb r n && same_bytes room after

unfoldable pub forms : Answer → List ℕ → Bool
forms (answer n l room) bytes = eqb n 0 && (eqb l (length bytes) && same_bytes room (bytes ++ replicate (600 - length bytes) 165))

unfoldable pub comes_out : Row → Bool
comes_out (on_list t xs n after) = gives (match_answer Family.Integers t xs (replicate (suc (length xs)) 165)) n after
comes_out (of_form t bytes) = forms (normalised least greatest t (replicate 600 165)) bytes

unfoldable pub all_come_out : List Row → Bool
all_come_out [] = true
all_come_out (row ∷ rows) = comes_out row && all_come_out rows

unfoldable pub judged : List Row
judged =
    on_list (16 ∷ 2 ∷ 33 ∷ 3 ∷ 1 ∷ 1 ∷ 0 ∷ 0 ∷ 0 ∷ 1 ∷ 2 ∷ 0 ∷ 0 ∷ 0 ∷ 1 ∷ 3 ∷ 0 ∷ 0 ∷ 0 ∷ 1 ∷ 5 ∷ 0 ∷ 0 ∷ 0 ∷ []) (pos 2 ∷ pos 3 ∷ pos 1 ∷ pos 5 ∷ []) 0 (1 ∷ 2 ∷ 0 ∷ 3 ∷ 165 ∷ []) ∷  -- {permutation(1,2,3),5} on 2,3,1,5
    on_list (16 ∷ 2 ∷ 33 ∷ 3 ∷ 1 ∷ 1 ∷ 0 ∷ 0 ∷ 0 ∷ 1 ∷ 2 ∷ 0 ∷ 0 ∷ 0 ∷ 1 ∷ 3 ∷ 0 ∷ 0 ∷ 0 ∷ 1 ∷ 5 ∷ 0 ∷ 0 ∷ 0 ∷ []) (pos 1 ∷ pos 2 ∷ pos 2 ∷ pos 5 ∷ []) 1 (165 ∷ 165 ∷ 165 ∷ 165 ∷ 165 ∷ []) ∷  -- the same on 1,2,2,5
    on_list (16 ∷ 2 ∷ 33 ∷ 3 ∷ 1 ∷ 1 ∷ 0 ∷ 0 ∷ 0 ∷ 1 ∷ 2 ∷ 0 ∷ 0 ∷ 0 ∷ 32 ∷ 0 ∷ 255 ∷ 1 ∷ 5 ∷ 0 ∷ 0 ∷ 0 ∷ []) (pos 9 ∷ pos 2 ∷ pos 1 ∷ pos 5 ∷ []) 0 (255 ∷ 1 ∷ 0 ∷ 2 ∷ 165 ∷ []) ∷  -- {permutation(1,2,*),5} on 9,2,1,5
    on_list (16 ∷ 3 ∷ 32 ∷ 0 ∷ 255 ∷ 1 ∷ 1 ∷ 0 ∷ 0 ∷ 0 ∷ 32 ∷ 0 ∷ 255 ∷ []) (pos 1 ∷ pos 1 ∷ []) 0 (0 ∷ 255 ∷ 165 ∷ []) ∷  -- {*,1,*} on 1,1
    on_list (19 ∷ 3 ∷ 1 ∷ 1 ∷ 0 ∷ 0 ∷ 0 ∷ 1 ∷ 2 ∷ 0 ∷ 0 ∷ 0 ∷ 1 ∷ 3 ∷ 0 ∷ 0 ∷ 0 ∷ []) (pos 3 ∷ pos 1 ∷ []) 0 (2 ∷ 0 ∷ 165 ∷ []) ∷  -- subset(1,2,3) on 3,1
    on_list (19 ∷ 3 ∷ 1 ∷ 1 ∷ 0 ∷ 0 ∷ 0 ∷ 1 ∷ 2 ∷ 0 ∷ 0 ∷ 0 ∷ 1 ∷ 3 ∷ 0 ∷ 0 ∷ 0 ∷ []) (pos 1 ∷ pos 1 ∷ []) 1 (165 ∷ 165 ∷ 165 ∷ []) ∷  -- subset(1,2,3) on 1,1
    on_list (18 ∷ 3 ∷ 1 ∷ 1 ∷ 0 ∷ 0 ∷ 0 ∷ 1 ∷ 2 ∷ 0 ∷ 0 ∷ 0 ∷ 3 ∷ []) (pos 1 ∷ pos 2 ∷ []) 1 (165 ∷ 165 ∷ 165 ∷ []) ∷  -- superset(1,2,?) on 1,2
    on_list (18 ∷ 3 ∷ 1 ∷ 1 ∷ 0 ∷ 0 ∷ 0 ∷ 1 ∷ 2 ∷ 0 ∷ 0 ∷ 0 ∷ 3 ∷ []) (pos 2 ∷ pos 2 ∷ pos 1 ∷ []) 0 (1 ∷ 2 ∷ 0 ∷ 165 ∷ []) ∷  -- superset(1,2,?) on 2,2,1
    on_list (17 ∷ 2 ∷ 3 ∷ 1 ∷ 1 ∷ 0 ∷ 0 ∷ 0 ∷ []) (pos 1 ∷ pos 5 ∷ []) 0 (1 ∷ 0 ∷ 165 ∷ []) ∷  -- set of {?,1} on 1,5
    on_list (16 ∷ 1 ∷ 5 ∷ 1 ∷ 5 ∷ 1 ∷ 1 ∷ 5 ∷ 0 ∷ 0 ∷ 0 ∷ []) (pos 5 ∷ []) 0 (0 ∷ 165 ∷ []) ∷  -- {complement(complement(5))} on 5
    on_list (16 ∷ 0 ∷ []) ([]) 0 (165 ∷ []) ∷  -- {} on the empty list
    of_form (4 ∷ 3 ∷ 1 ∷ 3 ∷ 0 ∷ 0 ∷ 0 ∷ 1 ∷ 1 ∷ 0 ∷ 0 ∷ 0 ∷ 1 ∷ 2 ∷ 0 ∷ 0 ∷ 0 ∷ []) (2 ∷ 1 ∷ 0 ∷ 0 ∷ 0 ∷ 3 ∷ 0 ∷ 0 ∷ 0 ∷ []) ∷  -- normal form of (3,1,2)
    of_form (1 ∷ 0 ∷ 0 ∷ 0 ∷ 128 ∷ []) (5 ∷ 1 ∷ 2 ∷ 1 ∷ 0 ∷ 0 ∷ 128 ∷ 255 ∷ 255 ∷ 255 ∷ 127 ∷ []) ∷  -- normal form of −2147483648
    []
