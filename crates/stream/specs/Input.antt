-- The parts of the input (docs/RULES.md, "The program": "a record 50, and then any number of records 40"). A record 50 has the length of the template in
-- two bytes, the low one first, and the template; a record 40 has n in a byte, and n records 01.
-- record_fault kind size s == the fault of the record of this kind, whose body ends at `size`, at the front of s: 3 missing bytes or
--                       4 a wrong kind, whichever comes first reading from the front; 0 for none
-- put_integer x o   == the integer x in front of the integers o
-- integers n s     == n records 01 at the front of s, and the bytes after them
-- list_fault s      == the fault of the record 40 at the front of s: 3, 4, 11 for n over 32; 0 for none
-- list_here s       == the list at the front of s, and the bytes after it; or its fault
-- template_size s   == the two-byte length at 1
-- after_template s  == the place after the template
-- template_in s     == the template's bytes
-- reached s        == the template's bytes and the bytes after it, where the template is accepted; or the refusal:
--                     2 over 65,536 bytes, 3 or 4 in reaching the template, else the template's own
-- Assumes nothing: these are definitions.
use Rattle.std.specs.Prelude.{cond, List, [], ◌∷◌, ℕ, zero, suc, ◌+◌, ◌*◌, ltb, eqb, length, get_or, take, drop, ℤ}
use Rattle.format.specs.declared.Family.{Family}
use Rattle.integers.specs.Integer.{int_at}
use Rattle.grammar.specs.Record.{kind_of}
use Rattle.grammar.specs.Read.{Read, refuse, got, or_refuse, refuse_or, verdict}
use Rattle.grammar.specs.Whole.{read_template}

unfoldable pub record_fault : ℕ → ℕ → List ℕ → ℕ
record_fault kind size s =
    cond (eqb (length s) 0) 3
    (cond (eqb (kind_of s) kind)
    (cond (ltb (length s) size) 3 0)
    4)

unfoldable pub put_integer : ℤ → Read (List ℤ) → Read (List ℤ)
put_integer x (refuse r) = refuse r
put_integer x (got xs s) = got (x ∷ xs) s

unfoldable pub integers : ℕ → List ℕ → Read (List ℤ)
integers zero s = got [] s
integers (suc n) s = refuse_or (record_fault 0x01 5 s) (put_integer (int_at s 1) (integers n (drop 5 s)))

unfoldable pub list_fault : List ℕ → ℕ
list_fault s =
    cond (eqb (record_fault 0x40 2 s) 0)
    (cond (ltb 32 (get_or s 1 0)) 11 0)
    (record_fault 0x40 2 s)

unfoldable pub list_here : List ℕ → Read (List ℤ)
list_here s = refuse_or (list_fault s) (integers (get_or s 1 0) (drop 2 s))

abbrev pub template_size : List ℕ → ℕ
template_size s = get_or s 1 0 + get_or s 2 0 * 256

abbrev pub after_template : List ℕ → ℕ
after_template s = 3 + template_size s

abbrev pub template_in : List ℕ → List ℕ
template_in s = take (template_size s) (drop 3 s)

unfoldable pub reached : List ℕ → Read (List ℕ)
reached s =
    or_refuse (ltb 65536 (length s)) 2
    (refuse_or (record_fault 0x50 3 s)
    (or_refuse (ltb (length s) (after_template s)) 3
    (refuse_or (verdict (read_template Family.Integers (template_in s)))
    (got (template_in s) (drop (after_template s) s)))))
