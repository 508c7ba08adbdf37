-- The normaliser of document 01, which knew no type: its elements are all 32-bit integers. With the least and the greatest integer the normaliser gives the same
-- answers (`WholeType` of proofs).
-- whole_form rs     == the form of the set whose maximal ranges are rs
-- whole_answer o room == the answer to an input that reads as o
-- normalised_whole t room == the answer to the template bytes t and the room
-- Assumes nothing: these are definitions.
use Rattle.std.specs.Prelude.{ℕ, cond, List}
use Rattle.integers.specs.Integer.{least}
use Rattle.grammar.specs.Element.{Elem}
use Rattle.grammar.specs.Leaf.{Leaf, leaf_head}
use Rattle.grammar.specs.Read.{Read, refuse, got}
use Rattle.grammar.specs.Reading.{read_element}
use Rattle.ranges.specs.Spans.{Span, holds, gaps}
use Rattle.forms.specs.Matched.{ranges_of}
use Rattle.forms.specs.Form.{matched_form, unmatched_form}
use Rattle.forms.specs.Answer.{Answer, answer, placed}

unfoldable pub whole_form : List Span → List ℕ
whole_form rs = cond (holds rs least) (unmatched_form (gaps rs)) (matched_form rs)

unfoldable pub whole_answer : Read (Elem Leaf) → List ℕ → Answer
whole_answer (refuse r) room = answer r 0 room
whole_answer (got e rest) room = placed (whole_form (ranges_of e)) room

unfoldable pub normalised_whole : List ℕ → List ℕ → Answer
normalised_whole t room = whole_answer (read_element leaf_head t) room
