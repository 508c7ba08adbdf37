-- How long a list's line is, by the bytes of the list: with a number of at most five digits no more than five times as long. Assumes nothing.
use mathlib.Core.Path.{◌≡◌, refl, sym, ap, ◌∙◌}
use mathlib.Core.Bool.{Bool, true, false, not, ◌&&◌, ◌||◌}
use mathlib.Core.List.{List, [], ◌∷◌, ◌++◌}
use mathlib.Core.Logic.{⊎_elim}
use Prim.Native.Nat.{ℕ, zero, suc, ◌+◌, ◌*◌, ◌≤◌, ◌<◌}
use native.Mathlib.Omega.{arith}
use borrow.Author.Tests.{eqb-true, ltb-false}
use lib.Dec.{eqb, ltb}
use lib.ListN.{length, take, drop, length-append, length-take, length-drop}
use lib.Seq.{take_at}
use lib.IntN.{ℤ}
use Rattle.facts.proofs.Cases.{and_left, and_right, one_of}
use Rattle.format.specs.declared.Family.{Family}
use Rattle.grammar.specs.Element.{Elem}
use Rattle.grammar.specs.Family.{some_outside}
use Rattle.grammar.specs.Leaf.{Leaf}
use Rattle.grammar.specs.Matches.{matches}
use Rattle.grammar.specs.Members.{member_hits}
use Rattle.grammar.specs.Read.{Read, got, or_refuse, refuse_or, verdict}
use Rattle.grammar.specs.Template.{Template, template, plainly, members_of}
use Rattle.grammar.specs.Whole.{read_template}
use Rattle.grammar.proofs.MemberLimit.{accepted_few, accepted_short}
use Rattle.grammar.proofs.ReadApart.{clash}
use Rattle.grammar.proofs.RefusalNumbers.{Cases, is_refused, is_read, read_cases}
use Rattle.grammar.proofs.Members.{hits_low}
use Rattle.matching.specs.Answer.{given, or_refused, written, is_whole, element_outside, match_read, match_answer}
use Rattle.matching.specs.Obeys.{spare, right_bytes, none_twice, body_met, length_met, obeys_by, obeys}
use Rattle.matching.specs.Search.{Maybe, nothing, just, first_witness}
use Rattle.matching.proofs.Answers.{few_members_lem, reads}
use Rattle.matching.proofs.FirstWitness.{first_witness_lem, obeys_size}
use Rattle.lines.specs.Line.{decimal, space_then, spaced, line}
use Rattle.lines.proofs.Lines.{byte_next, few_next, digit_next, count_next, line_length}
use Rattle.stream.specs.Input.{record_fault, template_size, after_template, template_in, reached}
use Rattle.stream.proofs.Rests.{list_read}
use Rattle.intake_lines.specs.Output.{empty_room, answered, list_line, go, turn}
use Rattle.rendering.proofs.Steps.{turn_went}

-- ---- where the template is reached

pub record Reached (s t r : List ℕ) : Type 0 where
  pub short : length s ≤ 65536
  pub parts : length r + 3 + length t ≤ length s
  pub accepted : verdict (read_template Family.Integers t) ≡ 0

pub reached_inv : (s t r : List ℕ) → reached s ≡ got t r → Reached s t r
unfolding reached
reached_inv s t r e = by_length_lem (ltb 65536 (length s)) refl e
  where
    number : ℕ
    number = verdict (read_template Family.Integers (template_in s))

    whole : Read (List ℕ)
    whole = got (template_in s) (drop (after_template s) s)

    by_number : length s ≤ 65536 → after_template s ≤ length s → (n : ℕ) → number ≡ n → refuse_or n whole ≡ got t r → Reached s t r
    by_number short fits (suc n) f q = absurd (clash q)
    by_number short fits zero f q =
        let template_same : template_in s ≡ t = cc in
        let rest_same : drop (after_template s) s ≡ r = cc in
        let t_size = sym (ap length template_same) ∙ length-take (template_size s) (drop 3 s) in
        let r_size = sym (ap length rest_same) ∙ length-drop (after_template s) s in
        record {
          short = short;
          parts = omega arith;
          accepted = ap (λ (b : List ℕ). verdict (read_template Family.Integers b)) (sym template_same) ∙ f;
        }

    by_end : length s ≤ 65536 → (b : Bool) → ltb (length s) (after_template s) ≡ b → or_refuse b 3 (refuse_or number whole) ≡ got t r → Reached s t r
    by_end short true f q = absurd (clash q)
    by_end short false f q = by_number short (ltb-false (length s) (after_template s) f) number refl q

    by_record : length s ≤ 65536 → (n : ℕ) → refuse_or n (or_refuse (ltb (length s) (after_template s)) 3 (refuse_or number whole)) ≡ got t r → Reached s t r
    by_record short (suc n) q = absurd (clash q)
    by_record short zero q = by_end short (ltb (length s) (after_template s)) refl q

    by_length_lem : (b : Bool) → ltb 65536 (length s) ≡ b → or_refuse b 2 (refuse_or (record_fault 0x50 3 s) (or_refuse (ltb (length s) (after_template s)) 3 (refuse_or number whole))) ≡ got t r → Reached s t r
    by_length_lem true f q = absurd (clash q)
    by_length_lem false f q = by_record (ltb-false 65536 (length s) f) (record_fault 0x50 3 s) q

-- ---- the bytes of a witness

right_size : (es : List (Elem Leaf)) (xs : List ℤ) (w : List ℕ) → length es ≤ 32 → right_bytes matches es xs w ≡ true → length (spaced w) ≤ 4 * length w
unfolding right_bytes spaced
right_size es [] [] few h = omega arith
right_size es [] (b ∷ w) few h = absurd (mathlib.Core.Bool.true≢false (sym h))
right_size es (x ∷ xs) [] few h = absurd (mathlib.Core.Bool.true≢false (sym h))
right_size es (x ∷ xs) (b ∷ w) few h =
    let here = one_of (eqb b spare) (member_hits matches es b x) (and_left (eqb b spare || member_hits matches es b x) (right_bytes matches es xs w) h) in
    let small : b < 256 = ⊎_elim (λ (s : eqb b spare ≡ true). let q = eqb-true b spare s in omega arith) (λ (s : member_hits matches es b x ≡ true). let q = hits_low matches es b x s in omega arith) here in
    let ih = right_size es xs w few (and_right (eqb b spare || member_hits matches es b x) (right_bytes matches es xs w) h) in
    let first = byte_next b small in
    let l = length-append (space_then b) (spaced w) in
    omega arith

obeys_bytes : (t : List ℕ) (s : Template Leaf) (xs : List ℤ) (w : List ℕ) → read_template Family.Integers t ≡ got s [] → obeys Family.Integers s xs w ≡ true → length (spaced w) ≤ 4 * length w
unfolding obeys_by
obeys_bytes t (template h b) xs w q o =
    right_size (members_of b) xs w (accepted_few Family.Integers t h b q)
    (and_left (right_bytes matches (members_of b) xs w) ((plainly h b || none_twice (length (members_of b)) w) && (body_met b w && length_met h.length (length xs))) o)

-- ---- the line of a list

module _ (k n : ℕ) (few : n ≤ 32) where
  matched_size : (w : List ℕ) → length w ≡ n → length (spaced w) ≤ 4 * length w → length (answered k n (given 0 (w ++ drop (length w) empty_room))) ≤ length (decimal k) + 5 + 5 * n
  unfolding answered
  matched_size w l small =
      let front : take n (w ++ drop (length w) empty_room) ≡ w = take_at w (drop (length w) empty_room) n l in
      let size = ap (λ (v : List ℕ). length (line k (0 ∷ n ∷ v))) front ∙ line_length k 0 n w in
      let answer = digit_next 0 (omega arith) in
      let count = count_next n few in
      omega arith

  unmatched_size : (room : List ℕ) → length (answered k n (given 1 room)) ≤ length (decimal k) + 5 + 5 * n
  unfolding answered spaced
  unmatched_size room =
      let size = line_length k 1 n [] in
      let answer = digit_next 1 (omega arith) in
      let count = count_next n few in
      omega arith

  -- a list with an element outside the type has one
  outside_size : (room : List ℕ) → 0 < n → length (answered k n (given 17 room)) ≤ length (decimal k) + 5 + 5 * n
  unfolding answered spaced
  outside_size room some =
      let size = line_length k 17 n [] in
      let answer = few_next 17 (omega arith) in
      let count = few_next n few in
      omega arith

someone : (s : Template Leaf) (xs : List ℤ) → element_outside Family.Integers s xs ≡ true → 0 < length xs
unfolding element_outside some_outside
someone (template h b) [] e = absurd (mathlib.Core.Bool.true≢false (sym (and_right (not (is_whole h.lower h.upper)) false e)))
someone (template h b) (x ∷ xs) e = omega arith

pub list_line_size : (t : List ℕ) (k : ℕ) (xs : List ℤ) → verdict (read_template Family.Integers t) ≡ 0 → length xs ≤ 32 → length (list_line t k xs) ≤ length (decimal k) + 5 + 5 * length xs
unfolding verdict list_line match_read written
list_line_size t k xs accepted few = by_reading (read_cases Family.Integers t)
  where
    by_witness : (s : Template Leaf) → read_template Family.Integers t ≡ got s [] → (m : Maybe) → first_witness Family.Integers s xs ≡ m
        → length (answered k (length xs) (written m empty_room)) ≤ length (decimal k) + 5 + 5 * length xs
    by_witness s q nothing e = unmatched_size k (length xs) few empty_room
    by_witness s q (just w) e =
        let holds = (first_witness_lem Family.Integers s xs w (few_members_lem Family.Integers t s q) e).holds in
        matched_size k (length xs) few w (obeys_size Family.Integers s xs w holds) (obeys_bytes t s xs w q holds)

    by_type : (s : Template Leaf) → read_template Family.Integers t ≡ got s [] → (outside : Bool) → element_outside Family.Integers s xs ≡ outside
        → length (answered k (length xs) (or_refused outside 17 empty_room (written (first_witness Family.Integers s xs) empty_room))) ≤ length (decimal k) + 5 + 5 * length xs
    by_type s q true e = outside_size k (length xs) few empty_room (someone s xs e)
    by_type s q false e = by_witness s q (first_witness Family.Integers s xs) refl

    by_reading : Cases (read_template Family.Integers t) → length (answered k (length xs) (match_answer Family.Integers t xs empty_room)) ≤ length (decimal k) + 5 + 5 * length xs
    by_reading (is_refused r q more) = let z = sym accepted ∙ ap verdict q in absurd (omega arith)
    by_reading (is_read s q) =
        let answer : match_answer Family.Integers t xs empty_room ≡ or_refused (element_outside Family.Integers s xs) 17 empty_room (written (first_witness Family.Integers s xs) empty_room) = reads Family.Integers t xs empty_room (accepted_short Family.Integers t s q, few) few ∙ ap (λ o. match_read Family.Integers o xs empty_room) q in
        rw answer (by_type s q (element_outside Family.Integers s xs) refl)

-- ---- a turn

pub turn_size : (t : List ℕ) (k : ℕ) (s l s' : List ℕ) → verdict (read_template Family.Integers t) ≡ 0 → length (decimal k) ≤ 5 → turn t k s ≡ go l s' → length l + 5 * length s' ≤ 5 * length s
turn_size t k s l s' accepted short e =
    let w = turn_went t k s l s' e in
    let r = list_read s w.xs s' w.list in
    let rest = r.rest in
    let size = list_line_size t k w.xs accepted r.few in
    let same = ap length w.prints in
    omega arith
