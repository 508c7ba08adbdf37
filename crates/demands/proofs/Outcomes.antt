-- Each number of the matcher, the judge and the normaliser with what it was given for. A number of the table is one of a few outcomes, each with
-- the rows that hold there, so that every "exactly where" is read off in both directions. Assumes nothing.
-- ListOutcome fam t xs Fit k r <-> what the matcher's or the judge's number r was given for; k is the number of the row between 11 and the scan
-- MatchOutcome fam t xs room r after <-> the same with the room: as it was with every number but 0, with the first witness in front with 0
-- NormalOutcome lo hi t room n l after <-> what the normaliser's number n was given for
use mathlib.Core.Path.{◌≡◌, refl, sym, ap, ◌∙◌, subst}
use mathlib.Core.Bool.{Bool, true, false, not, cond}
use mathlib.Core.List.{List, ◌++◌}
use mathlib.Core.Logic.{inl, inr}
use Prim.Native.Nat.{ℕ, ◌≤◌, ◌<◌}
use native.Mathlib.Omega.{arith}
use borrow.Author.Tests.{ltb-true, ltb-false, eqb-true, eqb-false}
use lib.Dec.{T, ltb, eqb}
use lib.ListN.{length, drop}
use lib.IntN.{ℤ}
use lib.Signed.{lt_z, ◌≤ℤ◌, lt_z_yes, lt_z_no}
use Rattle.facts.proofs.Cases.{by-test}
use Rattle.format.specs.declared.Family.{Family}
use Rattle.grammar.specs.Element.{Elem}
use Rattle.grammar.specs.Leaf.{Leaf, typed_head}
use Rattle.grammar.specs.Family.{LeafOf, ElementOf, ElementRowOf, RowOf}
use Rattle.grammar.specs.Reading.{read_element}
use Rattle.grammar.specs.Template.{Template}
use Rattle.grammar.specs.Whole.{read_template}
use Rattle.grammar.proofs.RefusalNumbers.{Cases, is_refused, is_read, read_cases, element_cases, template_row, element_row as alone-row, element_not_nine}
use Rattle.matching.specs.Obeys.{obeys}
use Rattle.matching.specs.Search.{Maybe, nothing, just, first_witness}
use Rattle.matching.specs.Answer.{given, or_refused, written, element_outside, match_read, match_answer, judge_read, judge_answer, Taken}
use Rattle.matching.proofs.Answers.{few_members_lem, match_two, match_eleven, match_twelve, judge_two, judge_eleven, judge_thirteen, reads, judges}
use Rattle.matching.proofs.FirstWitness.{first_witness_lem, obeys_size}
use Rattle.forms.specs.Form.{normal_form}
use Rattle.forms.specs.Answer.{answer, placed, read_under, answer_to, normalised}
use Rattle.demands.specs.NormalForms.{Accepted}
use Rattle.demands.specs.Claims.{Accepts, Refused, Inside, RefusedBy, by_length, by_bounds, by_scan}

pub data ListOutcome (fam : Family) (t : List ℕ) (xs : List (ElementOf fam)) (Fit : Type 0) (k r : ℕ) : Type 0 where
  too_long : 4096 < length t → r ≡ 2 → ListOutcome fam t xs Fit k r
  too_many : length t ≤ 4096 → 32 < length xs → r ≡ 11 → ListOutcome fam t xs Fit k r
  unfit : Taken t xs → (Fit → ⊥) → r ≡ k → ListOutcome fam t xs Fit k r
  rejected : Taken t xs → Fit → (n : ℕ) → Refused fam t n → RowOf fam n → 2 < n → r ≡ n → ListOutcome fam t xs Fit k r
  strange : Taken t xs → Fit → (s : Template (LeafOf fam)) → Accepts fam t s → element_outside fam s xs ≡ true → r ≡ 17 → ListOutcome fam t xs Fit k r
  decided : Taken t xs → Fit → (s : Template (LeafOf fam)) → Accepts fam t s → Inside fam s xs → r ≤ 1 → ListOutcome fam t xs Fit k r

pub data MatchOutcome (fam : Family) (t : List ℕ) (xs : List (ElementOf fam)) (room : List ℕ) (r : ℕ) (after : List ℕ) : Type 0 where
  left : after ≡ room → 0 < r → ListOutcome fam t xs (length xs ≤ length room) 12 r → MatchOutcome fam t xs room r after
  wrote : Taken t xs → length xs ≤ length room → (s : Template (LeafOf fam)) → Accepts fam t s → Inside fam s xs → (w : List ℕ) → length w ≡ length xs → r ≡ 0 → after ≡ w ++ drop (length xs) room
      → MatchOutcome fam t xs room r after

-- of the rows about the bytes of a template none is before 2, and none is 11, 12, 13 or 17
record Row (n : ℕ) : Type 0 where
  least : 2 ≤ n
  apart : 11 ≤ n → n ≤ 13 → ⊥
  own : n ≡ 17 → ⊥

element_row : (fam : Family) (n : ℕ) → ElementRowOf fam n → Row n
element_row Family.Integers n (inl row) = let most = row.1 in record { least = row.0; apart = λ p q. omega arith; own = λ z. omega arith }
element_row Family.Integers n (inr e) = record { least = omega arith; apart = λ p q. omega arith; own = λ z. omega arith }
element_row Family.Floats n (inl row) = let most = row.1 in record { least = row.0; apart = λ p q. omega arith; own = λ z. omega arith }
element_row Family.Floats n (inr e) = record { least = omega arith; apart = λ p q. omega arith; own = λ z. omega arith }

row_of : (fam : Family) (n : ℕ) → RowOf fam n → Row n
row_of fam n (inl row) = element_row fam n row
row_of fam n (inr e) = record { least = omega arith; apart = λ p q. omega arith; own = λ z. omega arith }

pub row_least : (fam : Family) (n : ℕ) → RowOf fam n → 2 ≤ n
row_least fam n row = (row_of fam n row).least

pub row_apart : (fam : Family) (n : ℕ) → RowOf fam n → 11 ≤ n → n ≤ 13 → ⊥
row_apart fam n row = (row_of fam n row).apart

pub row_own : (fam : Family) (n : ℕ) → RowOf fam n → n ≡ 17 → ⊥
row_own fam n row = (row_of fam n row).own

-- where the template is short enough, its own refusal is not 2
own_row : (fam : Family) (t : List ℕ) (n : ℕ) → length t ≤ 4096 → Refused fam t n → 2 < n
own_row fam t n h q =
    let row = template_row fam t n q in
    by-test (eqb n 2) (λ e. let z = row.long (eqb-true n 2 e) in absurd (omega arith)) (λ e. let z = eqb-false n 2 e in let p = row_least fam n row.row in omega arith)

pub match_outcome : (fam : Family) (t : List ℕ) (xs : List (ElementOf fam)) (room : List ℕ) (r : ℕ) (after : List ℕ) → match_answer fam t xs room ≡ given r after → MatchOutcome fam t xs room r after
unfolding match_read written
match_outcome fam t xs room r after h =
    by-test (ltb 4096 (length t))
    (λ e. let a = ltb-true 4096 (length t) e in stays 2 (match_two fam t xs room a) (omega arith) (λ z. too_long a z))
    (λ e. let a : length t ≤ 4096 = ltb-false 4096 (length t) e in by-test (ltb 32 (length xs))
    (λ f. let b = ltb-true 32 (length xs) f in stays 11 (match_eleven fam t xs room a b) (omega arith) (λ z. too_many a b z))
    (λ f. let b : length xs ≤ 32 = ltb-false 32 (length xs) f in by-test (ltb (length room) (length xs))
    (λ g. let d : length room < length xs = ltb-true (length room) (length xs) g in stays 12 (match_twelve fam t xs room (a, b) d) (omega arith) (λ z. unfit (a, b) (λ l. omega arith) z))
    (λ g. let d : length xs ≤ length room = ltb-false (length room) (length xs) g in scanned (a, b) d (read_cases fam t))))
  where
    stays : (n : ℕ) → match_answer fam t xs room ≡ given n room → 0 < n → (r ≡ n → ListOutcome fam t xs (length xs ≤ length room) 12 r) → MatchOutcome fam t xs room r after
    stays n q p o = let e : given r after ≡ given n room = sym h ∙ q in let z : r ≡ n = cc in left (cc) (omega arith) (o z)

    found : Taken t xs → length xs ≤ length room → (s : Template (LeafOf fam)) → Accepts fam t s → Inside fam s xs → (m : Maybe) → first_witness fam s xs ≡ m → match_answer fam t xs room ≡ written m room → MatchOutcome fam t xs room r after
    found k l s q i nothing e u = stays 1 u (omega arith) (λ z. decided k l s q i (omega arith))
    found k l s q i (just w) e u =
        let size = obeys_size fam s xs w (first_witness_lem fam s xs w (few_members_lem fam t s q) e).holds in
        let v : given r after ≡ given 0 (w ++ drop (length xs) room) = sym h ∙ u ∙ ap (λ d. given 0 (w ++ drop d room)) size in
        wrote k l s q i w size (cc) (cc)

    typed : Taken t xs → length xs ≤ length room → (s : Template (LeafOf fam)) → Accepts fam t s → (outside : Bool) → element_outside fam s xs ≡ outside
        → match_answer fam t xs room ≡ or_refused outside 17 room (written (first_witness fam s xs) room) → MatchOutcome fam t xs room r after
    typed k l s q true i u = stays 17 u (omega arith) (λ z. strange k l s q i z)
    typed k l s q false i u = found k l s q i (first_witness fam s xs) refl u

    scanned : Taken t xs → length xs ≤ length room → Cases (read_template fam t) → MatchOutcome fam t xs room r after
    scanned k l (is_refused n e p) = stays n (reads fam t xs room k l ∙ ap (λ o. match_read fam o xs room) e) p (λ z. rejected k l n e (template_row fam t n e).row (own_row fam t n k.0 e) z)
    scanned k l (is_read s e) = typed k l s e (element_outside fam s xs) refl (reads fam t xs room k l ∙ ap (λ o. match_read fam o xs room) e)

pub judge_outcome : (fam : Family) (t : List ℕ) (xs : List (ElementOf fam)) (w : List ℕ) (r : ℕ) → judge_answer fam t xs w ≡ r → ListOutcome fam t xs (length w ≡ length xs) 13 r
unfolding judge_read
judge_outcome fam t xs w r h =
    by-test (ltb 4096 (length t))
    (λ e. let a = ltb-true 4096 (length t) e in too_long a (sym h ∙ judge_two fam t xs w a))
    (λ e. let a : length t ≤ 4096 = ltb-false 4096 (length t) e in by-test (ltb 32 (length xs))
    (λ f. let b = ltb-true 32 (length xs) f in too_many a b (sym h ∙ judge_eleven fam t xs w a b))
    (λ f. let b : length xs ≤ 32 = ltb-false 32 (length xs) f in by-test (eqb (length w) (length xs))
    (λ g. scanned (a, b) (eqb-true (length w) (length xs) g) (read_cases fam t))
    (λ g. let d = eqb-false (length w) (length xs) g in unfit (a, b) d (sym h ∙ judge_thirteen fam t xs w (a, b) d))))
  where
    low : (b : Bool) → r ≡ cond b 0 1 → r ≤ 1
    low true e = omega (arith, e)
    low false e = omega (arith, e)

    typed : Taken t xs → length w ≡ length xs → (s : Template (LeafOf fam)) → Accepts fam t s → (outside : Bool) → element_outside fam s xs ≡ outside → r ≡ cond outside 17 (cond (obeys fam s xs w) 0 1)
        → ListOutcome fam t xs (length w ≡ length xs) 13 r
    typed k l s q true i e = strange k l s q i e
    typed k l s q false i e = decided k l s q i (low (obeys fam s xs w) e)

    scanned : Taken t xs → length w ≡ length xs → Cases (read_template fam t) → ListOutcome fam t xs (length w ≡ length xs) 13 r
    scanned k l (is_refused n e p) = rejected k l n e (template_row fam t n e).row (own_row fam t n k.0 e) (sym h ∙ judges fam t xs w k l ∙ ap (λ o. judge_read fam o xs w) e)
    scanned k l (is_read s e) = typed k l s e (element_outside fam s xs) refl (sym h ∙ judges fam t xs w k l ∙ ap (λ o. judge_read fam o xs w) e)

-- ---- the normaliser

pub in_order_lem : (lo hi : ℤ) → lt_z hi lo ≡ false → lo ≤ℤ hi
in_order_lem lo hi e = lt_z_no (subst T (sym (ap not e)) tt)

pub data NormalOutcome (lo hi : ℤ) (t room : List ℕ) (n l : ℕ) (after : List ℕ) : Type 0 where
  declined : (r : ℕ) → RefusedBy lo hi t r → ElementRowOf Family.Integers r → (r ≡ 9 → ⊥) → n ≡ r → l ≡ 0 → after ≡ room → NormalOutcome lo hi t room n l after
  room_short : lo ≤ℤ hi → (e : Elem Leaf) → Accepted lo hi t e → length room < length (normal_form lo hi e) → n ≡ 12 → l ≡ 0 → after ≡ room → NormalOutcome lo hi t room n l after
  formed : lo ≤ℤ hi → (e : Elem Leaf) → Accepted lo hi t e → length (normal_form lo hi e) ≤ length room → n ≡ 0 → l ≡ length (normal_form lo hi e) → after ≡ normal_form lo hi e ++ drop l room
      → NormalOutcome lo hi t room n l after

pub normal_outcome : (lo hi : ℤ) (t room : List ℕ) (n l : ℕ) (after : List ℕ) → normalised lo hi t room ≡ answer n l after → NormalOutcome lo hi t room n l after
unfolding normalised read_under answer_to placed
normal_outcome lo hi t room n l after h =
    by-test (ltb 4096 (length t))
    (λ a. let e : answer n l after ≡ answer 2 0 room = sym h ∙ rw a in declined 2 (by_length (ltb-true 4096 (length t) a) refl) (inl (omega arith, omega arith)) (λ z. omega arith) (cc) (cc) (cc))
    (λ a. by-test (lt_z hi lo)
    (λ b. let e : answer n l after ≡ answer 6 0 room = sym h ∙ rw (a, b) in declined 6 (by_bounds (ltb-false 4096 (length t) a) (lt_z_yes (subst T (sym b) tt)) refl) (inl (omega arith, omega arith)) (λ z. omega arith) (cc) (cc) (cc))
    (λ b. let e : normalised lo hi t room ≡ answer_to lo hi (read_element (typed_head lo hi) t) room = rw (a, b) in scanned (ltb-false 4096 (length t) a) (in_order_lem lo hi b) (sym h ∙ e) (element_cases lo hi t)))
  where
    scanned : length t ≤ 4096 → lo ≤ℤ hi → answer n l after ≡ answer_to lo hi (read_element (typed_head lo hi) t) room → Cases (read_element (typed_head lo hi) t) → NormalOutcome lo hi t room n l after
    scanned a b d (is_refused r q p) =
        let e : answer n l after ≡ answer r 0 room = d ∙ ap (λ o. answer_to lo hi o room) q in
        declined r (by_scan a b q) (alone-row lo hi t r q).row (element_not_nine lo hi t r q) (cc) (cc) (cc)
    scanned a b d (is_read e q) =
        by-test (ltb (length room) (length (normal_form lo hi e)))
        (λ f. let g : answer n l after ≡ answer 12 0 room = d ∙ ap (λ o. answer_to lo hi o room) q ∙ rw f in room_short b e q (ltb-true (length room) (length (normal_form lo hi e)) f) (cc) (cc) (cc))
        (λ f. let g : answer n l after ≡ answer 0 (length (normal_form lo hi e)) (normal_form lo hi e ++ drop (length (normal_form lo hi e)) room) = d ∙ ap (λ o. answer_to lo hi o room) q ∙ rw f in
        let z : l ≡ length (normal_form lo hi e) = cc in
        formed b e q (ltb-false (length room) (length (normal_form lo hi e)) f) (cc) z (rw z (cc)))
