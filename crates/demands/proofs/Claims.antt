-- The demands, the table of judged examples and the other claims, proved: each number of a call has its outcome (`Outcomes`), and each field of a
-- demand is read off it; what stands in the room after a 0 by the laws of `matching` and `NormalForms`. Assumes nothing.
use mathlib.Core.Path.{◌≡◌, refl, sym, ap, subst, ◌∙◌}
use mathlib.Core.Bool.{true}
use mathlib.Core.List.{List, [], ◌++◌}
use mathlib.Core.Logic.{◌⊎◌, inl, inr}
use Prim.Native.Nat.{ℕ, ◌≤◌, ◌<◌}
use native.Mathlib.Omega.{arith}
use lib.ListN.{length, take, drop}
use lib.Seq.{take_at}
use lib.IntN.{ℤ}
use lib.Signed.{◌≤ℤ◌, clash_ℤ}
use Rattle.integers.specs.Integer.{least, greatest, signed, int_at, int_bytes}
use Rattle.facts.specs.Counting.{between, cnt}
use Rattle.facts.proofs.Cases.{by-test, clash}
use Rattle.format.specs.declared.Family.{Family}
use Rattle.byte_order.specs.ByteOrder.{First as FirstOf}
use Rattle.blocks.specs.Assignment.{all_once}
use Rattle.grammar.specs.Element.{Elem}
use Rattle.grammar.specs.Leaf.{Leaf, single_head, range_head, leaf_head, reaches, of_type, typed_head}
use Rattle.grammar.specs.Family.{LeafOf, ElementOf, ElementRowOf, RowOf, some_outside}
use Rattle.grammar.specs.Template.{Template, plainly, members_of_group, members_of_item, members_of_items, members_of}
use Rattle.grammar.specs.Record.{count_fault, bounds_fault, group_head, head}
use Rattle.grammar.specs.Read.{Read, refuse, got, ended, map_read, and_then}
use Rattle.grammar.specs.Reading.{uncounted, put_first, then_more, many, closed, too_deep, opened, elem, read_element}
use Rattle.grammar.specs.Whole.{star_here, numbered, put_member, then_members, then_star, put_item, then_items, clashes, member, members, permutation_here, item, items, contents, body_here, sheet_here, length_here, type_here, rest_here, heads_here, template_here, read_template}
use Rattle.grammar.proofs.RefusalNumbers.{Cases, is_refused, is_read, read_cases, element_cases, template_row, element_row, element_not_nine}
use Rattle.grammar.specs.Matches.{matches_by, leaf_matches}
use Rattle.grammar.specs.Members.{member_hits}
use Rattle.matching.specs.Obeys.{right_bytes, none_twice, all_spare, within_block, star_met, group_takes, item_takes, some_cut, cuts, body_met, length_met, obeys_by, obeys, Obeys}
use Rattle.matching.specs.Search.{Maybe, nothing, just, put, or_else, try_each, first_of, from, members_count, first_witness}
use Rattle.matching.specs.Answer.{given, written, element_outside, match_read, match_answer, Taken}
use Rattle.matching.proofs.Answers.{few_members_lem, matched_where, unmatched_where, judged_where}
use Rattle.matching.proofs.FirstWitness.{first_witness_lem, none_witness, obeys_size}
use Rattle.ranges.specs.Spans.{join_all, join, gaps, gaps_from, cut_to}
use Rattle.forms.specs.Matched.{ranges_of}
use Rattle.forms.specs.Form.{record_of, records, matched_form, unmatched_form, form, normal_form}
use Rattle.forms.specs.Answer.{answer, placed, read_under, answer_to, normalised}
use Rattle.forms.proofs.Accepts.{read_inv, typed_facts}
use Rattle.facts.specs.SameLists.{same_bytes}
use Rattle.demands.specs.Judged.{gives, forms, comes_out, all_come_out, judged}
use Rattle.demands.specs.NormalForms.{Accepted}
use Rattle.demands.specs.Calls.{MatchCall, JudgeCall, NormalCall}
use Rattle.demands.specs.Claims.{Accepts, Refused, Inside, RefusedBy, by_length, by_bounds, by_scan, Kept, ListRows, MatchGiven, JudgeGiven, NormalGiven, MatchedExactly, JudgedExactly, IsType, FormCall, FormOf, MaximalRanges, First, Second, Third, EveryInput, WholeType, JudgeAgrees, SomeIsMatched, AsJudged}
use Rattle.demands.proofs.Calls.{match_answer_lem, judge_answer_lem, normal_answer, match_called, judge_called, normal_called}
use Rattle.demands.proofs.NormalForms.{Side, side_of, accepted_side, ascending_in, inside_in, right_in, widest_of, length_normal_form, form_placed, same_integers_same_form, same_form_same_integers, form_of_form, one_element}
use Rattle.demands.proofs.WholeType as whole-type
use Rattle.demands.proofs.Outcomes.{ListOutcome, too_long, too_many, unfit, rejected, strange, decided, MatchOutcome, left, wrote, row_least, row_apart, row_own, match_outcome, judge_outcome, NormalOutcome, declined, room_short, formed, normal_outcome}

-- ---- demand 1: the rows of the table that matcher and judge share

number_same : {A : Type 0} (o : Read A) (n m : ℕ) → o ≡ refuse n → o ≡ refuse m → n ≡ m
number_same o n m p q = cc

not_both : {A : Type 0} (o : Read A) (n : ℕ) (a : A) → o ≡ refuse n → o ≡ got a [] → ⊥
not_both o n a p q = let z : ◌≡◌ {A = ℕ} 0 1 = cc in omega arith

-- one template is accepted, so its list is not both outside the type and inside it
apart : (fam : Family) (t : List ℕ) (xs : List (ElementOf fam)) (s s' : Template (LeafOf fam)) → Accepts fam t s → Accepts fam t s' → element_outside fam s xs ≡ true → Inside fam s' xs → ⊥
apart fam t xs s s' q q' o i = let same : s ≡ s' = cc in clash o (ap (λ (s : Template (LeafOf fam)). element_outside fam s xs) same ∙ i)

module _ (fam : Family) (t : List ℕ) (xs : List (ElementOf fam)) (Fit : Type 0) (k r : ℕ) (least : 12 ≤ k) (most : k ≤ 13) where
  list_rows : ListOutcome fam t xs Fit k r → ListRows fam t xs Fit r
  list_rows (too_long a z) = record {
    two = (λ _. a, λ _. z);
    eleven = (λ e. absurd (omega arith), λ b. absurd (omega arith));
    refused = λ n p q. (λ e. absurd (omega arith), λ b. absurd (omega arith));
    seventeen = (λ e. absurd (omega arith), λ b. absurd (omega arith));
    answered = (λ e. absurd (omega arith), λ b. absurd (omega arith));
  }
  list_rows (too_many a b z) = record {
    two = (λ e. absurd (omega arith), λ c. absurd (omega arith));
    eleven = (λ _. (a, b), λ _. z);
    refused = λ n p q. (λ e. absurd (row_apart fam n p (omega arith) (omega arith)), λ c. absurd (omega arith));
    seventeen = (λ e. absurd (omega arith), λ c. absurd (omega arith));
    answered = (λ e. absurd (omega arith), λ c. absurd (omega arith));
  }
  list_rows (unfit taken f z) = record {
    two = (λ e. absurd (omega arith), λ c. absurd (omega arith));
    eleven = (λ e. absurd (omega arith), λ c. absurd (omega arith));
    refused = λ n p q. (λ e. absurd (row_apart fam n p (omega arith) (omega arith)), λ c. absurd (f c.1));
    seventeen = (λ e. absurd (omega arith), λ c. absurd (f c.1));
    answered = (λ e. absurd (omega arith), λ c. absurd (f c.1));
  }
  list_rows (rejected taken f m refusal row above z) = record {
    two = (λ e. absurd (omega arith), λ c. absurd (omega arith));
    eleven = (λ e. absurd (row_apart fam m row (omega arith) (omega arith)), λ c. absurd (omega arith));
    refused = λ n p q. (
      λ e. (taken, f, subst (Refused fam t) (sym z ∙ e) refusal),
      λ c. z ∙ number_same (read_template fam t) m n refusal c.2,
    );
    seventeen = (λ e. absurd (row_own fam m row (omega arith)), λ c. absurd (not_both (read_template fam t) m c.2.0 refusal c.2.1));
    answered = (λ e. absurd (omega arith), λ c. absurd (not_both (read_template fam t) m c.2.0 refusal c.2.1));
  }
  list_rows (strange taken f s accepted outside z) = record {
    two = (λ e. absurd (omega arith), λ c. absurd (omega arith));
    eleven = (λ e. absurd (omega arith), λ c. absurd (omega arith));
    refused = λ n p q. (λ e. absurd (row_own fam n p (omega arith)), λ c. absurd (not_both (read_template fam t) n s c.2 accepted));
    seventeen = (λ _. (taken, f, (s, accepted, outside)), λ _. z);
    answered = (λ e. absurd (omega arith), λ c. absurd (apart fam t xs s c.2.0 accepted c.2.1 outside c.2.2));
  }
  list_rows (decided taken f s accepted inside small) = record {
    two = (λ e. absurd (omega arith), λ c. absurd (omega arith));
    eleven = (λ e. absurd (omega arith), λ c. absurd (omega arith));
    refused = λ n p q. (λ e. absurd (omega arith), λ c. absurd (not_both (read_template fam t) n s c.2 accepted));
    seventeen = (λ e. absurd (omega arith), λ c. absurd (apart fam t xs c.2.0 s c.2.1 accepted c.2.2 inside));
    answered = (λ _. (taken, f, (s, accepted, inside)), λ _. small);
  }

-- the number of the row between 11 and the scan
module _ (fam : Family) (t : List ℕ) (xs : List (ElementOf fam)) (Fit : Type 0) (k r : ℕ) (least : 12 ≤ k) (most : k ≤ 13) where
  between_row : ListOutcome fam t xs Fit k r → (r ≡ k → Taken t xs × (Fit → ⊥)) × (Taken t xs → (Fit → ⊥) → r ≡ k)
  between_row (too_long a z) = (λ e. absurd (omega arith), λ c f. absurd (omega arith))
  between_row (too_many a b z) = (λ e. absurd (omega arith), λ c f. absurd (omega arith))
  between_row (unfit taken f z) = (λ _. (taken, f), λ _ _. z)
  between_row (rejected taken f m refusal row above z) = (λ e. absurd (row_apart fam m row (omega arith) (omega arith)), λ c g. absurd (g f))
  between_row (strange taken f s accepted outside z) = (λ e. absurd (omega arith), λ c g. absurd (g f))
  between_row (decided taken f s accepted inside small) = (λ e. absurd (omega arith), λ c g. absurd (g f))

  list_numbers : ListOutcome fam t xs Fit k r → (r ≡ k) ⊎ ((r ≤ 11) ⊎ (RowOf fam r ⊎ (r ≡ 17)))
  list_numbers (too_long a z) = inr (inl (omega arith))
  list_numbers (too_many a b z) = inr (inl (omega arith))
  list_numbers (unfit taken f z) = inl z
  list_numbers (rejected taken f m refusal row above z) = inr (inr (inl (subst (RowOf fam) (sym z) row)))
  list_numbers (strange taken f s accepted outside z) = inr (inr (inr z))
  list_numbers (decided taken f s accepted inside small) = inr (inl (omega arith))

-- ---- demand 1: the entry points

module _ (fam : Family) (t : List ℕ) (xs : List (ElementOf fam)) (room : List ℕ) (r : ℕ) (after : List ℕ) where
  list_outcome : MatchOutcome fam t xs room r after → ListOutcome fam t xs (length xs ≤ length room) 12 r
  list_outcome (left e p o) = o
  list_outcome (wrote k l s q i w z e a) = decided k l s q i (omega arith)

  match_given : MatchCall fam t xs room r after → MatchGiven fam t xs room r after
  match_given c =
      let o = match_outcome fam t xs room r after (match_answer_lem fam t xs room r after c) in
      let u = list_outcome o in
      let b = between_row fam t xs (length xs ≤ length room) 12 r (omega arith) (omega arith) u in
      record {
        rows = list_rows fam t xs (length xs ≤ length room) 12 r (omega arith) (omega arith) u;
        twelve = (λ e. ((b.0 e).0, short (b.0 e).1), λ p. b.1 p.0 (λ l. long p.1 l));
        numbers = up_to_twelve (list_numbers fam t xs (length xs ≤ length room) 12 r (omega arith) (omega arith) u);
        written = λ z. kept z o;
        untouched = λ n. same n o;
      }
    where
      short : (length xs ≤ length room → ⊥) → length room < length xs
      short n = omega (arith, n)

      long : length room < length xs → length xs ≤ length room → ⊥
      long p l = omega arith

      up_to_twelve : (r ≡ 12) ⊎ ((r ≤ 11) ⊎ (RowOf fam r ⊎ (r ≡ 17))) → (r ≤ 12) ⊎ (RowOf fam r ⊎ (r ≡ 17))
      up_to_twelve (inl z) = inl (omega arith)
      up_to_twelve (inr (inl z)) = inl (omega arith)
      up_to_twelve (inr (inr row)) = inr row

      kept : r ≡ 0 → MatchOutcome fam t xs room r after → Kept room after (length xs)
      kept z (left e p o) = absurd (omega arith)
      kept z (wrote k l s q i w size e a) = record { bytes = w; count = size; rest = a }

      same : (r ≡ 0 → ⊥) → MatchOutcome fam t xs room r after → after ≡ room
      same n (left e p o) = e
      same n (wrote k l s q i w size e a) = absurd (n e)

module _ (fam : Family) (t : List ℕ) (xs : List (ElementOf fam)) (w : List ℕ) (r : ℕ) where
  judge_given : JudgeCall fam t xs w r → JudgeGiven fam t xs w r
  judge_given c =
      let u = judge_outcome fam t xs w r (judge_answer_lem fam t xs w r c) in
      let b = between_row fam t xs (length w ≡ length xs) 13 r (omega arith) (omega arith) u in
      let n = list_numbers fam t xs (length w ≡ length xs) 13 r (omega arith) (omega arith) u in
      record {
        rows = list_rows fam t xs (length w ≡ length xs) 13 r (omega arith) (omega arith) u;
        thirteen = (b.0, λ p. b.1 p.0 p.1);
        numbers = (up_to_thirteen n, λ e. never e n);
      }
    where
      up_to_thirteen : (r ≡ 13) ⊎ ((r ≤ 11) ⊎ (RowOf fam r ⊎ (r ≡ 17))) → (r ≤ 13) ⊎ (RowOf fam r ⊎ (r ≡ 17))
      up_to_thirteen (inl z) = inl (omega arith)
      up_to_thirteen (inr (inl z)) = inl (omega arith)
      up_to_thirteen (inr (inr row)) = inr row

      never : r ≡ 12 → (r ≡ 13) ⊎ ((r ≤ 11) ⊎ (RowOf fam r ⊎ (r ≡ 17))) → ⊥
      never e (inl z) = omega arith
      never e (inr (inl z)) = omega arith
      never e (inr (inr (inl row))) = row_apart fam r row (omega arith) (omega arith)
      never e (inr (inr (inr z))) = omega arith

module _ (lo hi : ℤ) (t : List ℕ) where
  -- one row of the normaliser holds before 12, and no template is accepted there
  refused_once : (n m : ℕ) → RefusedBy lo hi t n → RefusedBy lo hi t m → n ≡ m
  refused_once n m (by_length a z) (by_length b y) = omega arith
  refused_once n m (by_length a z) (by_bounds b r y) = absurd (omega arith)
  refused_once n m (by_length a z) (by_scan b o q) = absurd (omega arith)
  refused_once n m (by_bounds a r z) (by_length b y) = absurd (omega arith)
  refused_once n m (by_bounds a r z) (by_bounds b s y) = omega arith
  refused_once n m (by_bounds a r z) (by_scan b o q) = clash_ℤ r o
  refused_once n m (by_scan a o p) (by_length b y) = absurd (omega arith)
  refused_once n m (by_scan a o p) (by_bounds b r y) = clash_ℤ r o
  refused_once n m (by_scan a o p) (by_scan b u q) = number_same (read_element (typed_head lo hi) t) n m p q

  refused_unread : (n : ℕ) (e : Elem Leaf) → RefusedBy lo hi t n → lo ≤ℤ hi → Accepted lo hi t e → ⊥
  refused_unread n e (by_length a z) o q = let short = (read_inv (typed_head lo hi) t e q).small in omega arith
  refused_unread n e (by_bounds a r z) o q = clash_ℤ r o
  refused_unread n e (by_scan a u p) o q = not_both (read_element (typed_head lo hi) t) n e p q

module _ (lo hi : ℤ) (t room : List ℕ) (n l : ℕ) (after : List ℕ) where
  row_number : (r : ℕ) → ElementRowOf Family.Integers r → n ≡ r → (n ≤ 12) ⊎ (n ≡ 16)
  row_number r (inl row) z = let most = row.1 in inl (omega arith)
  row_number r (inr e) z = inr (omega arith)

  given_of : NormalOutcome lo hi t room n l after → NormalGiven lo hi t room n l after
  given_of (declined r q row nine z k a) =
      let least_row = row_least Family.Integers r (inl row) in
      record {
        refused = λ m p. (λ e. subst (RefusedBy lo hi t) (sym z ∙ e) q, λ c. z ∙ refused_once lo hi t r m q c);
        twelve = (λ e. absurd (row_apart Family.Integers r (inl row) (omega arith) (omega arith)), λ c. absurd (refused_unread lo hi t r c.0 q c.1 c.2));
        done = (λ e. absurd (omega arith), λ c. absurd (refused_unread lo hi t r c.0 q c.1 c.2));
        numbers = (row_number r row z, λ e. omega arith, λ e. nine (sym z ∙ e), λ e. row_apart Family.Integers r (inl row) (omega arith) (omega arith));
        written = λ e f c. absurd (omega arith);
        untouched = λ _. (k, a);
      }
  given_of (room_short o e q b z k a) = record {
    refused = λ m p. (λ f. absurd (row_apart Family.Integers m (inl p) (omega arith) (omega arith)), λ c. absurd (refused_unread lo hi t m e c o q));
    twelve = (λ _. (e, o, q, b), λ _. z);
    done = (λ f. absurd (omega arith), λ c. absurd (wide c.0 c.2 c.3));
    numbers = (inl (omega arith), λ f. omega arith, λ f. omega arith, λ f. omega arith);
    written = λ f g c. absurd (omega arith);
    untouched = λ _. (k, a);
  }
    where
      wide : (f : Elem Leaf) → Accepted lo hi t f → length (normal_form lo hi f) ≤ length room → ⊥
      wide f p h = let s = ap (λ v. length (normal_form lo hi v)) (one_element lo hi t e f q p) in omega arith
  given_of (formed o e q b z k a) = record {
    refused = λ m p. (λ f. let least_row = row_least Family.Integers m (inl p) in absurd (omega arith), λ c. absurd (refused_unread lo hi t m e c o q));
    twelve = (λ f. absurd (omega arith), λ c. absurd (narrow c.0 c.2 c.3));
    done = (λ _. (e, o, q, b), λ _. z);
    numbers = (inl (omega arith), λ f. omega arith, λ f. omega arith, λ f. omega arith);
    written = λ _ f p. subst (λ v. (l ≡ length (normal_form lo hi v)) × (after ≡ normal_form lo hi v ++ drop l room)) (one_element lo hi t e f q p) (k, a);
    untouched = λ f. absurd (f z);
  }
    where
      narrow : (f : Elem Leaf) → Accepted lo hi t f → length room < length (normal_form lo hi f) → ⊥
      narrow f p h = let s = ap (λ v. length (normal_form lo hi v)) (one_element lo hi t e f q p) in omega arith

  normal_given : NormalCall t lo hi room n l after → NormalGiven lo hi t room n l after
  normal_given c = given_of (normal_outcome lo hi t room n l after (normal_answer t lo hi room n l after c))

either : {A : Type 0} (o : Read A) → Cases o → ((a : A) × (o ≡ got a [])) ⊎ ((n : ℕ) × (o ≡ refuse n))
either o (is_refused n e p) = inr (n, e)
either o (is_read a e) = inl (a, e)

pub first : First
first = record {
  matcher = match_given;
  judge = judge_given;
  normaliser = λ t lo hi room n l after. normal_given lo hi t room n l after;
  templates = λ fam t. either (read_template fam t) (read_cases fam t);
  template_rows = λ fam t n q. (template_row fam t n q).row;
  elements = λ lo hi t. either (read_element (typed_head lo hi) t) (element_cases lo hi t);
  element_rows = λ lo hi t n q. ((element_row lo hi t n q).row, element_not_nine lo hi t n q);
}

-- ---- demand 2

module _ (fam : Family) (t : List ℕ) (xs : List (ElementOf fam)) (s : Template (LeafOf fam)) (room : List ℕ) (r : ℕ) (after : List ℕ) (c : MatchCall fam t xs room r after) (k : Taken t xs) (l : length xs ≤ length room) (q : Accepts fam t s) (i : Inside fam s xs) where
  answer_is : match_answer fam t xs room ≡ given r after
  answer_is = match_answer_lem fam t xs room r after c

  -- where some assignment obeys, the first stands in the room
  first_there : (v : List ℕ) → Obeys fam s xs v → (r ≡ 0) × FirstOf (Obeys fam s xs) (take (length xs) after)
  first_there v o =
      let m = matched_where fam t xs room s k l q i v o in
      let e : given r after ≡ given 0 (m.witness ++ drop (length xs) room) = sym answer_is ∙ m.answer in
      let same : after ≡ m.witness ++ drop (length xs) room = cc in
      (cc, subst (FirstOf (Obeys fam s xs)) (sym (ap (take (length xs)) same ∙ take_at m.witness (drop (length xs) room) (length xs) m.size)) m.first)

  none_there : ((v : List ℕ) → Obeys fam s xs v → ⊥) → r ≡ 1
  none_there n = let e : given r after ≡ given 1 room = sym answer_is ∙ unmatched_where fam t xs room s k l q i n in cc

  matched_exactly : MatchedExactly fam xs s r after
  matched_exactly = go (first_witness fam s xs) refl
    where
      go : (m : Maybe) → first_witness fam s xs ≡ m → MatchedExactly fam xs s r after
      go nothing e =
          let none = none_witness fam s xs e in
          let one = none_there none in
          record { matched = (λ z. absurd (omega arith), λ p. absurd (none p.0 p.1)); unmatched = (λ _. none, λ _. one); first = λ z. absurd (omega arith) }
      go (just w) e =
          let o : Obeys fam s xs w = (first_witness_lem fam s xs w (few_members_lem fam t s q) e).holds in
          let there = first_there w o in
          let zero : r ≡ 0 = there.0 in
          record { matched = (λ _. (w, o), λ _. zero); unmatched = (λ z. absurd (omega arith), λ n. absurd (n w o)); first = λ _. there.1 }

module _ (fam : Family) (t : List ℕ) (xs : List (ElementOf fam)) (s : Template (LeafOf fam)) (w : List ℕ) (r : ℕ) (c : JudgeCall fam t xs w r) (k : Taken t xs) (l : length w ≡ length xs) (q : Accepts fam t s) (i : Inside fam s xs) where
  judged_exactly : JudgedExactly fam xs s w r
  judged_exactly =
      let a = judge_answer_lem fam t xs w r c in
      let j = judged_where fam t xs w s k l q i in
      let passes : Obeys fam s xs w → r ≡ 0 = λ o. sym a ∙ j.0 o in
      record {
        passed = (λ z. j.1 (a ∙ z), passes);
        failed = (λ z o. one_zero z (passes o), λ n. by-test (obeys fam s xs w) (λ o. absurd (n o)) (λ o. sym a ∙ j.2 o));
      }
    where
      one_zero : r ≡ 1 → r ≡ 0 → ⊥
      one_zero p z = omega arith

pub second : Second
second = record { matcher = matched_exactly; judge = judged_exactly }

-- ---- demand 3

module _ (lo hi : ℤ) (t : List ℕ) (e : Elem Leaf) (n l : ℕ) (f : List ℕ) (c : FormCall lo hi t e n l f) where
  side : Side lo hi e
  side = let b = c.type in side_of lo hi b.0 b.1 b.2 t e c.accepted

  form_answer : answer n l c.after ≡ answer 0 (length (normal_form lo hi e)) (normal_form lo hi e ++ drop (length (normal_form lo hi e)) c.room)
  form_answer =
      let size = side.size in
      let roomy = c.roomy in
      let b = c.type in
      sym (normal_answer t lo hi c.room n l c.after c.call) ∙ form_placed lo hi b.0 b.1 b.2 t e c.room c.accepted (omega arith)

  form_size : l ≡ length (normal_form lo hi e)
  form_size = let q = form_answer in cc

  -- what stands in front of the room is the form
  form_there : f ≡ normal_form lo hi e
  form_there =
      let q = form_answer in
      let a : c.after ≡ normal_form lo hi e ++ drop (length (normal_form lo hi e)) c.room = cc in
      sym c.front ∙ ap (take l) a ∙ take_at (normal_form lo hi e) (drop (length (normal_form lo hi e)) c.room) l (sym form_size)

  form_reads : Accepted lo hi f side.what
  form_reads = subst (λ b. Accepted lo hi b side.what) (sym form_there) (accepted_side lo hi e side)

  form_of : FormOf lo hi e n l f
  form_of =
      let q = form_answer in
      record {
        done = cc;
        whole = ap length form_there ∙ sym form_size;
        size = form_size ∙ length_normal_form lo hi e;
        most = omega (arith, form_size, side.size);
        what = side.what;
        reads = form_reads;
        same = side.same;
        smaller = side.count;
      }

  form_again : (room : List ℕ) (n' l' : ℕ) (after : List ℕ) → NormalCall f lo hi room n' l' after → l ≤ length room → (n' ≡ 0) × (l' ≡ l) × (take l' after ≡ f)
  form_again room n' l' after c' roomy =
      let b = c.type in
      let e' = side.what in
      let is : normal_form lo hi e' ≡ normal_form lo hi e = form_of_form lo hi b.0 b.1 b.2 t e c.accepted e' (accepted_side lo hi e side) in
      let g = normal_given lo hi f room n' l' after c' in
      let z : n' ≡ 0 = g.done.1 (e', b.2, form_reads, omega (arith, ap length is, form_size, roomy)) in
      let w = g.written z e' form_reads in
      let size : l' ≡ length (normal_form lo hi e') = w.0 in
      (z, size ∙ ap length is ∙ sym form_size, ap (take l') w.1 ∙ take_at (normal_form lo hi e') (drop l' room) l' (sym size) ∙ is ∙ sym form_there)

ranges_maximal : (lo hi : ℤ) (t : List ℕ) (e : Elem Leaf) → IsType lo hi → Accepted lo hi t e → MaximalRanges lo hi e
ranges_maximal lo hi t e b a =
    let g = (typed_facts lo hi t e a).0 in
    record {
      ascending = ascending_in lo hi b.0 b.1 b.2 e g;
      inside = inside_in lo hi b.0 b.1 b.2 e g;
      right = right_in lo hi b.0 b.1 b.2 e g;
      widest = widest_of lo hi b.0 b.1 b.2 e g;
    }

pub third : Third
third = record {
  form = form_of;
  canonical = λ lo hi t t' e e' n n' l l' f f' c c'.
      let b = c.type in
      let there : f ≡ normal_form lo hi e = form_there lo hi t e n l f c in
      let there' : f' ≡ normal_form lo hi e' = form_there lo hi t' e' n' l' f' c' in (
        λ h. same_form_same_integers lo hi b.0 b.1 b.2 t e c.accepted t' e' c'.accepted (sym there ∙ h ∙ there'),
        λ h. there ∙ same_integers_same_form lo hi b.0 b.1 b.2 t e c.accepted t' e' c'.accepted h ∙ sym there',
      );
  again = form_again;
  maximal = ranges_maximal;
}

-- ---- every input has a call; matcher and judge agree

pub every_input : EveryInput
every_input = (match_called, judge_called, normal_called)

pub whole_type : WholeType
whole_type t room n l after c = sym (whole-type.whole_type t room) ∙ normal_answer t least greatest room n l after c

pub judge_agrees : JudgeAgrees
judge_agrees fam t xs room after r c j =
    let a = (match_given fam t xs room 0 after c).rows.answered.0 (omega arith) in
    let s = a.2.0 in
    let o : Obeys fam s xs (take (length xs) after) = ((matched_exactly fam t xs s room 0 after c a.0 a.1 a.2.1 a.2.2).first refl).holds in
    (judged_exactly fam t xs s (take (length xs) after) r j a.0 (obeys_size fam s xs (take (length xs) after) o) a.2.1 a.2.2).passed.1 o

pub some_is_matched : SomeIsMatched
some_is_matched fam t xs w room after r j l c =
    let a = (judge_given fam t xs w 0 j).rows.answered.0 (omega arith) in
    let s = a.2.0 in
    let o : Obeys fam s xs w = (judged_exactly fam t xs s w 0 j a.0 a.1 a.2.1 a.2.2).passed.0 refl in
    (matched_exactly fam t xs s room r after c a.0 l a.2.1 a.2.2).matched.1 (w, o)

-- ---- the table

pub as_judged : AsJudged
unfolding all_come_out comes_out gives forms same_bytes judged signed int_at int_bytes between cnt all_once members_of_group members_of_item members_of_items members_of count_fault bounds_fault group_head head single_head range_head leaf_head reaches of_type ended uncounted put_first then_more many closed too_deep opened elem read_element map_read star_here numbered put_member then_members then_star put_item then_items clashes member members permutation_here item items contents body_here sheet_here length_here type_here rest_here heads_here and_then template_here read_template matches_by leaf_matches member_hits right_bytes none_twice all_spare within_block star_met group_takes item_takes some_cut cuts body_met length_met plainly obeys_by put or_else try_each first_of from members_count first_witness written some_outside element_outside match_read match_answer join_all join gaps gaps_from cut_to ranges_of record_of records matched_form unmatched_form form normal_form placed read_under answer_to normalised
as_judged = refl
