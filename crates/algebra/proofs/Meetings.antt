-- Calls of the meeting: each number with what it was given for. Assumes nothing.
-- MeetingOutcome lo hi s t room n l after <-> what the meeting's number n was given for: with 0 the form is written, else the room is as it was
use mathlib.Core.Path.{◌≡◌, refl, sym, ◌∙◌, subst}
use mathlib.Core.Bool.{false, cond, ◌&&◌}
use mathlib.Core.List.{List, [], ◌++◌}
use Prim.Native.Nat.{ℕ, ◌≤◌, ◌<◌}
use native.Mathlib.Omega.{arith}
use lib.Dec.{T, ltb}
use lib.IntN.{ℤ}
use lib.Signed.{lt_z, ◌≤ℤ◌, lt_z_yes, clash_ℤ}
use lib.ListN.{length, drop}
use borrow.Author.Tests.{ltb-true, ltb-false, lt-ltb, le-ltb}
use Rattle.facts.specs.SameLists.{same_bytes}
use Rattle.facts.proofs.Cases.{by-test, clash, not_so, both, and_left, and_right}
use Rattle.facts.proofs.SameLists.{same_lists, lists_same}
use Rattle.grammar.specs.Element.{Elem}
use Rattle.grammar.specs.Leaf.{Leaf, typed_head}
use Rattle.grammar.specs.Read.{refuse, got}
use Rattle.ranges.proofs.JoinsAndGaps.{true_of}
use Rattle.forms.specs.Matched.{ranges_of}
use Rattle.forms.specs.Form.{normal_form, form_leaves}
use Rattle.forms.specs.Answer.{Answer, answer, placed, read_under}
use Rattle.forms.proofs.Accepts.{read_inv}
use Rattle.meeting.specs.Meeting.{both as both_of, is_form, met, meet_read, meeting_of}
use Rattle.meeting.proofs.WholeForms.{Under, refused_under, read_as, under}
use Rattle.demands.specs.NormalForms.{Accepted}
use Rattle.demands.proofs.Calls.{ref, lent_ref}
use Rattle.demands.proofs.Outcomes.{in_order_lem}
use Rattle.demands.specs.Claims.{RefusedBy, by_length, by_bounds, by_scan}
use Rattle.algebra.specs.Calls.{MeetingCall}
use Rattle.algebra.specs.Claims.{Forms, MetBy, by_first, by_second, by_forms, by_leaves, by_room, EveryMeeting}
use Rattle.algebra.specs.Claims as claims

-- ---- the contract is an equation, and every input can be lent

pub meeting_answer : (s t : List ℕ) (lo hi : ℤ) (room : List ℕ) (n l : ℕ) (after : List ℕ) → MeetingCall s t lo hi room n l after → meeting_of lo hi s t room ≡ answer n l after
meeting_answer s t lo hi room n l after c =
    let p = c.allowed in let a = c.first in let b = c.second in let g = c.lower in let h = c.upper in let d = c.room_then in let e = c.number in let f = c.size in let i = c.room_now in cc

pub meeting_called : EveryMeeting
unfolding ref lent_ref
meeting_called s t lo hi room = go (meeting_of lo hi s t room) refl
  where
    go : (a : Answer) → meeting_of lo hi s t room ≡ a → (n : ℕ) × (l : ℕ) × (after : List ℕ) × MeetingCall s t lo hi room n l after
    go (answer n l after) e = (
      n,
      l,
      after,
      record {
        κs = ([], ([], ([], tt)));
        lent = (ref s, (ref t, (lo, (hi, (lent_ref room, tt)))));
        result = record { number = n; length = l };
        left = (ref s, (ref t, (lo, (hi, (lent_ref after, tt)))));
        first = refl;
        second = refl;
        lower = refl;
        upper = refl;
        room_then = refl;
        number = refl;
        size = refl;
        room_now = refl;
        allowed = sym e;
      },
    )

-- ---- one input

not_reversed : (lo hi : ℤ) → lo ≤ℤ hi → lt_z hi lo ≡ false
not_reversed lo hi o = by-test (lt_z hi lo) (λ e. absurd (clash_ℤ (lt_z_yes (subst T (sym e) tt)) o)) (λ e. e)

module _ (lo hi : ℤ) (t : List ℕ) where
  refused_by : (r : ℕ) → read_under lo hi t ≡ refuse r → RefusedBy lo hi t r
  unfolding read_under
  refused_by r q =
      by-test (ltb 4096 (length t))
      (λ a. let e : refuse 2 ≡ refuse r = rw a at q in by_length (ltb-true 4096 (length t) a) (cc))
      (λ a. by-test (lt_z hi lo)
      (λ b. let e : refuse 6 ≡ refuse r = rw (a, b) at q in by_bounds (ltb-false 4096 (length t) a) (lt_z_yes (subst T (sym b) tt)) (cc))
      (λ b. by_scan (ltb-false 4096 (length t) a) (in_order_lem lo hi b) (rw (a, b) at q)))

  by_refused : (r : ℕ) → RefusedBy lo hi t r → read_under lo hi t ≡ refuse r
  unfolding read_under
  by_refused r (by_length h z) = rw (lt-ltb 4096 (length t) h, z)
  by_refused r (by_bounds h b z) = rw (le-ltb 4096 (length t) h, true_of (lt_z hi lo) b.lt, z)
  by_refused r (by_scan h o q) = rw (le-ltb 4096 (length t) h, not_reversed lo hi o, q)

  read_under_lem : (e : Elem Leaf) → lo ≤ℤ hi → Accepted lo hi t e → read_under lo hi t ≡ got e []
  unfolding read_under
  read_under_lem e o a = rw (le-ltb 4096 (length t) (read_inv (typed_head lo hi) t e a).small, not_reversed lo hi o, a)

-- ---- both

module _ (lo hi : ℤ) (s t room : List ℕ) where
  first_row : (r : ℕ) → read_under lo hi s ≡ refuse r → meeting_of lo hi s t room ≡ answer r 0 room
  unfolding meeting_of meet_read
  first_row r e = rw e

  second_row : (a : Elem Leaf) (r : ℕ) → read_under lo hi s ≡ got a [] → read_under lo hi t ≡ refuse r → meeting_of lo hi s t room ≡ answer r 0 room
  unfolding meeting_of meet_read
  second_row a r e f = rw (e, f)

  module _ (a b : Elem Leaf) (o : lo ≤ℤ hi) (p : Accepted lo hi s a) (q : Accepted lo hi t b) where
    forms_row : ((s ≡ normal_form lo hi a) × (t ≡ normal_form lo hi b) → ⊥) → meeting_of lo hi s t room ≡ answer 15 0 room
    unfolding meeting_of meet_read met is_form
    forms_row x =
        let one = same_bytes s (normal_form lo hi a) in
        let two = same_bytes t (normal_form lo hi b) in
        let none : (one && two) ≡ false = not_so (one && two) (λ e. x (same_lists s (normal_form lo hi a) (and_left one two e), same_lists t (normal_form lo hi b) (and_right one two e))) in
        rw (read_under_lem lo hi s a o p, read_under_lem lo hi t b o q, none)

  module _ (a b : Elem Leaf) (f : Forms lo hi s a t b) where
    abbrev form : List ℕ
    form = normal_form lo hi (both_of a b)

    forms_answer : meeting_of lo hi s t room ≡ cond (ltb 64 (form_leaves lo hi (ranges_of (both_of a b)))) (answer 8 0 room) (placed form room)
    unfolding meeting_of meet_read met is_form
    forms_answer =
        rw (
          read_under_lem lo hi s a f.in_order f.first,
          read_under_lem lo hi t b f.in_order f.second,
          lists_same s (normal_form lo hi a) f.first_form,
          lists_same t (normal_form lo hi b) f.second_form,
        )

    leaves_row : 64 < form_leaves lo hi (ranges_of (both_of a b)) → meeting_of lo hi s t room ≡ answer 8 0 room
    leaves_row x = forms_answer ∙ rw (lt-ltb 64 (form_leaves lo hi (ranges_of (both_of a b))) x)

    module _ (x : form_leaves lo hi (ranges_of (both_of a b)) ≤ 64) where
      room_row : length room < length form → meeting_of lo hi s t room ≡ answer 12 0 room
      unfolding placed
      room_row h = forms_answer ∙ rw (le-ltb 64 (form_leaves lo hi (ranges_of (both_of a b))) x, lt-ltb (length room) (length form) h)

      pub met_row : length form ≤ length room → meeting_of lo hi s t room ≡ answer 0 (length form) (form ++ drop (length form) room)
      unfolding placed
      met_row h = forms_answer ∙ rw (le-ltb 64 (form_leaves lo hi (ranges_of (both_of a b))) x, le-ltb (length room) (length form) h)

  -- the number of each row
  pub row_number : (r : ℕ) → MetBy lo hi s t room r → (l : ℕ) × (after : List ℕ) × (meeting_of lo hi s t room ≡ answer r l after)
  row_number r (by_first x) = (0, room, first_row r (by_refused lo hi s r x))
  row_number r (by_second a o p x) = (0, room, second_row a r (read_under_lem lo hi s a o p) (by_refused lo hi t r x))
  row_number r (by_forms a b o p q x z) = (0, room, rw z (forms_row a b o p q x))
  row_number r (by_leaves a b f x z) = (0, room, rw z (leaves_row a b f x))
  row_number r (by_room a b f x h z) = (0, room, rw z (room_row a b f x h))
  row_number r (claims.met a b f x h z) = (length (form a b f), form a b f ++ drop (length (form a b f)) room, rw z (met_row a b f x h))

  pub data MeetingOutcome (n l : ℕ) (after : List ℕ) : Type 0 where
    untouched : 0 < n → l ≡ 0 → after ≡ room → MetBy lo hi s t room n → MeetingOutcome n l after
    wrote : (a b : Elem Leaf) → Forms lo hi s a t b → form_leaves lo hi (ranges_of (both_of a b)) ≤ 64 → length (normal_form lo hi (both_of a b)) ≤ length room → n ≡ 0
        → l ≡ length (normal_form lo hi (both_of a b)) → after ≡ normal_form lo hi (both_of a b) ++ drop l room → MeetingOutcome n l after

  module _ (n l : ℕ) (after : List ℕ) (h : meeting_of lo hi s t room ≡ answer n l after) where
    stays : (r : ℕ) → meeting_of lo hi s t room ≡ answer r 0 room → 0 < r → MetBy lo hi s t room r → MeetingOutcome n l after
    stays r e p m =
        let q : answer n l after ≡ answer r 0 room = sym h ∙ e in
        let same : n ≡ r = cc in
        untouched (omega arith) (cc) (cc) (subst (MetBy lo hi s t room) (sym same) m)

    forms_met : (a b : Elem Leaf) → Forms lo hi s a t b → MeetingOutcome n l after
    forms_met a b f =
        let count = form_leaves lo hi (ranges_of (both_of a b)) in
        let size = length (form a b f) in
        by-test (ltb 64 count)
        (λ x. let many = ltb-true 64 count x in stays 8 (leaves_row a b f many) (omega arith) (by_leaves a b f many refl))
        (λ x. let few = ltb-false 64 count x in by-test (ltb (length room) size)
        (λ y. let short = ltb-true (length room) size y in stays 12 (room_row a b f few short) (omega arith) (by_room a b f few short refl))
        (λ y.
        let long = ltb-false (length room) size y in
        let q : answer n l after ≡ answer 0 size (form a b f ++ drop size room) = sym h ∙ met_row a b f few long in
        let z : l ≡ size = cc in
        wrote a b f few long (cc) z (rw z (cc))))

    pub meeting_outcome : MeetingOutcome n l after
    meeting_outcome = go (under lo hi s) (under lo hi t)
      where
        both_read : (a b : Elem Leaf) → lo ≤ℤ hi → Accepted lo hi s a → Accepted lo hi t b → MeetingOutcome n l after
        both_read a b o p q =
            let one = same_bytes s (normal_form lo hi a) in
            let two = same_bytes t (normal_form lo hi b) in
            by-test (one && two)
            (λ e. forms_met a b (record { in_order = o; first = p; second = q; first_form = same_lists s (normal_form lo hi a) (and_left one two e); second_form = same_lists t (normal_form lo hi b) (and_right one two e) }))
            (λ e.
            let x : (s ≡ normal_form lo hi a) × (t ≡ normal_form lo hi b) → ⊥ = λ y. clash (both one two (lists_same s (normal_form lo hi a) y.0) (lists_same t (normal_form lo hi b) y.1)) e in
            stays 15 (forms_row a b o p q x) (omega arith) (by_forms a b o p q x refl))

        go : Under lo hi s → Under lo hi t → MeetingOutcome n l after
        go (refused_under r e z) y = stays r (first_row r e) z (by_first (refused_by lo hi s r e))
        go (read_as a e x o) (refused_under r f z) = stays r (second_row a r e f) z (by_second a (in_order_lem lo hi o) x (refused_by lo hi t r f))
        go (read_as a e x o) (read_as b f y o') = both_read a b (in_order_lem lo hi o) x y
