-- Normal forms as bytes: what is written from ranges as `Between` asks is the normal form of what it reads as, and every normal form is written so. Assumes
-- nothing.
-- Under lo hi t <-> the bytes t are refused under the type, or are read, and then its bounds are in order
use mathlib.Core.Path.{◌≡◌, sym, ap, ◌∙◌}
use mathlib.Core.Bool.{Bool, true, false, not, not-not}
use mathlib.Core.List.{List, [], ◌++◌}
use Prim.Native.Nat.{ℕ, ◌≤◌, ◌<◌}
use native.Mathlib.Omega.{arith}
use lib.Dec.{ltb}
use lib.IntN.{ℤ}
use lib.Signed.{lt_z, ◌≤ℤ◌}
use lib.ListN.{length, drop}
use borrow.Author.Tests.{le-ltb}
use Rattle.facts.proofs.Cases.{by-test}
use Rattle.integers.specs.Integer.{Word}
use Rattle.grammar.specs.Element.{Elem, leaves}
use Rattle.grammar.specs.Leaf.{Leaf, leaf_head, typed_head}
use Rattle.grammar.specs.Matches.{matches}
use Rattle.grammar.specs.Read.{refuse, got}
use Rattle.grammar.specs.Reading.{read_element}
use Rattle.grammar.proofs.RefusalNumbers.{Cases, is_refused, is_read, element_cases}
use Rattle.ranges.specs.Spans.{Span, holds, Ascending, gaps}
use Rattle.ranges.proofs.JoinsAndGaps.{proper_of, holds_gaps, ascending_gaps, unique}
use Rattle.ranges.proofs.Cuts.{Among, word_between, cut_nothing}
use Rattle.forms.specs.Matched.{ranges_of}
use Rattle.forms.specs.Form.{side_form, form, normal_form, side_ranges}
use Rattle.forms.specs.Answer.{answer, placed, read_under, answer_to, normalised}
use Rattle.forms.proofs.Accepts.{Good, ordered, read_inv, read_of, typed_read, typed_facts}
use Rattle.forms.proofs.FormSides.{form_side, side_elem, side_reads, side_inside, side_most, side}
use Rattle.forms.proofs.Readings.{matched_elem, unmatched_elem, matched_matches, unmatched_matches, not_after}
use Rattle.forms.proofs.SameForms.{same_forms}
use Rattle.forms.proofs.Sets.{elem_set}
use Rattle.form_reader.specs.FormRead.{WrittenFrom}
use Rattle.mixing.specs.Mixing.{gaps_unless}
use Rattle.meeting.specs.Contract.{fault_of}
use Rattle.meeting.proofs.Betweens.{between_ascending, between_among, between_lower, between_of}

-- ---- bytes under a type

pub data Under (lo hi : ℤ) (t : List ℕ) : Type 0 where
  refused_under : (r : ℕ) → read_under lo hi t ≡ refuse r → 0 < r → Under lo hi t
  read_as : (e : Elem Leaf) → read_under lo hi t ≡ got e [] → read_element (typed_head lo hi) t ≡ got e [] → lt_z hi lo ≡ false → Under lo hi t

pub under : (lo hi : ℤ) (t : List ℕ) → Under lo hi t
unfolding read_under
under lo hi t =
    by-test (ltb 4096 (length t))
    (λ a. refused_under 2 (rw a) (omega arith))
    (λ a. by-test (lt_z hi lo)
    (λ b. refused_under 6 (rw (a, b)) (omega arith))
    (λ b. go a b (element_cases lo hi t)))
  where
    go : ltb 4096 (length t) ≡ false → lt_z hi lo ≡ false → Cases (read_element (typed_head lo hi) t) → Under lo hi t
    go a b (is_refused r q p) = refused_under r (rw (a, b, q)) p
    go a b (is_read e q) = read_as e (rw (a, b, q)) q b

-- ---- the form that is written from ranges

-- what it leaves out
side_leaves_out : (o : Bool) (rs : List Span) (x : ℤ) → Ascending rs → Word x → holds (gaps_unless o rs) x ≡ not (matches (side_elem o rs) x)
side_leaves_out true rs x f w = sym (not-not (holds rs x)) ∙ ap not (sym (unmatched_matches rs x (proper_of rs f) w))
side_leaves_out false rs x f w = holds_gaps rs f x w ∙ ap not (sym (matched_matches rs x (proper_of rs f) w))

-- the gaps of the gaps are the ranges
pub gaps_gaps : (rs : List Span) → Ascending rs → gaps (gaps rs) ≡ rs
gaps_gaps rs f =
    unique (gaps (gaps rs)) rs (ascending_gaps (gaps rs) (ascending_gaps rs f)) f
    (λ x w. holds_gaps (gaps rs) (ascending_gaps rs f) x w ∙ ap not (holds_gaps rs f x w) ∙ not-not (holds rs x))

module _ (lo hi : ℤ) (p : Word lo) (q : Word hi) (o : lo ≤ℤ hi) where
  module _ (t : List ℕ) (outside : Bool) (rs : List Span) (w : WrittenFrom lo hi t outside rs) where
    ascending : Ascending rs
    ascending = between_ascending lo hi p rs w.between

    pub form_reads : read_element (typed_head lo hi) t ≡ got (side_elem outside rs) []
    form_reads =
        let proper = proper_of rs ascending in
        let r = side_reads outside rs w.few proper in
        rw w.bytes
        (typed_read lo hi (side_form outside rs) (side_elem outside rs)
        (read_of leaf_head (side_form outside rs) (side_elem outside rs) r.count (omega (arith, side_most outside rs w.few)) r.reads)
        (side_inside lo hi outside rs proper (between_among lo hi p rs w.between)))

    pub form_under : read_under lo hi t ≡ got (side_elem outside rs) []
    unfolding read_under
    form_under = rw (le-ltb 4096 (length t) (read_inv (typed_head lo hi) t (side_elem outside rs) form_reads).small, not_after lo hi p q o, form_reads)

    pub leaves_out : (x : ℤ) → Word x → holds (gaps_unless outside rs) x ≡ not (matches (side_elem outside rs) x)
    leaves_out x v = side_leaves_out outside rs x ascending v

  -- its own element template has the form that it is
  form_of_side : (outside : Bool) (rs : List Span) → Ascending rs → Among lo hi rs → holds rs lo ≡ false → Good (side_elem outside rs) → normal_form lo hi (side_elem outside rs) ≡ side_form outside rs
  unfolding normal_form form
  form_of_side true rs f m h g =
      let s = elem_set (unmatched_elem rs) g in
      let same = same_forms lo hi p q o (ranges_of (unmatched_elem rs)) (gaps rs) s.ascending (ascending_gaps rs f)
      (λ x a b. let w = word_between lo hi x p q a b in s.right x w ∙ unmatched_matches rs x (proper_of rs f) w ∙ sym (holds_gaps rs f x w)) in
      let there : holds (gaps rs) lo ≡ true = holds_gaps rs f lo p ∙ ap not h in
      same ∙ rw (there, gaps_gaps rs f, cut_nothing lo hi rs p q (proper_of rs f) m)
  form_of_side false rs f m h g =
      let s = elem_set (matched_elem rs) g in
      let same = same_forms lo hi p q o (ranges_of (matched_elem rs)) rs s.ascending f
      (λ x a b. let w = word_between lo hi x p q a b in s.right x w ∙ matched_matches rs x (proper_of rs f) w) in
      same ∙ rw (h, cut_nothing lo hi rs p q (proper_of rs f) m)

  pub form_is : (t : List ℕ) (outside : Bool) (rs : List Span) → WrittenFrom lo hi t outside rs → t ≡ normal_form lo hi (side_elem outside rs)
  form_is t outside rs w =
      let b = w.between in
      w.bytes ∙ sym (form_of_side outside rs (between_ascending lo hi p rs b) (between_among lo hi p rs b) (between_lower lo hi p rs b) (typed_facts lo hi t (side_elem outside rs) (form_reads t outside rs w)).0)

  -- ---- every form of at most 64 leaves is written so

  pub written_by : (e : Elem Leaf) → Good e → length (side_ranges lo hi (ranges_of e)) ≤ 64 → WrittenFrom lo hi (normal_form lo hi e) (holds (ranges_of e) lo) (side_ranges lo hi (ranges_of e))
  unfolding normal_form
  written_by e g few =
      let d = side lo hi p q o (ranges_of e) (matches e) (leaves e) (elem_set e g) in
      record { few = few; between = between_of lo hi (side_ranges lo hi (ranges_of e)) p d.ascending d.among d.lower; bytes = form_side lo hi (ranges_of e) }

  pub form_written : (t : List ℕ) (e : Elem Leaf) → read_element (typed_head lo hi) t ≡ got e []
      → WrittenFrom lo hi (normal_form lo hi e) (holds (ranges_of e) lo) (side_ranges lo hi (ranges_of e))
  form_written t e r =
      let f = typed_facts lo hi t e r in
      written_by e f.0 (omega (arith, (side lo hi p q o (ranges_of e) (matches e) (leaves e) (elem_set e f.0)).few, f.2))

-- ---- the normaliser's number, with room for every form

pub data Told (lo hi : ℤ) (t : List ℕ) (n : ℕ) : Type 0 where
  told_refused : read_under lo hi t ≡ refuse n → (n ≡ 0 → ⊥) → Told lo hi t n
  told_read : (e : Elem Leaf) → read_under lo hi t ≡ got e [] → n ≡ 0 → Told lo hi t n

module _ (lo hi : ℤ) (p : Word lo) (q : Word hi) (t room : List ℕ) (n l : ℕ) (after : List ℕ) where
  pub number_told : 578 ≤ length room → answer n l after ≡ normalised lo hi t room → Told lo hi t n
  unfolding normalised answer_to placed
  number_told roomy h = go (under lo hi t)
    where
      go : Under lo hi t → Told lo hi t n
      go (refused_under r e s) =
          let a : answer n l after ≡ answer r 0 room = h ∙ ap (λ o. answer_to lo hi o room) e in
          let same : n ≡ r = cc in
          told_refused (rw same e) (λ z. omega arith)
      go (read_as e r x o) =
          let w = form_written lo hi p q (ordered lo hi p q o) t e x in
          let small : length (normal_form lo hi e) ≤ 578 = omega (arith, ap length w.bytes, side_most (holds (ranges_of e) lo) (side_ranges lo hi (ranges_of e)) w.few) in
          let f = normal_form lo hi e in
          let a : answer n l after ≡ answer 0 (length f) (f ++ drop (length f) room) = h ∙ ap (λ u. answer_to lo hi u room) r ∙ rw (le-ltb (length room) (length f) (omega arith)) in
          told_read e r (cc)

-- the number of two inputs
module _ (lo hi : ℤ) (s t : List ℕ) (n m : ℕ) where
  pub fault_first : Told lo hi s n → (n ≡ 0 → ⊥) → n ≡ fault_of (read_under lo hi s) (read_under lo hi t)
  unfolding fault_of
  fault_first (told_refused e z) h = rw e
  fault_first (told_read a e z) h = absurd (h z)

  pub fault_second : Told lo hi s n → Told lo hi t m → n ≡ 0 → (m ≡ 0 → ⊥) → m ≡ fault_of (read_under lo hi s) (read_under lo hi t)
  unfolding fault_of
  fault_second (told_refused e z) u h k = absurd (z h)
  fault_second (told_read a e z) (told_refused f y) h k = rw (e, f)
  fault_second (told_read a e z) (told_read b f y) h k = absurd (k y)

  pub fault_neither : Told lo hi s n → Told lo hi t m → n ≡ 0 → m ≡ 0 → 15 ≡ fault_of (read_under lo hi s) (read_under lo hi t)
  unfolding fault_of
  fault_neither (told_refused e z) u h k = absurd (z h)
  fault_neither (told_read a e z) (told_refused f y) h k = absurd (y k)
  fault_neither (told_read a e z) (told_read b f y) h k = rw (e, f)
