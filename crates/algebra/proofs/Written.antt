-- What calls of the normaliser and of the meeting write, under a type: the normal form of what was accepted, and it reads as what matches the same integers.
-- Assumes nothing.
-- FormOf lo hi e f <-> the bytes f are the normal form of e, and read as what matches the same integers of the type
-- Written lo hi t f <-> t is accepted, and f is its normal form
-- Met lo hi s t f <-> s and t are normal forms, and f is that of what both match, which has at most 64 leaves
use mathlib.Core.Path.{◌≡◌, refl, sym, ap, ◌∙◌}
use mathlib.Core.List.{List, ◌++◌}
use Prim.Native.Nat.{ℕ, ◌≤◌, max}
use native.Mathlib.Omega.{arith}
use lib.IntN.{ℤ}
use lib.ListN.{length, take, drop, replicate, length-replicate}
use lib.Seq.{take_at}
use Rattle.grammar.specs.Element.{Elem, leaves}
use Rattle.grammar.specs.Leaf.{Leaf}
use Rattle.grammar.specs.Matches.{matches}
use Rattle.ranges.specs.Spans.{holds}
use Rattle.ranges.proofs.Cuts.{word_between}
use Rattle.forms.specs.Matched.{ranges_of}
use Rattle.forms.specs.Form.{normal_form, side_ranges, form_leaves}
use Rattle.forms.specs.Answer.{answer}
use Rattle.forms.proofs.Accepts.{Good, typed_facts}
use Rattle.forms.proofs.FormSides.{side_elem, side_leaves, side_most, side}
use Rattle.forms.proofs.SameForms.{same_sides}
use Rattle.forms.proofs.Sets.{elem_set}
use Rattle.meeting.specs.Meeting.{both}
use Rattle.meeting.proofs.Meetings.{both_good}
use Rattle.meeting.proofs.WholeForms.{form_reads, written_by}
use Rattle.demands.specs.NormalForms.{Accepted, SameIntegers}
use Rattle.demands.specs.Claims.{IsType}
use Rattle.demands.proofs.Calls.{normal_answer, normal_called}
use Rattle.demands.proofs.Claims.{first}
use Rattle.demands.proofs.NormalForms.{same_form, form_placed}
use Rattle.algebra.specs.Claims.{Writes, Meets, Forms}
use Rattle.algebra.proofs.Meetings.{MeetingOutcome, untouched, wrote, meeting_answer, meeting_called, met_row, meeting_outcome}

pub record FormOf (lo hi : ℤ) (e : Elem Leaf) (f : List ℕ) : Type 0 where
  pub is : f ≡ normal_form lo hi e
  pub most : length f ≤ 578
  pub what : Elem Leaf
  pub reads : Accepted lo hi f what
  pub leaf_count : leaves what ≡ form_leaves lo hi (ranges_of e)
  pub same : SameIntegers lo hi what e

pub record Written (lo hi : ℤ) (t f : List ℕ) : Type 0 where
  pub what : Elem Leaf
  pub accepted : Accepted lo hi t what
  pub is : f ≡ normal_form lo hi what

pub record Met (lo hi : ℤ) (s t f : List ℕ) : Type 0 where
  pub a : Elem Leaf
  pub b : Elem Leaf
  pub forms : Forms lo hi s a t b
  pub few : form_leaves lo hi (ranges_of (both a b)) ≤ 64
  pub is : f ≡ normal_form lo hi (both a b)

-- what stands in front of a room
front : (f room after : List ℕ) (l : ℕ) → l ≡ length f → after ≡ f ++ drop l room → take l after ≡ f
front f room after l z e = ap (take l) e ∙ take_at f (drop l room) l (sym z)

module _ (lo hi : ℤ) (w : IsType lo hi) where
  -- ---- a normal form

  -- of at most 64 leaves
  pub form_of : (e : Elem Leaf) → Good e → form_leaves lo hi (ranges_of e) ≤ 64 → FormOf lo hi e (normal_form lo hi e)
  unfolding form_leaves
  form_of e g few =
      let o = holds (ranges_of e) lo in
      let rs = side_ranges lo hi (ranges_of e) in
      let b = written_by lo hi w.0 w.1 w.2 e g (omega arith) in
      record {
        is = refl;
        most = omega (arith, ap length b.bytes, side_most o rs b.few);
        what = side_elem o rs;
        reads = form_reads lo hi w.0 w.1 w.2 (normal_form lo hi e) o rs b;
        leaf_count = side_leaves o rs;
        same = (side lo hi w.0 w.1 w.2 (ranges_of e) (matches e) (leaves e) (elem_set e g)).same;
      }

  module _ (t : List ℕ) (e : Elem Leaf) (p : Accepted lo hi t e) where
    pub good_of : Good e
    good_of = (typed_facts lo hi t e p).0

    pub few_of : form_leaves lo hi (ranges_of e) ≤ 64
    unfolding form_leaves
    few_of = let f = typed_facts lo hi t e p in omega (arith, (side lo hi w.0 w.1 w.2 (ranges_of e) (matches e) (leaves e) (elem_set e f.0)).few, f.2)

    pub form_there : FormOf lo hi e (normal_form lo hi e)
    form_there = form_of e good_of few_of

    pub writes_form : Writes lo hi t (normal_form lo hi e)
    writes_form room n l after roomy c =
        let f = normal_form lo hi e in
        let size = form_there.most in
        let q : answer n l after ≡ answer 0 (length f) (f ++ drop (length f) room) = sym (normal_answer t lo hi room n l after c) ∙ form_placed lo hi w.0 w.1 w.2 t e room p (omega arith) in
        let z : l ≡ length f = cc in
        (cc, front f room after l z (rw z (cc)))

  pub same_leaves : (e e' : Elem Leaf) → Good e → Good e' → SameIntegers lo hi e e' → form_leaves lo hi (ranges_of e) ≡ form_leaves lo hi (ranges_of e')
  unfolding form_leaves
  same_leaves e e' g g' h =
      let s = elem_set e g in
      let s' = elem_set e' g' in
      ap (λ rs. max 1 (length rs))
      (same_sides lo hi w.0 w.1 w.2 (ranges_of e) (ranges_of e') s.ascending s'.ascending
      (λ x a b. let v = word_between lo hi x w.0 w.1 a b in s.right x v ∙ h x a b ∙ sym (s'.right x v)))

  pub same_of : (e e' : Elem Leaf) → Good e → Good e' → SameIntegers lo hi e e' → normal_form lo hi e ≡ normal_form lo hi e'
  same_of = same_form lo hi w.0 w.1 w.2

  -- ---- what a call says

  abbrev wide : List ℕ
  wide = replicate 578 0

  long : 578 ≤ length wide
  long = omega (arith, length-replicate {A = ℕ} 578 0)

  pub writes_inv : (t f : List ℕ) → Writes lo hi t f → Written lo hi t f
  writes_inv t f h =
      let room = wide in
      let call = normal_called t lo hi room in
      let l = call.1 in
      let after = call.2 in
      let d = h room call.0 l after long call.3 in
      let g = first.normaliser t lo hi room call.0 l after call.3 in
      let e = g.done.0 d.0 in
      let v = g.written d.0 e.0 e.2 in
      record { what = e.0; accepted = e.2; is = sym d.1 ∙ front (normal_form lo hi e.0) room after l v.0 v.1 }

  pub meets_inv : (s t f : List ℕ) → Meets lo hi s t f → Met lo hi s t f
  meets_inv s t f h =
      let room = wide in
      let call = meeting_called s t lo hi room in
      let d = h room call.0 call.1 call.2 long call.3 in
      go room call.0 call.1 call.2 d.0 d.1 (meeting_outcome lo hi s t room call.0 call.1 call.2 (meeting_answer s t lo hi room call.0 call.1 call.2 call.3))
    where
      go : (room : List ℕ) (n l : ℕ) (after : List ℕ) → n ≡ 0 → take l after ≡ f → MeetingOutcome lo hi s t room n l after → Met lo hi s t f
      go room n l after z e (untouched p k a m) = absurd (omega arith)
      go room n l after z e (wrote a b x few roomy y k r) = record { a = a; b = b; forms = x; few = few; is = sym e ∙ front (normal_form lo hi (both a b)) room after l k r }

  -- two forms meet where the result has at most 64 leaves
  pub meets_of : (s t : List ℕ) (a b : Elem Leaf) → Forms lo hi s a t b → form_leaves lo hi (ranges_of (both a b)) ≤ 64 → Meets lo hi s t (normal_form lo hi (both a b))
  meets_of s t a b x few room n l after roomy c =
      let f = normal_form lo hi (both a b) in
      let size = (form_of (both a b) (both_good a b (good_of s a x.first) (good_of t b x.second)) few).most in
      let q : answer n l after ≡ answer 0 (length f) (f ++ drop (length f) room) = sym (meeting_answer s t lo hi room n l after c) ∙ met_row lo hi s t room a b x few (omega arith) in
      let z : l ≡ length f = cc in
      (cc, front f room after l z (rw z (cc)))
