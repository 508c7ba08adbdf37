-- The meeting by sides and ranges is the meeting of the definition: what is not in both of two forms, swept and turned, holds just what the element template
-- complement(complement(A), complement(B)) leaves out; and where one input is no normal form, its refusal or 15 is the answer. Assumes nothing.
use mathlib.Core.Path.{◌≡◌, refl, sym, ap, ap₂, ◌∙◌, subst}
use mathlib.Core.Bool.{Bool, true, false, not, ◌&&◌, ◌||◌, not-not, or-false}
use mathlib.Core.List.{List, [], ◌++◌}
use Prim.Native.Nat.{ℕ, max}
use native.Mathlib.Omega.{arith}
use lib.Dec.{ltb}
use lib.IntN.{ℤ}
use lib.Signed.{lt_z, ◌≤ℤ◌}
use lib.ListN.{length}
use Rattle.facts.proofs.Cases.{clash, same_ltb, not_so, and_left, and_right}
use Rattle.facts.proofs.SameLists.{same_lists, lists_same}
use Rattle.integers.specs.Integer.{Word}
use Rattle.grammar.specs.Element.{Elem}
use Rattle.grammar.specs.Leaf.{Leaf, typed_head}
use Rattle.grammar.specs.Matches.{matches_by, matches}
use Rattle.grammar.specs.Read.{got}
use Rattle.grammar.specs.Reading.{read_element}
use Rattle.ranges.specs.Spans.{Span, holds, Ascending, Proper, gaps, cut_to}
use Rattle.ranges.specs.Shown.{view}
use Rattle.ranges.proofs.JoinsAndGaps.{holds_append, holds_gaps, ascending_gaps, holds_joined}
use Rattle.ranges.proofs.Cuts.{word_between}
use Rattle.forms.specs.Matched.{ranges_of}
use Rattle.forms.specs.Form.{side_form, form, normal_form, side_ranges, form_leaves}
use Rattle.forms.specs.Answer.{answer, read_under}
use Rattle.forms.proofs.Accepts.{Good, typed_facts, ordered}
use Rattle.forms.proofs.FormSides.{side_elem}
use Rattle.forms.proofs.SameForms.{same_sides, same_forms}
use Rattle.forms.proofs.Sets.{elem_set}
use Rattle.form_reader.specs.FormRead.{WrittenFrom, FormRead, is_form as reads_as_form, no_form}
use Rattle.mixing.specs.Mixing.{Held, gaps_unless, not_in_both}
use Rattle.mixing.proofs.Turned.{proper_both, ascending_not_in_both}
use Rattle.meeting.specs.Contract.{written_from, fault_of}
use Rattle.meeting.specs.Meeting.{both, is_form, met, meet_read, meeting_of}
use Rattle.meeting.proofs.Betweens.{between_ascending, between_lower}
use Rattle.meeting.proofs.WholeForms.{Under, refused_under, read_as, under, form_reads, form_under, leaves_out, form_is, form_written, gaps_gaps}

-- ---- what both match

pub both_matches : (a b : Elem Leaf) (x : ℤ) → matches (both a b) x ≡ (matches a x && matches b x)
unfolding matches_by
both_matches a b x = go (matches a x) (matches b x)
  where
    go : (i j : Bool) → not (not (i || false) || (not (j || false) || false)) ≡ (i && j)
    go true true = refl
    go true false = refl
    go false j = refl

pub both_good : (a b : Elem Leaf) → Good a → Good b → Good (both a b)
unfolding Good
both_good a b g h = ((g, tt), ((h, tt), tt))

de_morgan : (i j : Bool) → not (not i || not j) ≡ (i && j)
de_morgan true j = not-not j
de_morgan false j = refl

-- one leaf at least
over_64 : (n : ℕ) → ltb 64 (max 1 n) ≡ ltb 64 n
over_64 n = same_ltb 64 (max 1 n) 64 n (λ h. omega arith) (λ h. omega arith)

-- the ranges that a form is written from, and its bytes, where the side is known
side_of_gaps : (lo hi : ℤ) (o : Bool) (us : List Span) → Ascending us → holds (gaps us) lo ≡ o
    → (side_ranges lo hi (gaps us) ≡ cut_to lo hi (gaps_unless o us)) × (form lo hi (gaps us) ≡ side_form o (cut_to lo hi (gaps_unless o us)))
unfolding form side_ranges
side_of_gaps lo hi true us f h = (rw (h, gaps_gaps us f), rw (h, gaps_gaps us f))
side_of_gaps lo hi false us f h = (rw h, rw h)

module _ (lo hi : ℤ) (p : Word lo) (q : Word hi) (o : lo ≤ℤ hi) where
  module _ (s : List ℕ) (o₁ : Bool) (rs : List Span) (u : WrittenFrom lo hi s o₁ rs) (t : List ℕ) (o₂ : Bool) (ss : List Span) (v : WrittenFrom lo hi t o₂ ss) where
    abbrev a : Elem Leaf
    a = side_elem o₁ rs

    abbrev b : Elem Leaf
    b = side_elem o₂ ss

    abbrev out : List Span
    out = gaps_unless o₁ rs ++ gaps_unless o₂ ss

    abbrev us : List Span
    us = not_in_both o₁ rs o₂ ss

    first_ascending : Ascending rs
    first_ascending = between_ascending lo hi p rs u.between

    second_ascending : Ascending ss
    second_ascending = between_ascending lo hi p ss v.between

    out_proper : Proper out
    out_proper = proper_both o₁ rs o₂ ss first_ascending second_ascending

    ascending_out : Ascending us
    ascending_out = ascending_not_in_both o₁ rs o₂ ss first_ascending second_ascending

    -- what is left is what both match
    left_matched : (x : ℤ) → Word x → holds (gaps us) x ≡ (matches a x && matches b x)
    left_matched x w =
        holds_gaps us ascending_out x w
        ∙ ap not (holds_joined out [] x out_proper tt w ∙ or-false (holds out x) ∙ holds_append (gaps_unless o₁ rs) (gaps_unless o₂ ss) x
        ∙ ap₂ (λ (i j : Bool). i || j) (leaves_out lo hi p q o s o₁ rs u x w) (leaves_out lo hi p q o t o₂ ss v x w))
        ∙ de_morgan (matches a x) (matches b x)

    first_good : Good a
    first_good = (typed_facts lo hi s a (form_reads lo hi p q o s o₁ rs u)).0

    second_good : Good b
    second_good = (typed_facts lo hi t b (form_reads lo hi p q o t o₂ ss v)).0

    -- the ranges of the definition hold the same of the type
    abbrev all : List Span
    all = ranges_of (both a b)

    all_ascending : Ascending all
    all_ascending = (elem_set (both a b) (both_good a b first_good second_good)).ascending

    same_of_type : (x : ℤ) → lo ≤ℤ x → x ≤ℤ hi → holds all x ≡ holds (gaps us) x
    same_of_type x l h =
        let w = word_between lo hi x p q l h in
        (elem_set (both a b) (both_good a b first_good second_good)).right x w ∙ both_matches a b x ∙ sym (left_matched x w)

    -- its lower bound is matched where both forms are written from what they leave out
    matches_lower : (t : List ℕ) (o₃ : Bool) (cs : List Span) → WrittenFrom lo hi t o₃ cs → matches (side_elem o₃ cs) lo ≡ o₃
    matches_lower t true cs w = sym (not-not (matches (side_elem true cs) lo)) ∙ ap not (sym (leaves_out lo hi p q o t true cs w lo p) ∙ between_lower lo hi p cs w.between)
    matches_lower t false cs w =
        sym (not-not (matches (side_elem false cs) lo))
        ∙ ap not (sym (leaves_out lo hi p q o t false cs w lo p) ∙ holds_gaps cs (between_ascending lo hi p cs w.between) lo p ∙ ap not (between_lower lo hi p cs w.between))

    lower_side : holds (gaps us) lo ≡ (o₁ && o₂)
    lower_side = left_matched lo p ∙ ap₂ (λ (i j : Bool). i && j) (matches_lower s o₁ rs u) (matches_lower t o₂ ss v)

    left_ascending : Ascending (gaps us)
    left_ascending = ascending_gaps us ascending_out

    ranges_same : side_ranges lo hi all ≡ cut_to lo hi (gaps_unless (o₁ && o₂) us)
    ranges_same = same_sides lo hi p q o all (gaps us) all_ascending left_ascending same_of_type ∙ (side_of_gaps lo hi (o₁ && o₂) us ascending_out lower_side).0

    form_same : normal_form lo hi (both a b) ≡ side_form (o₁ && o₂) (cut_to lo hi (gaps_unless (o₁ && o₂) us))
    unfolding normal_form
    form_same = same_forms lo hi p q o all (gaps us) all_ascending left_ascending same_of_type ∙ (side_of_gaps lo hi (o₁ && o₂) us ascending_out lower_side).1

    pub meeting_is : (room : List ℕ) → written_from lo hi (o₁ && o₂) us room ≡ meeting_of lo hi s t room
    unfolding meeting_of meet_read met is_form form_leaves
    meeting_is room =
        rw (
          form_under lo hi p q o s o₁ rs u,
          form_under lo hi p q o t o₂ ss v,
          lists_same s (normal_form lo hi a) (form_is lo hi p q o s o₁ rs u),
          lists_same t (normal_form lo hi b) (form_is lo hi p q o t o₂ ss v),
          ranges_same,
          over_64 (length (cut_to lo hi (gaps_unless (o₁ && o₂) us))),
          form_same,
        )

  -- ---- a normal form is written from ranges

  pub is_written : (t : List ℕ) (e : Elem Leaf) → read_element (typed_head lo hi) t ≡ got e [] → is_form lo hi t e ≡ true → (outside : Bool) × (rs : List Span) × WrittenFrom lo hi t outside rs
  unfolding is_form
  is_written t e r h =
      (holds (ranges_of e) lo, side_ranges lo hi (ranges_of e), subst (λ (f : List ℕ). WrittenFrom lo hi f (holds (ranges_of e) lo) (side_ranges lo hi (ranges_of e))) (sym (same_lists t (normal_form lo hi e) h)) (form_written lo hi p q o t e r))

-- ---- an input that is none

-- no ranges, or bounds that are reversed
abbrev pub NoForm : ℤ → ℤ → List ℕ → Type 0
NoForm lo hi t = (outside : Bool) (rs : List Span) → WrittenFrom lo hi t outside rs → ⊥

module _ (lo hi : ℤ) (p : Word lo) (q : Word hi) (s t room : List ℕ) where
  pub fault_is : (lt_z hi lo ≡ false → (NoForm lo hi s → ⊥) → NoForm lo hi t) → answer (fault_of (read_under lo hi s) (read_under lo hi t)) 0 room ≡ meeting_of lo hi s t room
  unfolding meeting_of meet_read met fault_of
  fault_is none = go (under lo hi s) (under lo hi t)
    where
      not_both : (a b : Elem Leaf) → read_element (typed_head lo hi) s ≡ got a [] → read_element (typed_head lo hi) t ≡ got b [] → lt_z hi lo ≡ false → (is_form lo hi s a && is_form lo hi t b) ≡ false
      not_both a b x y l =
          let o : lo ≤ℤ hi = ordered lo hi p q l in
          not_so (is_form lo hi s a && is_form lo hi t b)
          (λ e.
          let f = is_written lo hi p q o s a x (and_left (is_form lo hi s a) (is_form lo hi t b) e) in
          let g = is_written lo hi p q o t b y (and_right (is_form lo hi s a) (is_form lo hi t b) e) in
          none l (λ n. n f.0 f.1 f.2) g.0 g.1 g.2)

      go : Under lo hi s → Under lo hi t → answer (fault_of (read_under lo hi s) (read_under lo hi t)) 0 room ≡ meet_read lo hi s t (read_under lo hi s) (read_under lo hi t) room
      go (refused_under r e n) y = rw e
      go (read_as a e x l) (refused_under r f n) = rw (e, f)
      go (read_as a e x l) (read_as b f y m) = rw (e, f, not_both a b x y l)

-- ---- inputs that were read as forms

module _ (lo hi : ℤ) (t : List ℕ) (los his los' his' : List ℤ) (found outside : Bool) (n : ℕ) where
  pub read_written : FormRead lo hi t los his los' his' found outside n → found ≡ true → WrittenFrom lo hi t outside (view n los' his')
  read_written (reads_as_form e a b c w) f = w
  read_written (no_form e x y a b w) f = absurd (clash f e)

  pub read_none : FormRead lo hi t los his los' his' found outside n → found ≡ false → NoForm lo hi t
  read_none (reads_as_form e a b c w) f = absurd (clash e f)
  read_none (no_form e x y a b w) f = w

  pub read_held : Word lo → FormRead lo hi t los his los' his' found outside n → found ≡ true → length los ≡ 65 → length his ≡ 65 → Held n los' his'
  read_held p (reads_as_form e a b c w) f g h = record { size_low = a ∙ g; size_high = b ∙ h; few = c; ascending = between_ascending lo hi p (view n los' his') w.between }
  read_held p (no_form e x y a b w) f g h = absurd (clash f e)
