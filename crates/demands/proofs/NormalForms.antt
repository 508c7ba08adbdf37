-- Laws of normal forms, of elements of the type from lo to hi. What carries them: the ranges of an element template hold what it matches (`Sets` of `forms`),
-- a set has one list of ascending ranges, cut to the type too, and the bytes of a form read as an element template of these ranges (`FormSides` of `forms`).
-- Assumes nothing.
use mathlib.Core.Path.{◌≡◌, sym, ap, ◌∙◌, subst}
use mathlib.Core.Bool.{true, false, ◌&&◌}
use mathlib.Core.List.{List, ◌∷◌, ◌++◌}
use Prim.Native.Nat.{ℕ, ◌*◌, ◌≤◌, ◌<◌}
use native.Mathlib.Omega.{arith}
use lib.IntN.{ℤ, pos, ◌+ℤ◌, ◌-ℤ◌}
use lib.Signed.{lt_z, le_z, ◌≤ℤ◌, le_z_yes}
use lib.Dec.{T}
use lib.ListN.{length, drop}
use borrow.Author.Tests.{le-ltb}
use Rattle.ranges.specs.Spans.{Span, span, holds, Ascending, cut_to}
use Rattle.ranges.proofs.JoinsAndGaps.{Words, words_of, proper_of, words_drop}
use Rattle.ranges.proofs.Cuts.{words_cut, holds_cut, holds_in_type, ascending_cut, word_between, none_before_cut, none_after_cut}
use Rattle.integers.specs.Integer.{Word}
use Rattle.integers.proofs.Ranks.{rank_word, word_next, word_prev}
use Rattle.integers.proofs.SignedLocals.{lt_rank}
use Rattle.grammar.specs.Element.{Elem, leaves}
use Rattle.grammar.specs.Leaf.{Leaf, leaf_head, typed_head}
use Rattle.grammar.specs.Matches.{matches}
use Rattle.grammar.proofs.TypedReading.{Inside}
use Rattle.facts.proofs.Cases.{and_left, and_right}
use Rattle.forms.specs.Answer.{answer, placed, read_under, answer_to, normalised}
use Rattle.demands.specs.NormalForms.{Accepted, SameIntegers}
use Rattle.forms.specs.Form.{side_form, normal_form, side_ranges, form_length}
use Rattle.forms.specs.Matched.{ranges_of, ranges_in}
use Rattle.forms.proofs.Accepts.{Good, read_inv, read_of, typed_read, typed_facts}
use Rattle.forms.proofs.FormSides.{form_side, side_elem, side_reads, side_inside, side_leaves, side_most, side as side-of-set}
use Rattle.forms.proofs.Lengths.{length_form}
use Rattle.forms.proofs.Readings.{not_after, ReadsAs}
use Rattle.forms.proofs.SameForms.{same_forms}
use Rattle.forms.proofs.Sets.{SetOf, elem_set}

-- ---- the form of e

-- what it reads as, and how much it has
pub record Side (lo hi : ℤ) (e : Elem Leaf) : Type 0 where
  pub what : Elem Leaf
  pub reads : ReadsAs (normal_form lo hi e) what
  pub inside : Inside lo hi what
  pub same : SameIntegers lo hi what e
  pub count : leaves what ≤ leaves e
  pub size : length (normal_form lo hi e) ≤ 578

pub length_normal_form : (lo hi : ℤ) (e : Elem Leaf) → length (normal_form lo hi e) ≡ form_length lo hi (ranges_of e)
unfolding normal_form
length_normal_form lo hi e = length_form lo hi (ranges_of e)

pub one_element : (lo hi : ℤ) (s : List ℕ) (e e' : Elem Leaf) → Accepted lo hi s e → Accepted lo hi s e' → e ≡ e'
one_element lo hi s e e' p q = cc

pub accepted_side : (lo hi : ℤ) (e : Elem Leaf) (s : Side lo hi e) → Accepted lo hi (normal_form lo hi e) s.what
accepted_side lo hi e s =
    typed_read lo hi (normal_form lo hi e) s.what
    (read_of leaf_head (normal_form lo hi e) s.what s.reads.count (omega (arith, s.size)) s.reads.reads) s.inside

module _ (lo hi : ℤ) (p : Word lo) (q : Word hi) (o : lo ≤ℤ hi) where
  module _ (e : Elem Leaf) (g : Good e) where
    own : SetOf (ranges_of e) (matches e) (2 * leaves e)
    own = elem_set e g

    module _ (some : 0 < leaves e) (most : leaves e ≤ 64) where
      side : Side lo hi e
      unfolding normal_form
      side =
          let o₁ = holds (ranges_of e) lo in
          let rs = side_ranges lo hi (ranges_of e) in
          let d = side-of-set lo hi p q o (ranges_of e) (matches e) (leaves e) own in
          let proper = proper_of rs d.ascending in
          let few : length rs ≤ 64 = omega (arith, d.few) in
          let is : normal_form lo hi e ≡ side_form o₁ rs = form_side lo hi (ranges_of e) in
          record {
            what = side_elem o₁ rs;
            reads = rw is (side_reads o₁ rs few proper);
            inside = side_inside lo hi o₁ rs proper d.among;
            same = d.same;
            count = omega (arith, side_leaves o₁ rs, d.few);
            size = rw is (side_most o₁ rs few);
          }

    -- ---- what a form is written from

    pub ascending_in : Ascending (ranges_in lo hi e)
    unfolding ranges_in
    ascending_in = ascending_cut lo hi p q (ranges_of e) o own.ascending

    pub inside_in : (x : ℤ) → Word x → holds (ranges_in lo hi e) x ≡ true → (lo ≤ℤ x) × (x ≤ℤ hi)
    unfolding ranges_in
    inside_in x v h =
        let both = sym (holds_cut lo hi p q (ranges_of e) x (words_of (ranges_of e) own.ascending) v) ∙ h in
        let here = and_left (le_z lo x && le_z x hi) (holds (ranges_of e) x) both in
        (le_z_yes (subst T (sym (and_left (le_z lo x) (le_z x hi) here)) tt), le_z_yes (subst T (sym (and_right (le_z lo x) (le_z x hi) here)) tt))

    pub right_in : (x : ℤ) → lo ≤ℤ x → x ≤ℤ hi → holds (ranges_in lo hi e) x ≡ matches e x
    unfolding ranges_in
    right_in x a b = holds_in_type lo hi p q (ranges_of e) x (words_of (ranges_of e) own.ascending) a b ∙ own.right x (word_between lo hi x p q a b)

    -- the neighbours of a range are of the type where it goes on
    pub widest_of : (k : ℕ) (a b : ℤ) (rs : List Span) → drop k (ranges_in lo hi e) ≡ span a b ∷ rs
        → (lt_z lo a ≡ true → matches e (a -ℤ pos 1) ≡ false) × (lt_z b hi ≡ true → matches e (b +ℤ pos 1) ≡ false)
    unfolding ranges_in
    widest_of k a b rs d =
        let f = own.ascending in
        let w = subst Words d (words_drop k (cut_to lo hi (ranges_of e)) (words_cut lo hi p q (ranges_of e) (words_of (ranges_of e) f))) in (
          λ h.
              let lt = lt_rank lo a p w.0 h in
              sym (own.right (a -ℤ pos 1) (word_prev a w.0 (omega arith))) ∙ none_before_cut lo hi p q (ranges_of e) o f k a b rs d h,
          λ h.
              let lt = lt_rank b hi w.1 q h in
              sym (own.right (b +ℤ pos 1) (word_next b w.1 (omega (arith, rank_word hi q)))) ∙ none_after_cut lo hi p q (ranges_of e) o f k a b rs d h,
        )

  pub side_of : (t : List ℕ) (e : Elem Leaf) → Accepted lo hi t e → Side lo hi e
  side_of t e a = let f = typed_facts lo hi t e a in side e f.0 f.1 f.2

  -- ---- a form and the integers that it matches

  -- a room that is long enough gets the form
  pub form_placed : (t : List ℕ) (e : Elem Leaf) (room : List ℕ) → Accepted lo hi t e → length (normal_form lo hi e) ≤ length room
      → normalised lo hi t room ≡ answer 0 (length (normal_form lo hi e)) (normal_form lo hi e ++ drop (length (normal_form lo hi e)) room)
  unfolding normalised read_under answer_to placed
  form_placed t e room a h =
      rw (le-ltb 4096 (length t) (read_inv (typed_head lo hi) t e a).small, not_after lo hi p q o, a, le-ltb (length room) (length (normal_form lo hi e)) h)

  pub same_form : (e e' : Elem Leaf) → Good e → Good e' → SameIntegers lo hi e e' → normal_form lo hi e ≡ normal_form lo hi e'
  unfolding normal_form
  same_form e e' g g' h =
      same_forms lo hi p q o (ranges_of e) (ranges_of e') (own e g).ascending (own e' g').ascending
      (λ x a b. let w = word_between lo hi x p q a b in (own e g).right x w ∙ h x a b ∙ sym ((own e' g').right x w))

  module _ (t : List ℕ) (e : Elem Leaf) (a : Accepted lo hi t e) where
    module _ (t' : List ℕ) (e' : Elem Leaf) (a' : Accepted lo hi t' e') where
      pub same_integers_same_form : SameIntegers lo hi e e' → normal_form lo hi e ≡ normal_form lo hi e'
      same_integers_same_form = same_form e e' (typed_facts lo hi t e a).0 (typed_facts lo hi t' e' a').0

      pub same_form_same_integers : normal_form lo hi e ≡ normal_form lo hi e' → SameIntegers lo hi e e'
      same_form_same_integers h x l u =
          let s = side_of t e a in
          let s' = side_of t' e' a' in
          let back : s.what ≡ s'.what = one_element lo hi (normal_form lo hi e) s.what s'.what (accepted_side lo hi e s) (subst (λ (f : List ℕ). Accepted lo hi f s'.what) (sym h) (accepted_side lo hi e' s')) in
          sym (s.same x l u) ∙ ap (λ (v : Elem Leaf). matches v x) back ∙ s'.same x l u

    -- the form, read again
    module _ (e' : Elem Leaf) (a' : Accepted lo hi (normal_form lo hi e) e') where
      back : (side_of t e a).what ≡ e'
      back = one_element lo hi (normal_form lo hi e) (side_of t e a).what e' (accepted_side lo hi e (side_of t e a)) a'

      pub form_of_form : normal_form lo hi e' ≡ normal_form lo hi e
      form_of_form =
          let s = side_of t e a in
          same_form e' e (typed_facts lo hi (normal_form lo hi e) e' a').0 (typed_facts lo hi t e a).0 (λ x l u. ap (λ (v : Elem Leaf). matches v x) (sym back) ∙ s.same x l u)

      pub leaves_of_form : leaves e' ≤ leaves e
      leaves_of_form = subst (λ (v : Elem Leaf). leaves v ≤ leaves e) back (side_of t e a).count
