-- The laws, proved: the combination is accepted since its parts read again inside it, every call writes the normal form, and two templates that match the same
-- integers have one normal form; what is left of each law is a law of Booleans. Assumes nothing.
use mathlib.Core.Path.{◌≡◌, refl, sym, ap, ap₂, ◌∙◌, subst}
use mathlib.Core.Bool.{Bool, true, false, not, ◌&&◌, ◌||◌, or-false}
use mathlib.Core.List.{List, [], ◌∷◌, ◌++◌}
use Prim.Native.Nat.{ℕ, ◌≤◌}
use native.Mathlib.Omega.{arith}
use lib.IntN.{ℤ}
use lib.Signed.{◌≤ℤ◌}
use lib.ListN.{length, drop}
use Rattle.grammar.specs.Element.{Elem, leaves}
use Rattle.grammar.specs.Leaf.{Leaf}
use Rattle.grammar.specs.Matches.{matches_by, matches}
use Rattle.forms.specs.Answer.{answer}
use Rattle.forms.specs.Matched.{ranges_of}
use Rattle.forms.specs.Form.{normal_form, form_leaves}
use Rattle.forms.proofs.Accepts.{Good}
use Rattle.meeting.specs.Meeting.{both as both_of, meeting_of}
use Rattle.meeting.proofs.Meetings.{both_matches, both_good}
use Rattle.demands.specs.NormalForms.{Accepted, SameIntegers}
use Rattle.demands.specs.Claims.{IsType}
use Rattle.demands.proofs.NormalForms.{one_element}
use Rattle.algebra.specs.Together.{depth, list_of, complement_of, list, complement, Fits}
use Rattle.algebra.specs.Claims.{Writes, SameForm, Listed, Complemented, Commutes, Groups, Flattens, Idempotent, TwiceTurned, Neither, Meets, Forms, MetBy, MeetingGiven, EveryMeeting, MeetingRows, MeetsBoth, NeitherMeets, MeetOverList, ListOverMeet}
use Rattle.algebra.specs.Claims as claims
use Rattle.algebra.proofs.Joins.{joins}
use Rattle.algebra.proofs.Meetings.{MeetingOutcome, untouched, wrote, meeting_answer, meeting_called, row_number, meeting_outcome}
use Rattle.algebra.proofs.Written.{FormOf, Met, form_of, good_of, few_of, form_there, writes_form, same_leaves, same_of, writes_inv, meets_inv, meets_of}

pub listed : Listed
listed lo hi ss es some parts = joins lo hi false ss es some parts

pub complemented : Complemented
complemented lo hi ss es some parts = joins lo hi true ss es some parts

-- ---- normal forms

same_form : (lo hi : ℤ) (s t : List ℕ) (a b : Elem Leaf) → IsType lo hi → Accepted lo hi s a → Accepted lo hi t b → ((x : ℤ) → matches a x ≡ matches b x) → SameForm lo hi s t
same_form lo hi s t a b w p q h =
    let same = same_of lo hi w a b (good_of lo hi w s a p) (good_of lo hi w t b q) (λ x _ _. h x) in
    (normal_form lo hi a, writes_form lo hi w s a p, subst (Writes lo hi t) (sym same) (writes_form lo hi w t b q))

-- ---- combinations of one, of two and of three

smaller : (a b : Elem Leaf) → leaves b ≤ leaves a → depth b ≤ depth a → Fits a → Fits b
smaller a b l d f = let m = f.few in let n = f.flat in record { few = omega arith; flat = omega arith }

module _ (lo hi : ℤ) (s : List ℕ) (a : Elem Leaf) (p : Accepted lo hi s a) where
  turned : Fits (complement (a ∷ [])) → Accepted lo hi (complement_of (s ∷ [])) (complement (a ∷ []))
  turned = (complemented lo hi (s ∷ []) (a ∷ []) (omega arith) (p, tt)).accepted

  module _ (t : List ℕ) (b : Elem Leaf) (q : Accepted lo hi t b) where
    both : Fits (list (a ∷ b ∷ [])) → Accepted lo hi (list_of (s ∷ t ∷ [])) (list (a ∷ b ∷ []))
    both = (listed lo hi (s ∷ t ∷ []) (a ∷ b ∷ []) (omega arith) (p, (q, tt))).accepted

    three : (u : List ℕ) (c : Elem Leaf) → Accepted lo hi u c → Fits (list (a ∷ b ∷ c ∷ [])) → Accepted lo hi (list_of (s ∷ t ∷ u ∷ [])) (list (a ∷ b ∷ c ∷ []))
    three u c r = (listed lo hi (s ∷ t ∷ u ∷ []) (a ∷ b ∷ c ∷ []) (omega arith) (p, (q, (r, tt)))).accepted

module _ (lo hi : ℤ) (s t u : List ℕ) (a b c : Elem Leaf) (p : Accepted lo hi s a) (q : Accepted lo hi t b) (r : Accepted lo hi u c) where
  from_left : Fits (list (list (a ∷ b ∷ []) ∷ c ∷ [])) → Accepted lo hi (list_of (list_of (s ∷ t ∷ []) ∷ u ∷ [])) (list (list (a ∷ b ∷ []) ∷ c ∷ []))
  unfolding leaves depth
  from_left f = both lo hi (list_of (s ∷ t ∷ [])) (list (a ∷ b ∷ [])) (both lo hi s a p t b q (smaller _ _ (omega arith) (omega arith) f)) u c r f

  from_right : Fits (list (a ∷ list (b ∷ c ∷ []) ∷ [])) → Accepted lo hi (list_of (s ∷ list_of (t ∷ u ∷ []) ∷ [])) (list (a ∷ list (b ∷ c ∷ []) ∷ []))
  unfolding leaves depth
  from_right f = both lo hi s a p (list_of (t ∷ u ∷ [])) (list (b ∷ c ∷ [])) (both lo hi t b q u c r (smaller _ _ (omega arith) (omega arith) f)) f

left_flat : (i j k : Bool) → ((i || (j || false)) || (k || false)) ≡ (i || (j || (k || false)))
left_flat true j k = refl
left_flat false true k = refl
left_flat false false k = refl

right_flat : (i j k : Bool) → (i || ((j || (k || false)) || false)) ≡ (i || (j || (k || false)))
right_flat true j k = refl
right_flat false true k = refl
right_flat false false true = refl
right_flat false false false = refl

-- ---- the laws

pub commutes : Commutes
unfolding matches_by leaves depth
commutes lo hi s t a b w p q f =
    same_form lo hi (list_of (s ∷ t ∷ [])) (list_of (t ∷ s ∷ [])) (list (a ∷ b ∷ [])) (list (b ∷ a ∷ [])) w
    (both lo hi s a p t b q f) (both lo hi t b q s a p (smaller _ _ (omega arith) (omega arith) f)) (λ x. go (matches a x) (matches b x))
  where
    go : (i j : Bool) → (i || (j || false)) ≡ (j || (i || false))
    go true true = refl
    go true false = refl
    go false true = refl
    go false false = refl

pub groups : Groups
unfolding matches_by
groups lo hi s t u a b c w p q r f g =
    same_form lo hi (list_of (list_of (s ∷ t ∷ []) ∷ u ∷ [])) (list_of (s ∷ list_of (t ∷ u ∷ []) ∷ [])) (list (list (a ∷ b ∷ []) ∷ c ∷ [])) (list (a ∷ list (b ∷ c ∷ []) ∷ [])) w
    (from_left lo hi s t u a b c p q r f) (from_right lo hi s t u a b c p q r g)
    (λ x. left_flat (matches a x) (matches b x) (matches c x) ∙ sym (right_flat (matches a x) (matches b x) (matches c x)))

pub flattens : Flattens
unfolding matches_by leaves depth
flattens lo hi s t u a b c w p q r = (
  λ f.
      same_form lo hi (list_of (list_of (s ∷ t ∷ []) ∷ u ∷ [])) (list_of (s ∷ t ∷ u ∷ [])) (list (list (a ∷ b ∷ []) ∷ c ∷ [])) (list (a ∷ b ∷ c ∷ [])) w
      (from_left lo hi s t u a b c p q r f) (three lo hi s a p t b q u c r (smaller _ _ (omega arith) (omega arith) f)) (λ x. left_flat (matches a x) (matches b x) (matches c x)),
  λ f.
      same_form lo hi (list_of (s ∷ list_of (t ∷ u ∷ []) ∷ [])) (list_of (s ∷ t ∷ u ∷ [])) (list (a ∷ list (b ∷ c ∷ []) ∷ [])) (list (a ∷ b ∷ c ∷ [])) w
      (from_right lo hi s t u a b c p q r f) (three lo hi s a p t b q u c r (smaller _ _ (omega arith) (omega arith) f)) (λ x. right_flat (matches a x) (matches b x) (matches c x)),
)

pub idempotent : Idempotent
unfolding matches_by
idempotent lo hi s a w p f = same_form lo hi (list_of (s ∷ s ∷ [])) s (list (a ∷ a ∷ [])) a w (both lo hi s a p s a p f) p (λ x. go (matches a x))
  where
    go : (i : Bool) → (i || (i || false)) ≡ i
    go true = refl
    go false = refl

pub twice_turned : TwiceTurned
unfolding matches_by leaves depth
twice_turned lo hi s a w p f =
    let once = turned lo hi s a p (smaller _ _ (omega arith) (omega arith) f) in
    same_form lo hi (complement_of (complement_of (s ∷ []) ∷ [])) s (complement (complement (a ∷ []) ∷ [])) a w
    (turned lo hi (complement_of (s ∷ [])) (complement (a ∷ [])) once f) p (λ x. go (matches a x))
  where
    go : (i : Bool) → not (not (i || false) || false) ≡ i
    go true = refl
    go false = refl

pub neither : Neither
unfolding matches_by
neither a b x = go (matches a x) (matches b x)
  where
    go : (i j : Bool) → not (i || (j || false)) ≡ (not (i || false) && not (j || false))
    go true j = refl
    go false true = refl
    go false false = refl

-- ---- the meeting

pub every_meeting : EveryMeeting
every_meeting = meeting_called

module _ (lo hi : ℤ) (s t room : List ℕ) (n l : ℕ) (after : List ℕ) (h : meeting_of lo hi s t room ≡ answer n l after) where
  row_of : MeetingOutcome lo hi s t room n l after → MetBy lo hi s t room n
  row_of (untouched p z a m) = m
  row_of (wrote a b f few long z k r) = claims.met a b f few long z

  given_of : MeetingOutcome lo hi s t room n l after → MeetingGiven lo hi s t room n l after
  given_of o = record {
    rows = λ r. (λ e. subst (MetBy lo hi s t room) e (row_of o), λ m. number r m);
    written = written o;
    untouched = stays o;
  }
    where
      number : (r : ℕ) → MetBy lo hi s t room r → n ≡ r
      number r m = let a = row_number lo hi s t room r m in let q : answer n l after ≡ answer r a.0 a.1 = sym h ∙ a.2 in cc

      written : MeetingOutcome lo hi s t room n l after → n ≡ 0 → (a b : Elem Leaf) → Accepted lo hi s a → Accepted lo hi t b
          → (l ≡ length (normal_form lo hi (both_of a b))) × (after ≡ normal_form lo hi (both_of a b) ++ drop l room)
      written (untouched p z a m) e c d x y = absurd (omega arith)
      written (wrote a b f few long z k r) e c d x y =
          let first = one_element lo hi s a c f.first x in
          let second = one_element lo hi t b d f.second y in
          rw (sym first, sym second) (k, r)

      stays : MeetingOutcome lo hi s t room n l after → (n ≡ 0 → ⊥) → (l ≡ 0) × (after ≡ room)
      stays (untouched p z a m) e = (z, a)
      stays (wrote a b f few long z k r) e = absurd (e z)

pub meeting_rows : MeetingRows
meeting_rows lo hi s t room n l after c =
    let h = meeting_answer s t lo hi room n l after c in
    given_of lo hi s t room n l after h (meeting_outcome lo hi s t room n l after h)

module _ (lo hi : ℤ) (w : IsType lo hi) where
  -- ---- what a form and a meeting match

  module _ (s t f : List ℕ) (m : Met lo hi s t f) where
    met_good : Good (both_of m.a m.b)
    met_good = both_good m.a m.b (good_of lo hi w s m.a m.forms.first) (good_of lo hi w t m.b m.forms.second)

    met_form : FormOf lo hi (both_of m.a m.b) f
    met_form = subst (FormOf lo hi (both_of m.a m.b)) (sym m.is) (form_of lo hi w (both_of m.a m.b) met_good m.few)

    met_same : (x : ℤ) → lo ≤ℤ x → x ≤ℤ hi → matches met_form.what x ≡ (matches m.a x && matches m.b x)
    met_same x l h = met_form.same x l h ∙ both_matches m.a m.b x

    met_normal : Writes lo hi f f
    met_normal =
        let x = met_form in
        subst (Writes lo hi f) (same_of lo hi w x.what (both_of m.a m.b) (good_of lo hi w f x.what x.reads) met_good x.same ∙ sym x.is) (writes_form lo hi w f x.what x.reads)

pub meets_both : MeetsBoth
meets_both lo hi s t f a b w p q h =
    let m = meets_inv lo hi w s t f h in
    let x = met_form lo hi w s t f m in
    let first = one_element lo hi s m.a a m.forms.first p in
    let second = one_element lo hi t m.b b m.forms.second q in
    rw (sym first, sym second) (record {
      what = x.what;
      reads = x.reads;
      normal = met_normal lo hi w s t f m;
      leaf_count = x.leaf_count;
      same = met_same lo hi w s t f m;
    })

-- ---- a complement of two

pub neither_meets : NeitherMeets
unfolding matches_by leaves depth
neither_meets lo hi s t a b w p q f =
    let whole = (complemented lo hi (s ∷ t ∷ []) (a ∷ b ∷ []) (omega arith) (p, (q, tt))).accepted f in
    let one = turned lo hi s a p (smaller _ _ (omega arith) (omega arith) f) in
    let two = turned lo hi t b q (smaller _ _ (omega arith) (omega arith) f) in
    let x = form_there lo hi w _ _ one in
    let y = form_there lo hi w _ _ two in
    let first_Good = good_of lo hi w _ _ x.reads in
    let second_good = good_of lo hi w _ _ y.reads in
    let forms : Forms lo hi (normal_form lo hi (complement (a ∷ []))) x.what (normal_form lo hi (complement (b ∷ []))) y.what = record {
      in_order = w.2;
      first = x.reads;
      second = y.reads;
      first_form = sym (same_of lo hi w x.what (complement (a ∷ [])) first_Good (good_of lo hi w _ _ one) x.same);
      second_form = sym (same_of lo hi w y.what (complement (b ∷ [])) second_good (good_of lo hi w _ _ two) y.same);
    } in
    let met_good = both_good x.what y.what first_Good second_good in
    let same : SameIntegers lo hi (both_of x.what y.what) (complement (a ∷ b ∷ [])) =
    λ z l h. both_matches x.what y.what z ∙ ap₂ (λ (i j : Bool). i && j) (x.same z l h) (y.same z l h) ∙ sym (neither a b z) in
    let few : form_leaves lo hi (ranges_of (both_of x.what y.what)) ≤ 64 = omega (arith, same_leaves lo hi w _ _ met_good (good_of lo hi w _ _ whole) same, few_of lo hi w _ _ whole) in (
      normal_form lo hi (complement (a ∷ [])),
      normal_form lo hi (complement (b ∷ [])),
      normal_form lo hi (complement (a ∷ b ∷ [])),
      writes_form lo hi w _ _ one,
      writes_form lo hi w _ _ two,
      subst (Meets lo hi (normal_form lo hi (complement (a ∷ []))) (normal_form lo hi (complement (b ∷ [])))) (same_of lo hi w _ _ met_good (good_of lo hi w _ _ whole) same) (meets_of lo hi w _ _ x.what y.what forms few),
      writes_form lo hi w _ _ whole,
    )

-- ---- the distributive laws

-- the bytes f are a normal form that matches what g says of the type
record Says (lo hi : ℤ) (f : List ℕ) (g : ℤ → Bool) : Type 0 where
  what : Elem Leaf
  reads : Accepted lo hi f what
  normal : f ≡ normal_form lo hi what
  right : (x : ℤ) → lo ≤ℤ x → x ≤ℤ hi → matches what x ≡ g x

module _ (lo hi : ℤ) (w : IsType lo hi) where
  -- there is one such form
  says_same : (f f' : List ℕ) (g g' : ℤ → Bool) → Says lo hi f g → Says lo hi f' g' → ((x : ℤ) → lo ≤ℤ x → x ≤ℤ hi → g x ≡ g' x) → f ≡ f'
  says_same f f' g g' a b h =
      a.normal
      ∙ same_of lo hi w a.what b.what (good_of lo hi w f a.what a.reads) (good_of lo hi w f' b.what b.reads) (λ x l u. a.right x l u ∙ h x l u ∙ sym (b.right x l u))
      ∙ sym b.normal

  says_of : (e : Elem Leaf) (f : List ℕ) (g : ℤ → Bool) → Good e → FormOf lo hi e f → ((x : ℤ) → matches e x ≡ g x) → Says lo hi f g
  says_of e f g good x h = record {
    what = x.what;
    reads = x.reads;
    normal = x.is ∙ sym (same_of lo hi w x.what e (good_of lo hi w f x.what x.reads) good x.same);
    right = λ y l u. x.same y l u ∙ h y;
  }

  module _ (s t f : List ℕ) (a b : Elem Leaf) (p : Accepted lo hi s a) (q : Accepted lo hi t b) where
    listed_says : Writes lo hi (list_of (s ∷ t ∷ [])) f → Says lo hi f (λ x. matches a x || matches b x)
    unfolding matches_by
    listed_says h =
        let d = writes_inv lo hi w (list_of (s ∷ t ∷ [])) f h in
        let e = list (a ∷ b ∷ []) in
        let accepted : Accepted lo hi (list_of (s ∷ t ∷ [])) e = subst (Accepted lo hi (list_of (s ∷ t ∷ []))) ((listed lo hi (s ∷ t ∷ []) (a ∷ b ∷ []) (omega arith) (p, (q, tt))).only d.what d.accepted).0 d.accepted in
        let same = one_element lo hi (list_of (s ∷ t ∷ [])) d.what e d.accepted accepted in
        says_of e f (λ x. matches a x || matches b x) (good_of lo hi w _ _ accepted)
        (subst (FormOf lo hi e) (sym (d.is ∙ ap (normal_form lo hi) same)) (form_there lo hi w _ _ accepted))
        (λ x. ap (λ (j : Bool). matches a x || j) (or-false (matches b x)))

    met_says : Meets lo hi s t f → Says lo hi f (λ x. matches a x && matches b x)
    met_says h =
        let m = meets_inv lo hi w s t f h in
        let first = one_element lo hi s m.a a m.forms.first p in
        let second = one_element lo hi t m.b b m.forms.second q in
        rw (sym first, sym second) (says_of (both_of m.a m.b) f (λ x. matches m.a x && matches m.b x) (met_good lo hi w s t f m) (met_form lo hi w s t f m) (both_matches m.a m.b))

pub meet_over_list : MeetOverList
meet_over_list lo hi s t u l v p q z w list_written whole-met first-met second-met all-written =
    let m = meets_inv lo hi w s t p first-met in
    let m' = meets_inv lo hi w s u q second-met in
    let a = m.a in
    let b = m.b in
    let c = m'.b in
    let sa = m.forms.first in
    let tb = m.forms.second in
    let uc = m'.forms.second in
    let inner = listed_says lo hi w t u l b c tb uc list_written in
    let left = met_says lo hi w s t p a b sa tb first-met in
    let right = met_says lo hi w s u q a c sa uc second-met in
    says_same lo hi w v z _ _
    (met_says lo hi w s l v a inner.what sa inner.reads whole-met)
    (listed_says lo hi w p q z left.what right.what left.reads right.reads all-written)
    (λ x i j. ap (λ (k : Bool). matches a x && k) (inner.right x i j) ∙ go (matches a x) (matches b x) (matches c x) ∙ ap₂ (λ (k h : Bool). k || h) (sym (left.right x i j)) (sym (right.right x i j)))
  where
    go : (i j k : Bool) → (i && (j || k)) ≡ ((i && j) || (i && k))
    go true j k = refl
    go false j k = refl

pub list_over_meet : ListOverMeet
list_over_meet lo hi s t u m v p q z a w sa inner-met outer-written first-written second-written all-met =
    let d = meets_inv lo hi w t u m inner-met in
    let b = d.a in
    let c = d.b in
    let tb = d.forms.first in
    let uc = d.forms.second in
    let inner = met_says lo hi w t u m b c tb uc inner-met in
    let left = listed_says lo hi w s t p a b sa tb first-written in
    let right = listed_says lo hi w s u q a c sa uc second-written in
    says_same lo hi w v z _ _
    (listed_says lo hi w s m v a inner.what sa inner.reads outer-written)
    (met_says lo hi w p q z left.what right.what left.reads right.reads all-met)
    (λ x i j. ap (λ (k : Bool). matches a x || k) (inner.right x i j) ∙ go (matches a x) (matches b x) (matches c x) ∙ ap₂ (λ (k h : Bool). k && h) (sym (left.right x i j)) (sym (right.right x i j)))
  where
    go : (i j k : Bool) → (i || (j && k)) ≡ ((i || j) && (i || k))
    go true j k = refl
    go false j k = refl
