-- The matcher's number and the group together. Assumes nothing.
-- number_same: the number is the same with any room that is long enough. one_behind, one_where: what stands behind a 1.
-- why_group, why_none: what `why_not` gives where there is a group, and where there is none. asked_group, given_one: what that says where groups are asked.
-- one_number, one_group: the promise allows one answer.
use mathlib.Core.Path.{◌≡◌, refl, sym, ap, ◌∙◌, subst}
use mathlib.Core.Bool.{Bool, true, false}
use mathlib.Core.Logic.{◌⊎◌, ⊎_elim}
use mathlib.Core.List.{List, []}
use Prim.Native.Nat.{ℕ, ◌≤◌}
use native.Mathlib.Omega.{arith}
use lib.Dec.{ltb}
use lib.ListN.{length, replicate, length-replicate}
use borrow.Author.Tests.{le-ltb, ltb-false}
use Rattle.facts.proofs.Cases.{by-test, same?}
use Rattle.masks.specs.Masks.{bit}
use Rattle.masks.proofs.Masks.{bit_none, bits_same}
use Rattle.format.specs.declared.Family.{Family}
use Rattle.grammar.specs.Family.{LeafOf, ElementOf}
use Rattle.grammar.specs.Template.{Template}
use Rattle.grammar.specs.Read.{Read, refuse, got}
use Rattle.grammar.specs.Whole.{read_template}
use Rattle.grammar.proofs.RefusalNumbers.{Cases, is_refused, is_read, read_cases}
use Rattle.matching.specs.Search.{Maybe, nothing, just, first_witness}
use Rattle.matching.specs.Answer.{given, or_refused, written, element_outside, match_read, match_answer, Taken}
use Rattle.matching.proofs.Answers.{few_members_lem, outside_where, matched_where, unmatched_where}
use Rattle.reasons.specs.Reason.{ShortGroup, Reason, Chosen, a_reason, no_reason}
use Rattle.facts.proofs.CountedSets.{count_none}
use Rattle.reasons.proofs.Groups.{reason_same}
use Rattle.reasons.proofs.Hall.{hall}
use Rattle.why.specs.Why.{Asked, of_nothing, of_groups, asked_of, GroupOf, GroupRead, number_of, WhyOf}
use Rattle.why.specs.Contract.{Grouped, GroupFor}
use Rattle.why.specs.Unmatched.{Unmatched}
use Rattle.why.proofs.Obeyed.{Question, asked_question}

-- ---- the number
written_number : (m : Maybe) (room room' : List ℕ) → number_of (written m room) ≡ number_of (written m room')
unfolding written
written_number nothing room room' = refl
written_number (just w) room room' = refl

unrefused_number : (outside : Bool) (m : Maybe) (room room' : List ℕ) → number_of (or_refused outside 17 room (written m room)) ≡ number_of (or_refused outside 17 room' (written m room'))
unrefused_number true m room room' = refl
unrefused_number false m room room' = written_number m room room'

read_number : (fam : Family) (o : Read (Template (LeafOf fam))) (xs : List (ElementOf fam)) (room room' : List ℕ) → number_of (match_read fam o xs room) ≡ number_of (match_read fam o xs room')
unfolding match_read
read_number fam (refuse r) xs room room' = refl
read_number fam (got s rest) xs room room' = unrefused_number (element_outside fam s xs) (first_witness fam s xs) room room'

-- a list that is too long is refused with any room
abbrev pub Enough : {X : Type 0} → List X → List ℕ → Type 0
Enough xs room = length xs ≤ 32 → length xs ≤ length room

-- a room as long as the list
abbrev pub own_room : {X : Type 0} → List X → List ℕ
own_room xs = replicate {A = ℕ} (length xs) 0

pub own_enough : {X : Type 0} (xs : List X) → length xs ≤ length (own_room xs)
own_enough xs = let l = length-replicate {A = ℕ} (length xs) 0 in omega arith

pub number_same : (fam : Family) (t : List ℕ) (xs : List (ElementOf fam)) (room room' : List ℕ) → Enough xs room → Enough xs room' → number_of (match_answer fam t xs room) ≡ number_of (match_answer fam t xs room')
unfolding match_answer
number_same fam t xs room room' l l' = by-test (ltb 4096 (length t))
    (λ e. rw e refl)
    (λ e. by-test (ltb 32 (length xs))
    (λ f. rw (e, f) refl)
    (λ f.
    let short = ltb-false 32 (length xs) f in
    rw (e, f, le-ltb (length room) (length xs) (l short), le-ltb (length room') (length xs) (l' short)) (read_number fam (read_template fam t) xs room room')))

-- ---- what stands behind a 1
one_taken : (fam : Family) (t : List ℕ) (xs : List (ElementOf fam)) (room : List ℕ) → number_of (match_answer fam t xs room) ≡ 1 → Taken t xs
unfolding match_answer
one_taken fam t xs room h = by-test (ltb 4096 (length t))
    (λ e. let q : 2 ≡ 1 = rw e at h in absurd (omega arith))
    (λ e. by-test (ltb 32 (length xs))
    (λ f. let q : 11 ≡ 1 = rw (e, f) at h in absurd (omega arith))
    (λ f. (ltb-false 4096 (length t) e, ltb-false 32 (length xs) f)))

one_inside : (fam : Family) (t : List ℕ) (xs : List (ElementOf fam)) (room : List ℕ) (s : Template (LeafOf fam)) → Taken t xs → length xs ≤ length room → number_of (match_answer fam t xs room) ≡ 1 → read_template fam t ≡ got s []
    → element_outside fam s xs ≡ false
one_inside fam t xs room s k l h q = by-test (element_outside fam s xs)
    (λ e. let z = sym h ∙ ap number_of (outside_where fam t xs room s k l q e) in absurd (omega arith))
    (λ e. e)

pub one_behind : (fam : Family) (t : List ℕ) (xs : List (ElementOf fam)) (room : List ℕ) (s : Template (LeafOf fam)) → Enough xs room → number_of (match_answer fam t xs room) ≡ 1 → read_template fam t ≡ got s [] → Unmatched fam t xs s
one_behind fam t xs room s l h q =
    let k = one_taken fam t xs room h in
    let i = one_inside fam t xs room s k (l k.1) h q in
    record { taken = k; reading = q; inside = i; none = λ w o. let z = sym h ∙ ap number_of (matched_where fam t xs room s k (l k.1) q i w o).answer in omega arith }

pub one_where : {fam : Family} {t : List ℕ} {xs : List (ElementOf fam)} {s : Template (LeafOf fam)} → Unmatched fam t xs s → (room : List ℕ) → length xs ≤ length room → number_of (match_answer fam t xs room) ≡ 1
one_where {fam} {t} {xs} {s} u room l = ap number_of (unmatched_where fam t xs room s u.taken l u.reading u.inside u.none)

-- a group of nobody is not short
pub empty_not_short : {ok : ℕ → ℕ → Bool} {k n g : ℕ} → g ≡ 0 → ShortGroup ok k n (bit g) → ⊥
empty_not_short {ok} {k} {n} {g} z s =
    let e = count_none (bit g) 32 (λ i l. ap (λ (j : ℕ). bit j i) z ∙ bit_none i) in
    let f = s.few in
    omega arith

-- ---- where there is a group
why_given : {fam : Family} {t : List ℕ} {xs : List (ElementOf fam)} {s : Template (LeafOf fam)} {ok : ℕ → ℕ → Bool} {k n g : ℕ} → Taken t xs → read_template fam t ≡ got s [] → element_outside fam s xs ≡ false → asked_of fam s xs ≡ of_groups ok k n
    → Reason ok k n (bit g) → ShortGroup ok k n (bit g) → WhyOf fam t xs 1 g
unfolding GroupRead GroupOf
why_given {fam} {t} {xs} {s} {ok} {k} {n} {g} taken q i e r short =
    let u = asked_question (few_members_lem fam t s q) taken.1 e in
    record {
      number = one_where (record { taken = taken; reading = q; inside = i; none = u.unmet (bit g) short });
      group = subst (λ o. GroupRead fam o xs 1 g) (sym q) (subst (λ a. GroupOf a 1 g) (sym e) ((λ _. (r, short)), λ no. absurd (no refl)));
    }

pub why_group : {fam : Family} {t : List ℕ} {xs : List (ElementOf fam)} {g : ℕ} → GroupFor fam t xs g → (g ≡ 0 → ⊥) → WhyOf fam t xs 1 g
unfolding Grouped
why_group {fam} {t} {xs} {g} h some = asked (asked_of fam a.0 xs) refl (h.group a.1 a.0 a.2 a.3)
  where
    a : (s : Template (LeafOf fam)) × Taken t xs × (read_template fam t ≡ got s []) × (element_outside fam s xs ≡ false)
    a = h.accepted some

    by_reason : (ok : ℕ → ℕ → Bool) (k n : ℕ) → asked_of fam a.0 xs ≡ of_groups ok k n → Rattle.reasons.specs.Reason.Given ok k n g → WhyOf fam t xs 1 g
    by_reason ok k n e (a_reason r short) = why_given a.1 a.2 a.3 e r short
    by_reason ok k n e (no_reason z never) = absurd (some z)

    asked : (q : Asked) → asked_of fam a.0 xs ≡ q → Grouped q g → WhyOf fam t xs 1 g
    asked of_nothing e z = absurd (some z)
    asked (of_groups ok k n) e r = by_reason ok k n e r

-- ---- where there is none
module _ (fam : Family) (t : List ℕ) (xs : List (ElementOf fam)) (room : List ℕ) (r g : ℕ) (enough : Enough xs room) (h : GroupFor fam t xs g) (z : g ≡ 0) (after : List ℕ) (answer : given r after ≡ match_answer fam t xs room) where
  number : number_of (match_answer fam t xs room) ≡ r
  number = sym (ap number_of answer)

  -- an accepted template of which groups are asked matches
  not_one : (s : Template (LeafOf fam)) (ok : ℕ → ℕ → Bool) (k n : ℕ) → read_template fam t ≡ got s [] → asked_of fam s xs ≡ of_groups ok k n → r ≡ 1 → ⊥
  unfolding Grouped
  not_one s ok k n q e one = go (subst (λ a. Grouped a g) e (h.group u.taken s q u.inside))
    where
      u : Unmatched fam t xs s
      u = one_behind fam t xs room s enough (number ∙ one) q

      c : Question fam s xs ok k n
      c = asked_question (few_members_lem fam t s q) u.taken.1 e

      go : Rattle.reasons.specs.Reason.Given ok k n g → ⊥
      go (a_reason reason short) = empty_not_short z short
      go (no_reason y never) = ⊎_elim
          (λ (f : (f : ℕ → ℕ) × Chosen ok k n f). let w = c.met f.0 f.1 in u.none w.0 w.1)
          (λ (f : (G : ℕ → Bool) × ShortGroup ok k n G). never f.0 f.1)
          (hall ok k n c.few)

  asked_none : (s : Template (LeafOf fam)) → read_template fam t ≡ got s [] → (a : Asked) → asked_of fam s xs ≡ a → GroupOf a r g
  unfolding GroupOf
  asked_none s q of_nothing e = z
  asked_none s q (of_groups ok k n) e = (λ one. absurd (not_one s ok k n q e one), λ _. z)

  pub why_none : WhyOf fam t xs r g
  unfolding GroupRead
  why_none = record { number = λ room' l. number_same fam t xs room' room (λ _. l) enough ∙ number; group = go (read_cases fam t) }
    where
      go : Cases (read_template fam t) → GroupRead fam (read_template fam t) xs r g
      go (is_refused q e p) = subst (λ o. GroupRead fam o xs r g) (sym e) z
      go (is_read s e) = subst (λ o. GroupRead fam o xs r g) (sym e) (asked_none s e (asked_of fam s xs) refl)

-- ---- what the promise says where groups are asked
pub asked_group : {fam : Family} {t : List ℕ} {xs : List (ElementOf fam)} {r g : ℕ} {s : Template (LeafOf fam)} {ok : ℕ → ℕ → Bool} {k n : ℕ} → WhyOf fam t xs r g → read_template fam t ≡ got s [] → asked_of fam s xs ≡ of_groups ok k n
    → GroupOf (of_groups ok k n) r g
unfolding GroupRead
asked_group {fam} {t} {xs} {r} {g} {s} {ok} {k} {n} h q e = subst (λ a. GroupOf a r g) e (subst (λ o. GroupRead fam o xs r g) q h.group)

-- a group is given only with a 1
pub given_one : {fam : Family} {t : List ℕ} {xs : List (ElementOf fam)} {r g : ℕ} {s : Template (LeafOf fam)} {ok : ℕ → ℕ → Bool} {k n : ℕ} → WhyOf fam t xs r g → (g ≡ 0 → ⊥) → read_template fam t ≡ got s [] → asked_of fam s xs ≡ of_groups ok k n
    → (r ≡ 1) × Reason ok k n (bit g) × ShortGroup ok k n (bit g)
unfolding GroupOf
given_one {fam} {t} {xs} {r} {g} {s} {ok} {k} {n} h some q e =
    let w = asked_group h q e in
    ⊎_elim (λ (one : r ≡ 1). (one, (w.0 one).0, (w.0 one).1)) (λ (no : r ≡ 1 → ⊥). absurd (some (w.1 no))) (same? r 1)

-- ---- one answer
module _ {fam : Family} {t : List ℕ} {xs : List (ElementOf fam)} {r g r' g' : ℕ} (h : WhyOf fam t xs r g) (h' : WhyOf fam t xs r' g') where
  pub one_number : r ≡ r'
  one_number = sym (h.number (own_room xs) (own_enough xs)) ∙ h'.number (own_room xs) (own_enough xs)

  same_group : (a : Asked) → GroupOf a r g → GroupOf a r' g' → g ≡ g'
  unfolding GroupOf
  same_group of_nothing p q = p ∙ sym q
  same_group (of_groups ok k n) p q = ⊎_elim
      (λ (one : r ≡ 1). bits_same g g' (reason_same (p.0 one).0 (q.0 (sym one_number ∙ one)).0))
      (λ (no : r ≡ 1 → ⊥). p.1 no ∙ sym (q.1 (λ one. no (one_number ∙ one))))
      (same? r 1)

  read_group : (o : Read (Template (LeafOf fam))) → GroupRead fam o xs r g → GroupRead fam o xs r' g' → g ≡ g'
  unfolding GroupRead
  read_group (refuse q) a b = a ∙ sym b
  read_group (got s rest) a b = same_group (asked_of fam s xs) a b

  pub one_group : g ≡ g'
  one_group = read_group (read_template fam t) h.group h'.group
