-- The claims of specs/Claims.antt, proved. Assumes nothing.
use mathlib.Core.Path.{◌≡◌, refl, sym, ap, ◌∙◌, subst, subst₂}
use mathlib.Core.Bool.{Bool}
use mathlib.Core.Logic.{◌⊎◌, inl, inr, ⊎_elim}
use mathlib.Core.List.{List, []}
use Prim.Native.Nat.{ℕ, ◌≤◌, ◌<◌}
use native.Mathlib.Omega.{arith}
use lib.ListN.{length}
use lib.IntN.{ℤ}
use lib.Ieee.{Float}
use Rattle.format.specs.declared.Family.{Family}
use Rattle.grammar.specs.Family.{LeafOf, ElementOf, RowOf}
use Rattle.grammar.specs.Template.{Template}
use Rattle.grammar.specs.Read.{got}
use Rattle.grammar.specs.Whole.{read_template}
use Rattle.grammar.proofs.RefusalNumbers.{Cases, is_refused, is_read, read_cases}
use Rattle.matching.proofs.Answers.{few_members_lem}
use Rattle.reasons.specs.Reason.{ShortGroup, Chosen}
use Rattle.why.specs.Why.{Asked, of_nothing, of_groups, asked_of, GroupOf, GroupRead, number_of, WhyOf}
use Rattle.why.proofs.Obeyed.{asked_question, explained_asked}
use Rattle.why.proofs.NumberAndGroup.{own_room, own_enough, one_behind, one_where, asked_group, given_one, empty_not_short}
use Rattle.reasons.proofs.Groups.{reason_exists, reason_same, reason_short}
use Rattle.reasons.proofs.Closures.{most_shortfall}
use Rattle.reasons.proofs.Choices.{chosen_never}
use Rattle.reasons.proofs.Hall as hall-theorem
use Rattle.why.specs.Unmatched.{Unmatched, Explained}
use Rattle.demands.proofs.Claims.{first, every_input}
use Rattle.demands.proofs.Calls.{match_answer_lem}
use Rattle.reason_claims.specs.Calls.{WhyCall}
use Rattle.reason_claims.specs.Claims.{Exists, OnlyOne, Explains, Greatest, Hall, GivenWhere, GivenShort, NoneShorter, InsideOthers, NumberAgrees, NeverTwelve, ShortExactly}

-- ---- groups
pub exists : Exists
exists = reason_exists

pub only_one : OnlyOne
only_one ok k n G H = reason_same

pub explains : Explains
explains ok k n G H = reason_short

pub greatest : Greatest
greatest ok k n w U G few short d g = most_shortfall few short d g.most

pub hall : Hall
hall ok k n few short = (
  λ G s f c. chosen_never few short c s,
  λ never. ⊎_elim (λ (c : (f : ℕ → ℕ) × Chosen ok k n f). absurd (never c.0 c.1)) (λ (s : (G : ℕ → Bool) × ShortGroup ok k n G). s) (hall-theorem.hall ok k n few),
)

-- ---- why not
-- the contract, said of what was lent and given
why_of : (fam : Family) (t : List ℕ) (xs : List (ElementOf fam)) (r g : ℕ) → WhyCall fam t xs r g → WhyOf fam t xs r g
why_of Family.Integers t xs r g c =
    subst₂ (λ (n m : ℕ). WhyOf Family.Integers t xs n m) c.number c.mask
    (subst₂ (λ (s : List ℕ) (l : List ℤ). WhyOf Family.Integers s l c.result.number c.result.group) c.bytes c.list c.allowed)
why_of Family.Floats t xs r g c =
    subst₂ (λ (n m : ℕ). WhyOf Family.Floats t xs n m) c.number c.mask
    (subst₂ (λ (s : List ℕ) (l : List Float). WhyOf Family.Floats s l c.result.number c.result.group) c.bytes c.list c.allowed)

-- what stands behind a group
behind : (fam : Family) (t : List ℕ) (xs : List (ElementOf fam)) (r g : ℕ) → WhyOf fam t xs r g → (g ≡ 0 → ⊥) → (s : Template (LeafOf fam)) × Unmatched fam t xs s × Explained s xs
unfolding GroupRead GroupOf
behind fam t xs r g h some = read (read_cases fam t)
  where
    asked : (s : Template (LeafOf fam)) → read_template fam t ≡ got s [] → (a : Asked) → asked_of fam s xs ≡ a → (s : Template (LeafOf fam)) × Unmatched fam t xs s × Explained s xs
    asked s q of_nothing e = absurd (some (subst (λ a. GroupOf a r g) e (subst (λ o. GroupRead fam o xs r g) q h.group)))
    asked s q (of_groups ok k n) e =
        let u = one_behind fam t xs (own_room xs) s (λ _. own_enough xs) (h.number (own_room xs) (own_enough xs) ∙ (given_one h some q e).0) q in
        (s, u, (asked_question (few_members_lem fam t s q) u.taken.1 e).explained)

    read : Cases (read_template fam t) → (s : Template (LeafOf fam)) × Unmatched fam t xs s × Explained s xs
    read (is_refused q e p) = absurd (some (subst (λ o. GroupRead fam o xs r g) e h.group))
    read (is_read s e) = asked s e (asked_of fam s xs) refl

pub given_where : GivenWhere
unfolding GroupOf
given_where fam t xs r g c = (
  behind fam t xs r g (why_of fam t xs r g c),
  λ s u e z.
      let h = why_of fam t xs r g c in
      let a = explained_asked fam e in
      let one = sym (h.number (own_room xs) (own_enough xs)) ∙ one_where u (own_room xs) (own_enough xs) in
      empty_not_short z ((asked_group h u.reading a.3).0 one).1,
)

pub given_short : GivenShort
given_short fam t xs r g c some s q ok k n e = (given_one (why_of fam t xs r g c) some q e).2

pub none_shorter : NoneShorter
none_shorter fam t xs r g c some s q ok k n e = (given_one (why_of fam t xs r g c) some q e).1.most.most

pub inside_others : InsideOthers
inside_others fam t xs r g c some s q ok k n e = (given_one (why_of fam t xs r g c) some q e).1.least

pub number_agrees : NumberAgrees
number_agrees fam t xs r g c room after q l m = sym ((why_of fam t xs r g c).number room l) ∙ ap number_of (match_answer_lem fam t xs room q after m)

pub never_twelve : NeverTwelve
never_twelve fam t xs r g c =
    let m = every_input.0 fam t xs (own_room xs) in
    let q = m.0 in
    let same : r ≡ q = number_agrees fam t xs r g c (own_room xs) m.1 q (own_enough xs) m.2 in
    let given = first.matcher fam t xs (own_room xs) q m.1 m.2 in
    let twelve : q ≡ 12 → ⊥ = λ e. roomy (given.twelve.0 e).1 in
    ⊎_elim (λ (most : q ≤ 12). inl (omega (arith, twelve))) (λ (above : RowOf fam q ⊎ (q ≡ 17)). inr (subst (λ (n : ℕ). RowOf fam n ⊎ (n ≡ 17)) (sym same) above)) given.numbers
  where
    roomy : length (own_room xs) < length xs → ⊥
    roomy h = let l = own_enough xs in omega arith

pub short_exactly : ShortExactly
short_exactly fam t xs s taken q ok k n e =
    let c = asked_question (few_members_lem fam t s q) taken.1 e in (
      c.unmet,
      λ never. ⊎_elim
          (λ (f : (f : ℕ → ℕ) × Chosen ok k n f). let w = c.met f.0 f.1 in absurd (never w.0 w.1))
          (λ (f : (G : ℕ → Bool) × ShortGroup ok k n G). f)
          (hall-theorem.hall ok k n c.few),
    )
