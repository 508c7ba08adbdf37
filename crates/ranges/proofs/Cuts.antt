-- Ranges cut to a type: they hold what the ranges held of it, ascend as before, lie inside it, and are no more; with the least and the greatest integer
-- nothing is cut. By the ranks first, then carried over to integers. Assumes nothing.
-- cut_ranks l h rs == the ranges rs of ranks, cut to those from l to h
-- Among lo hi rs <-> each range of rs lies inside the type from lo to hi
use Prim.Native.Nat.{ℕ, zero, suc, ◌+◌, ◌-◌, ◌*◌, ◌≤◌, ◌<◌, min, max}
use native.Mathlib.Omega.{arith}
use mathlib.Core.Path.{◌≡◌, refl, sym, ap, ap₂, ◌∙◌, subst}
use mathlib.Core.Logic.{⊎_elim}
use mathlib.Core.Bool.{Bool, true, false, cond, ◌&&◌, ◌||◌, and-false, true≢false}
use mathlib.Core.List.{List, [], ◌∷◌}
use lib.Dec.{T, leb, ltb}
use lib.IntN.{ℤ, pos, ◌+ℤ◌, ◌-ℤ◌}
use lib.Signed.{lt_z, le_z, ◌≤ℤ◌}
use lib.ListN.{length, drop}
use borrow.Author.Tests.{ltb-true, ltb-false, le-leb, lt-leb, le-ltb, lt-ltb}
use Rattle.facts.proofs.Cases.{by-test, below, and_left, and_right}
use Rattle.integers.specs.Integer.{Word, least, greatest}
use Rattle.integers.specs.Rank.{rank}
use Rattle.integers.proofs.Ranks.{low, rank_word, rank_inj, word_of, rank_next, rank_prev, word_next, word_prev, rank_lt_z, rank_le_z}
use Rattle.integers.proofs.SignedLocals.{lt_rank, ge_rank}
use Rattle.ranges.specs.Spans.{Span, span, in_span, holds, Ascending, Proper, lesser, larger, edges, cut_to}
use Rattle.ranges.proofs.Ranked as ranked
use Rattle.ranges.proofs.Ranked.{Range, range, inside, within}
use Rattle.ranges.proofs.JoinsAndGaps.{ranks, Words, holds_ranks, length_ranks, edges_ranks, words_of, true_of, low_up, to_rank, to_ranked, of_ranked, word_lesser, word_larger, rank_lesser, rank_larger, unique, ranks_drop, words_drop, none_before, none_after}

-- ---- by the ranks

unfoldable cut_ranks : ℕ → ℕ → List Range → List Range
cut_ranks l h [] = []
cut_ranks l h (range a b ∷ rs) =
    cond (ltb b l || ltb h a) (cut_ranks l h rs)
    (range (max a l) (min b h) ∷ cut_ranks l h rs)

-- the range is left out, or cut
apart-or-cut {ℓ} : {A : Type ℓ} (l h a b : ℕ) → ((ltb b l || ltb h a) ≡ true → (l ≤ b → h < a) → A) → ((ltb b l || ltb h a) ≡ false → l ≤ b → a ≤ h → A) → A
apart-or-cut l h a b out cut =
    by-test (ltb b l)
    (λ e. out (rw e) (λ p. absurd (omega (arith, ltb-true b l e))))
    (λ e. by-test (ltb h a)
    (λ f. out (rw (e, f)) (λ p. ltb-true h a f))
    (λ f. cut (rw (e, f)) (ltb-false b l e) (ltb-false h a f)))

-- what a range that is cut holds
inside_cut : (l h a b x : ℕ) → inside (range (max a l) (min b h)) x ≡ (inside (range l h) x && inside (range a b) x)
inside_cut l h a b x =
    ⊎_elim
    (λ (k : x < l). rw (lt-leb (max a l) x (omega arith), lt-leb l x k))
    (λ (k : l ≤ x). ⊎_elim
    (λ (i : h < x). rw (lt-leb x (min b h) (omega arith), lt-leb x h i, and-false (leb (max a l) x), and-false (leb l x)))
    (λ (i : x ≤ h). rw (le-leb l x k, le-leb x h i)
    (⊎_elim
    (λ (j : x < a). rw (lt-leb (max a l) x (omega arith), lt-leb a x j))
    (λ (j : a ≤ x). rw (le-leb (max a l) x (omega arith), le-leb a x j)
    (⊎_elim
    (λ (u : b < x). rw (lt-leb x (min b h) (omega arith), lt-leb x b u))
    (λ (u : x ≤ b). rw (le-leb x (min b h) (omega arith), le-leb x b u))
    (below b x)))
    (below x a)))
    (below h x))
    (below x l)

-- a range outside the type holds nothing of it
inside_apart : (l h a b x : ℕ) → (l ≤ b → h < a) → (inside (range l h) x && inside (range a b) x) ≡ false
inside_apart l h a b x o =
    ⊎_elim
    (λ (k : x < l). rw (lt-leb l x k))
    (λ (k : l ≤ x). ⊎_elim
    (λ (i : h < x). rw (lt-leb x h i, and-false (leb l x)))
    (λ (i : x ≤ h). rw (le-leb l x k, le-leb x h i)
    (⊎_elim
    (λ (j : x < a). rw (lt-leb a x j))
    (λ (j : a ≤ x). rw (lt-leb x b (⊎_elim (λ (u : b < x). u) (λ (u : x ≤ b). absurd (omega (arith, o (omega arith)))) (below b x)), and-false (leb a x)))
    (below x a)))
    (below h x))
    (below x l)

either : (p q r : Bool) → (p && q) ≡ false → (p && (q || r)) ≡ (p && r)
either true true r e = absurd (true≢false e)
either true false r e = refl
either false q r e = refl

both_of_lem : (p q r : Bool) → ((p && q) || (p && r)) ≡ (p && (q || r))
both_of_lem true q r = refl
both_of_lem false q r = refl

within_cut : (l h : ℕ) (rs : List Range) (x : ℕ) → within (cut_ranks l h rs) x ≡ (inside (range l h) x && within rs x)
unfolding cut_ranks
within_cut l h [] x = sym (and-false (inside (range l h) x))
within_cut l h (range a b ∷ rs) x =
    apart-or-cut l h a b
    (λ e o. rw e (within_cut l h rs x ∙ sym (either (inside (range l h) x) (inside (range a b) x) (within rs x) (inside_apart l h a b x o))))
    (λ e p q. rw e (ap₂ (λ (s t : Bool). s || t) (inside_cut l h a b x) (within_cut l h rs x) ∙ both_of_lem (inside (range l h) x) (inside (range a b) x) (within rs x)))

from_cut : (m l h : ℕ) (rs : List Range) → l ≤ h → ranked.From m rs → ranked.From m (cut_ranks l h rs)
unfolding cut_ranks
from_cut m l h [] o f = tt
from_cut m l h (range a b ∷ rs) o f =
    let ih = from_cut (b + 2) l h rs o f.3 in
    apart-or-cut l h a b
    (λ e p. rw e (ranked.from_lower m (b + 2) (cut_ranks l h rs) (omega arith) ih))
    (λ e p q. rw e (omega arith, omega arith, omega arith, ranked.from_lower (min b h + 2) (b + 2) (cut_ranks l h rs) (omega arith) ih))

length_cut_ranks : (l h : ℕ) (rs : List Range) → length (cut_ranks l h rs) ≤ length rs
unfolding cut_ranks
length_cut_ranks l h [] = omega arith
length_cut_ranks l h (range a b ∷ rs) =
    let ih = length_cut_ranks l h rs in
    apart-or-cut l h a b (λ e o. rw e (omega arith)) (λ e p q. rw e (omega arith))

-- ranges that do not hold the lower bound: those below it are left out, and the others start above it
few_cut : (m l h : ℕ) (rs : List Range) → ranked.From m rs → within rs l ≡ false → 2 * length (cut_ranks l h rs) ≤ ranked.edges rs + 1
unfolding cut_ranks
few_cut m l h [] f e = omega arith
few_cut m l h (range a b ∷ rs) f e =
    ⊎_elim
    (λ (k : b < l).
    let rest : within rs l ≡ false = rw (lt-leb l b k, and-false (leb a l)) at e in
    let ih = few_cut (b + 2) l h rs f.3 rest in
    rw (lt-ltb b l k) (omega arith))
    (λ (k : l ≤ b).
    ⊎_elim
    (λ (i : l < a). omega (arith, length_cut_ranks l h (range a b ∷ rs), ranked.length_edges a (range a b ∷ rs) (omega arith) (omega arith, f.1, f.2, f.3)))
    (λ (i : a ≤ l). absurd (true≢false (sym (rw (le-leb a l i, le-leb l b k)) ∙ e)))
    (below l a))
    (below b l)

-- ---- of integers

abbrev pub Among : ℤ → ℤ → List Span → Type 0
Among lo hi [] = Unit {0}
Among lo hi (span a b ∷ rs) = (lt_z a lo ≡ false) × (lt_z hi b ≡ false) × Among lo hi rs

pub length_cut : (lo hi : ℤ) (rs : List Span) → length (cut_to lo hi rs) ≤ length rs
unfolding cut_to
length_cut lo hi [] = omega arith
length_cut lo hi (span a b ∷ rs) =
    let ih = length_cut lo hi rs in
    by-test (lt_z b lo || lt_z hi a) (λ e. rw e (omega arith)) (λ e. rw e (omega arith))

-- an integer of the type is a 32-bit one
pub word_between : (lo hi x : ℤ) → Word lo → Word hi → lo ≤ℤ x → x ≤ℤ hi → Word x
word_between lo hi x p q a b =
    let lx = low_up lo x (low lo p) a in
    word_of x lx (omega (arith, to_rank x hi lx (low hi q) b, rank_word hi q))

module _ (lo hi : ℤ) (p : Word lo) (q : Word hi) where
  ranks_cut : (rs : List Span) → Words rs → ranks (cut_to lo hi rs) ≡ cut_ranks (rank lo) (rank hi) (ranks rs)
  unfolding cut_to cut_ranks
  ranks_cut [] w = refl
  ranks_cut (span a b ∷ rs) w =
      let ih = ranks_cut rs w.2 in
      rw (← rank_lt_z b lo w.1 p, ← rank_lt_z hi a q w.0)
      (by-test (lt_z b lo || lt_z hi a)
      (λ e. rw e ih)
      (λ e. rw (e, rank_larger a lo w.0 p, rank_lesser b hi w.1 q) (ap (λ (z : List Range). range (max (rank a) (rank lo)) (min (rank b) (rank hi)) ∷ z) ih)))

  pub words_cut : (rs : List Span) → Words rs → Words (cut_to lo hi rs)
  unfolding cut_to
  words_cut [] w = tt
  words_cut (span a b ∷ rs) w =
      let ih = words_cut rs w.2 in
      by-test (lt_z b lo || lt_z hi a) (λ e. rw e ih) (λ e. rw e (word_larger a lo w.0 p, word_lesser b hi w.1 q, ih))

  pub among_cut : (rs : List Span) → Words rs → Among lo hi (cut_to lo hi rs)
  unfolding cut_to
  among_cut [] w = tt
  among_cut (span a b ∷ rs) w =
      let ih = among_cut rs w.2 in
      let below_none : lt_z (larger a lo) lo ≡ false = rank_lt_z (larger a lo) lo (word_larger a lo w.0 p) p ∙ le-ltb (rank (larger a lo)) (rank lo) (omega (arith, rank_larger a lo w.0 p)) in
      let above_none : lt_z hi (lesser b hi) ≡ false = rank_lt_z hi (lesser b hi) q (word_lesser b hi w.1 q) ∙ le-ltb (rank hi) (rank (lesser b hi)) (omega (arith, rank_lesser b hi w.1 q)) in
      by-test (lt_z b lo || lt_z hi a) (λ e. rw e ih) (λ e. rw e (below_none, above_none, ih))

  -- what they hold of the type
  pub holds_cut : (rs : List Span) (x : ℤ) → Words rs → Word x → holds (cut_to lo hi rs) x ≡ (in_span (span lo hi) x && holds rs x)
  holds_cut rs x w v =
      holds_ranks (cut_to lo hi rs) x (words_cut rs w) v
      ∙ ap (λ (z : List Range). within z (rank x)) (ranks_cut rs w)
      ∙ within_cut (rank lo) (rank hi) (ranks rs) (rank x)
      ∙ rw (rank_le_z lo x p v, rank_le_z x hi v q, holds_ranks rs x w v)

  pub holds_in_type : (rs : List Span) (x : ℤ) → Words rs → lo ≤ℤ x → x ≤ℤ hi → holds (cut_to lo hi rs) x ≡ holds rs x
  holds_in_type rs x w a b =
      let v = word_between lo hi x p q a b in
      rw (true_of (le_z lo x) a.le, true_of (le_z x hi) b.le) at (holds_cut rs x w v)

  pub ascending_cut : (rs : List Span) → lo ≤ℤ hi → Ascending rs → Ascending (cut_to lo hi rs)
  ascending_cut rs o f =
      let w = words_of rs f in
      of_ranked (cut_to lo hi rs) (words_cut rs w) (rw (ranks_cut rs w) (from_cut 0 (rank lo) (rank hi) (ranks rs) (to_rank lo hi (low lo p) (low hi q) o) (to_ranked rs f)))

  -- how many they are at most, where the lower bound is not held
  pub length_cut_edges : (rs : List Span) → Ascending rs → holds rs lo ≡ false → 2 * length (cut_to lo hi rs) ≤ edges rs + 1
  length_cut_edges rs f e =
      let w = words_of rs f in
      let few = few_cut 0 (rank lo) (rank hi) (ranks rs) (to_ranked rs f) (sym (holds_ranks rs lo w p) ∙ e) in
      omega (arith, few, ap length (ranks_cut rs w), length_ranks (cut_to lo hi rs), edges_ranks rs)

  between_true : (x : ℤ) → in_span (span lo hi) x ≡ true → (lo ≤ℤ x) × (x ≤ℤ hi)
  between_true x e =
      (record { le = subst T (sym (and_left (le_z lo x) (le_z x hi) e)) tt }, record { le = subst T (sym (and_right (le_z lo x) (le_z x hi) e)) tt })

  -- ranges that hold the same integers of the type are cut to the same
  pub unique_cut : (rs ss : List Span) → lo ≤ℤ hi → Ascending rs → Ascending ss → ((x : ℤ) → lo ≤ℤ x → x ≤ℤ hi → holds rs x ≡ holds ss x) → cut_to lo hi rs ≡ cut_to lo hi ss
  unique_cut rs ss o f g e =
      unique (cut_to lo hi rs) (cut_to lo hi ss) (ascending_cut rs o f) (ascending_cut ss o g)
      (λ x v. holds_cut rs x (words_of rs f) v
      ∙ by-test (in_span (span lo hi) x)
      (λ i. let b = between_true x i in ap (λ (t : Bool). in_span (span lo hi) x && t) (e x b.0 b.1))
      (λ i. rw i)
      ∙ sym (holds_cut ss x (words_of ss g) v))

  -- none of them can be widened
  module _ (rs : List Span) (o : lo ≤ℤ hi) (f : Ascending rs) (k : ℕ) (a b : ℤ) (ss : List Span) (e : drop k (cut_to lo hi rs) ≡ span a b ∷ ss) where
    cut_bounds : Word a × Word b × Words ss
    cut_bounds = subst Words e (words_drop k (cut_to lo hi rs) (words_cut rs (words_of rs f)))

    cut_among : (lt_z a lo ≡ false) × (lt_z hi b ≡ false) × Among lo hi ss
    cut_among = subst (Among lo hi) e (among_drop k (cut_to lo hi rs) (among_cut rs (words_of rs f)))
      where
        among_drop : (k : ℕ) (rs : List Span) → Among lo hi rs → Among lo hi (drop k rs)
        among_drop zero rs m = m
        among_drop (suc k) [] m = tt
        among_drop (suc k) (span a b ∷ rs) m = among_drop k rs m.2

    cut_order : rank a ≤ rank b
    cut_order = (ranked.from_at 0 (ranks (cut_to lo hi rs)) k (rank a) (rank b) (ranks ss) (to_ranked (cut_to lo hi rs) (ascending_cut rs o f)) (sym (ranks_drop k (cut_to lo hi rs)) ∙ ap ranks e)).1

    -- a neighbour that the cut ranges do not hold, and that lies in the type, is not held at all
    not_held : (x : ℤ) → Word x → rank lo ≤ rank x → rank x ≤ rank hi → holds (cut_to lo hi rs) x ≡ false → holds rs x ≡ false
    not_held x v above under n =
        sym (rw (rank_le_z lo x p v, le-leb (rank lo) (rank x) above, rank_le_z x hi v q, le-leb (rank x) (rank hi) under) at (holds_cut rs x (words_of rs f) v)) ∙ n

    pub none_before_cut : lt_z lo a ≡ true → holds rs (a -ℤ pos 1) ≡ false
    none_before_cut h =
        let w = cut_bounds in
        let m = cut_among in
        let lt : rank lo < rank a = lt_rank lo a p w.0 h in
        let some : 0 < rank a = omega arith in
        let prev : rank (a -ℤ pos 1) ≡ rank a - 1 = rank_prev a w.0 some in
        let top : rank b ≤ rank hi = ge_rank hi b q w.1 m.1 in
        not_held (a -ℤ pos 1) (word_prev a w.0 some) (omega arith) (omega (arith, cut_order))
        (none_before (cut_to lo hi rs) (ascending_cut rs o f) k a b ss e (rank_lt_z least a (omega arith) w.0 ∙ lt-ltb 0 (rank a) some))

    pub none_after_cut : lt_z b hi ≡ true → holds rs (b +ℤ pos 1) ≡ false
    none_after_cut h =
        let w = cut_bounds in
        let m = cut_among in
        let lt : rank b < rank hi = lt_rank b hi w.1 q h in
        let less : rank b < 4294967295 = omega (arith, rank_word hi q) in
        let next : rank (b +ℤ pos 1) ≡ rank b + 1 = rank_next b (low b w.1) in
        let bottom : rank lo ≤ rank a = ge_rank a lo w.0 p m.0 in
        not_held (b +ℤ pos 1) (word_next b w.1 less) (omega (arith, cut_order)) (omega arith)
        (none_after (cut_to lo hi rs) (ascending_cut rs o f) k a b ss e (rank_lt_z b greatest w.1 (omega arith) ∙ lt-ltb (rank b) 4294967295 less))

-- ---- ranges inside the type

-- nothing is cut of them
pub cut_nothing : (lo hi : ℤ) (rs : List Span) → Word lo → Word hi → Proper rs → Among lo hi rs → cut_to lo hi rs ≡ rs
unfolding cut_to
cut_nothing lo hi [] p q w m = refl
cut_nothing lo hi (span a b ∷ rs) p q w m =
    let bottom : rank lo ≤ rank a = ge_rank a lo w.0 p m.0 in
    let top : rank b ≤ rank hi = ge_rank hi b q w.1 m.1 in
    let order : rank a ≤ rank b = to_rank a b (low a w.0) (low b w.1) w.2 in
    let not_below : lt_z b lo ≡ false = rank_lt_z b lo w.1 p ∙ le-ltb (rank b) (rank lo) (omega arith) in
    let not_above : lt_z hi a ≡ false = rank_lt_z hi a q w.0 ∙ le-ltb (rank hi) (rank a) (omega arith) in
    let end : lesser b hi ≡ b = rank_inj (lesser b hi) b (low (lesser b hi) (word_lesser b hi w.1 q)) (low b w.1) (omega (arith, rank_lesser b hi w.1 q)) in
    rw (not_below, not_above, m.0, end, cut_nothing lo hi rs p q w.3 m.2)

-- all 32-bit integers
among_whole : (rs : List Span) → Proper rs → Among least greatest rs
among_whole [] w = tt
among_whole (span a b ∷ rs) w = (
  rank_lt_z a least w.0 (omega arith) ∙ le-ltb (rank a) 0 (omega arith),
  rank_lt_z greatest b (omega arith) w.1 ∙ le-ltb 4294967295 (rank b) (omega (arith, rank_word b w.1)),
  among_whole rs w.3,
)

pub cut_whole : (rs : List Span) → Proper rs → cut_to least greatest rs ≡ rs
cut_whole rs w = cut_nothing least greatest rs (omega arith) (omega arith) w (among_whole rs w)
