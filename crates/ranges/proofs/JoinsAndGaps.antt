-- The laws of joining and of gaps, that a set has one list of ascending ranges, and how many ranges it can have: carried over from the
-- ranks. Assumes nothing.
use Prim.Native.Nat.{ℕ, zero, suc, ◌+◌, ◌-◌, ◌*◌, ◌≤◌, ◌<◌, min, max}
use native.Mathlib.Omega.{arith}
use mathlib.Core.Path.{◌≡◌, refl, sym, ap, ◌∙◌, subst}
use mathlib.Core.Bool.{Bool, true, false, not, cond, ◌||◌, or_assoc}
use mathlib.Core.List.{List, [], ◌∷◌, ◌++◌}
use lib.Dec.{T, ltb, leb→le, leb-suc-suc}
use lib.IntN.{ℤ, pos, negsuc, ◌+ℤ◌, ◌-ℤ◌}
use lib.ListN.{length, drop}
use lib.Signed.{lt_z, le_z, ◌≤ℤ◌}
use borrow.Author.Tests.{ltb-true, ltb-false, leb-true, le-leb}
use Rattle.integers.specs.Integer.{Word, least, greatest}
use Rattle.integers.specs.Rank.{rank, Low}
use Rattle.facts.proofs.Cases.{by-test}
use Rattle.integers.proofs.Ranks.{low, rank_word, rank_inj, rank_next, rank_prev, word_next, word_prev, low_lt_z, low_le_z, word_of}
use Rattle.ranges.specs.Spans.{Span, span, in_span, holds, From, Ascending, Proper, lesser, larger, join, join_all, gaps_from, gaps, edges}
use Rattle.ranges.proofs.Ranked as ranked
use Rattle.ranges.proofs.Ranked.{Range, range, within}

-- ---- to the ranks

abbrev pub ranks : List Span → List Range
ranks [] = []
ranks (span a b ∷ rs) = range (rank a) (rank b) ∷ ranks rs

abbrev pub Words : List Span → Type 0
Words [] = Unit {0}
Words (span a b ∷ rs) = Word a × Word b × Words rs

never : {r : Range} {rs : List Range} → r ∷ rs ≡ [] → ⊥
never {r} {rs} e = let z : ◌≡◌ {A = ℕ} 0 1 = cc in omega arith

pub ranks_inj : (rs ss : List Span) → Words rs → Words ss → ranks rs ≡ ranks ss → rs ≡ ss
ranks_inj [] [] p q e = refl
ranks_inj [] (span c d ∷ ss) p q e = absurd (never (sym e))
ranks_inj (span a b ∷ rs) [] p q e = absurd (never e)
ranks_inj (span a b ∷ rs) (span c d ∷ ss) p q e =
    let ea : rank a ≡ rank c = cc in
    let eb : rank b ≡ rank d = cc in
    let er : ranks rs ≡ ranks ss = cc in
    let fa : a ≡ c = rank_inj a c (low a p.0) (low c q.0) ea in
    let fb : b ≡ d = rank_inj b d (low b p.1) (low d q.1) eb in
    let fr : rs ≡ ss = ranks_inj rs ss p.2 q.2 er in
    cc

pub holds_ranks : (rs : List Span) (x : ℤ) → Words rs → Word x → holds rs x ≡ within (ranks rs) (rank x)
holds_ranks [] x p q = refl
holds_ranks (span a b ∷ rs) x p q =
    rw (low_le_z a x (low a p.0) (low x q), low_le_z x b (low x q) (low b p.1), holds_ranks rs x p.2 q)

pub length_ranks : (rs : List Span) → length (ranks rs) ≡ length rs
length_ranks [] = refl
length_ranks (span a b ∷ rs) = ap suc (length_ranks rs)

pub edges_ranks : (rs : List Span) → ranked.edges (ranks rs) ≡ edges rs
edges_ranks [] = refl
edges_ranks (span a b ∷ rs) = ap (λ (n : ℕ). min (rank a) 1 + (min (4294967295 - rank b) 1 + n)) (edges_ranks rs)

-- ---- the order

pub next_low : (z : ℤ) → Low z → Low (z +ℤ pos 1)
next_low (pos a) p = tt
next_low (negsuc a) p =
    by-test (ltb 1 (suc a))
    (λ e. let h : 1 < suc a = ltb-true 1 (suc a) e in rw e (omega arith))
    (λ e. rw e tt)

two_on : (b : ℤ) → Low b → Low (b +ℤ pos 1 +ℤ pos 1) × (rank (b +ℤ pos 1 +ℤ pos 1) ≡ rank b + 2)
two_on b p =
    let e : rank (b +ℤ pos 1 +ℤ pos 1) ≡ rank b + 2 = rw (rank_next (b +ℤ pos 1) (next_low b p), rank_next b p) (omega arith) in
    (next_low (b +ℤ pos 1) (next_low b p), e)

least_low : Low least
least_low = omega arith

pub true_of : (b : Bool) → T b → b ≡ true
true_of true h = refl
true_of false h = absurd h

pub to_rank : (x y : ℤ) → Low x → Low y → x ≤ℤ y → rank x ≤ rank y
to_rank x y p q h = leb-true (rank x) (rank y) (sym (low_le_z x y p q) ∙ true_of (le_z x y) h.le)

pub of_rank : (x y : ℤ) → Low x → Low y → rank x ≤ rank y → x ≤ℤ y
of_rank x y p q h = record { le = subst T (sym (low_le_z x y p q ∙ le-leb (rank x) (rank y) h)) tt }

pub low_up : (m a : ℤ) → Low m → m ≤ℤ a → Low a
low_up m (pos a) p h = tt
low_up (pos m) (negsuc a) p h = absurd h.le
low_up (negsuc m) (negsuc a) p h = omega (arith, leb→le a m h.le)

words_from : (m : ℤ) (rs : List Span) → Low m → From m rs → Words rs
words_from m [] p f = tt
words_from m (span a b ∷ rs) p f =
    let la : Low a = low_up m a p f.0 in
    let lb : Low b = low_up a b la f.1 in
    let ab : rank a ≤ rank b = to_rank a b la lb f.1 in
    let top : rank b ≤ 4294967295 = to_rank b greatest lb tt f.2 in
    (word_of a la (omega arith), word_of b lb (omega arith), words_from (b +ℤ pos 1 +ℤ pos 1) rs (two_on b lb).0 f.3)

pub words_of : (rs : List Span) → Ascending rs → Words rs
words_of rs f = words_from least rs least_low f

from_ranked : (m : ℤ) (rs : List Span) → Low m → Words rs → (From m rs → ranked.From (rank m) (ranks rs)) × (ranked.From (rank m) (ranks rs) → From m rs)
from_ranked m [] p w = (λ f. tt, λ f. tt)
from_ranked m (span a b ∷ rs) p w =
    let la = low a w.0 in
    let lb = low b w.1 in
    let e : rank (b +ℤ pos 1 +ℤ pos 1) ≡ rank b + 2 = (two_on b lb).1 in
    let next = from_ranked (b +ℤ pos 1 +ℤ pos 1) rs (two_on b lb).0 w.2 in (
      λ f. (to_rank m a p la f.0, to_rank a b la lb f.1, rank_word b w.1, rw e at (next.0 f.3)),
      λ f. (of_rank m a p la f.0, of_rank a b la lb f.1, of_rank b greatest lb tt (omega arith), next.1 (rw e f.3)),
    )

-- ranges are ascending exactly where their ranks are
pub to_ranked : (rs : List Span) → Ascending rs → ranked.From 0 (ranks rs)
to_ranked rs f = (from_ranked least rs least_low (words_of rs f)).0 f

pub of_ranked : (rs : List Span) → Words rs → ranked.From 0 (ranks rs) → Ascending rs
of_ranked rs w f = (from_ranked least rs least_low w).1 f

-- ---- join

pub word_lesser : (a b : ℤ) → Word a → Word b → Word (lesser a b)
word_lesser a b p q = by-test (lt_z a b) (λ e. rw e p) (λ e. rw e q)

pub word_larger : (a b : ℤ) → Word a → Word b → Word (larger a b)
word_larger a b p q = by-test (lt_z a b) (λ e. rw e q) (λ e. rw e p)

pub rank_lesser : (a b : ℤ) → Word a → Word b → rank (lesser a b) ≡ min (rank a) (rank b)
rank_lesser a b p q =
    by-test (lt_z a b)
    (λ e. let h : rank a < rank b = ltb-true _ _ (sym (low_lt_z a b (low a p) (low b q)) ∙ e) in rw e (omega arith))
    (λ e. let h : rank b ≤ rank a = ltb-false _ _ (sym (low_lt_z a b (low a p) (low b q)) ∙ e) in rw e (omega arith))

pub rank_larger : (a b : ℤ) → Word a → Word b → rank (larger a b) ≡ max (rank a) (rank b)
rank_larger a b p q =
    by-test (lt_z a b)
    (λ e. let h : rank a < rank b = ltb-true _ _ (sym (low_lt_z a b (low a p) (low b q)) ∙ e) in rw e (omega arith))
    (λ e. let h : rank b ≤ rank a = ltb-false _ _ (sym (low_lt_z a b (low a p) (low b q)) ∙ e) in rw e (omega arith))

pub past : (b l : ℤ) → Word b → Word l → ltb (rank b + 1) (rank l) ≡ lt_z (b +ℤ pos 1) l
past b l p q = sym (low_lt_z (b +ℤ pos 1) l (next_low b (low b p)) (low l q) ∙ ap (λ (n : ℕ). ltb n (rank l)) (rank_next b (low b p)))

ranks_join : (l h : ℤ) (rs : List Span) → Word l → Word h → Words rs → ranks (join l h rs) ≡ ranked.join (rank l) (rank h) (ranks rs)
unfolding join ranked.join
ranks_join l h [] p q w = refl
ranks_join l h (span a b ∷ rs) p q w =
    rw (past b l w.1 p, past h a q w.0)
    (by-test (lt_z (b +ℤ pos 1) l)
    (λ e. rw e (ap (λ (z : List Range). range (rank a) (rank b) ∷ z) (ranks_join l h rs p q w.2)))
    (λ e. rw e (by-test (lt_z (h +ℤ pos 1) a)
    (λ d. rw d)
    (λ d. rw (d, ← rank_lesser l a p w.0, ← rank_larger h b q w.1) (ranks_join (lesser l a) (larger h b) rs (word_lesser l a p w.0) (word_larger h b q w.1) w.2)))))

words_join : (l h : ℤ) (rs : List Span) → Word l → Word h → Words rs → Words (join l h rs)
unfolding join
words_join l h [] p q w = (p, q, tt)
words_join l h (span a b ∷ rs) p q w =
    by-test (lt_z (b +ℤ pos 1) l)
    (λ e. rw e (w.0, w.1, words_join l h rs p q w.2))
    (λ e. rw e (by-test (lt_z (h +ℤ pos 1) a)
    (λ d. rw d (p, q, w))
    (λ d. rw d (words_join (lesser l a) (larger h b) rs (word_lesser l a p w.0) (word_larger h b q w.1) w.2))))

-- what a range adds
pub holds_join : (l h : ℤ) (rs : List Span) (x : ℤ) → Word l → Word h → Words rs → Word x → holds (join l h rs) x ≡ (in_span (span l h) x || holds rs x)
holds_join l h rs x p q w v =
    holds_ranks (join l h rs) x (words_join l h rs p q w) v ∙ ap (λ (z : List Range). within z (rank x)) (ranks_join l h rs p q w)
    ∙ ranked.within_join (rank l) (rank h) (ranks rs) (rank x)
    ∙ rw (low_le_z l x (low l p) (low x v), low_le_z x h (low x v) (low h q), holds_ranks rs x w v)

pub ascending_join : (l h : ℤ) (rs : List Span) → Word l → Word h → l ≤ℤ h → Ascending rs → Ascending (join l h rs)
ascending_join l h rs p q o f =
    let w = words_of rs f in
    of_ranked (join l h rs) (words_join l h rs p q w)
    (rw (ranks_join l h rs p q w) (ranked.from_join 0 (rank l) (rank h) (ranks rs) (omega arith) (to_rank l h (low l p) (low h q) o) (rank_word h q) (to_ranked rs f)))

pub edges_join : (l h : ℤ) (rs : List Span) → Word l → Word h → Words rs → edges (join l h rs) ≤ edges (span l h ∷ rs)
edges_join l h rs p q w =
    omega (arith, edges_ranks (join l h rs), ap ranked.edges (ranks_join l h rs p q w), ranked.edges_join (rank l) (rank h) (ranks rs), edges_ranks rs)

-- ---- join_all, of ranges in any order

or_swap : (p q r : Bool) → (p || (q || r)) ≡ ((q || p) || r)
or_swap true true r = refl
or_swap true false r = refl
or_swap false true r = refl
or_swap false false r = refl

pub words_proper : (rs : List Span) → Proper rs → Words rs
words_proper [] p = tt
words_proper (span a b ∷ rs) p = (p.0, p.1, words_proper rs p.3)

pub ascending_joined : (rs ss : List Span) → Proper rs → Ascending ss → Ascending (join_all rs ss)
unfolding join_all
ascending_joined [] ss p g = g
ascending_joined (span a b ∷ rs) ss p g = ascending_joined rs (join a b ss) p.3 (ascending_join a b ss p.0 p.1 p.2 g)

pub holds_joined : (rs ss : List Span) (x : ℤ) → Proper rs → Ascending ss → Word x → holds (join_all rs ss) x ≡ (holds rs x || holds ss x)
unfolding join_all
holds_joined [] ss x p g v = refl
holds_joined (span a b ∷ rs) ss x p g v =
    holds_joined rs (join a b ss) x p.3 (ascending_join a b ss p.0 p.1 p.2 g) v
    ∙ ap (λ (t : Bool). holds rs x || t) (holds_join a b ss x p.0 p.1 (words_of ss g) v)
    ∙ or_swap (holds rs x) (in_span (span a b) x) (holds ss x)

pub edges_joined : (rs ss : List Span) → Proper rs → Ascending ss → edges (join_all rs ss) ≤ edges rs + edges ss
unfolding join_all
edges_joined [] ss p g = omega arith
edges_joined (span a b ∷ rs) ss p g =
    let ih = edges_joined rs (join a b ss) p.3 (ascending_join a b ss p.0 p.1 p.2 g) in
    let one = edges_join a b ss p.0 p.1 (words_of ss g) in
    omega arith

-- ascending ranges are proper
proper_from : (m : ℤ) (rs : List Span) → Low m → From m rs → Proper rs
proper_from m [] p f = tt
proper_from m (span a b ∷ rs) p f =
    let w = words_from m (span a b ∷ rs) p f in
    (w.0, w.1, f.1, proper_from (b +ℤ pos 1 +ℤ pos 1) rs (two_on b (low b w.1)).0 f.3)

pub proper_of : (rs : List Span) → Ascending rs → Proper rs
proper_of rs f = proper_from least rs least_low f

pub proper_append : (rs ss : List Span) → Proper rs → Proper ss → Proper (rs ++ ss)
proper_append [] ss p q = q
proper_append (span a b ∷ rs) ss p q = (p.0, p.1, p.2, proper_append rs ss p.3 q)

pub proper_parts : (rs ss : List Span) → Proper (rs ++ ss) → Proper rs × Proper ss
proper_parts [] ss p = (tt, p)
proper_parts (span a b ∷ rs) ss p = let f = proper_parts rs ss p.3 in ((p.0, p.1, p.2, f.0), f.1)

pub holds_append : (rs ss : List Span) (x : ℤ) → holds (rs ++ ss) x ≡ (holds rs x || holds ss x)
holds_append [] ss x = refl
holds_append (r ∷ rs) ss x = ap (λ (t : Bool). in_span r x || t) (holds_append rs ss x) ∙ sym (or_assoc (in_span r x) (holds rs x) (holds ss x))

pub edges_append : (rs ss : List Span) → edges (rs ++ ss) ≡ edges rs + edges ss
edges_append [] ss = omega arith
edges_append (span a b ∷ rs) ss = let ih = edges_append rs ss in omega arith

-- ---- gaps

top_test : (m : ℤ) → Low m → ltb (rank m) 4294967296 ≡ le_z m greatest
top_test m p = leb-suc-suc (rank m) 4294967295 ∙ sym (low_le_z m greatest p tt)

over : (m a : ℤ) → Low m → Low a → lt_z m a ≡ true → rank m < rank a
over m a p q e = ltb-true (rank m) (rank a) (sym (low_lt_z m a p q) ∙ e)

ranks_gaps : (m : ℤ) (rs : List Span) → Low m → Words rs → ranks (gaps_from m rs) ≡ ranked.gaps_from (rank m) (ranks rs)
unfolding gaps_from ranked.gaps_from
ranks_gaps m [] p w = rw (top_test m p) (by-test (le_z m greatest) (λ e. rw e) (λ e. rw e))
ranks_gaps m (span a b ∷ rs) p w =
    let ih = ranks_gaps (b +ℤ pos 1) rs (next_low b (low b w.1)) w.2 ∙ ap (λ (n : ℕ). ranked.gaps_from n (ranks rs)) (rank_next b (low b w.1)) in
    rw (← low_lt_z m a p (low a w.0))
    (by-test (lt_z m a)
    (λ e.
    let h : rank m < rank a = over m a p (low a w.0) e in
    rw (e, rank_prev a w.0 (omega arith)) (ap (λ (z : List Range). range (rank m) (rank a - 1) ∷ z) ih))
    (λ e. rw e ih))

words_gaps : (m : ℤ) (rs : List Span) → Low m → Words rs → Words (gaps_from m rs)
unfolding gaps_from
words_gaps m [] p w =
    by-test (le_z m greatest)
    (λ e. let h : rank m < 4294967296 = ltb-true _ _ (top_test m p ∙ e) in rw e (word_of m p h, omega arith, tt))
    (λ e. rw e tt)
words_gaps m (span a b ∷ rs) p w =
    let ih = words_gaps (b +ℤ pos 1) rs (next_low b (low b w.1)) w.2 in
    by-test (lt_z m a)
    (λ e.
    let h : rank m < rank a = over m a p (low a w.0) e in
    rw e (word_of m p (omega (arith, rank_word a w.0)), word_prev a w.0 (omega arith), ih))
    (λ e. rw e ih)

module _ (rs : List Span) (f : Ascending rs) where
  pub holds_gaps : (x : ℤ) → Word x → holds (gaps rs) x ≡ not (holds rs x)
  unfolding gaps
  holds_gaps x v =
      holds_ranks (gaps_from least rs) x (words_gaps least rs least_low (words_of rs f)) v
      ∙ ap (λ (z : List Range). within z (rank x)) (ranks_gaps least rs least_low (words_of rs f))
      ∙ ranked.within_gaps_from 0 (ranks rs) (rank x) (to_ranked rs f) (omega arith) (rank_word x v)
      ∙ rw (le-leb 0 (rank x) (omega arith), holds_ranks rs x (words_of rs f) v)

  pub ascending_gaps : Ascending (gaps rs)
  unfolding gaps
  ascending_gaps =
      of_ranked (gaps_from least rs) (words_gaps least rs least_low (words_of rs f))
      (rw (ranks_gaps least rs least_low (words_of rs f)) (ranked.from_gaps_from 0 (ranks rs) (to_ranked rs f) (omega arith)))

  pub edges_gaps : edges (gaps rs) ≤ edges rs
  unfolding gaps
  edges_gaps =
      omega (
        arith,
        edges_ranks (gaps_from least rs),
        ap ranked.edges (ranks_gaps least rs least_low (words_of rs f)),
        ranked.edges_gaps_from 0 (ranks rs) (to_ranked rs f) (omega arith),
        edges_ranks rs,
      )

  -- ---- how many ranges

  pub length_edges : 2 * length rs ≤ edges rs + 2
  length_edges = omega (arith, ranked.length_edges_all 0 (ranks rs) (to_ranked rs f), length_ranks rs, edges_ranks rs)

-- ---- a set has one list

-- the integer at a rank
unrank : ℕ → ℤ
unrank n = cond (ltb n 2147483648) (negsuc (2147483647 - n)) (pos (n - 2147483648))

unrank_is : (n : ℕ) → n < 4294967296 → Word (unrank n) × (rank (unrank n) ≡ n)
unfolding unrank
unrank_is n p =
    by-test (ltb n 2147483648)
    (λ e. let h : n < 2147483648 = ltb-true _ _ e in rw e (omega arith, omega arith))
    (λ e. let h : 2147483648 ≤ n = ltb-false _ _ e in rw e (omega arith, omega arith))

pub unique : (rs ss : List Span) → Ascending rs → Ascending ss → ((x : ℤ) → Word x → holds rs x ≡ holds ss x) → rs ≡ ss
unique rs ss f g e =
    let v = words_of rs f in
    let w = words_of ss g in
    ranks_inj rs ss v w (ranked.unique 0 (ranks rs) (ranks ss) (to_ranked rs f) (to_ranked ss g)
    (λ n p.
    let u = unrank_is n p in
    rw (holds_ranks rs (unrank n) v u.0, holds_ranks ss (unrank n) w u.0, u.1) at (e (unrank n) u.0)))

-- ---- a range among ascending ones cannot be widened

pub ranks_drop : (k : ℕ) (rs : List Span) → ranks (drop k rs) ≡ drop k (ranks rs)
ranks_drop zero rs = refl
ranks_drop (suc k) [] = refl
ranks_drop (suc k) (span a b ∷ rs) = ranks_drop k rs

pub words_drop : (k : ℕ) (rs : List Span) → Words rs → Words (drop k rs)
words_drop zero rs w = w
words_drop (suc k) [] w = tt
words_drop (suc k) (span a b ∷ rs) w = words_drop k rs w.2

module _ (rs : List Span) (f : Ascending rs) (k : ℕ) (a b : ℤ) (ss : List Span) (e : drop k rs ≡ span a b ∷ ss) where
  bounds : Word a × Word b × Words ss
  bounds = subst Words e (words_drop k rs (words_of rs f))

  beside : (0 < rank a → within (ranks rs) (rank a - 1) ≡ false) × (within (ranks rs) (rank b + 1) ≡ false)
  beside = ranked.none_beside 0 (ranks rs) k (rank a) (rank b) (ranks ss) (to_ranked rs f) (sym (ranks_drop k rs) ∙ ap ranks e)

  pub none_before : lt_z least a ≡ true → holds rs (a -ℤ pos 1) ≡ false
  none_before h =
      let p : 0 < rank a = over least a least_low (low a bounds.0) h in
      holds_ranks rs (a -ℤ pos 1) (words_of rs f) (word_prev a bounds.0 p)
      ∙ ap (within (ranks rs)) (rank_prev a bounds.0 p) ∙ beside.0 p

  pub none_after : lt_z b greatest ≡ true → holds rs (b +ℤ pos 1) ≡ false
  none_after h =
      let p : rank b < 4294967295 = over b greatest (low b bounds.1) tt h in
      holds_ranks rs (b +ℤ pos 1) (words_of rs f) (word_next b bounds.1 p)
      ∙ ap (within (ranks rs)) (rank_next b (low b bounds.1)) ∙ beside.1
