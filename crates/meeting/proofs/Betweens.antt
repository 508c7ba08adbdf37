-- Ranges that a normal form may be written from (`Between`): they ascend, lie in the type, and do not hold its lower bound; and all such ranges are so. By
-- their ranks. Assumes nothing.
use mathlib.Core.Path.{◌≡◌, sym, ◌∙◌}
use mathlib.Core.Logic.{⊎_elim}
use mathlib.Core.Bool.{true, false, true≢false}
use mathlib.Core.List.{List, [], ◌∷◌}
use Prim.Native.Nat.{◌+◌, ◌≤◌, ◌<◌}
use native.Mathlib.Omega.{arith}
use lib.IntN.{ℤ, pos, ◌+ℤ◌}
use borrow.Author.Tests.{ltb-true, lt-ltb, le-ltb, le-leb}
use Rattle.facts.proofs.Cases.{below}
use Rattle.integers.specs.Integer.{Word}
use Rattle.integers.specs.Rank.{rank, Low}
use Rattle.integers.proofs.Ranks.{low, low_lt_z, rank_next, rank_word, rank_lt_z}
use Rattle.integers.proofs.SignedLocals.{ge_rank}
use Rattle.ranges.specs.Spans.{Span, span, holds, Ascending}
use Rattle.ranges.proofs.Ranked as ranked
use Rattle.ranges.proofs.JoinsAndGaps.{ranks, Words, next_low, to_ranked, of_ranked, words_of, holds_ranks}
use Rattle.ranges.proofs.Cuts.{Among}
use Rattle.form_reader.specs.FormRead.{Between}

-- ---- what is known of such ranges

words_between : (m hi : ℤ) (rs : List Span) → Between m hi rs → Words rs
words_between m hi [] b = tt
words_between m hi (span a c ∷ rs) b = (b.0, b.1, words_between (c +ℤ pos 1) hi rs b.5)

ranks_between : (m hi : ℤ) (rs : List Span) → Low m → Between m hi rs → ranked.From (rank m + 1) (ranks rs)
ranks_between m hi [] l b = tt
ranks_between m hi (span a c ∷ rs) l b =
    let start : rank m < rank a = ltb-true (rank m) (rank a) (sym (low_lt_z m a l (low a b.0)) ∙ b.2) in
    let order : rank a ≤ rank c = ge_rank c a b.1 b.0 b.3 in
    let rest = ranks_between (c +ℤ pos 1) hi rs (next_low c (low c b.1)) b.5 in
    let on : rank (c +ℤ pos 1) + 1 ≡ rank c + 2 = omega (arith, rank_next c (low c b.1)) in
    (omega arith, order, rank_word c b.1, rw on at rest)

among_between : (lo hi m : ℤ) (rs : List Span) → Word lo → Low m → rank lo ≤ rank m → Between m hi rs → Among lo hi rs
among_between lo hi m [] w l o b = tt
among_between lo hi m (span a c ∷ rs) w l o b =
    let start : rank m < rank a = ltb-true (rank m) (rank a) (sym (low_lt_z m a l (low a b.0)) ∙ b.2) in
    let order : rank a ≤ rank c = ge_rank c a b.1 b.0 b.3 in
    let on : rank (c +ℤ pos 1) ≡ rank c + 1 = rank_next c (low c b.1) in
    (rank_lt_z a lo b.0 w ∙ le-ltb (rank a) (rank lo) (omega arith), b.4, among_between lo hi (c +ℤ pos 1) rs w (next_low c (low c b.1)) (omega arith) b.5)

module _ (lo hi : ℤ) (p : Word lo) (rs : List Span) (b : Between lo hi rs) where
  pub between_ascending : Ascending rs
  between_ascending = of_ranked rs (words_between lo hi rs b) (ranked.from_lower 0 (rank lo + 1) (ranks rs) (omega arith) (ranks_between lo hi rs (low lo p) b))

  pub between_among : Among lo hi rs
  between_among = among_between lo hi lo rs p (low lo p) (omega arith) b

  pub between_lower : holds rs lo ≡ false
  between_lower = holds_ranks rs lo (words_between lo hi rs b) p ∙ ranked.none_below (rank lo + 1) (ranks rs) (rank lo) (ranks_between lo hi rs (low lo p) b) (omega arith)

-- ---- and all ranges of which this is known are such

of_ranks : (m lo hi : ℤ) (rs : List Span) → Low m → Words rs → Among lo hi rs → ranked.From (rank m + 1) (ranks rs) → Between m hi rs
of_ranks m lo hi [] l w a f = tt
of_ranks m lo hi (span b c ∷ rs) l w a f =
    let on : rank c + 2 ≡ rank (c +ℤ pos 1) + 1 = omega (arith, rank_next c (low c w.1)) in (
      w.0,
      w.1,
      low_lt_z m b l (low b w.0) ∙ lt-ltb (rank m) (rank b) (omega (arith, f.0)),
      rank_lt_z c b w.1 w.0 ∙ le-ltb (rank c) (rank b) f.1,
      a.1,
      of_ranks (c +ℤ pos 1) lo hi rs (next_low c (low c w.1)) w.2 a.2 (rw on at f.3),
    )

above_lower : (lo hi : ℤ) (rs : List Span) → Word lo → Words rs → Among lo hi rs → ranked.From 0 (ranks rs) → holds rs lo ≡ false → ranked.From (rank lo + 1) (ranks rs)
above_lower lo hi [] p w a f h = tt
above_lower lo hi (span b c ∷ rs) p w a f h =
    let bottom : rank lo ≤ rank b = ge_rank b lo w.0 p a.0 in
    ⊎_elim
    (λ (k : rank lo < rank b). (omega arith, f.1, f.2, f.3))
    (λ (k : rank b ≤ rank lo).
    let there : ranked.within (ranks (span b c ∷ rs)) (rank lo) ≡ true = rw (le-leb (rank b) (rank lo) k, le-leb (rank lo) (rank c) (omega (arith, f.1))) in
    absurd (true≢false (sym there ∙ sym (holds_ranks (span b c ∷ rs) lo w p) ∙ h)))
    (below (rank lo) (rank b))

pub between_of : (lo hi : ℤ) (rs : List Span) → Word lo → Ascending rs → Among lo hi rs → holds rs lo ≡ false → Between lo hi rs
between_of lo hi rs p f a h =
    let w = words_of rs f in
    of_ranks lo lo hi rs (low lo p) w a (above_lower lo hi rs p w a (to_ranked rs f) h)
