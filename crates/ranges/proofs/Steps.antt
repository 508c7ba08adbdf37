-- Gaps, and whether an integer is held, a step at a time, as the code takes them. Assumes nothing.
use mathlib.Core.Path.{◌≡◌, refl, sym, ap, ◌∙◌, subst}
use mathlib.Core.Bool.{Bool, true, false, ◌&&◌, ◌||◌, and-false}
use mathlib.Core.List.{List, [], ◌∷◌}
use Prim.Native.Nat.{ℕ, suc, ◌+◌, ◌≤◌, ◌<◌}
use native.Mathlib.Omega.{arith}
use lib.IntN.{ℤ, pos, ◌+ℤ◌, ◌-ℤ◌}
use lib.Signed.{lt_z, le_z}
use lib.ListN.{length, get_or, drop}
use borrow.Author.Tests.{le-leb}
use Rattle.integers.specs.Integer.{Word, greatest}
use Rattle.integers.specs.Rank.{rank}
use Rattle.integers.proofs.Ranks.{low, rank_word, low_le_z}
use Rattle.integers.proofs.SignedLocals.{le_rank}
use Rattle.ranges.specs.Spans.{Span, span, holds, Ascending, gaps_from}
use Rattle.ranges.specs.Shown.{view}
use Rattle.ranges.proofs.JoinsAndGaps.{ranks, Words, holds_ranks, words_of, to_ranked}
use Rattle.ranges.proofs.Views.{view_end, view_at}
use Rattle.ranges.proofs.Ranked as ranked

-- ---- gaps

pub gaps_before : (m a b : ℤ) (rs : List Span) → lt_z m a ≡ true → gaps_from m (span a b ∷ rs) ≡ span m (a -ℤ pos 1) ∷ gaps_from (b +ℤ pos 1) rs
unfolding gaps_from
gaps_before m a b rs e = rw e

pub gaps_none : (m a b : ℤ) (rs : List Span) → lt_z m a ≡ false → gaps_from m (span a b ∷ rs) ≡ gaps_from (b +ℤ pos 1) rs
unfolding gaps_from
gaps_none m a b rs e = rw e

pub gaps_last : (m : ℤ) → Word m → gaps_from m [] ≡ span m greatest ∷ []
unfolding gaps_from
gaps_last m p = rw (low_le_z m greatest (low m p) tt, le-leb (rank m) 4294967295 (omega (arith, rank_word m p)))

-- nothing lies above the greatest
pub gaps_end : (rs : List Span) → ranked.From 4294967297 (ranks rs) → gaps_from (greatest +ℤ pos 1) rs ≡ []
unfolding gaps_from
gaps_end [] f = refl
gaps_end (span a b ∷ rs) f = absurd (omega arith)

-- ---- whether an integer is held

-- before the range k: none of those before it holds x
pub record Seeking (n : ℕ) (los his : List ℤ) (x : ℤ) (k : ℕ) : Type 0 where
  pub inside : k ≤ n
  pub words : Words (drop k (view n los his))
  pub ascends : ranked.From 0 (ranks (drop k (view n los his)))
  pub same : holds (drop k (view n los his)) x ≡ holds (view n los his) x

pub seeking_start : (n : ℕ) (los his : List ℤ) (x : ℤ) → Ascending (view n los his) → Seeking n los his x 0
seeking_start n los his x o = record { inside = omega arith; words = words_of (view n los his) o; ascends = to_ranked (view n los his) o; same = refl }

module _ (n : ℕ) (los his : List ℤ) (x : ℤ) (v : Word x) (k : ℕ) (g : Seeking n los his x k) (p : n ≤ length los) (q : n ≤ length his) where
  -- no range is left
  pub seeking_end : n ≤ k → false ≡ holds (view n los his) x
  seeking_end t = sym (ap (λ (rs : List Span). holds rs x) (view_end n los his k t p q)) ∙ g.same

  module _ (t : k < n) where
    abbrev lower : ℤ
    lower = get_or los k (pos 0)

    abbrev upper : ℤ
    upper = get_or his k (pos 0)

    abbrev rest : List Span
    rest = drop (suc k) (view n los his)

    parted : drop k (view n los his) ≡ span lower upper ∷ rest
    parted = view_at n los his k t p q

    words : Word lower × Word upper × Words rest
    words = subst Words parted g.words

    range_known : ranked.From 0 (ranks (span lower upper ∷ rest))
    range_known = subst (λ (rs : List Span). ranked.From 0 (ranks rs)) parted g.ascends

    same : holds (span lower upper ∷ rest) x ≡ holds (view n los his) x
    same = ap (λ (rs : List Span). holds rs x) (sym parted) ∙ g.same

    -- the range ends below x
    pub seek_on : le_z x upper ≡ false → Seeking n los his x (suc k)
    seek_on e = record {
      inside = t;
      words = words.2;
      ascends = ranked.from_lower 0 (rank upper + 2) (ranks rest) (omega arith) range_known.3;
      same = sym (rw (e, and-false (le_z lower x))) ∙ same;
    }

    -- it does not, and those after it start above x
    pub seek_found : le_z x upper ≡ true → le_z lower x ≡ holds (view n los his) x
    seek_found e =
        let under : rank x ≤ rank upper = le_rank x upper v words.1 e in
        let above : holds rest x ≡ false = holds_ranks rest x words.2 v ∙ ranked.none_below (rank upper + 2) (ranks rest) (rank x) range_known.3 (omega arith) in
        sym (rw (e, above) (and_true_or_false (le_z lower x))) ∙ same
      where
        and_true_or_false : (t : Bool) → ((t && true) || false) ≡ t
        and_true_or_false true = refl
        and_true_or_false false = refl
