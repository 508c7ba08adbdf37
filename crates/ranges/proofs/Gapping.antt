-- Ranges in two arrays that become their gaps, turn by turn: a gap is written where a range was read. Assumes nothing.
use mathlib.Core.Path.{◌≡◌, refl, sym, ap, ◌∙◌, subst}
use mathlib.Core.Bool.{true, false}
use mathlib.Core.List.{List, [], ◌∷◌, ◌++◌, append_assoc, append-nil}
use Prim.Native.Nat.{ℕ, suc, ◌+◌, ◌≤◌, ◌<◌}
use native.Mathlib.Omega.{arith}
use lib.IntN.{ℤ, pos, ◌+ℤ◌, ◌-ℤ◌}
use lib.Signed.{lt_z}
use lib.ListN.{length, get_or, drop, set, length-set}
use Rattle.integers.specs.Integer.{Word, least, greatest}
use Rattle.integers.specs.Rank.{rank}
use Rattle.integers.proofs.Ranks.{low, rank_next}
use Rattle.ranges.specs.Shown.{view}
use Rattle.ranges.specs.Spans.{Span, span, Ascending, gaps_from, gaps}
use Rattle.ranges.proofs.JoinsAndGaps.{ranks, to_ranked}
use Rattle.ranges.proofs.Steps.{gaps_before, gaps_none, gaps_last, gaps_end}
use Rattle.ranges.proofs.Views.{view_end, view_at, view_push, view_later}
use Rattle.ranges.proofs.Ranked as ranked

-- before the range k: w gaps are written, and with those of the ranges from k on, which lie from m on, they are all
pub record Gapping (n : ℕ) (los his : List ℤ) (m : ℤ) (w k : ℕ) (all : List Span) : Type 0 where
  pub behind : w ≤ k
  pub inside : k ≤ n
  pub long_low_lem : n < length los
  pub long_high_lem : n < length his
  pub ascends : ranked.From (rank m) (ranks (drop k (view n los his)))
  pub whole : view w los his ++ gaps_from m (drop k (view n los his)) ≡ all

-- after the gap before the range k, which ends at b
pub record Stepped (n : ℕ) (los his : List ℤ) (b : ℤ) (w k : ℕ) (all : List Span) : Type 0 where
  pub behind : w ≤ suc k
  pub inside : k < n
  pub long_low_lem : n < length los
  pub long_high_lem : n < length his
  pub ascends : ranked.From (rank b + 2) (ranks (drop (suc k) (view n los his)))
  pub whole : view w los his ++ gaps_from (b +ℤ pos 1) (drop (suc k) (view n los his)) ≡ all

pub gapping_start : (n : ℕ) (los his : List ℤ) → n < length los → n < length his → Ascending (view n los his) → Gapping n los his least 0 0 (gaps (view n los his))
unfolding gaps
gapping_start n los his p q o =
    record { behind = omega arith; inside = omega arith; long_low_lem = p; long_high_lem = q; ascends = to_ranked (view n los his) o; whole = refl }

module _ (n : ℕ) (los his : List ℤ) (m : ℤ) (w k : ℕ) (all : List Span) (g : Gapping n los his m w k all) (t : k < n) where
  abbrev pub lower : ℤ
  lower = get_or los k (pos 0)

  abbrev pub upper : ℤ
  upper = get_or his k (pos 0)

  abbrev rest : List Span
  rest = drop (suc k) (view n los his)

  parted : drop k (view n los his) ≡ span lower upper ∷ rest
  parted = view_at n los his k t (omega (arith, g.long_low_lem)) (omega (arith, g.long_high_lem))

  pub range_known : ranked.From (rank m) (ranks (span lower upper ∷ rest))
  range_known = subst (λ (rs : List Span). ranked.From (rank m) (ranks rs)) parted g.ascends

  whole : view w los his ++ gaps_from m (span lower upper ∷ rest) ≡ all
  whole = subst (λ (rs : List Span). view w los his ++ gaps_from m rs ≡ all) parted g.whole

  pub step_over : lt_z m lower ≡ false → Stepped n los his upper w k all
  step_over e = record {
    behind = omega (arith, g.behind);
    inside = t;
    long_low_lem = g.long_low_lem;
    long_high_lem = g.long_high_lem;
    ascends = range_known.3;
    whole = ap (λ (z : List Span). view w los his ++ z) (sym (gaps_none m lower upper rest e)) ∙ whole;
  }

  pub step_gap : lt_z m lower ≡ true → Stepped n (set los w m) (set his w (lower -ℤ pos 1)) upper (suc w) k all
  step_gap e =
      let same : drop (suc k) (view n (set los w m) (set his w (lower -ℤ pos 1))) ≡ rest =
      view_later n los his w (suc k) m (lower -ℤ pos 1) (omega (arith, g.behind)) (omega (arith, g.long_low_lem)) (omega (arith, g.long_high_lem)) in
      let wrote : view (suc w) (set los w m) (set his w (lower -ℤ pos 1)) ≡ view w los his ++ (span m (lower -ℤ pos 1) ∷ []) =
      view_push w los his m (lower -ℤ pos 1) (omega (arith, g.behind, g.long_low_lem)) (omega (arith, g.behind, g.long_high_lem)) in
      record {
        behind = omega (arith, g.behind);
        inside = t;
        long_low_lem = omega (arith, g.long_low_lem, length-set los w m);
        long_high_lem = omega (arith, g.long_high_lem, length-set his w (lower -ℤ pos 1));
        ascends = subst (λ (rs : List Span). ranked.From (rank upper + 2) (ranks rs)) (sym same) range_known.3;
        whole = rw (same, wrote) (append_assoc (view w los his) (span m (lower -ℤ pos 1) ∷ []) (gaps_from (upper +ℤ pos 1) rest)
            ∙ ap (λ (z : List Span). view w los his ++ z) (sym (gaps_before m lower upper rest e)) ∙ whole);
      }

module _ (n : ℕ) (los his : List ℤ) (b : ℤ) (w k : ℕ) (all : List Span) (s : Stepped n los his b w k all) where
  -- the next range
  pub stepped_on : Word b → Gapping n los his (b +ℤ pos 1) w (suc k) all
  stepped_on p = record {
    behind = s.behind;
    inside = s.inside;
    long_low_lem = s.long_low_lem;
    long_high_lem = s.long_high_lem;
    ascends = rw (rank_next b (low b p)) (ranked.from_lower (rank b + 1) (rank b + 2) (ranks (drop (suc k) (view n los his))) (omega arith) s.ascends);
    whole = s.whole;
  }

  -- no integer is left
  pub stepped_end : b ≡ greatest → view w los his ≡ all
  stepped_end top =
      let f : ranked.From 4294967297 (ranks (drop (suc k) (view n los his))) = subst (λ (z : ℤ). ranked.From (rank z + 2) (ranks (drop (suc k) (view n los his)))) top s.ascends in
      sym (append-nil (view w los his))
      ∙ ap (λ (z : List Span). view w los his ++ z) (sym (ap (λ (z : ℤ). gaps_from (z +ℤ pos 1) (drop (suc k) (view n los his))) top ∙ gaps_end (drop (suc k) (view n los his)) f))
      ∙ s.whole

-- the last gap
pub gapping_end : (n : ℕ) (los his : List ℤ) (m : ℤ) (w k : ℕ) (all : List Span) → Gapping n los his m w k all → n ≤ k → Word m
    → view (suc w) (set los w m) (set his w greatest) ≡ all
gapping_end n los his m w k all g t p =
    let none : drop k (view n los his) ≡ [] = view_end n los his k t (omega (arith, g.long_low_lem)) (omega (arith, g.long_high_lem)) in
    view_push w los his m greatest (omega (arith, g.behind, g.inside, g.long_low_lem)) (omega (arith, g.behind, g.inside, g.long_high_lem))
    ∙ ap (λ (z : List Span). view w los his ++ z) (sym (ap (gaps_from m) none ∙ gaps_last m p)) ∙ g.whole
