-- Ranges in two arrays that become what they hold of a type, turn by turn: a range is written where one was read. Assumes nothing.
use mathlib.Core.Path.{◌≡◌, refl, sym, ap, ◌∙◌, subst}
use mathlib.Core.Bool.{true, false, ◌||◌}
use mathlib.Core.List.{List, [], ◌∷◌, ◌++◌, append_assoc, append-nil}
use Prim.Native.Nat.{ℕ, suc, ◌≤◌, ◌<◌}
use native.Mathlib.Omega.{arith}
use lib.IntN.{ℤ, pos}
use lib.Signed.{lt_z}
use lib.ListN.{length, get_or, drop, set, length-set}
use Rattle.ranges.specs.Shown.{view}
use Rattle.ranges.specs.Spans.{Span, span, lesser, larger, cut_to}
use Rattle.ranges.proofs.Views.{view_end, view_at, view_push, view_later}

-- before the range k: w ranges are written, and with what is cut of the ranges from k on they are all
pub record Cutting (n : ℕ) (los his : List ℤ) (lo hi : ℤ) (w k : ℕ) (all : List Span) : Type 0 where
  pub behind : w ≤ k
  pub inside : k ≤ n
  pub long_low_lem : n ≤ length los
  pub long_high_lem : n ≤ length his
  pub whole : view w los his ++ cut_to lo hi (drop k (view n los his)) ≡ all

cut_out : (lo hi a b : ℤ) (rs : List Span) → (lt_z b lo || lt_z hi a) ≡ true → cut_to lo hi (span a b ∷ rs) ≡ cut_to lo hi rs
unfolding cut_to
cut_out lo hi a b rs e = rw e

cut_some : (lo hi a b : ℤ) (rs : List Span) → (lt_z b lo || lt_z hi a) ≡ false → cut_to lo hi (span a b ∷ rs) ≡ span (larger a lo) (lesser b hi) ∷ cut_to lo hi rs
unfolding cut_to
cut_some lo hi a b rs e = rw e

cut_none : (lo hi : ℤ) → cut_to lo hi [] ≡ []
unfolding cut_to
cut_none lo hi = refl

module _ (n : ℕ) (los his : List ℤ) (lo hi : ℤ) (w k : ℕ) (all : List Span) (g : Cutting n los his lo hi w k all) (t : k < n) where
  abbrev a : ℤ
  a = get_or los k (pos 0)

  abbrev b : ℤ
  b = get_or his k (pos 0)

  abbrev rest : List Span
  rest = drop (suc k) (view n los his)

  whole : view w los his ++ cut_to lo hi (span a b ∷ rest) ≡ all
  whole = subst (λ (rs : List Span). view w los his ++ cut_to lo hi rs ≡ all) (view_at n los his k t g.long_low_lem g.long_high_lem) g.whole

  -- the range lies outside the type
  pub step_out : (lt_z b lo || lt_z hi a) ≡ true → Cutting n los his lo hi w (suc k) all
  step_out e = record {
    behind = omega (arith, g.behind);
    inside = t;
    long_low_lem = g.long_low_lem;
    long_high_lem = g.long_high_lem;
    whole = ap (λ (z : List Span). view w los his ++ z) (sym (cut_out lo hi a b rest e)) ∙ whole;
  }

  -- it does not
  pub step_cut : (lt_z b lo || lt_z hi a) ≡ false → Cutting n (set los w (larger a lo)) (set his w (lesser b hi)) lo hi (suc w) (suc k) all
  step_cut e =
      let same : drop (suc k) (view n (set los w (larger a lo)) (set his w (lesser b hi))) ≡ rest =
      view_later n los his w (suc k) (larger a lo) (lesser b hi) (omega (arith, g.behind)) g.long_low_lem g.long_high_lem in
      let wrote : view (suc w) (set los w (larger a lo)) (set his w (lesser b hi)) ≡ view w los his ++ (span (larger a lo) (lesser b hi) ∷ []) =
      view_push w los his (larger a lo) (lesser b hi) (omega (arith, g.behind, g.long_low_lem)) (omega (arith, g.behind, g.long_high_lem)) in
      record {
        behind = omega (arith, g.behind);
        inside = t;
        long_low_lem = omega (arith, g.long_low_lem, length-set los w (larger a lo));
        long_high_lem = omega (arith, g.long_high_lem, length-set his w (lesser b hi));
        whole = rw (same, wrote) (append_assoc (view w los his) (span (larger a lo) (lesser b hi) ∷ []) (cut_to lo hi rest)
            ∙ ap (λ (z : List Span). view w los his ++ z) (sym (cut_some lo hi a b rest e)) ∙ whole);
      }

-- no range is left
pub cutting_end : (n : ℕ) (los his : List ℤ) (lo hi : ℤ) (w k : ℕ) (all : List Span) → Cutting n los his lo hi w k all → n ≤ k → view w los his ≡ all
cutting_end n los his lo hi w k all g t =
    sym (append-nil (view w los his))
    ∙ ap (λ (z : List Span). view w los his ++ z) (sym (ap (cut_to lo hi) (view_end n los his k t g.long_low_lem g.long_high_lem) ∙ cut_none lo hi)) ∙ g.whole
