-- One record at a place of the input: its kind, and the fault of its count. Assumes nothing.
use mathlib.Core.Path.{◌≡◌}
use mathlib.Core.Bool.{cond}
use mathlib.Core.List.{List}
use Prim.Native.Nat.{ℕ, ◌+◌, ◌-◌, ◌≤◌, ◌<◌}
use native.Mathlib.Nat.{add-zero}
use native.Mathlib.Omega.{arith}
use borrow.Author.Tests.{ltb-false, lt-ltb, le-ltb}
use lib.Dec.{ltb}
use lib.ListN.{length, get_or, drop, length-drop}
use lib.Seq.{get_or-drop}
use Rattle.facts.proofs.Cases.{by-test}
use Rattle.grammar.specs.Record.{outside, count_fault}

pub kind_at : (t : List ℕ) (at : ℕ) → get_or (drop at t) 0 0 ≡ get_or t at 0
kind_at t at = simp (get_or-drop, add-zero)

module _ (lo hi : ℕ) (t : List ℕ) (at : ℕ) where
  pub count_short : length t - at < 2 → 3 ≡ count_fault lo hi (drop at t)
  unfolding count_fault
  count_short h = rw (lt-ltb (length (drop at t)) 2 (omega (arith, length-drop at t)))

  module _ (room : 2 ≤ length t - at) where
    pub count_low : get_or t (at + 1) 0 < lo → 5 ≡ count_fault lo hi (drop at t)
    unfolding count_fault
    count_low h = rw (le-ltb (length (drop at t)) 2 (omega (arith, length-drop at t)), get_or-drop at t 1 0, lt-ltb (get_or t (at + 1) 0) lo h)

    pub count_high : lo ≤ get_or t (at + 1) 0 → hi < get_or t (at + 1) 0 → 5 ≡ count_fault lo hi (drop at t)
    unfolding count_fault
    count_high l h = rw (le-ltb (length (drop at t)) 2 (omega (arith, length-drop at t)), get_or-drop at t 1 0, le-ltb (get_or t (at + 1) 0) lo l, lt-ltb hi (get_or t (at + 1) 0) h)

    pub count_right : lo ≤ get_or t (at + 1) 0 → get_or t (at + 1) 0 ≤ hi → 0 ≡ count_fault lo hi (drop at t)
    unfolding count_fault
    count_right l h = rw (le-ltb (length (drop at t)) 2 (omega (arith, length-drop at t)), get_or-drop at t 1 0, le-ltb (get_or t (at + 1) 0) lo l, le-ltb hi (get_or t (at + 1) 0) h)

-- what no fault says
pub record Counts (lo hi : ℕ) (t : List ℕ) (at : ℕ) : Type 0 where
  pub fits : at + 2 ≤ length t
  pub low : lo ≤ get_or t (at + 1) 0
  pub high : get_or t (at + 1) 0 ≤ hi

pub count_inv : (lo hi : ℕ) (t : List ℕ) (at : ℕ) → count_fault lo hi (drop at t) ≡ 0 → Counts lo hi t at
unfolding count_fault
count_inv lo hi t at e =
    by-test (ltb (length (drop at t)) 2)
    (λ s. let z : 3 ≡ 0 = rw s at e in absurd (omega arith))
    (λ s. let e₁ : cond (outside lo hi (get_or (drop at t) 1 0)) 5 0 ≡ 0 = rw s at e in
    by-test (ltb (get_or (drop at t) 1 0) lo)
    (λ a. let z : 5 ≡ 0 = rw a at e₁ in absurd (omega arith))
    (λ a. by-test (ltb hi (get_or (drop at t) 1 0))
    (λ b. let z : 5 ≡ 0 = rw (a, b) at e₁ in absurd (omega arith))
    (λ b.
    let f : 2 ≤ length (drop at t) = ltb-false (length (drop at t)) 2 s in
    let l : lo ≤ get_or (drop at t) 1 0 = ltb-false (get_or (drop at t) 1 0) lo a in
    let h : get_or (drop at t) 1 0 ≤ hi = ltb-false hi (get_or (drop at t) 1 0) b in
    record { fits = omega (arith, length-drop at t); low = omega (arith, get_or-drop at t 1 0); high = omega (arith, get_or-drop at t 1 0) })))
