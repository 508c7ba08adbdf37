-- The claim of specs/Claims.antt. A list of n elements has 2 + 5n bytes, and its line at most as many digits as its number has, and 5 + 5n bytes. With numbers of five digits that is
-- at most five bytes for each byte of the input; each shorter number saves a byte for each digit that it lacks. Assumes nothing.
use mathlib.Core.Path.{◌≡◌, refl, ap}
use mathlib.Core.List.{List}
use mathlib.Core.Logic.{◌⊎◌, inl, inr, ⊎_elim}
use Prim.Native.Nat.{ℕ, zero, suc, ◌+◌, ◌*◌, ◌-◌, ◌≤◌, ◌<◌}
use native.Mathlib.Omega.{arith}
use lib.ListN.{length, length-append}
use Rattle.facts.proofs.Cases.{below}
use Rattle.format.specs.declared.Family.{Family}
use Rattle.grammar.specs.Read.{Read, refuse, got, verdict}
use Rattle.grammar.specs.Whole.{read_template}
use Rattle.lines.specs.Line.{decimal}
use Rattle.lines.proofs.Digits.{length_decimal}
use Rattle.lines.proofs.Lines.{number_few}
use Rattle.stream.specs.Input.{reached}
use Rattle.stream.proofs.Rests.{list_read}
use Rattle.intake_lines.specs.Output.{Turn, stop, go, turn, follow, lines_by, lines_from, started, output}
use Rattle.rendering.proofs.Steps.{turn_went}
use Rattle.rendering.proofs.Sizes.{reached_inv, list_line_size}
use Rattle.line_claims.specs.Claims.{LongestOutput}
use Rattle.line_claims.proofs.Faults.{last_size, refusal_size, two_bytes}

-- ---- the digits that numbers from k on lack: a number below b lacks the digit that b brings

unfoldable lacking : ℕ → ℕ → ℕ
lacking b k = b - k

lacking_one : (b k : ℕ) → k < b → lacking b k ≡ 1 + lacking b (k + 1)
unfolding lacking
lacking_one b k h = omega arith

lacking_none : (b k : ℕ) → b ≤ k → lacking b k ≡ 0
unfolding lacking
lacking_none b k h = omega arith

unfoldable saved : ℕ → ℕ
saved k = lacking 10 k + lacking 100 k + lacking 1000 k + lacking 10000 k

saved_step : (k : ℕ) → k < 100000 → length (decimal k) + saved k ≤ 5 + saved (k + 1)
unfolding saved
saved_step k h = below_ten
  where
    five : 10000 ≤ k → length (decimal k) + saved k ≤ 5 + saved (k + 1)
    five a =
        let d : length (decimal k) ≤ 5 = length_decimal 4 k (omega arith) in
        omega (arith, lacking_none 10 k (omega arith), lacking_none 100 k (omega arith), lacking_none 1000 k (omega arith), lacking_none 10000 k a)

    four : 1000 ≤ k → k < 10000 → length (decimal k) + saved k ≤ 5 + saved (k + 1)
    four a b =
        let d : length (decimal k) ≤ 4 = length_decimal 3 k (omega arith) in
        omega (arith, lacking_none 10 k (omega arith), lacking_none 100 k (omega arith), lacking_none 1000 k a, lacking_one 10000 k b)

    three : 100 ≤ k → k < 1000 → length (decimal k) + saved k ≤ 5 + saved (k + 1)
    three a b =
        let d : length (decimal k) ≤ 3 = length_decimal 2 k (omega arith) in
        omega (arith, lacking_none 10 k (omega arith), lacking_none 100 k a, lacking_one 1000 k b, lacking_one 10000 k (omega arith))

    two : 10 ≤ k → k < 100 → length (decimal k) + saved k ≤ 5 + saved (k + 1)
    two a b =
        let d : length (decimal k) ≤ 2 = length_decimal 1 k (omega arith) in
        omega (arith, lacking_none 10 k a, lacking_one 100 k b, lacking_one 1000 k (omega arith), lacking_one 10000 k (omega arith))

    one : k < 10 → length (decimal k) + saved k ≤ 5 + saved (k + 1)
    one b =
        let d : length (decimal k) ≤ 1 = length_decimal 0 k (omega arith) in
        omega (arith, lacking_one 10 k b, lacking_one 100 k (omega arith), lacking_one 1000 k (omega arith), lacking_one 10000 k (omega arith))

    below_thousands : 1000 ≤ k → length (decimal k) + saved k ≤ 5 + saved (k + 1)
    below_thousands a = ⊎_elim (λ (b : k < 10000). four a b) (λ (b : 10000 ≤ k). five b) (below k 10000)

    below_hundreds : 100 ≤ k → length (decimal k) + saved k ≤ 5 + saved (k + 1)
    below_hundreds a = ⊎_elim (λ (b : k < 1000). three a b) (λ (b : 1000 ≤ k). below_thousands b) (below k 1000)

    below_tens : 10 ≤ k → length (decimal k) + saved k ≤ 5 + saved (k + 1)
    below_tens a = ⊎_elim (λ (b : k < 100). two a b) (λ (b : 100 ≤ k). below_hundreds b) (below k 100)

    below_ten : length (decimal k) + saved k ≤ 5 + saved (k + 1)
    below_ten = ⊎_elim (λ (b : k < 10). one b) (λ (b : 10 ≤ k). below_tens b) (below k 10)

saved_none : (k : ℕ) → 10000 ≤ k → saved k ≡ 0
unfolding saved
saved_none k h = omega (arith, lacking_none 10 k (omega arith), lacking_none 100 k (omega arith), lacking_none 1000 k (omega arith), lacking_none 10000 k h)

saved_all : saved 1 ≡ 11106
unfolding saved lacking
saved_all = refl

-- ---- the lines from a list on: five bytes for each byte of the input but for the digits that are saved, or few lines

abbrev Bound : ℕ → ℕ → ℕ → Type 0
Bound m k n = (m + saved k ≤ 5 * n + 5) ⊎ ((k < 10000) × (m ≤ 10 * (10000 - k) + n + 11))

bound_last : (m k n : ℕ) → m ≤ 12 → m ≤ 5 + 5 * n → Bound m k n
bound_last m k n few by_bytes =
    ⊎_elim
    (λ (a : k < 10000). inr (a, omega arith))
    (λ (a : 10000 ≤ k). let z = saved_none k a in inl (omega arith))
    (below k 10000)

bound_more : (l m k n n' e : ℕ) → k < 100000 → l ≤ length (decimal k) + 5 + 5 * e → n' + 2 + 5 * e ≤ n → Bound m (k + 1) n' → Bound (l + m) k n
bound_more l m k n n' e small size rest b =
    let d = number_few k small in
    let z = saved_step k small in
    ⊎_elim
    (λ (a : m + saved (k + 1) ≤ 5 * n' + 5). inl (omega arith))
    (λ (a : (k + 1 < 10000) × (m ≤ 10 * (10000 - (k + 1)) + n' + 11)). let a₀ = a.0 in let a₁ = a.1 in inr (omega arith, omega arith))
    b

lines_bound : (f : ℕ) (t : List ℕ) (k : ℕ) (s : List ℕ) → verdict (read_template Family.Integers t) ≡ 0 → 2 * k + length s ≤ 65540 → Bound (length (lines_by f t k s)) k (length s)
unfolding lines_by follow
lines_bound zero t k s accepted few = bound_last 0 k (length s) (omega arith) (omega arith)
lines_bound (suc f) t k s accepted few = by_turn (λ s' h. lines_bound f t (k + 1) s' accepted h) (turn t k s) refl
  where
    by_turn : ((s' : List ℕ) → 2 * (k + 1) + length s' ≤ 65540 → Bound (length (lines_by f t (k + 1) s')) (k + 1) (length s')) → (u : Turn) → turn t k s ≡ u → Bound (length (follow u (lines_by f t (k + 1)))) k (length s)
    by_turn ih (stop l) e =
        let z = last_size t k s l e in
        let z₀ = z.few in
        let z₁ = z.by_bytes in
        let d = number_few k (omega arith) in
        bound_last (length l) k (length s) (omega arith) (omega arith)
    by_turn ih (go l s') e =
        let w = turn_went t k s l s' e in
        let r = list_read s w.xs s' w.list in
        let rest = r.rest in
        let size = list_line_size t k w.xs accepted r.few in
        let same = ap length w.prints in
        let b = bound_more (length l) (length (lines_by f t (k + 1) s')) k (length s) (length s') (length w.xs) (omega arith) (omega arith) rest (ih s' (omega arith)) in
        rw (length-append l (lines_by f t (k + 1) s')) b

-- ---- the claim

pub longest_output : LongestOutput
unfolding output started lines_from
longest_output s = by_reading (reached s) refl
  where
    by_reading : (o : Read (List ℕ)) → reached s ≡ o → length (started o) ≤ 316554
    by_reading (refuse r) e = let z = refusal_size s r e in let d = number_few 0 (omega arith) in omega arith
    by_reading (got t r) e =
        let i = reached_inv s t r e in
        let short = i.short in
        let parts = i.parts in
        let two = two_bytes t i.accepted in
        let all = saved_all in
        ⊎_elim
        (λ (a : length (lines_by (length r) t 1 r) + saved 1 ≤ 5 * length r + 5). omega arith)
        (λ (a : (1 < 10000) × (length (lines_by (length r) t 1 r) ≤ 10 * (10000 - 1) + length r + 11)). let a₁ = a.1 in omega arith)
        (lines_bound (length r) t 1 r i.accepted (omega arith))
