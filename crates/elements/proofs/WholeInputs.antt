-- The number for a whole input, from a scan of its front: 2 before everything, 10 after everything. Assumes nothing.
use mathlib.Core.Path.{◌≡◌, refl, ap, ◌∙◌}
use mathlib.Core.List.{List, []}
use Prim.Native.Nat.{ℕ, ◌≤◌, ◌<◌}
use native.Mathlib.Omega.{arith}
use borrow.Author.Tests.{lt-ltb, le-ltb}
use lib.ListN.{length, drop, drop_of_length-le}
use lib.Seq.{drop-cons}
use Rattle.grammar.specs.Read.{Read, refuse, got, ended, limited}
use Rattle.grammar.specs.Reading.{Counted, counted, uncounted}
use Rattle.elements.specs.Contract.{Noted, stopped, noted, Ended, Answered, rejected, accepted}
use Rattle.elements.proofs.Scans.{noted_stopped, noted_read}

module _ {A : Type 0} (t : List ℕ) (o : Read A) where
  pub too_long_lem : 4096 < length t → Answered (limited t (ended o)) 2
  too_long_lem h = rejected (rw (lt-ltb 4096 (length t) h)) (omega arith)

  module _ (short : length t ≤ 4096) where
    within : limited t (ended o) ≡ ended o
    within = rw (le-ltb 4096 (length t) short)

    pub read_refused : (code : ℕ) → o ≡ refuse code → limited t (ended o) ≡ refuse code
    unfolding ended
    read_refused code q = within ∙ ap ended q

    pub read_left_over : (a : A) (next : ℕ) → next < length t → o ≡ got a (drop next t) → limited t (ended o) ≡ refuse 10
    unfolding ended
    read_left_over a next h q = within ∙ ap ended (q ∙ ap (got a) (drop-cons t next 0 h))

    pub read_whole : (a : A) (next : ℕ) → length t ≤ next → o ≡ got a (drop next t) → limited t (ended o) ≡ got a []
    unfolding ended
    read_whole a next h q = within ∙ ap ended (q ∙ ap (got a) (drop_of_length-le t {i = next} h))

    module _ (Tells : A → Type 0) (code next : ℕ) (s : Noted Tells t o code next) where
      pub answer_refused : 0 < code → Answered (limited t (ended o)) code
      answer_refused n = let r = noted_stopped _ _ _ _ _ s n in rejected (read_refused code r.0) n

      pub answer_left_over : code ≡ 0 → next < length t → Answered (limited t (ended o)) 10
      answer_left_over z h = let r = noted_read _ _ _ _ _ s z in rejected (read_left_over r.0 next h r.1) (omega arith)

      pub answer_accepted : code ≡ 0 → length t ≤ next → Answered (limited t (ended o)) 0
      answer_accepted z h = let r = noted_read _ _ _ _ _ s z in accepted r.0 (read_whole r.0 next h r.1) refl

-- the leaves of an element template by itself are not handed on
pub uncounted_ended : {A : Type 0} (t : List ℕ) (o : Read (Counted A)) (r : ℕ) → Ended t o r → Ended t (uncounted o) r
unfolding uncounted
uncounted_ended t o r (stopped q p s) = stopped (ap uncounted q) p s
uncounted_ended t o r (noted (counted a j) q z e i) = noted a (ap uncounted q) z e i
