-- The output that is written from the front on, turn by turn. Assumes nothing.
use mathlib.Core.Path.{◌≡◌, refl, sym, ap, subst, ◌∙◌}
use mathlib.Core.Bool.{Bool, true, false}
use mathlib.Core.List.{List, [], ◌++◌, append_assoc}
use Prim.Native.Nat.{ℕ, ◌+◌, ◌*◌, ◌-◌, ◌≤◌, ◌<◌}
use native.Mathlib.Omega.{arith}
use lib.ListN.{length, take, drop, length-drop}
use borrow.Rule.Slice.PartMut.{put_mid, same_len_mid}
use Rattle.facts.proofs.Cases.{clash}
use Rattle.facts.proofs.Puts.{Put, lent_length, put_more}
use Rattle.grammar.specs.Read.{got}
use Rattle.lines.specs.Contract.{Wrote}
use Rattle.lines.proofs.Lines.{number_few, wrote_inside}
use Rattle.stream.specs.Input.{reached}
use Rattle.intake_lines.specs.Output.{turn, lines_from, started, output}
use Rattle.intake_lines.specs.Contract.{Headed, refused, found, Turned, stopped, went}
use Rattle.plans.specs.declared.Plan.{Plan}
use Rattle.rendering.proofs.Steps.{lines_last, lines_more}
use Rattle.rendering.proofs.Sizes.{reached_inv, turn_size}

-- ---- a part that is lent, and comes back with bytes in front

module _ (done o₀ o : List ℕ) (f : ℕ) (w : Wrote done o₀ o f) (room : f ≤ length o₀) where
  put : Put o₀ o done f
  put = record { is = w.bytes ∙ ap (λ (i : ℕ). done ++ drop i o₀) (sym w.count); size = sym w.count; room = room }

  part_length : length (take (length o - f) (drop f o)) ≡ length o₀ - f
  part_length = lent_length o₀ o done f put

  wrote_more : (l ys : List ℕ) (n : ℕ) → length ys ≡ length (take (length o - f) (drop f o)) → Wrote l (take (length o - f) (drop f o)) ys n → Wrote (done ++ l) o₀ (put_mid f (length o - f) o ys) (f + n)
  wrote_more l ys n long v =
      let part = part_length in
      let fits = wrote_inside l (take (length o - f) (drop f o)) ys n v in
      let m = put_more o₀ o done f put l ys n (sym v.count) (omega arith) (v.bytes ∙ ap (λ (i : ℕ). l ++ drop i (take (length o - f) (drop f o))) (sym v.count)) in
      record { bytes = m.is ∙ ap (λ (i : ℕ). (done ++ l) ++ drop i o₀) (sym m.size); count = sym m.size }

-- ---- the lists, turn by turn

pub record Going (t input : List ℕ) (first : ℕ) (o₀ o : List ℕ) (at number filled : ℕ) : Type 0 where
  pub done : List ℕ
  pub wrote : Wrote done o₀ o filled
  pub rest : done ++ lines_from t number (drop at input) ≡ lines_from t 1 (drop first input)
  pub inside : at ≤ length input
  pub few : 2 * number ≤ at + 2
  pub room : filled + 5 * (length input - at) + 256 ≤ length o
  pub same : length o ≡ length o₀

pub going_start : (t input : List ℕ) (first : ℕ) (o : List ℕ) → first ≤ length input → 5 * length input + 256 ≤ length o → Going t input first o o first 1 0
going_start t input first o inside room = record { done = []; wrote = record { bytes = refl; count = refl }; rest = refl; inside = inside; few = omega arith; room = omega arith; same = refl }

module _ (t input : List ℕ) (first : ℕ) (o₀ o : List ℕ) (at number filled : ℕ) (going : Going t input first o₀ o at number filled) where
  within : filled ≤ length o₀
  within = omega (arith, going.room, going.same)

  pub going_part : length (take (length o - filled) (drop filled o)) ≡ length o - filled
  going_part = part_length going.done o₀ o filled going.wrote within ∙ ap (λ (n : ℕ). n - filled) (sym going.same)

  pub going_kept : (ys : List ℕ) → length ys ≡ length (take (length o - filled) (drop filled o)) → length (put_mid filled (length o - filled) o ys) ≡ length o
  going_kept ys long = same_len_mid filled (length o - filled) o ys long

  module _ (known : reached input ≡ got t (drop first input)) where
    pub going_number : number < 100000
    going_number = let s = (reached_inv input t (drop first input) known).short in omega (arith, going.few, going.inside)

    module _ (ys : List ℕ) (n next : ℕ) (more : Bool) (long : length ys ≡ length (take (length o - filled) (drop filled o))) where
      pub going_end : Turned (turn t number (drop at input)) input at (take (length o - filled) (drop filled o)) ys n next more → more ≡ false
          → Wrote (lines_from t 1 (drop first input)) o₀ (put_mid filled (length o - filled) o ys) (filled + n)
      going_end (stopped l q v e m) ended =
          let whole : going.done ++ l ≡ lines_from t 1 (drop first input) = ap (λ (b : List ℕ). going.done ++ b) (sym (lines_last t number (drop at input) l q)) ∙ going.rest in
          subst (λ (b : List ℕ). Wrote b o₀ (put_mid filled (length o - filled) o ys) (filled + n)) whole (wrote_more going.done o₀ o filled going.wrote within l ys n long v)
      going_end (went l q v f i m) ended = absurd (clash m ended)

      pub going_on : Turned (turn t number (drop at input)) input at (take (length o - filled) (drop filled o)) ys n next more → more ≡ true
          → Going t input first o₀ (put_mid filled (length o - filled) o ys) next (number + 1) (filled + n)
      going_on (stopped l q v e m) goes = absurd (clash goes m)
      going_on (went l q v f i m) goes =
          let few = going.few in
          let inside = going.inside in
          let room = going.room in
          let size = turn_size t number (drop at input) l (drop next input) (reached_inv input t (drop first input) known).accepted (number_few number going_number) q in
          let here = length-drop at input in
          let there = length-drop next input in
          let count = v.count in
          let k = going_kept ys long in
          record {
            done = going.done ++ l;
            wrote = wrote_more going.done o₀ o filled going.wrote within l ys n long v;
            rest =
                append_assoc going.done l (lines_from t (number + 1) (drop next input))
                ∙ ap (λ (b : List ℕ). going.done ++ b) (sym (lines_more t number (drop at input) l (drop next input) q))
                ∙ going.rest;
            inside = i;
            few = omega arith;
            room = omega arith;
            same = going_kept ys long ∙ going.same;
          }

-- ---- the header

module _ (input before after : List ℕ) (wrote next : ℕ) (more : Bool) (plan : Plan) where
  pub header_all : Headed input before after wrote next more plan → more ≡ false → Wrote (output input) before after wrote
  unfolding output started
  header_all (refused r e w n m p) ended = subst (λ (b : List ℕ). Wrote b before after wrote) (sym (ap started e)) w
  header_all (found e f i w m p) ended = absurd (clash m ended)

  pub header_none : Headed input before after wrote next more plan → more ≡ true → after ≡ before
  header_none (refused r e w n m p) goes = absurd (clash goes m)
  header_none (found e f i w m p) goes = w.bytes

  pub header_known : Headed input before after wrote next more plan → more ≡ true → reached input ≡ got (take (next - 3) (drop 3 input)) (drop next input)
  header_known (refused r e w n m p) goes = absurd (clash goes m)
  header_known (found e f i w m p) goes = e

-- the lines of all lists, put where the header left the buffer as it was
pub lists_all : (input t s before between after : List ℕ) (wrote : ℕ) → reached input ≡ got t s → between ≡ before → Wrote (lines_from t 1 s) between after wrote → Wrote (output input) before after wrote
unfolding output started
lists_all input t s before between after wrote e same w =
    subst (λ (b : List ℕ). Wrote (output input) b after wrote) same (subst (λ (l : List ℕ). Wrote l between after wrote) (sym (ap started e)) w)
