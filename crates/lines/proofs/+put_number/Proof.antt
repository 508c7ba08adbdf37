-- `lines::put_number` meets its contract: the digits of n / 10 come first, then the last digit. At each call n falls. Assumes nothing.
use mathlib.Core.Path.{subst, ◌∙◌}
use Prim.Native.Nat.{ℕ, ◌+◌, ◌/◌, ◌%◌, ◌<◌}
use native.Mathlib.Omega.{arith}
use borrow.Author.Rules.{rules}
use borrow.Fn.Kinds.{In}
use borrow.Fn.PlainCycle.{Measures, is, falls, and}
use lib.ListN.{length, length-set}
use Rattle.lines.proofs.Digits.{inside_alone, next_alone, last_alone, fits_front, falls_by_ten, inside_after, same_after, next_after, last_after}
use Rattle.lines.proofs.put_number.Reads as put-number
use Rattle.lines.proofs.put_number.Kinds as put-number-kinds
use Rattle.lines.proofs.+put_number.Lts-put_number as lts
use Rattle.lines.proofs.+put_number.{statement}
use Rattle.lines.proofs.+put_number.Tie.{close}

abbrev μ : Measures 1 put-number-kinds.ps ℕ
μ κs a = a.1.1.0

abbrev at : ℕ → In 1 put-number-kinds.ps
at t = and 1 put-number-kinds.ps (is 1 put-number-kinds.ps μ t) put-number.Pre

abbrev calls : ℕ → lts.Claims
calls t = (and 1 put-number-kinds.ps (falls 1 put-number-kinds.ps ◌<◌ μ t) put-number.Pre, put-number.Post)

cast_out : (t : ℕ) → lts.Need-overflow_cast-out (calls t) (at t) put-number.Post
cast_out t c = omega arith

add_out : (t : ℕ) → lts.Need-overflow_add-out (calls t) (at t) put-number.Post
add_out t c = omega arith

slice_write_out : (t : ℕ) → lts.Need-bounds-out-at (calls t) (at t) put-number.Post
slice_write_out t c =
    let a = c.before.before in
    inside_alone a.args.out.now a.args.at a.args.n c.if-n-lt10.true a.requires.1

add_result : (t : ℕ) → lts.Need-overflow_add-result (calls t) (at t) put-number.Post
add_result t c =
    let a = c.before.before in
    let h = inside_alone a.args.out.now a.args.at a.args.n c.if-n-lt10.true a.requires.1 in
    let l : length a.args.out.now < 9223372036854775808 = search rules in
    omega arith

same_length : (t : ℕ) → lts.Need-shape_of-out-then-n-lt10 (calls t) (at t) put-number.Post
same_length t c =
    let a = c.before.before in
    length-set a.args.out.now a.args.at (48 + a.args.n)

returns : (t : ℕ) → lts.Need-returns-then-n-lt10 (calls t) (at t) put-number.Post
returns t c =
    let a = c.before.before in
    (last_alone a.args.out.now a.args.at a.args.n c.if-n-lt10.true a.requires.1, next_alone a.args.at a.args.n c.if-n-lt10.true)

put_number_requires : (t : ℕ) → lts.Need-put_number-p-requires (calls t) (at t) put-number.Post
put_number_requires t c κs =
    let a = c.before.before.before in
    (subst (λ (j : ℕ). a.args.n / 10 < j) a.requires.0 (falls_by_ten a.args.n c.before.if-n-lt10.false), fits_front a.args.out.now a.args.at a.args.n c.before.if-n-lt10.false a.requires.1)

cast_out_2 : (t : ℕ) → lts.Need-overflow_cast-out-2 (calls t) (at t) put-number.Post
cast_out_2 t c = omega arith

add_out_2 : (t : ℕ) → lts.Need-overflow_add-out-2 (calls t) (at t) put-number.Post
add_out_2 t c = omega arith

slice_write_out_2 : (t : ℕ) → lts.Need-bounds-out-p (calls t) (at t) put-number.Post
slice_write_out_2 t c =
    let r = c.before.before.put_number-p in
    let e = c.before.before.before.before in
    let a = c.before.before.before.before.before.before in
    inside_after a.args.out.now r.new.out a.args.at a.args.n r.result e.if-n-lt10.false a.requires.1 r.ensures.0 r.ensures.1

add_result_2 : (t : ℕ) → lts.Need-overflow_add-result-2 (calls t) (at t) put-number.Post
add_result_2 t c =
    let r = c.before.before.put_number-p in
    let e = c.before.before.before.before in
    let a = c.before.before.before.before.before.before in
    let h = inside_after a.args.out.now r.new.out a.args.at a.args.n r.result e.if-n-lt10.false a.requires.1 r.ensures.0 r.ensures.1 in
    let k = same_after a.args.out.now r.new.out a.args.at a.args.n e.if-n-lt10.false a.requires.1 r.ensures.0 in
    let l : length a.args.out.now < 9223372036854775808 = search rules in
    omega arith

same_length_2 : (t : ℕ) → lts.Need-shape_of-out (calls t) (at t) put-number.Post
same_length_2 t c =
    let r = c.before.before.put_number-p in
    let e = c.before.before.before.before in
    let a = c.before.before.before.before.before.before in
    length-set r.new.out r.result (48 + a.args.n % 10) ∙ same_after a.args.out.now r.new.out a.args.at a.args.n e.if-n-lt10.false a.requires.1 r.ensures.0

returns_2 : (t : ℕ) → lts.Need-returns (calls t) (at t) put-number.Post
returns_2 t c =
    let r = c.before.before.put_number-p in
    let e = c.before.before.before.before in
    let a = c.before.before.before.before.before.before in
    (last_after a.args.out.now r.new.out a.args.at a.args.n r.result e.if-n-lt10.false a.requires.1 r.ensures.0 r.ensures.1, next_after a.args.at a.args.n r.result e.if-n-lt10.false r.ensures.1)

pub +put_number_spec : {M : Type 1} → statement M
+put_number_spec =
    close μ λ t. lts.spec (calls t) (at t) put-number.Post (cast_out t) (add_out t) (slice_write_out t) (add_result t) (same_length t) (returns t) (put_number_requires t) (cast_out_2 t) (add_out_2 t) (slice_write_out_2 t) (add_result_2 t) (same_length_2 t) (returns_2 t)
