-- `up_to`: a remainder by a power of two cuts off.
use Rattle.std.proofs.Common.{◌≡◌, ◌&&◌, ℕ, suc, ◌+◌, ◌*◌, ◌%◌, ◌^◌, ◌<◌, leb, subst, sym, ap, ◌∙◌, add-one, arith}
use native.Mathlib.Nat.{one-mul}
use lib.Dec.{lit<}
use lib.Pow.{shl_exact}
use Rattle.masks.specs.Masks.{bit}
use Rattle.place_masks.proofs.PlaceBits.{cut_all, cut_to_lem}
use Rattle.place_masks.proofs.up_to.Goals as goal

one_shifted : (p : ℕ) → p < 63 → 1 * 2 ^ (p + 1) % 2 ^ 64 ≡ 2 ^ suc p
one_shifted p l = shl_exact 1 (p + 1) 64 (lit< tt) (omega arith) ∙ one-mul (2 ^ (p + 1)) ∙ ap (λ (z : ℕ). 2 ^ z) (add-one p)

pub returns-then-p-ge63 : goal.returns-then-p-ge63
returns-then-p-ge63 c e = cut_all c.args.places c.args.p e c.ranges.places.fits (omega arith)

pub returns : goal.returns
returns c e =
    subst (λ (m : ℕ). bit (c.args.places % m) e ≡ (leb e c.args.p && bit c.args.places e)) (sym (one_shifted c.args.p (omega arith))) (cut_to_lem c.args.places c.args.p e)
