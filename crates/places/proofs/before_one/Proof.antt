-- `before_one` meets its contract: moved by one, and cut to 32 places. Assumes nothing.
use mathlib.Core.Path.{◌≡◌, sym, ap, ◌∙◌}
use mathlib.Core.Logic.{⊎_elim}
use mathlib.Core.Bool.{◌&&◌}
use Prim.Native.Nat.{ℕ, ◌+◌, ◌/◌, ◌%◌, ◌^◌, ◌≤◌, ◌<◌}
use lib.Dec.{ltb}
use borrow.Author.Rules.{rules}
use borrow.Author.Tests.{lt-ltb, le-ltb}
use Rattle.masks.specs.Masks.{bit}
use Rattle.facts.proofs.Cases.{below}
use Rattle.masks.proofs.Masks.{bit_past}
use Rattle.masks.proofs.Shifted.{bit_shr, bit_cut}
use Rattle.places.proofs.before_one.Statement.{statement}
use Rattle.places.proofs.before_one.Tie as tie

one_before : (x e : ℕ) → bit (x / 2 ^ 1 % 2 ^ 32) e ≡ (ltb e 32 && bit x (e + 1))
one_before x e = ⊎_elim
    (λ (l : e < 32). bit_cut 32 (x / 2 ^ 1) e l ∙ bit_shr x 1 e ∙ sym (ap (λ t. t && bit x (e + 1)) (lt-ltb e 32 l)))
    (λ (l : 32 ≤ e). bit_past 32 (x / 2 ^ 1) e l ∙ sym (ap (λ t. t && bit x (e + 1)) (le-ltb e 32 l)))
    (below e 32)

cast_result : tie.Need-overflow_cast-result
cast_result c = search rules

returns : tie.Need-returns
returns c = λ e. one_before c.args.good e

pub before_one_spec : {M : Type 1} → statement M
before_one_spec = tie.close (tie.spec cast_result returns)
