-- `first_member`. The loop: the bytes before p are 255.
use Rattle.std.proofs.Common.{◌≡◌, ℕ, ◌≤◌, ◌<◌, get_or}
use Rattle.fronts.proofs.pick.first_member.Given as goal

abbrev pub invariant-loop-p : goal.invariant-loop-p
invariant-loop-p l = (i : ℕ) → l.from ≤ i → i < l.p → get_or l.w i 0 ≡ 255
