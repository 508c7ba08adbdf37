-- `after_last`. The loop: the bytes from p on are 255.
use Rattle.std.proofs.Common.{◌≡◌, ℕ, ◌≤◌, ◌<◌, get_or}
use Rattle.places.proofs.after_last.Given as goal

abbrev pub invariant-loop-p : goal.invariant-loop-p
invariant-loop-p l = (i : ℕ) → l.p ≤ i → i < l.to → get_or l.w i 0 ≡ 255
