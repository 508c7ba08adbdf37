-- The claim of the program's output.
-- LongestOutput <-> no input has an output of more than 316,554 bytes
-- Assumes nothing: this is a statement, proved in proofs/Claims.antt.
use Rattle.std.specs.Prelude.{List, ℕ, ◌≤◌, length}
use Rattle.intake_lines.specs.Output.{output}

abbrev pub LongestOutput : Type 0
LongestOutput = (s : List ℕ) → length (output s) ≤ 316554
