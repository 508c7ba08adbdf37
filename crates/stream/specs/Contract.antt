-- What the functions say. A place is an index into the bytes; what stands there is `drop place bytes`.
-- zeros k             == k integers 0
-- Listed t o code n next xs <-> what was read as o: its fault `code`, never 0, and then all else is 0; or `code` 0, its n integers
--                        in front of xs, zeros after them up to 32, and `next` the place after it
-- Assumes nothing: these are definitions.
use Rattle.std.specs.Prelude.{◌≡◌, List, ℕ, ◌-◌, ◌≤◌, ◌<◌, length, take, drop, replicate, ℤ, pos}
use Rattle.grammar.specs.Read.{Read, refuse, got}

abbrev pub zeros : ℕ → List ℤ
zeros k = replicate k (pos 0)

pub data Listed (t : List ℕ) (o : Read (List ℤ)) (code n next : ℕ) (xs : List ℤ) : Type 0 where
  faulty : o ≡ refuse code → 0 < code → n ≡ 0 → next ≡ 0 → xs ≡ zeros 32 → Listed t o code n next xs
  read : o ≡ got (take n xs) (drop next t) → code ≡ 0 → n ≤ 32 → next ≤ length t → length xs ≡ 32 → drop n xs ≡ zeros (32 - n)
      → Listed t o code n next xs
