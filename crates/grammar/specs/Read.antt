-- Reading from the front: a refusal, or what was read and the bytes after it (docs/RULES.md, "Numbers given back").
-- Read A    == a refusal's number, or what was read with the bytes after it
-- or_refuse b r o == the refusal r where b holds, else o
-- refuse_or r o == the refusal r, or o where r is 0
-- verdict o == the number given: the refusal's, or 0 for accepted
-- ended o   == o, or 10 where bytes are left
-- limited s o == o, or 2 where s is over 4,096 bytes
-- map_read f o == o with f of what was read
-- and_then o f == o, then what f reads after it
-- Assumes nothing: these are definitions.
use Rattle.std.specs.Prelude.{ℕ, zero, suc, List, [], ◌∷◌, Bool, cond, length, ltb}

pub data Read (A : Type 0) : Type 0 where
  refuse : ℕ → Read A
  got : A → List ℕ → Read A

abbrev pub or_refuse : {A : Type 0} → Bool → ℕ → Read A → Read A
or_refuse b r o = cond b (refuse r) o

abbrev pub refuse_or : {A : Type 0} → ℕ → Read A → Read A
refuse_or zero o = o
refuse_or (suc r) o = refuse (suc r)

unfoldable pub verdict : {A : Type 0} → Read A → ℕ
verdict (refuse r) = r
verdict (got a s) = 0

unfoldable pub ended : {A : Type 0} → Read A → Read A
ended (refuse r) = refuse r
ended (got a []) = got a []
ended (got a (x ∷ s)) = refuse 10

abbrev pub limited : {A : Type 0} → List ℕ → Read A → Read A
limited s o = or_refuse (ltb 4096 (length s)) 2 o

unfoldable pub map_read : {A B : Type 0} → (A → B) → Read A → Read B
map_read f (refuse r) = refuse r
map_read f (got a s) = got (f a) s

unfoldable pub and_then : {A B : Type 0} → Read A → (A → List ℕ → Read B) → Read B
and_then (refuse r) f = refuse r
and_then (got a s) f = f a s
