-- Rows and columns exchanged: what the contracts of src/exchange.rt cite. The cell (i, c) of a list of rows is bit c of row i, `picks rows i c`.
-- digit j i         == the digit of weight j of i, where j is a power of two
-- with_digit j i c   == the number i with the digit of weight j that c has
-- LowColumns j mask <-> the mask has the columns below 32 whose digit of weight j is 0
-- LowerRow low high j mask r <-> r is the row `low` with cells of `high`, those of the columns in the mask, each j columns on
-- UpperRow low high j mask r <-> r is the row `high` with cells of `low` in the columns in the mask, each from j columns on
-- Exchanged j P old new <-> in each row of the set P a cell's row and column have exchanged their digits of weight j; the other rows are the same
-- Square s          <-> s is 8, 16 or 32
-- Within s rows     <-> all cells that are set stand in the first s rows and columns
-- Transposed old new <-> each cell's row and column are exchanged
-- Assumes nothing.
use Rattle.std.specs.Prelude.{◌≡◌, ◌⊎◌, Bool, true, false, cond, ◌&&◌, List, ℕ, ◌+◌, ◌-◌, ◌*◌, ◌/◌, ◌%◌, ◌≤◌, ◌<◌, eqb, leb, ltb, length}
use Rattle.masks.specs.Masks.{bit}
use Rattle.rows.specs.Rows.{picks}

unfoldable pub digit : ℕ → ℕ → ℕ
digit j i = i / j % 2

unfoldable pub with_digit : ℕ → ℕ → ℕ → ℕ
with_digit j i c = i - digit j i * j + digit j c * j

pub record LowColumns (j mask : ℕ) : Type 0 where
  pub same : (c : ℕ) → bit mask c ≡ (ltb c 32 && eqb (digit j c) 0)

pub record LowerRow (low high j mask r : ℕ) : Type 0 where
  pub inside : (c : ℕ) → c < 32 → bit r c ≡ cond (leb j c && bit mask (c - j)) (bit high (c - j)) (bit low c)
  pub beyond : (c : ℕ) → 32 ≤ c → bit r c ≡ bit low c

pub record UpperRow (low high j mask r : ℕ) : Type 0 where
  pub same : (c : ℕ) → bit r c ≡ cond (bit mask c) (bit low (c + j)) (bit high c)

pub record Exchanged (j : ℕ) (P : ℕ → Bool) (old new : List ℕ) : Type 0 where
  pub size : length new ≡ 32
  pub inside : (i c : ℕ) → P i ≡ true → c < 32 → picks new i c ≡ picks old (with_digit j i c) (with_digit j c i)
  pub outside : (i c : ℕ) → P i ≡ false → picks new i c ≡ picks old i c
  pub beyond : (i c : ℕ) → 32 ≤ c → picks new i c ≡ picks old i c

abbrev pub Square : ℕ → Type 0
Square s = (s ≡ 8) ⊎ ((s ≡ 16) ⊎ (s ≡ 32))

pub record Within (s : ℕ) (rows : List ℕ) : Type 0 where
  pub row : (i c : ℕ) → picks rows i c ≡ true → i < s
  pub column : (i c : ℕ) → picks rows i c ≡ true → c < s

pub record Transposed (old new : List ℕ) : Type 0 where
  pub size : length new ≡ 32
  pub same : (i c : ℕ) → picks new i c ≡ picks old c i
