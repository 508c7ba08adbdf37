-- Rows of elements turned to rows of members: what the contracts of src/lib.rt cite.
-- Turned rows first k from to cols <-> cols has a row for each member: of the members first .. first + k - 1 the elements from .. to - 1 that it
--   may take, of every other member none
-- Piece rows first k from to part <-> part has a row for each element: of the elements from .. to - 1 the members first .. first + k - 1 that may
--   take it, of every other element none
-- Spans end to s <-> s is 8, 16 or 32, and neither end nor to is more
-- Assumes nothing.
use Rattle.std.specs.Prelude.{◌≡◌, ◌&&◌, List, ℕ, ◌+◌, ◌≤◌, length}
use Rattle.rows.specs.Rows.{may, picks}
use Rattle.facts.specs.Counting.{between}
use Rattle.rows.specs.Exchange.{Square}

pub record Turned (rows : List ℕ) (first k from to : ℕ) (cols : List ℕ) : Type 0 where
  pub size : length cols ≡ 32
  pub same : (m e : ℕ) → picks cols m e ≡ (may rows m e && (between first (first + k) m && between from to e))

pub record Piece (rows : List ℕ) (first k from to : ℕ) (part : List ℕ) : Type 0 where
  pub size : length part ≡ 32
  pub same : (m e : ℕ) → may part m e ≡ (may rows m e && (between first (first + k) m && between from to e))

pub record Spans (end to s : ℕ) : Type 0 where
  pub square : Square s
  pub members : end ≤ s
  pub elements : to ≤ s
