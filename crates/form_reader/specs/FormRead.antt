-- The ranges that a normal form is written from (docs/RULES.md, "The normal form"), read off its bytes.
-- Between m hi rs <-> rs ascend, the first begins above m, none touches the next, each holds something, and none goes past hi
-- WrittenFrom lo hi t outside rs <-> the bytes t are the form that is written from rs: from the integers not matched, or from those matched; rs are
--                   at most 64, lie in the type from lo to hi, and do not hold lo
-- RecordRead t p fits a b next <-> the record of the range from a to b stands at the place p of t, up to `next`; or none does
-- RangesRead t at n m hi los his los' his' found <-> the records of n ranges as Between m hi asks, and no byte more, stand from `at` on, and the arrays
--                   los and his became los' and his', as long as they were, with these ranges in front; or no such records stand there
-- FormAt t at side n m hi los his los' his' found outside count <-> these ranges were read, and are said to be n on the side `side`; or none were, and
--                   none are said to be
-- FormRead lo hi t los his los' his' found outside n <-> t is the form that is written from the first n ranges of the arrays; or t is no normal form
-- Assumes nothing: these are definitions.
use Rattle.std.specs.Prelude.{ℕ, ◌≤◌, ◌≡◌, Bool, true, false, List, [], ◌∷◌, ◌++◌, ℤ, pos, ◌+ℤ◌, length, drop}
use Rattle.std.specs.Int.Signed.{lt_z}
use Rattle.integers.specs.Integer.{Word}
use Rattle.ranges.specs.Spans.{Span, span}
use Rattle.ranges.specs.Shown.{view}
use Rattle.forms.specs.Form.{record_of, records, side_form}

-- "none touches the next": the one after b is in neither
abbrev pub Between : ℤ → ℤ → List Span → Type 0
Between m hi [] = Unit {0}
Between m hi (span a b ∷ rs) = Word a × Word b × (lt_z m a ≡ true) × (lt_z b a ≡ false) × (lt_z hi b ≡ false) × Between (b +ℤ pos 1) hi rs

pub record WrittenFrom (lo hi : ℤ) (t : List ℕ) (outside : Bool) (rs : List Span) : Type 0 where
  pub few : length rs ≤ 64
  pub between : Between lo hi rs
  pub bytes : t ≡ side_form outside rs

pub data RecordRead (t : List ℕ) (p : ℕ) (fits : Bool) (a b : ℤ) (next : ℕ) : Type 0 where
  record_here : fits ≡ true → next ≤ length t → lt_z b a ≡ false → drop p t ≡ record_of (span a b) ++ drop next t → RecordRead t p fits a b next
  no_record : fits ≡ false → ((c d : ℤ) (s : List ℕ) → Word c → Word d → lt_z d c ≡ false → drop p t ≡ record_of (span c d) ++ s → ⊥) → RecordRead t p fits a b next

pub data RangesRead (t : List ℕ) (at n : ℕ) (m hi : ℤ) (los his los' his' : List ℤ) (found : Bool) : Type 0 where
  ranges_here : found ≡ true → length los' ≡ length los → length his' ≡ length his → Between m hi (view n los' his') → drop at t ≡ records (view n los' his') → RangesRead t at n m hi los his los' his' found
  no_ranges : found ≡ false → length los' ≡ length los → length his' ≡ length his → ((rs : List Span) → length rs ≡ n → Between m hi rs → drop at t ≡ records rs → ⊥) → RangesRead t at n m hi los his los' his' found

pub data FormAt (t : List ℕ) (at : ℕ) (side : Bool) (n : ℕ) (m hi : ℤ) (los his los' his' : List ℤ) (found outside : Bool) (count : ℕ) : Type 0 where
  form_here : found ≡ true → outside ≡ side → count ≡ n → RangesRead t at n m hi los his los' his' true → FormAt t at side n m hi los his los' his' found outside count
  form_none : found ≡ false → outside ≡ false → count ≡ 0 → RangesRead t at n m hi los his los' his' false → FormAt t at side n m hi los his los' his' found outside count

pub data FormRead (lo hi : ℤ) (t : List ℕ) (los his los' his' : List ℤ) (found outside : Bool) (n : ℕ) : Type 0 where
  is_form : found ≡ true → length los' ≡ length los → length his' ≡ length his → n ≤ 64 → WrittenFrom lo hi t outside (view n los' his') → FormRead lo hi t los his los' his' found outside n
  no_form : found ≡ false → outside ≡ false → n ≡ 0 → length los' ≡ length los → length his' ≡ length his → ((o : Bool) (rs : List Span) → WrittenFrom lo hi t o rs → ⊥) → FormRead lo hi t los his los' his' found outside n
