-- A subset is filled by its members or, under sheet 1, contained in them, and every other body is cut by its blocks: so the first filling, containment or cut
-- is the first of what the body allows. Assumes nothing.
use mathlib.Core.Path.{◌≡◌, sym, subst, subst₂}
use mathlib.Core.Bool.{Bool}
use mathlib.Core.List.{List}
use Prim.Native.Nat.{ℕ}
use native.Mathlib.Omega.{arith}
use borrow.Author.Tests.{eq-eqb, ne_eqb}
use lib.Dec.{eqb}
use Rattle.blocks.specs.declared.Block.{Block}
use Rattle.blocks.specs.Pieces.{Cuts, Contains, Fills, Best}
use Rattle.witnesses.specs.ByKind.{AllowsBy, Allows}

module _ (kind : ℕ) (bs : List Block) (k : ℕ) (may : ℕ → ℕ → Bool) (n : ℕ) where
  subset_allows : (P : (List ℕ → Type 0) → Type 0) → kind ≡ 0x13 → P (Fills may k n) → P (Allows kind bs k may n)
  unfolding Allows
  subset_allows P q h = subst₂ (λ (p s : Bool). P (AllowsBy p s bs k may n)) (sym (ne_eqb kind 0x14 (λ z. omega arith))) (sym (eq-eqb kind 0x13 q)) h

  plain_allows : (P : (List ℕ → Type 0) → Type 0) → kind ≡ 0x14 → P (Contains may k n) → P (Allows kind bs k may n)
  unfolding Allows
  plain_allows P q h = subst (λ (p : Bool). P (AllowsBy p (eqb kind 0x13) bs k may n)) (sym (eq-eqb kind 0x14 q)) h

  blocks_allow : (P : (List ℕ → Type 0) → Type 0) → (kind ≡ 0x13 → ⊥) → (kind ≡ 0x14 → ⊥) → P (Cuts may bs 0 n) → P (Allows kind bs k may n)
  unfolding Allows
  blocks_allow P q r h = subst₂ (λ (p s : Bool). P (AllowsBy p s bs k may n)) (sym (ne_eqb kind 0x14 r)) (sym (ne_eqb kind 0x13 q)) h

  pub first_subset : {found : Bool} {w : List ℕ} → kind ≡ 0x13 → Best (Fills may k n) n found w → Best (Allows kind bs k may n) n found w
  first_subset {found} {w} q h = subset_allows (λ (P : List ℕ → Type 0). Best P n found w) q h

  pub first_plain : {found : Bool} {w : List ℕ} → kind ≡ 0x14 → Best (Contains may k n) n found w → Best (Allows kind bs k may n) n found w
  first_plain {found} {w} q h = plain_allows (λ (P : List ℕ → Type 0). Best P n found w) q h

  pub first_blocks : {found : Bool} {w : List ℕ} → (kind ≡ 0x13 → ⊥) → (kind ≡ 0x14 → ⊥) → Best (Cuts may bs 0 n) n found w → Best (Allows kind bs k may n) n found w
  first_blocks {found} {w} q r h = blocks_allow (λ (P : List ℕ → Type 0). Best P n found w) q r h
