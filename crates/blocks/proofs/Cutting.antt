-- Lists cut into pieces. Assumes nothing.
-- cuts_length: a cut has a byte for each element. cuts_snoc, cuts_unsnoc: the last block's piece ends a cut.
use mathlib.Core.Path.{◌≡◌, refl, sym, ap, ◌∙◌, subst}
use mathlib.Core.Bool.{Bool}
use mathlib.Core.List.{List, [], ◌∷◌, ◌++◌, append_assoc, append-nil}
use Prim.Native.Nat.{ℕ, ◌-◌, ◌≤◌}
use native.Mathlib.Omega.{arith}
use lib.ListN.{length, length-append}
use Rattle.byte_order.specs.ByteOrder.{Joins}
use Rattle.blocks.specs.declared.Block.{Block}
use Rattle.blocks.specs.Pieces.{Takes, Cuts}

-- what a piece and the rest give together
record Sized (from to : ℕ) (w : List ℕ) : Type 0 where
  order : from ≤ to
  size : length w ≡ to - from

sized : (may : ℕ → ℕ → Bool) (bs : List Block) (from to : ℕ) (w : List ℕ) → Cuts may bs from to w → Sized from to w
unfolding Cuts
sized may [] from to w c = let q = c.0 in record { order = omega arith; size = ap (λ (x : List ℕ). length x) c.1 ∙ omega arith }
sized may (b ∷ bs) from to w c =
    let a = c.after in
    let j = c.parts in
    let l = j.on_left.assigned.size in
    let r = sized may bs c.mid to j.right j.on_right in
    let o = r.order in
    let s = r.size in
    let n = length-append j.left j.right in
    record { order = omega arith; size = ap (λ (x : List ℕ). length x) j.whole ∙ omega arith }

pub cuts_order : (may : ℕ → ℕ → Bool) (bs : List Block) (from to : ℕ) (w : List ℕ) → Cuts may bs from to w → from ≤ to
cuts_order may bs from to w c = (sized may bs from to w c).order

pub cuts_length : (may : ℕ → ℕ → Bool) (bs : List Block) (from to : ℕ) (w : List ℕ) → Cuts may bs from to w → length w ≡ to - from
cuts_length may bs from to w c = (sized may bs from to w c).size

pub cuts_snoc : (may : ℕ → ℕ → Bool) (bs : List Block) (b : Block) (from mid to : ℕ) (u v : List ℕ) → Cuts may bs from mid u → mid ≤ to → Takes may b mid to v
    → Cuts may (bs ++ (b ∷ [])) from to (u ++ v)
unfolding Cuts
cuts_snoc may [] b from mid to u v c l t = record {
  mid = to;
  after = let q = c.0 in omega arith;
  inside = omega arith;
  parts = record {
    left = v;
    right = [];
    whole = ap (λ (x : List ℕ). x ++ v) c.1 ∙ sym (append-nil v);
    on_left = subst (λ (x : ℕ). Takes may b x to v) (sym c.0) t;
    on_right = (refl, refl);
  };
}
cuts_snoc may (a ∷ bs) b from mid to u v c l t =
    let j = c.parts in
    let o = cuts_order may bs c.mid mid j.right j.on_right in
    record {
      mid = c.mid;
      after = c.after;
      inside = omega arith;
      parts = record {
        left = j.left;
        right = j.right ++ v;
        whole = ap (λ (x : List ℕ). x ++ v) j.whole ∙ append_assoc j.left j.right v;
        on_left = j.on_left;
        on_right = cuts_snoc may bs b c.mid mid to j.right v j.on_right l t;
      };
    }

-- a cut by bs up to a middle place, and what b takes from there on
pub record Ended (may : ℕ → ℕ → Bool) (bs : List Block) (b : Block) (from to : ℕ) (w : List ℕ) : Type 0 where
  pub mid : ℕ
  pub inside : mid ≤ to
  pub parts : Joins (Cuts may bs from mid) (Takes may b mid to) w

pub cuts_unsnoc : (may : ℕ → ℕ → Bool) (bs : List Block) (b : Block) (from to : ℕ) (w : List ℕ) → Cuts may (bs ++ (b ∷ [])) from to w → Ended may bs b from to w
unfolding Cuts
cuts_unsnoc may [] b from to w c =
    let j = c.parts in
    let e = j.on_right in
    record {
      mid = from;
      inside = let x = c.after in let y = c.inside in omega arith;
      parts = record {
        left = [];
        right = j.left;
        whole = j.whole ∙ ap (λ (x : List ℕ). j.left ++ x) e.1 ∙ append-nil j.left;
        on_left = (refl, refl);
        on_right = subst (λ (x : ℕ). Takes may b from x j.left) e.0 j.on_left;
      };
    }
cuts_unsnoc may (a ∷ bs) b from to w c =
    let j = c.parts in
    let r = cuts_unsnoc may bs b c.mid to j.right j.on_right in
    let k = r.parts in
    record {
      mid = r.mid;
      inside = r.inside;
      parts = record {
        left = j.left ++ k.left;
        right = k.right;
        whole = j.whole ∙ ap (λ (x : List ℕ). j.left ++ x) k.whole ∙ sym (append_assoc j.left k.left k.right);
        on_left = record {
          mid = c.mid;
          after = c.after;
          inside = cuts_order may bs c.mid r.mid k.left k.on_left;
          parts = record { left = j.left; right = k.left; whole = refl; on_left = j.on_left; on_right = k.on_left };
        };
        on_right = k.on_right;
      };
    }
