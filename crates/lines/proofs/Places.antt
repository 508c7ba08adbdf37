-- Bytes put at a place: one byte, some bytes after others, and the length afterwards. Assumes nothing.
use mathlib.Core.Path.{◌≡◌, sym, ap, ◌∙◌}
use mathlib.Core.List.{List, [], ◌∷◌, ◌++◌, append_assoc}
use Prim.Native.Nat.{ℕ, ◌+◌, ◌≤◌, ◌<◌}
use native.Mathlib.Omega.{arith}
use native.Mathlib.Numerals.{add-one}
use native.Mathlib.Nat.{add_assoc}
use lib.ListN.{length, take, drop, set, length-append, length-drop}
use lib.Seq.{length-take-le, set_split, take_at, drop-append-add, drop-drop}
use Rattle.lines.specs.Contract.{placed}

pub placed_set : (o : List ℕ) (p b : ℕ) → p < length o → set o p b ≡ placed p (b ∷ []) o
unfolding placed
placed_set o p b h = set_split o p b h ∙ ap (λ (i : ℕ). take p o ++ b ∷ drop i o) (sym (add-one p))

head_length : (o bs : List ℕ) (p : ℕ) → p + length bs ≤ length o → length (take p o ++ bs) ≡ p + length bs
head_length o bs p h = length-append (take p o) bs ∙ ap (λ (i : ℕ). i + length bs) (length-take-le p o (omega arith))

pub length_placed : (o bs : List ℕ) (p : ℕ) → p + length bs ≤ length o → length (placed p bs o) ≡ length o
unfolding placed
length_placed o bs p h =
    let a = length-append (take p o) (bs ++ drop (p + length bs) o) in
    let b = length-append bs (drop (p + length bs) o) in
    let c = length-drop (p + length bs) o in
    let d : length (take p o) ≡ p = length-take-le p o (omega arith) in
    omega arith

pub placed_then : (o bs cs : List ℕ) (p q : ℕ) → p + length bs ≤ length o → q ≡ p + length bs → placed q cs (placed p bs o) ≡ placed p (bs ++ cs) o
unfolding placed
placed_then o bs cs p q h e =
    let front = take p o ++ bs in
    let rest = drop (p + length bs) o in
    let size : length front ≡ q = head_length o bs p h ∙ sym e in
    let whole : take p o ++ (bs ++ rest) ≡ front ++ rest = sym (append_assoc (take p o) bs rest) in
    let first : take q (take p o ++ (bs ++ rest)) ≡ front = ap (λ (l : List ℕ). take q l) whole ∙ take_at front rest q size in
    let after : drop (q + length cs) (take p o ++ (bs ++ rest)) ≡ drop (p + length (bs ++ cs)) o =
    ap (λ (l : List ℕ). drop (q + length cs) l) whole
    ∙ ap (λ (i : ℕ). drop (i + length cs) (front ++ rest)) (sym size)
    ∙ drop-append-add front rest (length cs)
    ∙ drop-drop (length cs) (p + length bs) o
    ∙ ap (λ (i : ℕ). drop i o) (add_assoc p (length bs) (length cs) ∙ ap (λ (i : ℕ). p + i) (sym (length-append bs cs))) in
    rw (first, after) (append_assoc (take p o) bs (cs ++ drop (p + length (bs ++ cs)) o) ∙ ap (λ (l : List ℕ). take p o ++ l) (sym (append_assoc bs cs (drop (p + length (bs ++ cs)) o))))

-- bytes at the place 0 stand in front
pub placed_front : (o bs : List ℕ) → placed 0 bs o ≡ bs ++ drop (length bs) o
unfolding placed
placed_front o bs = let e : 0 + length bs ≡ length bs = omega arith in ap (λ (i : ℕ). bs ++ drop i o) e
