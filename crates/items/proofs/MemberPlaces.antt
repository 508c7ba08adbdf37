-- What a scan notes, in general, and the places of the members one after another. Assumes nothing.
-- noted_as == the same of an equal reading; stopped_as, stopped_on == a refusal, as an answer says it, whatever is to be said of it
-- map_noted == the same scan, of what was read in another form; noted_told == the same told in another way
-- placed_none, placed_one, placed_then == no member, one member, more members after others; placed_from == after others that stand there as well
use mathlib.Core.Path.{◌≡◌, sym, ap, ◌∙◌, subst}
use mathlib.Core.List.{List, [], ◌∷◌, ◌++◌, append_assoc, append-nil}
use Prim.Native.Nat.{ℕ, suc, ◌+◌, ◌<◌}
use native.Mathlib.Omega.{arith}
use lib.ListN.{length, drop, take, set, length-append}
use lib.Seq.{take-suc-set}
use Rattle.grammar.specs.Element.{Elem}
use Rattle.format.specs.declared.Family.{Family}
use Rattle.grammar.specs.Family.{LeafOf}
use Rattle.grammar.specs.Read.{Read, refuse, got, map_read}
use Rattle.elements.specs.Contract.{Noted, stopped, noted}
use Rattle.elements.proofs.Scans.{noted_stopped}
use Rattle.grammar.specs.Blocks.{StandsAt, Standing}
use Rattle.items.specs.Notes.{Placed}

-- ---- what a noting scan says

module _ {A : Type 0} {Tells : A → Type 0} {t : List ℕ} {o : Read A} {code next : ℕ} where
  pub noted_as : {u : Read A} → o ≡ u → Noted Tells t u code next → Noted Tells t o code next
  noted_as e s = subst (λ (v : Read A). Noted Tells t v code next) (sym e) s

  -- a refusal, as an answer says it
  pub stopped_as : (number : ℕ) → o ≡ refuse number → 0 < number → number < 256 → code ≡ number → Noted Tells t o code next
  stopped_as number q p s e = stopped (q ∙ ap refuse (sym e)) (omega arith) (omega arith)

-- what was refused is refused, whatever is to be said of it
pub stopped_on : {A : Type 0} {P Q : A → Type 0} {t : List ℕ} {o : Read A} {code next place : ℕ} → Noted P t o code place → 0 < code → Noted Q t o code next
stopped_on s n = let w = noted_stopped _ _ _ _ _ s n in stopped w.0 n w.1

pub map_noted : {A B : Type 0} {P : A → Type 0} {Q : B → Type 0} {t : List ℕ} {o : Read A} {code next : ℕ} (f : A → B) → ((a : A) → o ≡ got a (drop next t) → P a → Q (f a))
    → Noted P t o code next → Noted Q t (map_read f o) code next
unfolding map_read
map_noted f g (stopped q p s) = stopped (ap (map_read f) q) p s
map_noted f g (noted a q z w i) = noted (f a) (ap (map_read f) q) z (g a q w) i

-- what is told of something that was read, told in another way
pub noted_told : {A : Type 0} {P Q : A → Type 0} {t : List ℕ} {o : Read A} {code next : ℕ} → ((a : A) → o ≡ got a (drop next t) → P a → Q a) → Noted P t o code next → Noted Q t o code next
noted_told g (stopped q p s) = stopped q p s
noted_told g (noted a q z w i) = noted a q z (g a q w) i

-- ---- the places of the members

standing_more : (fam : Family) (t : List ℕ) (es : List (Elem (LeafOf fam))) (ps : List ℕ) (e : Elem (LeafOf fam)) (p : ℕ) → Standing fam t es ps → StandsAt fam t p e → Standing fam t (es ++ e ∷ []) (ps ++ p ∷ [])
unfolding Standing
standing_more fam t [] [] e p s h = (h, tt)
standing_more fam t [] (q ∷ ps) e p s h = absurd s
standing_more fam t (f ∷ es) [] e p s h = absurd s
standing_more fam t (f ∷ es) (q ∷ ps) e p s h = (s.0, standing_more fam t es ps e p s.1 h)

pub placed_none : (fam : Family) (t : List ℕ) (m : ℕ) (places : List ℕ) → Placed fam t m places [] m places
placed_none fam t m places = record {
  counts = omega arith;
  stands = λ es₀ s. subst (λ (v : List (Elem (LeafOf fam))). Standing fam t v (take m places)) (sym (append-nil es₀)) s;
}

-- the places before m stay, and p is the next one
pub placed_one : (fam : Family) (t : List ℕ) (m : ℕ) (places : List ℕ) (e : Elem (LeafOf fam)) (p : ℕ) → m < length places → StandsAt fam t p e → Placed fam t m places (e ∷ []) (m + 1) (set places m p)
placed_one fam t m places e p l h = record {
  counts = omega arith;
  stands = λ es₀ s.
      let n : m + 1 ≡ suc m = omega arith in
      rw (n, take-suc-set places m p l) (standing_more fam t es₀ (take m places) e p s h);
}

pub placed_then : {fam : Family} {t : List ℕ} {m : ℕ} {before : List ℕ} {es : List (Elem (LeafOf fam))} {k : ℕ} {places : List ℕ} {fs : List (Elem (LeafOf fam))} {n : ℕ} {after : List ℕ}
    → Placed fam t m before es k places → Placed fam t k places fs n after → Placed fam t m before (es ++ fs) n after
placed_then {fam = fam} {t = t} {es = es} {fs = fs} {n = n} {after = after} x y = record {
  counts = omega (arith, length-append es fs, x.counts, y.counts);
  stands = λ es₀ s. subst (λ (v : List (Elem (LeafOf fam))). Standing fam t v (take n after)) (append_assoc es₀ es fs) (y.stands (es₀ ++ es) (x.stands es₀ s));
}

-- what is placed after m members goes by their places only
pub placed_from : {fam : Family} {t : List ℕ} {m : ℕ} {before before' : List ℕ} {es : List (Elem (LeafOf fam))} {k : ℕ} {after : List ℕ} → take m before ≡ take m before' → Placed fam t m before es k after → Placed fam t m before' es k after
placed_from {fam = fam} {t = t} e x = record { counts = x.counts; stands = λ es₀ s. x.stands es₀ (subst (λ (v : List ℕ). Standing fam t es₀ v) (sym e) s) }
