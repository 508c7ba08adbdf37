-- `place_of`: m stands after e, so it is found.
use Rattle.std.proofs.Common.{◌≡◌, ◌+◌, ◌<◌, ◌≤◌, ℕ, List, Option, None, Some, MatchOption, IsSome, get_or, rules, refl, arith}
use Rattle.std.proofs.lemmas.Iterator.{first_from_Range}
use borrow.Author.Tests.{tests}
use Rattle.refining.specs.Refine.{Later}
use Rattle.refining.proofs.place_of.Goals as goal

some_later : {w : List ℕ} {m e : ℕ} (o : Option ℕ) (Q : ℕ → Type 0) → Later w m e 32 → MatchOption o ((k : ℕ) → e + 1 ≤ k → k < 32 → get_or w k 0 ≡ m → ⊥) Q → IsSome o
some_later None Q h f = absurd (let l = h.after in f h.place (omega arith) h.early h.here)
some_later (Some p) Q h f = refl

pub unwrap-requires : goal.unwrap-requires
unwrap-requires c =
    some_later c.find.result _ c.requires
    (first_from_Range _ _ _ c.find.result (λ k. get_or c.args.w.now k 0 ≡ c.args.m) (λ k. get_or c.args.w.now k 0 ≡ c.args.m → ⊥) c.find.ensures.ran
    (λ x q k. search (rules, tests)) (λ x q k. search (rules, tests)))
