-- What a plan leaves open: two plans of the same bytes are one but for the places. Assumes nothing.
use mathlib.Core.Path.{◌≡◌, sym, ap, ◌∙◌}
use mathlib.Core.List.{List, ◌++◌}
use Prim.Native.Nat.{ℕ, ◌-◌}
use native.Mathlib.Omega.{arith}
use lib.ListN.{replicate}
use Rattle.blocks.specs.Numbers.{numbers_of}
use Rattle.grammar.specs.Template.{Body, Heads}
use Rattle.format.specs.declared.Family.{Family}
use Rattle.grammar.specs.Family.{LeafOf}
use Rattle.grammar.specs.Blocks.{blocks_of}
use Rattle.plans.specs.Plans.{no_plan, Planned, PlanOf, refused_plan, a_plan}
use Rattle.plans.specs.declared.Plan.{Plan}

-- the two plans are one but for the places, and where they say a refusal the places too
pub record SamePlan (p p' : Plan) : Type 0 where
  pub number : p.number ≡ p'.number
  pub low : p.low ≡ p'.low
  pub high : p.high ≡ p'.high
  pub sort : p.sort.word ≡ p'.sort.word
  pub kind : p.kind ≡ p'.kind
  pub count : p.count ≡ p'.count
  pub members : p.members ≡ p'.members
  pub blocks : p.blocks ≡ p'.blocks
  pub places : (p.number ≡ 0 → ⊥) → p.places ≡ p'.places

planned_same : (fam : Family) (t : List ℕ) (a : Heads) (b : Body (LeafOf fam)) (p p' : Plan) → p.number ≡ 0 → p'.number ≡ 0 → Planned fam t a b p → Planned fam t a b p' → SamePlan p p'
planned_same fam t a b p p' z z' x y =
    let count : p.count ≡ p'.count = x.count ∙ sym y.count in
    record {
      number = z ∙ sym z';
      low = x.lower ∙ sym y.lower;
      high = x.upper ∙ sym y.upper;
      sort = x.sort ∙ sym y.sort;
      kind = x.kind ∙ sym y.kind;
      count = count;
      members = x.size ∙ sym y.size;
      blocks = x.numbers ∙ ap (λ (n : ℕ). numbers_of (blocks_of b) ++ replicate (32 - n) 0) count ∙ sym y.numbers;
      places = λ n. absurd (n z);
    }

pub refused_same : (p p' : Plan) → p ≡ p' → SamePlan p p'
refused_same p p' e = record {
  number = ap (λ (x : Plan). x.number) e;
  low = ap (λ (x : Plan). x.low) e;
  high = ap (λ (x : Plan). x.high) e;
  sort = ap (λ (x : Plan). x.sort.word) e;
  kind = ap (λ (x : Plan). x.kind) e;
  count = ap (λ (x : Plan). x.count) e;
  members = ap (λ (x : Plan). x.members) e;
  blocks = ap (λ (x : Plan). x.blocks) e;
  places = λ n. ap (λ (x : Plan). x.places) e;
}

pub plan_same : (fam : Family) (t : List ℕ) (p p' : Plan) → PlanOf fam t p → PlanOf fam t p' → SamePlan p p'
plan_same fam t p p' (refused_plan n q l e) (refused_plan n' q' l' e') = let same : n ≡ n' = cc in refused_same p p' (e ∙ ap no_plan same ∙ sym e')
plan_same fam t p p' (refused_plan n q l e) (a_plan a b q' z x) = let c : ◌≡◌ {A = ℕ} 0 1 = cc in absurd (omega arith)
plan_same fam t p p' (a_plan a b q z x) (refused_plan n q' l e) = let c : ◌≡◌ {A = ℕ} 0 1 = cc in absurd (omega arith)
plan_same fam t p p' (a_plan a b q z x) (a_plan a' b' q' z' y) =
    let u : a' ≡ a = cc in
    let v : b' ≡ b = cc in
    planned_same fam t a b p p' z z' x (moved u v y)
  where
    moved : a' ≡ a → b' ≡ b → Planned fam t a' b' p' → Planned fam t a b p'
    moved u v w = rw (sym u, sym v) w
