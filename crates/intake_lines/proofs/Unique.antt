-- The promises of the public functions allow one result each, every byte of the buffer included, stated of the contracts themselves.
-- Assumes nothing.
use mathlib.Core.Path.{◌≡◌, refl, sym, ap, ap₂, subst, ◌∙◌}
use mathlib.Core.Bool.{Bool, true}
use mathlib.Core.List.{List, [], ◌∷◌}
use Prim.Native.Nat.{ℕ, ◌-◌}
use native.Mathlib.Omega.{arith}
use lib.ListN.{take, drop}
use borrow.Fn.Kinds.{Dens, res_t, ended_of}
use contract.Lifetimes.{Lfts}
use denote.Triple.Clauses.{AtExit}
use Rattle.format.specs.declared.Family.{Family}
use Rattle.grammar.specs.Read.{Read, refuse, got}
use Rattle.lines.specs.Line.{line}
use Rattle.lines.proofs.Unique.{same_bytes_lem, same_count}
use Rattle.stream.specs.Input.{reached}
use Rattle.facts.proofs.Slices.{same_place}
use Rattle.intake_lines.specs.Output.{Turn, stop, go}
use Rattle.std.specs.declared.option.Option.{Option}
use Rattle.std.specs.declared.option.Option.TheVariants.{Some, None}
use Rattle.std.specs.declared.result.Result.{Result}
use Rattle.std.specs.declared.result.Result.TheVariants.{Ok, Err}
use Rattle.std.specs.Option.{is_some, unwrap_or}
use Rattle.std.specs.Result.{MatchResult}
use Rattle.facts.proofs.Cases.{clash}
use Rattle.intake_lines.specs.Contract.{Headed, Refused, refused, found, Turned, stopped, went}
use Rattle.intake_lines.specs.declared.Progress.{Progress}
use Rattle.intake_lines.specs.declared.Opened.{Opened}
use Rattle.intake_lines.specs.declared.Rejected.{Rejected}
use Rattle.plans.specs.Plans.{no_plan, PlanOf}
use Rattle.plans.specs.declared.Plan.{Plan}
use Rattle.plans.proofs.OnePlan.{SamePlan, refused_same, plan_same}
use Rattle.intake_lines.proofs.open_input.Reads as open-input
use Rattle.intake_lines.proofs.open_input.Kinds as open-input-kinds
use Rattle.intake_lines.proofs.answer_next.Reads as answer-next
use Rattle.intake_lines.proofs.answer_next.Kinds as answer-next-kinds

abbrev made : ℕ → Option ℕ → Progress
made wrote next = record { wrote = wrote; next = next }

pub record Same (after after' : List ℕ) (wrote wrote' next next' : ℕ) (more more' : Bool) : Type 0 where
  pub bytes : after ≡ after'
  pub count : wrote ≡ wrote'
  pub place : next ≡ next'
  pub again : more ≡ more'

refused_found : (o : Read (List ℕ)) (r : ℕ) (t s : List ℕ) → o ≡ refuse r → o ≡ got t s → ⊥
refused_found o r t s p q = let z : ◌≡◌ {A = ℕ} 0 1 = cc in omega arith

rest_same : (o : Read (List ℕ)) (t t' s s' : List ℕ) → o ≡ got t s → o ≡ got t' s' → s ≡ s'
rest_same o t t' s s' p q = cc

refusal_same : (o : Read (List ℕ)) (r r' : ℕ) → o ≡ refuse r → o ≡ refuse r' → r ≡ r'
refusal_same o r r' p q = cc

module _ (s before after after' : List ℕ) (wrote wrote' next next' : ℕ) (more more' : Bool) (p p' : Plan) where
  pub headed_unique : Headed s before after wrote next more p → Headed s before after' wrote' next' more' p' → Same after after' wrote wrote' next next' more more' × SamePlan p p'
  headed_unique (refused r q w n m e) (refused r' q' w' n' m' e') =
      let number = refusal_same (reached s) r r' q q' in
      let l : line 0 (r ∷ 0 ∷ []) ≡ line 0 (r' ∷ 0 ∷ []) = ap (λ (j : ℕ). line 0 (j ∷ 0 ∷ [])) number in
      (record { bytes = same_bytes_lem before after after' wrote wrote' _ _ l w w'; count = same_count before after after' wrote wrote' _ _ l w w'; place = n ∙ sym n'; again = m ∙ sym m' }, refused_same p p' (e ∙ ap no_plan number ∙ sym e'))
  headed_unique (refused r q w n m e) (found q' f' i' w' m' l') = absurd (refused_found (reached s) r _ _ q q')
  headed_unique (found q f i w m l) (refused r q' w' n' m' e') = absurd (refused_found (reached s) r _ _ q' q)
  headed_unique (found q f i w m l) (found q' f' i' w' m' l') =
      let at : next ≡ next' = same_place s next next' i i' (rest_same (reached s) _ _ (drop next s) (drop next' s) q q') in (
        record {
          bytes = same_bytes_lem before after after' wrote wrote' [] [] refl w w';
          count = same_count before after after' wrote wrote' [] [] refl w w';
          place = at;
          again = m ∙ sym m';
        },
        plan_same Family.Integers (take (next - 3) (drop 3 s)) p p' l (subst (λ (n : ℕ). PlanOf Family.Integers (take (n - 3) (drop 3 s)) p') (sym at) l'),
      )

stop_go : (u : Turn) (l l' s : List ℕ) → u ≡ stop l → u ≡ go l' s → ⊥
stop_go u l l' s p q = let z : ◌≡◌ {A = ℕ} 0 1 = cc in omega arith

stop_same : (u : Turn) (l l' : List ℕ) → u ≡ stop l → u ≡ stop l' → l ≡ l'
stop_same u l l' p q = cc

go_same : (u : Turn) (l l' s s' : List ℕ) → u ≡ go l s → u ≡ go l' s' → (l ≡ l') × (s ≡ s')
go_same u l l' s s' p q = (cc, cc)

module _ (u : Turn) (input : List ℕ) (at : ℕ) (before after after' : List ℕ) (wrote wrote' next next' : ℕ) (more more' : Bool) where
  pub turned_unique : Turned u input at before after wrote next more → Turned u input at before after' wrote' next' more' → Same after after' wrote wrote' next next' more more'
  turned_unique (stopped l q w n m) (stopped l' q' w' n' m') =
      let e = stop_same u l l' q q' in
      record { bytes = same_bytes_lem before after after' wrote wrote' l l' e w w'; count = same_count before after after' wrote wrote' l l' e w w'; place = n ∙ sym n'; again = m ∙ sym m' }
  turned_unique (stopped l q w n m) (went l' q' w' f' i' m') = absurd (stop_go u l l' _ q q')
  turned_unique (went l q w f i m) (stopped l' q' w' n' m') = absurd (stop_go u l' l _ q' q)
  turned_unique (went l q w f i m) (went l' q' w' f' i' m') =
      let e = go_same u l l' (drop next input) (drop next' input) q q' in
      record {
        bytes = same_bytes_lem before after after' wrote wrote' l l' e.0 w w';
        count = same_count before after after' wrote wrote' l l' e.0 w w';
        place = same_place input next next' i i' e.1;
        again = m ∙ sym m';
      }

made_same : (wrote wrote' at : ℕ) (next next' : Option ℕ) → wrote ≡ wrote' → unwrap_or next at ≡ unwrap_or next' at → is_some next ≡ is_some next' → made wrote next ≡ made wrote' next'
made_same wrote wrote' at None None p q r = ap (λ (w : ℕ). made w None) p
made_same wrote wrote' at None (Some n') p q r = absurd (clash r refl)
made_same wrote wrote' at (Some n) None p q r = absurd (clash refl r)
made_same wrote wrote' at (Some n) (Some n') p q r = ap₂ (λ (w m : ℕ). made w (Some m)) p q

-- how an input begins is one, but for the places of the plan
pub SameOpened : Result Opened Rejected → Result Opened Rejected → Type 0
SameOpened (Ok o) (Ok o') = (o.next ≡ o'.next) × SamePlan o.plan o'.plan
SameOpened (Ok o) (Err e) = ⊥
SameOpened (Err e) (Ok o) = ⊥
SameOpened (Err e) (Err e') = e ≡ e'

rejected_same : (e e' : Rejected) → e.wrote ≡ e'.wrote → e.number ≡ e'.number → e ≡ e'
rejected_same e e' p q = ap₂ (λ (w n : ℕ). let r : Rejected = record { wrote = w; number = n } in r) p q

opened_same : (s before after after' : List ℕ) (r r' : Result Opened Rejected)
    → MatchResult r (λ o. Headed s before after 0 o.next true o.plan) (λ e. Refused s before after e.wrote e.number)
    → MatchResult r' (λ o. Headed s before after' 0 o.next true o.plan) (λ e. Refused s before after' e.wrote e.number) → SameOpened r r' × (after ≡ after')
unfolding SameOpened
opened_same s before after after' (Ok o) (Ok o') p q = let u = headed_unique _ _ _ _ _ _ _ _ _ _ _ _ p q in ((u.0.place, u.1), u.0.bytes)
opened_same s before after after' (Ok o) (Err e) p q = let u = headed_unique _ _ _ _ _ _ _ _ _ _ _ _ p q in absurd (clash refl u.0.again)
opened_same s before after after' (Err e) (Ok o) p q = let u = headed_unique _ _ _ _ _ _ _ _ _ _ _ _ p q in absurd (clash u.0.again refl)
opened_same s before after after' (Err e) (Err e') p q = let u = headed_unique _ _ _ _ _ _ _ _ _ _ _ _ p q in (rejected_same e e' u.0.count u.1.number, u.0.bytes)

pub open_input_unique : (κs : Lfts 2) (a : Dens κs open-input-kinds.ps) (r r' : (res_t open-input-kinds.r κs).Denot) (s s' : AtExit (ended_of 2 open-input-kinds.ps open-input-kinds.r) κs)
    → open-input.Post κs a r s → open-input.Post κs a r' s' → SameOpened r r' × (s.1.0.now ≡ s'.1.0.now)
open_input_unique κs a r r' s s' p q = opened_same _ _ _ _ r r' p q

pub answer_next_unique : (κs : Lfts 3) (a : Dens κs answer-next-kinds.ps) (r r' : (res_t answer-next-kinds.r κs).Denot) (s s' : AtExit (ended_of 3 answer-next-kinds.ps answer-next-kinds.r) κs)
    → answer-next.Post κs a r s → answer-next.Post κs a r' s' → (r ≡ r') × (s.1.1.1.1.1.0.now ≡ s'.1.1.1.1.1.0.now)
answer_next_unique κs a r r' s s' p q =
    let u = turned_unique _ _ _ _ _ _ _ _ _ _ _ _ p q in
    (made_same _ _ _ _ _ u.count u.place u.again, u.bytes)
