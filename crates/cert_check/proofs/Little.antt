-- Plans that make little of small numbers.
use Rattle.std.proofs.Common.{◌≡◌, ◌∙◌, ◌⊎◌, inl, inr, ℕ, suc, zero, subst, List, [], ◌∷◌, All, take, drop, arith}
use Rattle.annot_types.specs.Certificate.{Body, Solved, Refuted, Calls, Block}
use Rattle.annot_types.specs.Held.{IfSolved}
use Rattle.annot_types.specs.Holds.{budget_of}
use Rattle.annot_types.specs.Program.{Program}
use Rattle.rules_spec.specs.Small.{GrowthsWithin}
use Rattle.rules_plan.specs.Read.{group_bodies, ArePlansIn}
use Rattle.rules_plan.specs.declared.body.GroupPlans.{GroupPlans}
use Rattle.cert_check.specs.Limits.{factor, greatest, MakeLittle, IsAmong, PlansStay}

-- plans among these make little, where all do
makes_little : (P : Program) (group budget : ℕ) (made : List GroupPlans) → All MakeLittle made → All (ArePlansIn P) made → IsAmong group budget made →
    GrowthsWithin factor greatest (group_bodies P group [] budget)
makes_little P group budget [] little are among = absurd among
makes_little P group budget (plans ∷ rest) little are (inl (g, b)) =
    let here : ArePlansIn P plans = are 0 plans (omega arith) in
    subst (GrowthsWithin factor greatest) (here.functions ∙ (λ i. group_bodies P (g i) [] (b i))) (little 0 plans (omega arith))
makes_little P group budget (plans ∷ rest) little are (inr among) = makes_little P group budget rest (λ k d h. little (suc k) d (omega (arith, h))) (λ k d h. are (suc k) d (omega (arith, h))) among

pub plans_stay : (P : Program) (d : ℕ) (block : Block) (made : List GroupPlans) → All MakeLittle made → All (ArePlansIn P) made →
    IfSolved block.body (IsAmong block.task.group (budget_of d block.task.kind) made) → PlansStay P d block
plans_stay P d block made little are = by block.body
  where
    by : (body : Body) → IfSolved body (IsAmong block.task.group (budget_of d block.task.kind) made) →
        IfSolved body (GrowthsWithin factor greatest (group_bodies P block.task.group [] (budget_of d block.task.kind)))
    by (Solved sigs hints) among = makes_little P block.task.group (budget_of d block.task.kind) made little are among
    by (Refuted farkas) among = tt
    by (Calls fun) among = tt

-- what is among some of these, one after the other, is among all
pub among_all : (group budget n m : ℕ) (made : List GroupPlans) → IsAmong group budget (take m (drop n made)) → IsAmong group budget made
among_all group budget zero m made among = first m made among
  where
    first : (m : ℕ) (made : List GroupPlans) → IsAmong group budget (take m made) → IsAmong group budget made
    first zero made among = absurd among
    first (suc m) [] among = among
    first (suc m) (plans ∷ rest) (inl is) = inl is
    first (suc m) (plans ∷ rest) (inr among) = inr (first m rest among)
among_all group budget (suc n) m [] among = absurd (nothing m among)
  where
    nothing : (m : ℕ) → IsAmong group budget (take m []) → ⊥
    nothing zero among = among
    nothing (suc m) among = among
among_all group budget (suc n) m (plans ∷ rest) among = inr (among_all group budget n m rest among)
