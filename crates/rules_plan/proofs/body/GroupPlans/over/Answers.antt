use Rattle.std.proofs.Common.{◌≡◌, ◌∙◌, map}
use Rattle.std.specs.Prelude.{ℕ, List}
use Rattle.std.proofs.lemmas.Result.{IfOk-weaker}
use Rattle.annot_types.specs.Program.{Program}
use Rattle.annot_types.specs.Certificate as c
use Rattle.rules_walk.specs.Remembers.{TellsUses}
use Rattle.rules_plan.specs.Read.{over_of, body_of, group_bodies, ArePlansOf}
use Rattle.rules_plan.proofs.Over.{over_blocks}
use Rattle.rules_plan.proofs.body.GroupPlans.over.Goals as goal

pub returns : goal.returns
returns s =
    let made = s.args.self.now in
    IfOk-weaker s.over.result _ (λ bs. (P : Program) (group budget : ℕ) (blocks : List c.Block) → ArePlansOf P group budget made → TellsUses P blocks s.args.earlier.now →
    map body_of bs.items ≡ group_bodies P group blocks budget)
    (λ bs is P group budget blocks of told. is ∙ (λ i. map (over_of (s.uses.ensures i) made.budget) (s.deref.ensures.value i)) ∙ over_blocks P group budget blocks s.args.earlier.now made of told) s.over.ensures
