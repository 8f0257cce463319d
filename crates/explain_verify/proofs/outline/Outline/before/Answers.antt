use Rattle.std.proofs.Common.{◌∙◌, ap, take}
use Rattle.cost_free.specs.Read.{outcome_of, outcomes_of}
use Rattle.explain_verify.proofs.Lists.{map_take}
use Rattle.explain_verify.proofs.outline.Outline.before.Goals as goal

pub returns-then-block-len : goal.returns-then-block-len
returns-then-block-len c = map_take outcome_of c.args.block c.deref.result.now ∙ ap (λ es. take c.args.block (outcomes_of es)) c.deref.ensures.value
