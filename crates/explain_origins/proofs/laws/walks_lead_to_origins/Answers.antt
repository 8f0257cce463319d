use Rattle.rules_spec.specs.Kinds.{amounts, forms}
use Rattle.explain_origins.proofs.Walking.{body_leads}
use Rattle.explain_origins.proofs.laws.walks_lead_to_origins.Goals as goal

pub returns : goal.returns
returns c = (body_leads (amounts 1), body_leads forms)
