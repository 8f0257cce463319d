use Rattle.std.proofs.Common.{subst}
use Rattle.annot_types.specs.Held.{Held}
use Rattle.rules_plan.specs.Read.{program_in}
use Rattle.cert_check.specs.Checked.{Checking}
use Rattle.cert_check.proofs.checked.Checked.certificate.Goals as goal

pub returns-clause-held : goal.returns-clause-held
returns-clause-held c = subst (λ (x : Checking). Held (program_in x.program) x.certificate) c.self.view_is c.self.invariant.held
