use Rattle.annot_types.specs.Held.{before}
use Rattle.annot_types.specs.Read.{certificate_of}
use Rattle.rules_plan.specs.Read.{program_in}
use Rattle.rules_walk.specs.Remembers.{Remembers}
use Rattle.bound_contract.proofs.front.front_at.Given as goal

abbrev pub invariant-loop-number : goal.invariant-loop-number
invariant-loop-number l = Remembers (program_in l.program) l.certificate.degree (before (certificate_of l.certificate) l.number) l.front.earlier
