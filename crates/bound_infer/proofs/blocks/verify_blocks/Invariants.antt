use Rattle.annot_types.specs.Held.{before}
use Rattle.annot_types.specs.Read.{certificate_of}
use Rattle.rules_plan.specs.Read.{program_in}
use Rattle.rules_walk.specs.Remembers.{Remembers}
use Rattle.bound_infer.specs.Cleared.{ClearBefore}
use Rattle.bound_infer.proofs.blocks.verify_blocks.Given as goal

abbrev pub invariant-loop-number : goal.invariant-loop-number
invariant-loop-number l = record {
  clear : ClearBefore (program_in l.program) (certificate_of l.certificate) l.number;
  remembers : Remembers (program_in l.program) l.certificate.degree (before (certificate_of l.certificate) l.number) l.earlier;
}
