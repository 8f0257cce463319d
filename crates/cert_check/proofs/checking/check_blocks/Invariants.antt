use Rattle.std.proofs.Common.{take}
use Rattle.annot_types.specs.Read.{blocks_of, certificate_of}
use Rattle.rules_plan.specs.Read.{program_in, AreKept}
use Rattle.cert_check.specs.Course.{HasCome}
use Rattle.cert_check.proofs.Walking.{Reduces}
use Rattle.cert_check.proofs.checking.check_blocks.Given as goal

abbrev pub invariant-loop-number : goal.invariant-loop-number
invariant-loop-number l = record {
  come : HasCome l.program (certificate_of l.certificate) (take l.number (blocks_of l.certificate.blocks.items)) l.schedule l.earlier;
  reduces : Reduces (program_in l.program) (certificate_of l.certificate) (blocks_of l.certificate.blocks.items) l.number;
  kept : AreKept (program_in l.program) l.kept;
}
