use Rattle.std.proofs.Common.{All, drop}
use Rattle.annot_types.specs.Program.{Program}
use Rattle.annot_types.specs.Read.{blocks_of}
use Rattle.rules_plan.specs.Read.{AreKept}
use Rattle.cert_check.specs.Limits.{AllStay, MakeLittle}
use Rattle.cert_check.proofs.limits.blocks_stay.Given as goal

abbrev pub invariant-loop-block : goal.invariant-loop-block
invariant-loop-block l =
    All MakeLittle l.kept.made.items → (P : Program) → AreKept P l.kept → AllStay P l.d (blocks_of (drop l.block-index l.blocks)) → AllStay P l.d (blocks_of l.blocks)
