use Rattle.std.proofs.Common.{◌≡◌, sym, ◌∙◌, map}
use Rattle.std.specs.Option.{option_map}
use Rattle.cost_free.specs.Read.{task_of}
use Rattle.annot_types.specs.Read as a
use Rattle.cert_check.specs.At.{program_at}
use Rattle.cert_check.specs.Finds.{at_block, RulesFind}
use Rattle.cert_check.specs.Judged.{verdict_of}
use Rattle.cert_check.proofs.Telling.{tells_more}
use Rattle.cert_check.proofs.solved.check_rules.Goals as goal

pub returns-in-Ok : goal.returns-in-Ok
returns-in-Ok c = λ held blocks at bodies asks. tells_more c.tell.result (λ found. found ≡ option_map (at_block c.args.at.now.number) (verdict_of c.in-Ok.judge))
    (RulesFind (program_at c.args.at.now) held blocks (task_of c.args.at.now.task) (map a.sig_of c.args.sigs.now) (map a.hints_of c.args.hints.now))
    (λ x e. e ∙ (λ i. option_map (at_block (sym at.count i)) (c.in-Ok.ensures held blocks at bodies asks i))) c.tell.ensures
