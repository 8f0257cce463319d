use Rattle.std.proofs.Common.{string_bytes}
use Rattle.std.proofs.lemmas.Result.{on_ok_weaker}
use Rattle.share_normal.specs.Program.{source_in}
use Rattle.rules_plan.specs.Read.{program_in}
use Rattle.explain_calls.proofs.Drafting.{three_told}
use Rattle.explain_calls.proofs.draft.push_bounds.Goals as goal

pub returns : goal.returns
returns c =
    on_ok_weaker c.push_bound-3.result
    (λ last. three_told (source_in c.args.program.now) (program_in c.args.program.now) c.args.verified.now.certificate c.args.fun.0
    (string_bytes c.args.text.now) (string_bytes c.push_bound.new.text) (string_bytes c.push_bound-2.new.text) (string_bytes c.push_bound-3.new.text)
    c.requires.work c.in_ok-push_bound.ensures c.in_ok-push_bound-2.ensures last)
    c.push_bound-3.ensures
