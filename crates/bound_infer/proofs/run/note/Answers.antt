use Rattle.std.proofs.Common.{◌≡◌, sym, ap, ◌∙◌, length}
use Rattle.std.proofs.lemmas.Result.{on_ok_weaker}
use Rattle.cost_free.specs.Refused.{gone_on}
use Rattle.annot_types.specs.Read.{block_of}
use Rattle.cert_check.proofs.Going.{gone}
use Rattle.bound_infer.specs.Keeping.{first_of}
use Rattle.bound_infer.proofs.run.note.Goals as goal

pub returns-in-Ok : goal.returns-in-Ok
returns-in-Ok c = on_ok_weaker c.remember.result
    (λ all blocks come next sizes.
    let kept = c.args.program.now in
    let count : length kept.results ≡ length kept.functions =
    ap length (sym c.results-results.ensures.results) ∙ c.results-results.ensures.count
    ∙ sym (ap length (sym c.functions-functions.ensures.functions) ∙ c.functions-functions.ensures.count) in
    gone kept count (first_of c.args.d) blocks (block_of c.args.block.now) c.args.schedule.now c.record.new.self c.args.earlier.now c.remember.new.earlier come next
    (c.in-Ok.ensures.done ∙ ap (λ o. gone_on o c.args.schedule.now) c.done_as.ensures)
    (all blocks come.remembers sizes))
    c.remember.ensures
