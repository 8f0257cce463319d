use Rattle.std.proofs.Common.{◌++◌, ◌∷◌, [], ◌<◌, length, rules}
use Rattle.rules_walk.proofs.Counting.{changed_at, kept_at, on_error}
use Rattle.rules_walk.proofs.tables.note.Goals as goal

pub returns-in_err-push-clause-kept : goal.returns-in_err-push-clause-kept
returns-in_err-push-clause-kept c =
    on_error c.from_residual.result (kept_at (λ us. us.items) c.args.uses.now.items c.args.function c.index_mut.result.now c.push.new.self
    c.index_mut.ensures.value c.in_err-push.ensures.items)

pub returns-in_ok-push-clause-noted : goal.returns-in_ok-push-clause-noted
returns-in_ok-push-clause-noted c =
    let low : c.args.function < length c.args.uses.now.items = search rules in
    changed_at (λ us. us.items) (λ us. us ++ c.args.usage ∷ []) c.args.uses.now.items c.args.function c.index_mut.result.now c.push.new.self []
    low c.index_mut.ensures.value c.in_ok-push.ensures.items
