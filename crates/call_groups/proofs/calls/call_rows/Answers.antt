use Rattle.std.proofs.Common.{◌≡◌, ◌<◌, ◌++◌, ◌∷◌, [], length, slice_index_or, ap, ◌∙◌, rules}
use Rattle.raml_syntax.specs.Tree.{Function}
use Rattle.raml_syntax.specs.Read.{program_of, term_of}
use Rattle.call_groups.specs.Sets.{none}
use Rattle.call_groups.specs.Table.{marked, call_table}
use Rattle.call_groups.proofs.Lists.{rows_next}
use Rattle.call_groups.proofs.calls.call_rows.Goals as goal

pub loop-fun-preserved : goal.loop-fun-preserved
loop-fun-preserved c =
    let within : c.loop-fun.fun-index < length c.args.program.now.funs.items = search rules in
    let pushed : c.push.new.self.items ≡ c.loop-fun.rows.items ++ c.called.result ∷ [] = search rules in
    rows_next (λ (h : Function). marked (program_of c.args.program.now) h.body none) c.args.program.now.funs.items c.loop-fun.rows.items c.push.new.self.items
    c.loop-fun.fun-index c.fun-item.result c.called.result (call_table (program_of c.args.program.now)) within
    (c.fun-item.is ∙ ap (λ fs. slice_index_or fs c.loop-fun.fun-index c.fun-item.result) c.deref-fun-items.ensures.value)
    (c.called.ensures ∙ ap (λ p. marked (program_of p) (term_of c.fun-item.result.body) none) c.in_ok-names.ensures)
    pushed c.loop-fun.invariant
