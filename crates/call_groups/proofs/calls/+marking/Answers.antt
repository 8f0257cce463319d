use Rattle.std.proofs.Common.{◌≡◌, ◌<◌, ◌+◌, length, drop, sym, ap, ◌∙◌, arith}
use Rattle.raml_syntax.specs.Tree as t
use Rattle.raml_syntax.specs.Read.{program_of, term_of, terms_of}
use Rattle.raml_syntax.specs.Node.{nodes_of_all}
use Rattle.call_groups.specs.Sets.{has}
use Rattle.call_groups.specs.Table.{marked_in}
use Rattle.call_groups.proofs.Lists.{args_front, args_end}
use Rattle.call_groups.proofs.calls.+marking.Goals as goal

pub mark_all-loop-arg-preserved : goal.mark_all-loop-arg-preserved
mark_all-loop-arg-preserved m c =
    let within : c.loop-arg.arg-index < length c.args.args.now = omega arith in
    let front : terms_of (drop c.loop-arg.arg-index c.args.args.now) ≡ t.More (term_of c.arg-item.result) (terms_of (drop (c.loop-arg.arg-index + 1) c.args.args.now)) =
    args_front c.args.args.now c.loop-arg.arg-index c.arg-item.result within c.arg-item.is in (
      ap (marked_in (program_of c.args.names.now.program.now) (terms_of (drop (c.loop-arg.arg-index + 1) c.args.args.now))) c.mark.ensures
          ∙ ap (λ es. marked_in (program_of c.args.names.now.program.now) es (has c.loop-arg.row)) (sym front) ∙ c.loop-arg.invariant.0,
      let count = ap nodes_of_all front in omega (arith, count, c.loop-arg.invariant.1),
    )

pub mark_all-returns : goal.mark_all-returns
mark_all-returns m c =
    ap (λ es. marked_in (program_of c.args.names.now.program.now) es (has c.loop-arg.row)) (sym (args_end c.args.args.now c.loop-arg.arg-index (omega arith))) ∙ c.loop-arg.invariant.0
