use Rattle.std.proofs.Common.{◌≡◌, ap, sym, subst, ◌∙◌}
use Rattle.raml_syntax.specs.Tree.{Function}
use Rattle.raml_syntax.specs.Read.{program_of}
use Rattle.metered_vm.specs.Seen.{Begins, cells_in}
use Rattle.explain_runs.specs.Told.{HasWord, Tells}
use Rattle.simple_types.proofs.Placing.{read_at}
use Rattle.explain_runs.proofs.Running.{has_word, is_measured}
use Rattle.explain_runs.proofs.measuring.run.Goals as goal

pub outcome_of-requires : goal.outcome_of-requires
outcome_of-requires c =
    let P = program_of c.args.typed.now in
    let f = c.args.fun.0 in
    let cells = c.args.heap.cells in
    let words = c.args.words.items in
    let g = c.requires.arguments.0 in
    let has = c.requires.arguments.2 in
    let begins = subst (λ Q. Begins Q f cells words c.args.limits.cells c.in_ok-vm.vm) (ap program_of c.in_ok-code.ensures) c.in_ok-vm.ensures.begins in
    let read = read_at c.program.result.now P f c.index-function.result.now g (ap program_of c.program.ensures.program) c.index-function.ensures has.there in
    subst (λ (h : Function). HasWord (cells_in c.run.new.self) h.result c.in_ok-end.end) (sym read)
    (has_word P f g cells words c.requires.arguments.1 has c.args.limits c.in_ok-vm.vm c.run.new.self begins c.in_ok-end.ensures.goes c.in_ok-end.ensures.kept c.in_ok-end.end c.in_ok-end.ensures.ends)

pub returns : goal.returns
returns c = λ g args has.
    let P = program_of c.args.typed.now in
    let f = c.args.fun.0 in
    let cells = c.args.heap.cells in
    let words = c.args.words.items in
    let begins = subst (λ Q. Begins Q f cells words c.args.limits.cells c.in_ok-vm.vm) (ap program_of c.in_ok-code.ensures) c.in_ok-vm.ensures.begins in
    let read = read_at c.program.result.now P f c.index-function.result.now g (ap program_of c.program.ensures.program) c.index-function.ensures has.there in
    let told = subst (λ (h : Function). Tells (cells_in c.run.new.self) h.result c.in_ok-end.end c.in_ok-outcome.outcome) read c.in_ok-outcome.ensures in
    is_measured P f g cells words args has c.args.limits c.in_ok-vm.vm c.run.new.self begins c.in_ok-end.ensures.goes c.in_ok-end.ensures.kept c.in_ok-end.end _
    c.in_ok-end.ensures.ends told c.ticks.ensures (c.from.ensures ∙ c.cells.ensures) c.instructions.ensures
