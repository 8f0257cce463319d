use Rattle.std.proofs.Common.{◌≡◌, ap, sym, subst}
use Rattle.std.specs.Prelude.{slice_get, Some}
use Rattle.raml_syntax.specs.Tree.{Function}
use Rattle.raml_syntax.specs.Read.{program_of}
use Rattle.metered_vm.specs.Seen.{Begins, cells_in}
use Rattle.metered_vm.specs.Ending.{Ended}
use Rattle.value_text.specs.Printing.{StandsForSome}
use Rattle.raml_parts.specs.Parts.{limits_of}
use Rattle.simple_types.proofs.Placing.{read_at}
use Rattle.raml_parts.proofs.Running.{halted_word, halted_ran, stopped_ran, full_ran}
use Rattle.raml_parts.proofs.run.execute.Goals as goal

pub value_report-requires : goal.value_report-requires
value_report-requires c =
    let P = program_of c.args.typed.now in
    let f = c.requires.arguments.0 in
    let same = c.requires.arguments.2 in
    let r = c.requires.arguments.3 in
    let begins = subst (λ Q. Begins Q c.args.place.0 c.args.heap.cells c.args.args.items c.args.limits.cells c.in_ok-vm.vm) (ap program_of c.in_ok-code.ensures) c.in_ok-vm.ensures.begins in
    let begun = subst (λ k. Begins P k c.args.heap.cells c.args.args.items c.args.limits.cells c.in_ok-vm.vm) (sym same) begins in
    let ended = subst (λ end. Ended c.args.limits.steps end c.run.new.self) c.in-Halted.is c.in_ok-word.ensures.ends in
    let there = subst (λ k. slice_get P k ≡ Some f.1) same r.there in
    let read = read_at c.program.result.now P c.args.place.0 c.index-fun.result.now f.1 (ap program_of c.program.ensures.program) c.index-fun.ensures there in
    subst (λ (g : Function). StandsForSome (cells_in c.run.new.self) c.in-Halted.word g.result) (sym read)
    (halted_word P f c.args.heap.cells c.args.args.items c.requires.arguments.1 r (limits_of c.args.limits) c.in_ok-vm.vm c.run.new.self begun c.in_ok-word.ensures.goes c.in_ok-word.ensures.kept c.in-Halted.word ended)

pub returns-in-Halted-clause-ok : goal.returns-in-Halted-clause-ok
returns-in-Halted-clause-ok c =
    let P = program_of c.args.typed.now in
    let begins = subst (λ Q. Begins Q c.args.place.0 c.args.heap.cells c.args.args.items c.args.limits.cells c.in_ok-vm.vm) (ap program_of c.in_ok-code.ensures) c.in_ok-vm.ensures.begins in
    let ended = subst (λ end. Ended c.args.limits.steps end c.run.new.self) c.in-Halted.is c.in_ok-word.ensures.ends in
    halted_ran P c.args.place.0 c.args.heap.cells c.args.args.items (limits_of c.args.limits) c.in_ok-vm.vm c.run.new.self begins c.in_ok-word.ensures.goes c.in_ok-word.ensures.kept c.value_report.result c.in-Halted.word _ ended
    (λ f same there. ap (λ (g : Function). g.result)
    (read_at c.program.result.now P c.args.place.0 c.index-fun.result.now f.1 (ap program_of c.program.ensures.program) c.index-fun.ensures (subst (λ k. slice_get P k ≡ Some f.1) same there)))
    c.value_report.ensures.status c.value_report.ensures.text

pub returns-in-Stopped-clause-ok : goal.returns-in-Stopped-clause-ok
returns-in-Stopped-clause-ok c =
    let P = program_of c.args.typed.now in
    let begins = subst (λ Q. Begins Q c.args.place.0 c.args.heap.cells c.args.args.items c.args.limits.cells c.in_ok-vm.vm) (ap program_of c.in_ok-code.ensures) c.in_ok-vm.ensures.begins in
    let ended = subst (λ end. Ended c.args.limits.steps end c.run.new.self) c.in-Stopped.is c.in_ok-word.ensures.ends in
    stopped_ran P c.args.place.0 c.args.heap.cells c.args.args.items (limits_of c.args.limits) c.in_ok-vm.vm c.run.new.self begins c.in_ok-word.ensures.goes c.in_ok-word.ensures.kept c.stopped_report.result ended
    c.stopped_report.ensures.status c.stopped_report.ensures.text

pub returns-clause-ok : goal.returns-clause-ok
returns-clause-ok c =
    let P = program_of c.args.typed.now in
    let begins = subst (λ Q. Begins Q c.args.place.0 c.args.heap.cells c.args.args.items c.args.limits.cells c.in_ok-vm.vm) (ap program_of c.in_ok-code.ensures) c.in_ok-vm.ensures.begins in
    let ended = subst (λ end. Ended c.args.limits.steps end c.run.new.self) c.in-HeapFull.is c.in_ok-word.ensures.ends in
    full_ran P c.args.place.0 c.args.heap.cells c.args.args.items (limits_of c.args.limits) c.in_ok-vm.vm c.run.new.self begins c.in_ok-word.ensures.goes c.in_ok-word.ensures.kept c.full_report.result c.never_asks.ensures ended
    c.full_report.ensures.status c.full_report.ensures.text
