use Rattle.std.proofs.Common.{◌≤◌, ◌∙◌, ap, sym, subst, length, map, arith}
use Rattle.std.proofs.lemmas.List.{length-map}
use Rattle.raml_syntax.specs.Tree.{Parameter, Function}
use Rattle.raml_syntax.specs.Types.{types_of}
use Rattle.raml_syntax.specs.Read.{ty_of, program_of}
use Rattle.value_text.specs.Reading.{AreRead, FirstFault, HasOneAnswer}
use Rattle.simple_types.proofs.Placing.{each_at, read_at, some_at}
use Rattle.explain_runs.proofs.Reading.{read_arguments, none_measured, run_measured}
use Rattle.explain_runs.proofs.measuring.measure_short.Goals as goal

pub read_args-requires-clause-types : goal.read_args-requires-clause-types
read_args-requires-clause-types c =
    let P = program_of c.args.typed.now in
    let k = c.args.fun.0 in
    let is = some_at P k c.requires.fun in
    let read = read_at c.program.result.now P k c.index.result.now is.0 (ap program_of c.program.ensures.program) c.index.ensures is.1 in
    let types = ap (map ty_of) c.deref.ensures.value ∙ c.in_ok-types.ensures ∙ ap types_of read in
    let long = sym (length-map c.deref.result.now ty_of) ∙ ap length types ∙ length-map is.0.params (λ (p : Parameter). p.type) in
    let some = each_at (λ (f : Function). 1 ≤ length f.params) P k is.0 c.requires.runs.parameters is.1 in
    let few = each_at (λ (f : Function). length f.params ≤ 8) P k is.0 c.requires.runs.few_parameters is.1 in
    (omega (arith, long, some), omega (arith, long, few))

pub run_read-requires-clause-arguments : goal.run_read-requires-clause-arguments
run_read-requires-clause-arguments c =
    let P = program_of c.args.typed.now in
    let k = c.args.fun.0 in
    let is = some_at P k c.requires.fun in
    let read = read_at c.program.result.now P k c.index.result.now is.0 (ap program_of c.program.ensures.program) c.index.ensures is.1 in
    let types = ap (map ty_of) c.deref.ensures.value ∙ c.in_ok-types.ensures ∙ ap types_of read in
    let all : AreRead c.new-heap.result.cells c.read_args.new.heap.cells c.args.data.now (types_of is.0) c.in-Ok.words.items =
    subst (λ As. AreRead c.new-heap.result.cells c.read_args.new.heap.cells c.args.data.now As c.in-Ok.words.items) types c.in-Ok.ensures.ok in
    (is.0, all.values, read_arguments P k is.0 c.args.data.now c.new-heap.result.cells c.read_args.new.heap.cells c.in-Ok.words.items is.1 all (ap length c.new-heap.ensures.cells))

pub returns-in-Ok : goal.returns-in-Ok
returns-in-Ok c =
    let P = program_of c.args.typed.now in
    let k = c.args.fun.0 in
    let is = some_at P k c.requires.fun in
    let read = read_at c.program.result.now P k c.index.result.now is.0 (ap program_of c.program.ensures.program) c.index.ensures is.1 in
    let types = ap (map ty_of) c.deref.ensures.value ∙ c.in_ok-types.ensures ∙ ap types_of read in
    let all : AreRead c.new-heap.result.cells c.read_args.new.heap.cells c.args.data.now (types_of is.0) c.in-Ok.words.items =
    subst (λ As. AreRead c.new-heap.result.cells c.read_args.new.heap.cells c.args.data.now As c.in-Ok.words.items) types c.in-Ok.ensures.ok in
    run_measured c.run_read.result P k is.0 c.args.data.now c.args.limits c.new-heap.result.cells c.read_args.new.heap.cells c.in-Ok.words.items is.1 all
    (ap length c.new-heap.ensures.cells) c.run_read.ensures

pub returns : goal.returns
returns c =
    let P = program_of c.args.typed.now in
    let k = c.args.fun.0 in
    let is = some_at P k c.requires.fun in
    let read = read_at c.program.result.now P k c.index.result.now is.0 (ap program_of c.program.ensures.program) c.index.ensures is.1 in
    let types = ap (map ty_of) c.deref.ensures.value ∙ c.in_ok-types.ensures ∙ ap types_of read in
    none_measured c.none_read.result P k is.0 c.args.data.now c.args.limits c.in-Err.fault is.1
    (subst (λ As. FirstFault c.args.data.now As c.in-Err.fault) types c.in-Err.ensures.refused) (subst (HasOneAnswer c.args.data.now) types c.in-Err.ensures.one_answer) c.none_read.ensures
