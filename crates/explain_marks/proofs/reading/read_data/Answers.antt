use Rattle.std.proofs.Common.{◌≤◌, ◌∙◌, ap, sym, subst, length, map, Ok, IfOk, arith}
use Rattle.std.proofs.lemmas.List.{length-map}
use Rattle.raml_syntax.specs.Tree.{Parameter, Function}
use Rattle.raml_syntax.specs.Types.{types_of}
use Rattle.raml_syntax.specs.Read.{ty_of, program_of}
use Rattle.raml_syntax.specs.declared.program.Program.{Program}
use Rattle.rules_plan.specs.Read.{program_in}
use Rattle.value_text.specs.Reading.{Answers}
use Rattle.value_text.specs.Stands.{StandForAll}
use Rattle.simple_types.proofs.Placing.{each_at, read_at, some_at}
use Rattle.explain_marks.specs.Marks.{AreReadAs}
use Rattle.explain_marks.proofs.Spelled.{arguments_read, none_fit, only_read}
use Rattle.explain_marks.proofs.reading.read_data.Goals as goal

pub read_args-requires-clause-types : goal.read_args-requires-clause-types
read_args-requires-clause-types c =
    let P = program_of c.args.typed.now in
    let k = c.args.fun.0 in
    let is = some_at P k c.requires.fun in
    let read = read_at c.program.result.now P k c.index.result.now is.0 (ap program_of c.program.ensures.program) c.index.ensures is.1 in
    let types = ap (map ty_of) c.deref.ensures.value ∙ c.in_ok-types.ensures ∙ ap types_of read in
    let long = sym (length-map c.deref.result.now ty_of) ∙ ap length types ∙ length-map is.0.params (λ (p : Parameter). p.type) in
    let some = each_at (λ (f : Function). 1 ≤ length f.params) P k is.0 c.requires.runs.parameters is.1 in
    let few = each_at (λ (f : Function). length f.params ≤ 8) P k is.0 c.requires.runs.few_parameters is.1 in
    (omega (arith, long, some), omega (arith, long, few))

pub read_bound-requires-clause-args : goal.read_bound-requires-clause-args
read_bound-requires-clause-args c =
    rw (c.deref-in-Ok.ensures.value) (arguments_read c.new-heap.result.cells c.read_args.new.heap.cells c.args.data.now (map ty_of c.deref.result.now) c.in-Ok.words.items c.in-Ok.ensures.ok)

pub returns-in-Ok : goal.returns-in-Ok
returns-in-Ok c g args there spelled =
    let k = c.args.fun.0 in
    let kept = c.args.verified.now.program in
    let read = read_at c.program.result.now (program_of c.args.typed.now) k c.index.result.now g (ap program_of c.program.ensures.program) c.index.ensures there in
    let types = ap (map ty_of) c.deref.ensures.value ∙ c.in_ok-types.ensures ∙ ap types_of read in
    let same = subst (λ As. Answers c.args.data.now As (Ok args)) (sym types) spelled in
    let new = c.read_args.new.heap.cells in
    let stand : StandForAll new c.deref-in-Ok.result.now args = rw (c.deref-in-Ok.ensures.value)
    (only_read c.new-heap.result.cells new c.args.data.now (map ty_of c.deref.result.now) c.in-Ok.words.items args c.in-Ok.ensures.ok c.in-Ok.ensures.one_answer same) in
    subst (λ (s : Program). IfOk c.read_bound.result (AreReadAs (program_of s) (program_in kept) c.args.verified.now.certificate k c.args.meter c.args.place args)) c.requires.source
    (c.read_bound.ensures args stand)

pub returns : goal.returns
returns c g args there spelled =
    none_fit c.none_read.result (program_of c.args.typed.now) (program_in c.args.verified.now.program) c.args.verified.now.certificate c.args.fun.0 c.args.meter c.args.place args c.none_read.ensures
