use Rattle.std.proofs.Common.{◌≤◌, ◌∙◌, ap, sym, subst, length, map, arith}
use Rattle.std.proofs.lemmas.List.{length-map}
use Rattle.raml_syntax.specs.Tree.{Parameter, Function}
use Rattle.raml_syntax.specs.Types.{types_of}
use Rattle.raml_syntax.specs.Read.{ty_of, program_of}
use Rattle.value_text.specs.Reading.{AreRead, FirstFault, most_cells}
use Rattle.report_text.specs.Report.{types_in}
use Rattle.refusals.specs.Line.{no_names}
use Rattle.raml_promise.specs.Call.{DataRefuses}
use Rattle.raml_parts.specs.Parts.{ArgumentsRefuse}
use Rattle.simple_types.proofs.Placing.{each_at, read_at, some_at}
use Rattle.raml_parts.proofs.Stepping.{refuses_map}
use Rattle.raml_parts.proofs.Refusing.{data_refuses}
use Rattle.raml_parts.proofs.Calling.{read_arguments}
use Rattle.raml_parts.proofs.call.read_arguments.Goals as goal

pub read_args-requires-clause-types : goal.read_args-requires-clause-types
read_args-requires-clause-types c =
    let P = program_of c.args.typed.now in
    let k = c.args.place.0 in
    let is = some_at P k c.requires.place in
    let read = read_at c.program.result.now P k c.index.result.now is.0 (ap program_of c.program.ensures.program) c.index.ensures is.1 in
    let types = ap (map ty_of) c.deref-2.ensures.value ∙ c.in_ok-types.ensures ∙ ap types_in c.deref.ensures.value ∙ ap types_of read in
    let long = sym (length-map c.deref-2.result.now ty_of) ∙ ap length types ∙ length-map is.0.params (λ (p : Parameter). p.type) in
    let some = each_at (λ (f : Function). 1 ≤ length f.params) P k is.0 c.requires.ready.parameters is.1 in
    let few = each_at (λ (f : Function). length f.params ≤ 8) P k is.0 c.requires.ready.limits.parameters is.1 in
    (omega (arith, long, some), omega (arith, long, few))

pub returns-in-Ok-clause-ok : goal.returns-in-Ok-clause-ok
returns-in-Ok-clause-ok c =
    let P = program_of c.args.typed.now in
    let k = c.args.place.0 in
    let is = some_at P k c.requires.place in
    let read = read_at c.program.result.now P k c.index.result.now is.0 (ap program_of c.program.ensures.program) c.index.ensures is.1 in
    let types = ap (map ty_of) c.deref-2.ensures.value ∙ c.in_ok-types.ensures ∙ ap types_in c.deref.ensures.value ∙ ap types_of read in
    let read : AreRead c.new-heap.result.cells c.read_args.new.heap.cells c.args.bytes.now (types_of is.0) c.in-Ok.words.items =
    subst (λ As. AreRead c.new-heap.result.cells c.read_args.new.heap.cells c.args.bytes.now As c.in-Ok.words.items) types c.in-Ok.ensures.ok in
    record {
      fun = is.0;
      values = read.values;
      arguments = read_arguments P k is.0 c.args.bytes.now c.new-heap.result.cells c.read_args.new.heap.cells c.in-Ok.words.items is.1 read (ap length c.new-heap.ensures.cells);
      spelled = (read.spelled, subst (λ n. n ≤ most_cells) read.count read.few);
    }

pub returns-clause-err : goal.returns-clause-err
returns-clause-err c =
    let P = program_of c.args.typed.now in
    let k = c.args.place.0 in
    let is = some_at P k c.requires.place in
    let read = read_at c.program.result.now P k c.index.result.now is.0 (ap program_of c.program.ensures.program) c.index.ensures is.1 in
    let types = ap (map ty_of) c.deref-2.ensures.value ∙ c.in_ok-types.ensures ∙ ap types_in c.deref.ensures.value ∙ ap types_of read in
    let bytes = c.args.bytes.now in
    refuses_map no_names (DataRefuses bytes is.0) (ArgumentsRefuse P k bytes) (λ e r. record { fun = is.0; there = is.1; refuses = r }) c.data_refusal.result
    (data_refuses bytes is.0 c.in-Err.fault (subst (λ As. FirstFault bytes As c.in-Err.fault) types c.in-Err.ensures.refused) c.data_refusal.result c.data_refusal.ensures)
