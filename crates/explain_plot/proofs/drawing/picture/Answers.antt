use Rattle.std.proofs.Common.{List, IfOk, ap, option_map, subst, sym, string_bytes, ◌≡◌, ◌++◌}
use Rattle.raml_syntax.specs.Tree.{Function}
use Rattle.raml_syntax.specs.Types.{types_of}
use Rattle.raml_syntax.specs.Read.{program_of}
use Rattle.explain_bounds.specs.Written.{AllCanBeTold}
use Rattle.simple_types.proofs.Placing.{read_at, some_at}
use Rattle.rules_plan.specs.Read.{program_in}
use Rattle.explain_chart.specs.Chart.{Draws}
use Rattle.explain_chart.specs.Read.{marks_in}
use Rattle.explain_chart.specs.declared.mark.Mark.{Mark}
use Rattle.explain_marks.specs.Marks.{origin_of}
use Rattle.explain_plot.specs.Read.{cut_in}
use Rattle.explain_plot.specs.Table.{table}
use Rattle.explain_plot.proofs.Found.{pictured}
use Rattle.explain_plot.proofs.drawing.picture.Goals as goal

pub lead-requires : goal.lead-requires
lead-requires c =
    let P = program_of c.args.typed.now in
    let k = c.args.asked.fun.0 in
    let is = some_at P k c.requires.fun in
    let read = read_at c.program-program.result.now P k c.index-function.result.now is.0 (ap program_of c.program-program.ensures.program) c.index-function.ensures is.1 in
    subst (λ (g : Function). AllCanBeTold (types_of g) c.args.findings.now) (sym read) (c.requires.findings is.0 is.1)

pub returns : goal.returns
returns c =
    let found = c.in_ok-found.found in
    let old_text = string_bytes c.args.text.now in
    let new_text = string_bytes c.push_table.new.text in
    let told = subst (λ (marks : List Mark). new_text ≡ old_text ++ table (marks_in marks)) c.deref.ensures.value c.in_ok-push_table.ensures in
    let draws = subst (λ (marks : List Mark). IfOk c.drawn.result (λ svg. Draws (marks_in marks) (string_bytes svg))) c.deref-4.ensures.value c.drawn.ensures in
    pictured c.drawn.result (program_of c.args.typed.now) (program_in c.args.verified.now.program) c.args.verified.now.certificate c.args.asked.fun.0 c.args.asked.meter (origin_of c.args.runs.now)
    found.marks.items (option_map cut_in found.cut) old_text new_text (string_bytes c.args.report.now) (string_bytes c.push_cut.new.report) c.in_ok-found.ensures told c.in_ok-push_cut.ensures draws
