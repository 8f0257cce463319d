use Rattle.std.proofs.Common.{◌≡◌, ◌++◌, ◌∙◌, Result, Ok, Err, OnOk, ap, codes, string_bytes}
use Rattle.std.proofs.lemmas.List.{append_assoc}
use Rattle.raml_syntax.specs.Tree.{Text}
use Rattle.explain_chart.specs.Read.{marks_in}
use Rattle.explain_plot.specs.Table.{rows}
use Rattle.explain_plot.proofs.table.push_table.Goals as goal

behind_head : {A E : Type 0} (r : Result A E) (old mid new head rest : Text) → mid ≡ old ++ head → OnOk r (new ≡ mid ++ rest) → OnOk r (new ≡ old ++ (head ++ rest))
behind_head (Ok x) old mid new head rest is told = told ∙ ap (λ t. t ++ rest) is ∙ append_assoc old head rest
behind_head (Err x) old mid new head rest is told = tt

pub returns : goal.returns
returns c =
    behind_head c.push_rows.result (string_bytes c.args.text.now) (string_bytes c.push_str.new.self) (string_bytes c.push_rows.new.text) (codes "size\tmeasured\tbound\tratio\targuments\n")
    (rows (marks_in c.args.marks.now)) c.in_ok-push_str.ensures.bytes c.push_rows.ensures
