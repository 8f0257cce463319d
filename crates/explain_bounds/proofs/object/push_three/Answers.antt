use Rattle.std.proofs.lemmas.Result.{on_ok_weaker}
use Rattle.std.proofs.Common.{◌++◌, refl, string_bytes}
use Rattle.cost_free.specs.declared.task.Meter.TheVariants.{Ticks, Cells, Work}
use Rattle.explain_json.proofs.Appended.{more}
use Rattle.explain_bounds.proofs.object.push_three.Goals as goal

pub push_object-requires-clause-finding : goal.push_object-requires-clause-finding
push_object-requires-clause-finding c = c.requires.findings Ticks

pub push_object-requires-2-clause-finding : goal.push_object-requires-2-clause-finding
push_object-requires-2-clause-finding c = c.requires.findings Cells

pub push_object-requires-3-clause-finding : goal.push_object-requires-3-clause-finding
push_object-requires-3-clause-finding c = c.requires.findings Work

pub returns : goal.returns
returns c =
    let ticks = c.in_ok-push_object.ensures in
    let cells = c.in_ok-push_object-2.ensures in
    let t0 = string_bytes c.args.text.now in
    let t1 = string_bytes c.push_object.new.text in
    let t2 = string_bytes c.push_object-2.new.text in
    let t3 = string_bytes c.push_object-3.new.text in
    on_ok_weaker c.push_object-3.result
    (λ work. (
      ticks.0 ++ (cells.0 ++ work.0),
      record { ticks = ticks.0; cells = cells.0; work = work.0; of_ticks = ticks.1; of_cells = cells.1; of_work = work.1; are = refl },
      more t0 t1 t3 ticks.0 (cells.0 ++ work.0) ticks.2 (more t1 t2 t3 cells.0 work.0 cells.2 work.2),
    ))
    c.push_object-3.ensures
