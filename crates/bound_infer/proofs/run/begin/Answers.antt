use Rattle.std.proofs.Common.{◌≡◌, true, [], sym, ap, ◌∙◌, subst, length}
use Rattle.std.proofs.lemmas.List.{length-map}
use Rattle.cost_free.specs.declared.task.Meter.{Meter}
use Rattle.cost_free.specs.declared.task.Meter.TheVariants.{Ticks, Cells, Work}
use Rattle.normal_spec.specs.Two.{norm_fun}
use Rattle.share_normal.specs.Program.{source_in}
use Rattle.annot_types.specs.Read.{blocks_of}
use Rattle.rules_plan.specs.Read.{program_in}
use Rattle.cert_check.specs.Course.{HasCome}
use Rattle.bound_infer.specs.Raised.{EachFits}
use Rattle.bound_infer.specs.Keeping.{first_of, scales_of}
use Rattle.bound_infer.proofs.Staying.{none_fits}
use Rattle.bound_infer.proofs.run.begin.Goals as goal

pub returns-clause-keeps : goal.returns-clause-keeps
returns-clause-keeps c =
    let kept = c.args.program.now in
    let count : length (program_in kept).funs ≡ c.len.result =
    ap length c.functions-functions.ensures.norm ∙ length-map (source_in kept) (norm_fun (source_in kept)) ∙ sym c.functions-functions.ensures.count ∙ sym c.len.ensures in
    record {
      come = subst (λ bs. HasCome kept (first_of c.args.d) (blocks_of bs) c.new-2.result c.in_ok-earlier.earlier) (sym c.new-3.ensures.items) (record {
        course_is = c.new-2.ensures ∙ (λ i. record {
          results = c.results-results.ensures.results i;
          groups = ap (λ g. g.list) c.groups.ensures.groups i;
          degree = c.args.d;
          work = true;
          done = [];
        });
        remembers = c.in_ok-earlier.ensures (program_in kept) c.args.d count;
      });
      fit = subst (λ bs. EachFits (blocks_of bs)) (sym c.new-3.ensures.items) none_fits;
    }

pub returns-clause-start : goal.returns-clause-start
returns-clause-start c = λ i. record { blocks = blocks_of (c.new-3.ensures.items i); scales = λ m. one m i }
  where
    one : (m : Meter) → scales_of c.new-4.result m ≡ 1
    one Ticks = c.new-4.ensures.ticks
    one Cells = c.new-4.ensures.cells
    one Work = c.new-4.ensures.work
