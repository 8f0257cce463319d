use Rattle.std.proofs.Common.{◌≡◌, true, sym, ap, ◌∙◌, refl, length, arith}
use Rattle.std.proofs.lemmas.List.{length-map}
use Rattle.std.specs.Option.{option_map}
use Rattle.base_poly.specs.Read.{context_of}
use Rattle.cost_free.specs.Read.{task_of}
use Rattle.annot_types.specs.Program.{results}
use Rattle.rules_plan.specs.Read.{program_in}
use Rattle.cert_check.specs.Finds.{large_from}
use Rattle.cert_check.proofs.Few.{kept_groups_few}
use Rattle.cert_check.proofs.Results.{results_are}
use Rattle.bound_infer.proofs.large.refused.Goals as goal

pub unreachable-requires : goal.unreachable-requires
unreachable-requires c =
    let kept = c.args.program.now in
    let P = program_in kept in
    let count : length kept.results ≡ length kept.functions =
    ap length (sym c.results.ensures.results) ∙ c.results.ensures.count
    ∙ sym (ap length (sym c.functions-functions.ensures.functions) ∙ c.functions-functions.ensures.count) in
    let types : context_of c.results.result.now ≡ results P = ap context_of c.results.ensures.results ∙ sym (results_are kept.results kept.functions count) in
    let groups = c.list.ensures ∙ ap (λ g. g.list) c.groups.ensures.groups in
    c.requires (sym (ap (option_map task_of) (sym c.in-Ok-None.field-0-is) ∙ c.in-Ok-None.ensures P.groups true
    ∙ (λ i. large_from (record { results = types i; groups = P.groups; degree = c.args.d; work = true }) 0 (groups i))))

pub returns-in-Ok-Some : goal.returns-in-Ok-Some
returns-in-Ok-Some c =
    let kept = c.args.program.now in
    let P = program_in kept in
    let count : length kept.results ≡ length kept.functions =
    ap length (sym c.results.ensures.results) ∙ c.results.ensures.count
    ∙ sym (ap length (sym c.functions-functions.ensures.functions) ∙ c.functions-functions.ensures.count) in
    let types : context_of c.results.result.now ≡ results P = ap context_of c.results.ensures.results ∙ sym (results_are kept.results kept.functions count) in
    let groups = c.list.ensures ∙ ap (λ g. g.list) c.groups.ensures.groups in (
      sym (ap (option_map task_of) (sym c.in-Ok-Some.field-0-is) ∙ c.in-Ok-Some.ensures P.groups true
          ∙ (λ i. large_from (record { results = types i; groups = P.groups; degree = c.args.d; work = true }) 0 (groups i))),
      refl,
    )

pub large_task-requires : goal.large_task-requires
large_task-requires c =
    let kept = c.args.program.now in
    let same : length c.list.result.now ≡ length kept.groups.list =
    sym (length-map c.list.result.now _) ∙ ap length (c.list.ensures ∙ ap (λ g. g.list) c.groups.ensures.groups) in
    let few = kept_groups_few kept c.source-source.ensures.small.functions c.groups-groups.ensures.grouping in
    omega (arith, same, few)
