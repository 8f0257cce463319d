use Rattle.std.proofs.Common.{◌≡◌, ◌≤◌, ◌<◌, ap, sym, ◌∙◌, subst, length, rules, arith, map, ℕ}
use Rattle.std.specs.Prelude.{slice_get}
use Rattle.std.proofs.lemmas.List.{length-map, take_all}
use Rattle.normal_spec.specs.Two.{norm_fun}
use Rattle.call_groups.specs.Read.{ids_of}
use Rattle.share_normal.specs.Program.{source_in}
use Rattle.annot_types.specs.Program.{members}
use Rattle.rules_plan.specs.Read.{program_in}
use Rattle.rules_walk.specs.Sizes.{AreSizes}
use Rattle.bound_infer.specs.Sized.{sizes_in}
use Rattle.bound_infer.proofs.Sizing.{are_sizes, member_low, sizes_more}
use Rattle.bound_infer.proofs.sizes.sizes.Goals as goal

pub sizes_of-requires : goal.sizes_of-requires
sizes_of-requires c =
    let kept = c.args.program.now in
    let low : c.loop-place.place < length c.members-funs.result.now = search rules in
    let count : length (program_in kept).funs ≡ length kept.functions =
    ap length c.functions-functions.ensures.norm ∙ length-map (source_in kept) (norm_fun (source_in kept)) ∙ sym c.functions-functions.ensures.count ∙ ap length c.functions-functions.ensures.functions in
    let below = member_low (program_in kept) c.requires c.args.group c.members-funs.result.now c.members-funs.ensures c.loop-place.place (record { 0 = 0 }) low in
    omega (arith, count, below)

pub loop-place-preserved : goal.loop-place-preserved
loop-place-preserved c =
    let P = program_in c.args.program.now in
    let low : c.loop-place.place < length c.members-funs.result.now = search rules in
    sizes_more (λ f. sizes_in c.args.budget (slice_get P.funs f)) c.members-funs.result.now c.loop-place.place (record { 0 = 0 }) c.loop-place.made.items _ _ low
    c.in_ok-push.ensures.items c.in_ok-sizes_of.ensures c.loop-place.invariant

pub returns : goal.returns
returns c =
    let P = program_in c.args.program.now in
    let funs = c.members-funs.result.now in
    let F : ℕ → ℕ × ℕ = λ f. sizes_in c.args.budget (slice_get P.funs f) in
    let le : length funs ≤ c.loop-place.place = search rules in
    let all = c.loop-place.invariant ∙ ap (λ fs. map F (ids_of fs)) (take_all c.loop-place.place funs le) ∙ ap (map F) c.members-funs.ensures in
    subst (AreSizes P c.args.budget (members P c.args.group)) (sym all)
    (are_sizes P c.args.budget (members P c.args.group) (c.requires.apart c.args.group) (c.requires.there c.args.group))
