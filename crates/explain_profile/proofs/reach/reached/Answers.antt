use Rattle.std.proofs.Common.{◌≤◌, [], ◌∷◌, ◌++◌, length, ap, subst, sym, ◌∙◌, arith}
use Rattle.raml_syntax.specs.Read.{program_of}
use Rattle.raml_syntax.specs.declared.program.FunId.{FunId}
use Rattle.call_groups.specs.Read.{ids_of}
use Rattle.explain_mending.specs.Reached.{callees_at}
use Rattle.explain_profile.specs.Walk.{AddsAll, Walked}
use Rattle.explain_profile.proofs.Walking.{walk_begins, walk_next, walk_ends}
use Rattle.explain_profile.proofs.reach.reached.Goals as goal

pub loop-place-init : goal.loop-place-init
loop-place-init c = record {
  walked = subst (λ found. Walked (program_of c.args.program.now) c.args.fun.0 [] (ids_of found)) (sym (c.in_ok-push.ensures.items ∙ ap (λ xs. xs ++ c.args.fun ∷ []) c.new-found.ensures.items)) (walk_begins (program_of c.args.program.now) c.args.fun.0);
  place = omega arith;
}

pub loop-place-smaller : goal.loop-place-smaller
loop-place-smaller c =
    let P = program_of c.args.program.now in
    let found = c.loop-place.found.items in
    let more = c.add_all_new.new.found.items in
    let adds = subst (λ fs. AddsAll fs (ids_of found) (ids_of more)) (c.callees.ensures ∙ ap (λ (f : FunId). callees_at c.in_ok-groups.groups.calls f.0) c.index-next.ensures) c.in_ok-add_all_new.ensures in
    (walk_next P _ c.in_ok-groups.ensures c.args.fun.0 c.loop-place.place found more _ (omega (arith, c.loop-place-test.true, c.len.ensures)) c.loop-place.invariant.walked adds).2

pub loop-place-preserved : goal.loop-place-preserved
loop-place-preserved c =
    let P = program_of c.args.program.now in
    let found = c.loop-place.found.items in
    let more = c.add_all_new.new.found.items in
    let adds = subst (λ fs. AddsAll fs (ids_of found) (ids_of more)) (c.callees.ensures ∙ ap (λ (f : FunId). callees_at c.in_ok-groups.groups.calls f.0) c.index-next.ensures) c.in_ok-add_all_new.ensures in
    let next = walk_next P _ c.in_ok-groups.ensures c.args.fun.0 c.loop-place.place found more _ (omega (arith, c.loop-place-test.true, c.len.ensures)) c.loop-place.invariant.walked adds in
    record { walked = next.0; place = next.1 }

pub returns : goal.returns
returns c =
    let over : length c.loop-place.found.items ≤ c.loop-place.place = omega (arith, c.loop-place-test.false, c.len.ensures) in
    walk_ends (program_of c.args.program.now) c.args.fun.0 c.loop-place.place c.loop-place.found.items over c.loop-place.invariant.walked
