use Rattle.std.proofs.Common.{◌∷◌, [], arith, sym, ap, ◌∙◌}
use Rattle.std.proofs.lemmas.List.{map-append}
use Rattle.cost_free.specs.Joining.{joined_of, all_joined}
use Rattle.cost_free.proofs.Put.{put_all, put_none, put_last, put_done}
use Rattle.cost_free.proofs.order.in_order.Goals as goal

pub loop-target-init : goal.loop-target-init
loop-target-init c = ap (λ l. put_all (all_joined c.args.targets.items) (all_joined l)) c.in_ok-ordered.ensures.items ∙ put_none (all_joined c.args.targets.items)

pub loop-target-preserved : goal.loop-target-preserved
loop-target-preserved c =
    let xs = all_joined c.pop.new.self.items in
    let old = all_joined c.loop-target.ordered.items in
    let popped = ap all_joined c.in-Some.ensures.items ∙ map-append joined_of c.pop.new.self.items (c.in-Some.target ∷ []) in
    ap (put_all xs) c.in_ok-put.ensures ∙ sym (put_last xs (joined_of c.in-Some.target) old) ∙ ap (λ l. put_all l old) (sym popped) ∙ c.loop-target.invariant

pub returns : goal.returns
returns c = put_done c.loop-target.rest.items _ _ (omega (arith, c.in_default.ensures.cases.0, c.loop-target.rest.ok.0)) c.loop-target.invariant
