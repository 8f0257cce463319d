use Rattle.std.proofs.Common.{rules, arith, sym, ap, refl, ◌∙◌}
use Rattle.std.proofs.lemmas.Result.{on_ok_weaker}
use Rattle.raml_syntax.specs.Read.{ty_of}
use Rattle.raml_syntax.specs.Tree.{ListOf, PairOf, TreeOf, OptionOf}
use Rattle.value_text.proofs.Types.{type_list, type_pair, type_tree, type_option}
use Rattle.value_text.proofs.States.{pair_put, node_put, first_put, content_put}
use Rattle.value_text.proofs.goal.push_goals.Goals as goal

pub returns-in-Sign-Open : goal.returns-in-Sign-Open
returns-in-Sign-Open c =
    let at = type_pair c.args.ty.now c.in-Pair.first c.in-Pair.second c.in-Pair.is ∙ (λ i. PairOf (ty_of (sym c.deref.ensures i)) (ty_of (sym c.deref-in-Sign-Open.ensures i))) in
    on_ok_weaker c.push_pair.result (λ e. pair_put _ _ _ c.deref.result c.deref-in-Sign-Open.result c.args.level _ c.args.token at (search rules) (omega arith) e) c.push_pair.ensures

pub returns-in_ok-push-in-Sign-OpenList : goal.returns-in_ok-push-in-Sign-OpenList
returns-in_ok-push-in-Sign-OpenList c =
    let at = type_list c.args.ty.now c.in-List.element c.in-List.is ∙ ap (λ x. ListOf (ty_of x)) (sym c.deref-in-Sign-OpenList.ensures) in
    first_put _ _ _ c.deref-in-Sign-OpenList.result c.args.level c.args.token at (search rules) c.in_ok-push-in-Sign-OpenList.ensures.items

pub returns-in-Sign-Node : goal.returns-in-Sign-Node
returns-in-Sign-Node c =
    let at = type_tree c.args.ty.now c.in-Tree.element c.in-Tree.is ∙ ap (λ x. TreeOf (ty_of x)) (sym c.deref-in-Sign-Node.ensures) in
    on_ok_weaker c.push_node.result (λ e. node_put _ _ _ c.deref-in-Sign-Node.result c.args.ty c.args.level _ c.args.token at refl (search rules) (omega arith) e) c.push_node.ensures

pub returns-in-Sign-Just : goal.returns-in-Sign-Just
returns-in-Sign-Just c =
    let at = type_option c.args.ty.now c.in-Opt.content c.in-Opt.is ∙ ap (λ x. OptionOf (ty_of x)) (sym c.deref-in-Sign-Just.ensures) in
    on_ok_weaker c.push_content.result (λ e. content_put _ _ _ c.deref-in-Sign-Just.result c.args.level _ c.args.token at (search rules) (omega arith) e) c.push_content.ensures
