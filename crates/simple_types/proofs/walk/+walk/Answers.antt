use Rattle.std.proofs.Common.{◌<◌, ◌+◌, ◌-◌, ◌*◌, length, take, drop, Some, sym, subst, arith}
use Rattle.raml_syntax.specs.Node.{nodes_of_all}
use Rattle.raml_syntax.specs.Read.{term_of, terms_of}
use Rattle.simple_types.specs.Numbered.{Found}
use Rattle.simple_types.specs.Table.{Table, placed}
use Rattle.simple_types.specs.Walk.{and_then}
use Rattle.simple_types.specs.declared.types.TypeId.{TypeId}
use Rattle.simple_types.specs.declared.types.Node.TheVariants.{Tree}
use Rattle.simple_types.specs.Read.{Gives, walk_in}
use Rattle.simple_types.proofs.Forms.{term_arith, term_compare, term_just, term_pair, term_cons, term_node, term_let, term_if, term_call, term_let_pair, term_match_list, term_match_tree, term_match_option, rest_falls, rest_few}
use Rattle.simple_types.proofs.walk.+walk.Goals as goal

pub walk-returns-in-Arith : goal.walk-returns-in-Arith
walk-returns-in-Arith t c =
    subst (λ e. Gives (walk_in c.args.env c.args.types.now.nodes.keys c.args.want e) c.walk_integers.new.types.nodes.keys c.walk_integers.result) (term_arith c.args.e.now _ c.in-Arith.a c.in-Arith.b _ _ c.in-Arith.is c.deref.ensures c.deref-in-Arith.ensures) c.walk_integers.ensures

pub walk-returns-in-Compare : goal.walk-returns-in-Compare
walk-returns-in-Compare t c =
    subst (λ e. Gives (walk_in c.args.env c.args.types.now.nodes.keys c.args.want e) c.walk_integers-in-Compare.new.types.nodes.keys c.walk_integers-in-Compare.result) (term_compare c.args.e.now _ c.in-Compare.a c.in-Compare.b _ _ c.in-Compare.is c.deref-in-Compare.ensures c.deref-in-Compare-2.ensures) c.walk_integers-in-Compare.ensures

pub walk-returns-in-Just : goal.walk-returns-in-Just
walk-returns-in-Just t c =
    subst (λ e. Gives (walk_in c.args.env c.args.types.now.nodes.keys c.args.want e) c.walk_just.new.types.nodes.keys c.walk_just.result) (term_just c.args.e.now c.in-Just.a _ c.in-Just.is c.deref-in-Just.ensures) c.walk_just.ensures

pub made::find_node-returns : goal.made::find_node-returns
made::find_node-returns t c =
    let trees = λ (L : Table × TypeId). and_then (walk_in c.args.env L.0 (Some L.1) (term_of c.args.left.now)) (λ B. walk_in c.args.env B.0 (Some L.1) (term_of c.args.right.now)) in
    subst (λ (r : Found). Gives (and_then r (λ A. trees (placed A.0 (Tree A.1)))) c.check_trees.new.types.nodes.keys c.check_trees.result) (sym c.in_ok-found.ensures)
    (subst (λ (L : Table × TypeId). Gives (trees L) c.check_trees.new.types.nodes.keys c.check_trees.result) c.in_ok-tree.ensures c.check_trees.ensures)

pub walk-returns-in-Let : goal.walk-returns-in-Let
walk-returns-in-Let t c =
    subst (λ e. Gives (walk_in c.args.env c.args.types.now.nodes.keys c.args.want e) c.walk_let.new.types.nodes.keys c.walk_let.result) (term_let c.args.e.now c.in-Let.x c.in-Let.a c.in-Let.b _ _ c.in-Let.is c.deref-in-Let.ensures c.deref-in-Let-2.ensures) c.walk_let.ensures

pub walk-returns-in-If : goal.walk-returns-in-If
walk-returns-in-If t c =
    subst (λ e. Gives (walk_in c.args.env c.args.types.now.nodes.keys c.args.want e) c.walk_if.new.types.nodes.keys c.walk_if.result) (term_if c.args.e.now c.in-If.c c.in-If.a c.in-If.b _ _ _ c.in-If.is c.deref-in-If.ensures c.deref-in-If-2.ensures c.deref-in-If-3.ensures) c.walk_if.ensures

pub walk-returns-in-Pair : goal.walk-returns-in-Pair
walk-returns-in-Pair t c =
    subst (λ e. Gives (walk_in c.args.env c.args.types.now.nodes.keys c.args.want e) c.walk_pair.new.types.nodes.keys c.walk_pair.result) (term_pair c.args.e.now c.in-Pair.a c.in-Pair.b _ _ c.in-Pair.is c.deref-in-Pair.ensures c.deref-in-Pair-2.ensures) c.walk_pair.ensures

pub walk-returns-in-Cons : goal.walk-returns-in-Cons
walk-returns-in-Cons t c =
    subst (λ e. Gives (walk_in c.args.env c.args.types.now.nodes.keys c.args.want e) c.walk_cons.new.types.nodes.keys c.walk_cons.result) (term_cons c.args.e.now c.in-Cons.a c.in-Cons.b _ _ c.in-Cons.is c.deref-in-Cons.ensures c.deref-in-Cons-2.ensures) c.walk_cons.ensures

pub walk-returns-in-Node : goal.walk-returns-in-Node
walk-returns-in-Node t c =
    subst (λ e. Gives (walk_in c.args.env c.args.types.now.nodes.keys c.args.want e) c.walk_node.new.types.nodes.keys c.walk_node.result) (term_node c.args.e.now c.in-Node.a c.in-Node.b c.in-Node.c _ _ _ c.in-Node.is c.deref-in-Node.ensures c.deref-in-Node-2.ensures c.deref-in-Node-3.ensures) c.walk_node.ensures

pub walk-returns-in-Call : goal.walk-returns-in-Call
walk-returns-in-Call t c =
    subst (λ e. Gives (walk_in c.args.env c.args.types.now.nodes.keys c.args.want e) c.walk_call.new.types.nodes.keys c.walk_call.result) (term_call c.args.e.now c.in-Call.name c.in-Call.args _ c.in-Call.is c.deref-in-Call.ensures.value) c.walk_call.ensures

pub walk-returns-in-LetPair : goal.walk-returns-in-LetPair
walk-returns-in-LetPair t c =
    subst (λ e. Gives (walk_in c.args.env c.args.types.now.nodes.keys c.args.want e) c.walk_let_pair.new.types.nodes.keys c.walk_let_pair.result) (term_let_pair c.args.e.now c.in-LetPair.x c.in-LetPair.y c.in-LetPair.a c.in-LetPair.b _ _ c.in-LetPair.is c.deref-in-LetPair.ensures c.deref-in-LetPair-2.ensures) c.walk_let_pair.ensures

pub walk-returns-in-MatchList : goal.walk-returns-in-MatchList
walk-returns-in-MatchList t c =
    subst (λ e. Gives (walk_in c.args.env c.args.types.now.nodes.keys c.args.want e) c.walk_match_list.new.types.nodes.keys c.walk_match_list.result) (term_match_list c.args.e.now c.in-MatchList.c c.in-MatchList.a c.in-MatchList.b c.in-MatchList.x c.in-MatchList.y _ _ _ c.in-MatchList.is c.deref-in-MatchList.ensures c.deref-in-MatchList-2.ensures c.deref-in-MatchList-3.ensures) c.walk_match_list.ensures

pub walk-returns-in-MatchTree : goal.walk-returns-in-MatchTree
walk-returns-in-MatchTree t c =
    subst (λ e. Gives (walk_in c.args.env c.args.types.now.nodes.keys c.args.want e) c.walk_match_tree.new.types.nodes.keys c.walk_match_tree.result) (term_match_tree c.args.e.now c.in-MatchTree.c c.in-MatchTree.a c.in-MatchTree.b c.in-MatchTree.x c.in-MatchTree.y c.in-MatchTree.z _ _ _ c.in-MatchTree.is c.deref-in-MatchTree.ensures c.deref-in-MatchTree-2.ensures c.deref-in-MatchTree-3.ensures) c.walk_match_tree.ensures

pub walk-returns-in-MatchOption : goal.walk-returns-in-MatchOption
walk-returns-in-MatchOption t c =
    subst (λ e. Gives (walk_in c.args.env c.args.types.now.nodes.keys c.args.want e) c.walk_match_option.new.types.nodes.keys c.walk_match_option.result) (term_match_option c.args.e.now c.in-MatchOption.c c.in-MatchOption.a c.in-MatchOption.b c.in-MatchOption.x _ _ _ c.in-MatchOption.is c.deref-in-MatchOption.ensures c.deref-in-MatchOption-2.ensures c.deref-in-MatchOption-3.ensures) c.walk_match_option.ensures

pub calls::walk_arguments-walk_arguments-requires : goal.calls::walk_arguments-walk_arguments-requires
calls::walk_arguments-walk_arguments-requires t c =
    let args = c.args.args.now in
    let falls : 8 * nodes_of_all (terms_of (take (length args - 1) (drop 1 args))) + 4 < t = omega (arith, rest_falls args c.in-len1-up.len_at_least, c.decreases) in
    (falls, rest_few args c.in-len1-up.len_at_least c.requires.few)
