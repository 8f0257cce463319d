use Rattle.std.proofs.Common.{All, length, sym, ◌∙◌, subst}
use Rattle.std.proofs.lemmas.List.Elements.{All-pop, All-push}
use Rattle.value_text.specs.Heap.{IsBelow}
use Rattle.poly_point.proofs.Values.{words_there, no_cell, no_list, list_taken, tree_taken}
use Rattle.poly_point.proofs.elements.next.Goals as goal

pub loop-word-preserved : goal.loop-word-preserved
loop-word-preserved c = record {
  below = (All-pop (IsBelow (length c.args.heap.now.cells)) _ _ _ c.pop.ensures.items c.loop-word.invariant.below).0;
  same = no_cell c.args.heap.now.cells _ _ _ _ c.pop.ensures.items c.in-Some.is c.in_default-word.not-Cell ∙ c.loop-word.invariant.same;
}

pub loop-word-preserved-in-Pair : goal.loop-word-preserved-in-Pair
loop-word-preserved-in-Pair c = record {
  below = (All-pop (IsBelow (length c.args.heap.now.cells)) _ _ _ c.pop.ensures.items c.loop-word.invariant.below).0;
  same = no_list _ _ _ _ _ c.pop.ensures.items c.in-Some.is _ _ c.get.ensures.earlier c.in-Cell.is c.get.ensures.cell c.in-Pair.is ∙ c.loop-word.invariant.same;
}

pub returns-in-Cons-clause-some : goal.returns-in-Cons-clause-some
returns-in-Cons-clause-some c =
    sym c.loop-word.invariant.same
    ∙ list_taken _ _ _ _ _ c.pop.ensures.items c.in-Some.is _ _ _ c.get.ensures.earlier c.in-Cell.is c.in-Cons.ensures.cell _ c.in_ok-push-in-Cons.ensures.items

pub returns-in-Cons-clause-below : goal.returns-in-Cons-clause-below
returns-in-Cons-clause-below c = (words_there _ _ _ c.get.ensures.earlier c.in-Cons.ensures.cell).0

pub returns-in-Cons-clause-left : goal.returns-in-Cons-clause-left
returns-in-Cons-clause-left c =
    let P = IsBelow (length c.args.heap.now.cells) in
    let words = words_there _ _ _ c.get.ensures.earlier c.in-Cons.ensures.cell in
    let left = (All-pop P _ _ _ c.pop.ensures.items c.loop-word.invariant.below).0 in
    subst (All P) (sym c.in_ok-push-in-Cons.ensures.items) (All-push P _ _ left words.1)

pub returns-in-Node-clause-some : goal.returns-in-Node-clause-some
returns-in-Node-clause-some c =
    sym c.loop-word.invariant.same
    ∙ tree_taken _ _ _ _ _ c.pop.ensures.items c.in-Some.is _ _ _ _ c.get.ensures.earlier c.in-Cell.is c.in-Node.ensures.cell _ _ c.in_ok-push-in-Node.ensures.items c.in_ok-push-in-Node-2.ensures.items

pub returns-in-Node-clause-below : goal.returns-in-Node-clause-below
returns-in-Node-clause-below c = (words_there _ _ _ c.get.ensures.earlier c.in-Node.ensures.cell).0

pub returns-in-Node-clause-left : goal.returns-in-Node-clause-left
returns-in-Node-clause-left c =
    let P = IsBelow (length c.args.heap.now.cells) in
    let words = words_there _ _ _ c.get.ensures.earlier c.in-Node.ensures.cell in
    let left = (All-pop P _ _ _ c.pop.ensures.items c.loop-word.invariant.below).0 in
    let right = subst (All P) (sym c.in_ok-push-in-Node.ensures.items) (All-push P _ _ left words.2) in
    subst (All P) (sym c.in_ok-push-in-Node-2.ensures.items) (All-push P _ _ right words.1)
