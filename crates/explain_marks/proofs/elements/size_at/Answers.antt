use Rattle.explain_marks.proofs.Sized.{got, none_sized, word_sized, word_small, word_there}
use Rattle.explain_marks.proofs.elements.size_at.Goals as goal

pub count_elements-requires-clause-there : goal.count_elements-requires-clause-there
count_elements-requires-clause-there c =
    let found = c.in-Some.ensures.lookup in
    let at = got c.args.args.now c.args.place c.in-Some.word.now found.1 found.3.0 in
    word_there c.args.heap.now.cells c.names_earlier.ensures c.args.args.now c.args.place c.in-Some.word.now at c.requires

pub count_elements-requires-clause-small : goal.count_elements-requires-clause-small
count_elements-requires-clause-small c =
    let found = c.in-Some.ensures.lookup in
    let at = got c.args.args.now c.args.place c.in-Some.word.now found.1 found.3.0 in
    word_small c.args.heap.now.cells c.names_earlier.ensures c.args.args.now c.args.place c.in-Some.word.now at c.requires

pub returns-in-Some : goal.returns-in-Some
returns-in-Some c vs stand =
    let found = c.in-Some.ensures.lookup in
    let at = got c.args.args.now c.args.place c.in-Some.word.now found.1 found.3.0 in
    word_sized c.args.heap.now.cells c.names_earlier.ensures c.args.args.now c.args.place c.in-Some.word.now at vs stand c.count_elements.result c.count_elements.ensures

pub returns-in-None : goal.returns-in-None
returns-in-None c vs stand = none_sized c.args.heap.now.cells c.args.args.now vs c.args.place stand c.in-None.ensures.lookup.3
