use Rattle.std.specs.Int.{w128}
use Rattle.std.proofs.lemmas.Int.{to_z-of_z}
use Rattle.std.proofs.lemmas.Result.{on_ok_weaker, IfErr-weaker}
use Rattle.annot_types.specs.Read.{block_of}
use Rattle.bound_contract.proofs.Telling.{told_by_read, rescale_first}
use Rattle.bound_contract.proofs.OneEach.{one_each, few, natural}
use Rattle.bound_contract.proofs.keeping.kept.Goals as goal

pub told-requires-clause-one_each : goal.told-requires-clause-one_each
told-requires-clause-one_each c = one_each c.args.site.now c.requires.site c.tried_have_tasks.ensures c.args.times c.args.numbers.now c.requires.read

pub told-requires-clause-few : goal.told-requires-clause-few
told-requires-clause-few c = few c.args.site.now c.requires.site c.tried_have_tasks.ensures c.args.times c.args.numbers.now c.requires.read

pub told-requires-clause-natural : goal.told-requires-clause-natural
told-requires-clause-natural c = natural c.args.site.now c.requires.site c.tried_have_tasks.ensures c.args.times c.args.numbers.now c.requires.read

pub returns-in-Some-clause-first : goal.returns-in-Some-clause-first
returns-in-Some-clause-first c = λ pick t x e n reads.
    rescale_first c.args.site.now c.requires.site c.tried_have_tasks.ensures c.seen_is_first.ensures pick (c.requires.fine pick) c.args.times t x e reads c.in-Some.block
    (simp (to_z-of_z w128 _ c.ranges.times) at c.in-Some.ensures.some)

pub returns-in-Ok-clause-clear : goal.returns-in-Ok-clause-clear
returns-in-Ok-clause-clear c = on_ok_weaker c.checked_block.result
    (λ clear pick t x e n reads. clear pick x (told_by_read c.args.site.now c.args.times c.args.numbers.now (block_of c.in-Ok.block) c.in-Ok.ensures pick t x e n reads))
    (simp (to_z-of_z w128 _ c.ranges.times) at c.checked_block.ensures.clear)

pub returns-in-Ok-clause-first : goal.returns-in-Ok-clause-first
returns-in-Ok-clause-first c = IfErr-weaker c.checked_block.result _ _
    (λ fault first pick t x e n reads. first pick x (told_by_read c.args.site.now c.args.times c.args.numbers.now (block_of c.in-Ok.block) c.in-Ok.ensures pick t x e n reads))
    (simp (to_z-of_z w128 _ c.ranges.times) at c.checked_block.ensures.first)
