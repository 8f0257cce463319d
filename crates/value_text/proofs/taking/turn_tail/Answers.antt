use Rattle.std.proofs.Common.{[], refl, arith, length}
use Rattle.raml_syntax.specs.Read.{ty_of}
use Rattle.value_text.specs.Held.{held}
use Rattle.value_text.proofs.Elements.{items_turned}
use Rattle.value_text.proofs.taking.turn_tail.Goals as goal

pub overflow_add-count : goal.overflow_add-count
overflow_add-count c =
    let less = (c.in_ok-more.ensures.items []).less in
    let room = c.requires.room in
    omega (arith, less, room)

pub returns-clause-turned : goal.returns-clause-turned
returns-clause-turned c =
    let some = c.if-more-eq0.false in
    items_turned (ty_of c.args.ty.now) c.args.ty c.args.level c.args.count c.in_ok-more.more _ c.args.goals.now.items c.push.new.self.items _ _ c.args.text.now c.in_ok-more.rest.now refl c.requires.fits (c.in_ok-more.ensures.items (held c.args.heap.now.cells)) (omega (arith, some)) refl c.in_ok-push.ensures.items

pub returns-clause-below : goal.returns-clause-below
returns-clause-below c = c.in_ok-more.ensures.below (length c.args.heap.now.cells) c.requires.words
