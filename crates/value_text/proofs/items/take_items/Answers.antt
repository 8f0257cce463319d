use Rattle.std.proofs.Common.{[], refl, arith}
use Rattle.raml_syntax.specs.Read.{ty_of}
use Rattle.value_text.proofs.Elements.{no_items, more_items, below_items}
use Rattle.value_text.proofs.items.take_items.Goals as goal

pub loop-word-init : goal.loop-word-init
loop-word-init c = record { items = λ hs. no_items (ty_of c.args.ty.now) _ c.args.text.now; none = λ e. (refl, refl); below = λ n h. h }

pub overflow_add-count : goal.overflow_add-count
overflow_add-count c = let less = (c.loop-word.invariant.items []).less in omega (arith, less)

pub loop-word-preserved : goal.loop-word-preserved
loop-word-preserved c = record {
  items = λ hs. more_items (ty_of c.args.ty.now) c.loop-word.rest.now c.in-Some.behind.now c.in-Some.word c.in-Some.ensures hs c.loop-word.count c.args.words.now.items c.loop-word.words.items c.push.new.self.items c.args.text.now c.in_ok-push.ensures.items (c.loop-word.invariant.items hs);
  none = λ e. absurd (omega (arith, e));
  below = λ n h. below_items (ty_of c.args.ty.now) c.loop-word.rest.now c.in-Some.behind.now c.in-Some.word c.in-Some.ensures n c.loop-word.words.items c.push.new.self.items c.in_ok-push.ensures.items (c.loop-word.invariant.below n h);
}
