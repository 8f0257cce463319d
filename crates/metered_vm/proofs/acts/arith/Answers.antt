use Rattle.std.proofs.Common.{◌≡◌, ◌+◌, [], ◌∷◌, rules, ap, sym, ◌∙◌, length}
use Rattle.std.specs.Prelude.{FitsSigned}
use Rattle.std.specs.Int.{int_wrap, w64}
use Rattle.std.proofs.lemmas.Int.{to_z-of_z}
use Rattle.value_text.specs.Held.{held}
use Rattle.raml_syntax.specs.Value.{Number}
use Rattle.raml_syntax.specs.Eval.{arith_result}
use Rattle.stack_compile.specs.Machine.{Going, operated}
use Rattle.metered_vm.specs.Running.{state, stack_of, locals_in, frames_in}
use Rattle.metered_vm.proofs.Acting.{both_popped, popped_is, replaced_below, sound_stack}
use Rattle.metered_vm.proofs.acts.arith.Goals as goal

pub returns-clause-does : goal.returns-clause-does
returns-clause-does c =
    let x = c.args.m.now in
    let hs = held x.heap.cells in
    let rest = c.number-left.new.stack.items in
    let left : FitsSigned w64 c.number-left.result = search rules in
    let right : FitsSigned w64 c.number-right.result = search rules in
    let fits : FitsSigned w64 c.result_of.result = search rules in
    let is = simp (to_z-of_z w64 _ left, to_z-of_z w64 _ right) at c.result_of.ensures in
    let result : Number _ ≡ Number (int_wrap w64 (arith_result c.args.op c.number-left.result c.number-right.result)) = ap Number (to_z-of_z w64 _ fits ∙ is) in
    let two = both_popped hs rest _ x.stack.items _ _ c.number-right.ensures.items c.number-left.ensures.items in
    let one = popped_is hs rest _ _ c.put.ensures.items ∙ ap (λ v. v ∷ stack_of hs rest []) result in
    ap (λ l. state (Going x.fun.0 (x.place + 1) l (locals_in x) (frames_in x)) x.ticks x.cells x.made) (one ∙ sym (ap (operated c.args.op) two))

pub returns-clause-sound : goal.returns-clause-sound
returns-clause-sound c =
    let x = c.args.m.now in
    let below = replaced_below (length x.heap.cells) _ _ x.stack.items _ _ _ _ c.requires.sound.stack c.number-right.ensures.items c.number-left.ensures.items c.put.ensures.items tt in
    sound_stack x _ c.requires.sound below
