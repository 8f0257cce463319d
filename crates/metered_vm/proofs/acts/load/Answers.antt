use Rattle.std.proofs.Common.{◌+◌, ◌<◌, ◌∷◌, length, refl, sym, ap, ◌∙◌, arith, length-drop}
use Rattle.value_text.specs.Held.{held}
use Rattle.std.proofs.lemmas.Result.{on_ok_weaker}
use Rattle.metered_vm.specs.Running.{values_of, stack_in, counted}
use Rattle.metered_vm.proofs.Lists.{length_values, local_is, below_get}
use Rattle.metered_vm.proofs.Acting.{same}
use Rattle.metered_vm.proofs.acts.load.Goals as goal

pub push-requires-clause-below : goal.push-requires-clause-below
push-requires-clause-below c =
    let x = c.args.m.now in
    let hs = held x.heap.cells in
    let there : x.base + c.args.k < length x.locals.items = omega (arith, c.requires.finds, length-drop x.base (values_of hs x.locals.items), length_values hs x.locals.items) in
    below_get _ (x.base + c.args.k) x.locals.items c.index-word.result.now c.index-word.ensures there c.requires.sound.locals

pub returns-clause-does : goal.returns-clause-does
returns-clause-does c =
    let x = c.args.m.now in
    let hs = held x.heap.cells in
    let there : x.base + c.args.k < length x.locals.items = omega (arith, c.requires.finds, length-drop x.base (values_of hs x.locals.items), length_values hs x.locals.items) in
    let is = sym (local_is hs x.locals.items x.base c.args.k c.index-word.result.now c.index-word.ensures there) in
    on_ok_weaker c.push.result (λ pushed. ap counted pushed ∙ same _ _ _ _ _ _ _ _ _ _ _ (ap (λ v. v ∷ stack_in x) is) refl refl) c.push.ensures.does
