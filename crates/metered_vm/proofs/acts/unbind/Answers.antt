use Rattle.std.proofs.Common.{◌≡◌, ◌-◌, length, take, refl, ap, ◌∙◌, arith}
use Rattle.metered_vm.proofs.Acting.{same, unbound, sound_locals}
use Rattle.metered_vm.proofs.acts.unbind.Goals as goal

pub returns-clause-does : goal.returns-clause-does
returns-clause-does c =
    let x = c.args.m.now in
    let len : c.len.result - c.args.k ≡ length x.locals.items - c.args.k = omega (arith, c.len.ensures, x.locals.ok.0) in
    let ls = unbound x c.requires.sound c.args.k _ (c.truncate.ensures.items ∙ ap (λ n. take n x.locals.items) len) c.requires.finds in
    same _ _ _ _ _ _ _ _ _ _ _ refl ls.newest ls.frames

pub returns-clause-sound : goal.returns-clause-sound
returns-clause-sound c =
    let x = c.args.m.now in
    let h = c.requires.sound in
    let len : c.len.result - c.args.k ≡ length x.locals.items - c.args.k = omega (arith, c.len.ensures, x.locals.ok.0) in
    sound_locals x _ _ _ h h.stack (unbound x h c.args.k _ (c.truncate.ensures.items ∙ ap (λ n. take n x.locals.items) len) c.requires.finds)
