use Rattle.std.proofs.Common.{◌∙◌, sym}
use Rattle.explain_bounds.specs.Told.{told}
use Rattle.explain_words.specs.Spelled.{lent}
use Rattle.explain_calls.proofs.Same.{fits_at}
use Rattle.explain_calls.proofs.fitting.misfit.Goals as goal

pub returns-in-Ok : goal.returns-in-Ok
returns-in-Ok c =
    let fits = rw c.deref.ensures.value at c.in-Ok.ensures.fits in
    fits_at (lent c.args.name) (told c.args.asked.now) c.args.program.now.funs.items c.loop-fun.fun-index c.fun-item.result
    (rw c.deref-fun-items.ensures.value at c.fun-item.is) (rw c.deref-fun-items.ensures.value at c.loop-fun-test.true)
    (sym c.is_asked.ensures ∙ c.if-is_asked.true) fits
