use Rattle.std.proofs.Common.{◌∙◌, ap, inl, inr, refl, sym}
use Rattle.explain_words.specs.Spelled.{lent}
use Rattle.explain_top.proofs.Shelves.{untouched}
use Rattle.explain_top.proofs.plot.plot.Goals as goal

pub drawn-requires-clause-free : goal.drawn-requires-clause-free
drawn-requires-clause-free g c = sym c.over_read.ensures ∙ ap lent c.in-None.is

pub returns-in-Some-clause-told : goal.returns-in-Some-clause-told
returns-in-Some-clause-told g c =
    let faults = g.W.Shelf.faults c.args.shelf.now in
    let why = sym c.over_read.ensures ∙ ap lent c.in-Some.is in
    inl (untouched faults faults (g.W.Shelf.holds c.args.shelf.now), refl, inr (c.in-Some.why.now, why, c.refuse_file.ensures))
