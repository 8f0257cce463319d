-- How bounds are shown, as the code has it.
use Rattle.explain_bounds.specs.Told.{told}
use Rattle.explain_words.specs.Spelled.{lent}
use Rattle.explain_calls.specs.Told as t
use Rattle.explain_calls.specs.declared.parts.Layout.{Layout}
use Rattle.explain_calls.specs.declared.parts.Layout.TheVariants as v
use Rattle.explain_calls.specs.declared.parts.Showing.{Showing}

abbrev pub layout_in : Layout → t.Layout
layout_in (v.Lines width) = t.Lines width
layout_in v.Objects = t.Objects

abbrev pub showing_in : Showing → t.Showing
showing_in showing = record { name = lent showing.name; fit = told showing.asked; layout = layout_in showing.layout }
