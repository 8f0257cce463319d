-- The sizes that are asked for, and the functions that have them.
use Rattle.std.specs.Prelude.{◌&&◌, Bool, true, Option, Some, None, List, [], Result, Ok, is_ok}
use Rattle.std.specs.List.{list_any}
use Rattle.std.specs.Str.{bytes_eq}
use Rattle.raml_syntax.specs.Tree.{Text, Type', Function, Prog}
use Rattle.cost_free.specs.declared.task.Meter.{Meter}
use Rattle.cost_free.specs.declared.task.Meter.TheVariants as meter
use Rattle.explain_at.specs.Words.{Given, words_of, words_read}
use Rattle.explain_at.specs.Words as w
use Rattle.explain_at.specs.Asked.{Fault, asked, asked_open}
use Rattle.explain_at.specs.Read.{names_and_types}
use Rattle.explain_bounds.specs.Told.{Told, Nothing, told_at, told_within}
use Rattle.explain_words.specs.declared.within.Meter.{Meter as WordsMeter}
use Rattle.explain_words.specs.declared.within.Meter.TheVariants as words
use Rattle.explain_words.specs.declared.within.Within.{Within}

abbrev pub meter_of : WordsMeter → Meter
meter_of words.Ticks = meter.Ticks
meter_of words.Cells = meter.Cells
meter_of words.Work = meter.Work

-- the sizes that the words behind `--at` give; none where it does not stand
abbrev pub given_in : Option Text → Result (List Given) w.Fault
given_in None = Ok []
given_in (Some text) = words_read (Ok []) (words_of text)

-- What is told behind the bounds of a function whose parameters have these names and types: nothing, the value at the sizes that are
-- given, or up to which number in the place of the one that is not given no more is spent; or why the sizes are not its parameters'.
abbrev pub fit : Option Within → Option Text → List Given → List (Text × Type') → Result Told Fault
fit None None gs ps = Ok Nothing
fit None (Some text) gs ps = told_at gs (asked gs ps)
fit (Some within) at gs ps = told_within (meter_of within.meter) within.most gs (asked_open gs ps)

-- the function is asked for: the one of this name, or each
abbrev pub is_asked : Option Text → Function → Bool
is_asked None g = true
is_asked (Some name) g = bytes_eq g.name name

-- one of the functions that are asked for has sizes that fit
abbrev pub fits_some : Option Text → (List (Text × Type') → Result Told Fault) → Prog → Bool
fits_some name fit P = list_any (λ g. is_asked name g && is_ok (fit (names_and_types g.params))) P
