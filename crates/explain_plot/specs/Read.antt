-- What the code has of what a call comes to.
use Rattle.std.specs.Prelude.{Option, option_map, String, string_bytes}
use Rattle.std.specs.Global.{Global}
use Rattle.raml_syntax.specs.Tree.{Text}
use Rattle.explain_marks.specs.declared.marks.Cut.{Cut as Cut'}
use Rattle.explain_marks.specs.declared.marks.Cut.TheVariants as cut
use Rattle.explain_plot.specs.Calls.{Outcome, Cut, AtSize, AtFile}
use Rattle.explain_plot.specs.declared.call.Told.{Told}

abbrev pub text_in : Option (String Global) → Option Text
text_in = option_map string_bytes

abbrev pub cut_in : Cut' → Cut
cut_in (cut.Size size) = AtSize size
cut_in (cut.File name) = AtFile name.now

-- what a call comes to, with what it appends to both texts
abbrev pub outcome_of : Told → Text → Text → Outcome
outcome_of told text report = record { end = told.end; picture = text_in told.picture; text = text; report = report }
