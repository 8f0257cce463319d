-- What is said of functions that have bounds, in lines.
use Rattle.std.specs.Prelude.{List, [], ◌∷◌, ◌++◌, Bool, cond, codes, decimal}
use Rattle.raml_syntax.specs.Tree.{Text, Prog}
use Rattle.report_text.specs.Names.{name_at, meter_text}
use Rattle.explain_reasons.specs.Notes.{Note, FromDegree, AtLowerDegreeAlone}

abbrev pub note_text : Prog → Note → Text
note_text P (FromDegree line degree) =
    name_at P line.fun ++ (codes " " ++ (meter_text line.meter ++ (codes " has a bound from degree " ++ (decimal degree ++ codes " on\n"))))
note_text P (AtLowerDegreeAlone line degree) =
    name_at P line.fun ++ (codes " " ++ (meter_text line.meter ++ (codes " has a bound of degree " ++ (decimal degree
    ++ codes ", and a limit refuses the degree that is asked for\n"))))

-- of those that the test takes
abbrev pub notes_text : Prog → (Note → Bool) → List Note → Text
notes_text P test [] = []
notes_text P test (note ∷ notes) = cond (test note) (note_text P note) [] ++ notes_text P test notes
