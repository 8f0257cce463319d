-- What is wrong with declared bounds, in words.
use Rattle.std.specs.Prelude.{ℕ, ◌++◌, codes, decimal}
use Rattle.raml_syntax.specs.Tree.{Text}
use Rattle.bound_file.specs.declared.fault.LineFault.{LineFault}
use Rattle.bound_file.specs.declared.fault.LineFault.TheVariants.{Shape, Number, Unknown, Index, Twice}
use Rattle.explain_declared.specs.Places.{before_mark, behind_mark}

-- the first word of a line, and the second
abbrev pub name_in : Text → Text
name_in line = before_mark 32 line

abbrev pub meter_in : Text → Text
meter_in line = before_mark 32 (behind_mark 32 line)

-- of a line, at a degree
abbrev pub message_of : Text → ℕ → LineFault → Text
message_of line d Shape = codes "a line has the form 'NAME METER <= BOUND', with a bound as `raml analyse` prints it"
message_of line d Number = codes "a coefficient is 0 or more than 2^127 - 1"
message_of line d Unknown = codes "there is no function '" ++ (name_in line ++ codes "'")
message_of line d Index = codes "a pattern is none of " ++ (name_in line ++ (codes "'s parameters up to degree " ++ decimal d))
message_of line d Twice = name_in line ++ (codes " " ++ (meter_in line ++ codes " is declared twice"))
