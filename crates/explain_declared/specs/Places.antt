-- Where a fault of declared bounds is shown.
use Rattle.std.specs.Prelude.{ℕ, zero, suc, ◌+◌, ◌-◌, cond, nat_eq, List, [], ◌∷◌, length, codes}
use Rattle.std.specs.List.{starts_with}
use Rattle.raml_syntax.specs.Tree.{Text}
use Rattle.bound_file.specs.declared.fault.LineFault.{LineFault}
use Rattle.bound_file.specs.declared.fault.LineFault.TheVariants.{Shape, Number, Unknown, Index, Twice}
use Rattle.bound_file.specs.declared.fault.DeclFault.{DeclFault}
use Rattle.bound_file.specs.declared.fault.DeclFault.TheVariants as f

-- what stands before the first such byte of a text, or the whole text
abbrev pub before_mark : ℕ → Text → Text
before_mark mark [] = []
before_mark mark (byte ∷ text) = cond (nat_eq byte mark) [] (byte ∷ before_mark mark text)

-- what stands behind the first such byte, or nothing
abbrev pub behind_mark : ℕ → Text → Text
behind_mark mark [] = []
behind_mark mark (byte ∷ text) = cond (nat_eq byte mark) text (behind_mark mark text)

-- what stands behind so many line feeds
abbrev pub behind_lines : ℕ → Text → Text
behind_lines zero text = text
behind_lines (suc n) text = behind_lines n (behind_mark 10 text)

-- the text from the line of this number on, counted from 1; where it starts; and the line
abbrev pub from_line : ℕ → Text → Text
from_line number text = behind_lines (number - 1) text

abbrev pub line_start : ℕ → Text → ℕ
line_start number text = length text - length (from_line number text)

abbrev pub line_of : ℕ → Text → Text
line_of number text = before_mark 10 (from_line number text)

-- the place behind the first `<= ` of what stands from this place on, or 0
abbrev pub behind_sign_from : ℕ → Text → ℕ
behind_sign_from at [] = 0
behind_sign_from at (byte ∷ text) = cond (starts_with nat_eq (byte ∷ text) (codes "<= ")) (at + 3) (behind_sign_from (suc at) text)

abbrev pub behind_sign : Text → ℕ
behind_sign line = behind_sign_from 0 line

-- the place in the line that a fault is shown at: behind the sign where it is one of the bound
abbrev pub place_in_line : Text → LineFault → ℕ
place_in_line line Unknown = 0
place_in_line line Twice = 0
place_in_line line fault = behind_sign line

-- the byte that a fault is shown at
abbrev pub place_of : Text → DeclFault → ℕ
place_of bytes (f.NotUtf8 at) = at.0
place_of bytes (f.Line number fault) = line_start number bytes + place_in_line (line_of number bytes) fault
