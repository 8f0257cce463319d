-- How the lines of a file are read, one after the other.
use Rattle.std.specs.Prelude.{◌≡◌, ℕ, suc, List, [], ◌∷◌, Option, Some, None, Result, Ok, Err}
use Rattle.std.specs.Global.{Vec}
use Rattle.raml_syntax.specs.Tree.{Text, Prog}
use Rattle.bound_file.specs.Lines.{Line}
use Rattle.bound_file.specs.Reading.{line_added}
use Rattle.bound_file.specs.Read.{line_of, lines_of}
use Rattle.bound_file.specs.declared.declaration.DeclLine.{DeclLine}
use Rattle.bound_file.specs.declared.fault.LineFault.{LineFault}
use Rattle.bound_file.specs.declared.fault.LineError.{LineError}
use Rattle.bound_file.specs.declared.fault.LineError.TheVariants as l
use Rattle.bound_file.specs.declared.fault.DeclFault.{DeclFault}
use Rattle.bound_file.specs.declared.fault.DeclFault.TheVariants as f
use Rattle.bound_file.specs.declared.fault.DeclError.{DeclError}
use Rattle.bound_file.specs.declared.fault.DeclError.TheVariants as e

-- the text begins with this line and its line feed, and this is behind it; or it is the line, and nothing is behind it
abbrev pub first_of : Text → Option (Text × Text) → Text × Text
first_of text None = (text, [])
first_of text (Some parts) = parts

abbrev pub Lines : Type 0
Lines = Result (List Line) DeclFault

abbrev pub numbered : ℕ → Result (List Line) LineFault → Lines
numbered number (Err fault) = Err (f.Line number fault)
numbered number (Ok lines) = Ok lines

-- after a fault nothing is read
abbrev pub and_on : Lines → (List Line → Lines) → Lines
and_on (Err fault) next = Err fault
and_on (Ok lines) next = next lines

module _ (P : Prog) (d : ℕ) where
  -- what these texts, behind so many others, make of the lines that were read before
  abbrev pub read_lines : Lines → ℕ → List Text → Lines
  read_lines before number [] = before
  read_lines before number (text ∷ texts) =
      read_lines (and_on before (λ lines. numbered (suc number) (line_added P d lines text))) (suc number) texts

-- the lines in a vector
abbrev pub ItemsOf : Result (Vec DeclLine) DeclError → Result (List DeclLine) DeclError
ItemsOf (Ok lines) = Ok lines.items
ItemsOf (Err error) = Err error

-- these lines are what was read, or this fault is, unless memory ran out
abbrev pub Reads : Result (List DeclLine) DeclError → Lines → Type 0
Reads (Ok lines) read = read ≡ Ok (lines_of lines)
Reads (Err (e.Fault fault)) read = read ≡ Err fault
Reads (Err e.NoMemory) read = Unit {0}

-- this line is what was read, or this fault is, unless memory ran out
abbrev pub Comes : Result DeclLine LineError → Result Line LineFault → Type 0
Comes (Ok line) read = read ≡ Ok (line_of line)
Comes (Err (l.Fault fault)) read = read ≡ Err fault
Comes (Err l.NoMemory) read = Unit {0}

-- the same, where lines are left in place
abbrev pub Leaves : Result (Unit {0}) LineError → List Line → Result (List Line) LineFault → Type 0
Leaves (Ok done) lines read = read ≡ Ok lines
Leaves (Err (l.Fault fault)) lines read = read ≡ Err fault
Leaves (Err l.NoMemory) lines read = Unit {0}

-- the fault of a line is that of the file
abbrev pub at_line : ℕ → LineError → DeclError
at_line number (l.Fault fault) = e.Fault (f.Line number fault)
at_line number l.NoMemory = e.NoMemory
