-- Small files, worked out by hand.
use Rattle.std.specs.Prelude.{◌≡◌, ℕ, [], ◌∷◌, codes}
use Rattle.raml_syntax.specs.Tree as t
use Rattle.raml_syntax.specs.Tree.{Text, Integer, ListOf, Parameter, Prog}
use Rattle.cost_free.specs.declared.task.Meter.TheVariants.{Ticks, Cells}
use Rattle.bound_file.specs.Lines.{Coefficient, Line, Declaration}
use Rattle.bound_file.specs.Answers.{lines_in, Spells, FirstFault}
use Rattle.bound_file.specs.declared.fault.LineFault.TheVariants.{Shape, Number, Unknown, Index, Twice}
use Rattle.bound_file.specs.declared.fault.DeclFault.TheVariants as f

abbrev integers : Text → Parameter
integers name = record { at = 0; name = name; type = ListOf Integer }

-- fun a (x : int list, y : int list) : int list = y
abbrev pub program : Prog
program =
    record {
      at = 0;
      name = codes "a";
      params = integers (codes "x") ∷ integers
          (codes "y") ∷ [];
      result = ListOf Integer;
      body = t.Var 0 (codes "y");
    } ∷ []

abbrev coefficient : ℕ → ℕ → ℕ → Coefficient
coefficient k n m = record { position = k; numerator = n; denominator = m }

-- the tuples of degree 1 at most are <[], []>, <[], [_]> and <[_], []>
abbrev pub cells : Line
cells = record { fun = 0; meter = Cells; bound = coefficient 0 2 1 ∷ coefficient 2 1 3 ∷ [] }

abbrev pub no_ticks : Line
no_ticks = record { fun = 0; meter = Ticks; bound = [] }

abbrev pub both : Declaration
both = record { degree = 1; lines = cells ∷ no_ticks ∷ [] }

pub record Examples : Type 0 where
  -- lines end with a line feed, which the last may lack
  pub no_lines : lines_in [] ≡ []
  pub empty_line : lines_in (codes "a\n\n") ≡ codes "a" ∷ [] ∷ []
  -- terms in any order, not in lowest terms, and a sum without terms
  pub two_lines : Spells program 1 (codes "a cells <= 1/3*<[_], []> + 2\na ticks <= 0") both
  -- the zero tuple is not spelled
  pub zero_tuple : FirstFault program 1 (codes "a cells <= 5*<[], []>\n") (f.Line 1 Shape)
  pub twice_in_a_line : FirstFault program 1 (codes "a cells <= 1 + 1") (f.Line 1 Shape)
  pub zero_in_front : FirstFault program 1 (codes "a cells <= 01") (f.Line 1 Shape)
  pub keyword : FirstFault program 1 (codes "let cells <= 1") (f.Line 1 Shape)
  pub nought : FirstFault program 1 (codes "a cells <= 1 + 0*<[_], []>") (f.Line 1 Number)
  pub past : FirstFault program 1 (codes "b cells <= 170141183460469231731687303715884105728") (f.Line 1 Number)
  pub unknown : FirstFault program 1 (codes "b cells <= 1*<[_]>") (f.Line 1 Unknown)
  pub above_degree : FirstFault program 1 (codes "a cells <= 1*<[_, _], []>") (f.Line 1 Index)
  pub twice : FirstFault program 1 (codes "a cells <= 0\na ticks <= 0\na cells <= 1\na") (f.Line 3 Twice)
