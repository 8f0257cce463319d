-- What a line of a file of declared bounds spells: NAME METER <= POLY, where a polynomial is spelled as it is printed.
use Rattle.std.specs.Prelude.{◌≡◌, ◌≢◌, ◌⊎◌, ◌==◌, ℕ, List, [], ◌∷◌, ◌++◌, length, map, cond, get_or, codes}
use Rattle.std.specs.Str.Parse.{IsNumeral}
use Rattle.raml_syntax.specs.Tree.{Text}
use Rattle.raml_syntax.specs.Types.{Differ}
use Rattle.raml_lex.specs.Lexemes.{IsLexeme}
use Rattle.raml_lex.specs.declared.token.TokenKind.TheVariants.{Name}
use Rattle.base_poly.specs.Plain.{Plain, many, degrees}
use Rattle.poly_text.specs.Text.{entries_text}
use Rattle.cost_free.specs.declared.task.Meter.{Meter}
use Rattle.cost_free.specs.declared.task.Meter.TheVariants.{Ticks, Cells, Work}

-- What is written in a term: the digits of its numbers, and its tuple. Without a stroke nothing stands for the denominator, and
-- nothing stands for the zero tuple.
pub record Term : Type 0 where
  pub numerator : Text
  pub denominator : Text
  pub tuple : Text

-- a text behind a mark; nothing where the text has no bytes
abbrev pub behind : ℕ → Text → Text
behind mark [] = []
behind mark (byte ∷ text) = mark ∷ byte ∷ text

-- `numerator/denominator*tuple`
abbrev pub term_text : Term → Text
term_text t = t.numerator ++ (behind 47 t.denominator ++ behind 42 t.tuple)

abbrev pub more_terms : List Term → Text
more_terms [] = []
more_terms (t ∷ ts) = codes " + " ++ (term_text t ++ more_terms ts)

-- one or more digits, the first of them a zero only where it is the only one; of any value
pub record IsNumber (digits : Text) : Type 0 where
  pub numeral : IsNumeral 10 digits
  pub zero_alone : get_or digits 0 0 ≡ 48 → length digits ≡ 1

-- a tuple as it is printed; that of degree 0 is not
abbrev pub tuple_text : List Plain → Text
tuple_text t = cond (degrees t == 0) [] (codes "<" ++ (entries_text (many t) ++ codes ">"))

abbrev pub IsTuple : Text → Type 0
IsTuple text = (t : List Plain) × (text ≡ tuple_text t)

pub record IsTerm (t : Term) : Type 0 where
  pub numerator : IsNumber t.numerator
  pub denominator : (t.denominator ≡ []) ⊎ IsNumber t.denominator
  pub tuple : IsTuple t.tuple

abbrev pub AreTerms : List Term → Type 0
AreTerms [] = Unit {0}
AreTerms (t ∷ ts) = IsTerm t × AreTerms ts

-- the terms one after the other; `0` alone is the sum of none
abbrev pub IsSum : Text → List Term → Type 0
IsSum text [] = text ≡ codes "0"
IsSum text (t ∷ ts) = (text ≢ codes "0") × (text ≡ term_text t ++ more_terms ts)

abbrev pub meter_text : Meter → Text
meter_text Ticks = codes "ticks"
meter_text Cells = codes "cells"
meter_text Work = codes "work"

-- what is written in a line
pub record Written : Type 0 where
  pub name : Text
  pub meter : Meter
  pub terms : List Term

-- the line is the name of a function, a meter and a sum; the name is no keyword, and no tuple stands twice in the sum
pub record IsLine (line : Text) (w : Written) : Type 0 where
  pub sum : Text
  pub is : line ≡ w.name ++ (codes " " ++ (meter_text w.meter ++ (codes " <= " ++ sum)))
  pub name : IsLexeme Name w.name
  pub spelled : IsSum sum w.terms
  pub terms : AreTerms w.terms
  pub once : Differ (map (λ (t : Term). t.tuple) w.terms)
