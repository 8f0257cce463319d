-- How a file of declared bounds is read, line by line.
use Rattle.std.specs.Prelude.{ℕ, suc, Bool, true, false, not, nat_eq, nat_le, nat_lt, ◌&&◌, ◌^◌, List, [], ◌∷◌, ◌++◌, map, length, cond}
use Rattle.std.specs.Prelude.{Option, Some, None, option_map, slice_get, codes, Result, Ok, Err}
use Rattle.std.specs.List.{list_all, list_any}
use Rattle.std.specs.Str.{bytes_eq}
use Rattle.std.specs.Borrow.{Bor}
use Rattle.raml_syntax.specs.Tree.{Text, Type', Function, Prog}
use Rattle.raml_syntax.specs.Cut.{cut_at}
use Rattle.raml_syntax.specs.Types.{types_of}
use Rattle.raml_syntax.specs.Place.{place_of}
use Rattle.raml_lex.specs.Lexemes.{is_lower, is_name_part, keywords}
use Rattle.base_poly.specs.Plain.{Plain}
use Rattle.base_poly.specs.Indices.{index_list}
use Rattle.cost_free.specs.declared.task.Meter.{Meter}
use Rattle.cost_free.specs.declared.task.Meter.TheVariants.{Ticks, Cells, Work}
use Rattle.bound_file.specs.Lines.{Coefficient, Line}
use Rattle.bound_file.specs.Spelling.{Term, tuple_text, Written}
use Rattle.bound_file.specs.Declares.{numerator_of, denominator_of}
use Rattle.bound_file.specs.Answers.{longer, is_declared}
use Rattle.bound_file.specs.Digits.{is_number}
use Rattle.bound_file.specs.Tuples.{is_tuple}
use Rattle.bound_file.specs.declared.fault.LineFault.{LineFault}
use Rattle.bound_file.specs.declared.fault.LineFault.TheVariants.{Shape, Number, Unknown, Index, Twice}

abbrev pub lent : Option (Bor Text) → Option Text
lent = option_map (λ (t : Bor Text). t.now)

-- the text behind a space at its front, and before one at its end
abbrev pub behind_space : Text → Option Text
behind_space [] = None
behind_space (byte ∷ text) = cond (nat_eq byte 32) (Some text) None

abbrev pub before_space : Text → Option Text
before_space [] = None
before_space (byte ∷ []) = cond (nat_eq byte 32) (Some []) None
before_space (byte ∷ next ∷ text) = option_map (λ (front : Text). byte ∷ front) (before_space (next ∷ text))

abbrev pub and_then : {A B : Type 0} → Option A → (A → Option B) → Option B
and_then None next = None
and_then (Some a) next = next a

-- Terms

-- a coefficient, and the tuple behind its star
abbrev pub whole_read : Text → Text → Option Term
whole_read numerator tuple = cond (is_number numerator) (Some (record { numerator = numerator; denominator = []; tuple = tuple })) None

abbrev pub over_read : Text → Text → Text → Option Term
over_read numerator denominator tuple =
    cond (is_number numerator && is_number denominator)
    (Some (record { numerator = numerator; denominator = denominator; tuple = tuple })) None

abbrev pub quotient_from : Text → Text → Option (Text × Text) → Option Term
quotient_from coefficient tuple None = whole_read coefficient tuple
quotient_from coefficient tuple (Some parts) = over_read parts.0 parts.1 tuple

abbrev pub quotient_read : Text → Text → Option Term
quotient_read coefficient tuple = quotient_from coefficient tuple (cut_at 47 coefficient)

abbrev pub term_from : Text → Option (Text × Text) → Option Term
term_from text None = quotient_read text []
term_from text (Some parts) = cond (is_tuple parts.1) (quotient_read parts.0 parts.1) None

abbrev pub term_read : Text → Option Term
term_read text = term_from text (cut_at 42 text)

-- the last term of a sum, which stands behind a space, and one before a plus, which stands before a space, too
abbrev pub last_read : Text → Option Term
last_read piece = and_then (behind_space piece) term_read

abbrev pub inner_read : Text → Option Term
inner_read piece = and_then (before_space piece) last_read

-- Sums

-- a text cut at each plus
abbrev pub pieces : Text → List Text
pieces [] = [] ∷ []
pieces (byte ∷ text) = cond (nat_eq byte 43) ([] ∷ pieces text) (longer byte (pieces text))

abbrev pub with_term : Option Term → Option (List Term) → Option (List Term)
with_term (Some t) (Some ts) = Some (t ∷ ts)
with_term _ _ = None

abbrev pub each_read : List Text → Option (List Term)
each_read [] = Some []
each_read (piece ∷ []) = with_term (last_read piece) (Some [])
each_read (piece ∷ next ∷ more) = with_term (inner_read piece) (each_read (next ∷ more))

-- a sum behind a space
abbrev pub sum_read : Text → Option (List Term)
sum_read sum = cond (bytes_eq sum (codes " 0")) (Some []) (each_read (pieces sum))

-- Lines

abbrev pub meter_read : Text → Option Meter
meter_read word =
    cond (bytes_eq word (codes "ticks")) (Some Ticks)
    (cond (bytes_eq word (codes "cells")) (Some Cells) (cond (bytes_eq word (codes "work")) (Some Work) None))

abbrev pub is_word : Text → Bool
is_word [] = false
is_word (byte ∷ text) = is_lower byte && list_all is_name_part text

abbrev pub is_name : Text → Bool
is_name word = is_word word && not (list_any (λ keyword. bytes_eq keyword word) keywords)

-- no two of the texts are one
abbrev pub distinct : List Text → Bool
distinct [] = true
distinct (text ∷ texts) = not (list_any (bytes_eq text) texts) && distinct texts

-- a line cut in three: its name, its meter, and its sum behind a space
pub record Parts : Type 0 where
  pub name : Text
  pub meter : Text
  pub sum : Text

abbrev pub at_sign : Text → Text → Text × Text → Option Parts
at_sign name meter parts = cond (bytes_eq parts.0 (codes "<")) (Some (record { name = name; meter = meter; sum = parts.1 })) None

abbrev pub parts_read : Text → Option Parts
parts_read line = and_then (cut_at 32 line) (λ p. and_then (cut_at 32 p.1) (λ q. and_then (cut_at 61 q.1) (at_sign p.0 q.0)))

abbrev pub with_terms : Text → Meter → List Term → Option Written
with_terms name meter terms =
    cond (distinct (map (λ (t : Term). t.tuple) terms)) (Some (record { name = name; meter = meter; terms = terms })) None

abbrev pub line_from : Parts → Option Written
line_from parts =
    cond (is_name parts.name)
    (and_then (meter_read parts.meter) (λ meter. and_then (sum_read parts.sum) (with_terms parts.name meter))) None

abbrev pub line_read : Text → Option Written
line_read line = and_then (parts_read line) line_from

-- Numbers

-- a term with its numbers
pub record Counted : Type 0 where
  pub tuple : Text
  pub numerator : ℕ
  pub denominator : ℕ

abbrev pub in_range : ℕ → Option ℕ
in_range n = cond (nat_lt 0 n && nat_lt n (2 ^ 127)) (Some n) None

abbrev pub with_numbers : Text → Option ℕ → Option ℕ → Option Counted
with_numbers tuple (Some n) (Some m) = Some (record { tuple = tuple; numerator = n; denominator = m })
with_numbers tuple _ _ = None

abbrev pub counted : Term → Option Counted
counted t = with_numbers t.tuple (in_range (numerator_of t)) (in_range (denominator_of t))

abbrev pub with_counted : Option Counted → Option (List Counted) → Option (List Counted)
with_counted (Some c) (Some cs) = Some (c ∷ cs)
with_counted _ _ = None

abbrev pub all_counted : List Term → Option (List Counted)
all_counted [] = Some []
all_counted (t ∷ ts) = with_counted (counted t) (all_counted ts)

-- Positions

-- the first of the terms whose tuple is this one
abbrev pub term_of : List Plain → List Counted → Option Counted
term_of tuple [] = None
term_of tuple (c ∷ cs) = cond (bytes_eq c.tuple (tuple_text tuple)) (Some c) (term_of tuple cs)

abbrev pub is_placed : List (List Plain) → Text → Bool
is_placed tuples text = list_any (λ tuple. bytes_eq text (tuple_text tuple)) tuples

abbrev pub all_placed : List (List Plain) → List Counted → Bool
all_placed tuples cs = list_all (λ (c : Counted). is_placed tuples c.tuple) cs

abbrev pub with_coefficient : ℕ → Option Counted → List Coefficient → List Coefficient
with_coefficient k None more = more
with_coefficient k (Some c) more = record { position = k; numerator = c.numerator; denominator = c.denominator } ∷ more

-- the coefficients of the terms, where these tuples stand at positions from this one on
abbrev pub gathered : ℕ → List (List Plain) → List Counted → List Coefficient
gathered k [] cs = []
gathered k (tuple ∷ tuples) cs = with_coefficient k (term_of tuple cs) (gathered (suc k) tuples cs)

abbrev pub bound_over : List (List Plain) → List Counted → Option (List Coefficient)
bound_over tuples cs = cond (all_placed tuples cs) (Some (gathered 0 tuples cs)) None

abbrev pub bound_read : List Type' → ℕ → List Counted → Option (List Coefficient)
bound_read As d [] = Some []
bound_read As d (c ∷ cs) = cond (nat_le (length (index_list As d)) 2000) (bound_over (index_list As d) (c ∷ cs)) None

-- What a line declares

abbrev pub or_index : ℕ → Meter → Option (List Coefficient) → Result Line LineFault
or_index place meter None = Err Index
or_index place meter (Some bound) = Ok (record { fun = place; meter = meter; bound = bound })

-- what the terms declare of a function at its place
abbrev pub of_function : ℕ → ℕ → Meter → List Counted → Function → Result Line LineFault
of_function d place meter cs fun = or_index place meter (bound_read (types_of fun) d cs)

module _ (P : Prog) (d : ℕ) where
  -- a place that is found is that of a function
  abbrev pub at_function : ℕ → Meter → List Counted → Option Function → Result Line LineFault
  at_function place meter cs None = Err Unknown
  at_function place meter cs (Some fun) = of_function d place meter cs fun

  abbrev pub at_place : Meter → List Counted → Option ℕ → Result Line LineFault
  at_place meter cs None = Err Unknown
  at_place meter cs (Some place) = at_function place meter cs (slice_get P place)

  abbrev pub with_all : Written → Option (List Counted) → Result Line LineFault
  with_all w None = Err Number
  with_all w (Some cs) = at_place w.meter cs (place_of w.name P)

  -- what is declared by what is written
  abbrev pub declared_by : Written → Result Line LineFault
  declared_by w = with_all w (all_counted w.terms)

  abbrev pub or_shape : Option Written → Result Line LineFault
  or_shape None = Err Shape
  or_shape (Some w) = declared_by w

  -- what a text declares as a line
  abbrev pub text_read : Text → Result Line LineFault
  text_read text = or_shape (line_read text)

  -- the lines with what is declared, or the fault
  abbrev pub with_line : List Line → Result Line LineFault → Result (List Line) LineFault
  with_line lines (Err fault) = Err fault
  with_line lines (Ok line) = cond (is_declared lines line.fun line.meter) (Err Twice) (Ok (lines ++ line ∷ []))

  abbrev pub line_added : List Line → Text → Result (List Line) LineFault
  line_added lines text = with_line lines (text_read text)
