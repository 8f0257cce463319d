-- The text of powers, and the lines that are told of a function and a meter.
use Rattle.std.specs.Prelude.{ℕ, suc, ◌*◌, ◌==◌, ℤ, pos, negsuc, unsigned_abs, cond, List, [], ◌∷◌, ◌++◌, codes, decimal}
use Rattle.raml_syntax.specs.Tree.{Text}
use Rattle.base_poly.specs.Poly.{Term}
use Rattle.poly_text.specs.Text.{coefficient_text}
use Rattle.bound_compare.specs.Powers.{Powers, powers_of}
use Rattle.bound_compare.specs.Compare.{word_of}
use Rattle.bound_compare.specs.declared.compared.Compared.{Compared}
use Rattle.bound_compare.specs.declared.compared.Compared.TheVariants.{Absent, NoBound, Bounds}

-- the element count of parameter j, counted from 1, to this exponent
abbrev pub factor_text : ℕ → ℕ → Text
factor_text j e = cond (e == 0) [] (codes "*n" ++ (decimal j ++ cond (e == 1) [] (codes "^" ++ decimal e)))

-- those of all parameters from the j-th on
abbrev pub factors_text : ℕ → List ℕ → Text
factors_text j [] = []
factors_text j (e ∷ es) = factor_text j e ++ factors_text (suc j) es

-- the coefficient without its sign, in lowest terms, and the factors
abbrev pub power_text : ℕ → List ℕ × ℤ → Text
power_text den p = coefficient_text (unsigned_abs p.1) den ++ factors_text 1 p.0

-- the sign of a first number, and of one behind others
abbrev pub sign_text : ℤ → Text
sign_text (pos n) = []
sign_text (negsuc n) = codes "-"

abbrev pub joint_text : ℤ → Text
joint_text (pos n) = codes " + "
joint_text (negsuc n) = codes " - "

abbrev pub more_powers : ℕ → Powers → Text
more_powers den [] = []
more_powers den (p ∷ ps) = joint_text p.1 ++ (power_text den p ++ more_powers den ps)

-- the powers over a denominator one after the other, or a zero
abbrev pub powers_text : ℕ → Powers → Text
powers_text den [] = codes "0"
powers_text den (p ∷ ps) = sign_text p.1 ++ (power_text den p ++ more_powers den ps)

-- the text of a sum of terms over a denominator, in powers of so many parameters' element counts
abbrev pub bound_text : ℕ → ℕ → List Term → Text
bound_text p den terms = powers_text (24 * den) (powers_of p terms)

-- NAME METER <= POWERS
abbrev pub powers_line : Text → Text → ℕ → Powers → Text
powers_line name meter den ps = name ++ codes " " ++ meter ++ codes " <= " ++ powers_text den ps ++ codes "\n"

-- NAME METER not flat
abbrev pub not_flat_line : Text → Text → Text
not_flat_line name meter = name ++ codes " " ++ meter ++ codes " not flat\n"

-- what a comparison tells
abbrev pub compared_word : Compared → Text
compared_word Absent = codes "absent"
compared_word NoBound = codes "no bound"
compared_word (Bounds relation) = word_of relation

-- NAME METER WORD
abbrev pub compared_line : Text → Text → Compared → Text
compared_line name meter compared = name ++ codes " " ++ meter ++ codes " " ++ compared_word compared ++ codes "\n"

-- the line where powers leave 128 bits
abbrev pub leaves_line : Text → Text → Text
leaves_line name meter = codes "raml: overflow: powers " ++ name ++ codes " " ++ meter ++ codes "\n"
