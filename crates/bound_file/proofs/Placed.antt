-- Functions at their places, and what lines declare of them.
use Rattle.std.proofs.Common.{◌≡◌, ◌<◌, ◌≤◌, ℕ, zero, suc, List, [], ◌∷◌, ◌++◌, map, length, slice_index_or, Some, sym, ap, ◌∙◌, arith, length-append}
use Rattle.std.specs.Prelude.{slice_get}
use Rattle.raml_syntax.specs.Tree.{Text, Function, Prog}
use Rattle.raml_syntax.specs.Place.{place_of}
use Rattle.raml_syntax.specs.Read.{function_of}
use Rattle.raml_syntax.specs.declared.program.Fun.{Fun}
use Rattle.raml_syntax.proofs.Places.{functions_have_places}
use Rattle.bound_file.specs.Spelling.{Written}
use Rattle.bound_file.specs.Reading.{Counted, Parts, all_counted, of_function, at_function, at_place, with_all, declared_by, parts_read}
use Rattle.bound_file.proofs.LineRead.{parts_is}

below : (funs : List Fun) (k : ℕ) (g : Function) → slice_get (map function_of funs) k ≡ Some g → k < length funs
below [] k g e = absurd (cc)
below (x ∷ funs) zero g e = omega arith
below (x ∷ funs) (suc k) g e = let low = below funs k g e in omega (arith, low)

pub place_below : (name : Text) (funs : List Fun) (k : ℕ) → place_of name (map function_of funs) ≡ Some k → k < length funs
place_below name funs k e = let h = (functions_have_places (map function_of funs)).placed name k e in below funs k h.0 h.1

pub fun_at : (funs : List Fun) (k : ℕ) (g : Fun) → k < length funs → g ≡ slice_index_or funs k g → slice_get (map function_of funs) k ≡ Some (function_of g)
fun_at [] k g low e = absurd (omega (arith, low))
fun_at (x ∷ funs) zero g low e = ap (λ f. Some (function_of f)) (sym e)
fun_at (x ∷ funs) (suc k) g low e = fun_at funs k g (omega (arith, low)) e

pub declared_from : (P : Prog) (d : ℕ) (w : Written) (cs : List Counted) (place : ℕ) (g : Function) → all_counted w.terms ≡ Some cs → place_of w.name P ≡ Some place → slice_get P place ≡ Some g →
    declared_by P d w ≡ of_function d place w.meter cs g
declared_from P d w cs place g e f h = ap (with_all P d w) e ∙ ap (at_place P d w.meter cs) f ∙ ap (at_function P d place w.meter cs) h

-- the name of a line is no longer than the line
pub parts_short : (line : Text) (p : Parts) → parts_read line ≡ Some p → length p.name ≤ length line
parts_short line p e =
    let l = ap length (parts_is line p e) in
    let m = length-append p.name (32 ∷ (p.meter ++ 32 ∷ 60 ∷ 61 ∷ p.sum)) in
    omega (arith, l, m)
