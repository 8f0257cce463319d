-- What is read of the functions of a program.
use Rattle.std.proofs.Common.{◌≡◌, ◌∙◌, ℕ, ◌<◌, List, length, map, slice_index_or, refl, subst, ap}
use Rattle.std.specs.List.{All}
use Rattle.std.proofs.lemmas.Option.{slice_get-map, slice_get_read, slice_get_within, get_or_from_slice_get}
use Rattle.std.specs.Option.{option_map}
use Rattle.raml_syntax.specs.Read.{function_of}
use Rattle.raml_syntax.specs.declared.program.Fun.{Fun}
use Rattle.raml_syntax.specs.Tree.{Function}

-- what holds of all functions holds of the one that was read
pub all_read : (Q : Function → Type 0) (funs : List Fun) (place : ℕ) (x : Fun) → place < length funs → x ≡ slice_index_or funs place x → All Q (map function_of funs) → Q (function_of x)
all_read Q funs place x inside read all =
    let at = slice_get-map function_of funs place ∙ ap (option_map function_of) (slice_get_read funs (length funs) place x refl inside read) in
    let g = all place (function_of x) (slice_get_within (map function_of funs) place (function_of x) at) in
    subst Q (get_or_from_slice_get (map function_of funs) place (function_of x) (function_of x) at) g
