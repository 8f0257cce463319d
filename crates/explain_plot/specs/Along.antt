-- The parameter whose size is drawn.
use Rattle.std.specs.Prelude.{ℕ, ◌+◌, Bool, true, false, ◌&&◌, cond, List, [], ◌∷◌, ◌++◌, map, Option, Some, None, option_map, codes}
use Rattle.std.specs.Str.{bytes_eq}
use Rattle.raml_syntax.specs.Tree.{Text, Type', Parameter, ListOf, TreeOf}
use Rattle.raml_syntax.specs.Read.{parameter_of}
use Rattle.raml_syntax.specs.declared.program.Param.{Param}
use Rattle.explain_check.specs.Stores.{error_line}
use Rattle.explain_words.specs.Spelled.{lent}
use Rattle.explain_words.specs.declared.request.plot.PlotWords.{PlotWords}

abbrev pub parameters_of : List Param → List Parameter
parameters_of = map parameter_of

-- lists and trees have a size: how many elements they have
abbrev pub has_size : Type' → Bool
has_size (ListOf A) = true
has_size (TreeOf A) = true
has_size A = false

-- it has the name, where there is one
abbrev pub is_named : Option Text → Parameter → Bool
is_named None p = true
is_named (Some name) p = bytes_eq p.name name

-- the place of the first parameter that has the name, where there is one, and a size
abbrev pub sized : Option Text → List Parameter → Option ℕ
sized name [] = None
sized name (p ∷ ps) = cond (is_named name p && has_size p.type) (Some 0) (option_map (λ place. place + 1) (sized name ps))

-- FILE: error: FUNCTION has no parameter NAME that is a list or a tree
abbrev pub no_parameter_line : Text → Text → Option Text → Text
no_parameter_line file function None = error_line file (function ++ codes " has no parameter that is a list or a tree")
no_parameter_line file function (Some name) =
    error_line file (function ++ (codes " has no parameter " ++ (name ++ codes " that is a list or a tree")))

abbrev pub no_parameter : PlotWords → Text
no_parameter words = no_parameter_line words.file.now words.name.now (lent words.parameter)
