-- The first function of a program.
use Rattle.std.proofs.Common.{◌≡◌, ◌<◌, List, [], ◌∷◌, length, map, slice_index_or, Some, ap, sym, ◌∙◌, arith}
use Rattle.std.specs.Prelude.{slice_get}
use Rattle.raml_syntax.specs.Read.{program_of, function_of}
use Rattle.raml_syntax.specs.declared.program.Fun.{Fun}
use Rattle.raml_syntax.specs.declared.program.Program.{Program}

there : (funs : List Fun) (main : Fun) → 0 < length funs → main ≡ slice_index_or funs 0 main → slice_get (map function_of funs) 0 ≡ Some (function_of main)
there [] main some is = absurd (omega (arith, some))
there (fun ∷ funs) main some is = ap (λ g. Some (function_of g)) (sym is)

pub first_there : (P Q : Program) (funs : List Fun) (main : Fun) → 0 < length funs → main ≡ slice_index_or funs 0 main → funs ≡ Q.funs.items → Q ≡ P → slice_get (program_of P) 0 ≡ Some (function_of main)
first_there P Q funs main some is read same =
    sym (ap (λ gs. slice_get (map function_of gs) 0) read ∙ ap (λ R. slice_get (program_of R) 0) same) ∙ there funs main some is
