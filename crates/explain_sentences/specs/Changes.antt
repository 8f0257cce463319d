-- What is said of changes by which functions have bounds: calls that are written out, and parameters that change places.
use Rattle.std.specs.Prelude.{ℕ, List, [], ◌∷◌, ◌++◌, Option, Some, None, slice_get, codes}
use Rattle.raml_syntax.specs.Tree.{Text, Parameter, Function, Prog}
use Rattle.report_text.specs.Names.{name_at}
use Rattle.explain_inline.specs.declared.how.How.{How}
use Rattle.explain_inline.specs.declared.how.How.TheVariants.{Inlined, Unfolded}
use Rattle.explain_rounds.specs.Calls.{Call, group_calls}
use Rattle.explain_sentences.specs.Sentences.{Sentence, sentence, begin_of}

-- ---- calls that are written out

-- the place of the first of these calls, or else another one
abbrev pub first_at : ℕ → List Call → ℕ
first_at p [] = p
first_at p (call ∷ calls) = call.at

-- where a function calls another one first, or else where it begins
abbrev pub call_place : Prog → ℕ → ℕ → ℕ
call_place P caller callee = first_at (begin_of P caller) (group_calls P (callee ∷ []) caller)

abbrev pub written_out : How → Text
written_out Inlined = codes "` are written out"
written_out Unfolded = codes "` are written out where these take apart what was just built"

abbrev pub why_inlined : Prog → How → ℕ → Text
why_inlined P how callee = codes "there is a bound once its calls of `" ++ (name_at P callee ++ written_out how)

abbrev pub of_inlined : Prog → How → ℕ → ℕ → List Sentence
of_inlined P how caller callee = sentence (call_place P caller callee) (why_inlined P how callee) ∷ []

abbrev pub closing_of_inlined : How → Text
closing_of_inlined Inlined =
    codes "A result that hides which value it holds, as an option may, is paid for in every case; "
    ++ codes "written out, each case pays for its own.\n"
closing_of_inlined Unfolded =
    codes "A call is paid for as if each of its cases could come; "
    ++ codes "written out behind what was just built, only the one that comes is paid for.\n"

-- ---- parameters that change places

abbrev pub parameters_in : Option Function → List Parameter
parameters_in None = []
parameters_in (Some g) = g.params

-- the parameter at a place of the function at another place
abbrev pub parameter_at : Prog → ℕ → ℕ → Option Parameter
parameter_at P f i = slice_get (parameters_in (slice_get P f)) i

abbrev pub name_in : Option Parameter → Text
name_in None = []
name_in (Some p) = p.name

-- where a parameter stands, or else this place
abbrev pub place_in : ℕ → Option Parameter → ℕ
place_in other None = other
place_in other (Some p) = p.at

-- both parameters of the function are exchanged
abbrev pub why_exchanged : Text → Text → Text → Text
why_exchanged first second function =
    codes "there is a bound once `" ++ (first ++ (codes "` and `" ++ (second ++ (codes "` of `" ++ (function
    ++ codes "` change places, here and in each call")))))

abbrev pub of_exchanged : Prog → ℕ → ℕ → ℕ → List Sentence
of_exchanged P f i j =
    sentence (place_in (begin_of P f) (parameter_at P f i))
    (why_exchanged (name_in (parameter_at P f i)) (name_in (parameter_at P f j)) (name_at P f)) ∷ []
