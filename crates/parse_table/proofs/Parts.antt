-- Lists of what was read.
use Rattle.std.proofs.Common.{◌≡◌, ◌∙◌, refl, sym, ap, ℕ, ◌≤◌, List, [], ◌∷◌, ◌++◌, length, append_assoc, arith}
use Rattle.std.specs.Prelude.{map, reverse}
use Rattle.std.proofs.lemmas.List.{map-append, reverse-append, append-nil, length-map}
use Rattle.std.proofs.lemmas.List.Elements.{All-nil, All-cons}
use Rattle.std.specs.List.{All}
use Rattle.raml_syntax.specs.Tree as t
use Rattle.raml_syntax.specs.Tree.{Text, Type', Term, Terms, Parameter, Function, Prog}
use Rattle.raml_syntax.specs.Read.{term_of, terms, terms_of, parameter_of, function_of}
use Rattle.raml_syntax.specs.declared.tree.Expr.{Expr}
use Rattle.raml_syntax.specs.declared.program.Param.{Param}
use Rattle.raml_syntax.specs.declared.program.Fun.{Fun}
use Rattle.parse_table.specs.Table.{Part, At, Named, Typing, Phrase, Header, Headed, Whole, call_of_parts, call_act, function_of_parts, function_act, program_of_parts, program_act}
use Rattle.parse_table.specs.Read.{headers_back, phrases_back, headed, marks, functions_back, StartsAt, HaveParameters}

-- PARAMETERS

pub headers_push : (ps : List Param) (p : Param) → headers_back (ps ++ p ∷ []) ≡ Header (parameter_of p) ∷ headers_back ps
headers_push ps p = ap (λ qs. map Header (reverse qs)) (map-append parameter_of ps (p ∷ [])) ∙ ap (map Header) (reverse-append (map parameter_of ps) (parameter_of p ∷ []))

-- the parameters before others
abbrev onto : List Parameter → List Parameter → List Parameter
onto [] qs = qs
onto (p ∷ ps) qs = onto ps (p ∷ qs)

onto_append : (ps rs qs : List Parameter) → onto (ps ++ rs) qs ≡ onto rs (onto ps qs)
onto_append [] rs qs = refl
onto_append (p ∷ ps) rs qs = onto_append ps rs (p ∷ qs)

onto_reverse : (ps qs : List Parameter) → onto (reverse ps) qs ≡ ps ++ qs
onto_reverse [] qs = refl
onto_reverse (p ∷ ps) qs = ap (λ s. onto s qs) (reverse-append (p ∷ []) ps) ∙ onto_append (reverse ps) (p ∷ []) qs ∙ ap (λ s. p ∷ s) (onto_reverse ps qs)

parts_is : (A : Type') (e : Term) (params hs : List Parameter) (q : ℕ) (f : Text) → function_of_parts A e params (map Header hs ++ Named q f ∷ []) ≡ Headed f (onto hs params) A e
parts_is A e params [] q f = refl
parts_is A e params (h ∷ hs) q f = parts_is A e (h ∷ params) hs q f

-- what a function's parts give
pub function_is : (A : Type') (e : Term) (ps : List Param) (q : ℕ) (f : Text) → function_act (Phrase e ∷ Typing A ∷ (headers_back ps ++ Named q f ∷ [])) ≡ Headed f (map parameter_of ps) A e
function_is A e ps q f = parts_is A e [] (reverse (map parameter_of ps)) q f ∙ ap (λ qs. Headed f qs A e) (onto_reverse (map parameter_of ps) [] ∙ append-nil (map parameter_of ps))

-- ARGUMENTS

pub phrases_push : (es : List Expr) (e : Expr) → phrases_back (es ++ e ∷ []) ≡ Phrase (term_of e) ∷ phrases_back es
phrases_push es e = ap (λ qs. map Phrase (reverse qs)) (map-append term_of es (e ∷ [])) ∙ ap (map Phrase) (reverse-append (map term_of es) (term_of e ∷ []))

-- the expressions before others, the last one first, and in order
abbrev back : List Term → Terms → Terms
back [] args = args
back (e ∷ es) args = back es (t.More e args)

abbrev before : List Term → Terms → Terms
before [] args = args
before (e ∷ es) args = t.More e (before es args)

back_append : (es fs : List Term) (args : Terms) → back (es ++ fs) args ≡ back fs (back es args)
back_append [] fs args = refl
back_append (e ∷ es) fs args = back_append es fs (t.More e args)

back_reverse : (es : List Term) (args : Terms) → back (reverse es) args ≡ before es args
back_reverse [] args = refl
back_reverse (e ∷ es) args = ap (λ s. back s args) (reverse-append (e ∷ []) es) ∙ back_append (reverse es) (e ∷ []) args ∙ ap (t.More e) (back_reverse es args)

before_none : (es : List Term) → before es t.None ≡ terms es
before_none [] = refl
before_none (e ∷ es) = ap (t.More e) (before_none es)

args_is : (f : Text) (args : Terms) (es : List Term) (p : ℕ) → call_of_parts f args (map Phrase es ++ At p ∷ []) ≡ Phrase (t.Call p f (back es args))
args_is f args [] p = refl
args_is f args (e ∷ es) p = args_is f (t.More e args) es p

-- what a call's parts give
pub call_is : (f : Text) (es : List Expr) (p : ℕ) → call_act f (phrases_back es ++ At p ∷ []) ≡ Phrase (t.Call p f (terms_of es))
call_is f es p = args_is f t.None (reverse (map term_of es)) p ∙ ap (λ args. Phrase (t.Call p f args)) (back_reverse (map term_of es) t.None ∙ before_none (map term_of es))

-- FUNCTIONS

marks_push : (fs : List Fun) (g : Fun) → marks (fs ++ g ∷ []) ≡ headed g ∷ At g.at.0 ∷ marks fs
marks_push [] g = refl
marks_push (f ∷ fs) g = ap (λ ps. ps ++ (headed f ∷ At f.at.0 ∷ [])) (marks_push fs g)

pub functions_push : (fs : List Fun) (p : ℕ) (g : Fun) → StartsAt p fs → functions_back (fs ++ g ∷ []) ≡ headed g ∷ At g.at.0 ∷ functions_back fs
functions_push [] p g w = absurd w
functions_push (f ∷ fs) p g w = ap (λ ps. ps ++ (headed f ∷ [])) (marks_push fs g)

pub parameters_push : (fs : List Fun) (g : Fun) → HaveParameters fs → 1 ≤ length g.params.items → HaveParameters (fs ++ g ∷ [])
parameters_push [] g w some = (some, tt)
parameters_push (f ∷ fs) g w some = (w.0, parameters_push fs g w.1 some)

pub each_has_parameters : (fs : List Fun) → HaveParameters fs → All (λ (g : Function). 1 ≤ length g.params) (map function_of fs)
each_has_parameters [] w = All-nil (λ (g : Function). 1 ≤ length g.params)
each_has_parameters (f ∷ fs) w =
    let same = length-map f.params.items parameter_of in
    All-cons (λ (g : Function). 1 ≤ length g.params) (function_of f) (map function_of fs) (omega (arith, same, w.0)) (each_has_parameters fs w.1)

pub starts_push : (fs : List Fun) (p : ℕ) (g : Fun) → StartsAt p fs → StartsAt p (fs ++ g ∷ [])
starts_push [] p g w = absurd w
starts_push (f ∷ fs) p g w = w

marks_is : (fs : List Fun) (P : Prog) (rest : List Part) → program_of_parts P (marks fs ++ rest) ≡ program_of_parts (map function_of fs ++ P) rest
marks_is [] P rest = refl
marks_is (f ∷ fs) P rest = ap (program_of_parts P) (append_assoc (marks fs) (headed f ∷ At f.at.0 ∷ []) rest) ∙ marks_is fs P (headed f ∷ At f.at.0 ∷ rest)

-- what a program's parts give
pub program_is : (fs : List Fun) (p : ℕ) → StartsAt p fs → program_act (functions_back fs ++ At p ∷ []) ≡ Whole (map function_of fs)
program_is [] p w = absurd w
program_is (f ∷ fs) p w =
    ap program_act (append_assoc (marks fs) (headed f ∷ []) (At p ∷ []) ∙ ap (λ p. marks fs ++ (headed f ∷ At p ∷ [])) (sym w) ∙ sym (append-nil (marks (f ∷ fs))))
    ∙ marks_is (f ∷ fs) [] []
    ∙ ap Whole (append-nil (map function_of (f ∷ fs)))
