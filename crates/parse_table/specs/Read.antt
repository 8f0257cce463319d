-- What the code's tokens and answers are as plain data.
use Rattle.std.specs.Prelude.{◌≡◌, ℕ, List, [], ◌∷◌, ◌++◌, map, reverse, Option, Some, None, Result, Ok, Err, Vec, ◌≤◌, length}
use Rattle.std.specs.Borrow.{Bor}
use Rattle.std.specs.Global.{Global, Box}
use Rattle.parse_spec.specs.Reading.{Fault, rest_of}
use Rattle.raml_syntax.specs.Tree.{Bound, Term}
use Rattle.raml_syntax.specs.Read.{term_of, ty_of, parameter_of, program_of}
use Rattle.raml_syntax.specs.declared.tree.Expr.{Expr}
use Rattle.raml_syntax.specs.declared.ty.Ty.{Ty}
use Rattle.raml_syntax.specs.declared.program.Param.{Param}
use Rattle.raml_syntax.specs.declared.program.Fun.{Fun}
use Rattle.raml_syntax.specs.declared.program.Program.{Program}
use Rattle.parse_table.specs.Tokens.{Token, Name, Number, Key}
use Rattle.parse_table.specs.declared.take.NameAt.{NameAt}
use Rattle.parse_table.specs.Table.{Part, At, Named, Phrase, Typing, Header, Headed, Whole}
use Rattle.parse_table.specs.declared.token.Word.{Word}
use Rattle.parse_table.specs.declared.token.Word.TheVariants as w
use Rattle.parse_table.specs.declared.token.Piece.{Piece}
use Rattle.parse_table.specs.declared.stop.Stop.{Stop}
use Rattle.parse_table.specs.declared.stop.Stop.TheVariants as f

abbrev pub word_at : Word → ℕ → Token
word_at (w.Name x) p = Name p x.now
word_at (w.Number n) p = Number p n
word_at (w.Sign k) p = Key p k

abbrev pub token_of : Piece → Token
token_of q = word_at q.word q.at.0

abbrev pub pieces : List Piece → List Token
pieces = map token_of

abbrev pub named_part : NameAt → Part
named_part x = Named x.at.0 x.name.now

abbrev pub bound_at : NameAt → Bound
bound_at x = record { at = x.at.0; name = x.name.now }

-- What a function returned is, by the view, what reading answers, unless memory ran out.
abbrev pub Fails : {Y : Type 0} → Stop → Result Y (Fault Token) → Type 0
Fails (f.Fault k u) read = read ≡ Err (k, pieces u.now)
Fails f.NoMemory read = Unit {0}

abbrev pub Gives : {X Y : Type 0} → (X → Y) → Result X Stop → Result Y (Fault Token) → Type 0
Gives view (Ok x) read = read ≡ Ok (view x)
Gives view (Err e) read = Fails e read

abbrev pub rest : Bor (List Piece) → List Token
rest u = pieces u.now

-- What was found at the first of the tokens s, by the view, and the tokens behind it; or nothing was.
abbrev pub Finds : {X Y : Type 0} → (X → Y) → (X → List Token) → Option X → Option Y → List Token → Type 0
Finds view left None test s = test ≡ None
Finds view left (Some x) test s = (test ≡ Some (view x)) × (rest_of s ≡ left x)

abbrev pub term_in : Box Expr → Term
term_in e = term_of e.value

abbrev pub phrase : Expr × ℕ × Bor (List Piece) → Part × ℕ × List Token
phrase x = (Phrase (term_of x.0), x.1, rest x.2)

abbrev pub boxed : Box Expr × ℕ × Bor (List Piece) → Part × ℕ × List Token
boxed x = (Phrase (term_in x.0), x.1, rest x.2)

abbrev pub typing : Box Ty × ℕ × Bor (List Piece) → Part × ℕ × List Token
typing x = (Typing (ty_of x.0.value), x.1, rest x.2)

abbrev pub header : Param × ℕ × Bor (List Piece) → Part × ℕ × List Token
header x = (Header (parameter_of x.0), x.1, rest x.2)

-- what the parameters are, the last one first
abbrev pub headers_back : List Param → List Part
headers_back ps = map Header (reverse (map parameter_of ps))

abbrev pub headers : Vec Param Global × ℕ × Bor (List Piece) → List Part × ℕ × List Token
headers x = (headers_back x.0.items, x.1, rest x.2)

-- what the arguments are, the last one first
abbrev pub phrases_back : List Expr → List Part
phrases_back es = map Phrase (reverse (map term_of es))

abbrev pub phrases : Vec Expr Global × ℕ × Bor (List Piece) → List Part × ℕ × List Token
phrases x = (phrases_back x.0.items, x.1, rest x.2)

-- a function without its place
abbrev pub headed : Fun → Part
headed f = Headed f.name (map parameter_of f.params.items) (ty_of f.result) (term_of f.body)

abbrev pub function : Fun × ℕ × Bor (List Piece) → Part × ℕ × List Token
function x = (headed x.0, x.1, rest x.2)

-- each function behind its place, the last one first
abbrev pub marks : List Fun → List Part
marks [] = []
marks (f ∷ fs) = marks fs ++ (headed f ∷ At f.at.0 ∷ [])

-- the same without the place of the first
abbrev pub functions_back : List Fun → List Part
functions_back [] = []
functions_back (f ∷ fs) = marks fs ++ (headed f ∷ [])

-- the first function's `fun` stands there
abbrev pub StartsAt : ℕ → List Fun → Type 0
StartsAt p [] = ⊥
StartsAt p (f ∷ fs) = f.at.0 ≡ p

-- each function has a parameter
abbrev pub HaveParameters : List Fun → Type 0
HaveParameters [] = Unit {0}
HaveParameters (f ∷ fs) = (1 ≤ length f.params.items) × HaveParameters fs

abbrev pub functions : Vec Fun Global × ℕ × Bor (List Piece) → List Part × ℕ × List Token
functions x = (functions_back x.0.items, x.1, rest x.2)

abbrev pub whole : Program × ℕ × Bor (List Piece) → Part × ℕ × List Token
whole x = (Whole (program_of x.0), x.1, rest x.2)
