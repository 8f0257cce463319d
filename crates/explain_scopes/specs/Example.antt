-- A small program, worked out by hand.
use Rattle.std.specs.Prelude.{◌≡◌, ℕ, List, [], ◌∷◌, Some, None, codes, true, false}
use Rattle.raml_syntax.specs.Tree as t
use Rattle.raml_syntax.specs.Tree.{Text, Bound, Function, Integer}
use Rattle.parse_table.specs.Tokens.{Token, Name, Key}
use Rattle.parse_table.specs.declared.token.Sign.TheVariants as s
use Rattle.explain_scopes.specs.declared.occurrence.Kind.TheVariants as k
use Rattle.explain_scopes.specs.Scopes.{Occurrence, Kind, occurrences}
use Rattle.explain_scopes.specs.Sources.{function_places}
use Rattle.explain_scopes.specs.Levels.{leveled}
use Rattle.explain_scopes.specs.Named.{Named, named, part}
use Rattle.explain_scopes.specs.Renaming.{Parts, in_use, is_one_name, parts_of}
use Rattle.explain_scopes.specs.Outline.{symbols}
use Rattle.raml_lex.specs.declared.token.Token as l
use Rattle.raml_lex.specs.declared.token.TokenKind.{TokenKind}
use Rattle.raml_lex.specs.declared.token.TokenKind.TheVariants.{Keyword, Name as Word, Symbol as Mark}

abbrev f : Text
f = codes "f"

abbrev x : Text
x = codes "x"

abbrev bound : ℕ → Text → Bound
bound at name = record { at = at; name = name }

-- `fun f (x : int) : int = let x = f(x) in x`
abbrev tokens : List Token
tokens =
    Key 0 s.Fun ∷ Name 4 f ∷ Key 6 s.Open ∷ Name 7 x ∷ Key 9 s.Colon ∷ Key 11 s.Int ∷ Key 14 s.Close ∷ Key 16 s.Colon ∷ Key 18 s.Int
    ∷ Key 22 s.Equal ∷ Key 24 s.Let ∷ Name 28 x ∷ Key 30 s.Equal ∷ Name 32 f ∷ Key 33 s.Open ∷ Name 34 x ∷ Key 35 s.Close
    ∷ Key 37 s.In ∷ Name 40 x ∷ []

abbrev body : t.Term
body = t.Let 24 (bound 28 x) (t.Call 32 f (t.More (t.Var 34 x) t.None)) (t.Var 40 x)

abbrev function : Function
function = record { at = 0; name = f; params = record { at = 7; name = x; type = Integer } ∷ []; result = Integer; body = body }

abbrev name : ℕ → Text → Kind → ℕ → Occurrence
name at text kind binding = record { at = at; name = text; kind = kind; binding = Some binding }

abbrev names : List Occurrence
names =
    name 4 f k.Function 4 ∷ name 7 x k.Variable 7 ∷ name 28 x k.Variable 28 ∷ name 32 f k.Function 4 ∷ name 34 x k.Variable 7
    ∷ name 40 x k.Variable 28 ∷ []

-- what the parameter names
abbrev of_parameter : Named
of_parameter = record { binding = part 7 1; uses = part 34 1 ∷ [] }

-- a piece of this kind, from one byte on and before another
abbrev piece : TokenKind → ℕ → ℕ → l.Token
piece kind from to = record { at = record { 0 = from }; end = record { 0 = to }; kind = kind }

-- `fun f ( fun g`
abbrev heads : List l.Token
heads = piece Keyword 0 3 ∷ piece Word 4 5 ∷ piece Mark 6 7 ∷ piece Keyword 8 11 ∷ piece Word 12 13 ∷ []

pub record Examples : Type 0 where
  pub places : function_places tokens ≡ 4 ∷ []
  pub all : occurrences (4 ∷ []) (function ∷ []) ≡ names
  -- just behind the parameter; in the call it is the parameter still
  pub behind : named 8 names ≡ Some (record { binding = part 7 1; uses = part 34 1 ∷ [] })
  -- the variable that hides it
  pub hidden : named 40 names ≡ Some (record { binding = part 28 1; uses = part 40 1 ∷ [] })
  pub called : named 4 names ≡ Some (record { binding = part 4 1; uses = part 32 1 ∷ [] })
  pub nothing : named 0 names ≡ None
  -- the parameter is the oldest variable, and the other one hides it in the last part
  pub levels : leveled (λ g. g) (bound 7 x ∷ []) body
      ≡ t.Let 0 (bound 0 (1 ∷ [])) (t.Call 0 f (t.More (t.Var 0 (0 ∷ [])) t.None)) (t.Var 0 (1 ∷ []))
  -- the parameter may not have the name of the other variable, and may have that of the function
  pub taken : in_use names (name 7 x k.Variable 7) x ≡ true
  pub free : in_use names (name 7 x k.Variable 7) f ≡ false
  pub called_so : in_use names (name 4 f k.Function 4) f ≡ true
  pub parts : parts_of of_parameter ≡ Parts (part 7 1 ∷ part 34 1 ∷ [])
  pub one_name : is_one_name (codes "f") (piece Word 0 1 ∷ []) ≡ true
  pub no_name : is_one_name (codes "f ") (piece Word 0 1 ∷ []) ≡ false
  -- a function ends before the next one, and one without a name behind it is none
  pub outline : symbols (codes "fun f ( fun g") heads
      ≡ record { name = codes "f"; whole = part 0 7; binding = part 4 1 } ∷ record { name = codes "g"; whole = part 8 5; binding = part 12 1 } ∷ []
  pub nameless : symbols (codes "fun (") (piece Keyword 0 3 ∷ piece Mark 4 5 ∷ []) ≡ []
