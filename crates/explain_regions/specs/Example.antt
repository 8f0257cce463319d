-- A small program, worked out by hand.
use Rattle.std.specs.Prelude.{◌≡◌, ℕ, [], ◌∷◌, ◌++◌, List, codes}
use Rattle.raml_syntax.specs.Tree as t
use Rattle.raml_syntax.specs.Tree.{Text, Bound}
use Rattle.parse_table.specs.Tokens.{Token, Name, Number, Key}
use Rattle.parse_table.specs.declared.token.Sign.TheVariants as s
use Rattle.explain_edits.specs.Edits.{with_edits}
use Rattle.explain_regions.specs.Regions.{site, body_sites}
use Rattle.explain_regions.specs.Lines.{Line, lines}
use Rattle.explain_regions.specs.Counter.{edits}

abbrev h : Text
h = codes "h"

abbrev r : Text
r = codes "r"

abbrev bound : Text → Bound
bound y = record { at = 0; name = y }

-- the function begins at 0, its body at 36, its branches at 60 and at 78
abbrev source : Text
source =
    codes "fun f (x : int list) : int list =\n" ++ (codes "  match x with\n"
    ++ (codes "    nil -> nil\n" ++ codes "  | h :: r -> tick 2 in h :: r\n"))

abbrev body : t.Term
body =
    t.MatchList 36 (t.Var 42 (codes "x")) (t.Nil 60) (bound h) (bound r)
    (t.Tick 78 2 (t.Cons 88 (t.Var 88 h) (t.Var 93 r)))

-- from the arrow of the first branch on
abbrev last_tokens : List Token
last_tokens =
    Key 57 s.Arrow ∷ Key 60 s.Nil ∷ Key 66 s.Bar ∷ Name 68 h ∷ Key 70 s.Cons ∷ Name 73 r ∷ Key 75 s.Arrow ∷ Key 78 s.Tick
    ∷ Number 83 2 ∷ Key 85 s.In ∷ Name 88 h ∷ Key 90 s.Cons ∷ Name 93 r ∷ []

abbrev line : ℕ → ℕ → ℕ → ℕ → ℕ → Line
line at region ticks cells work = record { at = at; region = region; ticks = ticks; cells = cells; work = work }

pub record Examples : Type 0 where
  pub sites : body_sites body
      ≡ site 36 36 0 0 ∷ site 42 36 0 0 ∷ site 60 60 0 0 ∷ site 78 78 2 0 ∷ site 88 78 0 1 ∷ site 88 78 0 0 ∷ site 93 78 0 0 ∷ []
  pub on_lines : lines source body ≡ line 36 36 0 0 2 ∷ line 60 60 0 0 1 ∷ line 78 78 2 1 4 ∷ []
  -- the end of the list is counted
  pub counted : with_edits source (edits 60 last_tokens)
      ≡ codes "fun f (x : int list) : int list =\n" ++ (codes "  match x with\n"
      ++ (codes "    nil ->  tick 1 in nil\n" ++ codes "  | h :: r ->   h :: r\n"))
  -- the other branch is counted
  pub other : with_edits source (edits 78 last_tokens)
      ≡ codes "fun f (x : int list) : int list =\n" ++ (codes "  match x with\n"
      ++ (codes "    nil -> nil\n" ++ codes "  | h :: r ->  tick 1 in   h :: r\n"))
