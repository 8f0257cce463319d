-- What is inserted in a source so that each round of a group of functions takes an entry of a list.
use Rattle.std.specs.Prelude.{ℕ, ◌+◌, List, [], ◌∷◌, ◌++◌, Bool, false, cond, Option, Some, None, slice_get, nat_eq, ◌||◌, codes}
use Rattle.std.specs.Option.{option_map}
use Rattle.raml_syntax.specs.Tree.{Text, Type', Integer, Boolean, PairOf, ListOf, TreeOf, OptionOf, Function, Prog}
use Rattle.raml_syntax.specs.Place.{place_of}
use Rattle.raml_parse.specs.Spelling as p
use Rattle.parse_table.specs.Tokens.{Token, Name, is_key}
use Rattle.parse_table.specs.declared.token.Sign.TheVariants as s
use Rattle.explain_edits.specs.Edits.{Edit}
use Rattle.explain_supply.specs.Names.{Names}

-- what is inserted
pub data Insertion : Type 0 where
  Parameter : Insertion  -- the list, as the first parameter of a function of the group
  Match : Type' → Insertion  -- in front of its body, which gives a value of this type: a match that takes an entry
  Rest : Insertion  -- as the first argument of a call inside of the group: what is left of the list
  Empty : Insertion  -- as that of a call from outside: an empty list

-- a value of the type
abbrev pub value : Type' → Text
value Integer = codes "0"
value Boolean = codes "false"
value (PairOf A B) = codes "(" ++ (value A ++ (codes ", " ++ (value B ++ codes ")")))
value (ListOf A) = codes "nil"
value (TreeOf A) = codes "leaf"
value (OptionOf A) = codes "none"

-- a match that takes an entry of the list, up to its last arrow; it gives a value where the list is empty
abbrev pub match_on : Text → Text → Text → Text
match_on rounds round value =
    codes " match " ++ (rounds ++ (codes " with nil -> " ++ (value ++ (codes " | " ++ (round ++ (codes " :: "
    ++ (rounds ++ codes " ->")))))))

abbrev pub text : Names → Insertion → Text
text names Parameter = names.rounds ++ codes " : bool list, "
text names (Match A) = match_on names.rounds names.round (value A)
text names Rest = names.rounds ++ codes ", "
text names Empty = codes "nil, "

-- where a token stands, by the tokens before it
pub data Place : Type 0 where
  Outside : Place  -- behind no function's name
  Named : Text → Place  -- behind that of a function
  Header : Text → Place  -- behind the parenthesis after it, and up to its `=`
  Body : Text → Place  -- in its body
  Behind : Text → Text → Place  -- in its body, right behind a name

abbrev pub named : Token → Place
named (Name p f) = Named f
named _ = Outside

abbrev pub in_body : Text → Token → Place
in_body f (Name p g) = Behind f g
in_body f _ = Body f

-- where the next token stands
abbrev pub moved : Place → Token → Place
moved Outside t = named t
moved (Named f) t = Header f
moved (Header f) t = cond (is_key s.Equal t) (Body f) (Header f)
moved (Body f) t = in_body f t
moved (Behind f g) t = in_body f t

abbrev pub next : Place → Token → Place
next place t = cond (is_key s.Fun t) Outside (moved place t)

abbrev pub is_among : ℕ → List ℕ → Bool
is_among f [] = false
is_among f (g ∷ group) = nat_eq f g || is_among f group

abbrev pub if_among : Prog → List ℕ → Option ℕ → Option Function
if_among P group None = None
if_among P group (Some f) = cond (is_among f group) (slice_get P f) None

-- the function of the group that has this name
abbrev pub member : Prog → List ℕ → Text → Option Function
member P group f = if_among P group (place_of f P)

-- this, where there is such a function
abbrev pub if_member : {A : Type 0} → Option Function → A → Option A
if_member None a = None
if_member (Some g) a = Some a

-- what a caller hands on: it has a list where it is a function of the group
abbrev pub handed : Option Function → Insertion
handed None = Empty
handed (Some g) = Rest

-- what is inserted right behind an opening parenthesis
abbrev pub at_open : Prog → List ℕ → Place → Option Insertion
at_open P group (Named f) = if_member (member P group f) Parameter
at_open P group (Behind f g) = if_member (member P group g) (handed (member P group f))
at_open P group _ = None

-- and right behind a `=`
abbrev pub at_equal : Prog → List ℕ → Place → Option Insertion
at_equal P group (Header f) = option_map (λ (g : Function). Match g.result) (member P group f)
at_equal P group _ = None

-- and right behind any token
abbrev pub inserted : Prog → List ℕ → Place → Token → Option Insertion
inserted P group place t = cond (is_key s.Open t) (at_open P group place) (cond (is_key s.Equal t) (at_equal P group place) None)

abbrev pub edit_behind : Names → Token → Option Insertion → List Edit
edit_behind names t None = []
edit_behind names t (Some i) = record { at = p.place_of t + 1; length = 0; text = text names i } ∷ []

-- the edits behind these tokens, of which the first stands at this place
abbrev pub edits_from : Prog → List ℕ → Names → Place → List Token → List Edit
edits_from P group names place [] = []
edits_from P group names place (t ∷ ts) = edit_behind names t (inserted P group place t) ++ edits_from P group names (next place t) ts

-- those of a source with these tokens
abbrev pub edits : Prog → List ℕ → Names → List Token → List Edit
edits P group names tokens = edits_from P group names Outside tokens
