-- The grammar.
use Rattle.std.specs.Prelude.{ℕ, ℤ, zero, suc, List, [], ◌∷◌, Option, Some, None, Bool, true, false, pos, nat_le, if◌then◌else◌}
use Rattle.parse_spec.specs.Rules.{Rule, Done, Take, Sub, Either, Many, Grammar}
use Rattle.raml_syntax.specs.Tree as t
use Rattle.raml_syntax.specs.Tree.{Text, Type', Integer, Boolean, PairOf, ListOf, TreeOf, OptionOf, Bound, Term, Terms, Parameter, Prog}
use Rattle.raml_syntax.specs.declared.tree.ArithOp.{ArithOp}
use Rattle.raml_syntax.specs.declared.tree.ArithOp.TheVariants as op
use Rattle.raml_syntax.specs.declared.tree.CompareOp.{CompareOp}
use Rattle.raml_syntax.specs.declared.tree.CompareOp.TheVariants as cmp
use Rattle.parse_table.specs.Tokens.{Sign, Token, Name, Number, Key, is_key}
use Rattle.parse_table.specs.declared.token.Sign.TheVariants as s

-- what the rules collect and give
pub data Part : Type 0 where
  At : ℕ → Part  -- the place of a token
  Named : ℕ → Text → Part  -- a name, its place first
  Counted : ℕ → Part  -- a number
  Typing : Type' → Part
  Phrase : Term → Part
  Header : Parameter → Part
  Headed : Text → List Parameter → Type' → Term → Part  -- a function without its place
  Whole : Prog → Part
  Nothing : Part  -- what no text gives

pub data Class : Type 0 where
  Types : Class
  Exprs : Class

-- Levels of types: 0 what needs no parentheses, 1 with `list`, `tree` and `option` behind it, 2 with `*`.
abbrev pub type_level : ℕ
type_level = 2

-- Levels of expressions: 0 what needs no parentheses, 1 products, 2 sums, 3 `::`, 4 comparisons, and all that begins
-- with `let`, `if`, `match` or `tick`.
abbrev pub expr_level : ℕ
expr_level = 4

abbrev pub Rules : Type 0
Rules = Rule Token Part Class

abbrev pub Test : Type 0
Test = Token → Option (List Part)

-- the place of the token
abbrev pub mark : Token → Part
mark (Name p x) = At p
mark (Number p n) = At p
mark (Key p k) = At p

-- this keyword or symbol
abbrev pub key : Sign → Test
key k t = if is_key k t then Some [] else None

-- the same, and its place
abbrev pub place : Sign → Test
place k t = if is_key k t then Some (mark t ∷ []) else None

abbrev pub name : Test
name (Name p x) = Some (Named p x ∷ [])
name _ = None

-- a number up to a limit
abbrev pub number_to : ℕ → Test
number_to k (Number p n) = if nat_le n k then Some (Counted n ∷ []) else None
number_to k _ = None

-- a type, an expression, a name, this keyword or symbol, and then the rule
abbrev pub type : Rules → Rules
type r = Sub Types type_level r

abbrev pub expr : Rules → Rules
expr r = Sub Exprs expr_level r

abbrev pub named : Rules → Rules
named r = Take name r

abbrev pub sign : Sign → Rules → Rules
sign k r = Take (key k) r

-- TYPES

abbrev pub int_act : List Part → Part
int_act ps = Typing Integer

abbrev pub bool_act : List Part → Part
bool_act ps = Typing Boolean

abbrev pub inner_type_act : List Part → Part
inner_type_act (Typing A ∷ ps) = Typing A
inner_type_act _ = Nothing

abbrev pub list_act : List Part → Part
list_act (Typing A ∷ ps) = Typing (ListOf A)
list_act _ = Nothing

abbrev pub tree_act : List Part → Part
tree_act (Typing A ∷ ps) = Typing (TreeOf A)
tree_act _ = Nothing

abbrev pub option_act : List Part → Part
option_act (Typing A ∷ ps) = Typing (OptionOf A)
option_act _ = Nothing

abbrev pub pair_type_act : List Part → Part
pair_type_act (Typing B ∷ Typing A ∷ ps) = Typing (PairOf A B)
pair_type_act _ = Nothing

-- type ), behind (
abbrev pub inner_type_rule : Rules
inner_type_rule = type (sign s.Close (Done inner_type_act))

abbrev pub type_starts : Token → Option (ℕ × Rules)
type_starts (Key p s.Int) = Some (0, Done int_act)
type_starts (Key p s.Bool) = Some (0, Done bool_act)
type_starts (Key p s.Open) = Some (0, inner_type_rule)
type_starts _ = None

-- the second type of type * type
abbrev pub second_rule : Rules
second_rule = type (Done pair_type_act)

-- type list, type tree, type option, type * type
abbrev pub type_goes : Token → Option (ℕ × Rules)
type_goes (Key p s.List) = Some (0, Done list_act)
type_goes (Key p s.Tree) = Some (0, Done tree_act)
type_goes (Key p s.Option) = Some (0, Done option_act)
type_goes (Key p s.Star) = Some (1, second_rule)
type_goes _ = None

-- EXPRESSIONS

abbrev bound : ℕ → Text → Bound
bound q x = record { at = q; name = x }

abbrev pub number_act : ℤ → List Part → Part
number_act n (At p ∷ ps) = Phrase (t.Number p n)
number_act n _ = Nothing

abbrev pub truth_act : Bool → List Part → Part
truth_act b (At p ∷ ps) = Phrase (t.Truth p b)
truth_act b _ = Nothing

abbrev pub nil_act : List Part → Part
nil_act (At p ∷ ps) = Phrase (t.Nil p)
nil_act _ = Nothing

abbrev pub leaf_act : List Part → Part
leaf_act (At p ∷ ps) = Phrase (t.Leaf p)
leaf_act _ = Nothing

abbrev pub none_act : List Part → Part
none_act (At p ∷ ps) = Phrase (t.Nothing p)
none_act _ = Nothing

abbrev pub var_act : Text → List Part → Part
var_act x (At p ∷ ps) = Phrase (t.Var p x)
var_act x _ = Nothing

-- an argument, and the expressions before it, the last one first
abbrev pub call_of_parts : Text → Terms → List Part → Part
call_of_parts f args (Phrase e ∷ ps) = call_of_parts f (t.More e args) ps
call_of_parts f args (At p ∷ ps) = Phrase (t.Call p f args)
call_of_parts f args _ = Nothing

abbrev pub call_act : Text → List Part → Part
call_act f ps = call_of_parts f t.None ps

abbrev pub node_act : List Part → Part
node_act (Phrase c ∷ Phrase b ∷ Phrase a ∷ At p ∷ ps) = Phrase (t.Node p a b c)
node_act _ = Nothing

abbrev pub some_act : List Part → Part
some_act (Phrase e ∷ At p ∷ ps) = Phrase (t.Just p e)
some_act _ = Nothing

abbrev pub not_act : List Part → Part
not_act (Phrase e ∷ At p ∷ ps) = Phrase (t.Not p e)
not_act _ = Nothing

abbrev pub inner_act : List Part → Part
inner_act (Phrase e ∷ ps) = Phrase e
inner_act _ = Nothing

abbrev pub pair_act : List Part → Part
pair_act (Phrase b ∷ Phrase a ∷ At p ∷ ps) = Phrase (t.Pair p a b)
pair_act _ = Nothing

abbrev pub typed_act : List Part → Part
typed_act (Typing A ∷ Phrase e ∷ At p ∷ ps) = Phrase (t.Typed p e A)
typed_act _ = Nothing

abbrev pub let_act : List Part → Part
let_act (Phrase b ∷ Phrase a ∷ Named q x ∷ At p ∷ ps) = Phrase (t.Let p (bound q x) a b)
let_act _ = Nothing

abbrev pub let_pair_act : List Part → Part
let_pair_act (Phrase b ∷ Phrase a ∷ Named r y ∷ Named q x ∷ At p ∷ ps) = Phrase (t.LetPair p (bound q x) (bound r y) a b)
let_pair_act _ = Nothing

abbrev pub if_act : List Part → Part
if_act (Phrase b ∷ Phrase a ∷ Phrase c ∷ At p ∷ ps) = Phrase (t.If p c a b)
if_act _ = Nothing

abbrev pub match_list_act : List Part → Part
match_list_act (Phrase b ∷ Named r y ∷ Named q x ∷ Phrase a ∷ Phrase e ∷ At p ∷ ps) = Phrase (t.MatchList p e a (bound q x) (bound r y) b)
match_list_act _ = Nothing

abbrev pub match_tree_act : List Part → Part
match_tree_act (Phrase b ∷ Named u z ∷ Named r y ∷ Named q x ∷ Phrase a ∷ Phrase e ∷ At p ∷ ps) =
    Phrase (t.MatchTree p e a (bound q x) (bound r y) (bound u z) b)
match_tree_act _ = Nothing

abbrev pub match_option_act : List Part → Part
match_option_act (Phrase b ∷ Named q x ∷ Phrase a ∷ Phrase e ∷ At p ∷ ps) = Phrase (t.MatchOption p e a (bound q x) b)
match_option_act _ = Nothing

abbrev pub tick_act : List Part → Part
tick_act (Phrase e ∷ Counted n ∷ At p ∷ ps) = Phrase (t.Tick p n e)
tick_act _ = Nothing

abbrev pub arith_act : ArithOp → List Part → Part
arith_act o (Phrase b ∷ Phrase a ∷ At p ∷ ps) = Phrase (t.Arith p o a b)
arith_act o _ = Nothing

abbrev pub compare_act : CompareOp → List Part → Part
compare_act o (Phrase b ∷ Phrase a ∷ At p ∷ ps) = Phrase (t.Compare p o a b)
compare_act o _ = Nothing

abbrev pub cons_act : List Part → Part
cons_act (Phrase b ∷ Phrase a ∷ At p ∷ ps) = Phrase (t.Cons p a b)
cons_act _ = Nothing

-- expr , .. , expr ) with at most 8 arguments of f
abbrev pub args_rule : Text → Rules
args_rule f = Many 7 (key s.Comma) (expr (Done inner_act)) (sign s.Close (Done (call_act f)))

-- ( the arguments, or nothing, behind the name f
abbrev pub name_rule : Text → Rules
name_rule f = Either (key s.Open) (args_rule f) (Done (var_act f))

-- expr , expr ) behind a node's element
abbrev pub trees_rule : Rules
trees_rule = expr (sign s.Comma (expr (sign s.Close (Done node_act))))

-- ( expr , expr , expr ) behind node
abbrev pub node_rule : Rules
node_rule = sign s.Open (expr (sign s.Comma trees_rule))

-- ( expr ) behind some
abbrev pub some_rule : Rules
some_rule = sign s.Open (expr (sign s.Close (Done some_act)))

-- what needs no parentheses, behind not
abbrev pub not_rule : Rules
not_rule = Sub Exprs 0 (Done not_act)

-- expr ) behind the comma of a pair
abbrev pub pair_rule : Rules
pair_rule = expr (sign s.Close (Done pair_act))

-- type ) behind the colon of an expression with its type
abbrev pub typed_rule : Rules
typed_rule = type (sign s.Close (Done typed_act))

-- ) behind an expression
abbrev pub inner_rule : Rules
inner_rule = sign s.Close (Done inner_act)

-- , expr ) or : type ) or )
abbrev pub closing_rule : Rules
closing_rule = Either (key s.Comma) pair_rule (Either (key s.Colon) typed_rule inner_rule)

-- expr and one of these, behind (
abbrev pub parens_rule : Rules
parens_rule = expr closing_rule

-- ) = expr in expr behind the two names of a let
abbrev pub let_pair_rule : Rules
let_pair_rule = sign s.Close (sign s.Equal (expr (sign s.In (expr (Done let_pair_act)))))

-- name , name and the rest, behind let (
abbrev pub let_names_rule : Rules
let_names_rule = named (sign s.Comma (named let_pair_rule))

-- name = expr in expr, behind let
abbrev pub let_one_rule : Rules
let_one_rule = named (sign s.Equal (expr (sign s.In (expr (Done let_act)))))

-- ( and two names, or one name, behind let
abbrev pub let_rule : Rules
let_rule = Either (key s.Open) let_names_rule let_one_rule

-- expr else expr, behind then
abbrev pub branches_rule : Rules
branches_rule = expr (sign s.Else (expr (Done if_act)))

-- expr then the branches, behind if
abbrev pub if_rule : Rules
if_rule = expr (sign s.Then branches_rule)

-- | name :: name -> expr
abbrev pub list_case_rule : Rules
list_case_rule = sign s.Bar (named (sign s.Cons (named (sign s.Arrow (expr (Done match_list_act))))))

-- name , name ) -> expr behind a pattern's first name
abbrev pub tree_names_rule : Rules
tree_names_rule = named (sign s.Comma (named (sign s.Close (sign s.Arrow (expr (Done match_tree_act))))))

-- | node ( name , name , name ) -> expr
abbrev pub tree_case_rule : Rules
tree_case_rule = sign s.Bar (sign s.Node (sign s.Open (named (sign s.Comma tree_names_rule))))

-- | some ( name ) -> expr
abbrev pub option_case_rule : Rules
option_case_rule = sign s.Bar (sign s.Just (sign s.Open (named (sign s.Close (sign s.Arrow (expr (Done match_option_act)))))))

-- -> expr and the other case of a list, behind nil
abbrev pub list_cases_rule : Rules
list_cases_rule = sign s.Arrow (expr list_case_rule)

-- -> expr and the other case of an option, behind none
abbrev pub option_cases_rule : Rules
option_cases_rule = sign s.Arrow (expr option_case_rule)

-- leaf -> expr and the other case of a tree
abbrev pub tree_cases_rule : Rules
tree_cases_rule = sign s.Leaf (sign s.Arrow (expr tree_case_rule))

-- nil and the cases of a list, none and those of an option, or those of a tree
abbrev pub cases_rule : Rules
cases_rule = Either (key s.Nil) list_cases_rule (Either (key s.Nothing) option_cases_rule tree_cases_rule)

-- expr with and the cases, behind match
abbrev pub match_rule : Rules
match_rule = expr (sign s.With cases_rule)

-- number in expr, behind tick
abbrev pub tick_rule : Rules
tick_rule = Take (number_to 1000000) (sign s.In (expr (Done tick_act)))

abbrev pub expr_starts : Token → Option (ℕ × Rules)
expr_starts (Name p x) = Some (0, name_rule x)
expr_starts (Number p n) = if nat_le n 9223372036854775807 then Some (0, Done (number_act (pos n))) else None
expr_starts (Key p s.True) = Some (0, Done (truth_act true))
expr_starts (Key p s.False) = Some (0, Done (truth_act false))
expr_starts (Key p s.Nil) = Some (0, Done nil_act)
expr_starts (Key p s.Leaf) = Some (0, Done leaf_act)
expr_starts (Key p s.Nothing) = Some (0, Done none_act)
expr_starts (Key p s.Node) = Some (0, node_rule)
expr_starts (Key p s.Just) = Some (0, some_rule)
expr_starts (Key p s.Not) = Some (0, not_rule)
expr_starts (Key p s.Open) = Some (0, parens_rule)
expr_starts (Key p s.Let) = Some (4, let_rule)
expr_starts (Key p s.If) = Some (4, if_rule)
expr_starts (Key p s.Match) = Some (4, match_rule)
expr_starts (Key p s.Tick) = Some (4, tick_rule)
expr_starts _ = None

-- an operator and its right operand
abbrev pub arith_rule : ℕ → ArithOp → ℕ × Rules
arith_rule n o = (n, Sub Exprs n (Done (arith_act o)))

abbrev pub compare_rule : CompareOp → ℕ × Rules
compare_rule o = (3, Sub Exprs 3 (Done (compare_act o)))

abbrev pub expr_goes : Token → Option (ℕ × Rules)
expr_goes (Key p s.Star) = Some (arith_rule 0 op.Mul)
expr_goes (Key p s.Div) = Some (arith_rule 0 op.Div)
expr_goes (Key p s.Mod) = Some (arith_rule 0 op.Mod)
expr_goes (Key p s.Plus) = Some (arith_rule 1 op.Add)
expr_goes (Key p s.Minus) = Some (arith_rule 1 op.Sub)
expr_goes (Key p s.Cons) = Some (2, Sub Exprs 3 (Done cons_act))
expr_goes (Key p s.Equal) = Some (compare_rule cmp.Equal)
expr_goes (Key p s.Less) = Some (compare_rule cmp.Less)
expr_goes (Key p s.AtMost) = Some (compare_rule cmp.AtMost)
expr_goes _ = None

-- FUNCTIONS

abbrev pub param_act : List Part → Part
param_act (Typing A ∷ Named p x ∷ ps) = Header (record { at = p; name = x; type = A })
param_act _ = Nothing

-- the function with these parameters, after those that still come, the last one first
abbrev pub function_of_parts : Type' → Term → List Parameter → List Part → Part
function_of_parts A e params (Header q ∷ ps) = function_of_parts A e (q ∷ params) ps
function_of_parts A e params (Named q f ∷ ps) = Headed f params A e
function_of_parts A e params _ = Nothing

abbrev pub function_act : List Part → Part
function_act (Phrase e ∷ Typing A ∷ ps) = function_of_parts A e [] ps
function_act _ = Nothing

-- the functions before these, each behind its `fun`, the last one first
abbrev pub program_of_parts : Prog → List Part → Part
program_of_parts P (Headed f params A e ∷ At p ∷ ps) =
    program_of_parts (record { at = p; name = f; params = params; result = A; body = e } ∷ P) ps
program_of_parts P [] = Whole P
program_of_parts P _ = Nothing

abbrev pub program_act : List Part → Part
program_act ps = program_of_parts [] ps

-- name : type
abbrev pub param_rule : Rules
param_rule = named (sign s.Colon (type (Done param_act)))

-- ) : type = expr
abbrev pub body_rule : Rules
body_rule = sign s.Close (sign s.Colon (type (sign s.Equal (expr (Done function_act)))))

-- name : type , .. , name : type ) : type = expr, with at most 8 parameters
abbrev pub params_rule : Rules
params_rule = Many 7 (key s.Comma) param_rule body_rule

-- name ( the rest
abbrev pub function_rule : Rules
function_rule = named (sign s.Open params_rule)

-- at most 256 functions, each behind its `fun`, the first `fun` taken
abbrev pub functions_rule : Rules
functions_rule = Many 255 (place s.Fun) function_rule (Done program_act)

abbrev pub text_rule : Rules
text_rule = Take (place s.Fun) functions_rule

-- THE WHOLE

abbrev pub starts : Class → Token → Option (ℕ × Rules)
starts Types t = type_starts t
starts Exprs t = expr_starts t

abbrev pub goes : Class → Token → Option (ℕ × Rules)
goes Types t = type_goes t
goes Exprs t = expr_goes t

-- `list`, `tree`, `option` and the arithmetic operators chain to the left
abbrev pub chains : Class → ℕ → Bool
chains Types zero = true
chains Exprs zero = true
chains Exprs (suc zero) = true
chains c n = false

abbrev pub table : Grammar Token Part Class
table = record { text = text_rule; mark = mark; starts = starts; goes = goes; chains = chains }

-- The table by a name that stays shut, so that a contract that names it stays short.
unfoldable pub grammar : Grammar Token Part Class
grammar = table
