-- Phrases with the tokens before, between and behind them, as the code reads them.
use Rattle.std.specs.Prelude.{ℕ, suc, max, List, [], ◌∷◌, ◌++◌, Result, Ok, Err, nat_le, if◌then◌else◌}
use Rattle.std.specs.Borrow.{Bor}
use Rattle.std.specs.Global.{Box}
use Rattle.parse_spec.specs.declared.Kind.TheVariants.{TooDeep}
use Rattle.parse_spec.specs.Reading.{Fault, Answer, ◌>>=◌, taken, rest_of, take_of, pick, read}
use Rattle.raml_syntax.specs.declared.tree.Expr.{Expr}
use Rattle.parse_table.specs.declared.token.Piece.{Piece}
use Rattle.parse_table.specs.Tokens.{Token}
use Rattle.parse_table.specs.declared.token.Sign.{Sign}
use Rattle.parse_table.specs.declared.token.Sign.TheVariants as g
use Rattle.parse_table.specs.Table.{Part, At, Phrase, Exprs, expr_level, key, grammar, let_act, let_pair_act, if_act, node_act, some_act}
use Rattle.parse_table.specs.Table.{match_list_act, match_option_act, match_tree_act}
use Rattle.parse_table.specs.Fronts.{Front, name_then, pair_front, list_front, option_front, tree_front}
use Rattle.parse_table.specs.Read.{term_in, rest}

-- an expression of height d at most
abbrev pub part_of : ℕ → List Token → Answer Token Part
part_of d s = read grammar 0 d Exprs expr_level s

-- the same before this keyword or symbol, and behind it
abbrev pub part_before : ℕ → Sign → List Token → Answer Token Part
part_before d k s = part_of d s >>= (λ y. take_of (key k) y.2 >>= (λ u. Ok (y.0, y.1, u.1)))

abbrev pub part_behind : ℕ → Sign → List Token → Answer Token Part
part_behind d k s = take_of (key k) s >>= (λ u. part_of d u.1)

-- two expressions with this between them, the last one first
abbrev pub two_parts : ℕ → Sign → List Token → Result (List Part × ℕ × List Token) (Fault Token)
two_parts d k s = part_before d k s >>= (λ y. part_of d y.2 >>= (λ z. Ok (z.0 ∷ y.0 ∷ [], max y.1 z.1, z.2)))

abbrev pub both_boxed : Box Expr × Box Expr × ℕ × Bor (List Piece) → List Part × ℕ × List Token
both_boxed x = (Phrase (term_in x.1) ∷ Phrase (term_in x.0) ∷ [], x.2, rest x.3)

-- what stands behind the first token of each form, which stands at p

abbrev pub some_of : ℕ → ℕ → List Token → Answer Token Part
some_of d p s = take_of (key g.Open) s >>= (λ u. part_before d g.Close u.1 >>= (λ y. Ok (some_act (y.0 ∷ At p ∷ []), suc y.1, y.2)))

abbrev pub node_of : ℕ → ℕ → List Token → Answer Token Part
node_of d p s =
    take_of (key g.Open) s
    >>= (λ u. part_before d g.Comma u.1
    >>= (λ y. two_parts d g.Comma y.2
    >>= (λ z. take_of (key g.Close) z.2
    >>= (λ v. Ok (node_act (z.0 ++ (y.0 ∷ At p ∷ [])), suc (max y.1 z.1), v.1)))))

abbrev pub let_one_of : ℕ → ℕ → List Token → Answer Token Part
let_one_of d p s = name_then g.Equal s >>= (λ x. two_parts d g.In x.1 >>= (λ z. Ok (let_act (z.0 ++ (x.0 ++ (At p ∷ []))), suc z.1, z.2)))

abbrev pub let_pair_of : ℕ → ℕ → List Token → Answer Token Part
let_pair_of d p s = pair_front s >>= (λ x. two_parts d g.In x.1 >>= (λ z. Ok (let_pair_act (z.0 ++ (x.0 ++ (At p ∷ []))), suc z.1, z.2)))

abbrev pub let_of : ℕ → ℕ → List Token → Answer Token Part
let_of d p s = pick (taken (key g.Open) s) (λ ws. if nat_le 1 d then let_pair_of d p (rest_of s) else Err (TooDeep, s)) (let_one_of d p s)

abbrev pub if_of : ℕ → ℕ → List Token → Answer Token Part
if_of d p s =
    part_before d g.Then s >>= (λ y. two_parts d g.Else y.2 >>= (λ z. Ok (if_act (z.0 ++ (y.0 ∷ At p ∷ [])), suc (max y.1 z.1), z.2)))

-- An arrow and the first case, and then the other case of the subject e: its pattern, and its body.
abbrev pub cases_of : Front → (List Part → Part) → ℕ → Part → ℕ → List Token → Answer Token Part
cases_of front act d e p s =
    part_behind d g.Arrow s
    >>= (λ a. front a.2
    >>= (λ x. part_of d x.1
    >>= (λ b. Ok (act (b.0 ∷ (x.0 ++ (a.0 ∷ e ∷ At p ∷ []))), max a.1 b.1, b.2))))

abbrev pub list_cases_of : ℕ → Part → ℕ → List Token → Answer Token Part
list_cases_of = cases_of list_front match_list_act

abbrev pub option_cases_of : ℕ → Part → ℕ → List Token → Answer Token Part
option_cases_of = cases_of option_front match_option_act

abbrev pub tree_cases_of : ℕ → Part → ℕ → List Token → Answer Token Part
tree_cases_of = cases_of tree_front match_tree_act

abbrev pub any_cases_of : ℕ → Part → ℕ → List Token → Answer Token Part
any_cases_of d e p s =
    pick (taken (key g.Nil) s) (λ ws. if nat_le 1 d then list_cases_of d e p (rest_of s) else Err (TooDeep, s)) (
    pick (taken (key g.Nothing) s) (λ ws. if nat_le 1 d then option_cases_of d e p (rest_of s) else Err (TooDeep, s)) (
    take_of (key g.Leaf) s >>= (λ u. tree_cases_of d e p u.1)))

abbrev pub match_of : ℕ → ℕ → List Token → Answer Token Part
match_of d p s = part_before d g.With s >>= (λ y. any_cases_of d y.0 p y.2 >>= (λ z. Ok (z.0, suc (max y.1 z.1), z.2)))
