-- The forms of expressions are read in the steps in which the code reads them.
use Rattle.std.proofs.Common.{◌≡◌, ◌∙◌, ℕ, suc, List, [], ◌∷◌, ◌++◌, refl, sym, ap, subst, arith}
use Rattle.std.specs.Prelude.{max, Bool, true, false, Result, Ok, Err, nat_le, if◌then◌else◌}
use Rattle.std.specs.Borrow.{Bor}
use Rattle.parse_spec.specs.Rules.{Done}
use Rattle.parse_spec.specs.declared.Kind.TheVariants.{TooDeep}
use Rattle.parse_spec.specs.Reading.{Fault, Answer, ◌>>=◌, pick, taken, rest_of, take_of, higher, formed}
use Rattle.raml_syntax.specs.declared.tree.Expr.{Expr}
use Rattle.parse_table.specs.declared.token.Piece.{Piece}
use Rattle.parse_table.specs.declared.stop.Stop.{Stop}
use Rattle.parse_table.specs.Tokens.{Token}
use Rattle.parse_table.specs.declared.token.Sign.{Sign}
use Rattle.parse_table.specs.declared.token.Sign.TheVariants as g
use Rattle.parse_table.specs.Table.{Part, At, Rules, key, expr, named, sign, some_act, some_rule, node_act, node_rule, trees_rule, let_act, let_pair_act, let_names_rule, let_one_rule, let_rule, if_act, if_rule, branches_rule, match_list_act, match_option_act, match_tree_act, list_cases_rule, option_cases_rule, tree_cases_rule, tree_case_rule, cases_rule, match_rule}
use Rattle.parse_table.specs.Steps.{reads}
use Rattle.parse_table.specs.Read.{Gives, phrase}
use Rattle.parse_table.specs.Fronts.{Taken, Front, name_then, pair_front, list_front, option_front, tree_front}
use Rattle.parse_table.proofs.FrontSteps.{on, on_key, on_taken, Begins, name_begins, pair_begins, list_begins, option_begins, tree_begins}
use Rattle.parse_exprs.specs.Phrases.{part_of, part_before, two_parts, some_of, node_of, let_one_of, let_pair_of, let_of, if_of, cases_of, list_cases_of, option_cases_of, tree_cases_of, any_cases_of, match_of}

-- what is given by a definition that is equal
pub given : (r : Result (Expr × ℕ × Bor (List Piece)) Stop) {o q : Answer Token Part} → o ≡ q → Gives phrase r q → Gives phrase r o
given r e w = subst (λ o. Gives phrase r o) (sym e) w

higher_twice : (h i : ℕ) (o : Answer Token Part) → higher h (higher i o) ≡ higher (max h i) o
higher_twice h i (Err e) = refl
higher_twice h i (Ok x) = let p : max h (max i x.1) ≡ max (max h i) x.1 = omega arith in ap (λ n. Ok (x.0, n, x.2)) p

-- heights of a form and its parts
one_high : (h : ℕ) → suc (max h 0) ≡ suc h
one_high h = omega arith

two_high : (h i : ℕ) → suc (max h (max i 0)) ≡ suc (max h i)
two_high h i = omega arith

no_higher : (h i : ℕ) → max h (max i 0) ≡ max h i
no_higher h i = omega arith

-- a form that needs height 1
deep : (b : Bool) (o q : Answer Token Part) (e : Fault Token) → formed o ≡ q → formed (if b then o else Err e) ≡ (if b then q else Err e)
deep true o q e p = p
deep false o q e p = refl

abbrev Pairs : Type 0
Pairs = Result (List Part × ℕ × List Token) (Fault Token)

-- a phrase, with the tokens behind what was taken
abbrev behind : Part × ℕ × List Token → List Part × List Token → Answer Token Part
behind y u = Ok (y.0, y.1, u.1)

module _ (d : ℕ) where
  abbrev beside : Part × ℕ × List Token → Part × ℕ × List Token → Pairs
  beside y z = Ok (z.0 ∷ y.0 ∷ [], max y.1 z.1, z.2)

  before_is : (k : Sign) (r : Rules) (vs : List Part) (s : List Token) → reads d (expr (sign k r)) vs s ≡ (part_before d k s >>= (λ y. higher y.1 (reads d r (y.0 ∷ vs) y.2)))
  before_is k r vs s =
      on (λ (o : Answer Token Part). (o >>= (λ y. higher y.1 (take_of (key k) y.2 >>= (λ u. reads d r (u.0 ++ (y.0 ∷ vs)) u.1)))) ≡ ((o >>= (λ y. take_of (key k) y.2 >>= (λ u. behind y u))) >>= (λ y. higher y.1 (reads d r (y.0 ∷ vs) y.2)))) (λ e. refl)
      (λ y. on_key k y.2 (λ (o : Taken). higher y.1 (o >>= (λ u. reads d r (u.0 ++ (y.0 ∷ vs)) u.1)) ≡ ((o >>= (λ u. behind y u)) >>= (λ y. higher y.1 (reads d r (y.0 ∷ vs) y.2)))) refl refl) (part_of d s)

  two_is : (k : Sign) (r : Rules) (vs : List Part) (s : List Token) → reads d (expr (sign k (expr r))) vs s ≡ (two_parts d k s >>= (λ z. higher z.1 (reads d r (z.0 ++ vs) z.2)))
  two_is k r vs s =
      before_is k (expr r) vs s
      ∙ on (λ (o : Answer Token Part). (o >>= (λ y. higher y.1 (part_of d y.2 >>= (λ z. higher z.1 (reads d r (z.0 ∷ y.0 ∷ vs) z.2))))) ≡ ((o >>= (λ y. part_of d y.2 >>= (λ z. beside y z))) >>= (λ z. higher z.1 (reads d r (z.0 ++ vs) z.2)))) (λ e. refl)
      (λ y. on (λ (o : Answer Token Part). higher y.1 (o >>= (λ z. higher z.1 (reads d r (z.0 ∷ y.0 ∷ vs) z.2))) ≡ ((o >>= (λ z. beside y z)) >>= (λ z. higher z.1 (reads d r (z.0 ++ vs) z.2)))) (λ e. refl)
      (λ z. higher_twice y.1 z.1 (reads d r (z.0 ∷ y.0 ∷ vs) z.2)) (part_of d y.2)) (part_before d k s)

  -- two expressions behind a front
  front_two : (m : Front) (q : Rules → Rules) → Begins m q → (k : Sign) (act : List Part → Part) (vs : List Part) (s : List Token) → formed (reads d (q (expr (sign k (expr (Done act))))) vs s) ≡ (m s >>= (λ x. two_parts d k x.1 >>= (λ z. Ok (act (z.0 ++ (x.0 ++ vs)), suc z.1, z.2))))
  front_two m q b k act vs s =
      ap (λ o. formed o) (b d (expr (sign k (expr (Done act)))) vs s)
      ∙ on (λ (o : Taken). formed (o >>= (λ x. reads d (expr (sign k (expr (Done act)))) (x.0 ++ vs) x.1)) ≡ (o >>= (λ x. two_parts d k x.1 >>= (λ z. Ok (act (z.0 ++ (x.0 ++ vs)), suc z.1, z.2))))) (λ e. refl)
      (λ x. ap (λ o. formed o) (two_is k (Done act) (x.0 ++ vs) x.1)
      ∙ on (λ (o : Pairs). formed (o >>= (λ z. higher z.1 (Ok (act (z.0 ++ (x.0 ++ vs)), 0, z.2)))) ≡ (o >>= (λ z. Ok (act (z.0 ++ (x.0 ++ vs)), suc z.1, z.2)))) (λ e. refl)
      (λ z. ap (λ n. Ok (act (z.0 ++ (x.0 ++ vs)), n, z.2)) (one_high z.1)) (two_parts d k x.1)) (m s)

  pub let_is : (p : ℕ) (s : List Token) → formed (reads d let_rule (At p ∷ []) s) ≡ let_of d p s
  let_is p s =
      on_taken g.Open s (λ o. formed (pick o (λ ws. if nat_le 1 d then reads d let_names_rule (ws ++ (At p ∷ [])) (rest_of s) else Err (TooDeep, s)) (reads d let_one_rule (At p ∷ []) s)) ≡ pick o (λ ws. if nat_le 1 d then let_pair_of d p (rest_of s) else Err (TooDeep, s)) (let_one_of d p s))
      (front_two (name_then g.Equal) (λ r. named (sign g.Equal r)) (name_begins g.Equal) g.In let_act (At p ∷ []) s)
      (deep (nat_le 1 d) (reads d let_names_rule (At p ∷ []) (rest_of s)) (let_pair_of d p (rest_of s)) (TooDeep, s) (front_two pair_front (λ r. named (sign g.Comma (named (sign g.Close (sign g.Equal r))))) pair_begins g.In let_pair_act (At p ∷ []) (rest_of s)))

  pub if_is : (p : ℕ) (s : List Token) → formed (reads d if_rule (At p ∷ []) s) ≡ if_of d p s
  if_is p s =
      ap (λ o. formed o) (before_is g.Then branches_rule (At p ∷ []) s)
      ∙ on (λ (o : Answer Token Part). formed (o >>= (λ y. higher y.1 (reads d branches_rule (y.0 ∷ At p ∷ []) y.2))) ≡ (o >>= (λ y. two_parts d g.Else y.2 >>= (λ z. Ok (if_act (z.0 ++ (y.0 ∷ At p ∷ [])), suc (max y.1 z.1), z.2))))) (λ e. refl)
      (λ y. ap (λ o. formed (higher y.1 o)) (two_is g.Else (Done if_act) (y.0 ∷ At p ∷ []) y.2)
      ∙ on (λ (o : Pairs). formed (higher y.1 (o >>= (λ z. higher z.1 (Ok (if_act (z.0 ++ (y.0 ∷ At p ∷ [])), 0, z.2))))) ≡ (o >>= (λ z. Ok (if_act (z.0 ++ (y.0 ∷ At p ∷ [])), suc (max y.1 z.1), z.2)))) (λ e. refl)
      (λ z. ap (λ n. Ok (if_act (z.0 ++ (y.0 ∷ At p ∷ [])), n, z.2)) (two_high y.1 z.1)) (two_parts d g.Else y.2)) (part_before d g.Then s)

  pub some_is : (p : ℕ) (s : List Token) → formed (reads d some_rule (At p ∷ []) s) ≡ some_of d p s
  some_is p s =
      on_key g.Open s (λ (o : Taken). formed (o >>= (λ u. reads d (expr (sign g.Close (Done some_act))) (u.0 ++ (At p ∷ [])) u.1)) ≡ (o >>= (λ u. part_before d g.Close u.1 >>= (λ y. Ok (some_act (y.0 ∷ At p ∷ []), suc y.1, y.2))))) refl
      (ap (λ o. formed o) (before_is g.Close (Done some_act) (At p ∷ []) (rest_of s))
      ∙ on (λ (o : Answer Token Part). formed (o >>= (λ y. higher y.1 (Ok (some_act (y.0 ∷ At p ∷ []), 0, y.2)))) ≡ (o >>= (λ y. Ok (some_act (y.0 ∷ At p ∷ []), suc y.1, y.2)))) (λ e. refl)
      (λ y. ap (λ n. Ok (some_act (y.0 ∷ At p ∷ []), n, y.2)) (one_high y.1)) (part_before d g.Close (rest_of s)))

  pub node_is : (p : ℕ) (s : List Token) → formed (reads d node_rule (At p ∷ []) s) ≡ node_of d p s
  node_is p s =
      on_key g.Open s (λ (o : Taken). formed (o >>= (λ u. reads d (expr (sign g.Comma trees_rule)) (u.0 ++ (At p ∷ [])) u.1)) ≡ (o >>= (λ u. part_before d g.Comma u.1 >>= (λ y. two_parts d g.Comma y.2 >>= (λ z. take_of (key g.Close) z.2 >>= (λ v. Ok (node_act (z.0 ++ (y.0 ∷ At p ∷ [])), suc (max y.1 z.1), v.1))))))) refl
      (ap (λ o. formed o) (before_is g.Comma trees_rule (At p ∷ []) (rest_of s))
      ∙ on (λ (o : Answer Token Part). formed (o >>= (λ y. higher y.1 (reads d trees_rule (y.0 ∷ At p ∷ []) y.2))) ≡ (o >>= (λ y. two_parts d g.Comma y.2 >>= (λ z. take_of (key g.Close) z.2 >>= (λ v. Ok (node_act (z.0 ++ (y.0 ∷ At p ∷ [])), suc (max y.1 z.1), v.1)))))) (λ e. refl)
      (λ y. ap (λ o. formed (higher y.1 o)) (two_is g.Comma (sign g.Close (Done node_act)) (y.0 ∷ At p ∷ []) y.2)
      ∙ on (λ (o : Pairs). formed (higher y.1 (o >>= (λ z. higher z.1 (take_of (key g.Close) z.2 >>= (λ v. Ok (node_act (v.0 ++ (z.0 ++ (y.0 ∷ At p ∷ []))), 0, v.1)))))) ≡ (o >>= (λ z. take_of (key g.Close) z.2 >>= (λ v. Ok (node_act (z.0 ++ (y.0 ∷ At p ∷ [])), suc (max y.1 z.1), v.1))))) (λ e. refl)
      (λ z. on_key g.Close z.2 (λ (o : Taken). formed (higher y.1 (higher z.1 (o >>= (λ v. Ok (node_act (v.0 ++ (z.0 ++ (y.0 ∷ At p ∷ []))), 0, v.1))))) ≡ (o >>= (λ v. Ok (node_act (z.0 ++ (y.0 ∷ At p ∷ [])), suc (max y.1 z.1), v.1)))) refl
      (ap (λ n. Ok (node_act (z.0 ++ (y.0 ∷ At p ∷ [])), n, rest_of z.2)) (two_high y.1 z.1))) (two_parts d g.Comma y.2)) (part_before d g.Comma (rest_of s)))

  cases_is : (m : Front) (q : Rules → Rules) → Begins m q → (act : List Part → Part) (c : Part) (p : ℕ) (s : List Token) → reads d (sign g.Arrow (expr (q (expr (Done act))))) (c ∷ At p ∷ []) s ≡ cases_of m act d c p s
  cases_is m q w act c p s =
      on_key g.Arrow s (λ (o : Taken). (o >>= (λ u. part_of d u.1 >>= (λ a. higher a.1 (reads d (q (expr (Done act))) (a.0 ∷ (u.0 ++ (c ∷ At p ∷ []))) a.2)))) ≡ ((o >>= (λ u. part_of d u.1)) >>= (λ a. m a.2 >>= (λ x. part_of d x.1 >>= (λ b. Ok (act (b.0 ∷ (x.0 ++ (a.0 ∷ c ∷ At p ∷ []))), max a.1 b.1, b.2)))))) refl
      (on (λ (o : Answer Token Part). (o >>= (λ a. higher a.1 (reads d (q (expr (Done act))) (a.0 ∷ c ∷ At p ∷ []) a.2))) ≡ (o >>= (λ a. m a.2 >>= (λ x. part_of d x.1 >>= (λ b. Ok (act (b.0 ∷ (x.0 ++ (a.0 ∷ c ∷ At p ∷ []))), max a.1 b.1, b.2)))))) (λ e. refl)
      (λ a. ap (λ o. higher a.1 o) (w d (expr (Done act)) (a.0 ∷ c ∷ At p ∷ []) a.2)
      ∙ on (λ (o : Taken). higher a.1 (o >>= (λ x. reads d (expr (Done act)) (x.0 ++ (a.0 ∷ c ∷ At p ∷ [])) x.1)) ≡ (o >>= (λ x. part_of d x.1 >>= (λ b. Ok (act (b.0 ∷ (x.0 ++ (a.0 ∷ c ∷ At p ∷ []))), max a.1 b.1, b.2))))) (λ e. refl)
      (λ x. on (λ (o : Answer Token Part). higher a.1 (o >>= (λ b. higher b.1 (Ok (act (b.0 ∷ (x.0 ++ (a.0 ∷ c ∷ At p ∷ []))), 0, b.2)))) ≡ (o >>= (λ b. Ok (act (b.0 ∷ (x.0 ++ (a.0 ∷ c ∷ At p ∷ []))), max a.1 b.1, b.2)))) (λ e. refl)
      (λ b. ap (λ n. Ok (act (b.0 ∷ (x.0 ++ (a.0 ∷ c ∷ At p ∷ []))), n, b.2)) (no_higher a.1 b.1)) (part_of d x.1)) (m a.2)) (part_of d (rest_of s)))

  trees_is : (c : Part) (p : ℕ) (s : List Token) → reads d tree_cases_rule (c ∷ At p ∷ []) s ≡ (take_of (key g.Leaf) s >>= (λ u. tree_cases_of d c p u.1))
  trees_is c p s = on_key g.Leaf s (λ (o : Taken). (o >>= (λ u. reads d (sign g.Arrow (expr tree_case_rule)) (u.0 ++ (c ∷ At p ∷ [])) u.1)) ≡ (o >>= (λ u. tree_cases_of d c p u.1))) refl (cases_is tree_front (λ r. sign g.Bar (sign g.Node (sign g.Open (named (sign g.Comma (named (sign g.Comma (named (sign g.Close (sign g.Arrow r)))))))))) tree_begins match_tree_act c p (rest_of s))

  any_cases_is : (c : Part) (p : ℕ) (s : List Token) → reads d cases_rule (c ∷ At p ∷ []) s ≡ any_cases_of d c p s
  any_cases_is c p s =
      on_taken g.Nil s (λ o. pick o (λ ws. if nat_le 1 d then reads d list_cases_rule (ws ++ (c ∷ At p ∷ [])) (rest_of s) else Err (TooDeep, s)) (pick (taken (key g.Nothing) s) (λ ws. if nat_le 1 d then reads d option_cases_rule (ws ++ (c ∷ At p ∷ [])) (rest_of s) else Err (TooDeep, s)) (reads d tree_cases_rule (c ∷ At p ∷ []) s))
      ≡ pick o (λ ws. if nat_le 1 d then list_cases_of d c p (rest_of s) else Err (TooDeep, s)) (pick (taken (key g.Nothing) s) (λ ws. if nat_le 1 d then option_cases_of d c p (rest_of s) else Err (TooDeep, s)) (take_of (key g.Leaf) s >>= (λ u. tree_cases_of d c p u.1))))
      (on_taken g.Nothing s (λ o. pick o (λ ws. if nat_le 1 d then reads d option_cases_rule (ws ++ (c ∷ At p ∷ [])) (rest_of s) else Err (TooDeep, s)) (reads d tree_cases_rule (c ∷ At p ∷ []) s)
      ≡ pick o (λ ws. if nat_le 1 d then option_cases_of d c p (rest_of s) else Err (TooDeep, s)) (take_of (key g.Leaf) s >>= (λ u. tree_cases_of d c p u.1)))
      (trees_is c p s)
      (ap (λ o. if nat_le 1 d then o else Err (TooDeep, s)) (cases_is option_front (λ r. sign g.Bar (sign g.Just (sign g.Open (named (sign g.Close (sign g.Arrow r)))))) option_begins match_option_act c p (rest_of s))))
      (ap (λ o. if nat_le 1 d then o else Err (TooDeep, s)) (cases_is list_front (λ r. sign g.Bar (named (sign g.Cons (named (sign g.Arrow r))))) list_begins match_list_act c p (rest_of s)))

  pub match_is : (p : ℕ) (s : List Token) → formed (reads d match_rule (At p ∷ []) s) ≡ match_of d p s
  match_is p s =
      ap (λ o. formed o) (before_is g.With cases_rule (At p ∷ []) s)
      ∙ on (λ (o : Answer Token Part). formed (o >>= (λ y. higher y.1 (reads d cases_rule (y.0 ∷ At p ∷ []) y.2))) ≡ (o >>= (λ y. any_cases_of d y.0 p y.2 >>= (λ z. Ok (z.0, suc (max y.1 z.1), z.2))))) (λ e. refl)
      (λ y. ap (λ o. formed (higher y.1 o)) (any_cases_is y.0 p y.2)
      ∙ on (λ (o : Answer Token Part). formed (higher y.1 o) ≡ (o >>= (λ z. Ok (z.0, suc (max y.1 z.1), z.2)))) (λ e. refl) (λ z. refl) (any_cases_of d y.0 p y.2)) (part_before d g.With s)
