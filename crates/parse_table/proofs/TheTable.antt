-- The grammar can be read with one token in view.
use Rattle.std.proofs.Common.{◌≡◌, ◌≤◌, ◌⊎◌, inl, inr, ℕ, zero, suc, [], ◌∷◌, refl, subst, arith}
use Rattle.std.proofs.lemmas.Bool.{leb-true}
use Rattle.std.specs.Prelude.{Some, None, Bool, true, false, pos, nat_le, if◌then◌else◌}
use Rattle.raml_syntax.specs.Tree as t
use Rattle.raml_syntax.specs.declared.tree.ArithOp.TheVariants as op
use Rattle.raml_syntax.specs.declared.tree.CompareOp.TheVariants as cmp
use Rattle.parse_spec.specs.Rules.{Done, Sub}
use Rattle.parse_spec.proofs.Basics.{Atom, Sample, Filled, Takes, Ends, Wf, Behind, Readable}
use Rattle.parse_table.specs.Tokens.{Sign, Token, Name, Number, Key}
use Rattle.parse_table.specs.declared.token.Sign.TheVariants as s
use Rattle.parse_table.specs.Table.{At, Named, Counted, Class, Types, Exprs, Rules, key, place, name, number_to, int_act, bool_act, inner_type_rule, list_act, tree_act, option_act, pair_type_act, number_act, truth_act, nil_act, leaf_act, none_act, name_rule, node_rule, some_rule, not_rule, parens_rule, let_rule, if_rule, match_rule, tick_rule, arith_rule, cons_act, compare_rule, type, starts, goes, chains, table, grammar}
use Rattle.parse_table.proofs.Signs.{key_is, place_is}

-- a name may go on with a parenthesis, and no other form of level 0 with anything
abbrev tails : Class → Token → Bool
tails Exprs (Key p s.Open) = true
tails c t = false

key_sample : (k : Sign) → key k (Key 0 k) ≡ Some [] → Sample table (key k)
key_sample k e = record { token = Key 0 k; values = []; takes = e }

name_sample : Sample table name
name_sample = record { token = Name 0 []; values = Named 0 [] ∷ []; takes = refl }

fun_sample : Sample table (place s.Fun)
fun_sample = record { token = Key 0 s.Fun; values = At 0 ∷ []; takes = refl }

count_sample : Sample table (number_to 1000000)
count_sample = record { token = Number 0 0; values = Counted 0 ∷ []; takes = refl }

atom : (c : Class) → Atom table c
atom Types = record { token = Key 0 s.Int; act = int_act; at = refl }
atom Exprs = record { token = Number 0 0; act = number_act (pos 0); at = refl }

open_sample : Sample table (key s.Open)
open_sample = key_sample s.Open refl

close_sample : Sample table (key s.Close)
close_sample = key_sample s.Close refl

comma_sample : Sample table (key s.Comma)
comma_sample = key_sample s.Comma refl

colon_sample : Sample table (key s.Colon)
colon_sample = key_sample s.Colon refl

equal_sample : Sample table (key s.Equal)
equal_sample = key_sample s.Equal refl

in_sample : Sample table (key s.In)
in_sample = key_sample s.In refl

arrow_sample : Sample table (key s.Arrow)
arrow_sample = key_sample s.Arrow refl

bar_sample : Sample table (key s.Bar)
bar_sample = key_sample s.Bar refl

filled : Filled table table.text
filled = (fun_sample, ((name_sample, (open_sample, ((name_sample, (colon_sample, tt)), (close_sample, (colon_sample, (equal_sample, tt)))))), tt))

-- what holds of a form holds of the one that is found
pub form_at : (P : ℕ × Rules → Type 0) (x y : ℕ × Rules) → P x → Some x ≡ Some y → P y
form_at P x y w e = let p : x ≡ y = cc in subst P p w

-- what holds of each form
pub record Forms (P : Class → ℕ × Rules → Type 0) : Type 0 where
  pub int : P Types (0, Done int_act)
  pub bool : P Types (0, Done bool_act)
  pub inner_type : P Types (0, inner_type_rule)
  pub variable : (x : t.Text) → P Exprs (0, name_rule x)
  pub number : (n : ℕ) → n ≤ 9223372036854775807 → P Exprs (0, Done (number_act (pos n)))
  pub truth : (b : Bool) → P Exprs (0, Done (truth_act b))
  pub nil : P Exprs (0, Done nil_act)
  pub leaf : P Exprs (0, Done leaf_act)
  pub nothing : P Exprs (0, Done none_act)
  pub node : P Exprs (0, node_rule)
  pub just : P Exprs (0, some_rule)
  pub negation : P Exprs (0, not_rule)
  pub parens : P Exprs (0, parens_rule)
  pub binding : P Exprs (4, let_rule)
  pub choice : P Exprs (4, if_rule)
  pub cases : P Exprs (4, match_rule)
  pub tick : P Exprs (4, tick_rule)

pub forms : (P : Class → ℕ × Rules → Type 0) → Forms P → (c : Class) (t : Token) (y : ℕ × Rules) → starts c t ≡ Some y → P c y
forms P f Types (Key p s.Int) y e = form_at (P Types) (0, Done int_act) y f.int e
forms P f Types (Key p s.Bool) y e = form_at (P Types) (0, Done bool_act) y f.bool e
forms P f Types (Key p s.Open) y e = form_at (P Types) (0, inner_type_rule) y f.inner_type e
forms P f Types _ y e = absurd (cc)
forms P f Exprs (Name p x) y e = form_at (P Exprs) (0, name_rule x) y (f.variable x) e
forms P f Exprs (Number p n) y e = go (nat_le n 9223372036854775807) refl e
  where
    go : (b : Bool) → nat_le n 9223372036854775807 ≡ b → (if b then Some (0, Done (number_act (pos n))) else None) ≡ Some y → P Exprs y
    go true q e = form_at (P Exprs) (0, Done (number_act (pos n))) y (f.number n (leb-true n 9223372036854775807 q)) e
    go false q e = absurd (cc)
forms P f Exprs (Key p s.True) y e = form_at (P Exprs) (0, Done (truth_act true)) y (f.truth true) e
forms P f Exprs (Key p s.False) y e = form_at (P Exprs) (0, Done (truth_act false)) y (f.truth false) e
forms P f Exprs (Key p s.Nil) y e = form_at (P Exprs) (0, Done nil_act) y f.nil e
forms P f Exprs (Key p s.Leaf) y e = form_at (P Exprs) (0, Done leaf_act) y f.leaf e
forms P f Exprs (Key p s.Nothing) y e = form_at (P Exprs) (0, Done none_act) y f.nothing e
forms P f Exprs (Key p s.Node) y e = form_at (P Exprs) (0, node_rule) y f.node e
forms P f Exprs (Key p s.Just) y e = form_at (P Exprs) (0, some_rule) y f.just e
forms P f Exprs (Key p s.Not) y e = form_at (P Exprs) (0, not_rule) y f.negation e
forms P f Exprs (Key p s.Open) y e = form_at (P Exprs) (0, parens_rule) y f.parens e
forms P f Exprs (Key p s.Let) y e = form_at (P Exprs) (4, let_rule) y f.binding e
forms P f Exprs (Key p s.If) y e = form_at (P Exprs) (4, if_rule) y f.choice e
forms P f Exprs (Key p s.Match) y e = form_at (P Exprs) (4, match_rule) y f.cases e
forms P f Exprs (Key p s.Tick) y e = form_at (P Exprs) (4, tick_rule) y f.tick e
forms P f Exprs (Key p _) y e = absurd (cc)

-- what holds of each form that goes on from a phrase, and of its token
pub record Goings (P : Class → Token → ℕ × Rules → Type 0) : Type 0 where
  pub list : (p : ℕ) → P Types (Key p s.List) (0, Done list_act)
  pub tree : (p : ℕ) → P Types (Key p s.Tree) (0, Done tree_act)
  pub option : (p : ℕ) → P Types (Key p s.Option) (0, Done option_act)
  pub pair : (p : ℕ) → P Types (Key p s.Star) (1, type (Done pair_type_act))
  pub times : (p : ℕ) → P Exprs (Key p s.Star) (arith_rule 0 op.Mul)
  pub quotient : (p : ℕ) → P Exprs (Key p s.Div) (arith_rule 0 op.Div)
  pub remainder : (p : ℕ) → P Exprs (Key p s.Mod) (arith_rule 0 op.Mod)
  pub plus : (p : ℕ) → P Exprs (Key p s.Plus) (arith_rule 1 op.Add)
  pub minus : (p : ℕ) → P Exprs (Key p s.Minus) (arith_rule 1 op.Sub)
  pub cons : (p : ℕ) → P Exprs (Key p s.Cons) (2, Sub Exprs 3 (Done cons_act))
  pub equal : (p : ℕ) → P Exprs (Key p s.Equal) (compare_rule cmp.Equal)
  pub less : (p : ℕ) → P Exprs (Key p s.Less) (compare_rule cmp.Less)
  pub at_most : (p : ℕ) → P Exprs (Key p s.AtMost) (compare_rule cmp.AtMost)

pub goings : (P : Class → Token → ℕ × Rules → Type 0) → Goings P → (c : Class) (t : Token) (y : ℕ × Rules) → goes c t ≡ Some y → P c t y
goings P f Types (Key p s.List) y e = form_at (P Types (Key p s.List)) (0, Done list_act) y (f.list p) e
goings P f Types (Key p s.Tree) y e = form_at (P Types (Key p s.Tree)) (0, Done tree_act) y (f.tree p) e
goings P f Types (Key p s.Option) y e = form_at (P Types (Key p s.Option)) (0, Done option_act) y (f.option p) e
goings P f Types (Key p s.Star) y e = form_at (P Types (Key p s.Star)) (1, type (Done pair_type_act)) y (f.pair p) e
goings P f Types _ y e = absurd (cc)
goings P f Exprs (Key p s.Star) y e = form_at (P Exprs (Key p s.Star)) (arith_rule 0 op.Mul) y (f.times p) e
goings P f Exprs (Key p s.Div) y e = form_at (P Exprs (Key p s.Div)) (arith_rule 0 op.Div) y (f.quotient p) e
goings P f Exprs (Key p s.Mod) y e = form_at (P Exprs (Key p s.Mod)) (arith_rule 0 op.Mod) y (f.remainder p) e
goings P f Exprs (Key p s.Plus) y e = form_at (P Exprs (Key p s.Plus)) (arith_rule 1 op.Add) y (f.plus p) e
goings P f Exprs (Key p s.Minus) y e = form_at (P Exprs (Key p s.Minus)) (arith_rule 1 op.Sub) y (f.minus p) e
goings P f Exprs (Key p s.Cons) y e = form_at (P Exprs (Key p s.Cons)) (2, Sub Exprs 3 (Done cons_act)) y (f.cons p) e
goings P f Exprs (Key p s.Equal) y e = form_at (P Exprs (Key p s.Equal)) (compare_rule cmp.Equal) y (f.equal p) e
goings P f Exprs (Key p s.Less) y e = form_at (P Exprs (Key p s.Less)) (compare_rule cmp.Less) y (f.less p) e
goings P f Exprs (Key p s.AtMost) y e = form_at (P Exprs (Key p s.AtMost)) (compare_rule cmp.AtMost) y (f.at_most p) e
goings P f Exprs _ y e = absurd (cc)

filled_starts : (c : Class) (t : Token) (n : ℕ) (r : Rules) → starts c t ≡ Some (n, r) → Filled table r
filled_starts c t n r e =
    forms (λ c y. Filled table y.1) (record {
      int = tt;
      bool = tt;
      inner_type = (close_sample, tt);
      variable = λ x. ((tt, (close_sample, tt)), tt);
      number = λ n le. tt;
      truth = λ b. tt;
      nil = tt;
      leaf = tt;
      nothing = tt;
      node = (open_sample, (comma_sample, (comma_sample, (close_sample, tt))));
      just = (open_sample, (close_sample, tt));
      negation = tt;
      parens = ((close_sample, tt), ((close_sample, tt), (close_sample, tt)));
      binding = ((name_sample, (comma_sample, (name_sample, (close_sample, (equal_sample, (in_sample, tt)))))), (name_sample, (equal_sample, (in_sample, tt))));
      choice = (key_sample s.Then refl, (key_sample s.Else refl, tt));
      cases = (
        key_sample s.With refl,
        (
          (arrow_sample, (bar_sample, (name_sample, (key_sample s.Cons refl, (name_sample, (arrow_sample, tt)))))),
          (
            (arrow_sample, (bar_sample, (key_sample s.Just refl, (open_sample, (name_sample, (close_sample, (arrow_sample, tt))))))),
            (
              key_sample s.Leaf refl,
              (arrow_sample, (bar_sample, (key_sample s.Node refl, (open_sample, (name_sample, (comma_sample, (name_sample, (comma_sample, (name_sample, (close_sample, (arrow_sample, tt))))))))))),
            ),
          ),
        ),
      );
      tick = (count_sample, (in_sample, tt));
    }) c t (n, r) e

filled_goes : (c : Class) (t : Token) (n : ℕ) (r : Rules) → goes c t ≡ Some (n, r) → Filled table r
filled_goes c t n r e = goings (λ c t y. Filled table y.1) (record {
  list = λ p. tt;
  tree = λ p. tt;
  option = λ p. tt;
  pair = λ p. tt;
  times = λ p. tt;
  quotient = λ p. tt;
  remainder = λ p. tt;
  plus = λ p. tt;
  minus = λ p. tt;
  cons = λ p. tt;
  equal = λ p. tt;
  less = λ p. tt;
  at_most = λ p. tt;
}) c t (n, r) e

-- what holds of a keyword or symbol holds of a token that it takes
at_key : (k : Sign) (P : Token → Type 0) → ((p : ℕ) → P (Key p k)) → (t : Token) → Takes table (key k) t → P t
at_key k P f t w = key_is k P f t w.0 w.1

abbrev EndsExpr : Token → Type 0
EndsExpr = Ends table tails Exprs 4

abbrev EndsType : Token → Type 0
EndsType = Ends table tails Types 2

close_expr : (t : Token) → Takes table (key s.Close) t → EndsExpr t
close_expr = at_key s.Close EndsExpr (λ p. (refl, (refl, (refl, (refl, refl)))))

comma_expr : (t : Token) → Takes table (key s.Comma) t → EndsExpr t
comma_expr = at_key s.Comma EndsExpr (λ p. (refl, (refl, (refl, (refl, refl)))))

in_expr : (t : Token) → Takes table (key s.In) t → EndsExpr t
in_expr = at_key s.In EndsExpr (λ p. (refl, (refl, (refl, (refl, refl)))))

bar_expr : (t : Token) → Takes table (key s.Bar) t → EndsExpr t
bar_expr = at_key s.Bar EndsExpr (λ p. (refl, (refl, (refl, (refl, refl)))))

close_type : (t : Token) → Takes table (key s.Close) t → EndsType t
close_type = at_key s.Close EndsType (λ p. (refl, (refl, refl)))

-- behind a list stands no comma
no_comma : (t : Token) → Takes table (key s.Close) t → key s.Comma t ≡ None
no_comma = at_key s.Close (λ t. key s.Comma t ≡ None) (λ p. refl)

item_expr : (t : Token) → Takes table (key s.Comma) t ⊎ Takes table (key s.Close) t → EndsExpr t
item_expr t (inl w) = comma_expr t w
item_expr t (inr w) = close_expr t w

item_type : (t : Token) → Takes table (key s.Comma) t ⊎ Takes table (key s.Close) t → EndsType t
item_type t (inl w) = at_key s.Comma EndsType (λ p. (refl, (refl, refl))) t w
item_type t (inr w) = close_type t w

-- behind the first part of what stands in parentheses
parens_expr : (t : Token) → Takes table (key s.Comma) t ⊎ (Takes table (key s.Colon) t ⊎ Takes table (key s.Close) t) → EndsExpr t
parens_expr t (inl w) = comma_expr t w
parens_expr t (inr (inl w)) = at_key s.Colon EndsExpr (λ p. (refl, (refl, (refl, (refl, refl))))) t w
parens_expr t (inr (inr w)) = close_expr t w

parens_comma : (t : Token) → Takes table (key s.Colon) t ⊎ Takes table (key s.Close) t → key s.Comma t ≡ None
parens_comma t (inl w) = at_key s.Colon (λ t. key s.Comma t ≡ None) (λ p. refl) t w
parens_comma t (inr w) = no_comma t w

-- no other case begins with nil
cases_nil : (t : Token) → Takes table (key s.Nothing) t ⊎ Takes table (key s.Leaf) t → key s.Nil t ≡ None
cases_nil t (inl w) = at_key s.Nothing (λ t. key s.Nil t ≡ None) (λ p. refl) t w
cases_nil t (inr w) = at_key s.Leaf (λ t. key s.Nil t ≡ None) (λ p. refl) t w

no_open : (t : Token) → tails Exprs t ≡ false → key s.Open t ≡ None
no_open (Key p s.Open) e = absurd (cc)
no_open (Key p _) e = refl
no_open (Name p x) e = refl
no_open (Number p n) e = refl

name_open : (t : Token) → Takes table name t → key s.Open t ≡ None
name_open (Name p x) w = refl
name_open (Number p n) w = refl
name_open (Key p k) w = let e = w.1 in absurd (cc)

-- behind a function stands another or nothing
next_expr : (t : Token) → Takes table (place s.Fun) t ⊎ ⊥ → EndsExpr t
next_expr t (inl w) = place_is s.Fun EndsExpr (λ p. (refl, (refl, (refl, (refl, refl))))) t w.0 w.1
next_expr t (inr w) = absurd w

wf : Wf table tails (λ t. ⊥) table.text
wf = (
  refl,
  (λ t w. absurd w),
  (
    refl,
    no_comma,
    (item_type, tt),
    (at_key s.Equal EndsType (λ p. (refl, (refl, refl))), (next_expr, tt)),
  ),
  tt,
)

wf_starts : (c : Class) (t : Token) (n : ℕ) (r : Rules) → starts c t ≡ Some (n, r) → Wf table tails (Ends table tails c n) r
wf_starts c t n r e =
    forms (λ c y. Wf table tails (Ends table tails c y.0) y.1) (record {
      int = tt;
      bool = tt;
      inner_type = (close_type, tt);
      variable = λ x. (omega arith, no_open, (refl, no_comma, (item_expr, tt), tt), tt);
      number = λ n le. tt;
      truth = λ b. tt;
      nil = tt;
      leaf = tt;
      nothing = tt;
      node = (comma_expr, (comma_expr, (close_expr, tt)));
      just = (close_expr, tt);
      negation = (λ t w. w, tt);
      parens = (parens_expr, (omega arith, parens_comma, (close_expr, tt), (omega arith, at_key s.Close (λ t. key s.Colon t ≡ None) (λ p. refl), (close_type, tt), tt)));
      binding = (omega arith, name_open, (in_expr, ((λ t w. w), tt)), (in_expr, ((λ t w. w), tt)));
      choice = (at_key s.Then EndsExpr (λ p. (refl, (refl, (refl, (refl, refl))))), (at_key s.Else EndsExpr (λ p. (refl, (refl, (refl, (refl, refl))))), ((λ t w. w), tt)));
      cases = (
        at_key s.With EndsExpr (λ p. (refl, (refl, (refl, (refl, refl))))),
        (
          omega arith,
          cases_nil,
          (bar_expr, ((λ t w. w), tt)),
          (omega arith, at_key s.Leaf (λ t. key s.Nothing t ≡ None) (λ p. refl), (bar_expr, ((λ t w. w), tt)), (bar_expr, ((λ t w. w), tt))),
        ),
      );
      tick = ((λ t w. w), tt);
    }) c t (n, r) e

wf_goes : (c : Class) (t : Token) (n : ℕ) (r : Rules) → goes c t ≡ Some (n, r) → Wf table tails (Behind table tails (chains c n) c n) r
wf_goes c t n r e = goings (λ c t y. Wf table tails (Behind table tails (chains c y.0) c y.0) y.1) (record {
  list = λ p. tt;
  tree = λ p. tt;
  option = λ p. tt;
  pair = λ p. ((λ t w. w), tt);
  times = λ p. ((λ t w. w), tt);
  quotient = λ p. ((λ t w. w), tt);
  remainder = λ p. ((λ t w. w), tt);
  plus = λ p. ((λ t w. w), tt);
  minus = λ p. ((λ t w. w), tt);
  cons = λ p. ((λ t w. w), tt);
  equal = λ p. ((λ t w. w.1), tt);
  less = λ p. ((λ t w. w.1), tt);
  at_most = λ p. ((λ t w. w.1), tt);
}) c t (n, r) e

ends : (c : Class) (t : Token) (n : ℕ) (r : Rules) → goes c t ≡ Some (n, r) → Ends table tails c n t
ends c t n r e = goings (λ c t y. Ends table tails c y.0 t) (record {
  list = λ p. refl;
  tree = λ p. refl;
  option = λ p. refl;
  pair = λ p. (refl, refl);
  times = λ p. refl;
  quotient = λ p. refl;
  remainder = λ p. refl;
  plus = λ p. (refl, refl);
  minus = λ p. (refl, refl);
  cons = λ p. (refl, (refl, refl));
  equal = λ p. (refl, (refl, (refl, refl)));
  less = λ p. (refl, (refl, (refl, refl)));
  at_most = λ p. (refl, (refl, (refl, refl)));
}) c t (n, r) e

-- no form stands at a level that chains
abbrev Formless : Class → ℕ → Type 0
Formless c zero = Unit {0}
Formless c (suc n) = chains c n ≡ true → ⊥

formless : (c : Class) (t : Token) (n : ℕ) (r : Rules) → starts c t ≡ Some (suc n, r) → chains c n ≡ true → ⊥
formless c t n r e = forms (λ c y. Formless c y.0) (record {
  int = tt;
  bool = tt;
  inner_type = tt;
  variable = λ x. tt;
  number = λ n le. tt;
  truth = λ b. tt;
  nil = tt;
  leaf = tt;
  nothing = tt;
  node = tt;
  just = tt;
  negation = tt;
  parens = tt;
  binding = λ q. absurd (cc);
  choice = λ q. absurd (cc);
  cases = λ q. absurd (cc);
  tick = λ q. absurd (cc);
}) c t (suc n, r) e

pub readable : Readable grammar
unfolding grammar
readable = record {
  tails = tails;
  atom = atom;
  filled = filled;
  filled_starts = filled_starts;
  filled_goes = filled_goes;
  wf = wf;
  wf_starts = wf_starts;
  wf_goes = wf_goes;
  ends = ends;
  formless = formless;
}
