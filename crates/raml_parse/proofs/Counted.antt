-- A text is told to have too many items exactly where counting tells it.
use Rattle.std.proofs.Common.{◌≡◌, ◌<◌, ℕ, suc, List, [], ◌∷◌, ◌++◌, refl, sym, ap, subst, ◌∙◌, arith, append_assoc}
use Rattle.std.proofs.lemmas.List.{append_cancel_right, append-nil}
use Rattle.std.specs.Prelude.{Option, Some, None, Bool, true, false, Ok, Err, nat_le, if◌then◌else◌, pos}
use Rattle.parse_spec.specs.Rules.{Done, Many}
use Rattle.parse_spec.specs.Derives.{CanBegin, Faults, at}
use Rattle.parse_spec.specs.declared.Kind.TheVariants.{Syntax, TooDeep, TooMany}
use Rattle.parse_spec.specs.Reading.{Answer, rule_of, read, whole_of}
use Rattle.parse_spec.proofs.Complete.{text_complete}
use Rattle.parse_spec.proofs.Only.{one_fault, no_fault}
use Rattle.parse_spec.proofs.Places.{Answers, parse_answers}
use Rattle.parse_table.specs.Tokens.{Token, Name, Number, Key}
use Rattle.parse_table.specs.declared.token.Sign.{Sign}
use Rattle.parse_table.specs.declared.token.Sign.TheVariants as s
use Rattle.parse_table.specs.Table.{Part, Class, Types, Exprs, Rules, key, place, name, number_to, number_act, truth_act, int_act, bool_act, nil_act, leaf_act, none_act, inner_type_rule, name_rule, node_rule, some_rule, not_rule, parens_rule, let_rule, if_rule, list_cases_rule, option_cases_rule, tree_cases_rule, match_rule, tick_rule, function_rule, text_rule, table, grammar, starts, goes}
use Rattle.parse_table.proofs.Signs.{key_is, place_is}
use Rattle.parse_table.proofs.TheTable.{form_at, goings, readable}
use Rattle.raml_parse.specs.Counting.{funs_after, funs, commas_after, commas, IsOver, OneTooMany, TooManyIsCounted}
use Rattle.raml_parse.proofs.Told.{run, Fits, Leads, Moves, Turns, end, take, part, either, many, Returns, Told, fits_at, text_told}

-- functions, and commas in each open bracket
abbrev Count : Type 0
Count = ℕ × List ℕ

abbrev after : Count → Token → Count
after x t = (funs_after x.0 t, commas_after x.1 t)

abbrev Over : Count → Token → Type 0
Over x t = IsOver x.0 x.1 t

run_is : (x : Count) (a : List Token) → run table after Over x a ≡ (funs x.0 a, commas x.1 a)
run_is x [] = refl
run_is x (t ∷ a) = run_is (after x t) a

abbrev Turning : Option Count → Rules → Count → Type 0
Turning = Turns table after Over

abbrev Moving : (Token → Option (List Part)) → Count → Count → Type 0
Moving = Moves table after Over

abbrev Leading : Count → Token → Count → Type 0
Leading = Leads table after Over

-- WHAT A TEST TAKES

abbrev Plain : Sign → Type 0
Plain s.Fun = ⊥
Plain s.Open = ⊥
Plain s.Close = ⊥
Plain s.Comma = ⊥
Plain k = Unit {0}

plain_leads : (k : Sign) → Plain k → (x : Count) (p : ℕ) → Leading x (Key p k) x
plain_leads s.Fun w x p = absurd w
plain_leads s.Open w x p = absurd w
plain_leads s.Close w x p = absurd w
plain_leads s.Comma w x p = absurd w
plain_leads _ w x p = (λ o. o, refl)

plain : (k : Sign) {x : Count} → Plain k → Moving (key k) x x
plain k {x = x} w = record { step = key_is k (λ t. Leading x t x) (plain_leads k w x) }

opens : {x : Count} → Moving (key s.Open) x (x.0, 0 ∷ x.1)
opens {x = x} = record { step = key_is s.Open (λ t. Leading x t (x.0, 0 ∷ x.1)) (λ p. (λ o. o, refl)) }

closes : {n j : ℕ} {cs : List ℕ} → Moving (key s.Close) (n, j ∷ cs) (n, cs)
closes {n = n} {j = j} {cs = cs} = record { step = key_is s.Close (λ t. Leading (n, j ∷ cs) t (n, cs)) (λ p. (λ o. o, refl)) }

comma : {n j : ℕ} {cs : List ℕ} → j < 7 → Moving (key s.Comma) (n, j ∷ cs) (n, suc j ∷ cs)
comma {n = n} {j = j} {cs = cs} lt = record { step = key_is s.Comma (λ t. Leading (n, j ∷ cs) t (n, suc j ∷ cs)) (λ p. (λ o. omega (arith, lt, o), refl)) }

name_leads : (x : Count) (t : Token) (ws : List Part) → name t ≡ Some ws → Leading x t x
name_leads x (Name p a) ws e = (λ o. o, refl)
name_leads x _ ws e = absurd (cc)

a_name : {x : Count} → Moving name x x
a_name {x = x} = record { step = name_leads x }

number_leads : (k : ℕ) (x : Count) (t : Token) (ws : List Part) → number_to k t ≡ Some ws → Leading x t x
number_leads k x (Number p n) ws e = (λ o. o, refl)
number_leads k x _ ws e = absurd (cc)

a_number : (k : ℕ) {x : Count} → Moving (number_to k) x x
a_number k {x = x} = record { step = number_leads k x }

function : {n : ℕ} {cs : List ℕ} → n < 256 → Moving (place s.Fun) (n, cs) (suc n, cs)
function {n = n} {cs = cs} lt = record { step = place_is s.Fun (λ t. Leading (n, cs) t (suc n, cs)) (λ p. (λ o. omega (arith, lt, o), refl)) }

-- THE FORMS

-- at most 8 items with commas between, directly in a bracket
items : {z : Option Count} {item r : Rules} {n : ℕ} {cs : List ℕ} → ((j : ℕ) → Turning (Some (n, j ∷ cs)) item (n, j ∷ cs)) → ((j : ℕ) → Turning z r (n, j ∷ cs)) → Turning z (Many 7 (key s.Comma) item r) (n, 0 ∷ cs)
items {n = n} {cs = cs} one w = many (λ j. (n, j ∷ cs)) refl one (λ j lt. comma lt) (key_is s.Comma (λ t. Over (n, 7 ∷ cs) t) (λ p. refl)) w

done : {x : Count} {act : List Part → Part} → Turning (Some x) (Done act) x
done = end refl

abbrev Returning : Token → Rules → Type 0
Returning = Returns table after Over

list_cases_turn : (x : Count) → Turning (Some x) list_cases_rule x
list_cases_turn x = take (plain s.Arrow tt) (part (take (plain s.Bar tt) (take a_name (take (plain s.Cons tt) (take a_name (take (plain s.Arrow tt) (part done)))))))

option_cases_turn : (x : Count) → Turning (Some x) option_cases_rule x
option_cases_turn x = take (plain s.Arrow tt) (part (take (plain s.Bar tt) (take (plain s.Just tt) (take opens (take a_name (take closes (take (plain s.Arrow tt) (part done))))))))

tree_cases_turn : (x : Count) → Turning (Some x) tree_cases_rule x
tree_cases_turn x = take (plain s.Leaf tt) (take (plain s.Arrow tt) (part (take (plain s.Bar tt) (take (plain s.Node tt) (take opens (take a_name (take (comma (omega arith)) (take a_name (take (comma (omega arith)) (take a_name (take closes (take (plain s.Arrow tt) (part done)))))))))))))

abbrev number_form : ℕ → ℕ × Rules
number_form k = (0, Done (number_act (pos k)))

starts_return : (c : Class) (t : Token) (n : ℕ) (r : Rules) → starts c t ≡ Some (n, r) → Returning t r
starts_return Types (Key p s.Int) n r e = form_at (λ y. Returning (Key p s.Int) y.1) (0, Done int_act) (n, r) (λ x. (x, (λ o. o, refl), done)) e
starts_return Types (Key p s.Bool) n r e = form_at (λ y. Returning (Key p s.Bool) y.1) (0, Done bool_act) (n, r) (λ x. (x, (λ o. o, refl), done)) e
starts_return Types (Key p s.Open) n r e = form_at (λ y. Returning (Key p s.Open) y.1) (0, inner_type_rule) (n, r) (λ x. ((x.0, 0 ∷ x.1), (λ o. o, refl), part (take closes done))) e
starts_return Types _ n r e = absurd (cc)
starts_return Exprs (Name p a) n r e = form_at (λ y. Returning (Name p a) y.1) (0, name_rule a) (n, r) (λ x. (x, (λ o. o, refl), either opens (items (λ j. part done) (λ j. take closes done)) done)) e
starts_return Exprs (Number p k) n r e = go (nat_le k 9223372036854775807) e
  where
    go : (b : Bool) → (if b then Some (number_form k) else None) ≡ Some (n, r) → Returning (Number p k) r
    go true e = form_at (λ y. Returning (Number p k) y.1) (number_form k) (n, r) (λ x. (x, (λ o. o, refl), done)) e
    go false e = absurd (cc)
starts_return Exprs (Key p s.True) n r e = form_at (λ y. Returning (Key p s.True) y.1) (0, Done (truth_act true)) (n, r) (λ x. (x, (λ o. o, refl), done)) e
starts_return Exprs (Key p s.False) n r e = form_at (λ y. Returning (Key p s.False) y.1) (0, Done (truth_act false)) (n, r) (λ x. (x, (λ o. o, refl), done)) e
starts_return Exprs (Key p s.Nil) n r e = form_at (λ y. Returning (Key p s.Nil) y.1) (0, Done nil_act) (n, r) (λ x. (x, (λ o. o, refl), done)) e
starts_return Exprs (Key p s.Leaf) n r e = form_at (λ y. Returning (Key p s.Leaf) y.1) (0, Done leaf_act) (n, r) (λ x. (x, (λ o. o, refl), done)) e
starts_return Exprs (Key p s.Nothing) n r e = form_at (λ y. Returning (Key p s.Nothing) y.1) (0, Done none_act) (n, r) (λ x. (x, (λ o. o, refl), done)) e
starts_return Exprs (Key p s.Node) n r e = form_at (λ y. Returning (Key p s.Node) y.1) (0, node_rule) (n, r)
    (λ x. (x, (λ o. o, refl), take opens (part (take (comma (omega arith)) (part (take (comma (omega arith)) (part (take closes done)))))))) e
starts_return Exprs (Key p s.Just) n r e = form_at (λ y. Returning (Key p s.Just) y.1) (0, some_rule) (n, r) (λ x. (x, (λ o. o, refl), take opens (part (take closes done)))) e
starts_return Exprs (Key p s.Not) n r e = form_at (λ y. Returning (Key p s.Not) y.1) (0, not_rule) (n, r) (λ x. (x, (λ o. o, refl), part done)) e
starts_return Exprs (Key p s.Open) n r e = form_at (λ y. Returning (Key p s.Open) y.1) (0, parens_rule) (n, r)
    (λ x. ((x.0, 0 ∷ x.1), (λ o. o, refl), part (either (comma (omega arith)) (part (take closes done)) (either (plain s.Colon tt) (part (take closes done)) (take closes done))))) e
starts_return Exprs (Key p s.Let) n r e = form_at (λ y. Returning (Key p s.Let) y.1) (4, let_rule) (n, r)
    (λ x. (
      x,
      (λ o. o, refl),
      either opens
          (take a_name (take (comma (omega arith)) (take a_name (take closes (take (plain s.Equal tt) (part (take (plain s.In tt) (part done))))))))
          (take a_name (take (plain s.Equal tt) (part (take (plain s.In tt) (part done))))),
    )) e
starts_return Exprs (Key p s.If) n r e = form_at (λ y. Returning (Key p s.If) y.1) (4, if_rule) (n, r) (λ x. (x, (λ o. o, refl), part (take (plain s.Then tt) (part (take (plain s.Else tt) (part done)))))) e
starts_return Exprs (Key p s.Match) n r e = form_at (λ y. Returning (Key p s.Match) y.1) (4, match_rule) (n, r)
    (λ x. (x, (λ o. o, refl), part (take (plain s.With tt) (either (plain s.Nil tt) (list_cases_turn x) (either (plain s.Nothing tt) (option_cases_turn x) (tree_cases_turn x)))))) e
starts_return Exprs (Key p s.Tick) n r e = form_at (λ y. Returning (Key p s.Tick) y.1) (4, tick_rule) (n, r) (λ x. (x, (λ o. o, refl), take (a_number 1000000) (take (plain s.In tt) (part done)))) e
starts_return Exprs (Key p _) n r e = absurd (cc)

goes_return : (c : Class) (t : Token) (n : ℕ) (r : Rules) → goes c t ≡ Some (n, r) → Returning t r
goes_return c t n r e = goings (λ c t y. Returning t y.1) (record {
  list = λ p x. (x, (λ o. o, refl), done);
  tree = λ p x. (x, (λ o. o, refl), done);
  option = λ p x. (x, (λ o. o, refl), done);
  pair = λ p x. (x, (λ o. o, refl), part done);
  times = λ p x. (x, (λ o. o, refl), part done);
  quotient = λ p x. (x, (λ o. o, refl), part done);
  remainder = λ p x. (x, (λ o. o, refl), part done);
  plus = λ p x. (x, (λ o. o, refl), part done);
  minus = λ p x. (x, (λ o. o, refl), part done);
  cons = λ p x. (x, (λ o. o, refl), part done);
  equal = λ p x. (x, (λ o. o, refl), part done);
  less = λ p x. (x, (λ o. o, refl), part done);
  at_most = λ p x. (x, (λ o. o, refl), part done);
}) c t (n, r) e

function_turns : (x : Count) → Turning (Some x) function_rule x
function_turns x = take a_name (take opens (items
    (λ j. take a_name (take (plain s.Colon tt) (part done)))
    (λ j. take closes (take (plain s.Colon tt) (part (take (plain s.Equal tt) (part done)))))))

text_turns : Turning None text_rule (0, [])
text_turns = take (function (omega arith)) (many (λ j. (suc j, [])) refl (λ j. function_turns (suc j, [])) (λ j lt. function (omega (arith, lt))) (place_is s.Fun (λ t. Over (256, []) t) (λ p. refl)) (λ j. end tt))

-- THE LAW

abbrev all_of : List Token → Answer Token Part
all_of tokens = rule_of grammar (read grammar 0 200) 0 200 grammar.text [] tokens

told : (tokens : List Token) → Told table after Over (0, []) None tokens (all_of tokens)
unfolding grammar
told tokens = text_told table after Over starts_return goes_return text_turns 200 tokens

abbrev Counted : List Token → List Token → Type 0
Counted tokens u = (a : List Token) × (t : Token) × (b : List Token) × (tokens ≡ a ++ t ∷ b) × (u ≡ t ∷ b) × IsOver (funs 0 a) (commas [] a) t

-- too many are told where counting tells them
counted : (tokens u : List Token) (o : Answer Token Part) → Told table after Over (0, []) None tokens o → Answers grammar 0 200 tokens (whole_of o) → Faults grammar 0 200 tokens TooMany u → Counted tokens u
counted tokens u (Ok (e, h, [])) w answer f = absurd (no_fault grammar 0 200 tokens e TooMany u answer f)
counted tokens u (Ok (e, h, t ∷ v)) w answer f = absurd (let p = (one_fault grammar 0 200 tokens Syntax TooMany (t ∷ v) u answer f).0 in cc)
counted tokens u (Err (Syntax, v)) w answer f = absurd (let p = (one_fault grammar 0 200 tokens Syntax TooMany v u answer f).0 in cc)
counted tokens u (Err (TooDeep, v)) w answer f = absurd (let p = (one_fault grammar 0 200 tokens TooDeep TooMany v u answer f).0 in cc)
counted tokens u (Err (TooMany, v)) w answer f =
    let p = (one_fault grammar 0 200 tokens TooMany TooMany v u answer f).1 in
    (w.0, w.1, w.2, w.3, sym p ∙ w.4, subst (λ y. Over y w.1) (run_is (0, []) w.0) w.5)

only_counted : (tokens rest : List Token) → Faults grammar 0 200 tokens TooMany rest → Counted tokens rest → OneTooMany tokens rest
only_counted tokens rest (at {a = a} {b = b} {t = t} split before not longer) c =
    let same : a ≡ c.0 = append_cancel_right a c.0 (t ∷ b) (sym split ∙ c.3 ∙ ap (λ u. c.0 ++ u) (sym c.4)) in
    let first : t ≡ c.1 = let q = c.4 in cc in
    record {
      front = a;
      token = t;
      behind = b;
      split = split;
      is = refl;
      before = before;
      longer = longer;
      over = subst (λ t. IsOver (funs 0 a) (commas [] a) t) (sym first) (subst (λ a. IsOver (funs 0 a) (commas [] a) c.1) (sym same) c.5);
    }

left_of : Answer Token Part → List Token
left_of (Ok x) = x.2
left_of (Err f) = []

-- where counting tells of too many, no program within the limits goes on
refused : (a : List Token) (t : Token) → IsOver (funs 0 a) (commas [] a) t → CanBegin grammar 0 200 (a ++ t ∷ []) → ⊥
unfolding left_of
refused a t w c = go (all_of tokens) (text_complete grammar readable c.derives.is 200 c.derives.within) (told tokens)
  where
    tokens : List Token
    tokens = (a ++ t ∷ []) ++ c.more

    go : (o : Answer Token Part) → o ≡ Ok (c.value, c.derives.height, []) → Told table after Over (0, []) None tokens o → ⊥
    go (Ok (e, h, u)) q x =
        let p : u ≡ [] = ap left_of q in
        let s : tokens ≡ x.0 = x.1 ∙ ap (λ u. x.0 ++ u) p ∙ append-nil x.0 in
        fits_at table after Over (0, []) a t c.more (subst (Fits table after Over (0, [])) (sym s ∙ append_assoc a (t ∷ []) c.more) x.2) (subst (λ y. Over y t) (sym (run_is (0, []) a)) w)
    go (Err f) q x = absurd (cc)

pub too_many_counted : TooManyIsCounted
too_many_counted tokens rest = (
  λ f. only_counted tokens rest f (counted tokens rest (all_of tokens) (told tokens) (parse_answers grammar readable 0 200 (omega arith) tokens) f),
  λ c. subst (Faults grammar 0 200 tokens TooMany) (sym c.is) (at c.split c.before (refused c.front c.token c.over) c.longer),
)
