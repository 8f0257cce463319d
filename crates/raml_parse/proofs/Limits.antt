-- A program that is spelled is within the limits, and has no more nodes than its text has tokens.
use Rattle.std.proofs.Common.{◌≡◌, ◌≤◌, ◌+◌, ◌∙◌, ℕ, suc, List, [], ◌∷◌, ◌++◌, length, refl, sym, ap, subst, arith}
use Rattle.std.specs.Prelude.{ℤ, Some, None, Bool, true, false, nat_le, if◌then◌else◌, pos}
use Rattle.std.specs.Int.{w64}
use Rattle.std.specs.List.{All}
use Rattle.std.proofs.lemmas.Bool.{leb-true}
use Rattle.std.proofs.lemmas.Int.{fits_signed_from_abs}
use Rattle.std.proofs.lemmas.List.Elements.{All-nil, All-cons}
use Rattle.parse_spec.specs.Rules.{Done, Take, Sub, Either, Many}
use Rattle.parse_spec.specs.Derives.{Derives}
use Rattle.parse_spec.proofs.Kept.{Listed, one, more, Keeps, kept_rest, total, IsLight, Light, light_rest}
use Rattle.raml_syntax.specs.Tree as y
use Rattle.raml_syntax.specs.Tree.{Text, Type', Term, Terms, Parameter, Function, Prog}
use Rattle.raml_syntax.specs.Node.{nodes, nodes_of_all, program_nodes, AllNodes, AllOf, NumberFits, TickFits, FewArguments, count, WithinLimits}
use Rattle.raml_syntax.specs.declared.tree.ArithOp.{ArithOp}
use Rattle.raml_syntax.specs.declared.tree.CompareOp.{CompareOp}
use Rattle.parse_table.specs.declared.token.Sign.{Sign}
use Rattle.parse_table.specs.Tokens.{Token, Name, Number, Key, same}
use Rattle.parse_table.specs.declared.token.Sign.TheVariants as s
use Rattle.parse_table.specs.Table.{Part, At, Named, Counted, Typing, Phrase, Header, Headed, Whole, Nothing, Class, Rules, key, place, name, number_to, Test, mark, inner_type_act, list_act, tree_act, option_act, pair_type_act, number_act, truth_act, nil_act, leaf_act, none_act, var_act, call_of_parts, call_act, node_act, some_act, not_act, inner_act, pair_act, typed_act, let_act, let_pair_act, if_act, match_list_act, match_tree_act, match_option_act, tick_act, arith_act, compare_act, cons_act, param_act, function_of_parts, function_act, program_of_parts, program_act, function_rule, functions_rule, text_rule, table, grammar, starts, goes}
use Rattle.parse_table.proofs.TheTable.{Forms, forms, Goings, goings}

-- an expression within the limits
abbrev Small : Term → Type 0
Small e = AllNodes FewArguments e × AllNodes NumberFits e × AllNodes TickFits e

abbrev SmallAll : Terms → Type 0
SmallAll es = AllOf FewArguments es × AllOf NumberFits es × AllOf TickFits es

-- a program within the limits but for the number of its functions
record Limited (P : Prog) : Type 0 where
  parameters : All (λ (g : Function). length g.params ≤ 8) P
  arguments : All (λ (g : Function). AllNodes FewArguments g.body) P
  numbers : All (λ (g : Function). AllNodes NumberFits g.body) P
  ticks : All (λ (g : Function). AllNodes TickFits g.body) P

abbrev Fine : Part → Type 0
Fine (Phrase e) = Small e
Fine (Headed f params A e) = (length params ≤ 8) × Small e
Fine (Whole P) = WithinLimits P
Fine _ = Unit {0}

-- WHAT A TEST ADDS

key_adds : (k : Sign) (P : List Part → Type 0) → P [] → (t : Token) (ws : List Part) → key k t ≡ Some ws → P ws
key_adds k P w (Key p j) ws e = go (same j k) e
  where
    go : (b : Bool) → (if b then Some [] else None) ≡ Some ws → P ws
    go true e = let p : [] ≡ ws = cc in subst P p w
    go false e = absurd (cc)
key_adds k P w _ ws e = absurd (cc)

place_adds : (k : Sign) (P : List Part → Type 0) → ((p : ℕ) → P (At p ∷ [])) → (t : Token) (ws : List Part) → place k t ≡ Some ws → P ws
place_adds k P w (Key p j) ws e = go (same j k) e
  where
    go : (b : Bool) → (if b then Some (At p ∷ []) else None) ≡ Some ws → P ws
    go true e = let q : At p ∷ [] ≡ ws = cc in subst P q (w p)
    go false e = absurd (cc)
place_adds k P w _ ws e = absurd (cc)

name_adds : (P : List Part → Type 0) → ((p : ℕ) (x : List ℕ) → P (Named p x ∷ [])) → (t : Token) (ws : List Part) → name t ≡ Some ws → P ws
name_adds P w (Name p x) ws e = let q : Named p x ∷ [] ≡ ws = cc in subst P q (w p x)
name_adds P w _ ws e = absurd (cc)

number_adds : (k : ℕ) (P : List Part → Type 0) → ((n : ℕ) → n ≤ k → P (Counted n ∷ [])) → (t : Token) (ws : List Part) → number_to k t ≡ Some ws → P ws
number_adds k P w (Number p n) ws e = go (nat_le n k) refl e
  where
    go : (b : Bool) → nat_le n k ≡ b → (if b then Some (Counted n ∷ []) else None) ≡ Some ws → P ws
    go true l e = let q : Counted n ∷ [] ≡ ws = cc in subst P q (w n (leb-true n k l))
    go false l e = absurd (cc)
number_adds k P w _ ws e = absurd (cc)

-- THE LIMITS

-- what a rule keeps, step by step
data Kept : Rules → List Part → Type 0 where
  end : {act : List Part → Part} {vs : List Part} → Fine (act vs) → Kept (Done act) vs
  sign : (k : Sign) {r : Rules} {vs : List Part} → Kept r vs → Kept (Take (key k) r) vs
  name' : {r : Rules} {vs : List Part} → ((p : ℕ) (x : Text) → Kept r (Named p x ∷ vs)) → Kept (Take name r) vs
  count' : (n : ℕ) {r : Rules} {vs : List Part} → ((k : ℕ) → k ≤ n → Kept r (Counted k ∷ vs)) → Kept (Take (number_to n) r) vs
  part : {c : Class} {n : ℕ} {r : Rules} {vs : List Part} → ((v : Part) → Fine v → Kept r (v ∷ vs)) → Kept (Sub c n r) vs
  either : (k : Sign) {r q : Rules} {vs : List Part} → Kept r vs → Kept q vs → Kept (Either (key k) r q) vs
  many : {k : ℕ} {f : Test} {item r : Rules} {vs : List Part} → Kept item [] → ((us : List Part) → Listed table Fine f k us → Kept r (us ++ vs)) → Kept (Many k f item r) vs

keeps : (r : Rules) (vs : List Part) → Kept r vs → Keeps table Fine r vs
keeps _ vs (end w) = w
keeps _ vs (sign k {r = r} w) = key_adds k (λ ws. Keeps table Fine r (ws ++ vs)) (keeps r vs w)
keeps _ vs (name' {r = r} w) = name_adds (λ ws. Keeps table Fine r (ws ++ vs)) (λ p x. keeps r (Named p x ∷ vs) (w p x))
keeps _ vs (count' n {r = r} w) = number_adds n (λ ws. Keeps table Fine r (ws ++ vs)) (λ k le. keeps r (Counted k ∷ vs) (w k le))
keeps _ vs (part {r = r} w) = λ v u. keeps r (v ∷ vs) (w v u)
keeps _ vs (either k {r = r} {q = q} w x) = (key_adds k (λ ws. Keeps table Fine r (ws ++ vs)) (keeps r vs w), keeps q vs x)
keeps _ vs (many {item = item} {r = r} w x) = (keeps item [] w, λ us l. keeps r (us ++ vs) (x us l))

node_fine : (p : ℕ) (c b a : Part) → Fine a → Fine b → Fine c → Fine (node_act (c ∷ b ∷ a ∷ At p ∷ []))
node_fine p (Phrase c) (Phrase b) (Phrase a) u v w = ((tt, u.0, v.0, w.0), (tt, u.1, v.1, w.1), (tt, u.2, v.2, w.2))
node_fine p _ _ _ u v w = tt

some_fine : (p : ℕ) (a : Part) → Fine a → Fine (some_act (a ∷ At p ∷ []))
some_fine p (Phrase a) u = ((tt, u.0), (tt, u.1), (tt, u.2))
some_fine p _ u = tt

not_fine : (p : ℕ) (a : Part) → Fine a → Fine (not_act (a ∷ At p ∷ []))
not_fine p (Phrase a) u = ((tt, u.0), (tt, u.1), (tt, u.2))
not_fine p _ u = tt

inner_fine : (a : Part) (ps : List Part) → Fine a → Fine (inner_act (a ∷ ps))
inner_fine (Phrase a) ps u = u
inner_fine _ ps u = tt

pair_fine : (p : ℕ) (b a : Part) → Fine a → Fine b → Fine (pair_act (b ∷ a ∷ At p ∷ []))
pair_fine p (Phrase b) (Phrase a) u v = ((tt, u.0, v.0), (tt, u.1, v.1), (tt, u.2, v.2))
pair_fine p _ _ u v = tt

typed_fine : (p : ℕ) (A a : Part) → Fine a → Fine (typed_act (A ∷ a ∷ At p ∷ []))
typed_fine p (Typing A) (Phrase a) u = ((tt, u.0), (tt, u.1), (tt, u.2))
typed_fine p _ _ u = tt

let_fine : (p q : ℕ) (x : Text) (b a : Part) → Fine a → Fine b → Fine (let_act (b ∷ a ∷ Named q x ∷ At p ∷ []))
let_fine p q x (Phrase b) (Phrase a) u v = ((tt, u.0, v.0), (tt, u.1, v.1), (tt, u.2, v.2))
let_fine p q x _ _ u v = tt

let_pair_fine : (p q r : ℕ) (x y : Text) (b a : Part) → Fine a → Fine b → Fine (let_pair_act (b ∷ a ∷ Named r y ∷ Named q x ∷ At p ∷ []))
let_pair_fine p q r x y (Phrase b) (Phrase a) u v = ((tt, u.0, v.0), (tt, u.1, v.1), (tt, u.2, v.2))
let_pair_fine p q r x y _ _ u v = tt

if_fine : (p : ℕ) (b a c : Part) → Fine c → Fine a → Fine b → Fine (if_act (b ∷ a ∷ c ∷ At p ∷ []))
if_fine p (Phrase b) (Phrase a) (Phrase c) u v w = ((tt, u.0, v.0, w.0), (tt, u.1, v.1, w.1), (tt, u.2, v.2, w.2))
if_fine p _ _ _ u v w = tt

list_fine : (p q r : ℕ) (x y : Text) (b a c : Part) → Fine c → Fine a → Fine b → Fine (match_list_act (b ∷ Named r y ∷ Named q x ∷ a ∷ c ∷ At p ∷ []))
list_fine p q r x y (Phrase b) (Phrase a) (Phrase c) u v w = ((tt, u.0, v.0, w.0), (tt, u.1, v.1, w.1), (tt, u.2, v.2, w.2))
list_fine p q r x y _ _ _ u v w = tt

tree_fine : (p q r l : ℕ) (x y z : Text) (b a c : Part) → Fine c → Fine a → Fine b → Fine (match_tree_act (b ∷ Named l z ∷ Named r y ∷ Named q x ∷ a ∷ c ∷ At p ∷ []))
tree_fine p q r l x y z (Phrase b) (Phrase a) (Phrase c) u v w = ((tt, u.0, v.0, w.0), (tt, u.1, v.1, w.1), (tt, u.2, v.2, w.2))
tree_fine p q r l x y z _ _ _ u v w = tt

option_fine : (p q : ℕ) (x : Text) (b a c : Part) → Fine c → Fine a → Fine b → Fine (match_option_act (b ∷ Named q x ∷ a ∷ c ∷ At p ∷ []))
option_fine p q x (Phrase b) (Phrase a) (Phrase c) u v w = ((tt, u.0, v.0, w.0), (tt, u.1, v.1, w.1), (tt, u.2, v.2, w.2))
option_fine p q x _ _ _ u v w = tt

tick_fine : (p n : ℕ) → n ≤ 1000000 → (a : Part) → Fine a → Fine (tick_act (a ∷ Counted n ∷ At p ∷ []))
tick_fine p n le (Phrase a) u = ((tt, u.0), (tt, u.1), (le, u.2))
tick_fine p n le _ u = tt

arith_fine : (o : ArithOp) (p : ℕ) (b a : Part) → Fine a → Fine b → Fine (arith_act o (b ∷ a ∷ At p ∷ []))
arith_fine o p (Phrase b) (Phrase a) u v = ((tt, u.0, v.0), (tt, u.1, v.1), (tt, u.2, v.2))
arith_fine o p _ _ u v = tt

compare_fine : (o : CompareOp) (p : ℕ) (b a : Part) → Fine a → Fine b → Fine (compare_act o (b ∷ a ∷ At p ∷ []))
compare_fine o p (Phrase b) (Phrase a) u v = ((tt, u.0, v.0), (tt, u.1, v.1), (tt, u.2, v.2))
compare_fine o p _ _ u v = tt

cons_fine : (p : ℕ) (b a : Part) → Fine a → Fine b → Fine (cons_act (b ∷ a ∷ At p ∷ []))
cons_fine p (Phrase b) (Phrase a) u v = ((tt, u.0, v.0), (tt, u.1, v.1), (tt, u.2, v.2))
cons_fine p _ _ u v = tt

-- a type takes part in no limit
type_fine : (act : List Part → Part) (vs : List Part) → Fine (act vs) → Fine (act vs)
type_fine act vs w = w

inner_type_fine : (ps : List Part) → Fine (inner_type_act ps)
inner_type_fine (Typing A ∷ ps) = tt
inner_type_fine _ = tt

list_type_fine : (ps : List Part) → Fine (list_act ps)
list_type_fine (Typing A ∷ ps) = tt
list_type_fine _ = tt

tree_type_fine : (ps : List Part) → Fine (tree_act ps)
tree_type_fine (Typing A ∷ ps) = tt
tree_type_fine _ = tt

option_type_fine : (ps : List Part) → Fine (option_act ps)
option_type_fine (Typing A ∷ ps) = tt
option_type_fine _ = tt

pair_type_fine : (ps : List Part) → Fine (pair_type_act ps)
pair_type_fine (Typing B ∷ Typing A ∷ ps) = tt
pair_type_fine _ = tt

param_fine : (ps : List Part) → Fine (param_act ps)
param_fine (Typing A ∷ Named p x ∷ ps) = tt
param_fine _ = tt

-- A CALL: the arguments of a list with commas, those behind them in args

comma_adds : (t : Token) (ws : List Part) → key s.Comma t ≡ Some ws → ws ≡ []
comma_adds t ws e = key_adds s.Comma (λ ws. ws ≡ []) refl t ws e

call_step : (f : Text) (args : Terms) → SmallAll args → count args ≤ 7 → (v : Part) → Fine v → (ps : List Part) → ((es : Terms) → SmallAll es → count es ≤ suc (count args) → Fine (call_of_parts f es ps)) → Fine (call_of_parts f args (v ∷ ps))
call_step f args w le (Phrase e) u ps go = go (y.More e args) ((u.0, w.0), (u.1, w.1), (u.2, w.2)) (omega arith)
call_step f args w le (At p) u ps go = ((omega (arith, le), w.0), (tt, w.1), (tt, w.2))
call_step f args w le _ u ps go = tt

call_end : (f : Text) (args : Terms) → SmallAll args → count args ≤ 8 → (p : ℕ) → Fine (call_of_parts f args (At p ∷ []))
call_end f args w le p = ((le, w.0), (tt, w.1), (tt, w.2))

call_fine : (f : Text) (k : ℕ) (us : List Part) → Listed table Fine (key s.Comma) k us → (args : Terms) → SmallAll args → count args + suc k ≤ 8 → (p : ℕ) → Fine (call_of_parts f args (us ++ At p ∷ []))
call_fine f k us (one {v = v} u) args w le p = call_step f args w (omega (arith, le)) v u (At p ∷ []) (λ es x fit. call_end f es x (omega (arith, fit, le)) p)
call_fine f k us (more {k = j} {v = v} {ws = ws} {vs = vs} {t = t} u e l eq) args w le p =
    let none : ws ≡ [] = comma_adds t ws e in
    let same : us ≡ v ∷ vs = eq ∙ ap (λ ws. v ∷ (ws ++ vs)) none in
    subst (λ us. Fine (call_of_parts f args (us ++ At p ∷ []))) (sym same) (call_step f args w (omega (arith, le)) v u (vs ++ At p ∷ []) (λ es x fit. call_fine f j vs l es x (omega (arith, fit, le)) p))

-- A FUNCTION

-- the parameters that stand at the front
abbrev fronts : List Part → ℕ
fronts (Header q ∷ ps) = suc (fronts ps)
fronts _ = 0

function_fine : (A : Type') (e : Term) → Small e → (params : List Parameter) (ps : List Part) → length params + fronts ps ≤ 8 → Fine (function_of_parts A e params ps)
function_fine A e w params (Header q ∷ ps) le = function_fine A e w (q ∷ params) ps (omega (arith, le))
function_fine A e w params (Named q f ∷ ps) le = (omega (arith, le), w)
function_fine A e w params _ le = tt

fronts_less : (v : Part) (ps : List Part) → fronts (v ∷ ps) ≤ suc (fronts ps)
fronts_less (Header q) ps = omega arith
fronts_less _ ps = omega arith

-- at most 8 of a list with commas
few_fronts : (k : ℕ) (us : List Part) → Listed table Fine (key s.Comma) k us → (base : List Part) → fronts base ≡ 0 → fronts (us ++ base) ≤ suc k
few_fronts k us (one {v = v} w) base q = let p = fronts_less v base in omega (arith, p, q)
few_fronts k us (more {k = j} {v = v} {ws = ws} {vs = vs} {t = t} w p l eq) base q =
    let none : ws ≡ [] = comma_adds t ws p in
    let same : us ≡ v ∷ vs = eq ∙ ap (λ ws. v ∷ (ws ++ vs)) none in
    let n = few_fronts j vs l base q in
    let m = fronts_less v (vs ++ base) in
    omega (arith, n, m, ap (λ us. fronts (us ++ base)) same)

function_keeps : (us : List Part) → Listed table Fine (key s.Comma) 7 us → (q : ℕ) (f : List ℕ) (e : Part) → Fine e → (A : Part) → Fine (function_act (e ∷ A ∷ (us ++ Named q f ∷ [])))
function_keeps us l q f (Phrase e) w (Typing A) = function_fine A e w [] (us ++ Named q f ∷ []) (omega (arith, few_fronts 7 us l (Named q f ∷ []) refl))
function_keeps us l q f _ w _ = tt

-- THE PROGRAM: the functions of a list, those behind them in P

more_limited : (g : Function) → length g.params ≤ 8 → Small g.body → (P : Prog) → Limited P → Limited (g ∷ P)
more_limited g le w P l = record {
  parameters = All-cons (λ (g : Function). length g.params ≤ 8) g P le l.parameters;
  arguments = All-cons (λ (g : Function). AllNodes FewArguments g.body) g P w.0 l.arguments;
  numbers = All-cons (λ (g : Function). AllNodes NumberFits g.body) g P w.1 l.numbers;
  ticks = All-cons (λ (g : Function). AllNodes TickFits g.body) g P w.2 l.ticks;
}

none_limited : Limited []
none_limited = record {
  parameters = All-nil (λ (g : Function). length g.params ≤ 8);
  arguments = All-nil (λ (g : Function). AllNodes FewArguments g.body);
  numbers = All-nil (λ (g : Function). AllNodes NumberFits g.body);
  ticks = All-nil (λ (g : Function). AllNodes TickFits g.body);
}

program_step : (P : Prog) → Limited P → (v : Part) → Fine v → (p : ℕ) (ps : List Part) → ((g : Function) → Limited (g ∷ P) → Fine (program_of_parts (g ∷ P) ps)) → Fine (program_of_parts P (v ∷ At p ∷ ps))
program_step P l (Headed f params A e) u p ps go = go (record { at = p; name = f; params = params; result = A; body = e }) (more_limited _ u.0 u.1 P l)
program_step P l _ u p ps go = tt

program_fine : (k : ℕ) (us : List Part) → Listed table Fine (place s.Fun) k us → (P : Prog) → Limited P → length P + suc k ≤ 256 → (p : ℕ) → Fine (program_of_parts P (us ++ At p ∷ []))
program_fine k us (one {v = v} u) P l le p = program_step P l v u p [] (λ g m. record { functions = omega (arith, le); parameters = m.parameters; arguments = m.arguments; numbers = m.numbers; ticks = m.ticks })
program_fine k us (more {k = j} {v = v} {ws = ws} {vs = vs} {t = t} u e l' eq) P l le p =
    subst (λ us. Fine (program_of_parts P (us ++ At p ∷ []))) (sym eq)
    (place_adds s.Fun (λ ws. Fine (program_of_parts P ((v ∷ (ws ++ vs)) ++ At p ∷ []))) (λ q. program_step P l v u q (vs ++ At p ∷ []) (λ g m. program_fine j vs l' (g ∷ P) m (omega (arith, le)) p)) t ws e)

-- ALL RULES

abbrev StartsKeep : Class → ℕ × Rules → Type 0
StartsKeep c y = (p : ℕ) → Kept y.1 (At p ∷ [])

starts_kept : Forms StartsKeep
starts_kept = record {
  int = λ p. end tt;
  bool = λ p. end tt;
  inner_type = λ p. part (λ A w. sign s.Close (end (inner_type_fine (A ∷ At p ∷ []))));
  variable = λ x p. either s.Open (many (part (λ a w. end (inner_fine a [] w))) (λ us l. sign s.Close (end (call_fine x 7 us l y.None (tt, tt, tt) (omega arith) p)))) (end (tt, tt, tt));
  number = λ n le p. end (tt, fits_signed_from_abs w64 (pos n) (omega (arith, le)), tt);
  truth = λ b p. end (tt, tt, tt);
  nil = λ p. end (tt, tt, tt);
  leaf = λ p. end (tt, tt, tt);
  nothing = λ p. end (tt, tt, tt);
  node = λ p. sign s.Open (part (λ a u. sign s.Comma (part (λ b v. sign s.Comma (part (λ c w. sign s.Close (end (node_fine p c b a u v w))))))));
  just = λ p. sign s.Open (part (λ a u. sign s.Close (end (some_fine p a u))));
  negation = λ p. part (λ a u. end (not_fine p a u));
  parens = λ p. part (λ a u. either s.Comma (part (λ b v. sign s.Close (end (pair_fine p b a u v)))) (either s.Colon (part (λ A v. sign s.Close (end (typed_fine p A a u)))) (sign s.Close (end (inner_fine a (At p ∷ []) u)))));
  binding = λ p. either s.Open
      (name' (λ q x. sign s.Comma (name' (λ r y. sign s.Close (sign s.Equal (part (λ a u. sign s.In (part (λ b v. end (let_pair_fine p q r x y b a u v))))))))))
      (name' (λ q x. sign s.Equal (part (λ a u. sign s.In (part (λ b v. end (let_fine p q x b a u v)))))));
  choice = λ p. part (λ c u. sign s.Then (part (λ a v. sign s.Else (part (λ b w. end (if_fine p b a c u v w))))));
  cases = λ p. part (λ c u. sign s.With (either s.Nil
      (sign s.Arrow (part (λ a v. sign s.Bar (name' (λ q x. sign s.Cons (name' (λ r y. sign s.Arrow (part (λ b w. end (list_fine p q r x y b a c u v w))))))))))
      (either s.Nothing
      (sign s.Arrow (part (λ a v. sign s.Bar (sign s.Just (sign s.Open (name' (λ q x. sign s.Close (sign s.Arrow (part (λ b w. end (option_fine p q x b a c u v w)))))))))))
      (sign s.Leaf (sign s.Arrow (part (λ a v. sign s.Bar (sign s.Node (sign s.Open (name' (λ q x. sign s.Comma (name' (λ r y. sign s.Comma (name' (λ l z. sign s.Close (sign s.Arrow (part (λ b w. end (tree_fine p q r l x y z b a c u v w)))))))))))))))))));
  tick = λ p. count' 1000000 (λ n le. sign s.In (part (λ a u. end (tick_fine p n le a u))));
}

starts_keep : (c : Class) (t : Token) (n : ℕ) (r : Rules) → starts c t ≡ Some (n, r) → Keeps table Fine r (mark t ∷ [])
starts_keep c t n r e = keeps r (mark t ∷ []) (marked t)
  where
    all : (p : ℕ) → Kept r (At p ∷ [])
    all = forms StartsKeep starts_kept c t (n, r) e

    marked : (u : Token) → Kept r (mark u ∷ [])
    marked (Name p x) = all p
    marked (Number p n) = all p
    marked (Key p k) = all p

abbrev GoesKeep : Class → Token → ℕ × Rules → Type 0
GoesKeep c t y = (p : ℕ) (a : Part) → Fine a → Kept y.1 (a ∷ At p ∷ [])

goes_kept : Goings GoesKeep
goes_kept = record {
  list = λ i p a u. end (list_type_fine (a ∷ At p ∷ []));
  tree = λ i p a u. end (tree_type_fine (a ∷ At p ∷ []));
  option = λ i p a u. end (option_type_fine (a ∷ At p ∷ []));
  pair = λ i p a u. part (λ b v. end (pair_type_fine (b ∷ a ∷ At p ∷ [])));
  times = λ i p a u. part (λ b v. end (arith_fine _ p b a u v));
  quotient = λ i p a u. part (λ b v. end (arith_fine _ p b a u v));
  remainder = λ i p a u. part (λ b v. end (arith_fine _ p b a u v));
  plus = λ i p a u. part (λ b v. end (arith_fine _ p b a u v));
  minus = λ i p a u. part (λ b v. end (arith_fine _ p b a u v));
  cons = λ i p a u. part (λ b v. end (cons_fine p b a u v));
  equal = λ i p a u. part (λ b v. end (compare_fine _ p b a u v));
  less = λ i p a u. part (λ b v. end (compare_fine _ p b a u v));
  at_most = λ i p a u. part (λ b v. end (compare_fine _ p b a u v));
}

goes_keep : (c : Class) (t u : Token) (n : ℕ) (r : Rules) (e : Part) → goes c t ≡ Some (n, r) → Fine e → Keeps table Fine r (e ∷ mark u ∷ [])
goes_keep c t u n r e q w = keeps r (e ∷ mark u ∷ []) (marked u)
  where
    all : (p : ℕ) (a : Part) → Fine a → Kept r (a ∷ At p ∷ [])
    all = goings GoesKeep goes_kept c t (n, r) q

    marked : (u : Token) → Kept r (e ∷ mark u ∷ [])
    marked (Name p x) = all p e w
    marked (Number p n) = all p e w
    marked (Key p k) = all p e w

function_kept : Kept function_rule []
function_kept = name' (λ q f. sign s.Open (many (name' (λ r x. sign s.Colon (part (λ A w. end (param_fine (A ∷ Named r x ∷ [])))))) (λ us l. sign s.Close (sign s.Colon (part (λ A v. sign s.Equal (part (λ e w. end (function_keeps us l q f e w A)))))))))

text_keeps : Keeps table Fine text_rule []
text_keeps = place_adds s.Fun (λ ws. Keeps table Fine functions_rule (ws ++ [])) (λ p. keeps functions_rule (At p ∷ []) (many function_kept (λ us l. end (program_fine 255 us l [] none_limited (omega arith) p))))

pub within_limits : (d : ℕ) (s : List Token) (P : Prog) → Derives grammar 0 d s (Whole P) → WithinLimits P
unfolding grammar
within_limits d s P w = kept_rest table Fine starts_keep goes_keep w.is text_keeps

-- THE NODES: no action makes nodes of nothing

abbrev weight : Part → ℕ
weight (Phrase e) = nodes e
weight (Headed f params A e) = nodes e
weight (Whole P) = program_nodes P
weight (Typing A) = 0
weight (Header q) = 0
weight Nothing = 0
weight _ = 1

abbrev sum : List Part → ℕ
sum = total table weight

abbrev LightAct : (List Part → Part) → Type 0
LightAct act = (vs : List Part) → weight (act vs) ≤ sum vs

inner_type_light : LightAct inner_type_act
inner_type_light (Typing A ∷ ps) = omega arith
inner_type_light _ = omega arith

list_type_light : LightAct list_act
list_type_light (Typing A ∷ ps) = omega arith
list_type_light _ = omega arith

tree_type_light : LightAct tree_act
tree_type_light (Typing A ∷ ps) = omega arith
tree_type_light _ = omega arith

option_type_light : LightAct option_act
option_type_light (Typing A ∷ ps) = omega arith
option_type_light _ = omega arith

pair_type_light : LightAct pair_type_act
pair_type_light (Typing B ∷ Typing A ∷ ps) = omega arith
pair_type_light _ = omega arith

number_light : (n : ℤ) → LightAct (number_act n)
number_light n (At p ∷ ps) = omega arith
number_light n _ = omega arith

truth_light : (b : Bool) → LightAct (truth_act b)
truth_light b (At p ∷ ps) = omega arith
truth_light b _ = omega arith

nil_light : LightAct nil_act
nil_light (At p ∷ ps) = omega arith
nil_light _ = omega arith

leaf_light : LightAct leaf_act
leaf_light (At p ∷ ps) = omega arith
leaf_light _ = omega arith

none_light : LightAct none_act
none_light (At p ∷ ps) = omega arith
none_light _ = omega arith

var_light : (x : Text) → LightAct (var_act x)
var_light x (At p ∷ ps) = omega arith
var_light x _ = omega arith

parts_light : (f : Text) (args : Terms) (vs : List Part) → weight (call_of_parts f args vs) ≤ nodes_of_all args + sum vs
parts_light f args (Phrase e ∷ ps) = let p = parts_light f (y.More e args) ps in omega (arith, p)
parts_light f args (At p ∷ ps) = omega arith
parts_light f args _ = omega arith

call_light : (f : Text) → LightAct (call_act f)
call_light f vs = let p = parts_light f y.None vs in omega (arith, p)

node_light : LightAct node_act
node_light (Phrase c ∷ Phrase b ∷ Phrase a ∷ At p ∷ ps) = omega arith
node_light _ = omega arith

some_light : LightAct some_act
some_light (Phrase e ∷ At p ∷ ps) = omega arith
some_light _ = omega arith

not_light : LightAct not_act
not_light (Phrase e ∷ At p ∷ ps) = omega arith
not_light _ = omega arith

inner_light : LightAct inner_act
inner_light (Phrase e ∷ ps) = omega arith
inner_light _ = omega arith

pair_light : LightAct pair_act
pair_light (Phrase b ∷ Phrase a ∷ At p ∷ ps) = omega arith
pair_light _ = omega arith

typed_light : LightAct typed_act
typed_light (Typing A ∷ Phrase e ∷ At p ∷ ps) = omega arith
typed_light _ = omega arith

let_light : LightAct let_act
let_light (Phrase b ∷ Phrase a ∷ Named q x ∷ At p ∷ ps) = omega arith
let_light _ = omega arith

let_pair_light : LightAct let_pair_act
let_pair_light (Phrase b ∷ Phrase a ∷ Named r y ∷ Named q x ∷ At p ∷ ps) = omega arith
let_pair_light _ = omega arith

if_light : LightAct if_act
if_light (Phrase b ∷ Phrase a ∷ Phrase c ∷ At p ∷ ps) = omega arith
if_light _ = omega arith

match_list_light : LightAct match_list_act
match_list_light (Phrase b ∷ Named r y ∷ Named q x ∷ Phrase a ∷ Phrase e ∷ At p ∷ ps) = omega arith
match_list_light _ = omega arith

match_tree_light : LightAct match_tree_act
match_tree_light (Phrase b ∷ Named u z ∷ Named r y ∷ Named q x ∷ Phrase a ∷ Phrase e ∷ At p ∷ ps) = omega arith
match_tree_light _ = omega arith

match_option_light : LightAct match_option_act
match_option_light (Phrase b ∷ Named q x ∷ Phrase a ∷ Phrase e ∷ At p ∷ ps) = omega arith
match_option_light _ = omega arith

tick_light : LightAct tick_act
tick_light (Phrase e ∷ Counted n ∷ At p ∷ ps) = omega arith
tick_light _ = omega arith

arith_light : (o : ArithOp) → LightAct (arith_act o)
arith_light o (Phrase b ∷ Phrase a ∷ At p ∷ ps) = omega arith
arith_light o _ = omega arith

compare_light : (o : CompareOp) → LightAct (compare_act o)
compare_light o (Phrase b ∷ Phrase a ∷ At p ∷ ps) = omega arith
compare_light o _ = omega arith

cons_light : LightAct cons_act
cons_light (Phrase b ∷ Phrase a ∷ At p ∷ ps) = omega arith
cons_light _ = omega arith

param_light : LightAct param_act
param_light (Typing A ∷ Named p x ∷ ps) = omega arith
param_light _ = omega arith

head_light : (A : Type') (e : Term) (params : List Parameter) (ps : List Part) → weight (function_of_parts A e params ps) ≤ nodes e
head_light A e params (Header q ∷ ps) = head_light A e (q ∷ params) ps
head_light A e params (Named q f ∷ ps) = omega arith
head_light A e params _ = omega arith

function_light : LightAct function_act
function_light (Phrase e ∷ Typing A ∷ ps) = let p = head_light A e [] ps in omega (arith, p)
function_light _ = omega arith

functions_light : (P : Prog) (vs : List Part) → weight (program_of_parts P vs) ≤ program_nodes P + sum vs
functions_light P (Headed f params A e ∷ At p ∷ ps) = let q = functions_light (record { at = p; name = f; params = params; result = A; body = e } ∷ P) ps in omega (arith, q)
functions_light P [] = omega arith
functions_light P _ = omega arith

program_light : LightAct program_act
program_light vs = let p = functions_light [] vs in omega (arith, p)

key_light : (k : Sign) → IsLight table weight (key k)
key_light k t ws e = key_adds k (λ ws. sum ws ≤ 1) (omega arith) t ws e

place_light : (k : Sign) → IsLight table weight (place k)
place_light k t ws e = place_adds k (λ ws. sum ws ≤ 1) (λ p. omega arith) t ws e

name_light : IsLight table weight name
name_light t ws e = name_adds (λ ws. sum ws ≤ 1) (λ p x. omega arith) t ws e

mark_light : (t : Token) → weight (mark t) ≤ 1
mark_light (Name p x) = omega arith
mark_light (Number p n) = omega arith
mark_light (Key p k) = omega arith

starts_light : (c : Class) (t : Token) (n : ℕ) (r : Rules) → starts c t ≡ Some (n, r) → Light table weight r
starts_light c t n r e =
    forms (λ c y. Light table weight y.1) (record {
      int = λ vs. omega arith;
      bool = λ vs. omega arith;
      inner_type = (key_light s.Close, inner_type_light);
      variable = λ x. (key_light s.Open, (key_light s.Comma, inner_light, (key_light s.Close, call_light x)), var_light x);
      number = λ n le. number_light (pos n);
      truth = truth_light;
      nil = nil_light;
      leaf = leaf_light;
      nothing = none_light;
      node = (key_light s.Open, (key_light s.Comma, (key_light s.Comma, (key_light s.Close, node_light))));
      just = (key_light s.Open, (key_light s.Close, some_light));
      negation = not_light;
      parens = (key_light s.Comma, (key_light s.Close, pair_light), (key_light s.Colon, (key_light s.Close, typed_light), (key_light s.Close, inner_light)));
      binding = (key_light s.Open, (name_light, (key_light s.Comma, (name_light, (key_light s.Close, (key_light s.Equal, (key_light s.In, let_pair_light)))))), (name_light, (key_light s.Equal, (key_light s.In, let_light))));
      choice = (key_light s.Then, (key_light s.Else, if_light));
      cases = (
        key_light s.With,
        (
          key_light s.Nil,
          (key_light s.Arrow, (key_light s.Bar, (name_light, (key_light s.Cons, (name_light, (key_light s.Arrow, match_list_light)))))),
          (
            key_light s.Nothing,
            (key_light s.Arrow, (key_light s.Bar, (key_light s.Just, (key_light s.Open, (name_light, (key_light s.Close, (key_light s.Arrow, match_option_light))))))),
            (key_light s.Leaf, (key_light s.Arrow, (key_light s.Bar, (key_light s.Node, (key_light s.Open, (name_light, (key_light s.Comma, (name_light, (key_light s.Comma, (name_light, (key_light s.Close, (key_light s.Arrow, match_tree_light)))))))))))),
          ),
        ),
      );
      tick = (number_adds 1000000 (λ ws. sum ws ≤ 1) (λ n le. omega arith), (key_light s.In, tick_light));
    }) c t (n, r) e

goes_light : (c : Class) (t : Token) (n : ℕ) (r : Rules) → goes c t ≡ Some (n, r) → Light table weight r
goes_light c t n r e = goings (λ c t y. Light table weight y.1) (record {
  list = λ p. list_type_light;
  tree = λ p. tree_type_light;
  option = λ p. option_type_light;
  pair = λ p. pair_type_light;
  times = λ p. arith_light _;
  quotient = λ p. arith_light _;
  remainder = λ p. arith_light _;
  plus = λ p. arith_light _;
  minus = λ p. arith_light _;
  cons = λ p. cons_light;
  equal = λ p. compare_light _;
  less = λ p. compare_light _;
  at_most = λ p. compare_light _;
}) c t (n, r) e

text_light : Light table weight text_rule
text_light = (
  place_light s.Fun,
  (
    place_light s.Fun,
    (name_light, (key_light s.Open, (key_light s.Comma, (name_light, (key_light s.Colon, param_light)), (key_light s.Close, (key_light s.Colon, (key_light s.Equal, function_light)))))),
    program_light,
  ),
)

pub few_nodes : (d : ℕ) (s : List Token) (P : Prog) → Derives grammar 0 d s (Whole P) → program_nodes P ≤ length s
unfolding grammar
few_nodes d s P w = let p = light_rest table weight mark_light starts_light goes_light w.is text_light in omega (arith, p)
