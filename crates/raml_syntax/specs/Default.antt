-- Evaluations that meet no default.
use Rattle.std.specs.Prelude.{◌≡◌, ℕ, zero, suc, List, [], ◌∷◌, length, true, false, cond, Option, Some, None}
use Rattle.std.specs.Str.{bytes_eq}
use Rattle.raml_syntax.specs.Tree as t
use Rattle.raml_syntax.specs.Tree.{Text, Bound, Function, Prog}
use Rattle.raml_syntax.specs.Value.{Value, Number, Truth, Both, Empty, Cons, Node, Just}
use Rattle.raml_syntax.specs.Eval.{Run, Env, Calls, walk, walk_all, find, names_of, bind_all, calls_at}

-- each value that the run gives
abbrev pub Each : {A : Type 0} → Run A → (A → Type 0) → Type 0
Each r Q = (v : _) → r.out ≡ Some v → Q v

abbrev pub IsNumber : Value → Type 0
IsNumber (Number n) = Unit {0}
IsNumber _ = ⊥

abbrev pub IsTruth : Value → Type 0
IsTruth (Truth b) = Unit {0}
IsTruth _ = ⊥

-- there is a variable of this name
abbrev pub IsBound : Text → Env → Type 0
IsBound x [] = ⊥
IsBound x (b ∷ env) = cond (bytes_eq x b.0) (Unit {0}) (IsBound x env)

-- what holds of the branch that is taken, which a value of another kind does not take
abbrev pub Taken : Value → Type 0 → Type 0 → Type 0
Taken (Truth true) A B = A
Taken (Truth false) A B = B
Taken _ A B = ⊥

abbrev pub TakenPair : Value → (Value → Value → Type 0) → Type 0
TakenPair (Both v w) F = F v w
TakenPair _ F = ⊥

abbrev pub TakenList : Value → Type 0 → (Value → Value → Type 0) → Type 0
TakenList Empty A F = A
TakenList (Cons h r) A F = F h r
TakenList _ A F = ⊥

abbrev pub TakenTree : Value → Type 0 → (Value → Value → Value → Type 0) → Type 0
TakenTree Empty A F = A
TakenTree (Node e l r) A F = F e l r
TakenTree _ A F = ⊥

abbrev pub TakenOption : Value → Type 0 → (Value → Type 0) → Type 0
TakenOption Empty A F = A
TakenOption (Just v) A F = F v
TakenOption _ A F = ⊥

-- what is asked of a call
abbrev pub Asked : Type 1
Asked = Text → List Value → Type 0

-- the evaluation of an expression, where its calls are as they are asked to be
module _ (call : Calls) (asked : Asked) where
  abbrev mutual
    pub NoDefault : t.Term → Env → Type 0
    NoDefault (t.Number p n) env = Unit {0}
    NoDefault (t.Truth p b) env = Unit {0}
    NoDefault (t.Nil p) env = Unit {0}
    NoDefault (t.Leaf p) env = Unit {0}
    NoDefault (t.Nothing p) env = Unit {0}
    NoDefault (t.Var p x) env = IsBound x env
    NoDefault (t.Arith p op a b) env = NoDefault a env × NoDefault b env × Each (walk call a env) IsNumber × Each (walk call b env) IsNumber
    NoDefault (t.Compare p op a b) env =
        NoDefault a env × NoDefault b env × Each (walk call a env) IsNumber × Each (walk call b env) IsNumber
    NoDefault (t.Not p a) env = NoDefault a env × Each (walk call a env) IsTruth
    NoDefault (t.Pair p a b) env = NoDefault a env × NoDefault b env
    NoDefault (t.Cons p a b) env = NoDefault a env × NoDefault b env
    NoDefault (t.Node p a b c) env = NoDefault a env × NoDefault b env × NoDefault c env
    NoDefault (t.Just p a) env = NoDefault a env
    NoDefault (t.Call p f args) env = NoDefaults args env × Each (walk_all call args env) (asked f)
    NoDefault (t.Let p x a b) env = NoDefault a env × Each (walk call a env) (λ v. NoDefault b ((x.name, v) ∷ env))
    NoDefault (t.LetPair p x y a b) env =
        NoDefault a env × Each (walk call a env) (λ v. TakenPair v (λ s r. NoDefault b ((y.name, r) ∷ (x.name, s) ∷ env)))
    NoDefault (t.If p c a b) env = NoDefault c env × Each (walk call c env) (λ v. Taken v (NoDefault a env) (NoDefault b env))
    NoDefault (t.MatchList p c a x y b) env =
        NoDefault c env × Each (walk call c env) (λ v. TakenList v (NoDefault a env) (λ h r. NoDefault b ((y.name, r) ∷ (x.name, h) ∷ env)))
    NoDefault (t.MatchTree p c a x y z b) env =
        NoDefault c env × Each (walk call c env)
        (λ v. TakenTree v (NoDefault a env) (λ e l r. NoDefault b ((z.name, r) ∷ (y.name, l) ∷ (x.name, e) ∷ env)))
    NoDefault (t.MatchOption p c a x b) env =
        NoDefault c env × Each (walk call c env) (λ v. TakenOption v (NoDefault a env) (λ w. NoDefault b ((x.name, w) ∷ env)))
    NoDefault (t.Tick p k a) env = NoDefault a env
    NoDefault (t.Typed p a A) env = NoDefault a env

    pub NoDefaults : t.Terms → Env → Type 0
    NoDefaults t.None env = Unit {0}
    NoDefaults (t.More a rest) env = NoDefault a env × NoDefaults rest env

-- the function is there with as many parameters, and its body is as stated
abbrev pub Enters : (t.Term → Env → Type 0) → Option Function → List Value → Type 0
Enters Body None vs = ⊥
Enters Body (Some g) vs = (length vs ≡ length g.params) × Body g.body (bind_all [] (names_of g) vs)

-- a call meets no default at a limit: the function is there, and at a limit above 0 its body meets none at one less
abbrev pub CallMeetsNone : Prog → ℕ → Asked
CallMeetsNone P zero f vs = Enters (λ e env. Unit {0}) (find f P) vs
CallMeetsNone P (suc n) f vs = Enters (NoDefault (calls_at P n) (CallMeetsNone P n)) (find f P) vs
