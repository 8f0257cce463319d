-- Code that stands at a place, the names and values of an environment, and arguments on the stack.
use Rattle.std.proofs.Common.{◌≡◌, ℕ, zero, suc, ◌+◌, ◌-◌, ◌<◌, ◌≤◌, List, [], ◌∷◌, ◌++◌, length, take, Bool, true, false, cond, Option, Some, refl, sym, ap, ◌∙◌, subst, arith, append_assoc, length-append}
use Rattle.std.specs.Prelude.{slice_get}
use Rattle.std.specs.Str.{bytes_eq}
use Rattle.std.proofs.Math.Seq.{get_or-append_seam, take-append_seam}
use Rattle.std.proofs.lemmas.List.{append-nil}
use Rattle.std.proofs.lemmas.Option.{slice_get-get_or}
use Rattle.stack_compile.proofs.Places.{newest_behind}
use Rattle.raml_syntax.specs.Tree.{Text}
use Rattle.raml_syntax.specs.Value.{Value}
use Rattle.raml_syntax.specs.Eval.{Env, look, bind_all}
use Rattle.raml_syntax.specs.Default.{IsBound}
use Rattle.stack_compile.specs.Code.{Code, fork, local_of}
use Rattle.stack_compile.specs.Machine.{local, popped, left, unbind}
use Rattle.stack_compile.specs.declared.instr.Instr.{Instr}
use Rattle.stack_compile.specs.declared.instr.Instr.TheVariants.{Jump}

-- the instructions stand from place p up to place q
abbrev pub Stands : (ℕ → Option Instr) → ℕ → List Instr → ℕ → Type 0
Stands get p [] q = p ≡ q
Stands get p (i ∷ is) q = (get p ≡ Some i) × Stands get (p + 1) is q

stands_end : (get : ℕ → Option Instr) (p q : ℕ) (is : List Instr) → Stands get p is q → q ≡ p + length is
stands_end get p q [] h = omega (arith, h)
stands_end get p q (i ∷ is) h = omega (arith, stands_end get (p + 1) q is h.1)

pub stands_front : (get : ℕ → Option Instr) (p q : ℕ) (is js : List Instr) → Stands get p (is ++ js) q → Stands get p is (p + length is)
stands_front get p q [] js h = omega arith
stands_front get p q (i ∷ is) js h =
    let e : p + 1 + length is ≡ p + length (i ∷ is) = omega arith in
    (h.0, subst (λ n. Stands get (p + 1) is n) e (stands_front get (p + 1) q is js h.1))

pub stands_back : (get : ℕ → Option Instr) (p q : ℕ) (is js : List Instr) → Stands get p (is ++ js) q → Stands get (p + length is) js q
stands_back get p q [] js h = let e : p ≡ p + 0 = omega arith in subst (λ n. Stands get n js q) e h
stands_back get p q (i ∷ is) js h =
    let e : p + 1 + length is ≡ p + length (i ∷ is) = omega arith in
    subst (λ n. Stands get n js q) e (stands_back get (p + 1) q is js h.1)

pub stands_as : (get got : ℕ → Option Instr) → ((p : ℕ) → get p ≡ got p) → (p q : ℕ) (is : List Instr) → Stands get p is q → Stands got p is q
stands_as get got e p q [] h = h
stands_as get got e p q (i ∷ is) h = (sym (e p) ∙ h.0, stands_as get got e (p + 1) q is h.1)

-- each instruction of a list stands at its place
pub stands_all : (is pre : List Instr) → Stands (slice_get (pre ++ is)) (length pre) is (length pre + length is)
stands_all [] pre = omega arith
stands_all (i ∷ is) pre =
    let within : length pre < length (pre ++ i ∷ is) = omega (arith, length-append pre (i ∷ is)) in
    let here = slice_get-get_or (pre ++ i ∷ is) (length pre) i within ∙ ap Some (get_or-append_seam pre i is i) in
    let n : length (pre ++ i ∷ []) ≡ length pre + 1 = omega (arith, length-append pre (i ∷ [])) in
    let m : length (pre ++ i ∷ []) + length is ≡ length pre + length (i ∷ is) = omega (arith, n) in
    let rest = stands_all is (pre ++ i ∷ []) in
    let rest' = subst (λ l. Stands (slice_get l) (length (pre ++ i ∷ [])) is (length (pre ++ i ∷ []) + length is)) (append_assoc pre (i ∷ []) is) rest in
    (here, subst (λ k. Stands (slice_get (pre ++ i ∷ is)) k is (length pre + length (i ∷ is))) n (subst (λ k. Stands (slice_get (pre ++ i ∷ is)) (length (pre ++ i ∷ [])) is k) m rest'))

-- a fork stands: its subject up to place m, one part from behind the leaving instruction up to place j, and the other part behind the jump
pub record ForkStands (get : ℕ → Option Instr) (subject : Code) (leave : ℕ → Instr) (part other : Code) (p m j q : ℕ) : Type 0 where
  pub at_subject : Stands get p (subject p) m
  pub leaves : get m ≡ Some (leave (j + 1))
  pub at_part : Stands get (m + 1) (part (m + 1)) j
  pub jumps : get j ≡ Some (Jump q)
  pub at_other : Stands get (j + 1) (other (j + 1)) q

pub fork_stands : (get : ℕ → Option Instr) (subject : Code) (leave : ℕ → Instr) (part other : Code) (p q : ℕ) → Stands get p (fork subject leave part other p) q → ForkStands get subject leave part other p (p + length (subject p)) (p + length (subject p) + 1 + length (part (p + length (subject p) + 1))) q
fork_stands get subject leave part other p q h =
    let m = p + length (subject p) in
    let back = stands_back get p q (subject p) _ h in
    let rest = stands_back get (m + 1) q (part (m + 1)) _ back.1 in
    let j = m + 1 + length (part (m + 1)) in
    record {
      at_subject = stands_front get p q (subject p) _ h;
      leaves = back.0;
      at_part = stands_front get (m + 1) q (part (m + 1)) _ back.1;
      jumps = rest.0 ∙ ap (λ k. Some (Jump k)) (sym (stands_end get (j + 1) q (other (j + 1)) rest.1));
      at_other = rest.1;
    }

-- the names and the values of an environment, oldest first
abbrev pub names : Env → List Text
names [] = []
names (b ∷ env) = names env ++ b.0 ∷ []

abbrev pub values : Env → List Value
values [] = []
values (b ∷ env) = values env ++ b.1 ∷ []

lengths : (env : Env) → length (names env) ≡ length (values env)
lengths [] = refl
lengths (b ∷ env) = omega (arith, lengths env, length-append (names env) (b.0 ∷ []), length-append (values env) (b.1 ∷ []))

local_here : (vs : List Value) (w : Value) → local (vs ++ w ∷ []) (length vs) ≡ w
local_here [] w = refl
local_here (v ∷ vs) w = local_here vs w

local_before : (vs : List Value) (w : Value) (i : ℕ) → i < length vs → local (vs ++ w ∷ []) i ≡ local vs i
local_before [] w i h = absurd (omega arith)
local_before (v ∷ vs) w zero h = refl
local_before (v ∷ vs) w (suc i) h = local_before vs w i (omega arith)

-- where a variable is bound, its local is there and holds its value
pub look_is : (x : Text) (env : Env) → IsBound x env → (local_of x (names env) < length (values env)) × (local (values env) (local_of x (names env)) ≡ look x env)
look_is x [] h = absurd h
look_is x (b ∷ env) h = by (bytes_eq x b.0) (newest_behind x b.0 (names env) 0 0) h (look_is x env)
  where
    by : (c : Bool) → local_of x (names env ++ b.0 ∷ []) ≡ cond c (0 + length (names env)) (local_of x (names env)) → cond c (Unit {0}) (IsBound x env) → (IsBound x env → (local_of x (names env) < length (values env)) × (local (values env) (local_of x (names env)) ≡ look x env)) → (local_of x (names env ++ b.0 ∷ []) < length (values env ++ b.1 ∷ [])) × (local (values env ++ b.1 ∷ []) (local_of x (names env ++ b.0 ∷ [])) ≡ cond c b.1 (look x env))
    by true e h before =
        let n : local_of x (names env ++ b.0 ∷ []) ≡ length (values env) = omega (arith, e, lengths env) in
        (omega (arith, n, length-append (values env) (b.1 ∷ [])), ap (local (values env ++ b.1 ∷ [])) n ∙ local_here (values env) b.1)
    by false e h before =
        let r = before h in
        (omega (arith, e, r.0, length-append (values env) (b.1 ∷ [])), ap (local (values env ++ b.1 ∷ [])) e ∙ local_before (values env) b.1 _ r.0 ∙ r.1)

pub bind_names : (env : Env) (xs : List Text) (vs : List Value) → length vs ≡ length xs → names (bind_all env xs vs) ≡ names env ++ xs
bind_names env [] [] h = sym (append-nil (names env))
bind_names env [] (v ∷ vs) h = absurd (omega (arith, h))
bind_names env (x ∷ xs) [] h = absurd (omega (arith, h))
bind_names env (x ∷ xs) (v ∷ vs) h = bind_names ((x, v) ∷ env) xs vs (omega (arith, h)) ∙ append_assoc (names env) (x ∷ []) xs

pub bind_values : (env : Env) (xs : List Text) (vs : List Value) → length vs ≡ length xs → values (bind_all env xs vs) ≡ values env ++ vs
bind_values env [] [] h = sym (append-nil (values env))
bind_values env [] (v ∷ vs) h = absurd (omega (arith, h))
bind_values env (x ∷ xs) [] h = absurd (omega (arith, h))
bind_values env (x ∷ xs) (v ∷ vs) h = bind_values ((x, v) ∷ env) xs vs (omega (arith, h)) ∙ append_assoc (values env) (v ∷ []) vs

-- the stack with these values pushed in order
abbrev pub push_all : List Value → List Value → List Value
push_all [] st = st
push_all (v ∷ vs) st = push_all vs (v ∷ st)

pub popped_all : (vs st ws : List Value) (k : ℕ) → popped (length vs + k) (push_all vs st) ws ≡ popped k st (vs ++ ws)
popped_all [] st ws k = let e : 0 + k ≡ k = omega arith in ap (λ n. popped n st ws) e
popped_all (v ∷ vs) st ws k =
    let e : length (v ∷ vs) + k ≡ length vs + suc k = omega arith in
    ap (λ n. popped n (push_all vs (v ∷ st)) ws) e ∙ popped_all vs (v ∷ st) ws (suc k)

pub left_all : (vs st : List Value) (k : ℕ) → left (length vs + k) (push_all vs st) ≡ left k st
left_all [] st k = let e : 0 + k ≡ k = omega arith in ap (λ n. left n st) e
left_all (v ∷ vs) st k =
    let e : length (v ∷ vs) + k ≡ length vs + suc k = omega arith in
    ap (λ n. left n (push_all vs (v ∷ st))) e ∙ left_all vs (v ∷ st) (suc k)

pub length_pushed : (vs st : List Value) → length vs + length st ≤ length (push_all vs st)
length_pushed [] st = omega arith
length_pushed (v ∷ vs) st = omega (arith, length_pushed vs (v ∷ st))

-- the locals with these values appended in order
abbrev pub append_all : List Value → List Value → List Value
append_all ls [] = ls
append_all ls (v ∷ vs) = append_all (ls ++ v ∷ []) vs

appended : (ls vs : List Value) → append_all ls vs ≡ ls ++ vs
appended ls [] = sym (append-nil ls)
appended ls (v ∷ vs) = appended (ls ++ v ∷ []) vs ∙ append_assoc ls (v ∷ []) vs

pub length_appended : (ls vs : List Value) → length vs ≤ length (append_all ls vs)
length_appended ls vs = let e : length (append_all ls vs) ≡ length (ls ++ vs) = ap length (appended ls vs) in omega (arith, e, length-append ls vs)

-- they are what is unbound
pub unbound : (ls vs : List Value) → unbind (length vs) (append_all ls vs) ≡ ls
unbound ls vs =
    let e : length (ls ++ vs) - length vs ≡ length ls = omega (arith, length-append ls vs) in
    ap (unbind (length vs)) (appended ls vs) ∙ ap (λ n. take n (ls ++ vs)) e ∙ take-append_seam ls vs
