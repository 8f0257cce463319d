-- What a reader with one token in view answers: a value, its height and the tokens behind it, or the kind of a fault
-- and the tokens from it on.
use Rattle.std.specs.Prelude.{ℕ, zero, suc, max, ◌+◌, List, [], ◌∷◌, ◌++◌, Option, Some, None, Bool, true, false, Result, Ok, Err, nat_le}
use Rattle.std.specs.Prelude.{nat_eq, if◌then◌else◌}
use Rattle.parse_spec.specs.Rules.{Rule, Done, Take, Sub, Either, Many, Grammar, opening}
use Rattle.parse_spec.specs.Derives.{Kind, Syntax, TooDeep, TooMany}

abbrev pub Fault : Type 0 → Type 0
Fault T = Kind × List T

abbrev pub Answer : Type 0 → Type 0 → Type 0
Answer T V = Result (V × ℕ × List T) (Fault T)

infixl 10 ◌>>=◌
abbrev pub ◌>>=◌ : {A B F : Type 0} → Result A F → (A → Result B F) → Result B F
(Ok x) >>= f = f x
(Err e) >>= f = Err e

-- a part of height h stands before
abbrev pub higher : {T V : Type 0} → ℕ → Answer T V → Answer T V
higher h o = o >>= (λ x. Ok (x.0, max h x.1, x.2))

-- a form is one higher than its parts
abbrev pub formed : {T V : Type 0} → Answer T V → Answer T V
formed o = o >>= (λ x. Ok (x.0, suc x.1, x.2))

-- what a test says of the first token
abbrev pub taken : {T V : Type 0} → (T → Option (List V)) → List T → Option (List V)
taken f [] = None
taken f (t ∷ s) = f t

abbrev pub rest_of : {T : Type 0} → List T → List T
rest_of [] = []
rest_of (t ∷ s) = s

abbrev pub pick : {A B : Type 0} → Option A → (A → B) → B → B
pick None go other = other
pick (Some x) go other = go x

-- a token that the test must take
abbrev pub take_of : {T V : Type 0} → (T → Option (List V)) → List T → Result (List V × List T) (Fault T)
take_of f s = pick (taken f s) (λ ws. Ok (ws, rest_of s)) (Err (Syntax, s))

-- the least height of the phrases to come
abbrev pub parts : {T V C : Type 0} → Rule T V C → ℕ
parts (Done act) = 0
parts (Take f r) = parts r
parts (Sub c n r) = 1
parts (Either f r q) = parts q
parts (Many k f item r) = 1

-- The items behind those that gave the values vs and are of height h, at most k of them. Shut, so that a contract that
-- names it stays short.
unfoldable pub items_of : {T V : Type 0} → (List T → Answer T V) → (T → Option (List V)) → ℕ →
    List V → ℕ → List T → Result (List V × ℕ × List T) (Fault T)
items_of item f zero vs h s = pick (taken f s) (λ ws. Err (TooMany, s)) (Ok (vs, h, s))
items_of item f (suc k) vs h s =
    pick (taken f s) (λ ws. item (rest_of s) >>= (λ x. items_of item f k (x.0 ∷ ws ++ vs) (max h x.1) x.2)) (Ok (vs, h, s))

-- an item, and at most k more
abbrev pub list_of : {T V : Type 0} → (List T → Answer T V) → (T → Option (List V)) → ℕ → List T → Result (List V × ℕ × List T) (Fault T)
list_of item f k s = item s >>= (λ x. items_of item f k (x.0 ∷ []) x.1 x.2)

-- the form of level suc n that goes on with a token
abbrev pub goes_here : {T V C : Type 0} → ℕ → Option (ℕ × Rule T V C) → Option (Rule T V C)
goes_here n None = None
goes_here n (Some x) = if nat_eq x.0 n then Some x.1 else None

-- the form of level n that begins here
abbrev pub starts_at : {T V C : Type 0} → Grammar T V C → C → ℕ → List T → Option (Rule T V C)
starts_at g c n [] = None
starts_at g c n (t ∷ s) = goes_here n (g.starts c t)

abbrev pub goes_at : {T V C : Type 0} → Grammar T V C → C → ℕ → List T → Option (Rule T V C)
goes_at g c n [] = None
goes_at g c n (t ∷ s) = goes_here n (g.goes c t)

-- nothing may go on
abbrev pub full_of : {T V C : Type 0} → Option (Rule T V C) → V → ℕ → List T → Answer T V
full_of None e h s = Ok (e, h, s)
full_of (Some r) e h s = Err (TooDeep, s)

abbrev pub again_of : {T V : Type 0} → Bool → (V → ℕ → List T → Answer T V) → V → ℕ → List T → Answer T V
again_of true go e h s = go e h s
again_of false go e h s = Ok (e, h, s)

-- the rest of a form; its phrases, by sub, have height d at most
module _ {T V C : Type 0} (g : Grammar T V C) (sub : C → ℕ → List T → Answer T V) (x d : ℕ) where
  abbrev pub rule_of : Rule T V C → List V → List T → Answer T V
  rule_of (Done act) vs s = Ok (act vs, 0, s)
  rule_of (Take f r) vs s = do
    y ← take_of f s
    rule_of r (y.0 ++ vs) y.1
  rule_of (Sub c n r) vs s = do
    y ← sub c n s
    higher y.1 (rule_of r (y.0 ∷ vs) y.2)
  rule_of (Either f r q) vs s =
      pick (taken f s) (λ ws. if nat_le (parts r) d then rule_of r (ws ++ vs) (rest_of s) else Err (TooDeep, s)) (rule_of q vs s)
  rule_of (Many k f item r) vs s = do
    y ← list_of (rule_of item []) f (k + x) s
    higher y.1 (rule_of r (y.0 ++ vs) y.2)

  -- the form that begins here, where it is of level n
  abbrev pub form_of : ℕ → Option (ℕ × Rule T V C) → List T → Answer T V → Answer T V
  form_of n None s other = other
  form_of n (Some y) s other =
      if nat_eq y.0 n then (if nat_le (parts y.1) d then formed (rule_of y.1 (opening g s) (rest_of s)) else Err (TooDeep, s)) else other

  abbrev pub start_of : C → ℕ → List T → Answer T V → Answer T V
  start_of c n [] other = other
  start_of c n (t ∷ s) other = form_of n (g.starts c t) (t ∷ s) other

  -- the form that goes on here behind e, of which the first token has the value w
  abbrev pub more_of : List V → (V → ℕ → List T → Answer T V) → Option (Rule T V C) → V → ℕ → List T → Answer T V
  more_of w go None e h s = Ok (e, h, s)
  more_of w go (Some r) e h s =
      if nat_le h d then (rule_of r (e ∷ w) (rest_of s) >>= (λ y. go y.0 (suc (max h y.1)) y.2)) else Err (TooDeep, s)

  -- k more of them at most
  abbrev pub chain_of : C → ℕ → List V → ℕ → V → ℕ → List T → Answer T V
  chain_of c n w zero e h s = full_of (goes_at g c n s) e h s
  chain_of c n w (suc k) e h s = more_of w (again_of (g.chains c n) (chain_of c n w k)) (goes_at g c n s) e h s

  -- a phrase of level n, of height suc d at most
  abbrev pub level_of : C → ℕ → List T → Answer T V
  level_of c zero s = start_of c zero s (Err (Syntax, s))
  level_of c (suc n) s = start_of c (suc n) s (level_of c n s >>= (λ y. chain_of c n (opening g s) (suc d) y.0 y.1 y.2))

-- a phrase of level n, of height d at most
abbrev pub read : {T V C : Type 0} → Grammar T V C → ℕ → ℕ → C → ℕ → List T → Answer T V
read g x zero c n s = Err (TooDeep, s)
read g x (suc d) c n s = level_of g (read g x d) x d c n s

-- nothing may be left
abbrev pub ended : {T V : Type 0} → V → List T → Result V (Fault T)
ended e [] = Ok e
ended e (t ∷ s) = Err (Syntax, t ∷ s)

-- all the tokens
abbrev pub whole_of : {T V : Type 0} → Answer T V → Result V (Fault T)
whole_of (Ok (e, h, s)) = ended e s
whole_of (Err f) = Err f

abbrev pub parse_of : {T V C : Type 0} → Grammar T V C → ℕ → ℕ → List T → Result V (Fault T)
parse_of g x d s = whole_of (rule_of g (read g x d) x d g.text [] s)
