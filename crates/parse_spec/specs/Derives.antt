-- What a grammar derives, with heights, and where the first fault of a text is.
use Rattle.std.specs.Prelude.{◌≡◌, ◌≤◌, ◌<◌, ◌+◌, ℕ, suc, max, List, [], ◌∷◌, ◌++◌, Option, Some, true, false}
use Rattle.parse_spec.specs.Rules.{Rule, Done, Take, Sub, Either, Many, Grammar, opening}
pub use Rattle.parse_spec.specs.declared.Kind.{Kind}
pub use Rattle.parse_spec.specs.declared.Kind.TheVariants.{Syntax, TooDeep, TooMany}

-- Every list may have x items more than its limit; within the limits x is 0.
mutual
  -- Is g x c n s e h: the tokens s are a phrase of class c and level n with value e and height h
  pub data Is {T V C : Type 0} (g : Grammar T V C) (x : ℕ) : C → ℕ → List T → V → ℕ → Type 0 where
    form :
        {c : C} {n : ℕ} {s a : List T} {e : V} {t : T} {r : Rule T V C} {h : ℕ}
        → g.starts c t ≡ Some (n, r)
        → IsRest g x r (g.mark t ∷ []) a e h
        → s ≡ t ∷ a
        → Is g x c n s e (suc h)
    lower : {c : C} {n : ℕ} {s : List T} {e : V} {h : ℕ} → Is g x c n s e h → Is g x c (suc n) s e h
    left :
        {c : C} {n : ℕ} {s a b : List T} {e f : V} {t : T} {r : Rule T V C} {h i : ℕ}
        → g.goes c t ≡ Some (n, r)
        → g.chains c n ≡ true
        → Is g x c (suc n) a e h
        → IsRest g x r (e ∷ opening g a) b f i
        → s ≡ a ++ t ∷ b
        → Is g x c (suc n) s f (suc (max h i))
    once :
        {c : C} {n : ℕ} {s a b : List T} {e f : V} {t : T} {r : Rule T V C} {h i : ℕ}
        → g.goes c t ≡ Some (n, r)
        → g.chains c n ≡ false
        → Is g x c n a e h
        → IsRest g x r (e ∷ opening g a) b f i
        → s ≡ a ++ t ∷ b
        → Is g x c (suc n) s f (suc (max h i))

  -- IsRest g x r vs s e h: after the values vs the tokens s are the rest r of a form with value e; h is the greatest
  -- height of the phrases in s, or 0
  pub data IsRest {T V C : Type 0} (g : Grammar T V C) (x : ℕ) : Rule T V C → List V → List T → V → ℕ → Type 0 where
    done : {act : List V → V} {vs : List V} {s : List T} {e : V} → s ≡ [] → e ≡ act vs → IsRest g x (Done act) vs s e 0
    take :
        {f : T → Option (List V)} {r : Rule T V C} {vs ws : List V} {s a : List T} {e : V} {t : T} {h : ℕ}
        → f t ≡ Some ws
        → IsRest g x r (ws ++ vs) a e h
        → s ≡ t ∷ a
        → IsRest g x (Take f r) vs s e h
    part :
        {c : C} {n : ℕ} {r : Rule T V C} {vs : List V} {s a b : List T} {e v : V} {h i : ℕ}
        → Is g x c n a v h
        → IsRest g x r (v ∷ vs) b e i
        → s ≡ a ++ b
        → IsRest g x (Sub c n r) vs s e (max h i)
    first :
        {f : T → Option (List V)} {r q : Rule T V C} {vs ws : List V} {s a : List T} {e : V} {t : T} {h : ℕ}
        → f t ≡ Some ws
        → IsRest g x r (ws ++ vs) a e h
        → s ≡ t ∷ a
        → IsRest g x (Either f r q) vs s e h
    second :
        {f : T → Option (List V)} {r q : Rule T V C} {vs : List V} {s : List T} {e : V} {h : ℕ}
        → IsRest g x q vs s e h
        → IsRest g x (Either f r q) vs s e h
    many :
        {k : ℕ} {f : T → Option (List V)} {item r : Rule T V C} {vs : List V} {s : List T} {e : V} {h : ℕ}
        → IsMany g x k 0 f item r vs s e h
        → IsRest g x (Many k f item r) vs s e h

  -- an item and then more, behind c others, where a list has at most k more than one
  pub data IsMany {T V C : Type 0} (g : Grammar T V C) (x : ℕ) : ℕ → ℕ → (T → Option (List V)) →
      Rule T V C → Rule T V C → List V → List T → V → ℕ → Type 0 where
    last :
        {k c : ℕ} {f : T → Option (List V)} {item r : Rule T V C} {vs : List V} {s a b : List T} {e v : V} {h i : ℕ}
        → IsRest g x item [] a v h
        → IsRest g x r (v ∷ vs) b e i
        → s ≡ a ++ b
        → IsMany g x k c f item r vs s e (max h i)
    next :
        {k c : ℕ} {f : T → Option (List V)} {item r : Rule T V C} {vs ws : List V} {s a b : List T} {e v : V} {h i : ℕ}
        → (t : T)
        → c < k + x
        → IsRest g x item [] a v h
        → f t ≡ Some ws
        → IsMany g x k (suc c) f item r (ws ++ v ∷ vs) b e i
        → s ≡ a ++ t ∷ b
        → IsMany g x k c f item r vs s e (max h i)

-- a whole text, no phrase in it higher than d
pub record Derives {T V C : Type 0} (g : Grammar T V C) (x d : ℕ) (s : List T) (e : V) : Type 0 where
  pub height : ℕ
  pub is : IsRest g x g.text [] s e height
  pub within : height ≤ d

-- some text within the limits begins with these tokens
pub record CanBegin {T V C : Type 0} (g : Grammar T V C) (x d : ℕ) (s : List T) : Type 0 where
  pub more : List T
  pub value : V
  pub derives : Derives g x d (s ++ more) value

-- The kind of the first token with which no text within the limits begins, where s ends with it: with no limits at all none begins so;
-- or some does with longer lists alone; or some does with longer lists and greater heights, and none with longer lists alone.
abbrev pub IsKind : {T V C : Type 0} → Grammar T V C → ℕ → List T → Kind → Type 0
IsKind g d s Syntax = (y i : ℕ) → CanBegin g y i s → ⊥
IsKind g d s TooMany = (y : ℕ) × CanBegin g y d s
IsKind g d s TooDeep = ((y : ℕ) × (i : ℕ) × CanBegin g y i s) × ((y : ℕ) → CanBegin g y d s → ⊥)

-- Faults g x d s k u: the first fault of the tokens s is of kind k, at the first of the tokens u, or at the end where u is empty
pub data Faults {T V C : Type 0} (g : Grammar T V C) (x d : ℕ) : List T → Kind → List T → Type 0 where
  at :
      {s a b : List T} {k : Kind} {t : T}
      → s ≡ a ++ t ∷ b
      → CanBegin g x d a
      → (CanBegin g x d (a ++ t ∷ []) → ⊥)
      → IsKind g d (a ++ t ∷ []) k
      → Faults g x d s k (t ∷ b)
  end : {s : List T} → CanBegin g x d s → ((e : V) → Derives g x d s e → ⊥) → Faults g x d s Syntax []
