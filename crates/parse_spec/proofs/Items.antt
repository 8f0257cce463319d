-- A list of items, read with what comes behind it.
use Rattle.std.proofs.Common.{◌≡◌, ◌+◌, ℕ, zero, suc, List, [], ◌∷◌, ◌++◌, refl, sym, ap, ◌∙◌, arith, append_assoc}
use Rattle.std.specs.Prelude.{max, Option, Some, None, Result, Ok, Err}
use Rattle.parse_spec.specs.Rules.{Rule, Many, Grammar}
use Rattle.parse_spec.specs.Derives.{TooMany}
use Rattle.parse_spec.specs.Reading.{Answer, Fault, ◌>>=◌, higher, taken, rest_of, pick, items_of, list_of, rule_of}

-- one item, and at most k more, and then next
abbrev pub many_of : {T V : Type 0} → (List T → Answer T V) → (T → Option (List V)) → (List V → List T → Answer T V) → ℕ → List V → List T → Answer T V
many_of item f next zero vs s = do
  x ← item s
  higher x.1 (pick (taken f x.2) (λ ws. Err (TooMany, x.2)) (next (x.0 ∷ vs) x.2))
many_of item f next (suc k) vs s = do
  x ← item s
  higher x.1 (pick (taken f x.2) (λ ws. many_of item f next k (ws ++ x.0 ∷ vs) (rest_of x.2)) (next (x.0 ∷ vs) x.2))

module _ {T V : Type 0} where
  higher_twice : (h i : ℕ) (o : Answer T V) → higher h (higher i o) ≡ higher (max h i) o
  higher_twice h i (Ok (e, j, u)) = let p : max h (max i j) ≡ max (max h i) j = omega arith in ap (λ j. Ok (e, j, u)) p
  higher_twice h i (Err k) = refl

  module _ (item : List T → Answer T V) (f : T → Option (List V)) where
    -- after a first item
    abbrev behind : (List V → List T → Answer T V) → ℕ → List V → List T → Answer T V
    behind next zero vs s = pick (taken f s) (λ ws. Err (TooMany, s)) (next vs s)
    behind next (suc k) vs s = pick (taken f s) (λ ws. many_of item f next k (ws ++ vs) (rest_of s)) (next vs s)

    many_behind : (next : List V → List T → Answer T V) (k : ℕ) (vs : List V) (s : List T) → many_of item f next k vs s ≡ (item s >>= (λ x. higher x.1 (behind next k (x.0 ∷ vs) x.2)))
    many_behind next zero vs s = refl
    many_behind next (suc k) vs s = refl

    behind_is : (next : List V → List T → Answer T V) (k : ℕ) (vs : List V) (h : ℕ) (s : List T) → higher h (behind next k vs s) ≡ (items_of item f k vs h s >>= (λ y. higher y.1 (next y.0 y.2)))
    unfolding items_of
    behind_is next zero vs h s = go (taken f s)
      where
        go : (o : Option (List V)) → higher h (pick o (λ ws. Err (TooMany, s)) (next vs s)) ≡ ((pick o (λ ws. Err (TooMany, s)) (Ok (vs, h, s))) >>= (λ (y : List V × ℕ × List T). higher y.1 (next y.0 y.2)))
        go None = refl
        go (Some ws) = refl
    behind_is next (suc k) vs h s = go (taken f s) (λ ws e i u. behind_is next k (e ∷ ws ++ vs) (max h i) u)
      where
        one : (ws : List V) (o : Answer T V) → ((e : V) (i : ℕ) (u : List T) → higher (max h i) (behind next k (e ∷ ws ++ vs) u) ≡ (items_of item f k (e ∷ ws ++ vs) (max h i) u >>= (λ y. higher y.1 (next y.0 y.2))))
            → higher h (o >>= (λ x. higher x.1 (behind next k (x.0 ∷ ws ++ vs) x.2))) ≡ ((o >>= (λ x. items_of item f k (x.0 ∷ ws ++ vs) (max h x.1) x.2)) >>= (λ y. higher y.1 (next y.0 y.2)))
        one ws (Err k) w = refl
        one ws (Ok (e, i, u)) w = higher_twice h i (behind next k (e ∷ ws ++ vs) u) ∙ w e i u

        go : (o : Option (List V)) → ((ws : List V) (e : V) (i : ℕ) (u : List T) → higher (max h i) (behind next k (e ∷ ws ++ vs) u) ≡ (items_of item f k (e ∷ ws ++ vs) (max h i) u >>= (λ y. higher y.1 (next y.0 y.2))))
            → higher h (pick o (λ ws. many_of item f next k (ws ++ vs) (rest_of s)) (next vs s)) ≡ ((pick o (λ ws. item (rest_of s) >>= (λ x. items_of item f k (x.0 ∷ ws ++ vs) (max h x.1) x.2)) (Ok (vs, h, s))) >>= (λ (y : List V × ℕ × List T). higher y.1 (next y.0 y.2)))
        go None w = refl
        go (Some ws) w = ap (higher h) (many_behind next k (ws ++ vs) (rest_of s)) ∙ one ws (item (rest_of s)) (w ws)

    items_based : (base : List V) (k : ℕ) (vs : List V) (h : ℕ) (s : List T) → items_of item f k (vs ++ base) h s ≡ (items_of item f k vs h s >>= (λ y. Ok (y.0 ++ base, y.1, y.2)))
    unfolding items_of
    items_based base zero vs h s = go (taken f s)
      where
        go : (o : Option (List V)) → ◌≡◌ {A = Result (List V × ℕ × List T) (Fault T)} (pick o (λ ws. Err (TooMany, s)) (Ok (vs ++ base, h, s))) ((pick o (λ ws. Err (TooMany, s)) (Ok (vs, h, s))) >>= (λ (y : List V × ℕ × List T). Ok (y.0 ++ base, y.1, y.2)))
        go None = refl
        go (Some ws) = refl
    items_based base (suc k) vs h s = go (taken f s) (λ ws e i u. ap (λ ws. items_of item f k (e ∷ ws) (max h i) u) (sym (append_assoc ws vs base)) ∙ items_based base k (e ∷ ws ++ vs) (max h i) u)
      where
        one : (ws : List V) (o : Answer T V) → ((e : V) (i : ℕ) (u : List T) → items_of item f k (e ∷ ws ++ (vs ++ base)) (max h i) u ≡ (items_of item f k (e ∷ ws ++ vs) (max h i) u >>= (λ y. Ok (y.0 ++ base, y.1, y.2))))
            → (o >>= (λ x. items_of item f k (x.0 ∷ ws ++ (vs ++ base)) (max h x.1) x.2)) ≡ ((o >>= (λ x. items_of item f k (x.0 ∷ ws ++ vs) (max h x.1) x.2)) >>= (λ y. Ok (y.0 ++ base, y.1, y.2)))
        one ws (Err k) w = refl
        one ws (Ok (e, i, u)) w = w e i u

        go : (o : Option (List V)) → ((ws : List V) (e : V) (i : ℕ) (u : List T) → items_of item f k (e ∷ ws ++ (vs ++ base)) (max h i) u ≡ (items_of item f k (e ∷ ws ++ vs) (max h i) u >>= (λ y. Ok (y.0 ++ base, y.1, y.2))))
            → (pick o (λ ws. item (rest_of s) >>= (λ x. items_of item f k (x.0 ∷ ws ++ (vs ++ base)) (max h x.1) x.2)) (Ok (vs ++ base, h, s))) ≡ ((pick o (λ ws. item (rest_of s) >>= (λ x. items_of item f k (x.0 ∷ ws ++ vs) (max h x.1) x.2)) (Ok (vs, h, s))) >>= (λ (y : List V × ℕ × List T). Ok (y.0 ++ base, y.1, y.2)))
        go None w = refl
        go (Some ws) w = one ws (item (rest_of s)) (w ws)

    -- a list of items, and then what comes behind it
    pub many_is : (next : List V → List T → Answer T V) (k : ℕ) (base : List V) (s : List T) → many_of item f next k base s ≡ (list_of item f k s >>= (λ y. higher y.1 (next (y.0 ++ base) y.2)))
    many_is next k base s = many_behind next k base s ∙ one (item s)
      where
        two : (o : Result (List V × ℕ × List T) (Fault T)) → ((◌>>=◌ {B = List V × ℕ × List T} o (λ y. Ok (y.0 ++ base, y.1, y.2))) >>= (λ y. higher y.1 (next y.0 y.2))) ≡ (o >>= (λ y. higher y.1 (next (y.0 ++ base) y.2)))
        two (Ok y) = refl
        two (Err k) = refl

        one : (o : Answer T V) → (o >>= (λ x. higher x.1 (behind next k (x.0 ∷ base) x.2))) ≡ ((o >>= (λ x. items_of item f k (x.0 ∷ []) x.1 x.2)) >>= (λ y. higher y.1 (next (y.0 ++ base) y.2)))
        one (Err k) = refl
        one (Ok (e, i, u)) = behind_is next k (e ∷ base) i u ∙ ap (λ o. o >>= (λ y. higher y.1 (next y.0 y.2))) (items_based base k (e ∷ []) i u) ∙ two (items_of item f k (e ∷ []) i u)

-- the rule of a list of items
pub many_rule : {T V C : Type 0} (g : Grammar T V C) (sub : C → ℕ → List T → Answer T V) (x d k : ℕ) (f : T → Option (List V)) (item r : Rule T V C) (vs : List V) (s : List T) → many_of (rule_of g sub x d item []) f (rule_of g sub x d r) (k + x) vs s ≡ rule_of g sub x d (Many k f item r) vs s
many_rule g sub x d k f item r vs s = many_is (rule_of g sub x d item []) f (rule_of g sub x d r) (k + x) vs s
