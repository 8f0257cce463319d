-- A program in which the variable that is bound at one place has another name.
use Rattle.std.specs.Prelude.{◌≡◌, ℕ, nat_eq, List, [], ◌∷◌, map, cond, not, ◌&&◌, false, Some}
use Rattle.raml_syntax.specs.Tree as t
use Rattle.raml_syntax.specs.Tree.{Text, Bound}
use Rattle.explain_scopes.specs.Scopes.{Occurrence, Scope, bound_to, names_in, variable}
use Rattle.explain_scopes.specs.Named.{is_place}
use Rattle.explain_scopes.specs.Renaming.{is_function}
use Rattle.explain_scopes.specs.Levels.{leveled}

module _ (p : ℕ) (y : Text) where
  -- a binding: that at the place has the new name
  abbrev pub rebound : Bound → Bound
  rebound b = record { at = b.at; name = cond (nat_eq b.at p) y b.name }

  abbrev pub all_rebound : Scope → Scope
  all_rebound s = map rebound s

  -- a variable below these: what is bound at the place has the new name
  abbrev pub respelled : Scope → Text → Text
  respelled s x = cond (is_place p (bound_to x s)) y x

  -- an expression below these
  abbrev mutual
    pub renamed : Scope → t.Term → t.Term
    renamed s (t.Number q n) = t.Number q n
    renamed s (t.Truth q b) = t.Truth q b
    renamed s (t.Nil q) = t.Nil q
    renamed s (t.Leaf q) = t.Leaf q
    renamed s (t.Nothing q) = t.Nothing q
    renamed s (t.Var q x) = t.Var q (respelled s x)
    renamed s (t.Arith q op a b) = t.Arith q op (renamed s a) (renamed s b)
    renamed s (t.Compare q op a b) = t.Compare q op (renamed s a) (renamed s b)
    renamed s (t.Not q a) = t.Not q (renamed s a)
    renamed s (t.Pair q a b) = t.Pair q (renamed s a) (renamed s b)
    renamed s (t.Cons q a b) = t.Cons q (renamed s a) (renamed s b)
    renamed s (t.Node q a b c) = t.Node q (renamed s a) (renamed s b) (renamed s c)
    renamed s (t.Just q a) = t.Just q (renamed s a)
    renamed s (t.Call q f args) = t.Call q f (renamed_all s args)
    renamed s (t.Let q x a b) = t.Let q (rebound x) (renamed s a) (renamed (x ∷ s) b)
    renamed s (t.LetPair q x z a b) = t.LetPair q (rebound x) (rebound z) (renamed s a) (renamed (z ∷ x ∷ s) b)
    renamed s (t.If q c a b) = t.If q (renamed s c) (renamed s a) (renamed s b)
    renamed s (t.MatchList q c a x z b) = t.MatchList q (renamed s c) (renamed s a) (rebound x) (rebound z) (renamed (z ∷ x ∷ s) b)
    renamed s (t.MatchTree q c a x z w b) =
        t.MatchTree q (renamed s c) (renamed s a) (rebound x) (rebound z) (rebound w) (renamed (w ∷ z ∷ x ∷ s) b)
    renamed s (t.MatchOption q c a x b) = t.MatchOption q (renamed s c) (renamed s a) (rebound x) (renamed (x ∷ s) b)
    renamed s (t.Tick q n a) = t.Tick q n (renamed s a)
    renamed s (t.Typed q a A) = t.Typed q (renamed s a) A

    pub renamed_all : Scope → t.Terms → t.Terms
    renamed_all s t.None = t.None
    renamed_all s (t.More a rest) = t.More (renamed s a) (renamed_all s rest)

  -- a name: a variable that means the binding at the place has the new one
  abbrev pub respelled_name : Occurrence → Occurrence
  respelled_name o = record {
    at = o.at;
    name = cond (not (is_function o.kind) && is_place p o.binding) y o.name;
    kind = o.kind;
    binding = o.binding;
  }

abbrev pub Each : (Occurrence → Type 0) → List Occurrence → Type 0
Each P [] = Unit {0}
Each P (o ∷ os) = P o × Each P os

-- A variable: where it means the binding at the place it has the old name, and nowhere the new one.
abbrev pub Spares : ℕ → Text → Text → Occurrence → Type 0
Spares p x y o = is_function o.kind ≡ false → (o.binding ≡ Some p → o.name ≡ x) × (o.name ≡ y → ⊥)

-- Where the variable bound at a place gets a name that no variable has:
pub record RenamingIsMeant : Type 0 where
  -- an expression stays the same where each variable is told by its level, and so keeps its meaning (`BindingsAreMeant`)
  pub levels : (rename : Text → Text) (functions : List Bound) (p : ℕ) (x y : Text) (s : Scope) (e : t.Term) →
      Each (Spares p x y) (map variable s) → Each (Spares p x y) (names_in functions s e) →
      leveled rename (all_rebound p y s) (renamed p y s e) ≡ leveled rename s e
  -- and the names that change are those that mean this binding: all keep their places and what they mean
  pub names : (functions : List Bound) (p : ℕ) (x y : Text) (s : Scope) (e : t.Term) →
      Each (Spares p x y) (map variable s) → Each (Spares p x y) (names_in functions s e) →
      names_in functions (all_rebound p y s) (renamed p y s e) ≡ map (respelled_name p y) (names_in functions s e)
