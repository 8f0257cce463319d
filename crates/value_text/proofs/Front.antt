-- What values begin with, and how low they can be.
use Rattle.std.proofs.Common.{◌≡◌, ◌≤◌, ℕ, pos, suc, List, [], ◌∷◌, Some, refl, ap, ◌∙◌, arith, true}
use Rattle.std.specs.Prelude.{max}
use Rattle.raml_syntax.specs.Tree.{Type', Integer, Boolean, PairOf, ListOf, TreeOf, OptionOf}
use Rattle.raml_syntax.specs.Value as v
use Rattle.raml_syntax.specs.Value.{Value, Has}
use Rattle.value_text.specs.declared.sign.Sign.TheVariants as k
use Rattle.value_text.specs.Spelling.{Token, Key, Number, Truth, spell, spell_tail, height}
use Rattle.value_text.specs.Goals.{least, begins, Sane}

pub tail_eq : (t u : Token) (s r : List Token) → t ∷ s ≡ u ∷ r → s ≡ r
tail_eq t u s r e = cc

pub head_eq : (t u : Token) (s r : List Token) → t ∷ s ≡ u ∷ r → t ≡ u
head_eq t u s r e = cc

pub height_some : (x : Value) → 1 ≤ height x
height_some (v.Number n) = omega arith
height_some (v.Truth b) = omega arith
height_some v.Empty = omega arith
height_some (v.Both x y) = omega arith
height_some (v.Cons x y) = let a = height_some x in omega (arith, a)
height_some (v.Node x y z) = omega arith
height_some (v.Just x) = omega arith

pub least_some : (A : Type') → 1 ≤ least A
least_some Integer = omega arith
least_some Boolean = omega arith
least_some (PairOf A B) = omega arith
least_some (ListOf A) = omega arith
least_some (TreeOf A) = omega arith
least_some (OptionOf A) = omega arith

-- no value is lower than the least
pub least_height : (x : Value) (A : Type') → Has x A → least A ≤ height x
least_height x Integer h = height_some x
least_height x Boolean h = height_some x
least_height x (ListOf A) h = height_some x
least_height x (TreeOf A) h = height_some x
least_height x (OptionOf A) h = height_some x
least_height (v.Both x y) (PairOf A B) h = let a = least_height x A h.0 in let b = least_height y B h.1 in omega (arith, a, b)
least_height _ (PairOf A B) h = absurd h

pub least_value : (A : Type') → (x : Value) × Has x A × (height x ≡ least A)
least_value Integer = (v.Number (pos 0), omega arith, refl)
least_value Boolean = (v.Truth true, tt, refl)
least_value (PairOf A B) =
    let a = least_value A in
    let b = least_value B in
    (v.Both a.0 b.0, (a.1, b.1), (λ i. suc (max (a.2 i) (b.2 i))))
least_value (ListOf A) = (v.Empty, tt, refl)
least_value (TreeOf A) = (v.Empty, tt, refl)
least_value (OptionOf A) = (v.Empty, tt, refl)

pub least_begins : (A : Type') (t : Token) (h : ℕ) → begins A t ≡ Some h → least A ≤ h
least_begins Integer (Number n) h e = let q : 1 ≡ h = cc in omega (arith, q)
least_begins Boolean (Truth b) h e = let q : 1 ≡ h = cc in omega (arith, q)
least_begins (PairOf A B) (Key k.Open) h e = let q : suc (max (least A) (least B)) ≡ h = cc in omega (arith, q)
least_begins (ListOf A) (Key k.OpenList) h e = let q : 1 ≡ h = cc in omega (arith, q)
least_begins (TreeOf A) (Key k.Leaf) h e = let q : 1 ≡ h = cc in omega (arith, q)
least_begins (TreeOf A) (Key k.Node) h e = let q : suc (least A) ≡ h = cc in omega (arith, q)
least_begins (OptionOf A) (Key k.Nothing) h e = let q : 1 ≡ h = cc in omega (arith, q)
least_begins (OptionOf A) (Key k.Just) h e = let q : suc (least A) ≡ h = cc in omega (arith, q)
least_begins _ _ h e = absurd (cc)

-- the first token of a value
pub record Front (x : Value) (A : Type') (s : List Token) : Type 0 where
  pub token : Token
  pub rest : List Token
  pub is : spell x A s ≡ token ∷ rest
  pub depth : ℕ
  pub found : begins A token ≡ Some depth
  pub low : depth ≤ height x

pub front : (x : Value) (A : Type') (s : List Token) → Has x A → Front x A s
front (v.Number n) Integer s h = record { token = Number n; rest = s; is = refl; depth = 1; found = refl; low = omega arith }
front (v.Truth b) Boolean s h = record { token = Truth b; rest = s; is = refl; depth = 1; found = refl; low = omega arith }
front (v.Both x y) (PairOf A B) s h = record {
  token = Key k.Open;
  rest = spell x A (Key k.Comma ∷ spell y B (Key k.Close ∷ s));
  is = refl;
  depth = suc (max (least A) (least B));
  found = refl;
  low = (let a = least_height x A h.0 in let b = least_height y B h.1 in omega (arith, a, b));
}
front v.Empty (ListOf A) s h = record { token = Key k.OpenList; rest = Key k.CloseList ∷ s; is = refl; depth = 1; found = refl; low = omega arith }
front (v.Cons x y) (ListOf A) s h =
    record { token = Key k.OpenList; rest = spell x A (spell_tail y A s); is = refl; depth = 1; found = refl; low = height_some (v.Cons x y) }
front v.Empty (TreeOf A) s h = record { token = Key k.Leaf; rest = s; is = refl; depth = 1; found = refl; low = omega arith }
front (v.Node x y z) (TreeOf A) s h = record {
  token = Key k.Node;
  rest = Key k.Open ∷ spell x A (Key k.Comma ∷ spell y (TreeOf A) (Key k.Comma ∷ spell z (TreeOf A) (Key k.Close ∷ s)));
  is = refl;
  depth = suc (least A);
  found = refl;
  low = (let a = least_height x A h.0 in omega (arith, a));
}
front v.Empty (OptionOf A) s h = record { token = Key k.Nothing; rest = s; is = refl; depth = 1; found = refl; low = omega arith }
front (v.Just x) (OptionOf A) s h = record {
  token = Key k.Just;
  rest = Key k.Open ∷ spell x A (Key k.Close ∷ s);
  is = refl;
  depth = suc (least A);
  found = refl;
  low = (let a = least_height x A h in omega (arith, a));
}
front _ _ s h = absurd h

pub none_spelled : (x : Value) (A : Type') (r : List Token) → Has x A → [] ≡ spell x A r → ⊥
none_spelled x A r h e = let f = front x A r h in let d : [] ≡ f.token ∷ f.rest = e ∙ f.is in cc

-- no value begins with `]`
pub no_end : (x : Value) (A : Type') (s r : List Token) → Has x A → Key k.CloseList ∷ s ≡ spell x A r → ⊥
no_end x A s r h e = let f = front x A r h in none A f.depth (ap (begins A) (head_eq _ _ s f.rest (e ∙ f.is)) ∙ f.found)
  where
    none : (A : Type') (n : ℕ) → begins A (Key k.CloseList) ≡ Some n → ⊥
    none Integer n e = cc
    none Boolean n e = cc
    none (PairOf A B) n e = cc
    none (ListOf A) n e = cc
    none (TreeOf A) n e = cc
    none (OptionOf A) n e = cc

-- a value of this type and height, whose first token this is
pub record Begun (A : Type') (t : Token) (h : ℕ) : Type 0 where
  pub value : Value
  pub has : Has value A
  pub high : height value ≡ h
  pub front : (s : List Token) → (r : List Token) × (spell value A s ≡ t ∷ r)

pub begun : (A : Type') (t : Token) (h : ℕ) → Sane t → begins A t ≡ Some h → Begun A t h
begun Integer (Number n) h sane e = record { value = v.Number n; has = sane; high = (let q : 1 ≡ h = cc in q); front = λ s. (s, refl) }
begun Boolean (Truth b) h sane e = record { value = v.Truth b; has = tt; high = (let q : 1 ≡ h = cc in q); front = λ s. (s, refl) }
begun (PairOf A B) (Key k.Open) h sane e =
    let a = least_value A in
    let b = least_value B in
    let q : suc (max (least A) (least B)) ≡ h = cc in
    record {
      value = v.Both a.0 b.0;
      has = (a.1, b.1);
      high = (λ i. suc (max (a.2 i) (b.2 i))) ∙ q;
      front = λ s. (spell a.0 A (Key k.Comma ∷ spell b.0 B (Key k.Close ∷ s)), refl);
    }
begun (ListOf A) (Key k.OpenList) h sane e =
    record { value = v.Empty; has = tt; high = (let q : 1 ≡ h = cc in q); front = λ s. (Key k.CloseList ∷ s, refl) }
begun (TreeOf A) (Key k.Leaf) h sane e = record { value = v.Empty; has = tt; high = (let q : 1 ≡ h = cc in q); front = λ s. (s, refl) }
begun (TreeOf A) (Key k.Node) h sane e =
    let a = least_value A in
    let q : suc (least A) ≡ h = cc in
    let some = least_some A in
    let l = a.2 in
    let p : suc (max (height a.0) (max 1 1)) ≡ suc (least A) = omega (arith, l, some) in
    record {
      value = v.Node a.0 v.Empty v.Empty;
      has = (a.1, tt, tt);
      high = p ∙ q;
      front = λ s. (Key k.Open ∷ spell a.0 A (Key k.Comma ∷ Key k.Leaf ∷ Key k.Comma ∷ Key k.Leaf ∷ Key k.Close ∷ s), refl);
    }
begun (OptionOf A) (Key k.Nothing) h sane e = record { value = v.Empty; has = tt; high = (let q : 1 ≡ h = cc in q); front = λ s. (s, refl) }
begun (OptionOf A) (Key k.Just) h sane e =
    let a = least_value A in
    let q : suc (least A) ≡ h = cc in
    record { value = v.Just a.0; has = a.1; high = ap suc a.2 ∙ q; front = λ s. (Key k.Open ∷ spell a.0 A (Key k.Close ∷ s), refl) }
begun _ _ h sane e = absurd (cc)
