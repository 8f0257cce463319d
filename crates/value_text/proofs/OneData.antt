-- Data spells one list of arguments at most, and has one first fault at most.
use Rattle.std.proofs.Common.{◌≡◌, ◌≢◌, ℕ, List, [], ◌∷◌, ◌++◌, refl, sym, ap, subst, ◌∙◌, append_assoc, ℤ, Bool}
use Rattle.raml_syntax.specs.Tree.{Type', Integer, Boolean, PairOf, ListOf, TreeOf, OptionOf}
use Rattle.raml_syntax.specs.Value as v
use Rattle.raml_syntax.specs.Value.{Value, Has, HaveTypes}
use Rattle.value_text.specs.declared.sign.Sign.TheVariants as k
use Rattle.value_text.specs.Spelling.{Token, Key, spell, spell_tail, spell_more, spell_all}
use Rattle.value_text.specs.Reading.{Spell, CanBegin, IsKind, Faults, here, end}
use Rattle.value_text.specs.declared.fault.Kind.{Kind}
use Rattle.value_text.specs.declared.fault.Kind.TheVariants as j
use Rattle.value_text.proofs.Front.{tail_eq, no_end}

-- a value's tokens begin no other's: of this value, as one of the type
abbrev Only : Value → Type' → Type 0
Only x A = (y : Value) (s r : List Token) → Has y A → spell x A s ≡ spell y A r → (x ≡ y) × (s ≡ r)

-- of this rest of a list
abbrev OnlyTail : Value → Type' → Type 0
OnlyTail x A = (y : Value) (s r : List Token) → Has y (ListOf A) → spell_tail x A s ≡ spell_tail y A r → (x ≡ y) × (s ≡ r)

only_number : (n : ℤ) → Only (v.Number n) Integer
only_number n (v.Number m) s r h e = (ap v.Number (cc), tail_eq _ _ _ _ e)
only_number n _ s r h e = absurd h

only_truth : (n : Bool) → Only (v.Truth n) Boolean
only_truth n (v.Truth m) s r h e = (ap v.Truth (cc), tail_eq _ _ _ _ e)
only_truth n _ s r h e = absurd h

only_both : (x y : Value) (A B : Type') → Only x A → Only y B → Only (v.Both x y) (PairOf A B)
only_both x y A B f g (v.Both z w) s r h e =
    let one = f z (Key k.Comma ∷ spell y B (Key k.Close ∷ s)) (Key k.Comma ∷ spell w B (Key k.Close ∷ r)) h.0 (tail_eq _ _ _ _ e) in
    let two = g w (Key k.Close ∷ s) (Key k.Close ∷ r) h.1 (tail_eq _ _ _ _ one.1) in
    ((λ i. v.Both (one.0 i) (two.0 i)), tail_eq _ _ _ _ two.1)
only_both x y A B f g _ s r h e = absurd h

only_nil : (A : Type') → Only v.Empty (ListOf A)
only_nil A v.Empty s r h e = (refl, tail_eq _ _ _ _ (tail_eq _ _ _ _ e))
only_nil A (v.Cons z w) s r h e = absurd (no_end z A s (spell_tail w A r) h.0 (tail_eq _ _ _ _ e))
only_nil A _ s r h e = absurd h

only_cons : (x y : Value) (A : Type') → Has x A → Only x A → OnlyTail y A → Only (v.Cons x y) (ListOf A)
only_cons x y A hx f g v.Empty s r h e = absurd (no_end x A r (spell_tail y A s) hx (sym (tail_eq _ _ _ _ e)))
only_cons x y A hx f g (v.Cons z w) s r h e =
    let one = f z (spell_tail y A s) (spell_tail w A r) h.0 (tail_eq _ _ _ _ e) in
    let two = g w s r h.1 one.1 in
    ((λ i. v.Cons (one.0 i) (two.0 i)), two.1)
only_cons x y A hx f g _ s r h e = absurd h

only_leaf : (A : Type') → Only v.Empty (TreeOf A)
only_leaf A v.Empty s r h e = (refl, tail_eq _ _ _ _ e)
only_leaf A (v.Node a b c) s r h e = absurd (cc)
only_leaf A _ s r h e = absurd h

only_node : (x y t : Value) (A : Type') → Only x A → Only y (TreeOf A) → Only t (TreeOf A) → Only (v.Node x y t) (TreeOf A)
only_node x y t A f g q v.Empty s r h e = absurd (cc)
only_node x y t A f g q (v.Node a b c) s r h e =
    let B = TreeOf A in
    let s1 = Key k.Comma ∷ spell y B (Key k.Comma ∷ spell t B (Key k.Close ∷ s)) in
    let r1 = Key k.Comma ∷ spell b B (Key k.Comma ∷ spell c B (Key k.Close ∷ r)) in
    let one = f a s1 r1 h.0 (tail_eq _ _ _ _ (tail_eq _ _ _ _ e)) in
    let two = g b (Key k.Comma ∷ spell t B (Key k.Close ∷ s)) (Key k.Comma ∷ spell c B (Key k.Close ∷ r)) h.1 (tail_eq _ _ _ _ one.1) in
    let three = q c (Key k.Close ∷ s) (Key k.Close ∷ r) h.2 (tail_eq _ _ _ _ two.1) in
    ((λ i. v.Node (one.0 i) (two.0 i) (three.0 i)), tail_eq _ _ _ _ three.1)
only_node x y t A f g q _ s r h e = absurd h

only_none : (A : Type') → Only v.Empty (OptionOf A)
only_none A v.Empty s r h e = (refl, tail_eq _ _ _ _ e)
only_none A (v.Just z) s r h e = absurd (cc)
only_none A _ s r h e = absurd h

only_some : (x : Value) (A : Type') → Only x A → Only (v.Just x) (OptionOf A)
only_some x A f v.Empty s r h e = absurd (cc)
only_some x A f (v.Just z) s r h e =
    let one = f z (Key k.Close ∷ s) (Key k.Close ∷ r) h (tail_eq _ _ _ _ (tail_eq _ _ _ _ e)) in
    (ap v.Just one.0, tail_eq _ _ _ _ one.1)
only_some x A f _ s r h e = absurd h

only_end : (A : Type') → OnlyTail v.Empty A
only_end A v.Empty s r h e = (refl, tail_eq _ _ _ _ e)
only_end A (v.Cons z w) s r h e = absurd (cc)
only_end A _ s r h e = absurd h

only_more : (x y : Value) (A : Type') → Only x A → OnlyTail y A → OnlyTail (v.Cons x y) A
only_more x y A f g v.Empty s r h e = absurd (cc)
only_more x y A f g (v.Cons z w) s r h e =
    let one = f z (spell_tail y A s) (spell_tail w A r) h.0 (tail_eq _ _ _ _ e) in
    let two = g w s r h.1 one.1 in
    ((λ i. v.Cons (one.0 i) (two.0 i)), two.1)
only_more x y A f g _ s r h e = absurd h

mutual
  pub one_value : (x : Value) (A : Type') → Has x A → Only x A
  one_value (v.Number n) Integer h = only_number n
  one_value (v.Truth n) Boolean h = only_truth n
  one_value (v.Both x y) (PairOf A B) h = only_both x y A B (one_value x A h.0) (one_value y B h.1)
  one_value v.Empty (ListOf A) h = only_nil A
  one_value (v.Cons x y) (ListOf A) h = only_cons x y A h.0 (one_value x A h.0) (one_tail y A h.1)
  one_value v.Empty (TreeOf A) h = only_leaf A
  one_value (v.Node x y z) (TreeOf A) h = only_node x y z A (one_value x A h.0) (one_value y (TreeOf A) h.1) (one_value z (TreeOf A) h.2)
  one_value v.Empty (OptionOf A) h = only_none A
  one_value (v.Just x) (OptionOf A) h = only_some x A (one_value x A h)
  one_value _ _ h = absurd h

  pub one_tail : (x : Value) (A : Type') → Has x (ListOf A) → OnlyTail x A
  one_tail v.Empty A h = only_end A
  one_tail (v.Cons x y) A h = only_more x y A (one_value x A h.0) (one_tail y A h.1)
  one_tail _ A h = absurd h

one_more : (xs ys : List Value) (As : List Type') → HaveTypes xs As → HaveTypes ys As → spell_more xs As [] ≡ spell_more ys As [] → xs ≡ ys
one_more [] [] [] h i e = refl
one_more (x ∷ xs) (y ∷ ys) (A ∷ As) h i e =
    let one = one_value x A h.0 y (spell_more xs As []) (spell_more ys As []) i.0 (tail_eq _ _ _ _ e) in
    let rest = one_more xs ys As h.1 i.1 one.1 in
    (λ i. one.0 i ∷ rest i)
one_more (x ∷ xs) ys [] h i e = absurd h
one_more [] (y ∷ ys) [] h i e = absurd i
one_more [] ys (A ∷ As) h i e = absurd h
one_more (x ∷ xs) [] (A ∷ As) h i e = absurd i

one_all : (xs ys : List Value) (As : List Type') → HaveTypes xs As → HaveTypes ys As → spell_all xs As ≡ spell_all ys As → xs ≡ ys
one_all [] [] [] h i e = refl
one_all (x ∷ []) (y ∷ []) (A ∷ []) h i e = let one = one_value x A h.0 y [] [] i.0 e in (λ i. one.0 i ∷ [])
one_all (x ∷ a ∷ xs) (y ∷ b ∷ ys) (A ∷ B ∷ As) h i e =
    let one = one_value x A h.0 y (spell_more (a ∷ xs) (B ∷ As) []) (spell_more (b ∷ ys) (B ∷ As) []) i.0 (tail_eq _ _ _ _ e) in
    let rest = one_more (a ∷ xs) (b ∷ ys) (B ∷ As) h.1 i.1 one.1 in
    (λ i. one.0 i ∷ rest i)
one_all (x ∷ xs) ys [] h i e = absurd h
one_all [] (y ∷ ys) [] h i e = absurd i
one_all [] ys (A ∷ As) h i e = absurd h
one_all (x ∷ xs) [] (A ∷ As) h i e = absurd i
one_all (x ∷ []) ys (A ∷ B ∷ As) h i e = absurd h.1
one_all (x ∷ a ∷ xs) ys (A ∷ []) h i e = absurd h.1
one_all (x ∷ a ∷ xs) (y ∷ []) (A ∷ B ∷ As) h i e = absurd i.1
one_all (x ∷ []) (y ∷ b ∷ ys) (A ∷ []) h i e = absurd i.1

pub one_spelled : (types : List Type') (d f : ℕ) (s : List Token) (xs ys : List Value) → Spell types d s xs → Spell types f s ys → xs ≡ ys
one_spelled types d f s xs ys h i = one_all xs ys types h.typed i.typed (sym h.tokens ∙ i.tokens)

-- FAULTS

-- data with a fault spells no arguments
pub no_fault : (types : List Type') (d : ℕ) (s : List Token) (k : Kind) (u : List Token) (xs : List Value) → Faults types d s k u → Spell types d s xs → ⊥
no_fault types d s k u xs (here {a = a} {b = b} {t = t} is before differs kind) h =
    differs (record { more = b; values = xs; spelled = subst (λ s. Spell types d s xs) (is ∙ sym (append_assoc a (t ∷ []) b)) h })
no_fault types d s k u xs (end before none) h = none xs h

-- of two splits of a list, one goes on from the other
data Split (a : List Token) (t : Token) (b : List Token) (c : List Token) (v : Token) (e : List Token) : Type 0 where
  same : a ≡ c → t ≡ v → b ≡ e → Split a t b c v e
  first : (m : List Token) → c ≡ (a ++ t ∷ []) ++ m → Split a t b c v e
  second : (m : List Token) → a ≡ (c ++ v ∷ []) ++ m → Split a t b c v e

split : (a : List Token) (t : Token) (b c : List Token) (v : Token) (e : List Token) → a ++ t ∷ b ≡ c ++ v ∷ e → Split a t b c v e
split [] t b [] v e q = same refl (cc) (tail_eq _ _ _ _ q)
split [] t b (x ∷ c) v e q = first c (let d : t ≡ x = cc in λ i. sym d i ∷ c)
split (x ∷ a) t b [] v e q = second a (let d : x ≡ v = cc in λ i. d i ∷ a)
split (x ∷ a) t b (y ∷ c) v e q = go (split a t b c v e (tail_eq _ _ _ _ q))
  where
    d : x ≡ y
    d = cc

    go : Split a t b c v e → Split (x ∷ a) t b (y ∷ c) v e
    go (same f g h) = same (λ i. d i ∷ f i) g h
    go (first m f) = first m (λ i. sym d i ∷ f i)
    go (second m f) = second m (λ i. d i ∷ f i)

begins_less : (types : List Type') (d : ℕ) (a m : List Token) → CanBegin types d (a ++ m) → CanBegin types d a
begins_less types d a m c = record { more = m ++ c.more; values = c.values; spelled = subst (λ s. Spell types d s c.values) (append_assoc a m c.more) c.spelled }

not_empty : (a m : List Token) (t : Token) → (a ++ t ∷ []) ++ m ≢ []
not_empty [] m t e = cc
not_empty (x ∷ a) m t e = cc

one_kind : (types : List Type') (s r : List Token) (k f : Kind) → s ≡ r → IsKind types s k → IsKind types r f → k ≡ f
one_kind types s r j.Shape j.Shape e h i = refl
one_kind types s r j.TooDeep j.TooDeep e h i = refl
one_kind types s r j.Shape j.TooDeep e h i = absurd (h i.0 (subst (CanBegin types i.0) (sym e) i.1))
one_kind types s r j.TooDeep j.Shape e h i = absurd (i h.0 (subst (CanBegin types h.0) e h.1))

pub one_fault : (types : List Type') (d : ℕ) (s : List Token) (k f : Kind) (u w : List Token) → Faults types d s k u → Faults types d s f w → (k ≡ f) × (u ≡ w)
one_fault types d s k f u w (here {a = a} {b = b} {t = t} is before differs kind) (here {a = c} {b = e} {t = v} is' before' differs' kind') = go (split a t b c v e (sym is ∙ is'))
  where
    go : Split a t b c v e → (k ≡ f) × (t ∷ b ≡ v ∷ e)
    go (same p q r) = (one_kind types _ _ k f (λ i. p i ++ q i ∷ []) kind kind', (λ i. q i ∷ r i))
    go (first m p) = absurd (differs (begins_less types d (a ++ t ∷ []) m (subst (CanBegin types d) p (before' (λ n. not_empty a m t (sym p ∙ n))))))
    go (second m p) = absurd (differs' (begins_less types d (c ++ v ∷ []) m (subst (CanBegin types d) p (before (λ n. not_empty c m v (sym p ∙ n))))))
one_fault types d s k f u w (here {a = a} {b = b} {t = t} is before differs kind) (end before' none) =
    let e = is ∙ sym (append_assoc a (t ∷ []) b) in
    absurd (differs (begins_less types d (a ++ t ∷ []) b (subst (CanBegin types d) e (before' (λ n. not_empty a b t (sym e ∙ n))))))
one_fault types d s k f u w (end before' none) (here {a = a} {b = b} {t = t} is before differs kind) =
    let e = is ∙ sym (append_assoc a (t ∷ []) b) in
    absurd (differs (begins_less types d (a ++ t ∷ []) b (subst (CanBegin types d) e (before' (λ n. not_empty a b t (sym e ∙ n))))))
one_fault types d s k f u w (end before none) (end before' none') = (refl, refl)
