-- The texts of values.
use Rattle.std.proofs.Common.{◌≡◌, List, [], ◌∷◌, ◌++◌, refl, sym, ap, ◌∙◌, append_assoc}
use Rattle.std.proofs.lemmas.List.{append-nil}
use Rattle.std.specs.Prelude.{codes}
use Rattle.std.specs.Fmt.{signed_decimal}
use Rattle.raml_syntax.specs.Tree.{Text, Type', Integer, Boolean, PairOf, ListOf, TreeOf, OptionOf}
use Rattle.raml_syntax.specs.Value as v
use Rattle.raml_syntax.specs.Value.{Value, Has}
use Rattle.raml_syntax.specs.Read.{list_value}
use Rattle.value_text.specs.declared.sign.Sign.TheVariants as k
use Rattle.value_text.specs.Spelling.{Token, Key, Truth, spell, spell_empty, spell_tail}
use Rattle.value_text.specs.Printing.{printed, text_of, token_text}
use Rattle.explain_made.specs.Made.{listed}

empty_front : (A : Type') (s : List Token) → text_of (spell_empty A s) ≡ text_of (spell_empty A []) ++ text_of s
empty_front Integer s = refl
empty_front Boolean s = refl
empty_front (PairOf A B) s = refl
empty_front (ListOf A) s = refl
empty_front (TreeOf A) s = refl
empty_front (OptionOf A) s = refl

-- what is spelled from a value on is its text, and what comes behind
abbrev pub Fronts : Value → Type' → Type 0
Fronts x A = (s : List Token) → text_of (spell x A s) ≡ printed x A ++ text_of s

-- so it is where one text serves all that may come behind
closed : (x : Value) (A : Type') (front : Text) → ((s : List Token) → text_of (spell x A s) ≡ front ++ text_of s) → Fronts x A
closed x A front e s = e s ∙ ap (λ t. t ++ text_of s) (sym (append-nil front) ∙ sym (e []))

around_one : (a q b t : Text) → a ++ (q ++ (b ++ t)) ≡ (a ++ (q ++ b)) ++ t
around_one a q b t = ap (λ l. a ++ l) (sym (append_assoc q b t)) ∙ sym (append_assoc a (q ++ b) t)

around_two : (a q b r t : Text) → a ++ (q ++ (b ++ (r ++ t))) ≡ (a ++ (q ++ (b ++ r))) ++ t
around_two a q b r t = ap (λ l. a ++ (q ++ l)) (sym (append_assoc b r t)) ∙ around_one a q (b ++ r) t

around_three : (a q b c r t : Text) → a ++ (q ++ (b ++ (q ++ (c ++ (r ++ t))))) ≡ (a ++ (q ++ (b ++ (q ++ (c ++ r))))) ++ t
around_three a q b c r t = ap (λ l. a ++ (q ++ l)) (around_two b q c r t) ∙ around_one a q (b ++ (q ++ (c ++ r))) t

-- a pair, a node, a content and a list, with what comes behind
both_front : (x y : Value) (A B : Type') (s : List Token) → Fronts x A → Fronts y B →
    text_of (spell (v.Both x y) (PairOf A B) s) ≡ codes "(" ++ (printed x A ++ (codes ", " ++ (printed y B ++ (codes ")" ++ text_of s))))
both_front x y A B s f g =
    ap (λ t. codes "(" ++ t) (f (Key k.Comma ∷ spell y B (Key k.Close ∷ s)) ∙ ap (λ t. printed x A ++ (codes ", " ++ t)) (g (Key k.Close ∷ s)))

node_front : (x y z : Value) (A : Type') (s : List Token) → Fronts x A → Fronts y (TreeOf A) → Fronts z (TreeOf A) →
    text_of (spell (v.Node x y z) (TreeOf A) s)
    ≡ codes "node(" ++ (printed x A ++ (codes ", " ++ (printed y (TreeOf A) ++ (codes ", " ++ (printed z (TreeOf A) ++ (codes ")" ++ text_of s))))))
node_front x y z A s f g h =
    let three = ap (λ t. printed y (TreeOf A) ++ (codes ", " ++ t)) (h (Key k.Close ∷ s)) in
    let two = ap (λ t. printed x A ++ (codes ", " ++ t)) (g (Key k.Comma ∷ spell z (TreeOf A) (Key k.Close ∷ s)) ∙ three) in
    ap (λ t. codes "node(" ++ t) (f (Key k.Comma ∷ spell y (TreeOf A) (Key k.Comma ∷ spell z (TreeOf A) (Key k.Close ∷ s))) ∙ two)

just_front : (x : Value) (A : Type') (s : List Token) → Fronts x A →
    text_of (spell (v.Just x) (OptionOf A) s) ≡ codes "some(" ++ (printed x A ++ (codes ")" ++ text_of s))
just_front x A s f = ap (λ t. codes "some(" ++ t) (f (Key k.Close ∷ s))

cons_front : (x y : Value) (A : Type') (s : List Token) → Fronts x A →
    text_of (spell (v.Cons x y) (ListOf A) s) ≡ codes "[" ++ (printed x A ++ text_of (spell_tail y A s))
cons_front x y A s f = ap (λ t. codes "[" ++ t) (f (spell_tail y A s))

mutual
  pub spell_front : (x : Value) (A : Type') → Has x A → Fronts x A
  spell_front (v.Number n) A h s = ap (λ t. t ++ text_of s) (sym (append-nil (signed_decimal n)))
  spell_front (v.Truth b) A h s = ap (λ t. t ++ text_of s) (sym (append-nil (token_text (Truth b))))
  spell_front v.Empty A h s = empty_front A s
  spell_front (v.Both x y) (PairOf A B) h s =
      closed (v.Both x y) (PairOf A B) (codes "(" ++ (printed x A ++ (codes ", " ++ (printed y B ++ codes ")"))))
      (λ r. both_front x y A B r (spell_front x A h.0) (spell_front y B h.1)
      ∙ ap (λ t. codes "(" ++ t) (around_two (printed x A) (codes ", ") (printed y B) (codes ")") (text_of r))) s
  spell_front (v.Cons x y) (ListOf A) h s =
      closed (v.Cons x y) (ListOf A) (codes "[" ++ (printed x A ++ text_of (spell_tail y A [])))
      (λ r. cons_front x y A r (spell_front x A h.0)
      ∙ ap (λ t. codes "[" ++ t) (ap (λ t. printed x A ++ t) (tail_front y A h.1 r) ∙ sym (append_assoc (printed x A) (text_of (spell_tail y A [])) (text_of r)))) s
  spell_front (v.Node x y z) (TreeOf A) h s =
      closed (v.Node x y z) (TreeOf A) (codes "node(" ++ (printed x A ++ (codes ", " ++ (printed y (TreeOf A) ++ (codes ", " ++ (printed z (TreeOf A) ++ codes ")"))))))
      (λ r. node_front x y z A r (spell_front x A h.0) (spell_front y (TreeOf A) h.1) (spell_front z (TreeOf A) h.2)
      ∙ ap (λ t. codes "node(" ++ t) (around_three (printed x A) (codes ", ") (printed y (TreeOf A)) (printed z (TreeOf A)) (codes ")") (text_of r))) s
  spell_front (v.Just x) (OptionOf A) h s =
      closed (v.Just x) (OptionOf A) (codes "some(" ++ (printed x A ++ codes ")"))
      (λ r. just_front x A r (spell_front x A h)
      ∙ ap (λ t. codes "some(" ++ t) (sym (append_assoc (printed x A) (codes ")") (text_of r)))) s
  spell_front _ A h s = absurd h

  tail_front : (x : Value) (A : Type') → Has x (ListOf A) → (s : List Token) → text_of (spell_tail x A s) ≡ text_of (spell_tail x A []) ++ text_of s
  tail_front v.Empty A h s = refl
  tail_front (v.Cons x y) A h s =
      let rest = text_of (spell_tail y A []) in
      let front = spell_front x A h.0 in
      let all = front (spell_tail y A s) ∙ ap (λ t. printed x A ++ t) (tail_front y A h.1 s) ∙ sym (append_assoc (printed x A) rest (text_of s)) in
      ap (λ t. codes ", " ++ t) (all ∙ ap (λ t. t ++ text_of s) (sym (front (spell_tail y A []))))
  tail_front _ A h s = absurd h

-- the texts of made values, by those of their parts
pub both_text : (x y : Value) (A B : Type') → Has x A → Has y B →
    printed (v.Both x y) (PairOf A B) ≡ codes "(" ++ (printed x A ++ (codes ", " ++ (printed y B ++ codes ")")))
both_text x y A B h k = both_front x y A B [] (spell_front x A h) (spell_front y B k)

pub node_text : (x y z : Value) (A : Type') → Has x A → Has y (TreeOf A) → Has z (TreeOf A) →
    printed (v.Node x y z) (TreeOf A)
    ≡ codes "node(" ++ (printed x A ++ (codes ", " ++ (printed y (TreeOf A) ++ (codes ", " ++ (printed z (TreeOf A) ++ codes ")")))))
node_text x y z A h k l = node_front x y z A [] (spell_front x A h) (spell_front y (TreeOf A) k) (spell_front z (TreeOf A) l)

pub just_text : (x : Value) (A : Type') → Has x A → printed (v.Just x) (OptionOf A) ≡ codes "some(" ++ (printed x A ++ codes ")")
just_text x A h = just_front x A [] (spell_front x A h)

tail_text : (xs : List Value) (A : Type') → Has (list_value xs) (ListOf A) → text_of (spell_tail (list_value xs) A []) ≡ listed xs A ++ codes "]"
tail_text [] A h = refl
tail_text (x ∷ xs) A h =
    let all = spell_front x A h.0 (spell_tail (list_value xs) A []) ∙ ap (λ t. printed x A ++ t) (tail_text xs A h.1) in
    ap (λ t. codes ", " ++ t) (all ∙ sym (append_assoc (printed x A) (listed xs A) (codes "]")))

pub list_text : (x : Value) (xs : List Value) (A : Type') → Has x A → Has (list_value xs) (ListOf A) →
    printed (v.Cons x (list_value xs)) (ListOf A) ≡ codes "[" ++ (printed x A ++ (listed xs A ++ codes "]"))
list_text x xs A h k = cons_front x (list_value xs) A [] (spell_front x A h) ∙ ap (λ t. codes "[" ++ (printed x A ++ t)) (tail_text xs A k)

-- one element more
pub listed_more : (xs : List Value) (x : Value) (A : Type') → listed (xs ++ x ∷ []) A ≡ listed xs A ++ (codes ", " ++ printed x A)
listed_more [] x A = ap (λ t. codes ", " ++ t) (append-nil (printed x A))
listed_more (y ∷ xs) x A =
    ap (λ t. codes ", " ++ t) (ap (λ t. printed y A ++ t) (listed_more xs x A) ∙ sym (append_assoc (printed y A) (listed xs A) (codes ", " ++ printed x A)))

pub list_more : (xs : List Value) (x : Value) (A : Type') → Has (list_value xs) (ListOf A) → Has x A → Has (list_value (xs ++ x ∷ [])) (ListOf A)
list_more [] x A h k = (k, tt)
list_more (y ∷ xs) x A h k = (h.0, list_more xs x A h.1 k)
