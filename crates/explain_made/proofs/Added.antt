-- Values that are appended, part by part.
use Rattle.std.proofs.Common.{◌≡◌, ℤ, Bool, List, [], ◌∷◌, ◌++◌, Result, Ok, Err, sym, ap, subst, ◌∙◌, append_assoc}
use Rattle.std.proofs.lemmas.List.{append-nil}
use Rattle.std.specs.Prelude.{codes, FitsSigned, OnOk, is_ok, if◌then◌else◌}
use Rattle.std.specs.Fmt.{signed_decimal}
use Rattle.std.specs.Int.{w64}
use Rattle.raml_syntax.specs.Tree.{Text, Type', Integer, Boolean, PairOf, ListOf, TreeOf, OptionOf}
use Rattle.raml_syntax.specs.Value as v
use Rattle.raml_syntax.specs.Value.{HaveTypes}
use Rattle.raml_syntax.specs.Read.{list_value}
use Rattle.value_text.specs.Spelling.{Truth, spell_more, spell_all}
use Rattle.value_text.specs.Printing.{printed, text_of, token_text}
use Rattle.explain_made.specs.Made.{AddsValue, AddsItems, AddsMore, AddsArguments, AreArguments, listed}
use Rattle.explain_made.proofs.Texts.{spell_front, both_text, node_text, just_text, list_text, listed_more, list_more}

-- a last text that is appended, where there is memory for it
pub at_last : {T E P : Type 0} (r : Result T E) (old new last : Text) → new ≡ (if is_ok r then old ++ last else old) → (new ≡ old ++ last → P) → OnOk r P
at_last (Ok x) old new last e f = f e
at_last (Err x) old new last e f = tt

-- what a call gives, turned
pub turned : {T E P Q : Type 0} (r : Result T E) → (P → Q) → OnOk r P → OnOk r Q
turned (Ok x) f h = f h
turned (Err x) f h = tt

pub as_type : (A B : Type') (old new : Text) → B ≡ A → AddsValue A old new → AddsValue B old new
as_type A B old new e h = subst (λ C. AddsValue C old new) (sym e) h

pub number_added : (n : ℤ) (old new : Text) → FitsSigned w64 n → new ≡ old ++ signed_decimal n → AddsValue Integer old new
number_added n old new f e = record { value = v.Number n; has = f; grows = e ∙ ap (λ t. old ++ t) (sym (append-nil (signed_decimal n))) }

pub truth_added : (b : Bool) (old new : Text) → new ≡ old ++ token_text (Truth b) → AddsValue Boolean old new
truth_added b old new e = record { value = v.Truth b; has = tt; grows = e ∙ ap (λ t. old ++ t) (sym (append-nil (token_text (Truth b)))) }

pub nil_added : (A : Type') (old new : Text) → new ≡ old ++ codes "[]" → AddsValue (ListOf A) old new
nil_added A old new e = record { value = v.Empty; has = tt; grows = e }

pub leaf_added : (A : Type') (old new : Text) → new ≡ old ++ codes "leaf" → AddsValue (TreeOf A) old new
leaf_added A old new e = record { value = v.Empty; has = tt; grows = e }

pub none_added : (A : Type') (old new : Text) → new ≡ old ++ codes "none" → AddsValue (OptionOf A) old new
none_added A old new e = record { value = v.Empty; has = tt; grows = e }

-- a sign and a value
opened : (A : Type') (o p t u : Text) → t ≡ o ++ p → (h : AddsValue A t u) → u ≡ o ++ (p ++ printed h.value A)
opened A o p t u e h = h.grows ∙ ap (λ l. l ++ printed h.value A) e ∙ append_assoc o p (printed h.value A)

-- and what comes behind
closed : (o a b t new : Text) → t ≡ o ++ a → new ≡ t ++ b → new ≡ o ++ (a ++ b)
closed o a b t new e f = f ∙ ap (λ l. l ++ b) e ∙ append_assoc o a b

flat_three : (p a r : Text) → (p ++ a) ++ r ≡ p ++ (a ++ r)
flat_three p a r = append_assoc p a r

flat_five : (p a q b r : Text) → (((p ++ a) ++ q) ++ b) ++ r ≡ p ++ (a ++ (q ++ (b ++ r)))
flat_five p a q b r =
    append_assoc ((p ++ a) ++ q) b r ∙ append_assoc (p ++ a) q (b ++ r) ∙ append_assoc p a (q ++ (b ++ r))

pub both_added : (A B : Type') (o s t u w new : Text) → s ≡ o ++ codes "(" → AddsValue A s t → u ≡ t ++ codes ", " → AddsValue B u w → new ≡ w ++ codes ")" → AddsValue (PairOf A B) o new
both_added A B o s t u w new e x f y g =
    let a = printed x.value A in
    let b = printed y.value B in
    let one = opened A o (codes "(") s t e x in
    let two = closed o (codes "(" ++ a) (codes ", ") t u one f in
    let three = closed o ((codes "(" ++ a) ++ codes ", ") b u w two y.grows in
    let four = closed o (((codes "(" ++ a) ++ codes ", ") ++ b) (codes ")") w new three g in
    record {
      value = v.Both x.value y.value;
      has = (x.has, y.has);
      grows = four ∙ ap (λ t. o ++ t) (flat_five (codes "(") a (codes ", ") b (codes ")") ∙ sym (both_text x.value y.value A B x.has y.has));
    }

pub just_added : (A : Type') (o s t new : Text) → s ≡ o ++ codes "some(" → AddsValue A s t → new ≡ t ++ codes ")" → AddsValue (OptionOf A) o new
just_added A o s t new e x g =
    let a = printed x.value A in
    let one = opened A o (codes "some(") s t e x in
    let two = closed o (codes "some(" ++ a) (codes ")") t new one g in
    record {
      value = v.Just x.value;
      has = x.has;
      grows = two ∙ ap (λ t. o ++ t) (flat_three (codes "some(") a (codes ")") ∙ sym (just_text x.value A x.has));
    }

pub node_added : (A : Type') (o s t u w y z new : Text) → s ≡ o ++ codes "node(" → AddsValue A s t → u ≡ t ++ codes ", " → AddsValue (TreeOf A) u w → y ≡ w ++ codes ", " → AddsValue (TreeOf A) y z → new ≡ z ++ codes ")" → AddsValue (TreeOf A) o new
node_added A o s t u w y z new e x f l g r h =
    let a = printed x.value A in
    let b = printed l.value (TreeOf A) in
    let c = printed r.value (TreeOf A) in
    let one = opened A o (codes "node(") s t e x in
    let two = closed o (codes "node(" ++ a) (codes ", ") t u one f in
    let three = closed o ((codes "node(" ++ a) ++ codes ", ") b u w two l.grows in
    let four = closed o (((codes "node(" ++ a) ++ codes ", ") ++ b) (codes ", ") w y three g in
    let five = closed o ((((codes "node(" ++ a) ++ codes ", ") ++ b) ++ codes ", ") c y z four r.grows in
    let six = closed o (((((codes "node(" ++ a) ++ codes ", ") ++ b) ++ codes ", ") ++ c) (codes ")") z new five h in
    let flat = flat_five (((codes "node(" ++ a) ++ codes ", ") ++ b) (codes ", ") c (codes ")") [] in
    let front = ((codes "node(" ++ a) ++ codes ", ") ++ b in
    let rest = codes ", " ++ (c ++ codes ")") in
    let behind : ((front ++ codes ", ") ++ c) ++ codes ")" ≡ front ++ rest = append_assoc (front ++ codes ", ") c (codes ")") ∙ append_assoc front (codes ", ") (c ++ codes ")") in
    record {
      value = v.Node x.value l.value r.value;
      has = (x.has, l.has, r.has);
      grows = six ∙ ap (λ t. o ++ t) (behind ∙ flat_five (codes "node(") a (codes ", ") b rest ∙ sym (node_text x.value l.value r.value A x.has l.has r.has));
    }

pub list_added : (A : Type') (o s t u new : Text) → s ≡ o ++ codes "[" → AddsValue A s t → AddsItems A t u → new ≡ u ++ codes "]" → AddsValue (ListOf A) o new
list_added A o s t u new e x xs g =
    let a = printed x.value A in
    let b = listed xs.values A in
    let one = opened A o (codes "[") s t e x in
    let two = closed o (codes "[" ++ a) b t u one xs.grows in
    let three = closed o ((codes "[" ++ a) ++ b) (codes "]") u new two g in
    record {
      value = v.Cons x.value (list_value xs.values);
      has = (x.has, xs.have);
      grows = three ∙ ap (λ t. o ++ t) (append_assoc (codes "[" ++ a) b (codes "]") ∙ append_assoc (codes "[") a (b ++ codes "]") ∙ sym (list_text x.value xs.values A x.has xs.have));
    }

-- no elements yet, and one more
pub no_items : (A : Type') (o : Text) → AddsItems A o o
no_items A o = record { values = []; have = tt; grows = sym (append-nil o) }

pub item_added : (A : Type') (o s t new : Text) → AddsItems A o s → t ≡ s ++ codes ", " → AddsValue A t new → AddsItems A o new
item_added A o s t new xs e x =
    let one = opened A s (codes ", ") t new e x in
    record {
      values = xs.values ++ x.value ∷ [];
      have = list_more xs.values x.value A xs.have x.has;
      grows = closed o (listed xs.values A) (codes ", " ++ printed x.value A) s new xs.grows one ∙ ap (λ t. o ++ t) (sym (listed_more xs.values x.value A));
    }

-- arguments
pub no_more : (o new : Text) → new ≡ o ++ codes ")" → AddsMore [] o new
no_more o new e = record { values = []; typed = tt; grows = e }

pub more_added : (A : Type') (As : List Type') (o s t new : Text) → s ≡ o ++ codes ", " → AddsValue A s t → AddsMore As t new → AddsMore (A ∷ As) o new
more_added A As o s t new e x xs =
    let rest = spell_more xs.values As [] in
    let one = opened A o (codes ", ") s t e x in
    let two = closed o (codes ", " ++ printed x.value A) (text_of rest) t new one xs.grows in
    record {
      values = x.value ∷ xs.values;
      typed = (x.has, xs.typed);
      grows = two ∙ ap (λ t. o ++ t) (append_assoc (codes ", ") (printed x.value A) (text_of rest) ∙ ap (λ t. codes ", " ++ t) (sym (spell_front x.value A x.has rest)));
    }

pub no_arguments : (o : Text) → AddsArguments [] o o
no_arguments o = record { values = []; typed = tt; grows = sym (append-nil o) }

pub one_argument : (A : Type') (o new : Text) → AddsValue A o new → AddsArguments (A ∷ []) o new
one_argument A o new x = record { values = x.value ∷ []; typed = (x.has, tt); grows = x.grows }

pub arguments_added : (A B : Type') (As : List Type') (o s t new : Text) → s ≡ o ++ codes "(" → AddsValue A s t → AddsMore (B ∷ As) t new → AddsArguments (A ∷ B ∷ As) o new
arguments_added A B As o s t new e x more = by more.values more.typed more.grows
  where
    by : (xs : List v.Value) → HaveTypes xs (B ∷ As) → new ≡ t ++ text_of (spell_more xs (B ∷ As) []) → AddsArguments (A ∷ B ∷ As) o new
    by [] h g = absurd h
    by (y ∷ xs) h g =
        let rest = spell_more (y ∷ xs) (B ∷ As) [] in
        let one = opened A o (codes "(") s t e x in
        let two = closed o (codes "(" ++ printed x.value A) (text_of rest) t new one g in
        record {
          values = x.value ∷ y ∷ xs;
          typed = (x.has, h);
          grows = two ∙ ap (λ t. o ++ t) (append_assoc (codes "(") (printed x.value A) (text_of rest) ∙ ap (λ t. codes "(" ++ t) (sym (spell_front x.value A x.has rest)));
        }

pub all_added : (types : List Type') (o new : Text) → o ≡ [] → AddsArguments types o new → AreArguments types new
all_added types o new e h = record { values = h.values; typed = h.typed; is = h.grows ∙ ap (λ t. t ++ text_of (spell_all h.values types)) e }
