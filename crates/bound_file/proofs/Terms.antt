-- What is read as a term is one.
use Rattle.std.proofs.Common.{◌≡◌, ◌<◌, ◌^◌, ℕ, ℤ, pos, Result, Ok, Err, Bool, true, false, cond, not, List, [], ◌∷◌, ◌++◌, length, Option, Some, None, refl, sym, ap, subst, ◌∙◌, arith, append_assoc, append-nil}
use Rattle.std.proofs.lemmas.Bool.{and_parts, eqb-true, eqb-false, eq-eqb, ne_eqb, and_from}
use Rattle.std.proofs.lemmas.Bool.Decides.{nat_tests}
use Rattle.std.proofs.lemmas.Str.Parse.{IsNumeralModel, numerals_by_value, tells_digits, tells_all_ascii_digits, not_in_digits, parse_signed_digits}
use Rattle.std.specs.Prelude.{nat_eq, nat_lt, ◌||◌, ◌&&◌, ◌==◌, ◌⊎◌, codes}
use Rattle.std.specs.Int.{IsInRange}
use Rattle.std.specs.Str.{all_ascii_digits}
use Rattle.std.specs.Str.Parse.{AllDigits, digits_value, ParsesSigned}
use Rattle.std.specs.Result.{OkIff}
use Rattle.std.specs.Int.{w128}
use mathlib.Core.Logic.{inl, inr}
use Rattle.raml_syntax.specs.Tree.{Text}
use Rattle.base_poly.specs.Plain.{Plain, Unit', Pair, End, Then, NoEntry, OneEntry, many, degrees}
use Rattle.poly_text.specs.Text.{index_text, more_entries, entries_text}
use Rattle.bound_file.specs.Spelling.{Term, behind, term_text, IsNumber, tuple_text, IsTuple, IsTerm}
use Rattle.bound_file.specs.Digits.{is_number}
use Rattle.bound_file.specs.Tuples.{is_tuple}
use Rattle.raml_syntax.specs.Cut.{cut_at}
use Rattle.bound_file.specs.Reading.{in_range, quotient_from, quotient_read, term_from, term_read}
use Rattle.raml_syntax.proofs.Cuts.{cut_is, cut_there, no_cut}
use Rattle.bound_file.proofs.Cuts.{lacks_both}
use Rattle.bound_file.proofs.Tupled.{some_have, tuple_read, tuple_is}

pub ascii : IsNumeralModel (λ ds. all_ascii_digits ds ≡ true) (digits_value 10)
ascii = numerals_by_value _ tells_all_ascii_digits

plain : IsNumeralModel (AllDigits 10) (digits_value 10)
plain = numerals_by_value _ tells_digits

no : {A : Type 0} → false ≡ true → A
no e = absurd (cc)

pub number_is : (w : Text) → is_number w ≡ true → IsNumber w
number_is [] e = no e
number_is (c ∷ s) e =
    let h = and_parts (not (nat_eq c 48) || length s == 0) (all_ascii_digits (c ∷ s)) e in
    record { numeral = (omega arith, ascii.to (c ∷ s) h.1); zero_alone = λ z. alone z h.0 }
  where
    alone : c ≡ 48 → (not (nat_eq c 48) || length s == 0) ≡ true → length (c ∷ s) ≡ 1
    alone z g =
        let q : nat_eq c 48 ≡ true = grind (arith, z) in
        let r : (length s == 0) ≡ true = ap (λ b. not b || length s == 0) (sym q) ∙ g in
        let none = eqb-true (length s) 0 r in
        omega (arith, none)

pub number_told : (w : Text) → IsNumber w → is_number w ≡ true
number_told [] h = absurd (let some = h.numeral.0 in omega (arith, some))
number_told (c ∷ s) h = and_from _ _ (at (nat_eq c 48) (λ q. zero q)) (ascii.from (c ∷ s) h.numeral.1)
  where
    zero : nat_eq c 48 ≡ true → (length s == 0) ≡ true
    zero q =
        let z : c ≡ 48 = grind (arith, q) in
        let one = h.zero_alone z in
        eq-eqb (length s) 0 (omega (arith, one))

    at : (b : Bool) → (b ≡ true → (length s == 0) ≡ true) → (not b || length s == 0) ≡ true
    at true f = f refl
    at false f = refl

-- a number has no other bytes than digits
pub number_lacks : (m : ℕ) → (IsInRange 48 57 m → ⊥) → (w : Text) → IsNumber w → cut_at m w ≡ None
number_lacks m apart w h = no_cut m w (not_in_digits plain w m h.numeral.1 apart)

not_star : IsInRange 48 57 42 → ⊥
not_star r = let low = r.0 in omega (arith, low)

not_stroke : IsInRange 48 57 47 → ⊥
not_stroke r = let low = r.0 in omega (arith, low)

not_plus : IsInRange 48 57 43 → ⊥
not_plus r = let low = r.0 in omega (arith, low)

-- no text of an index has a plus
mutual
  index_lacks : (i : Plain) → cut_at 43 (index_text i) ≡ None
  index_lacks Unit' = refl
  index_lacks (Pair a b) =
      lacks_both 43 (codes "(") (index_text a ++ (codes ", " ++ (index_text b ++ codes ")"))) refl
      (lacks_both 43 (index_text a) (codes ", " ++ (index_text b ++ codes ")")) (index_lacks a) (lacks_both 43 (codes ", ") (index_text b ++ codes ")") refl (lacks_both 43 (index_text b) (codes ")") (index_lacks b) refl)))
  index_lacks End = refl
  index_lacks (Then i r) =
      lacks_both 43 (codes "[") ((index_text i ++ more_entries r) ++ codes "]") refl
      (lacks_both 43 (index_text i ++ more_entries r) (codes "]") (lacks_both 43 (index_text i) (more_entries r) (index_lacks i) (more_lack r)) refl)
  index_lacks NoEntry = refl
  index_lacks (OneEntry i) = lacks_both 43 (codes "[") (index_text i ++ codes "]") refl (lacks_both 43 (index_text i) (codes "]") (index_lacks i) refl)

  more_lack : (r : Plain) → cut_at 43 (more_entries r) ≡ None
  more_lack (Then i r) = lacks_both 43 (codes ", ") (index_text i ++ more_entries r) refl (lacks_both 43 (index_text i) (more_entries r) (index_lacks i) (more_lack r))
  more_lack Unit' = refl
  more_lack (Pair a b) = refl
  more_lack End = refl
  more_lack NoEntry = refl
  more_lack (OneEntry i) = refl

entries_lack : (t : List Plain) → cut_at 43 (entries_text (many t)) ≡ None
entries_lack [] = refl
entries_lack (i ∷ t) = lacks_both 43 (index_text i) (more_entries (many t)) (index_lacks i) (more_lack (many t))

tuple_lacks : (t : List Plain) → cut_at 43 (tuple_text t) ≡ None
tuple_lacks t = at (degrees t == 0)
  where
    at : (b : Bool) → cut_at 43 (cond b [] (codes "<" ++ (entries_text (many t) ++ codes ">"))) ≡ None
    at true = refl
    at false = lacks_both 43 (codes "<") (entries_text (many t) ++ codes ">") refl (lacks_both 43 (entries_text (many t)) (codes ">") (entries_lack t) refl)

-- the text of a tuple is none, or it is read as one
pub tuple_told : (c : ℕ) (s : Text) → IsTuple (c ∷ s) → is_tuple (c ∷ s) ≡ true
tuple_told c s h = at (degrees h.0 == 0) refl h.1
  where
    t : List Plain
    t = h.0

    at : (b : Bool) → (degrees t == 0) ≡ b → c ∷ s ≡ cond b [] (codes "<" ++ (entries_text (many t) ++ codes ">")) → is_tuple (c ∷ s) ≡ true
    at true q e = absurd (let l = ap length e in omega (arith, l))
    at false q e =
        let some = eqb-false (degrees t) 0 q in
        let has : some_have t ≡ true = grind (arith, nat_tests, some) in
        ap is_tuple e ∙ tuple_read t ∙ has

pub tuple_text_of : (w : Text) → is_tuple w ≡ true → IsTuple w
tuple_text_of w e =
    let h = tuple_is w e in
    let some : (degrees h.tuple == 0) ≡ false = ne_eqb (degrees h.tuple) 0 (λ z. let s = h.some in apart (degrees h.tuple) z s) in
    (h.tuple, h.is ∙ sym (ap (λ b. cond b [] (codes "<" ++ (entries_text (many h.tuple) ++ codes ">"))) some))
  where
    apart : (n : ℕ) → n ≡ 0 → nat_lt 0 n ≡ true → ⊥
    apart n z s = grind (arith, nat_tests, z, s)

-- Coefficients

over_lacks : (m : ℕ) → (IsInRange 48 57 m → ⊥) → cut_at m (47 ∷ []) ≡ None → (w : Text) → (w ≡ []) ⊎ IsNumber w → cut_at m (behind 47 w) ≡ None
over_lacks m apart stroke [] h = refl
over_lacks m apart stroke (c ∷ s) (inl e) = absurd (let l = ap length e in omega (arith, l))
over_lacks m apart stroke (c ∷ s) (inr h) = lacks_both m (47 ∷ []) (c ∷ s) stroke (number_lacks m apart (c ∷ s) h)

coefficient_lacks : (m : ℕ) → (IsInRange 48 57 m → ⊥) → cut_at m (47 ∷ []) ≡ None → (n d : Text) → IsNumber n → (d ≡ []) ⊎ IsNumber d → cut_at m (n ++ behind 47 d) ≡ None
coefficient_lacks m apart stroke n d h k = lacks_both m n (behind 47 d) (number_lacks m apart n h) (over_lacks m apart stroke d k)

abbrev term_with : Text → Text → Text → Term
term_with n d u = record { numerator = n; denominator = d; tuple = u }

quotient_there : (n d u : Text) → IsNumber n → (d ≡ []) ⊎ IsNumber d → quotient_read (n ++ behind 47 d) u ≡ Some (term_with n d u)
quotient_there n [] u h k =
    ap (λ q. quotient_read q u) (append-nil n) ∙ ap (quotient_from n u) (number_lacks 47 not_stroke n h) ∙ ap (λ b. cond b (Some (term_with n [] u)) None) (number_told n h)
quotient_there n (c ∷ s) u h (inl e) = absurd (let l = ap length e in omega (arith, l))
quotient_there n (c ∷ s) u h (inr k) =
    ap (quotient_from (n ++ 47 ∷ c ∷ s) u) (cut_there 47 n (c ∷ s) (number_lacks 47 not_stroke n h))
    ∙ ap (λ b. cond b (Some (term_with n (c ∷ s) u)) None) (and_from (is_number n) (is_number (c ∷ s)) (number_told n h) (number_told (c ∷ s) k))

term_with_there : (n d u : Text) → IsNumber n → (d ≡ []) ⊎ IsNumber d → IsTuple u → term_read (n ++ (behind 47 d ++ behind 42 u)) ≡ Some (term_with n d u)
term_with_there n d [] h k i =
    let q : n ++ (behind 47 d ++ []) ≡ n ++ behind 47 d = ap (λ w. n ++ w) (append-nil (behind 47 d)) in
    ap term_read q ∙ ap (term_from (n ++ behind 47 d)) (coefficient_lacks 42 not_star refl n d h k) ∙ quotient_there n d [] h k
term_with_there n d (c ∷ s) h k i =
    let q : n ++ (behind 47 d ++ 42 ∷ c ∷ s) ≡ (n ++ behind 47 d) ++ 42 ∷ c ∷ s = sym (append_assoc n (behind 47 d) (42 ∷ c ∷ s)) in
    ap term_read q
    ∙ ap (term_from ((n ++ behind 47 d) ++ 42 ∷ c ∷ s)) (cut_there 42 (n ++ behind 47 d) (c ∷ s) (coefficient_lacks 42 not_star refl n d h k))
    ∙ ap (λ b. cond b (quotient_read (n ++ behind 47 d) (c ∷ s)) None) (tuple_told c s i)
    ∙ quotient_there n d (c ∷ s) h k

pub term_there : (t : Term) → IsTerm t → term_read (term_text t) ≡ Some t
term_there t h = term_with_there t.numerator t.denominator t.tuple h.numerator h.denominator h.tuple

-- a term has no plus
pub term_lacks : (t : Term) → IsTerm t → cut_at 43 (term_text t) ≡ None
term_lacks t h =
    lacks_both 43 t.numerator (behind 47 t.denominator ++ behind 42 t.tuple) (number_lacks 43 not_plus t.numerator h.numerator)
    (lacks_both 43 (behind 47 t.denominator) (behind 42 t.tuple) (over_lacks 43 not_plus refl t.denominator h.denominator) (tail t.tuple h.tuple))
  where
    tail : (u : Text) → IsTuple u → cut_at 43 (behind 42 u) ≡ None
    tail [] i = refl
    tail (c ∷ s) i = lacks_both 43 (42 ∷ []) (c ∷ s) refl (ap (cut_at 43) i.1 ∙ tuple_lacks i.0)

-- And what is read is a term.
record IsQuotient (q u : Text) (t : Term) : Type 0 where
  text : q ≡ t.numerator ++ behind 47 t.denominator
  numerator : IsNumber t.numerator
  denominator : (t.denominator ≡ []) ⊎ IsNumber t.denominator
  tuple : t.tuple ≡ u

same_term : (t u : Term) → Some t ≡ Some u → t ≡ u
same_term t u e = cc

quotient_is : (q u : Text) (t : Term) → quotient_read q u ≡ Some t → IsQuotient q u t
quotient_is q u t e = at (cut_at 47 q) (cut_is 47 q) e
  where
    whole : (b : Bool) → (b ≡ true → IsNumber q) → cond b (Some (term_with q [] u)) None ≡ Some t → IsQuotient q u t
    whole true h e = subst (IsQuotient q u) (same_term (term_with q [] u) t e) (record { text = sym (append-nil q); numerator = h refl; denominator = inl refl; tuple = refl })
    whole false h e = absurd (cc)

    over : (n d : Text) → q ≡ n ++ 47 ∷ d → (a b : Bool) → (a ≡ true → IsNumber n) → (b ≡ true → IsNumber d) → cond (a && b) (Some (term_with n d u)) None ≡ Some t → IsQuotient q u t
    over n [] is true b f g e = at_none b g e
      where
        at_none : (b : Bool) → (b ≡ true → IsNumber []) → cond b (Some (term_with n [] u)) None ≡ Some t → IsQuotient q u t
        at_none true g e = absurd (let some = (g refl).numeral.0 in omega (arith, some))
        at_none false g e = absurd (cc)
    over n (c ∷ s) is true true f g e =
        subst (IsQuotient q u) (same_term (term_with n (c ∷ s) u) t e) (record { text = is; numerator = f refl; denominator = inr (g refl); tuple = refl })
    over n (c ∷ s) is true false f g e = absurd (cc)
    over n d is false b f g e = absurd (cc)

    at : (o : Option (Text × Text)) → ((parts : Text × Text) → o ≡ Some parts → q ≡ parts.0 ++ 47 ∷ parts.1) → quotient_from q u o ≡ Some t → IsQuotient q u t
    at None is e = whole (is_number q) (number_is q) e
    at (Some parts) is e = over parts.0 parts.1 (is parts refl) (is_number parts.0) (is_number parts.1) (number_is parts.0) (number_is parts.1) e

pub record IsRead (w : Text) (t : Term) : Type 0 where
  pub text : w ≡ term_text t
  pub is : IsTerm t

pub term_is : (w : Text) (t : Term) → term_read w ≡ Some t → IsRead w t
term_is w t e = at (cut_at 42 w) (cut_is 42 w) e
  where
    joined : (q u : Text) → w ≡ q ++ behind 42 u → IsTuple u → IsQuotient q u t → IsRead w t
    joined q u is i h = record {
      text = is ∙ (λ n. h.text n ++ behind 42 (sym h.tuple n)) ∙ append_assoc t.numerator (behind 47 t.denominator) (behind 42 t.tuple);
      is = record { numerator = h.numerator; denominator = h.denominator; tuple = subst IsTuple (sym h.tuple) i };
    }

    some : (q u : Text) → w ≡ q ++ 42 ∷ u → (b : Bool) → (b ≡ true → is_tuple u ≡ true) → cond b (quotient_read q u) None ≡ Some t → IsRead w t
    some q [] is true f e = no (f refl)
    some q (c ∷ s) is true f e = joined q (c ∷ s) is (tuple_text_of (c ∷ s) (f refl)) (quotient_is q (c ∷ s) t e)
    some q u is false f e = absurd (cc)

    at : (o : Option (Text × Text)) → ((parts : Text × Text) → o ≡ Some parts → w ≡ parts.0 ++ 42 ∷ parts.1) → term_from w o ≡ Some t → IsRead w t
    at None is e = joined w [] (sym (append-nil w)) ([], refl) (quotient_is w [] t e)
    at (Some parts) is e = some parts.0 parts.1 (is parts refl) (is_tuple parts.1) (λ f. f) e

-- what parsing refuses is out of range
pub number_refused : {E : Type 0} (digits : Text) (r : Result ℤ E) (e : E) → r ≡ Err e → is_number digits ≡ true → ParsesSigned w128 10 digits r → ◌≡◌ {A = Option ℕ} None (in_range (digits_value 10 digits))
number_refused {E} digits r e is told parsed =
    let h = (number_is digits told).numeral in
    at r is (parse_signed_digits ascii w128 digits r parsed (ascii.from digits h.1))
  where
    n : ℕ
    n = digits_value 10 digits

    out : (n < 2 ^ 127 → ⊥) → ◌≡◌ {A = Option ℕ} None (in_range n)
    out wide = sym (ap (λ b. cond b (Some n) None) (test wide))
      where
        test : (n < 2 ^ 127 → ⊥) → (nat_lt 0 n && nat_lt n (2 ^ 127)) ≡ false
        test wide = grind (arith, nat_tests, wide)

    at : (r : Result ℤ E) → r ≡ Err e → OkIff r ((0 < length digits) × (n < 2 ^ 127)) (pos n) → ◌≡◌ {A = Option ℕ} None (in_range n)
    at (Ok x) is h = absurd (cc)
    at (Err x) is h = out (λ low. h ((number_is digits told).numeral.0, low))
