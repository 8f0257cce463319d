-- A line feed behind a JSON text changes nothing of what is read from it.
use Rattle.std.proofs.Common.{◌≡◌, ℕ, ◌+◌, ◌-◌, Bool, true, false, ◌&&◌, ◌||◌, ◌==◌, nat_eq, cond, List, [], ◌∷◌, ◌++◌, length, take, drop, Option, Some, None, option_and_then, option_map, refl, ap, ◌∙◌, arith}
use Rattle.std.proofs.lemmas.List.{length-append, take-append-le, drop-append-le}
use Rattle.std.proofs.lemmas.List.Sums.{prefix_len-le-length}
use Rattle.std.specs.List.{prefix_len}
use Rattle.std.specs.Cmp.Lexicographic.{pointwise}
use Rattle.std.specs.Char.{is_ascii_digit, encode_utf8, is_digit}
use Rattle.json.specs.Token.{Token, boolean, null, number, bad}
use Rattle.json.specs.Ascii as ascii
use Rattle.json.specs.Word.{head, ends_word, after_digits, after_minus, after_sign, after_whole, after_fraction, after_exponent, after_number, number_before, literal, word}
use Rattle.json.specs.Text.{Within, plain, after_backslash, after_u, after_high, code_unit, short_escape, is_high_surrogate, is_low_surrogate, prepend, content}
use Rattle.json.specs.Lex.{Lexeme, Class, quote, other, class, Mode, between, in_word, in_string, in_escape, lex_byte, lex, punctuate, fresh}
use Rattle.json.specs.Json as json
use Rattle.serde_json.specs.Read.{of_json, max_depth, read}

abbrev pub lined : List ℕ → List ℕ
lined t = t ++ 10 ∷ []

-- ---- numbers: what follows a part has the line feed behind it too

cond_map : {A B : Type 0} (f : A → B) (b : Bool) (x y : A) → cond b (f x) (f y) ≡ f (cond b x y)
cond_map f true x y = refl
cond_map f false x y = refl

digits_same : (t : List ℕ) → prefix_len is_ascii_digit (lined t) ≡ prefix_len is_ascii_digit t
digits_same [] = refl
digits_same (x ∷ xs) = ap (λ n. cond (is_ascii_digit x) (1 + n) 0) (digits_same xs)

digits_lined : (t : List ℕ) → after_digits (lined t) ≡ option_map lined (after_digits t)
digits_lined t =
    let n = prefix_len is_ascii_digit t in
    (λ i. cond (digits_same t i == 0) None (Some (drop (digits_same t i) (lined t))))
    ∙ ap (λ r. cond (n == 0) None (Some r)) (drop-append-le n t (10 ∷ []) (prefix_len-le-length is_ascii_digit t))
    ∙ cond_map (option_map lined) (n == 0) None (Some (drop n t))

-- a part that is chosen by its first byte
by_head : {B : Type 0} (m : B → B) (p : ℕ → Bool) (f g : List ℕ → B) → p 10 ≡ false → p 32 ≡ false
    → ((t : List ℕ) → f (lined t) ≡ m (f t)) → ((t : List ℕ) → g (lined t) ≡ m (g t))
    → (t : List ℕ) → cond (p (head (lined t))) (f (drop 1 (lined t))) (g (lined t)) ≡ m (cond (p (head t)) (f (drop 1 t)) (g t))
by_head m p f g e s h k [] = rw (e, s) (k [])
by_head m p f g e s h k (x ∷ xs) = (λ i. cond (p x) (h xs i) (k (x ∷ xs) i)) ∙ cond_map m (p x) (f xs) (g (x ∷ xs))

minus_lined : (t : List ℕ) → after_minus (lined t) ≡ lined (after_minus t)
minus_lined = by_head lined (λ x. x == ascii.minus) (λ t. t) (λ t. t) refl refl (λ t. refl) (λ t. refl)

sign_lined : (t : List ℕ) → after_sign (lined t) ≡ lined (after_sign t)
sign_lined = by_head lined (λ x. (x == ascii.minus) || (x == ascii.plus)) (λ t. t) (λ t. t) refl refl (λ t. refl) (λ t. refl)

whole_lined : (t : List ℕ) → after_whole (lined t) ≡ option_map lined (after_whole t)
whole_lined = by_head (option_map lined) (λ x. x == ascii.zero) Some after_digits refl refl (λ t. refl) digits_lined

fraction_lined : (t : List ℕ) → after_fraction (lined t) ≡ option_map lined (after_fraction t)
fraction_lined = by_head (option_map lined) (λ x. x == ascii.dot) after_digits Some refl refl digits_lined (λ t. refl)

exponent_lined : (t : List ℕ) → after_exponent (lined t) ≡ option_map lined (after_exponent t)
exponent_lined =
    by_head (option_map lined) (λ x. (x == ascii.lower_e) || (x == ascii.upper_e)) (λ t. after_digits (after_sign t)) Some refl refl
    (λ t. ap after_digits (sign_lined t) ∙ digits_lined (after_sign t)) (λ t. refl)

through : (f : List ℕ → Option (List ℕ)) → ((t : List ℕ) → f (lined t) ≡ option_map lined (f t)) → (o : Option (List ℕ))
    → option_and_then f (option_map lined o) ≡ option_map lined (option_and_then f o)
through f h None = refl
through f h (Some t) = h t

number_lined : (t : List ℕ) → after_number (lined t) ≡ option_map lined (after_number t)
unfolding after_number
number_lined t =
    ap (λ o. option_and_then after_exponent (option_and_then after_fraction o)) (ap after_whole (minus_lined t) ∙ whole_lined (after_minus t))
    ∙ ap (option_and_then after_exponent) (through after_fraction fraction_lined (after_whole (after_minus t)))
    ∙ through after_exponent exponent_lined (option_and_then after_fraction (after_whole (after_minus t)))

ends_lined : (t : List ℕ) → ends_word (lined t) ≡ ends_word t
ends_lined [] = refl
ends_lined (x ∷ xs) = refl

before_lined : (t : List ℕ) (o : Option (List ℕ)) → number_before (lined t) (option_map lined o) ≡ number_before t o
before_lined t None = refl
before_lined t (Some rest) =
    let n = length t - length rest in
    let e : length (lined t) - length (lined rest) ≡ n = omega (arith, length-append t (10 ∷ []), length-append rest (10 ∷ [])) in
    λ i. cond (ends_lined rest i) (number ((ap (λ k. take k (lined t)) e ∙ take-append-le n t (10 ∷ []) (omega arith)) i)) bad

-- ---- literals and words

abbrev HasNoFeed : List ℕ → Type 0
HasNoFeed [] = Unit {0}
HasNoFeed (y ∷ ys) = (nat_eq y 10 ≡ false) × HasNoFeed ys

abbrev begins : List ℕ → List ℕ → Bool
begins name t = pointwise nat_eq name (take (length name) t) && ends_word (drop (length name) t)

next_byte : (a p q r s : Bool) → (p && r) ≡ (q && s) → ((a && p) && r) ≡ ((a && q) && s)
next_byte true p q r s h = h
next_byte false p q r s h = refl

begins_lined : (name t : List ℕ) → HasNoFeed name → begins name (lined t) ≡ begins name t
begins_lined [] t h = ends_lined t
begins_lined (y ∷ ys) [] h = rw h.0 refl
begins_lined (y ∷ ys) (x ∷ xs) h = next_byte (nat_eq y x) _ _ _ _ (begins_lined ys xs h.1)

literal_lined : (name : List ℕ) (token : Token) (t : List ℕ) → HasNoFeed name → literal name token (lined t) ≡ literal name token t
literal_lined name token t h = ap (λ b. cond b token bad) (begins_lined name t h)

word_lined : (x : ℕ) (xs : List ℕ) → word (lined (x ∷ xs)) ≡ word (x ∷ xs)
unfolding word
word_lined x xs =
    let t = x ∷ xs in
    λ i. cond (x == ascii.lower_t) (literal_lined ascii.true_text (boolean true) t (refl, (refl, (refl, (refl, tt)))) i)
    (cond (x == ascii.lower_f) (literal_lined ascii.false_text (boolean false) t (refl, (refl, (refl, (refl, (refl, tt))))) i)
    (cond (x == ascii.lower_n) (literal_lined ascii.null_text null t (refl, (refl, (refl, (refl, tt)))) i)
    ((ap (number_before (lined t)) (number_lined t) ∙ before_lined t (after_number t)) i)))

-- ---- strings: one that is not closed stays so

no_unit : (b : Bool) (n : ℕ) → cond (b && false) (Some n) None ≡ None
no_unit true n = refl
no_unit false n = refl

unit_lined : (a b c : ℕ) → code_unit a b c 10 ≡ None
unfolding code_unit
unit_lined a b c = no_unit (is_digit a 16 && is_digit b 16 && is_digit c 16) _

content_lined : (w : Within) (xs : List ℕ) → content w (lined xs) ≡ content w xs
unfolding content short_escape
content_lined plain (x ∷ xs) = rw (content_lined after_backslash xs, content_lined plain xs) refl
content_lined after_backslash (x ∷ xs) = rw (content_lined after_u xs, content_lined plain xs) refl
content_lined after_u (a ∷ b ∷ c ∷ []) = rw (unit_lined a b c) refl
content_lined after_u (a ∷ b ∷ c ∷ d ∷ xs) =
    λ i. option_and_then (λ u. cond (is_high_surrogate u) (content_lined (after_high u) xs i) (cond (is_low_surrogate u) None (prepend (encode_utf8 u) (content_lined plain xs i)))) (code_unit a b c d)
content_lined (after_high h) (s ∷ u ∷ a ∷ b ∷ c ∷ []) = rw (unit_lined a b c) (cond_map (λ (x : Unit {0}). None) ((s == ascii.backslash) && (u == ascii.lower_u)) tt tt)
content_lined (after_high h) (s ∷ u ∷ a ∷ b ∷ c ∷ d ∷ xs) = rw (content_lined plain xs) refl
content_lined w xs = refl

-- ---- lexemes

byte_lined : (m : Mode) (c : Class) (x : ℕ) (xs : List ℕ) (k : Mode → List Lexeme) → lex_byte m c x (lined xs) k ≡ lex_byte m c x xs k
byte_lined between quote x xs k = rw (content_lined plain xs) refl
byte_lined between other x xs k = rw (word_lined x xs) refl
byte_lined in_word quote x xs k = refl
byte_lined in_string quote x xs k = refl
byte_lined m c x xs k = refl

lex_lined : (m : Mode) (t : List ℕ) → lex m (lined t) ≡ lex m t
unfolding lex
lex_lined between [] = refl
lex_lined in_word [] = refl
lex_lined in_string [] = refl
lex_lined in_escape [] = refl
lex_lined m (x ∷ xs) =
    (λ i. lex_byte m (class x) x (lined xs) (λ next. lex_lined next xs i)) ∙ byte_lined m (class x) x xs (λ next. lex next xs)

pub read_lined : (t : List ℕ) → read (lined t) ≡ read t
read_lined t = ap (λ ls. option_and_then of_json (option_and_then (λ p. json.if_last p.0 p.1) (json.value max_depth (punctuate fresh ls)))) (lex_lined between t)
