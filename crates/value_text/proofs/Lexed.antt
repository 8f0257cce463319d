-- Tokens one after the other.
use Rattle.std.proofs.Common.{◌≡◌, ◌≤◌, ◌<◌, ◌+◌, ◌-◌, ℕ, zero, suc, [], ◌∷◌, length, take, drop, get_or, Bool, true, false, refl, sym, ap, subst, ◌∙◌, arith, pos, neg_ℤ}
use Rattle.std.proofs.Math.Seq.{take-length}
use Rattle.std.proofs.lemmas.Int.{ints}
use Rattle.std.specs.Prelude.{if◌then◌else◌, ◌==◌, codes, bytes_eq, nat_lt, nat_le}
use Rattle.std.specs.List.{prefix_len}
use Rattle.std.proofs.lemmas.Bool.Decides.{nat_tests}
use Rattle.raml_syntax.specs.Tree.{Text}
use Rattle.raml_lex.specs.Lexemes.{is_space, is_lower, is_digit, is_name_part, number_value}
use Rattle.value_text.specs.declared.sign.Sign.TheVariants.{Open, Close, Comma, OpenList, CloseList, Leaf, Node, Nothing, Just}
use Rattle.value_text.specs.declared.token.Token as d
use Rattle.value_text.specs.Spelling.{Key, Number, Truth, Other}
use Rattle.value_text.specs.Lexing.{begun_by, minus_by, number_token, minus_token, word_token, symbol_token, tokens_up_to, placed}
use Rattle.value_text.specs.Goals.{Sane}
use Rattle.value_text.specs.Tokens.{token_of, IsSolid, IsNext}

pub length_drop : (n : ℕ) (s : Text) → length (drop n s) ≤ length s
length_drop zero s = omega arith
length_drop (suc n) [] = omega arith
length_drop (suc n) (c ∷ s) = let l = length_drop n s in omega (arith, l)

pub tokens_same : (n m : ℕ) (s : Text) → length s ≤ n → length s ≤ m → tokens_up_to n s ≡ tokens_up_to m s
tokens_same zero zero s a b = refl
tokens_same zero (suc m) [] a b = refl
tokens_same (suc n) zero [] a b = refl
tokens_same (suc n) (suc m) [] a b = refl
tokens_same zero m (c ∷ s) a b = absurd (omega (arith, a))
tokens_same n zero (c ∷ s) a b = absurd (omega (arith, b))
tokens_same (suc n) (suc m) (c ∷ s) a b =
    let k = (begun_by c s).1 in
    let l = length_drop k s in
    let one = tokens_same n m s (omega (arith, a)) (omega (arith, b)) in
    let two = tokens_same n m (drop k s) (omega (arith, a, l)) (omega (arith, b, l)) in
    λ i. if is_space c then one i else ((record { left = suc (length s); token = (begun_by c s).0 }) ∷ two i)

pub placed_none : placed [] ≡ []
unfolding placed
placed_none = refl

pub placed_space : (c : ℕ) (s : Text) → is_space c ≡ true → placed (c ∷ s) ≡ placed s
unfolding placed
placed_space c s e = ap (λ b. if b then tokens_up_to (length s) s else ((record { left = suc (length s); token = (begun_by c s).0 }) ∷ tokens_up_to (length s) (drop (begun_by c s).1 s))) e

pub placed_token : (c : ℕ) (s : Text) → is_space c ≡ false → placed (c ∷ s) ≡ (record { left = suc (length s); token = (begun_by c s).0 }) ∷ placed (drop (begun_by c s).1 s)
unfolding placed
placed_token c s e =
    let k = (begun_by c s).1 in
    ap (λ b. if b then tokens_up_to (length s) s else ((record { left = suc (length s); token = (begun_by c s).0 }) ∷ tokens_up_to (length s) (drop k s))) e
    ∙ ap (λ l. (record { left = suc (length s); token = (begun_by c s).0 }) ∷ l) (tokens_same (length s) (length (drop k s)) (drop k s) (length_drop k s) (omega arith))

number_sane : (n : ℕ) → Sane (number_token n)
number_sane n = go (nat_lt n 9223372036854775808) refl
  where
    go : (b : Bool) → nat_lt n 9223372036854775808 ≡ b → Sane (if b then Number (pos n) else Other)
    go true e = let lt : n < 9223372036854775808 = grind (arith, nat_tests, e) in omega (arith, lt)
    go false e = tt

minus_sane : (n : ℕ) → Sane (minus_token n)
minus_sane n = go (nat_le n 9223372036854775808) refl
  where
    go : (b : Bool) → nat_le n 9223372036854775808 ≡ b → Sane (if b then Number (neg_ℤ (pos n)) else Other)
    go true e = let le : n ≤ 9223372036854775808 = grind (arith, nat_tests, e) in grind (arith, ints, le)
    go false e = tt

word_sane : (w : Text) → Sane (word_token w)
word_sane w = go (bytes_eq w (codes "leaf")) (bytes_eq w (codes "node")) (bytes_eq w (codes "none")) (bytes_eq w (codes "some")) (bytes_eq w (codes "true")) (bytes_eq w (codes "false"))
  where
    go : (a b c d e f : Bool) → Sane (if a then Key Leaf else (if b then Key Node else (if c then Key Nothing else (if d then Key Just else (if e then Truth true else (if f then Truth false else Other))))))
    go true b c d e f = tt
    go false true c d e f = tt
    go false false true d e f = tt
    go false false false true e f = tt
    go false false false false true f = tt
    go false false false false false true = tt
    go false false false false false false = tt

symbol_sane : (c : ℕ) → Sane (symbol_token c)
symbol_sane c = go (c == 40) (c == 41) (c == 44) (c == 91) (c == 93)
  where
    go : (a b c d e : Bool) → Sane (if a then Key Open else (if b then Key Close else (if c then Key Comma else (if d then Key OpenList else (if e then Key CloseList else Other)))))
    go true b c d e = tt
    go false true c d e = tt
    go false false true d e = tt
    go false false false true e = tt
    go false false false false true = tt
    go false false false false false = tt

minus_by_sane : (s : Text) (n : ℕ) → Sane (minus_by s n).0
minus_by_sane s zero = tt
minus_by_sane s (suc n) = minus_sane (number_value (take (suc n) s))

pub begun_sane : (c : ℕ) (s : Text) → Sane (begun_by c s).0
begun_sane c s = go (is_lower c) (is_digit c) (c == 45)
  where
    go : (a b d : Bool) → Sane (if a then (word_token (c ∷ take (prefix_len is_name_part s) s), prefix_len is_name_part s) else (if b then (number_token (number_value (c ∷ take (prefix_len is_digit s) s)), prefix_len is_digit s) else (if d then minus_by s (prefix_len is_digit s) else (symbol_token c, 0)))).0
    go true b d = word_sane (c ∷ take (prefix_len is_name_part s) s)
    go false true d = number_sane (number_value (c ∷ take (prefix_len is_digit s) s))
    go false false true = minus_by_sane s (prefix_len is_digit s)
    go false false false = symbol_sane c

-- CODE

take_all : (n : ℕ) (s : Text) → n ≡ length s → take n s ≡ s
take_all n s e = ap (λ n. take n s) e ∙ take-length s

pub cut : (s : Text) → 1 ≤ length s → s ≡ get_or s 0 0 ∷ take (length s - 1) (drop 1 s)
cut [] le = absurd (omega (arith, le))
cut (c ∷ s) le = ap (λ t. c ∷ t) (sym (take_all (length (c ∷ s) - 1) s (omega arith)))

-- a run behind the first byte
pub front_is : (c k n : ℕ) (s t : Text) → t ≡ c ∷ s → k ≤ length s → n ≡ length t - (length s - k) → take n t ≡ c ∷ take k s
front_is c k n s t is le e =
    let l = ap length is in
    let m : n ≡ suc k = omega (arith, l, le, e) in
    (λ i. take (m i) (is i))

pub skip_step : (s t : Text) → 1 ≤ length s → placed s ≡ placed t → is_space (get_or s 0 0) ≡ true → placed (take (length s - 1) (drop 1 s)) ≡ placed t
skip_step s t le same e = sym (placed_space (get_or s 0 0) (take (length s - 1) (drop 1 s)) e) ∙ ap placed (sym (cut s le)) ∙ same

pub next_is : (s text : Text) (c : ℕ) (r : Text) (token : d.Token) (left : ℕ) (behind : Text) → placed s ≡ placed text → length s ≤ length text → IsSolid s → s ≡ c ∷ r → left ≡ length s → token_of token ≡ (begun_by c r).0 → behind ≡ drop (begun_by c r).1 r → IsNext text token left behind
next_is s text c r token left behind same le solid is el et eb =
    let sol : is_space c ≡ false = subst IsSolid is solid in
    let n : left ≡ suc (length r) = el ∙ ap length is in
    let m = length_drop (begun_by c r).1 r in
    let bl = ap length eb in
    let sl = ap length is in
    record {
      tokens = sym same ∙ ap placed is ∙ placed_token c r sol ∙ (λ i. (record { left = sym n i; token = sym et i }) ∷ placed (sym eb i));
      less = omega (arith, m, bl, sl, le);
      sane = subst Sane (sym et) (begun_sane c r);
    }

pub none_next : (s text : Text) → placed s ≡ placed text → s ≡ [] → placed text ≡ []
none_next s text same is = sym same ∙ ap placed is ∙ placed_none

pub length-take_drop : (s : Text) → length (take (length s - 1) (drop 1 s)) ≤ length s
length-take_drop [] = omega arith
length-take_drop (c ∷ s) = let e = ap length (take_all (length (c ∷ s) - 1) s (omega arith)) in omega (arith, e)

length_behind : (k : ℕ) (s : Text) → k ≤ length s → length (take (length s - k) (drop k s)) + k ≡ length s
length_behind zero s le = let e = ap length (take_all (length s - 0) s (omega arith)) in omega (arith, e)
length_behind (suc k) [] le = absurd (omega (arith, le))
length_behind (suc k) (c ∷ s) le =
    let e = length_behind k s (omega (arith, le)) in
    let m : length (c ∷ s) - suc k ≡ length s - k = omega arith in
    let f = ap (λ n. length (take n (drop k s))) m in
    omega (arith, e, f)

-- the text before what is behind a run is the first byte and the run
pub run_front : (c k r : ℕ) (s t : Text) → t ≡ c ∷ s → (r ≡ k) × (r ≤ length s) → take (length t - length (take (length s - r) (drop r s))) t ≡ c ∷ take k s
run_front c k r s t is h =
    let e = length_behind r s h.1 in
    let a = h.0 in
    let b = h.1 in
    front_is c k _ s t is (omega (arith, a, b)) (omega (arith, a, b, e))

pub empty_is : (s : Text) → length s < 1 → s ≡ []
empty_is [] le = refl
empty_is (c ∷ s) le = absurd (omega (arith, le))
