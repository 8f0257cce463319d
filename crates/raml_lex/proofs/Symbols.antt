-- The longest symbol at the front of a text.
use Rattle.std.proofs.Common.{◌≡◌, ◌≤◌, ◌<◌, ℕ, zero, suc, List, [], ◌∷◌, ◌++◌, length, take, get_or, Option, Some, None, Bool, true, false, refl, sym, ap, subst, length-take-le, arith}
use Rattle.std.specs.Prelude.{nat_eq, Contains, codes, ◌||◌, if◌then◌else◌, bytes_eq, MatchOption}
use Rattle.std.specs.List.{list_any, starts_with, AllByRecursion}
use Rattle.std.specs.Cmp.Lexicographic.{same_text}
use Rattle.std.proofs.lemmas.Option.{none-some, same_Some}
use Rattle.std.proofs.lemmas.Map.Views.{Contains-from_any}
use Rattle.raml_syntax.specs.Tree.{Text}
use Rattle.raml_lex.specs.declared.token.TokenKind.{TokenKind}
use Rattle.raml_lex.specs.declared.token.TokenKind.TheVariants.{Name, Keyword, Number, Symbol}
use Rattle.raml_lex.specs.Lexemes.{IsFront, is_space, is_lower, is_digit, symbols, IsLexeme}
use Rattle.raml_lex.specs.Lexing.{OpensComment, IsBadChar}
use Rattle.raml_lex.specs.Pieces.{BeginsWithToken, symbol_len}
use Rattle.std.proofs.lemmas.Bool.Decides.{nat_tests}
use Rattle.raml_lex.proofs.Comments.{front_from_test}
use Rattle.raml_lex.proofs.Words.{clash, contains_passes, begins_at, front_take, is_symbol_byte}

contains_by_recursion : {X : Type 0} (P : X → Type 0) (xs : List X) (k : ℕ) (d : X) → k < length xs → AllByRecursion P xs → P (get_or xs k d)
contains_by_recursion P [] k d l all = absurd (omega (arith, l))
contains_by_recursion P (x ∷ xs) zero d l all = all.0
contains_by_recursion P (x ∷ xs) (suc k) d l all = contains_by_recursion P xs k d (omega (arith, l)) all.1

-- n is a length, and at least k
abbrev IsAtLeast : ℕ → Option ℕ → Type 0
IsAtLeast k o = MatchOption o ⊥ (λ n. k ≤ n)

one_or_two : (b : Bool) → IsAtLeast 1 (if b then Some 2 else Some 1)
one_or_two true = omega arith
one_or_two false = omega arith

abbrev IsWithin : Text → Type 0
IsWithin v = (rest : Text) → IsAtLeast (length v) (symbol_len (v ++ rest))

symbols_within : AllByRecursion IsWithin symbols
symbols_within = (λ rest. omega arith, (λ rest. omega arith, (λ rest. omega arith, (λ rest. one_or_two _, (λ rest. omega arith, (λ rest. omega arith, (λ rest. one_or_two _, (λ rest. omega arith, (λ rest. omega arith, (λ rest. one_or_two _, (λ rest. omega arith, (λ rest. omega arith, (λ rest. omega arith, tt)))))))))))))

-- no symbol at the front is longer than the length that is found
pub symbol_within : (v s : Text) → IsFront v s → Contains symbols v → IsAtLeast (length v) (symbol_len s)
symbol_within v s f has = subst (λ s. IsAtLeast (length v) (symbol_len s)) (sym f.1) (subst IsWithin has.2 (contains_by_recursion IsWithin symbols has.0 v has.1 symbols_within) f.0)

is_a_symbol : (kind : TokenKind) (v s : Text) → is_lower (get_or s 0 0) ≡ false → is_digit (get_or s 0 0) ≡ false → IsFront v s → IsLexeme kind v → Contains symbols v
is_a_symbol Name v s l d f h = absurd (clash (begins_at Name v s f h) l)
is_a_symbol Keyword v s l d f h = absurd (clash (begins_at Keyword v s f h) l)
is_a_symbol Number v s l d f h = absurd (clash (begins_at Number v s f h) d)
is_a_symbol Symbol v s l d f h = h

pub no_symbol : (s : Text) → 0 < length s → is_space (get_or s 0 0) ≡ false → is_lower (get_or s 0 0) ≡ false → is_digit (get_or s 0 0) ≡ false → ¬ (OpensComment s) → None ≡ symbol_len s → IsBadChar s
no_symbol [] some p l d o e = absurd (omega (arith, some))
no_symbol (c ∷ r) some p l d o e = record {
  first = c;
  rest = r;
  is = refl;
  no_space = λ space. clash space p;
  no_comment = o;
  no_token = λ kind w f h. subst (IsAtLeast (length w)) (sym e) (symbol_within w (c ∷ r) f (is_a_symbol kind w (c ∷ r) l d f h));
}

record IsSymbolAt (s : Text) (n : ℕ) : Type 0 where
  pub within : n ≤ length s
  pub symbol : Contains symbols (take n s)

pair_symbol : (x y : ℕ) (s : Text) → Contains symbols (x ∷ y ∷ []) → starts_with nat_eq s (x ∷ y ∷ []) ≡ true → IsSymbolAt s 2
pair_symbol x y s has e =
    let f = front_from_test (x ∷ y ∷ []) s e in
    record { within = (let l = ap length f.1 in omega (arith, l)); symbol = subst (Contains symbols) (sym (ap (take 2) f.1)) has }

one_symbol : (c : ℕ) (r : Text) → is_symbol_byte c ≡ true → IsSymbolAt (c ∷ r) 1
one_symbol c r e =
    let among : Contains (codes "(),:=<+-*|") c = Contains-from_any {eq = λ x y. nat_eq y x} (λ x y e. grind (arith, nat_tests, e)) c (codes "(),:=<+-*|") e in
    let test = contains_passes (λ y. list_any (λ k. bytes_eq k (y ∷ [])) symbols) (codes "(),:=<+-*|") c among refl in
    record { within = omega arith; symbol = Contains-from_any {eq = λ x y. bytes_eq y x} (λ x y e. sym (same_text y x (sym e))) (c ∷ []) symbols test }

abbrev len_by : Bool → Bool → Bool → Bool → Option ℕ
len_by x y z w = if x || y || z then Some 2 else (if w then Some 1 else None)

symbol_at : (s : Text) (n : ℕ) → symbol_len s ≡ Some n → IsSymbolAt s n
symbol_at [] n e = absurd (none-some n e)
symbol_at (c ∷ r) n e = at (starts_with nat_eq (c ∷ r) (codes "::")) (starts_with nat_eq (c ∷ r) (codes "<=")) (starts_with nat_eq (c ∷ r) (codes "->")) (is_symbol_byte c) refl refl refl refl e
  where
    at : (x y z w : Bool) → starts_with nat_eq (c ∷ r) (codes "::") ≡ x → starts_with nat_eq (c ∷ r) (codes "<=") ≡ y → starts_with nat_eq (c ∷ r) (codes "->") ≡ z → is_symbol_byte c ≡ w → len_by x y z w ≡ Some n → IsSymbolAt (c ∷ r) n
    at true y z w p q s t e = subst (IsSymbolAt (c ∷ r)) (same_Some 2 n e) (pair_symbol 58 58 (c ∷ r) (4, omega arith, refl) p)
    at false true z w p q s t e = subst (IsSymbolAt (c ∷ r)) (same_Some 2 n e) (pair_symbol 60 61 (c ∷ r) (7, omega arith, refl) q)
    at false false true w p q s t e = subst (IsSymbolAt (c ∷ r)) (same_Some 2 n e) (pair_symbol 45 62 (c ∷ r) (11, omega arith, refl) s)
    at false false false true p q s t e = subst (IsSymbolAt (c ∷ r)) (same_Some 1 n e) (one_symbol c r t)
    at false false false false p q s t e = absurd (none-some n e)

pub symbol_stands : (s : Text) (n : ℕ) → is_lower (get_or s 0 0) ≡ false → is_digit (get_or s 0 0) ≡ false → ¬ (OpensComment s) → Some n ≡ symbol_len s → BeginsWithToken s Symbol n
symbol_stands s n l d o e =
    let at = symbol_at s n (sym e) in
    let len = length-take-le n s at.within in
    record {
      within = at.within;
      no_comment = o;
      longest = record {
        front = front_take n s;
        lexeme = at.symbol;
        longest = λ kind v f h. let v_within : length v ≤ n = subst (IsAtLeast (length v)) (sym e) (symbol_within v s f (is_a_symbol kind v s l d f h)) in omega (arith, v_within, len);
      };
      in_range = tt;
    }
