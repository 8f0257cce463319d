-- The tokens of short texts.
use Rattle.std.proofs.Common.{◌≡◌, ◌<◌, ◌≤◌, ◌+◌, ◌-◌, ◌^◌, ℕ, List, [], ◌∷◌, ◌++◌, length, take, drop, get_or, Some, None, true, false, refl, sym, ap, ◌∙◌, arith}
use Rattle.std.specs.Prelude.{codes, nat_eq}
use Rattle.std.specs.List.{prefix_len, starts_with}
use Rattle.std.proofs.lemmas.Option.{none-some}
use Rattle.raml_syntax.specs.Tree.{Text}
use Rattle.raml_lex.specs.Lexemes.{is_lower, is_digit, is_name_part, is_space, number_value}
use Rattle.raml_lex.specs.Lexing.{OpensComment, IsOpenComment}
use Rattle.raml_lex.specs.Pieces.{word_kind, symbol_len, comment_rest}
use Rattle.raml_lex.specs.declared.token.Token.{Token}
use Rattle.raml_lex.specs.declared.token.TokenKind.{TokenKind}
use Rattle.raml_lex.specs.declared.token.TokenKind.TheVariants.{Name, Keyword, Number, Symbol}
use Rattle.raml_lex.proofs.Comments.{test_from_front, comment_rest_sound, comment_rest_complete}
use Rattle.raml_lex.proofs.Cuts.{CutTo, cut_start, cut_gap, cut_token}
use Rattle.raml_lex.proofs.Symbols.{no_symbol, symbol_stands}
use Rattle.raml_lex.proofs.Words.{clash, word_stands_at, number_stands_at, too_wide_at}
use Rattle.tests_front.specs.Lexed.{token, LexedTexts}
use mathlib.Core.Logic.{inl, inr}

-- what stands behind the first n bytes
abbrev rest : Text → ℕ → Text
rest text n = take (length text - n) (drop n text)

no_comment : (s : Text) → starts_with nat_eq s (codes "(*") ≡ false → ¬ (OpensComment s)
no_comment s e o = clash (test_from_front (codes "(*") s o) e

-- ONE PIECE MORE

module _ {text : Text} {n : ℕ} {ts : List Token} (c : CutTo text n ts) where
  word : (kind : TokenKind) (k : ℕ) → is_lower (get_or (rest text n) 0 0) ≡ true → k ≡ prefix_len is_name_part (rest text n) → kind ≡ word_kind (take k (rest text n)) → CutTo text (n + k) (ts ++ token kind n (n + k) ∷ [])
  word kind k l e w = cut_token text n k kind ts _ c (word_stands_at (rest text n) k kind l e w) refl

  symbol : (k : ℕ) → is_lower (get_or (rest text n) 0 0) ≡ false → is_digit (get_or (rest text n) 0 0) ≡ false → starts_with nat_eq (rest text n) (codes "(*") ≡ false → Some k ≡ symbol_len (rest text n) → CutTo text (n + k) (ts ++ token Symbol n (n + k) ∷ [])
  symbol k l d o e = cut_token text n k Symbol ts _ c (symbol_stands (rest text n) k l d (no_comment (rest text n) o) e) refl

  number : (k : ℕ) → is_digit (get_or (rest text n) 0 0) ≡ true → k ≡ prefix_len is_digit (rest text n) → number_value (take k (rest text n)) < 2 ^ 63 → CutTo text (n + k) (ts ++ token Number n (n + k) ∷ [])
  number k d e fits = cut_token text n k Number ts _ c (number_stands_at (rest text n) k d e fits) refl

  space : 1 ≤ length (rest text n) → (b : ℕ) → is_space b ≡ true → take 1 (rest text n) ≡ b ∷ [] → CutTo text (n + 1) ts
  space le b s e = cut_gap text n 1 ts c (record { within = le; gap = inl (b, s, e) })

words : CutTo (codes "nilx nil(*a(**)*)let'") 21 (token Name 0 4 ∷ token Keyword 5 8 ∷ token Name 17 21 ∷ [])
words =
    let text = codes "nilx nil(*a(**)*)let'" in
    let a = word (cut_start text [] refl) Name 4 refl refl refl in
    let b = space a (omega arith) 32 refl refl in
    let c = word b Keyword 3 refl refl refl in
    let e = comment_rest_sound 1 (codes "a(**)*)let'") 7 refl in
    let d = cut_gap text 8 9 _ c (record { within = omega arith; gap = inr (codes "a(**)*)", e.closes, refl) }) in
    word d Name 4 refl refl refl

symbols : CutTo (codes "x<=::->007") 10 (token Name 0 1 ∷ token Symbol 1 3 ∷ token Symbol 3 5 ∷ token Symbol 5 7 ∷ token Number 7 10 ∷ [])
symbols =
    let a = word (cut_start (codes "x<=::->007") [] refl) Name 1 refl refl refl in
    let b = symbol a 2 refl refl refl refl in
    let c = symbol b 2 refl refl refl refl in
    let d = symbol c 2 refl refl refl refl in
    number d 3 refl refl (omega arith)

-- a comment that ends nowhere
endless : (s : Text) → OpensComment s → comment_rest 1 (drop 2 s) ≡ None → IsOpenComment s
endless s o e = record {
  opens = o;
  no_end = λ w f c. none-some (length c.0) (sym e ∙ ap (λ u. comment_rest 1 (drop 2 u)) (f.1 ∙ ap (λ w. w ++ f.0) c.2) ∙ comment_rest_complete 1 c.0 f.0 c.1);
}

pub texts_have_tokens : LexedTexts
texts_have_tokens = record {
  words = words.cut;
  symbols = symbols.cut;
  bad =
      let a = word (cut_start (codes "a X") [] refl) Name 1 refl refl refl in
      let b = space a (omega arith) 32 refl refl in
      ((_, b.cut), no_symbol (codes "X") (omega arith) refl refl refl (no_comment (codes "X") refl) refl);
  wide =
      let a = number (cut_start (codes "7 9223372036854775808") [] refl) 1 refl refl (omega arith) in
      let b = space a (omega arith) 32 refl refl in
      ((_, b.cut), too_wide_at (codes "9223372036854775808") 19 refl refl (omega arith));
  endless =
      let a = word (cut_start (codes "x (*(**)") [] refl) Name 1 refl refl refl in
      let b = space a (omega arith) 32 refl refl in
      ((_, b.cut), endless (codes "(*(**)") (codes "(**)", refl) refl);
}
