-- The spans of a text's tokens.
use Rattle.std.proofs.Common.{◌≡◌, ◌≤◌, ◌<◌, ◌+◌, ◌-◌, ℕ, List, length, drop, get_or, Bool, true, refl, sym, ap, subst, ◌∙◌, length-drop, length-append, arith}
use Rattle.std.specs.Prelude.{All, IsUtf8, IsCharBoundary, Contains, nat_lt}
use Rattle.std.specs.List.{AllPass, list_all}
use Rattle.std.proofs.lemmas.List.{get_or-take, get_or-drop, length_push}
use Rattle.std.proofs.lemmas.List.Sums.{AllPass-from_list_all}
use Rattle.std.proofs.lemmas.List.Elements.{All-push}
use Rattle.std.proofs.lemmas.List.Quantifiers.{all_pairs_push}
use Rattle.std.proofs.lemmas.Bool.Decides.{nat_tests}
use Rattle.std.proofs.lemmas.Str.{IsCharBoundary-before_ascii, IsCharBoundary-after_ascii}
use Rattle.raml_syntax.specs.Tree.{Text}
use Rattle.raml_lex.specs.declared.token.TokenKind.{TokenKind}
use Rattle.raml_lex.specs.declared.token.TokenKind.TheVariants.{Name, Keyword, Number, Symbol}
use Rattle.raml_lex.specs.declared.token.Token.{Token}
use Rattle.raml_lex.specs.Lexemes.{is_digit, is_name_part, symbols, IsLexeme}
use Rattle.raml_lex.specs.Lexing.{Cut, start, gap, token, word, IsTokenOf, StandsIn, AreInOrder}
use Rattle.raml_lex.proofs.Cuts.{CutTo}
use Rattle.raml_lex.proofs.Words.{contains_passes, keyword_is_word, word_passes, lexeme_begins, part_is_ascii}

-- each byte of a lexeme is ASCII
ascii_from_pass : (p : ℕ → Bool) → ((c : ℕ) → p c ≡ true → c < 128) → (w : Text) → AllPass p w → All (λ c. c < 128) w
ascii_from_pass p small w h k d l = small (get_or w k d) (h k d l)

symbol_ascii : (w : Text) → Contains symbols w → All (λ c. c < 128) w
symbol_ascii w has = ascii_from_pass (λ c. nat_lt c 128) (λ c e. grind (arith, nat_tests, e)) w (AllPass-from_list_all (λ c. nat_lt c 128) w (contains_passes (list_all (λ c. nat_lt c 128)) symbols w has refl))

digit_is_ascii : (c : ℕ) → is_digit c ≡ true → c < 128
digit_is_ascii c e = grind (arith, nat_tests, e)

lexeme_ascii : (kind : TokenKind) (w : Text) → IsLexeme kind w → All (λ c. c < 128) w
lexeme_ascii Name w h = ascii_from_pass is_name_part part_is_ascii w (word_passes w h.0)
lexeme_ascii Keyword w h = ascii_from_pass is_name_part part_is_ascii w (word_passes w (keyword_is_word w h))
lexeme_ascii Number w h = ascii_from_pass is_digit digit_is_ascii w h.1
lexeme_ascii Symbol w h = symbol_ascii w h

module _ (text : Text) (t : Token) (i : IsTokenOf text t) where
  word_some : 0 < length (word text t)
  word_some = let l = ap length (lexeme_begins t.kind (word text t) i.longest.lexeme).is in omega (arith, l)

  token_within : t.end.0 ≤ length text
  token_within =
      let f = i.longest.front in
      let l = ap length f.1 ∙ length-append (word text t) f.0 in
      let d = length-drop t.at.0 text in
      let e = i.ends in
      let some = word_some in
      omega (arith, l, d, e, some)

  byte_ascii : (k : ℕ) → k < length (word text t) → get_or text (t.at.0 + k) 0 < 128
  byte_ascii k l =
      let e = i.ends in
      let small : k < t.end.0 - t.at.0 = omega (arith, e, l) in
      subst (λ c. c < 128) (get_or-take (t.end.0 - t.at.0) (drop t.at.0 text) k 0 small ∙ get_or-drop t.at.0 text k 0) (lexeme_ascii t.kind (word text t) i.longest.lexeme k 0 l)

  pub stands_in : IsUtf8 text → StandsIn text t
  stands_in utf8 =
      let e = i.ends in
      let some = word_some in
      let within = token_within in
      let at_first : t.at.0 + 0 ≡ t.at.0 = omega arith in
      let after_last : t.at.0 + (length (word text t) - 1) + 1 ≡ t.end.0 = omega (arith, e, some) in
      record {
        some = omega (arith, e, some);
        at = IsCharBoundary-before_ascii text t.at.0 (omega (arith, e, some, within)) (subst (λ j. get_or text j 0 < 128) at_first (byte_ascii 0 some));
        end = subst (IsCharBoundary text) after_last (IsCharBoundary-after_ascii text (t.at.0 + (length (word text t) - 1)) utf8 (omega (arith, e, some, within)) (byte_ascii (length (word text t) - 1) (omega (arith, some))));
        lexeme = i.longest.lexeme;
        in_range = i.in_range;
      }

pub record AreSpans (text : Text) (n : ℕ) (ts : List Token) : Type 0 where
  pub words : All (StandsIn text) ts
  pub below : All (λ t. t.end.0 ≤ n) ts
  pub order : AreInOrder ts
  pub few : length ts ≤ n

pub spans_of : (text : Text) → IsUtf8 text → (n : ℕ) (ts : List Token) → Cut text n ts → AreSpans text n ts
spans_of text utf8 n ts start = record { words = λ k d l. absurd (omega (arith, l)); below = λ k d l. absurd (omega (arith, l)); order = λ i j d l m. absurd (omega (arith, m)); few = omega arith }
spans_of text utf8 n ts (gap {n = m} c f g e) =
    let s = spans_of text utf8 m ts c in
    record { words = s.words; below = λ k d l. (let b = s.below k d l in omega (arith, b, e)); order = s.order; few = (let b = s.few in omega (arith, b, e)) }
spans_of text utf8 n us (token {n = m} {t = t} {ts = ts} c i a b e) =
    let s = spans_of text utf8 m ts c in
    let stands = stands_in text t i utf8 in
    let some = stands.some in
    subst (AreSpans text n) (sym e) (record {
      words = All-push (StandsIn text) ts t s.words stands;
      below = All-push (λ t. t.end.0 ≤ n) ts t (λ k d l. (let q = s.below k d l in omega (arith, q, a, b, some))) (omega (arith, b));
      order = all_pairs_push (λ t u. t.end.0 ≤ u.at.0) ts t s.order (λ k d l. (let q = s.below k d l in omega (arith, q, a)));
      few = (let q = s.few in let l = length_push ts t in omega (arith, q, l, a, b, some));
    })

-- at the end of the loop over the bytes
pub spans_at : (text bytes : Text) (n : ℕ) (ts : List Token) → bytes ≡ text → IsUtf8 text → CutTo bytes n ts → AreSpans text n ts
spans_at text bytes n ts e utf8 c = spans_of text utf8 n ts (subst (λ text. Cut text n ts) e c.cut)
