-- One token that is a name is a name, and a name is one token.
use Rattle.std.proofs.Common.{◌≡◌, ◌-◌, ℕ, Bool, true, false, List, [], ◌∷◌, length, take, ◌⊎◌, inl, inr, Ok, Err, refl, sym, ap, subst, ◌∙◌, arith, append-nil, length-append}
use Rattle.std.proofs.Math.Seq.{take-length}
use Rattle.std.proofs.lemmas.Bool.{and_parts, eqb-true, eq-eqb}
use Rattle.std.specs.Prelude.{◌&&◌, ◌==◌, All, slice_range}
use Rattle.raml_syntax.specs.Tree.{Text}
use Rattle.raml_lex.specs.declared.token.Token.{Token}
use Rattle.raml_lex.specs.declared.token.TokenKind.{TokenKind}
use Rattle.raml_lex.specs.declared.token.TokenKind.TheVariants.{Name, Keyword, Number, Symbol}
use Rattle.raml_lex.specs.declared.token.LexFault.{LexFault}
use Rattle.raml_lex.specs.declared.token.LexFault.TheVariants.{NoMemory}
use Rattle.raml_lex.specs.Lexemes.{is_lower, IsWord, IsLexeme}
use Rattle.raml_lex.specs.Lexing.{OpensComment, start, token, word, Spelled, FirstFault, HasOneAnswer, StandsIn}
use Rattle.raml_lex.proofs.Words.{clash}
use Rattle.bound_file.specs.Names.{is_name_kind, is_whole_name, is_want}
use Rattle.bound_file.specs.Reading.{is_name}
use Rattle.bound_file.proofs.Words.{name_is, name_told}

no : {A : Type 0} → false ≡ true → A
no e = absurd (cc)

-- the token of a whole text
abbrev whole : Text → Token
whole text = record { at = record { 0 = 0 }; end = record { 0 = length text }; kind = Name }

word_is : (text : Text) → word text (whole text) ≡ text
word_is text = ap (λ n. take n text) (let e : length text - 0 ≡ length text = omega arith in e) ∙ take-length text

-- a name is spelled by its token
spelled : (text : Text) → IsLexeme Name text → Spelled text (whole text ∷ [])
spelled text h =
    let same = word_is text in
    token {t = whole text} start (record {
      ends = (let l = ap length same in omega (arith, l));
      no_comment = no_comment text h.0;
      longest = record {
        front = ([], sym (append-nil (word text (whole text)) ∙ same));
        lexeme = subst (IsLexeme Name) (sym same) h;
        longest = λ other v f l. (let a = ap length f.1 in let b = length-append v f.0 in let c = ap length same in omega (arith, a, b, c));
      };
      in_range = tt;
    }) refl refl refl
  where
    no_comment : (text : Text) → IsWord text → OpensComment text → ⊥
    no_comment [] w o = w
    no_comment (c ∷ text) w o =
        let first : c ≡ 40 = ap (λ l. head l) o.1 in
        clash w.0 (ap is_lower first)
      where
        head : Text → ℕ
        head [] = 0
        head (c ∷ text) = c

-- a token that is a name and has all bytes
name_from : (text : Text) (t : Token) → is_whole_name (t ∷ []) (length text) ≡ true → StandsIn text t → IsLexeme Name text
name_from text t e h = at t.kind refl e
  where
    at : (kind : TokenKind) → t.kind ≡ kind → (is_name_kind kind && (t.at.0 == 0 && t.end.0 == length text)) ≡ true → IsLexeme Name text
    at Name k e =
        let p = and_parts (t.at.0 == 0) (t.end.0 == length text) e in
        let from = eqb-true t.at.0 0 p.0 in
        let to = eqb-true t.end.0 (length text) p.1 in
        let all : word text t ≡ text = (λ i. slice_range text (from i) (to i)) ∙ word_is text in
        subst (IsLexeme Name) all (subst (λ k. IsLexeme k (word text t)) k h.lexeme)
    at Keyword k e = no e
    at Number k e = no e
    at Symbol k e = no e

-- The tokens of a text
module _ (text : Text) (answers : HasOneAnswer text) where
  whole_told : (ts : List Token) → Spelled text ts → IsLexeme Name text → is_whole_name ts (length text) ≡ true
  whole_told ts s h =
      let same : Ok ts ≡ Ok (whole text ∷ []) = answers (Ok ts) (Ok (whole text ∷ [])) s (spelled text h) in
      let are : ts ≡ whole text ∷ [] = cc in
      ap (λ ts. is_whole_name ts (length text)) are ∙ eq-eqb (length text) (length text) refl

  whole_is : (ts : List Token) → All (StandsIn text) ts → is_whole_name ts (length text) ≡ true → IsLexeme Name text
  whole_is [] h e = no e
  whole_is (t ∷ []) h e = name_from text t e (h 0 t (omega arith))
  whole_is (t ∷ u ∷ ts) h e = no e

  pub tokens_tell : (ts : List Token) → Spelled text ts → All (StandsIn text) ts → is_whole_name ts (length text) ≡ is_name text
  tokens_tell ts s h = at (is_whole_name ts (length text)) (is_name text) (λ e. name_told text (whole_is ts h e)) (λ e. whole_told ts s (name_is text e))
    where
      at : (a b : Bool) → (a ≡ true → b ≡ true) → (b ≡ true → a ≡ true) → a ≡ b
      at true b f g = sym (f refl)
      at false true f g = g refl
      at false false f g = refl

  -- a text that is refused is no name
  pub fault_tells : (fault : LexFault) → FirstFault text fault → false ≡ is_name text
  fault_tells fault h = at (is_name text) (name_is text)
    where
      at : (b : Bool) → (b ≡ true → IsLexeme Name text) → false ≡ b
      at true f =
          let same : Err fault ≡ Ok (whole text ∷ []) = answers (Err fault) (Ok (whole text ∷ [])) h (spelled text (f refl)) in
          absurd (cc)
      at false f = refl

  -- a text that is refused, but not for want of memory
  pub refused_tells : (fault : LexFault) → is_want fault ≡ false → (fault ≡ NoMemory) ⊎ FirstFault text fault → false ≡ is_name text
  refused_tells fault known (inl e) = absurd (apart (sym (ap is_want e) ∙ known))
    where
      apart : true ≡ false → ⊥
      apart q = cc
  refused_tells fault known (inr h) = fault_tells fault h
