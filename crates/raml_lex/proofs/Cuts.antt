-- One more piece of a text.
use Rattle.std.proofs.Common.{◌≡◌, ◌≤◌, ◌+◌, ◌-◌, ℕ, List, [], ◌∷◌, ◌++◌, length, take, drop, refl, sym, ap, subst, ◌∙◌, length-drop, length-take-le, arith}
use Rattle.std.proofs.lemmas.List.{take_rest}
use Rattle.raml_syntax.specs.declared.tree.Pos.{Pos}
use Rattle.raml_syntax.specs.Tree.{Text}
use Rattle.raml_lex.specs.declared.token.TokenKind.{TokenKind}
use Rattle.raml_lex.specs.declared.token.Token.{Token}
use Rattle.raml_lex.specs.declared.token.LexFault.{LexFault}
use Rattle.raml_lex.specs.declared.token.LexFault.TheVariants.{BadChar, NumberTooWide, OpenComment, NoMemory}
use Rattle.raml_lex.specs.Lexemes.{IsInRange}
use Rattle.raml_lex.specs.Lexing.{Cut, start, gap, token, word, IsLongest, IsBadChar, IsTooWide, IsOpenComment, FirstFault}
use Rattle.raml_lex.specs.Pieces.{BeginsWithGap, BeginsWithToken, FaultAt}
use Rattle.raml_lex.proofs.Words.{front_take}

-- a slice to the end, as the code has it
abbrev rest_of : Text → ℕ → Text
rest_of text n = take (length text - n) (drop n text)

-- the first n bytes are cut into these tokens
pub record CutTo (text : Text) (n : ℕ) (ts : List Token) : Type 0 where
  pub within : n ≤ length text
  pub cut : Cut text n ts

pub cut_start : (text : Text) (ts : List Token) → ts ≡ [] → CutTo text 0 ts
cut_start text ts e = record { within = omega arith; cut = subst (Cut text 0) (sym e) start }

fits : (text : Text) (n k : ℕ) → n ≤ length text → k ≤ length (drop n text) → n + k ≤ length text
fits text n k low le = let l = length-drop n text in omega (arith, low, le, l)

pub cut_gap : (text : Text) (n k : ℕ) (ts : List Token) → CutTo text n ts → BeginsWithGap (rest_of text n) k → CutTo text (n + k) ts
cut_gap text n k ts c b2 =
    let b = subst (λ s. BeginsWithGap s k) (take_rest text n) b2 in
    let len = length-take-le k (drop n text) b.within in
    record {
      within = fits text n k c.within b.within;
      cut = gap c.cut (front_take k (drop n text)) b.gap (omega (arith, len));
    }

word_is : (text : Text) (n k : ℕ) (kind : TokenKind) → word text (record { at = record { 0 = n }; end = record { 0 = n + k }; kind = kind }) ≡ take k (drop n text)
word_is text n k kind = ap (λ j. take j (drop n text)) (let e : n + k - n ≡ k = omega arith in e)

pub cut_token : (text : Text) (n k : ℕ) (kind : TokenKind) (ts us : List Token) → CutTo text n ts → BeginsWithToken (rest_of text n) kind k → us ≡ ts ++ record { at = record { 0 = n }; end = record { 0 = n + k }; kind = kind } ∷ [] → CutTo text (n + k) us
cut_token text n k kind ts us c b2 e =
    let b = subst (λ s. BeginsWithToken s kind k) (take_rest text n) b2 in
    let w = word_is text n k kind in
    let len = ap length w ∙ length-take-le k (drop n text) b.within in
    record {
      within = fits text n k c.within b.within;
      cut = token c.cut (record {
        ends = omega (arith, len);
        no_comment = b.no_comment;
        longest = subst (λ v. IsLongest kind v (drop n text)) (sym w) b.longest;
        in_range = subst (IsInRange kind) (sym w) b.in_range;
      }) refl refl e;
    }

pub fault_first : (text : Text) (n : ℕ) (place : Pos) (ts : List Token) (fault : LexFault) → CutTo text n ts → place.0 ≡ n → FaultAt place (rest_of text n) fault → FirstFault text fault
fault_first text n place ts (BadChar at) c e f = let p = ap (λ (at : Pos). at.0) f.0 ∙ e in ((ts, subst (λ n. Cut text n ts) (sym p) c.cut), subst (λ n. IsBadChar (drop n text)) (sym p) (subst IsBadChar (take_rest text n) f.1))
fault_first text n place ts (NumberTooWide at) c e f = let p = ap (λ (at : Pos). at.0) f.0 ∙ e in ((ts, subst (λ n. Cut text n ts) (sym p) c.cut), subst (λ n. IsTooWide (drop n text)) (sym p) (subst IsTooWide (take_rest text n) f.1))
fault_first text n place ts (OpenComment at) c e f = let p = ap (λ (at : Pos). at.0) f.0 ∙ e in ((ts, subst (λ n. Cut text n ts) (sym p) c.cut), subst (λ n. IsOpenComment (drop n text)) (sym p) (subst IsOpenComment (take_rest text n) f.1))
fault_first text n place ts NoMemory c e f = absurd f
