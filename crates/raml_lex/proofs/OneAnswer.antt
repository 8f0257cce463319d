-- A text has one answer at most.
use Rattle.std.proofs.Common.{◌≡◌, ◌^◌, ◌≤◌, ◌<◌, ◌+◌, ℕ, List, [], ◌∷◌, ◌++◌, length, take, drop, get_or, true, false, refl, sym, ap, subst, ◌∙◌, append_assoc, length-append, length-drop, Result, Ok, Err, arith}
use Rattle.std.proofs.lemmas.List.{append-nil, take_at, drop_all}
use Rattle.std.proofs.lemmas.Option.{same_Some}
use mathlib.Core.Logic.{◌⊎◌, inl, inr}
use Rattle.raml_syntax.specs.declared.tree.Pos.{Pos}
use Rattle.raml_syntax.specs.Tree.{Text}
use Rattle.raml_lex.specs.declared.token.TokenKind.{TokenKind}
use Rattle.raml_lex.specs.declared.token.TokenKind.TheVariants.{Name, Keyword, Number, Symbol}
use Rattle.raml_lex.specs.declared.token.Token.{Token}
use Rattle.raml_lex.specs.declared.token.LexFault.{LexFault}
use Rattle.raml_lex.specs.declared.token.LexFault.TheVariants.{BadChar, NumberTooWide, OpenComment, NoMemory}
use Rattle.raml_lex.specs.Lexemes.{IsFront, is_space, IsLexeme, IsInRange, IsComment, number_value}
use Rattle.raml_lex.specs.Lexing.{IsLongest, IsGap, OpensComment, word, IsTokenOf, Cut, start, gap, token, IsBadChar, IsTooWide, IsOpenComment, FirstFault, Answers, HasOneAnswer}
use Rattle.raml_lex.specs.Pieces.{comment_rest}
use Rattle.raml_lex.proofs.Words.{clash, begins, begins_at, lexeme_begins, lower_no_space, lower_no_digit, lower_no_symbol, digit_no_symbol, digit_no_space, symbol_no_space, digit_no_comment}
use Rattle.raml_lex.proofs.Comments.{comment_rest_complete}

-- fronts of one length are one
front_same : (v w s : Text) → IsFront v s → IsFront w s → length v ≡ length w → v ≡ w
front_same v w s f g e = sym (take_at v f.0 (length v) refl) ∙ ap (take (length v)) (sym f.1 ∙ g.1) ∙ take_at w g.0 (length v) (sym e)

same_length : (a b : ℕ) → a ≤ b → b ≤ a → a ≡ b
same_length a b l m = omega (arith, l, m)

longest_same : (s : Text) (kind other : TokenKind) (v w : Text) → IsLongest kind v s → IsLongest other w s → v ≡ w
longest_same s kind other v w l m = front_same v w s l.front m.front (same_length _ _ (m.longest kind v l.front l.lexeme) (l.longest other w m.front m.lexeme))

-- a word is a lexeme of one kind
kinds_same : (kind other : TokenKind) (c : ℕ) (w : Text) → begins kind c ≡ true → begins other c ≡ true → IsLexeme kind w → IsLexeme other w → kind ≡ other
kinds_same Name Name c w a b l m = refl
kinds_same Name Keyword c w a b l m = absurd (l.1 m)
kinds_same Name Number c w a b l m = absurd (clash b (lower_no_digit c a))
kinds_same Name Symbol c w a b l m = absurd (clash b (lower_no_symbol c a))
kinds_same Keyword Name c w a b l m = absurd (m.1 l)
kinds_same Keyword Keyword c w a b l m = refl
kinds_same Keyword Number c w a b l m = absurd (clash b (lower_no_digit c a))
kinds_same Keyword Symbol c w a b l m = absurd (clash b (lower_no_symbol c a))
kinds_same Number Name c w a b l m = absurd (clash a (lower_no_digit c b))
kinds_same Number Keyword c w a b l m = absurd (clash a (lower_no_digit c b))
kinds_same Number Number c w a b l m = refl
kinds_same Number Symbol c w a b l m = absurd (clash b (digit_no_symbol c a))
kinds_same Symbol Name c w a b l m = absurd (clash a (lower_no_symbol c b))
kinds_same Symbol Keyword c w a b l m = absurd (clash a (lower_no_symbol c b))
kinds_same Symbol Number c w a b l m = absurd (clash a (digit_no_symbol c b))
kinds_same Symbol Symbol c w a b l m = refl

begins_no_space : (kind : TokenKind) (c : ℕ) → begins kind c ≡ true → is_space c ≡ false
begins_no_space Name c e = lower_no_space c e
begins_no_space Keyword c e = lower_no_space c e
begins_no_space Number c e = digit_no_space c e
begins_no_space Symbol c e = symbol_no_space c e

comments_same : (v w s : Text) → IsFront v s → IsFront w s → IsComment v → IsComment w → length v ≡ length w
comments_same v w s f g a b =
    let rest_v : drop 2 s ≡ a.0 ++ f.0 = ap (drop 2) (f.1 ∙ ap (λ v. v ++ f.0) a.2) in
    let rest_w : drop 2 s ≡ b.0 ++ g.0 = ap (drop 2) (g.1 ∙ ap (λ v. v ++ g.0) b.2) in
    let lengths = same_Some (length a.0) (length b.0) (sym (comment_rest_complete 1 a.0 f.0 a.1) ∙ ap (comment_rest 1) (sym rest_v ∙ rest_w) ∙ comment_rest_complete 1 b.0 g.0 b.1) in
    let l = ap length a.2 in
    let m = ap length b.2 in
    omega (arith, lengths, l, m)

first_open : (s : Text) → OpensComment s → get_or s 0 0 ≡ 40
first_open s o = ap (λ l. get_or l 0 0) o.1

opens_from : (w s : Text) → IsFront w s → IsComment w → OpensComment s
opens_from w s f c = (c.0 ++ f.0, f.1 ∙ ap (λ w. w ++ f.0) c.2)

first_of : (w s : Text) (c : ℕ) → IsFront w s → w ≡ c ∷ [] → get_or s 0 0 ≡ c
first_of w s c f e = ap (λ l. get_or l 0 0) (f.1 ∙ ap (λ w. w ++ f.0) e)

-- white space at the front is neither a comment nor a token
space_no_open : (w s : Text) (c : ℕ) → IsFront w s → w ≡ c ∷ [] → is_space c ≡ true → ¬ (OpensComment s)
space_no_open w s c f e space o = clash (ap is_space (sym (first_open s o) ∙ first_of w s c f e) ∙ space) refl

space_no_lexeme : (w s : Text) (c : ℕ) → IsFront w s → w ≡ c ∷ [] → is_space c ≡ true → (kind : TokenKind) (v : Text) → IsFront v s → ¬ (IsLexeme kind v)
space_no_lexeme w s c f e space kind v g h = clash (ap is_space (first_of w s c f e) ∙ space) (begins_no_space kind (get_or s 0 0) (begins_at kind v s g h))

gaps_same : (v w s : Text) → IsFront v s → IsFront w s → IsGap v → IsGap w → length v ≡ length w
gaps_same v w s f g (inl (c, a, e)) (inl (d, b, p)) = ap length e ∙ sym (ap length p)
gaps_same v w s f g (inl (c, a, e)) (inr b) = absurd (space_no_open v s c f e a (opens_from w s g b))
gaps_same v w s f g (inr a) (inl (d, b, p)) = absurd (space_no_open w s d g p b (opens_from v s f a))
gaps_same v w s f g (inr a) (inr b) = comments_same v w s f g a b

-- what may follow the first n bytes
pub data Step (text : Text) (n : ℕ) : List Token → ℕ → Type 0 where
  by_gap : {m : ℕ} {ts : List Token} {w : Text} → IsFront w (drop n text) → IsGap w → ts ≡ [] → m ≡ n + length w → Step text n ts m
  by_token : {m : ℕ} {ts : List Token} {t : Token} → IsTokenOf text t → t.at.0 ≡ n → t.end.0 ≡ m → ts ≡ t ∷ [] → Step text n ts m

no_token_at_gap : (text : Text) (n : ℕ) (w : Text) (t : Token) → IsFront w (drop n text) → IsGap w → IsTokenOf text t → t.at.0 ≡ n → ⊥
no_token_at_gap text n w t f (inl (c, a, e)) i q = space_no_lexeme w (drop n text) c f e a t.kind (word text t) (subst (λ n. IsFront (word text t) (drop n text)) q i.longest.front) i.longest.lexeme
no_token_at_gap text n w t f (inr c) i q = i.no_comment (subst (λ n. OpensComment (drop n text)) (sym q) (opens_from w (drop n text) f c))

tokens_same : (text : Text) (t u : Token) → IsTokenOf text t → IsTokenOf text u → t.at.0 ≡ u.at.0 → t ≡ u
tokens_same text t u i j e =
    let longest_u = subst (λ n. IsLongest u.kind (word text u) (drop n text)) (sym e) j.longest in
    let words = longest_same (drop t.at.0 text) t.kind u.kind (word text t) (word text u) i.longest longest_u in
    let s = drop t.at.0 text in
    let kinds = kinds_same t.kind u.kind (get_or s 0 0) (word text t) (begins_at t.kind (word text t) s i.longest.front i.longest.lexeme) (begins_at u.kind (word text u) s longest_u.front longest_u.lexeme) i.longest.lexeme (subst (IsLexeme u.kind) (sym words) longest_u.lexeme) in
    let ends : t.end.0 ≡ u.end.0 = (let l = ap length words in let p = i.ends in let q = j.ends in omega (arith, l, p, q, e)) in
    λ k. record { at = record { 0 = e k }; end = record { 0 = ends k }; kind = kinds k }

one_step : (text : Text) (n m k : ℕ) (ts us : List Token) → Step text n ts m → Step text n us k → (ts ≡ us) × (m ≡ k)
one_step text n m k ts us (by_gap {w = v} f a p x) (by_gap {w = w} g b q y) = (p ∙ sym q, (let l = gaps_same v w (drop n text) f g a b in omega (arith, l, x, y)))
one_step text n m k ts us (by_gap {w = v} f a p x) (by_token {t = u} j b q y) = absurd (no_token_at_gap text n v u f a j b)
one_step text n m k ts us (by_token {t = t} i a p x) (by_gap {w = w} g b q y) = absurd (no_token_at_gap text n w t g b i a)
one_step text n m k ts us (by_token {t = t} i a p x) (by_token {t = u} j b q y) =
    let e = tokens_same text t u i j (a ∙ sym b) in
    (x ∙ ap (λ t. t ∷ []) e ∙ sym y, sym p ∙ ap (λ (t : Token). t.end.0) e ∙ q)

-- the text from n to m is cut into these tokens, from the left
data Path' (text : Text) : ℕ → List Token → ℕ → Type 0 where
  stop : {n m : ℕ} {ts : List Token} → n ≡ m → ts ≡ [] → Path' text n ts m
  go : {n k m : ℕ} {ts us vs : List Token} → Step text n ts k → Path' text k us m → vs ≡ ts ++ us → Path' text n vs m

path_more : (text : Text) (n m k : ℕ) (ts us : List Token) → Path' text n ts m → Step text m us k → Path' text n (ts ++ us) k
path_more text n m k ts us (stop e q) s = go (subst (λ m. Step text m us k) (sym e) s) (stop refl refl) (ap (λ ts. ts ++ us) q ∙ sym (append-nil us))
path_more text n m k ts us (go {k = j} {ts = xs} {us = ys} s p q) t = go s (path_more text j m k ys us p t) (ap (λ ts. ts ++ us) q ∙ append_assoc xs ys us)

record Before (text : Text) (m : ℕ) (us : List Token) : Type 0 where
  place : ℕ
  tokens : List Token
  last : List Token
  cut : Cut text place tokens
  step : Step text place last m
  is : us ≡ tokens ++ last

abbrev Ahead : Text → ℕ → List Token → ℕ → List Token → Type 0
Ahead text n ts m us = (vs : List Token) × Path' text n vs m × (us ≡ ts ++ vs)

path_of : (text : Text) (m : ℕ) (us : List Token) → Cut text m us → Path' text 0 us m
path_of text m us start = stop refl refl
path_of text m us (gap {n = n} c f g e) = subst (λ us. Path' text 0 us m) (append-nil us) (path_more text 0 n m us [] (path_of text n us c) (by_gap f g refl e))
path_of text m us (token {n = n} {t = t} {ts = ts} c i a b e) = subst (λ us. Path' text 0 us m) (sym e) (path_more text 0 n m ts (t ∷ []) (path_of text n ts c) (by_token i a b refl))

-- of two cuts one goes on from the other
extend : (text : Text) (n k m : ℕ) (ts xs vs us : List Token) → Ahead text n ts m us ⊎ Ahead text m us n ts → Step text n xs k → vs ≡ ts ++ xs → Ahead text k vs m us ⊎ Ahead text m us k vs
extend text n k m ts xs vs us (inr (ys, p, e)) s q = inr (ys ++ xs, path_more text m n k ys xs p s, q ∙ ap (λ ts. ts ++ xs) e ∙ append_assoc us ys xs)
extend text n k m ts xs vs us (inl (ys, stop a b, e)) s q =
    let same : us ≡ ts = e ∙ ap (λ ys. ts ++ ys) b ∙ append-nil ts in
    inr (xs, go (subst (λ n. Step text n xs k) a s) (stop refl refl) (sym (append-nil xs)), q ∙ ap (λ ts. ts ++ xs) (sym same))
extend text n k m ts xs vs us (inl (ys, go {k = j} {ts = zs} {us = ws} r p b, e)) s q =
    let same = one_step text n j k zs xs r s in
    inl (ws, subst (λ j. Path' text j ws m) same.1 p, e ∙ ap (λ ys. ts ++ ys) (b ∙ ap (λ zs. zs ++ ws) same.0) ∙ sym (append_assoc ts xs ws) ∙ ap (λ vs. vs ++ ws) (sym q))

compare : (text : Text) (n m : ℕ) (ts us : List Token) → Cut text n ts → Cut text m us → Ahead text n ts m us ⊎ Ahead text m us n ts
compare text n m ts us start d = inl (us, path_of text m us d, refl)
compare text n m ts us (gap {n = k} c f g e) d = extend text k n m ts [] ts us (compare text k m ts us c d) (by_gap f g refl e) (sym (append-nil ts))
compare text n m ts us (token {n = k} {t = t} {ts = xs} c i a b e) d = extend text k n m xs (t ∷ []) ts us (compare text k m xs us c d) (by_token i a b refl) e

-- nothing follows the first n bytes
abbrev Stuck : Text → ℕ → Type 0
Stuck text n = (ts : List Token) (m : ℕ) → ¬ (Step text n ts m)

path_from_stuck : (text : Text) (n m : ℕ) (ts : List Token) → Stuck text n → Path' text n ts m → (n ≡ m) × (ts ≡ [])
path_from_stuck text n m ts s (stop a b) = (a, b)
path_from_stuck text n m ts s (go r p b) = absurd (s _ _ r)

stuck_same : (text : Text) (n m : ℕ) (ts us : List Token) → Stuck text n → Stuck text m → Ahead text n ts m us ⊎ Ahead text m us n ts → (n ≡ m) × (ts ≡ us)
stuck_same text n m ts us a b (inl (vs, p, e)) = let q = path_from_stuck text n m vs a p in (q.0, sym (e ∙ ap (λ vs. ts ++ vs) q.1 ∙ append-nil ts))
stuck_same text n m ts us a b (inr (vs, p, e)) = let q = path_from_stuck text m n vs b p in (sym q.0, e ∙ ap (λ vs. us ++ vs) q.1 ∙ append-nil us)

-- a step passes over at least one byte
gap_some : (w : Text) → IsGap w → 0 < length w
gap_some w (inl (c, a, e)) = let l = ap length e in omega (arith, l)
gap_some w (inr c) = let l = ap length c.2 in omega (arith, l)

front_of_nothing : (w : Text) → IsFront w [] → length w ≡ 0
front_of_nothing w f = let l = ap length f.1 ∙ length-append w f.0 in omega (arith, l)

end_stuck : (text : Text) → Stuck text (length text)
end_stuck text us m (by_gap {w = w} f g q e) =
    let empty = front_of_nothing w (subst (IsFront w) (drop_all (length text) text (omega arith)) f) in
    let some = gap_some w g in
    omega (arith, empty, some)
end_stuck text us m (by_token {t = t} i a b e) =
    let empty = front_of_nothing (word text t) (subst (IsFront (word text t)) (ap (λ n. drop n text) a ∙ drop_all (length text) text (omega arith)) i.longest.front) in
    let some = ap length (lexeme_begins t.kind (word text t) i.longest.lexeme).is in
    omega (arith, empty, some)

bad_char_stuck : (text : Text) (n : ℕ) → IsBadChar (drop n text) → Stuck text n
bad_char_stuck text n bad us m (by_gap {w = w} f (inl (c, a, e)) q l) = bad.no_space (ap is_space (sym (ap (λ l. get_or l 0 0) bad.is) ∙ first_of w (drop n text) c f e) ∙ a)
bad_char_stuck text n bad us m (by_gap {w = w} f (inr c) q l) = bad.no_comment (opens_from w (drop n text) f c)
bad_char_stuck text n bad us m (by_token {t = t} i a b e) = bad.no_token t.kind (word text t) (subst (λ n. IsFront (word text t) (drop n text)) a i.longest.front) i.longest.lexeme

too_wide_stuck : (text : Text) (n : ℕ) → IsTooWide (drop n text) → Stuck text n
too_wide_stuck text n wide us m (by_gap {w = w} f (inl (c, a, e)) q l) = space_no_lexeme w (drop n text) c f e a Number wide.digits wide.longest.front wide.longest.lexeme
too_wide_stuck text n wide us m (by_gap {w = w} f (inr c) q l) = digit_no_comment (drop n text) (begins_at Number wide.digits (drop n text) wide.longest.front wide.longest.lexeme) (opens_from w (drop n text) f c)
too_wide_stuck text n wide us m (by_token {t = t} i a b e) =
    let s = drop n text in
    let longest = subst (λ n. IsLongest t.kind (word text t) (drop n text)) a i.longest in
    let words = longest_same s t.kind Number (word text t) wide.digits longest wide.longest in
    let kinds = kinds_same t.kind Number (get_or s 0 0) wide.digits (begins_at t.kind (word text t) s longest.front longest.lexeme) (begins_at Number wide.digits s wide.longest.front wide.longest.lexeme) (subst (IsLexeme t.kind) words longest.lexeme) wide.longest.lexeme in
    let small : number_value wide.digits < 2 ^ 63 = subst (λ kind. IsInRange kind wide.digits) kinds (subst (IsInRange t.kind) words i.in_range) in
    let wide_enough = wide.too_wide in
    omega (arith, small, wide_enough)

open_comment_stuck : (text : Text) (n : ℕ) → IsOpenComment (drop n text) → Stuck text n
open_comment_stuck text n opened us m (by_gap {w = w} f (inl (c, a, e)) q l) = space_no_open w (drop n text) c f e a opened.opens
open_comment_stuck text n opened us m (by_gap {w = w} f (inr c) q l) = opened.no_end w f c
open_comment_stuck text n opened us m (by_token {t = t} i a b e) = i.no_comment (subst (λ n. OpensComment (drop n text)) (sym a) opened.opens)

-- where an answer ends: nothing follows, and its place tells it
abbrev place_of : Text → Result (List Token) LexFault → ℕ
place_of text (Ok ts) = length text
place_of text (Err (BadChar at)) = at.0
place_of text (Err (NumberTooWide at)) = at.0
place_of text (Err (OpenComment at)) = at.0
place_of text (Err NoMemory) = 0

record Ending (text : Text) (a : Result (List Token) LexFault) : Type 0 where
  tokens : List Token
  cut : Cut text (place_of text a) tokens
  stuck : Stuck text (place_of text a)

ending_of : (text : Text) (a : Result (List Token) LexFault) → Answers text a → Ending text a
ending_of text (Ok ts) h = record { tokens = ts; cut = h; stuck = end_stuck text }
ending_of text (Err (BadChar at)) h = record { tokens = h.0.0; cut = h.0.1; stuck = bad_char_stuck text at.0 h.1 }
ending_of text (Err (NumberTooWide at)) h = record { tokens = h.0.0; cut = h.0.1; stuck = too_wide_stuck text at.0 h.1 }
ending_of text (Err (OpenComment at)) h = record { tokens = h.0.0; cut = h.0.1; stuck = open_comment_stuck text at.0 h.1 }
ending_of text (Err NoMemory) h = absurd h

endings_same : (text : Text) (a b : Result (List Token) LexFault) (x : Ending text a) (y : Ending text b) → (place_of text a ≡ place_of text b) × (x.tokens ≡ y.tokens)
endings_same text a b x y = stuck_same text (place_of text a) (place_of text b) x.tokens y.tokens x.stuck y.stuck (compare text (place_of text a) (place_of text b) x.tokens y.tokens x.cut y.cut)

-- a fault stands before a byte
bad_char_some : (s : Text) → IsBadChar s → 0 < length s
bad_char_some s bad = let l = ap length bad.is in omega (arith, l)

too_wide_some : (s : Text) → IsTooWide s → 0 < length s
too_wide_some s wide =
    let some = ap length (lexeme_begins Number wide.digits wide.longest.lexeme).is in
    let f = wide.longest.front in
    let l = ap length f.1 ∙ length-append wide.digits f.0 in
    omega (arith, some, l)

open_comment_some : (s : Text) → IsOpenComment s → 0 < length s
open_comment_some s opened = let l = ap length opened.opens.1 in omega (arith, l)

before_end : (text : Text) (n : ℕ) → 0 < length (drop n text) → length text ≡ n → ⊥
before_end text n some e = let l = length-drop n text in omega (arith, l, some, e)

pos_same : (a b : Pos) → a.0 ≡ b.0 → a ≡ b
pos_same a b e = λ k. record { 0 = e k }

wide_no_bad : (s : Text) → IsTooWide s → IsBadChar s → ⊥
wide_no_bad s wide bad = bad.no_token Number wide.digits wide.longest.front wide.longest.lexeme

wide_no_open : (s : Text) → IsTooWide s → OpensComment s → ⊥
wide_no_open s wide o = digit_no_comment s (begins_at Number wide.digits s wide.longest.front wide.longest.lexeme) o

-- at one place at most one kind of fault stands
faults_same : (text : Text) (f g : LexFault) → FirstFault text f → FirstFault text g → place_of text (Err f) ≡ place_of text (Err g) → f ≡ g
faults_same text (BadChar a) (BadChar b) x y e = ap (λ at. BadChar at) (pos_same a b e)
faults_same text (NumberTooWide a) (NumberTooWide b) x y e = ap (λ at. NumberTooWide at) (pos_same a b e)
faults_same text (OpenComment a) (OpenComment b) x y e = ap (λ at. OpenComment at) (pos_same a b e)
faults_same text (BadChar a) (NumberTooWide b) x y e = absurd (wide_no_bad (drop b.0 text) y.1 (subst (λ n. IsBadChar (drop n text)) e x.1))
faults_same text (NumberTooWide a) (BadChar b) x y e = absurd (wide_no_bad (drop b.0 text) (subst (λ n. IsTooWide (drop n text)) e x.1) y.1)
faults_same text (BadChar a) (OpenComment b) x y e = absurd ((subst (λ n. IsBadChar (drop n text)) e x.1).no_comment y.1.opens)
faults_same text (OpenComment a) (BadChar b) x y e = absurd (y.1.no_comment (subst (λ n. IsOpenComment (drop n text)) e x.1).opens)
faults_same text (NumberTooWide a) (OpenComment b) x y e = absurd (wide_no_open (drop b.0 text) (subst (λ n. IsTooWide (drop n text)) e x.1) y.1.opens)
faults_same text (OpenComment a) (NumberTooWide b) x y e = absurd (wide_no_open (drop b.0 text) y.1 (subst (λ n. IsOpenComment (drop n text)) e x.1).opens)
faults_same text NoMemory g x y e = absurd x
faults_same text f NoMemory x y e = absurd y

no_fault_at_end : (text : Text) (f : LexFault) → FirstFault text f → length text ≡ place_of text (Err f) → ⊥
no_fault_at_end text (BadChar at) h e = before_end text at.0 (bad_char_some (drop at.0 text) h.1) e
no_fault_at_end text (NumberTooWide at) h e = before_end text at.0 (too_wide_some (drop at.0 text) h.1) e
no_fault_at_end text (OpenComment at) h e = before_end text at.0 (open_comment_some (drop at.0 text) h.1) e
no_fault_at_end text NoMemory h e = absurd h

pub one_answer : (text : Text) → HasOneAnswer text
unfolding ending_of
one_answer text (Ok ts) (Ok us) x y = ap Ok (endings_same text (Ok ts) (Ok us) (ending_of text (Ok ts) x) (ending_of text (Ok us) y)).1
one_answer text (Ok ts) (Err g) x y = absurd (no_fault_at_end text g y (endings_same text (Ok ts) (Err g) (ending_of text (Ok ts) x) (ending_of text (Err g) y)).0)
one_answer text (Err f) (Ok us) x y = absurd (no_fault_at_end text f x (sym (endings_same text (Err f) (Ok us) (ending_of text (Err f) x) (ending_of text (Ok us) y)).0))
one_answer text (Err f) (Err g) x y = ap Err (faults_same text f g x y (endings_same text (Err f) (Err g) (ending_of text (Err f) x) (ending_of text (Err g) y)).0)
