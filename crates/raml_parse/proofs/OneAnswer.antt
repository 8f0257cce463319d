-- Bytes have one answer at most.
use Rattle.std.proofs.Common.{◌≡◌, ℕ, List, [], length, refl, sym, ap, subst, ◌∙◌, arith}
use Rattle.std.specs.Prelude.{map, Result, Ok, Err, Bool, true, false, nat_lt}
use Rattle.std.specs.Str.{IsUtf8, IsValidUpTo}
use Rattle.std.proofs.Math.Seq.{take-length}
use Rattle.std.proofs.lemmas.Bool.{ltb-true, ltb-false}
use Rattle.parse_spec.specs.declared.Kind.{Kind}
use Rattle.parse_spec.specs.declared.Kind.TheVariants as d
use Rattle.parse_spec.specs.Reading.{Fault}
use Rattle.parse_spec.proofs.Places as g
use Rattle.parse_spec.proofs.Only.{one_fault, no_fault, one_value}
use Rattle.raml_lex.specs.Lexing as lex
use Rattle.raml_lex.specs.declared.token.Token as l
use Rattle.raml_lex.specs.declared.token.LexFault.{LexFault}
use Rattle.raml_lex.proofs.OneAnswer as lexed
use Rattle.raml_syntax.specs.Tree.{Text, Prog}
use Rattle.parse_table.specs.Tokens.{Token, as_token}
use Rattle.parse_table.specs.Table.{Part, Whole, grammar}
use Rattle.raml_parse.specs.Spelling.{HasTokens, Answers, HasOneAnswer, place_in}
use Rattle.raml_parse.specs.declared.fault.ParseFault.{ParseFault}
use Rattle.raml_parse.specs.declared.fault.ParseFault.TheVariants.{NotUtf8, Lex, Syntax, TooDeep, TooMany, NoMemory}
use Rattle.parse_table.proofs.TheTable.{readable}

-- where the answer is found
data Stage : Type 0 where
  Bytes : ℕ → Stage
  Lexed : LexFault → Stage
  Parsed : Result Part (Fault Token) → Stage

abbrev Holds : Text → Stage → Type 0
Holds source (Bytes n) = IsValidUpTo source n
Holds source (Lexed f) = IsUtf8 source × lex.FirstFault source f
Holds source (Parsed o) = (tokens : List Token) × HasTokens source tokens × g.Answers grammar 0 200 tokens o

not_utf8 : (source : Text) (n : ℕ) → IsUtf8 source → IsValidUpTo source n → ⊥
not_utf8 source n u v = v.longest (length source) v.short (subst IsUtf8 (sym (take-length source)) u)

same_valid : (source : Text) (n m : ℕ) → IsValidUpTo source n → IsValidUpTo source m → n ≡ m
same_valid source n m x y = go (nat_lt n m) refl (nat_lt m n) refl
  where
    go : (b : Bool) → nat_lt n m ≡ b → (e : Bool) → nat_lt m n ≡ e → n ≡ m
    go true p e q = absurd (x.longest m (ltb-true n m p) y.front)
    go false p true q = absurd (y.longest n (ltb-true m n q) x.front)
    go false p false q = let a = ltb-false n m p in let b = ltb-false m n q in omega (arith, a, b)

-- a text has one list of tokens
same_tokens : (source : Text) (ts us : List Token) → HasTokens source ts → HasTokens source us → ts ≡ us
same_tokens source ts us x y =
    let e : ◌≡◌ {A = Result (List l.Token) LexFault} (Ok x.lexed) (Ok y.lexed) = lexed.one_answer source (Ok x.lexed) (Ok y.lexed) x.spelled y.spelled in
    let p : x.lexed ≡ y.lexed = cc in
    x.are ∙ ap (map (as_token source)) p ∙ sym y.are

no_lexed : (source : Text) (ts : List Token) (f : LexFault) → HasTokens source ts → lex.FirstFault source f → ⊥
no_lexed source ts f x y = let e : ◌≡◌ {A = Result (List l.Token) LexFault} (Ok x.lexed) (Err f) = lexed.one_answer source (Ok x.lexed) (Err f) x.spelled y in absurd (cc)

same_lexed : (source : Text) (f h : LexFault) → lex.FirstFault source f → lex.FirstFault source h → f ≡ h
same_lexed source f h x y = let e : ◌≡◌ {A = Result (List l.Token) LexFault} (Err f) (Err h) = lexed.one_answer source (Err f) (Err h) x y in cc

same_parsed : (tokens : List Token) (o r : Result Part (Fault Token)) → g.Answers grammar 0 200 tokens o → g.Answers grammar 0 200 tokens r → o ≡ r
same_parsed tokens (Ok v) (Ok w) x y = ap Ok (one_value grammar readable 0 200 tokens v w x y)
same_parsed tokens (Ok v) (Err (k, u)) x y = absurd (no_fault grammar 0 200 tokens v k u x y)
same_parsed tokens (Err (k, u)) (Ok v) x y = absurd (no_fault grammar 0 200 tokens v k u y x)
same_parsed tokens (Err (k, u)) (Err (j, v)) x y = let p = one_fault grammar 0 200 tokens k j u v x y in λ i. Err (p.0 i, p.1 i)

one_stage : (source : Text) (x y : Stage) → Holds source x → Holds source y → x ≡ y
one_stage source (Bytes n) (Bytes m) h i = ap Bytes (same_valid source n m h i)
one_stage source (Bytes n) (Lexed f) h i = absurd (not_utf8 source n i.0 h)
one_stage source (Bytes n) (Parsed o) h i = absurd (not_utf8 source n i.1.utf8 h)
one_stage source (Lexed f) (Bytes n) h i = absurd (not_utf8 source n h.0 i)
one_stage source (Lexed f) (Lexed e) h i = ap Lexed (same_lexed source f e h.1 i.1)
one_stage source (Lexed f) (Parsed o) h i = absurd (no_lexed source i.0 f i.1 h.1)
one_stage source (Parsed o) (Bytes n) h i = absurd (not_utf8 source n h.1.utf8 i)
one_stage source (Parsed o) (Lexed f) h i = absurd (no_lexed source h.0 f h.1 i.1)
one_stage source (Parsed o) (Parsed r) h i = ap Parsed (same_parsed h.0 o r h.2 (subst (λ ts. g.Answers grammar 0 200 ts r) (sym (same_tokens source h.0 i.0 h.1 i.1)) i.2))

-- the answer that a stage gives
abbrev fault_at : Kind → ℕ → ParseFault
fault_at d.Syntax n = Syntax (record { 0 = n })
fault_at d.TooDeep n = TooDeep (record { 0 = n })
fault_at d.TooMany n = TooMany (record { 0 = n })

abbrev prog_of : Part → Prog
prog_of (Whole P) = P
prog_of _ = []

abbrev shown : ℕ → Stage → Result Prog ParseFault
shown end (Bytes n) = Err (NotUtf8 (record { 0 = n }))
shown end (Lexed f) = Err (Lex f)
shown end (Parsed (Ok v)) = Ok (prog_of v)
shown end (Parsed (Err (k, u))) = Err (fault_at k (place_in end u))

record Found (source : Text) (a : Result Prog ParseFault) : Type 0 where
  stage : Stage
  holds : Holds source stage
  is : a ≡ shown (length source) stage

found : (source : Text) (a : Result Prog ParseFault) → Answers source a → Found source a
found source (Ok P) h = record { stage = Parsed (Ok (Whole P)); holds = (h.tokens, h.has, h.derives); is = refl }
found source (Err (NotUtf8 at)) h = record { stage = Bytes at.0; holds = h; is = refl }
found source (Err (Lex f)) h = record { stage = Lexed f; holds = h; is = refl }
found source (Err (Syntax at)) h = record { stage = Parsed (Err (d.Syntax, h.rest)); holds = (h.tokens, h.has, h.fault); is = ap (λ n. Err (Syntax (record { 0 = n }))) h.place }
found source (Err (TooDeep at)) h = record { stage = Parsed (Err (d.TooDeep, h.rest)); holds = (h.tokens, h.has, h.fault); is = ap (λ n. Err (TooDeep (record { 0 = n }))) h.place }
found source (Err (TooMany at)) h = record { stage = Parsed (Err (d.TooMany, h.rest)); holds = (h.tokens, h.has, h.fault); is = ap (λ n. Err (TooMany (record { 0 = n }))) h.place }
found source (Err NoMemory) h = absurd h

pub one_answer : (source : Text) → HasOneAnswer source
one_answer source a b x y =
    let f = found source a x in
    let e = found source b y in
    f.is ∙ ap (shown (length source)) (one_stage source f.stage e.stage f.holds e.holds) ∙ sym e.is
