-- Data has one answer at most.
use Rattle.std.proofs.Common.{◌≡◌, ◌-◌, ℕ, List, [], ◌∷◌, ◌++◌, length, length-append, refl, sym, ap, subst, ◌∙◌, arith, cond, Bool, true, false}
use Rattle.std.specs.Prelude.{Result, Ok, Err, nat_lt, nat_le}
use Rattle.std.specs.Str.{IsUtf8, IsValidUpTo}
use Rattle.std.proofs.Math.Seq.{take-length}
use Rattle.std.proofs.lemmas.Bool.{ltb-true, ltb-false}
use Rattle.std.proofs.lemmas.Bool.Decides.{nat_tests}
use Rattle.raml_syntax.specs.Tree.{Text, Type'}
use Rattle.raml_syntax.specs.Value.{Value}
use Rattle.value_text.specs.declared.fault.Kind.{Kind}
use Rattle.value_text.specs.declared.fault.Kind.TheVariants as k
use Rattle.value_text.specs.declared.fault.DataFault.{DataFault}
use Rattle.value_text.specs.declared.fault.DataFault.TheVariants.{NotUtf8, Shape, TooDeep, TooManyCells, NoMemory}
use Rattle.value_text.specs.Spelling.{most_height, sizes}
use Rattle.value_text.specs.Lexing.{Placed, placed, kinds, left_of}
use Rattle.value_text.specs.Reading.{Spells, StopsAt, Answers, HasOneAnswer, most_cells}
use Rattle.value_text.proofs.OneData.{one_spelled, no_fault, one_fault}

-- where the answer is found
data Stage : Type 0 where
  Bytes : ℕ → Stage
  Token' : Kind → ℕ → Stage
  Read : List Value → Stage

abbrev Holds : Text → List Type' → Stage → Type 0
Holds data' types (Bytes n) = IsValidUpTo data' n
Holds data' types (Token' j left) = IsUtf8 data' × StopsAt data' types j left
Holds data' types (Read xs) = Spells data' types xs

not_utf8 : (s : Text) (n : ℕ) → IsUtf8 s → IsValidUpTo s n → ⊥
not_utf8 s n u v = v.longest (length s) v.short (subst IsUtf8 (sym (take-length s)) u)

same_valid : (s : Text) (n m : ℕ) → IsValidUpTo s n → IsValidUpTo s m → n ≡ m
same_valid s n m x y = go (nat_lt n m) refl (nat_lt m n) refl
  where
    go : (b : Bool) → nat_lt n m ≡ b → (e : Bool) → nat_lt m n ≡ e → n ≡ m
    go true p e q = absurd (x.longest m (ltb-true n m p) y.front)
    go false p true q = absurd (y.longest n (ltb-true m n q) x.front)
    go false p false q = let a = ltb-false n m p in let b = ltb-false m n q in omega (arith, a, b)

length_kinds : (s : List Placed) → length (kinds s) ≡ length s
length_kinds [] = refl
length_kinds (x ∷ s) = let e = length_kinds s in omega (arith, e)

rest_same : (x y : Placed) (s r : List Placed) → x ∷ s ≡ y ∷ r → s ≡ r
rest_same x y s r e = cc

-- two ends of a list that are of one length
same_end : (a c r w : List Placed) → a ++ r ≡ c ++ w → length r ≡ length w → r ≡ w
same_end [] [] r w e l = e
same_end [] (y ∷ c) r w e l = let n = ap length e in let m = length-append c w in absurd (omega (arith, n, m, l))
same_end (x ∷ a) [] r w e l = let n = ap length e in let m = length-append a r in absurd (omega (arith, n, m, l))
same_end (x ∷ a) (y ∷ c) r w e l = same_end a c r w (rest_same _ _ _ _ e) l

same_stop : (data' : Text) (types : List Type') (j i : Kind) (l m : ℕ) → StopsAt data' types j l → StopsAt data' types i m → Token' j l ≡ Token' i m
same_stop data' types j i l m x y =
    let p = one_fault types most_height (kinds (placed data')) j i (kinds x.rest) (kinds y.rest) x.fault y.fault in
    let n : length x.rest ≡ length y.rest = sym (length_kinds x.rest) ∙ ap length p.1 ∙ length_kinds y.rest in
    let r = same_end x.before y.before x.rest y.rest (sym x.split ∙ y.split) n in
    let q = x.place ∙ ap left_of r ∙ sym y.place in
    (λ a. Token' (p.0 a) (q a))

one_stage : (data' : Text) (types : List Type') (x y : Stage) → Holds data' types x → Holds data' types y → x ≡ y
one_stage s types (Bytes n) (Bytes m) h i = ap Bytes (same_valid s n m h i)
one_stage s types (Bytes n) (Token' j l) h i = absurd (not_utf8 s n i.0 h)
one_stage s types (Bytes n) (Read xs) h i = absurd (not_utf8 s n i.utf8 h)
one_stage s types (Token' j l) (Bytes n) h i = absurd (not_utf8 s n h.0 i)
one_stage s types (Token' j l) (Token' e m) h i = same_stop s types j e l m h.1 i.1
one_stage s types (Token' j l) (Read xs) h i = absurd (no_fault types most_height (kinds (placed s)) j (kinds h.1.rest) xs h.1.fault i.spelled)
one_stage s types (Read xs) (Bytes n) h i = absurd (not_utf8 s n h.utf8 i)
one_stage s types (Read xs) (Token' j l) h i = absurd (no_fault types most_height (kinds (placed s)) j (kinds i.1.rest) xs i.1.fault h.spelled)
one_stage s types (Read xs) (Read ys) h i = ap Read (one_spelled types most_height most_height (kinds (placed s)) xs ys h.spelled i.spelled)

-- the answer that a stage gives
abbrev shown : ℕ → Stage → Result (List Value) DataFault
shown n (Bytes m) = Err (NotUtf8 (record { 0 = m }))
shown n (Token' k.Shape l) = Err (Shape (record { 0 = n - l }))
shown n (Token' k.TooDeep l) = Err (TooDeep (record { 0 = n - l }))
shown n (Read xs) = cond (nat_le (sizes xs) most_cells) (Ok xs) (Err TooManyCells)

record Found (data' : Text) (types : List Type') (a : Result (List Value) DataFault) : Type 0 where
  stage : Stage
  holds : Holds data' types stage
  is : a ≡ shown (length data') stage

found : (data' : Text) (types : List Type') (a : Result (List Value) DataFault) → Answers data' types a → Found data' types a
found s types (Ok xs) h = let l = h.1 in let e : nat_le (sizes xs) most_cells ≡ true = grind (arith, nat_tests, l) in record { stage = Read xs; holds = h.0; is = sym (ap (λ b. cond b (Ok xs) (Err TooManyCells)) e) }
found s types (Err (NotUtf8 p)) h = record { stage = Bytes p.0; holds = h; is = refl }
found s types (Err (Shape p)) h = let e = h.1.1 in let d : p.0 ≡ length s - h.1.0 = omega (arith, e) in record { stage = Token' k.Shape h.1.0; holds = (h.0, h.1.2); is = ap (λ n. Err (Shape (record { 0 = n }))) d }
found s types (Err (TooDeep p)) h = let e = h.1.1 in let d : p.0 ≡ length s - h.1.0 = omega (arith, e) in record { stage = Token' k.TooDeep h.1.0; holds = (h.0, h.1.2); is = ap (λ n. Err (TooDeep (record { 0 = n }))) d }
found s types (Err TooManyCells) h = let l = h.2 in let e : nat_le (sizes h.0) most_cells ≡ false = grind (arith, nat_tests, l) in record { stage = Read h.0; holds = h.1; is = sym (ap (λ b. cond b (Ok h.0) (Err TooManyCells)) e) }
found s types (Err NoMemory) h = absurd h

pub one_answer : (data' : Text) (types : List Type') → HasOneAnswer data' types
one_answer data' types a b x y =
    let f = found data' types a x in
    let e = found data' types b y in
    f.is ∙ ap (shown (length data')) (one_stage data' types f.stage e.stage f.holds e.holds) ∙ sym e.is
