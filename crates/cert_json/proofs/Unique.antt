-- Two certificates with the same JSON are the same.
use Rattle.std.proofs.Common.{◌≡◌, Bool, ℕ, suc, ◌^◌, ◌<◌, ℤ, pos, negsuc, List, [], ◌∷◌, map, Option, Some, None, refl, sym, ap, ap₂, subst, ◌∙◌, arith, decimal, true, codes}
use Rattle.std.specs.Fmt.{signed_decimal}
use Rattle.std.specs.Str.Parse.{digits_value, IsNumeral}
use Rattle.std.proofs.lemmas.Fmt.{decimal_is_IsNumeral_wide}
use Rattle.serde_json.specs.Data.{Data, string}
use Rattle.serde_json.specs.View.{items_of}
use Rattle.cost_free.specs.declared.task.Meter.{Meter}
use Rattle.cost_free.specs.declared.task.Meter.TheVariants.{Ticks, Cells, Work}
use Rattle.cost_free.specs.Task.{Kind, Free, With}
use Rattle.cert_json.specs.Parts.{Entries, Sig, Hint, Let, Share, Call, Body, Solved, Refuted, Calls, Block, Certificate}
use Rattle.cert_json.specs.Form.{Text, natural, list_json, entry_json, entries_json, sig_json, hint_json, hints_json, body_json, block_json, scale_json, certificate_json, meter_text, version}
use Rattle.cert_json.specs.Fits.{Each, FitsOption, InRange, FitsList, FitsEntry, FitsAnnot, FitsHint, FitsBody, FitsKind}
use Rattle.cert_json.specs.Numbers.{Wide, KindFits, EntryHas, EntriesHave, SigHas, HintHas, HintsHave, BodyHas, BlockHas, CertificateHas}
use Rattle.cert_json.specs.Faults.{HasParts, with_work}
use Rattle.cert_json.specs.Reading.{meter_of, fields, head_keys, solved_keys, solved_free_keys, other_keys, other_free_keys}

-- g tells those apart of which P holds
abbrev Distinct : {A : Type 0} → (A → Data) → (A → Type 0) → Type 0
Distinct {A} g P = (x y : A) → P x → P y → g x ≡ g y → x ≡ y

-- ---- numbers

small : (n : ℕ) → Wide (pos n) → n < 10 ^ 64
small n h = omega (arith, h)

small_minus : (n : ℕ) → Wide (negsuc n) → suc n < 10 ^ 64
small_minus n h = omega (arith, h)

decimals : (m n : ℕ) → m < 10 ^ 64 → n < 10 ^ 64 → decimal m ≡ decimal n → m ≡ n
decimals m n p q e = sym (decimal_is_IsNumeral_wide m p).1 ∙ ap (digits_value 10) e ∙ (decimal_is_IsNumeral_wide n q).1

-- no decimal begins with a minus
no_minus : (m : ℕ) (s : Text) → m < 10 ^ 64 → decimal m ≡ 45 ∷ s → ⊥
no_minus m s p e = let h = subst (IsNumeral 10) e (decimal_is_IsNumeral_wide m p).0 in omega (arith, h.1.0)

numbers : (x y : ℤ) → Wide x → Wide y → signed_decimal x ≡ signed_decimal y → x ≡ y
numbers (pos m) (pos n) p q e = ap pos (decimals m n (small m p) (small n q) e)
numbers (pos m) (negsuc n) p q e = absurd (no_minus m (decimal (suc n)) (small m p) e)
numbers (negsuc m) (pos n) p q e = absurd (no_minus n (decimal (suc m)) (small n q) (sym e))
numbers (negsuc m) (negsuc n) p q e =
    let same : decimal (suc m) ≡ decimal (suc n) = cc in
    let k = decimals (suc m) (suc n) (small_minus m p) (small_minus n q) same in
    let h : m ≡ n = cc in ap negsuc h

-- ---- lists

items : {A : Type 0} (g : A → Data) (P : A → Type 0) → Distinct g P → (xs ys : List A) → Each P xs → Each P ys → items_of (map g xs) ≡ items_of (map g ys) → xs ≡ ys
items g P d [] [] p q e = refl
items g P d [] (y ∷ ys) p q e = absurd (cc)
items g P d (x ∷ xs) [] p q e = absurd (cc)
items g P d (x ∷ xs) (y ∷ ys) p q e =
    let first : g x ≡ g y = cc in
    let rest : items_of (map g xs) ≡ items_of (map g ys) = cc in
    ap₂ (λ x xs. x ∷ xs) (d x y p.0 q.0 first) (items g P d xs ys p.1 q.1 rest)

lists : {A : Type 0} (g : A → Data) (P : A → Type 0) → Distinct g P → Distinct (λ xs. list_json (map g xs)) (Each P)
lists g P d xs ys p q e = let h : items_of (map g xs) ≡ items_of (map g ys) = cc in items g P d xs ys p q h

-- ---- parts

entry : Distinct (entry_json signed_decimal) (EntryHas Wide)
entry (m, x) (n, y) p q e =
    let at : m ≡ n = cc in
    let text : signed_decimal x ≡ signed_decimal y = cc in
    ap₂ (λ m x. (m, x)) at (numbers x y p.number q.number text)

entries : Distinct (entries_json signed_decimal) (EntriesHave Wide)
entries = lists (entry_json signed_decimal) (EntryHas Wide) entry

abbrev sig_with : Entries ℤ → Entries ℤ → Sig ℤ
sig_with args result = record { args = args; result = result }

sig : Distinct (sig_json signed_decimal) (SigHas Wide)
sig x y p q e =
    let a : entries_json signed_decimal x.args ≡ entries_json signed_decimal y.args = cc in
    let r : entries_json signed_decimal x.result ≡ entries_json signed_decimal y.result = cc in
    ap₂ sig_with (entries x.args y.args p.args q.args a) (entries x.result y.result p.result q.result r)

abbrev annots_json : List (Entries ℤ) → Data
annots_json annots = list_json (map (entries_json signed_decimal) annots)

annots : Distinct annots_json (Each (EntriesHave Wide))
annots = lists (entries_json signed_decimal) (EntriesHave Wide) entries

hint : Distinct (hint_json signed_decimal) (HintHas Wide)
hint (Let x) (Let y) p q e = let h : annots_json x ≡ annots_json y = cc in ap Let (annots x y p q h)
hint (Share x) (Share y) p q e = let h : entries_json signed_decimal x ≡ entries_json signed_decimal y = cc in ap Share (entries x y p q h)
hint (Call x) (Call y) p q e = let h : entries_json signed_decimal x ≡ entries_json signed_decimal y = cc in ap Call (entries x y p q h)
hint (Let x) (Share y) p q e = absurd (cc)
hint (Let x) (Call y) p q e = absurd (cc)
hint (Share x) (Let y) p q e = absurd (cc)
hint (Share x) (Call y) p q e = absurd (cc)
hint (Call x) (Let y) p q e = absurd (cc)
hint (Call x) (Share y) p q e = absurd (cc)

hints : Distinct (hints_json signed_decimal) (HintsHave Wide)
hints = lists (hint_json signed_decimal) (HintHas Wide) hint

abbrev all_hints_json : List (List (Hint ℤ)) → Data
all_hints_json hs = list_json (map (hints_json signed_decimal) hs)

all_hints : Distinct all_hints_json (Each (HintsHave Wide))
all_hints = lists (hints_json signed_decimal) (HintsHave Wide) hints

abbrev sigs_json : List (Sig ℤ) → Data
sigs_json ss = list_json (map (sig_json signed_decimal) ss)

sigs : Distinct sigs_json (Each (SigHas Wide))
sigs = lists (sig_json signed_decimal) (SigHas Wide) sig

free_same : (a b c x y z : ℕ) → a ≡ x → b ≡ y → c ≡ z → Free a b c ≡ Free x y z
free_same a b c x y z p q r = rw (p, q, r) refl

meter_read : (m : Meter) → meter_of true (meter_text m) ≡ Some m
meter_read Ticks = refl
meter_read Cells = refl
meter_read Work = refl

meters : (m n : Meter) → meter_text m ≡ meter_text n → m ≡ n
meters m n e = let h : Some m ≡ Some n = sym (meter_read m) ∙ ap (meter_of true) e ∙ meter_read n in of_some m n h
  where
    of_some : (m n : Meter) → Some m ≡ Some n → m ≡ n
    of_some m n h = cc

abbrev block_with : ℕ → Kind → Body ℤ → Block ℤ
block_with g k b = record { task = record { group = g; kind = k }; body = b }

same_block : (g h : ℕ) (k l : Kind) (b c : Body ℤ) → g ≡ h → k ≡ l → b ≡ c → block_with g k b ≡ block_with h l c
same_block g h k l b c p q r = rw (p, q, r) refl

-- two objects of which one has these keys and the other has not
apart : {A : Type 0} (keys : List Text) (d e : Data) (ds : List Data) → fields keys d ≡ Some ds → fields keys e ≡ None → d ≡ e → A
apart {A} keys d e ds p q r = never (sym p ∙ ap (fields keys) r ∙ q)
  where
    never : Some ds ≡ None → A
    never h = absurd (cc)

same_values : (keys : List Text) (d e : Data) (ds es : List Data) → fields keys d ≡ Some ds → fields keys e ≡ Some es → d ≡ e → ds ≡ es
same_values keys d e ds es p q r = of_some (sym p ∙ ap (fields keys) r ∙ q)
  where
    of_some : Some ds ≡ Some es → ds ≡ es
    of_some h = cc

naturals : (m n : ℕ) → natural m ≡ natural n → m ≡ n
naturals m n e = cc

strings : (s t : Text) → string s ≡ string t → s ≡ t
strings s t e = cc

two : (x0 x1 y0 y1 : Data) → x0 ∷ x1 ∷ [] ≡ y0 ∷ y1 ∷ [] → (x0 ≡ y0) × (x1 ≡ y1)
two x0 x1 y0 y1 e = let e0 : x0 ≡ y0 = cc in let e1 : x1 ≡ y1 = cc in (e0, e1)

three : (x0 x1 x2 y0 y1 y2 : Data) → x0 ∷ x1 ∷ x2 ∷ [] ≡ y0 ∷ y1 ∷ y2 ∷ [] → (x0 ≡ y0) × (x1 ≡ y1) × (x2 ≡ y2)
three x0 x1 x2 y0 y1 y2 e = let e0 : x0 ≡ y0 = cc in let e1 : x1 ≡ y1 = cc in let e2 : x2 ≡ y2 = cc in (e0, e1, e2)

four : (x0 x1 x2 x3 y0 y1 y2 y3 : Data) → x0 ∷ x1 ∷ x2 ∷ x3 ∷ [] ≡ y0 ∷ y1 ∷ y2 ∷ y3 ∷ [] → (x0 ≡ y0) × (x1 ≡ y1) × (x2 ≡ y2) × (x3 ≡ y3)
four x0 x1 x2 x3 y0 y1 y2 y3 e = let e0 : x0 ≡ y0 = cc in let e1 : x1 ≡ y1 = cc in let e2 : x2 ≡ y2 = cc in let e3 : x3 ≡ y3 = cc in (e0, e1, e2, e3)

six : (x0 x1 x2 x3 x4 x5 y0 y1 y2 y3 y4 y5 : Data) → x0 ∷ x1 ∷ x2 ∷ x3 ∷ x4 ∷ x5 ∷ [] ≡ y0 ∷ y1 ∷ y2 ∷ y3 ∷ y4 ∷ y5 ∷ [] → (x0 ≡ y0) × (x1 ≡ y1) × (x2 ≡ y2) × (x3 ≡ y3) × (x4 ≡ y4) × (x5 ≡ y5)
six x0 x1 x2 x3 x4 x5 y0 y1 y2 y3 y4 y5 e = let e0 : x0 ≡ y0 = cc in let e1 : x1 ≡ y1 = cc in let e2 : x2 ≡ y2 = cc in let e3 : x3 ≡ y3 = cc in let e4 : x4 ≡ y4 = cc in let e5 : x5 ≡ y5 = cc in (e0, e1, e2, e3, e4, e5)

seven : (x0 x1 x2 x3 x4 x5 x6 y0 y1 y2 y3 y4 y5 y6 : Data) → x0 ∷ x1 ∷ x2 ∷ x3 ∷ x4 ∷ x5 ∷ x6 ∷ [] ≡ y0 ∷ y1 ∷ y2 ∷ y3 ∷ y4 ∷ y5 ∷ y6 ∷ [] → (x0 ≡ y0) × (x1 ≡ y1) × (x2 ≡ y2) × (x3 ≡ y3) × (x4 ≡ y4) × (x5 ≡ y5) × (x6 ≡ y6)
seven x0 x1 x2 x3 x4 x5 x6 y0 y1 y2 y3 y4 y5 y6 e = let e0 : x0 ≡ y0 = cc in let e1 : x1 ≡ y1 = cc in let e2 : x2 ≡ y2 = cc in let e3 : x3 ≡ y3 = cc in let e4 : x4 ≡ y4 = cc in let e5 : x5 ≡ y5 = cc in let e6 : x6 ≡ y6 = cc in (e0, e1, e2, e3, e4, e5, e6)

with_solved : (g h : ℕ) (m n : Meter) (ss : List (Sig ℤ)) (hs : List (List (Hint ℤ))) (ts : List (Sig ℤ)) (is : List (List (Hint ℤ))) → BodyHas Wide (Solved ss hs) → BodyHas Wide (Solved ts is)
    → natural g ∷ all_hints_json hs ∷ string (meter_text m) ∷ sigs_json ss ∷ [] ≡ natural h ∷ all_hints_json is ∷ string (meter_text n) ∷ sigs_json ts ∷ [] → block_with g (With m) (Solved ss hs) ≡ block_with h (With n) (Solved ts is)
with_solved g h m n ss hs ts is p q e =
    let v = four _ _ _ _ _ _ _ _ e in
    same_block g h (With m) (With n) (Solved ss hs) (Solved ts is) (naturals g h v.0) (ap With (meters m n (strings _ _ v.2))) (ap₂ Solved (sigs ss ts p.0 q.0 v.3) (all_hints hs is p.1 q.1 v.1))

free_solved : (g h a u t b v s : ℕ) (ss : List (Sig ℤ)) (hs : List (List (Hint ℤ))) (ts : List (Sig ℤ)) (is : List (List (Hint ℤ))) → BodyHas Wide (Solved ss hs) → BodyHas Wide (Solved ts is)
    → natural a ∷ natural u ∷ natural g ∷ all_hints_json hs ∷ string (codes "free") ∷ sigs_json ss ∷ natural t ∷ [] ≡ natural b ∷ natural v ∷ natural h ∷ all_hints_json is ∷ string (codes "free") ∷ sigs_json ts ∷ natural s ∷ []
    → block_with g (Free a u t) (Solved ss hs) ≡ block_with h (Free b v s) (Solved ts is)
free_solved g h a u t b v s ss hs ts is p q e =
    let r = seven _ _ _ _ _ _ _ _ _ _ _ _ _ _ e in
    same_block g h (Free a u t) (Free b v s) (Solved ss hs) (Solved ts is) (naturals g h r.2) (free_same a u t b v s (naturals a b r.0) (naturals u v r.1) (naturals t s r.6)) (ap₂ Solved (sigs ss ts p.0 q.0 r.5) (all_hints hs is p.1 q.1 r.3))

with_refuted : (g h : ℕ) (m n : Meter) (x y : Entries ℤ) → BodyHas Wide (Refuted x) → BodyHas Wide (Refuted y)
    → entries_json signed_decimal x ∷ natural g ∷ string (meter_text m) ∷ [] ≡ entries_json signed_decimal y ∷ natural h ∷ string (meter_text n) ∷ [] → block_with g (With m) (Refuted x) ≡ block_with h (With n) (Refuted y)
with_refuted g h m n x y p q e = let v = three _ _ _ _ _ _ e in same_block g h (With m) (With n) (Refuted x) (Refuted y) (naturals g h v.1) (ap With (meters m n (strings _ _ v.2))) (ap Refuted (entries x y p q v.0))

free_refuted : (g h a u t b v s : ℕ) (x y : Entries ℤ) → BodyHas Wide (Refuted x) → BodyHas Wide (Refuted y)
    → natural a ∷ entries_json signed_decimal x ∷ natural u ∷ natural g ∷ string (codes "free") ∷ natural t ∷ [] ≡ natural b ∷ entries_json signed_decimal y ∷ natural v ∷ natural h ∷ string (codes "free") ∷ natural s ∷ []
    → block_with g (Free a u t) (Refuted x) ≡ block_with h (Free b v s) (Refuted y)
free_refuted g h a u t b v s x y p q e = let r = six _ _ _ _ _ _ _ _ _ _ _ _ e in same_block g h (Free a u t) (Free b v s) (Refuted x) (Refuted y) (naturals g h r.3) (free_same a u t b v s (naturals a b r.0) (naturals u v r.2) (naturals t s r.5)) (ap Refuted (entries x y p q r.1))

with_calls : (g h : ℕ) (m n : Meter) (x y : ℕ) → BodyHas Wide (Calls x) → BodyHas Wide (Calls y)
    → natural x ∷ natural g ∷ string (meter_text m) ∷ [] ≡ natural y ∷ natural h ∷ string (meter_text n) ∷ [] → block_with g (With m) (Calls x) ≡ block_with h (With n) (Calls y)
with_calls g h m n x y p q e = let v = three _ _ _ _ _ _ e in same_block g h (With m) (With n) (Calls x) (Calls y) (naturals g h v.1) (ap With (meters m n (strings _ _ v.2))) (ap Calls (naturals x y v.0))

free_calls : (g h a u t b v s : ℕ) (x y : ℕ) → BodyHas Wide (Calls x) → BodyHas Wide (Calls y)
    → natural a ∷ natural x ∷ natural u ∷ natural g ∷ string (codes "free") ∷ natural t ∷ [] ≡ natural b ∷ natural y ∷ natural v ∷ natural h ∷ string (codes "free") ∷ natural s ∷ []
    → block_with g (Free a u t) (Calls x) ≡ block_with h (Free b v s) (Calls y)
free_calls g h a u t b v s x y p q e = let r = six _ _ _ _ _ _ _ _ _ _ _ _ e in same_block g h (Free a u t) (Free b v s) (Calls x) (Calls y) (naturals g h r.3) (free_same a u t b v s (naturals a b r.0) (naturals u v r.2) (naturals t s r.5)) (ap Calls (naturals x y r.1))

blocks_same : (g h : ℕ) (k l : Kind) (b c : Body ℤ) → BodyHas Wide b → BodyHas Wide c → body_json signed_decimal g k b ≡ body_json signed_decimal h l c → block_with g k b ≡ block_with h l c
blocks_same g h (With m1) (With m2) (Solved ss1 hs1) (Solved ss2 hs2) p q e = with_solved g h m1 m2 ss1 hs1 ss2 hs2 p q (same_values solved_keys (body_json signed_decimal g (With m1) (Solved ss1 hs1)) (body_json signed_decimal h (With m2) (Solved ss2 hs2)) _ _ refl refl e)
blocks_same g h (With m1) (With m2) (Solved ss1 hs1) (Refuted f2) p q e = apart solved_keys (body_json signed_decimal g (With m1) (Solved ss1 hs1)) (body_json signed_decimal h (With m2) (Refuted f2)) _ refl refl e
blocks_same g h (With m1) (With m2) (Solved ss1 hs1) (Calls n2) p q e = apart solved_keys (body_json signed_decimal g (With m1) (Solved ss1 hs1)) (body_json signed_decimal h (With m2) (Calls n2)) _ refl refl e
blocks_same g h (With m1) (Free a2 u2 t2) (Solved ss1 hs1) (Solved ss2 hs2) p q e = apart solved_keys (body_json signed_decimal g (With m1) (Solved ss1 hs1)) (body_json signed_decimal h (Free a2 u2 t2) (Solved ss2 hs2)) _ refl refl e
blocks_same g h (With m1) (Free a2 u2 t2) (Solved ss1 hs1) (Refuted f2) p q e = apart solved_keys (body_json signed_decimal g (With m1) (Solved ss1 hs1)) (body_json signed_decimal h (Free a2 u2 t2) (Refuted f2)) _ refl refl e
blocks_same g h (With m1) (Free a2 u2 t2) (Solved ss1 hs1) (Calls n2) p q e = apart solved_keys (body_json signed_decimal g (With m1) (Solved ss1 hs1)) (body_json signed_decimal h (Free a2 u2 t2) (Calls n2)) _ refl refl e
blocks_same g h (With m1) (With m2) (Refuted f1) (Solved ss2 hs2) p q e = apart (other_keys (codes "farkas")) (body_json signed_decimal g (With m1) (Refuted f1)) (body_json signed_decimal h (With m2) (Solved ss2 hs2)) _ refl refl e
blocks_same g h (With m1) (With m2) (Refuted f1) (Refuted f2) p q e = with_refuted g h m1 m2 f1 f2 p q (same_values (other_keys (codes "farkas")) (body_json signed_decimal g (With m1) (Refuted f1)) (body_json signed_decimal h (With m2) (Refuted f2)) _ _ refl refl e)
blocks_same g h (With m1) (With m2) (Refuted f1) (Calls n2) p q e = apart (other_keys (codes "farkas")) (body_json signed_decimal g (With m1) (Refuted f1)) (body_json signed_decimal h (With m2) (Calls n2)) _ refl refl e
blocks_same g h (With m1) (Free a2 u2 t2) (Refuted f1) (Solved ss2 hs2) p q e = apart (other_keys (codes "farkas")) (body_json signed_decimal g (With m1) (Refuted f1)) (body_json signed_decimal h (Free a2 u2 t2) (Solved ss2 hs2)) _ refl refl e
blocks_same g h (With m1) (Free a2 u2 t2) (Refuted f1) (Refuted f2) p q e = apart (other_keys (codes "farkas")) (body_json signed_decimal g (With m1) (Refuted f1)) (body_json signed_decimal h (Free a2 u2 t2) (Refuted f2)) _ refl refl e
blocks_same g h (With m1) (Free a2 u2 t2) (Refuted f1) (Calls n2) p q e = apart (other_keys (codes "farkas")) (body_json signed_decimal g (With m1) (Refuted f1)) (body_json signed_decimal h (Free a2 u2 t2) (Calls n2)) _ refl refl e
blocks_same g h (With m1) (With m2) (Calls n1) (Solved ss2 hs2) p q e = apart (other_keys (codes "calls")) (body_json signed_decimal g (With m1) (Calls n1)) (body_json signed_decimal h (With m2) (Solved ss2 hs2)) _ refl refl e
blocks_same g h (With m1) (With m2) (Calls n1) (Refuted f2) p q e = apart (other_keys (codes "calls")) (body_json signed_decimal g (With m1) (Calls n1)) (body_json signed_decimal h (With m2) (Refuted f2)) _ refl refl e
blocks_same g h (With m1) (With m2) (Calls n1) (Calls n2) p q e = with_calls g h m1 m2 n1 n2 p q (same_values (other_keys (codes "calls")) (body_json signed_decimal g (With m1) (Calls n1)) (body_json signed_decimal h (With m2) (Calls n2)) _ _ refl refl e)
blocks_same g h (With m1) (Free a2 u2 t2) (Calls n1) (Solved ss2 hs2) p q e = apart (other_keys (codes "calls")) (body_json signed_decimal g (With m1) (Calls n1)) (body_json signed_decimal h (Free a2 u2 t2) (Solved ss2 hs2)) _ refl refl e
blocks_same g h (With m1) (Free a2 u2 t2) (Calls n1) (Refuted f2) p q e = apart (other_keys (codes "calls")) (body_json signed_decimal g (With m1) (Calls n1)) (body_json signed_decimal h (Free a2 u2 t2) (Refuted f2)) _ refl refl e
blocks_same g h (With m1) (Free a2 u2 t2) (Calls n1) (Calls n2) p q e = apart (other_keys (codes "calls")) (body_json signed_decimal g (With m1) (Calls n1)) (body_json signed_decimal h (Free a2 u2 t2) (Calls n2)) _ refl refl e
blocks_same g h (Free a1 u1 t1) (With m2) (Solved ss1 hs1) (Solved ss2 hs2) p q e = apart solved_free_keys (body_json signed_decimal g (Free a1 u1 t1) (Solved ss1 hs1)) (body_json signed_decimal h (With m2) (Solved ss2 hs2)) _ refl refl e
blocks_same g h (Free a1 u1 t1) (With m2) (Solved ss1 hs1) (Refuted f2) p q e = apart solved_free_keys (body_json signed_decimal g (Free a1 u1 t1) (Solved ss1 hs1)) (body_json signed_decimal h (With m2) (Refuted f2)) _ refl refl e
blocks_same g h (Free a1 u1 t1) (With m2) (Solved ss1 hs1) (Calls n2) p q e = apart solved_free_keys (body_json signed_decimal g (Free a1 u1 t1) (Solved ss1 hs1)) (body_json signed_decimal h (With m2) (Calls n2)) _ refl refl e
blocks_same g h (Free a1 u1 t1) (Free a2 u2 t2) (Solved ss1 hs1) (Solved ss2 hs2) p q e = free_solved g h a1 u1 t1 a2 u2 t2 ss1 hs1 ss2 hs2 p q (same_values solved_free_keys (body_json signed_decimal g (Free a1 u1 t1) (Solved ss1 hs1)) (body_json signed_decimal h (Free a2 u2 t2) (Solved ss2 hs2)) _ _ refl refl e)
blocks_same g h (Free a1 u1 t1) (Free a2 u2 t2) (Solved ss1 hs1) (Refuted f2) p q e = apart solved_free_keys (body_json signed_decimal g (Free a1 u1 t1) (Solved ss1 hs1)) (body_json signed_decimal h (Free a2 u2 t2) (Refuted f2)) _ refl refl e
blocks_same g h (Free a1 u1 t1) (Free a2 u2 t2) (Solved ss1 hs1) (Calls n2) p q e = apart solved_free_keys (body_json signed_decimal g (Free a1 u1 t1) (Solved ss1 hs1)) (body_json signed_decimal h (Free a2 u2 t2) (Calls n2)) _ refl refl e
blocks_same g h (Free a1 u1 t1) (With m2) (Refuted f1) (Solved ss2 hs2) p q e = apart (other_free_keys (codes "farkas")) (body_json signed_decimal g (Free a1 u1 t1) (Refuted f1)) (body_json signed_decimal h (With m2) (Solved ss2 hs2)) _ refl refl e
blocks_same g h (Free a1 u1 t1) (With m2) (Refuted f1) (Refuted f2) p q e = apart (other_free_keys (codes "farkas")) (body_json signed_decimal g (Free a1 u1 t1) (Refuted f1)) (body_json signed_decimal h (With m2) (Refuted f2)) _ refl refl e
blocks_same g h (Free a1 u1 t1) (With m2) (Refuted f1) (Calls n2) p q e = apart (other_free_keys (codes "farkas")) (body_json signed_decimal g (Free a1 u1 t1) (Refuted f1)) (body_json signed_decimal h (With m2) (Calls n2)) _ refl refl e
blocks_same g h (Free a1 u1 t1) (Free a2 u2 t2) (Refuted f1) (Solved ss2 hs2) p q e = apart (other_free_keys (codes "farkas")) (body_json signed_decimal g (Free a1 u1 t1) (Refuted f1)) (body_json signed_decimal h (Free a2 u2 t2) (Solved ss2 hs2)) _ refl refl e
blocks_same g h (Free a1 u1 t1) (Free a2 u2 t2) (Refuted f1) (Refuted f2) p q e = free_refuted g h a1 u1 t1 a2 u2 t2 f1 f2 p q (same_values (other_free_keys (codes "farkas")) (body_json signed_decimal g (Free a1 u1 t1) (Refuted f1)) (body_json signed_decimal h (Free a2 u2 t2) (Refuted f2)) _ _ refl refl e)
blocks_same g h (Free a1 u1 t1) (Free a2 u2 t2) (Refuted f1) (Calls n2) p q e = apart (other_free_keys (codes "farkas")) (body_json signed_decimal g (Free a1 u1 t1) (Refuted f1)) (body_json signed_decimal h (Free a2 u2 t2) (Calls n2)) _ refl refl e
blocks_same g h (Free a1 u1 t1) (With m2) (Calls n1) (Solved ss2 hs2) p q e = apart (other_free_keys (codes "calls")) (body_json signed_decimal g (Free a1 u1 t1) (Calls n1)) (body_json signed_decimal h (With m2) (Solved ss2 hs2)) _ refl refl e
blocks_same g h (Free a1 u1 t1) (With m2) (Calls n1) (Refuted f2) p q e = apart (other_free_keys (codes "calls")) (body_json signed_decimal g (Free a1 u1 t1) (Calls n1)) (body_json signed_decimal h (With m2) (Refuted f2)) _ refl refl e
blocks_same g h (Free a1 u1 t1) (With m2) (Calls n1) (Calls n2) p q e = apart (other_free_keys (codes "calls")) (body_json signed_decimal g (Free a1 u1 t1) (Calls n1)) (body_json signed_decimal h (With m2) (Calls n2)) _ refl refl e
blocks_same g h (Free a1 u1 t1) (Free a2 u2 t2) (Calls n1) (Solved ss2 hs2) p q e = apart (other_free_keys (codes "calls")) (body_json signed_decimal g (Free a1 u1 t1) (Calls n1)) (body_json signed_decimal h (Free a2 u2 t2) (Solved ss2 hs2)) _ refl refl e
blocks_same g h (Free a1 u1 t1) (Free a2 u2 t2) (Calls n1) (Refuted f2) p q e = apart (other_free_keys (codes "calls")) (body_json signed_decimal g (Free a1 u1 t1) (Calls n1)) (body_json signed_decimal h (Free a2 u2 t2) (Refuted f2)) _ refl refl e
blocks_same g h (Free a1 u1 t1) (Free a2 u2 t2) (Calls n1) (Calls n2) p q e = free_calls g h a1 u1 t1 a2 u2 t2 n1 n2 p q (same_values (other_free_keys (codes "calls")) (body_json signed_decimal g (Free a1 u1 t1) (Calls n1)) (body_json signed_decimal h (Free a2 u2 t2) (Calls n2)) _ _ refl refl e)

block : Distinct (block_json signed_decimal) (BlockHas Wide)
block x y p q e = blocks_same x.task.group y.task.group x.task.kind y.task.kind x.body y.body p.body q.body e

scale_same : (t c u d : ℤ) (w v : Option ℤ) → Wide t → Wide c → FitsOption Wide w → Wide u → Wide d → FitsOption Wide v → scale_json signed_decimal t c w ≡ scale_json signed_decimal u d v → (t ≡ u) × (c ≡ d) × (w ≡ v)
scale_same t c u d None None p q r a b k e =
    let v = same_values (codes "cells" ∷ codes "ticks" ∷ []) _ _ (string (signed_decimal c) ∷ string (signed_decimal t) ∷ []) (string (signed_decimal d) ∷ string (signed_decimal u) ∷ []) refl refl e in
    let x = two _ _ _ _ v in
    (numbers t u p a (strings _ _ x.1), numbers c d q b (strings _ _ x.0), refl)
scale_same t c u d (Some w) (Some z) p q r a b k e =
    let v = same_values (codes "cells" ∷ codes "ticks" ∷ codes "work" ∷ []) _ _ (string (signed_decimal c) ∷ string (signed_decimal t) ∷ string (signed_decimal w) ∷ []) (string (signed_decimal d) ∷ string (signed_decimal u) ∷ string (signed_decimal z) ∷ []) refl refl e in
    let x = three _ _ _ _ _ _ v in
    (numbers t u p a (strings _ _ x.1), numbers c d q b (strings _ _ x.0), ap Some (numbers w z r k (strings _ _ x.2)))
scale_same t c u d None (Some z) p q r a b k e = apart (codes "cells" ∷ codes "ticks" ∷ []) (scale_json signed_decimal t c None) (scale_json signed_decimal u d (Some z)) _ refl refl e
scale_same t c u d (Some w) None p q r a b k e = apart (codes "cells" ∷ codes "ticks" ∷ codes "work" ∷ []) (scale_json signed_decimal t c (Some w)) (scale_json signed_decimal u d None) _ refl refl e

abbrev blocks_json : List (Block ℤ) → Data
blocks_json bs = list_json (map (block_json signed_decimal) bs)

abbrev whole : ℕ → ℤ → ℤ → Option ℤ → List (Block ℤ) → Certificate ℤ
whole n t c w bs = record { head = record { degree = n; ticks = t; cells = c; work = w }; blocks = bs }

same_whole : (n m : ℕ) (t u c d : ℤ) (w v : Option ℤ) (bs cs : List (Block ℤ)) → n ≡ m → t ≡ u → c ≡ d → w ≡ v → bs ≡ cs → whole n t c w bs ≡ whole m u d v cs
same_whole n m t u c d w v bs cs e1 e2 e3 e4 e5 = rw (e1, e2, e3, e4, e5) refl

-- what is written of two certificates tells them apart
pub certificates_same : (x y : Certificate ℤ) → CertificateHas Wide x → CertificateHas Wide y → certificate_json signed_decimal x ≡ certificate_json signed_decimal y → x ≡ y
certificates_same x y p q e =
    let v = same_values head_keys (certificate_json signed_decimal x) (certificate_json signed_decimal y)
    (blocks_json x.blocks ∷ natural x.head.degree ∷ scale_json signed_decimal x.head.ticks x.head.cells x.head.work ∷ natural (version x.head.work) ∷ [])
    (blocks_json y.blocks ∷ natural y.head.degree ∷ scale_json signed_decimal y.head.ticks y.head.cells y.head.work ∷ natural (version y.head.work) ∷ []) refl refl e in
    let f = four _ _ _ _ _ _ _ _ v in
    let s = scale_same x.head.ticks x.head.cells y.head.ticks y.head.cells x.head.work y.head.work p.ticks p.cells p.work q.ticks q.cells q.work f.2 in
    same_whole x.head.degree y.head.degree x.head.ticks y.head.ticks x.head.cells y.head.cells x.head.work y.head.work x.blocks y.blocks
    (naturals _ _ f.1) s.0 s.1 s.2 (lists (block_json signed_decimal) (BlockHas Wide) block x.blocks y.blocks p.blocks q.blocks f.0)

-- ---- what is read has numbers in range

wide : (z : ℤ) → InRange z → Wide z
wide (pos n) h = omega (arith, h.0, h.1)
wide (negsuc n) h = absurd h

every : {A : Type 0} {P Q : A → Type 0} → ((x : A) → P x → Q x) → (xs : List A) → Each P xs → Each Q xs
every h [] p = tt
every h (x ∷ xs) p = (h x p.0, every h xs p.1)

wide_entries : (es : Entries ℤ) → FitsList (FitsEntry InRange) es → EntriesHave Wide es
wide_entries es h = every (λ e k. record { position = k.position; number = wide e.1 k.number }) es h.each

wide_annot : (es : Entries ℤ) → FitsAnnot InRange es → EntriesHave Wide es
wide_annot es h = wide_entries es h.entries

wide_hint : (h : Hint ℤ) → FitsHint InRange h → HintHas Wide h
wide_hint (Let annots) h = every wide_annot annots h.each
wide_hint (Share annot) h = wide_annot annot h
wide_hint (Call uses) h = wide_entries uses h

wide_body : (b : Body ℤ) → FitsBody InRange b → BodyHas Wide b
wide_body (Solved sigs hints) h =
    (every (λ s k. record { args = wide_annot s.args k.args; result = wide_annot s.result k.result }) sigs h.0.each, every (λ hs k. every wide_hint hs k.each) hints h.1.each)
wide_body (Refuted farkas) h = wide_entries farkas h
wide_body (Calls fun) h = h

kind_fits : (work : Bool) (kind : Kind) → FitsKind work kind → KindFits kind
kind_fits work (Free budget fun target) h = h
kind_fits work (With meter) h = tt

wide_option : (o : Option ℤ) → FitsOption InRange o → FitsOption Wide o
wide_option None h = tt
wide_option (Some z) h = wide z h

wide_certificate : (d : Data) (c : Certificate ℤ) → HasParts d c → CertificateHas Wide c
wide_certificate d c h = record {
  ticks = wide c.head.ticks h.head.ticks;
  cells = wide c.head.cells h.head.cells;
  work = wide_option c.head.work h.head.work;
  blocks = every (λ b k. record { group = k.group; kind = kind_fits (with_work c.head) b.task.kind k.kind; body = wide_body b.body k.body }) c.blocks h.blocks.each;
}

-- the JSON of a certificate is that of no other one
pub read_is_written : (d : Data) (c other : Certificate ℤ) → HasParts d c → CertificateHas Wide other → d ≡ certificate_json signed_decimal other → c ≡ other
read_is_written d c other h k e = certificates_same c other (wide_certificate d c h) k (sym h.is ∙ e)
