-- What the rules take of the hints is what the plan asks for.
use Rattle.std.proofs.Common.{◌≡◌, refl, ap, sym, ◌∙◌, arith, subst}
use Rattle.std.specs.Prelude.{ℕ, unsigned_abs, nat_le, zero, suc, ◌+◌, ◌-◌, ◌<◌, ◌≤◌, Bool, true, false, cond, List, [], ◌∷◌, ◌++◌, map, slice_get, Option, None, Some, All, Contains}
use Rattle.std.proofs.lemmas.List.Elements.{All-head, All-tail}
use Rattle.std.proofs.lemmas.Bool.Decides.{nat_tests}
use Rattle.raml_syntax.specs.Tree.{Type'}
use Rattle.base_poly.specs.Plain.{Plain, degrees}
use Rattle.base_poly.specs.Indices.{index_list}
use Rattle.index_shift.specs.Potential.{Annotation}
use Rattle.normal_spec.specs.Norm as n
use Rattle.normal_spec.specs.Norm.{Norm}
use Rattle.normal_spec.specs.Context.{Context, types, without, opened, parts_of, copies_of, inners, others}
use Rattle.annot_types.specs.Carried.{less, part}
use Rattle.annot_types.specs.Program.{Program}
use Rattle.annot_types.specs.Certificate as cert
use Rattle.annot_types.specs.Certificate.{Entries, annotation, Annotates}
use Rattle.annot_types.specs.Signature.{sig_in, free_budget}
use Rattle.annot_types.specs.Rows.{size as size_of}
use Rattle.annot_types.specs.Rules.{Mode, Past, Setting, Taken, CallRule, AreMultiples, Parts, Ann}
use Rattle.annot_types.specs.Rules as r
use Rattle.rules_spec.specs.Plan.{Plan, Part}
use Rattle.rules_spec.specs.Numbers.{Hint, Results, Copies, Multiples}
use Rattle.rules_spec.specs.Kinds.{Amount, amounts}
use Rattle.rules_spec.specs.Walk.{at}
use Rattle.rules_spec.specs.Asked.{Ask, ResultsOf, CopiesOf, MultiplesOf, asked, all_asked, each_asked}
use Rattle.rules_spec.specs.Planned.{is_usable, usable_from, lower, let_part, plan, called}
use Rattle.rules_spec.specs.Stand.{Stands, StandForEach, AreMultiplesOf, Answered}
use Rattle.rules_spec.specs.Laws.{RulesAsk}
use Rattle.rules_spec.proofs.Ruled.{lower_asked, low_degrees, annotates_within}

-- an annotation as entries
dense : ℕ → Annotation → List Amount
dense zero q = []
dense (suc k) q = record { plus = q 0; minus = 0 } ∷ dense k (λ j. q (suc j))

dense_stands : (k : ℕ) (q : Annotation) → Stands k (dense k q) q
unfolding dense
dense_stands zero q = record { len = refl; is = λ j h. absurd (omega (arith, h)) }
dense_stands (suc k) q = let s = dense_stands k (λ j. q (suc j)) in record { len = ap suc s.len; is = by s } where
  by : Stands k (dense k (λ j. q (suc j))) (λ j. q (suc j)) → (j : ℕ) → j < suc k → (at (amounts 1) (dense (suc k) q) j).plus ≡ q j + (at (amounts 1) (dense (suc k) q) j).minus
  by s zero h = omega arith
  by s (suc j) h = s.is j (omega (arith, h))

answered_append : (ks ls : List Ask) (hs : List cert.Hint) (xs ys : List (Hint Amount)) (mid out : List cert.Hint) (left : List (Hint Amount)) → Answered ks hs xs mid ys → Answered ls mid ys out left →
    Answered (ks ++ ls) hs xs out left
answered_append [] ls hs xs ys mid out left h g =
    subst (λ m. Answered ls m xs out left) (sym h.0) (subst (λ y. Answered ls mid y out left) (sym h.1) g)
answered_append (k ∷ ks) ls [] xs ys mid out left h g = absurd h
answered_append (k ∷ ks) ls (x ∷ hs) [] ys mid out left h g = absurd h
answered_append (k ∷ ks) ls (x ∷ hs) (y ∷ xs) ys mid out left h g = (h.0, answered_append ks ls hs xs ys mid out left h.1 g)

usable_there : (P : Program) (d f : ℕ) (bs : List cert.Block) (from j : ℕ) (c : cert.Block) → slice_get bs j ≡ Some c → is_usable d (free_budget c.task.kind) (sig_in P c f) ≡ true →
    Contains (usable_from from P d f bs) (from + j)
usable_there P d f [] from j c h g = let no : ◌≡◌ {A = Option cert.Block} None (Some c) = h in absurd (cc)
usable_there P d f (x ∷ bs) from zero c h g = by (is_usable d (free_budget x.task.kind) (sig_in P x f)) (ap (λ (y : cert.Block). is_usable d (free_budget y.task.kind) (sig_in P y f)) same ∙ g) where
  same : x ≡ c
  same = let e : Some x ≡ Some c = h in cc

  by : (o : Bool) → o ≡ true → Contains (cond o (from ∷ usable_from (suc from) P d f bs) (usable_from (suc from) P d f bs)) (from + 0)
  by false e = let no : false ≡ true = e in absurd (cc)
  by true e = (0, omega arith, omega arith)
usable_there P d f (x ∷ bs) from (suc j) c h g = by (usable_there P d f bs (suc from) j c h g) (is_usable d (free_budget x.task.kind) (sig_in P x f)) where
  by : Contains (usable_from (suc from) P d f bs) (suc from + j) → (o : Bool) → Contains (cond o (from ∷ usable_from (suc from) P d f bs) (usable_from (suc from) P d f bs)) (from + suc j)
  by t false = let e : suc from + j ≡ from + suc j = omega arith in subst (λ k. Contains (usable_from (suc from) P d f bs) k) e t
  by t true = let e : suc from + j ≡ from + suc j = omega arith in subst (λ k. Contains (from ∷ usable_from (suc from) P d f bs) k) e (suc t.0, omega (arith, t.1), t.2)

is_usable_so : (d budget : ℕ) (s : cert.Sig) (b : Option ℕ) (o : Option cert.Sig) → b ≡ Some budget → o ≡ Some s → budget ≤ d → is_usable d b o ≡ true
is_usable_so d budget s b o e f l = let t : nat_le budget d ≡ true = grind (arith, nat_tests, l) in (λ i. is_usable d (e i) (f i)) ∙ t

module _ (S : Setting) where
  multiples_asked : (d f : ℕ) (ms : Entries) (us : List Taken) → AreMultiples S d f ms us → (xs : List (ℕ × Amount)) × AreMultiplesOf (usable_from 0 S.program d f S.earlier) xs ms
  multiples_asked d f [] us h = ([], tt)
  multiples_asked d f (m ∷ ms) [] h = absurd h
  multiples_asked d f (m ∷ ms) (u ∷ us) h =
      let rest = multiples_asked d f ms us h.1 in let m' = h.0 in
      let there = usable_there S.program d f S.earlier 0 m.0 m'.block m'.there (is_usable_so d u.budget u.sig (free_budget m'.block.task.kind) (sig_in S.program m'.block f) m'.free m'.sig m'.low) in (
        (m.0, record { plus = unsigned_abs m.1; minus = 0 }) ∷ rest.0,
        (subst (λ k. Contains (usable_from 0 S.program d f S.earlier) k) (let e : 0 + m.0 ≡ m.0 = omega arith in e) there, refl, rest.1),
      )

  abbrev P : Norm → Context → Type' → ℕ → Plan
  P = plan S.program S.group S.earlier S.budget

  abbrev Asks : Norm → Type 0
  Asks e = (mode : Mode) (d : ℕ) (C : Context) (q : Annotation) (T : Type') (s : Annotation) (hs out : List cert.Hint) → Ann S mode d C q e T s hs out → (left : List (Hint Amount)) →
      (xs : List (Hint Amount)) × Answered (asked (P e C T d)) hs xs out left

  parts_ask : (a : Norm) → Asks a → (C : Context) (A : Type') (d : ℕ) (q : Annotation) (mode : Mode) (js : List (List Plain)) (rs : List Entries) (hs out : List cert.Hint) → All (λ j. degrees j ≤ d) js →
      Parts A d (λ m j s. Ann S m (d - degrees j) (inners a C) (part a C d j q) a A s) mode js rs hs out → (left : List (Hint Amount)) →
      (os : List (List Amount)) × StandForEach (map (λ (part : Part). part.size) (map (let_part a C A d) js)) os rs
      × ((xs : List (Hint Amount)) × Answered (each_asked (all_asked (lower (P a (inners a C) A) d)) (map (let_part a C A d) js)) hs xs out left)
  parts_ask a ih C A d q mode [] [] hs out low h left = ([], tt, (left, (h, refl)))
  parts_ask a ih C A d q mode [] (s ∷ rs) hs out low h left = absurd h
  parts_ask a ih C A d q mode (j ∷ js) [] hs out low h left = absurd h
  parts_ask a ih C A d q mode (j ∷ js) (s ∷ rs) hs out low h left =
      let rest = parts_ask a ih C A d q Past js rs h.0 out (All-tail (λ j. degrees j ≤ d) j js low) h.3 left in
      let first = ih mode (d - degrees j) (inners a C) (part a C d j q) A (annotation s) hs h.0 h.2 rest.2.0 in
      let b = d - degrees j in
      let ks = asked (P a (inners a C) A b) in let ls = each_asked (all_asked (lower (P a (inners a C) A) d)) (map (let_part a C A d) js) in (
        dense (size_of (A ∷ []) b) (annotation s) ∷ rest.0,
        ((annotates_within (A ∷ []) b s h.1, dense_stands (size_of (A ∷ []) b) (annotation s)), rest.1),
        (
          first.0,
          subst (λ (ks : List Ask). Answered (ks ++ ls) hs first.0 out left) (sym (lower_asked (P a (inners a C) A) d (degrees j) (All-head (λ j. degrees j ≤ d) j js low)))
              (answered_append ks ls hs first.0 rest.2.0 h.0 out left first.1 rest.2.1),
        ),
      )

  two_ask : (ks ls : List Ask) (hs mid out : List cert.Hint) (left : List (Hint Amount)) → ((left : List (Hint Amount)) → (xs : List (Hint Amount)) × Answered ks hs xs mid left) →
      (xs : List (Hint Amount)) × Answered ls mid xs out left → (xs : List (Hint Amount)) × Answered (ks ++ ls) hs xs out left
  two_ask ks ls hs mid out left f g = let x = f g.0 in (x.0, answered_append ks ls hs x.0 g.0 mid out left x.1 g.1)

  call_ask : (hs out : List cert.Hint) (ks : List ℕ) (rule : Entries → Type 0) (left : List (Hint Amount)) → ((ms : Entries) → rule ms → (xs : List (ℕ × Amount)) × AreMultiplesOf ks xs ms) →
      r.TakesCall hs (λ ms hs. rule ms × (hs ≡ out)) → (xs : List (Hint Amount)) × Answered (MultiplesOf ks ∷ []) hs xs out left
  call_ask [] out ks rule left f h = absurd h
  call_ask (cert.Let rs ∷ hs) out ks rule left f h = absurd h
  call_ask (cert.Share s ∷ hs) out ks rule left f h = absurd h
  call_ask (cert.Call ms ∷ hs) out ks rule left f h = let x = f ms h.0 in (Multiples x.0 ∷ left, (x.1, (h.1, refl)))

  share_ask : (hs out : List cert.Hint) (As : List Type') (d : ℕ) (ks : List Ask) (cover : Entries → Type 0) (rest : Entries → List cert.Hint → Type 0) (left : List (Hint Amount)) →
      ((s : Entries) (hs : List cert.Hint) → rest s hs → (xs : List (Hint Amount)) × Answered ks hs xs out left) → r.TakesShare hs (λ s hs. Annotates As d s × cover s × rest s hs) →
      (xs : List (Hint Amount)) × Answered (CopiesOf (size_of As d) ∷ ks) hs xs out left
  share_ask [] out As d ks cover rest left f h = absurd h
  share_ask (cert.Let rs ∷ hs) out As d ks cover rest left f h = absurd h
  share_ask (cert.Call ms ∷ hs) out As d ks cover rest left f h = absurd h
  share_ask (cert.Share s ∷ hs) out As d ks cover rest left f h =
      let x = f s hs h.2 in (Copies (dense (size_of As d) (annotation s)) ∷ x.0, ((annotates_within As d s h.0, dense_stands (size_of As d) (annotation s)), x.1))

  let_ask : (hs out : List cert.Hint) (ns : List ℕ) (ks : List Ask) (rule : List Entries → List cert.Hint → Type 0) (left : List (Hint Amount)) →
      ((rs : List Entries) (hs : List cert.Hint) → rule rs hs → (os : List (List Amount)) × StandForEach ns os rs × ((xs : List (Hint Amount)) × Answered ks hs xs out left)) → r.TakesLet hs rule →
      (xs : List (Hint Amount)) × Answered (ResultsOf ns ∷ ks) hs xs out left
  let_ask [] out ns ks rule left f h = absurd h
  let_ask (cert.Share s ∷ hs) out ns ks rule left f h = absurd h
  let_ask (cert.Call ms ∷ hs) out ns ks rule left f h = absurd h
  let_ask (cert.Let rs ∷ hs) out ns ks rule left f h = let x = f rs hs h in (Results x.0 ∷ x.2.0, (x.1, x.2.1))

  asks : (e : Norm) → Asks e
  asks (n.Var w x) mode d C q T s hs out h left = (left, (h.1, refl))
  asks (n.Number w k) mode d C q T s hs out h left = (left, (h.1, refl))
  asks (n.Truth w k) mode d C q T s hs out h left = (left, (h.1, refl))
  asks (n.Nil w) mode d C q T s hs out h left = (left, (h.1, refl))
  asks (n.Leaf w) mode d C q T s hs out h left = (left, (h.1, refl))
  asks (n.Nothing w) mode d C q T s hs out h left = (left, (h.1, refl))
  asks (n.Arith w op x y) mode d C q T s hs out h left = (left, (h.1, refl))
  asks (n.Compare w op x y) mode d C q T s hs out h left = (left, (h.1, refl))
  asks (n.Not w x) mode d C q T s hs out h left = (left, (h.1, refl))
  asks (n.Pair w x y) mode d C q T s hs out h left = (left, (h.1, refl))
  asks (n.Cons w x y) mode d C q T s hs out h left = (left, (h.1, refl))
  asks (n.Node w x y z) mode d C q T s hs out h left = (left, (h.1, refl))
  asks (n.Just w x) mode d C q T s hs out h left = (left, (h.1, refl))
  asks (n.Call w f xs) mode d C q T s hs out h left =
      call_ask hs out (called S.program S.group S.earlier S.budget C f xs T d).usable (λ ms. CallRule S mode d C (less (r.price S mode w 0 0) q) f xs T s ms) left (λ ms k. multiples_asked d f ms k.multiples k.named) h.1
  asks (n.Let w x A a e) mode d C q T s hs out h left =
      let js = index_list (types (others a C)) d in let D = others a C ++ (x, A) ∷ [] in
      let ks = each_asked (all_asked (lower (P a (inners a C) A) d)) (map (let_part a C A d) js) in
      let_ask hs out (map (λ (part : Part). part.size) (map (let_part a C A d) js)) (ks ++ asked (P e D T d)) _ left
      (λ rs hs g.
      let rest = asks e mode d D _ T s g.0 out g.2 left in
      let parts = parts_ask a (asks a) C A d (less (r.price S mode w 0 0) q) mode js rs hs g.0 (low_degrees (types (others a C)) d) g.1 rest.0 in
      (parts.0, parts.1, (parts.2.0, answered_append ks (asked (P e D T d)) hs parts.2.0 rest.0 g.0 out left parts.2.1 rest.1))) h.1
  asks (n.Split w x y z e) mode d C q T s hs out h left = asks e mode d _ _ T s hs out h.1 left
  asks (n.If w x a e) mode d C q T s hs out h left =
      two_ask (asked (P a (without x C) T d)) (asked (P e (without x C) T d)) hs h.1.0 out left (asks a mode d (without x C) _ T s hs h.1.0 h.1.1) (asks e mode d (without x C) _ T s h.1.0 out h.1.2 left)
  asks (n.CaseList w x a y z e) mode d C q T s hs out h left =
      two_ask (asked (P a (without x C) T d)) (asked (P e (opened x (y ∷ z ∷ []) parts_of C) T d)) hs h.1.0 out left (asks a mode d (without x C) _ T s hs h.1.0 h.1.1) (asks e mode d _ _ T s h.1.0 out h.1.2 left)
  asks (n.CaseTree w x a y z u e) mode d C q T s hs out h left =
      two_ask (asked (P a (without x C) T d)) (asked (P e (opened x (y ∷ z ∷ u ∷ []) parts_of C) T d)) hs h.1.0 out left (asks a mode d (without x C) _ T s hs h.1.0 h.1.1) (asks e mode d _ _ T s h.1.0 out h.1.2 left)
  asks (n.CaseOption w x a y e) mode d C q T s hs out h left =
      two_ask (asked (P a (without x C) T d)) (asked (P e (opened x (y ∷ []) parts_of C) T d)) hs h.1.0 out left (asks a mode d (without x C) _ T s hs h.1.0 h.1.1) (asks e mode d _ _ T s h.1.0 out h.1.2 left)
  asks (n.Tick w k e) mode d C q T s hs out h left = asks e mode d C _ T s hs out h.1 left
  asks (n.Share w x y z e) mode d C q T s hs out h left =
      share_ask hs out (types (opened x (y ∷ z ∷ []) copies_of C)) d (asked (P e (opened x (y ∷ z ∷ []) copies_of C) T d)) _ _ left (λ p hs g. asks e mode d (opened x (y ∷ z ∷ []) copies_of C) (annotation p) T s hs out g left) h.1
  asks (n.Drop w x e) mode d C q T s hs out h left = asks e mode d (without x C) _ T s hs out h.1 left

pub rules_ask : RulesAsk
rules_ask S e = asks S e
