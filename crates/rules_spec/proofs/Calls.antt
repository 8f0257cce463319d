-- The rule of a call holds exactly where its conditions do.
use Rattle.std.proofs.Common.{◌≡◌, refl, ap, sym, ◌∙◌, arith, subst}
use Rattle.std.specs.Prelude.{ℕ, max, unsigned_abs, zero, suc, ◌+◌, ◌*◌, ◌<◌, ◌≤◌, ◌==◌, if◌then◌else◌, Bool, true, false, cond, List, [], ◌∷◌, ◌++◌, map, length, slice_get, slice_index_or, Option, None, Some, Contains, option_to_list}
use Rattle.std.specs.List.{range_with_len}
use Rattle.std.proofs.lemmas.Int.{clamps}
use Rattle.std.proofs.lemmas.Bool.Decides.{nat_tests}
use Rattle.annot_types.proofs.Linear.{total_append}
use Rattle.raml_syntax.specs.Tree.{Type'}
use Rattle.base_poly.specs.Base.{total}
use Rattle.base_poly.specs.Indices.{index_list}
use Rattle.index_shift.specs.Potential.{Annotation}
use Rattle.index_shift.specs.Potential as i
use Rattle.index_shift.specs.Contexts.{permutes}
use Rattle.index_shift.specs.declared.entry.Entry.{Entry}
use Rattle.normal_spec.specs.Norm.{Norm, NormFun}
use Rattle.normal_spec.specs.Context.{Context, types}
use Rattle.annot_types.specs.Carried.{Covers, more, to, operand_places}
use Rattle.annot_types.specs.Program.{Program}
use Rattle.annot_types.specs.Certificate as cert
use Rattle.annot_types.specs.Certificate.{Entries, annotation, Annotates}
use Rattle.cost_free.specs.declared.task.Meter.{Meter}
use Rattle.cost_free.specs.declared.task.Meter.TheVariants.{Ticks, Cells, Work}
use Rattle.annot_types.specs.Rules.{Mode, With, Own, Past, Setting, Taken, CallRule, Ann, own_sig, paid_sig, TakesOnce, IsMultiple, AreMultiples, all_taken}
use Rattle.annot_types.specs.Rules as r
use Rattle.annot_types.specs.Rows.{size as size_of}
use Rattle.rules_spec.specs.Plan.{Called}
use Rattle.rules_spec.specs.Numbers.{Sides, Signature, Results, Copies, Multiples}
use Rattle.rules_spec.specs.Kinds.{Amount, amounts, AllMeet}
use Rattle.rules_spec.specs.Walk as w
use Rattle.rules_spec.specs.Walk.{only, numbered, at, at_zero, nothing, brought, multiples, numbers, against, walk}
use Rattle.annot_types.specs.Signature.{sig_in, free_budget, or_else, cost_sig}
use Rattle.annot_types.specs.System.{args_of}
use Rattle.rules_spec.specs.Planned.{entries_of, operand_entries, place_in, is_usable, usable_from, called}
use Rattle.rules_spec.specs.Stand.{known_in, Stands, AreMultiplesOf, Numbered, SidesStand, Reads}
use Rattle.rules_spec.proofs.Standing.{some_position, ranged, same_annotation, brought_stands, nothing_stands, covers_to, covers_from, behind_stands}
use Rattle.rules_spec.proofs.Agreed.{begun_tells}
use Rattle.rules_spec.proofs.Ruled.{Agrees, CallsTell, agree}

numbered_append : (path : List ℕ) (j : ℕ) (es fs : List (Amount × Amount)) → AllMeet (numbered path j es) → ((k : ℕ) → AllMeet (numbered path k fs)) → AllMeet (numbered path j (es ++ fs))
numbered_append path j [] fs h g = g j
numbered_append path j (e ∷ es) fs h g = (h.0, numbered_append path (suc j) es fs h.1 g)

numbered_front : (path : List ℕ) (j : ℕ) (es fs : List (Amount × Amount)) → AllMeet (numbered path j (es ++ fs)) → AllMeet (numbered path j es)
numbered_front path j [] fs h = tt
numbered_front path j (e ∷ es) fs h = (h.0, numbered_front path (suc j) es fs h.1)

numbered_back : (path : List ℕ) (j : ℕ) (es fs : List (Amount × Amount)) → AllMeet (numbered path j (es ++ fs)) → (k : ℕ) × AllMeet (numbered path k fs)
numbered_back path j [] fs h = (j, h)
numbered_back path j (e ∷ es) fs h = numbered_back path (suc j) es fs h.1

-- a multiple may be taken before it is moved
pub moved_times : (es : List Entry) (t : ℕ) (q : Annotation) (k : ℕ) → i.moved es (λ j. t * q j) k ≡ t * i.moved es q k
moved_times [] t q k = omega arith
moved_times (e ∷ es) t q k = by (moved_times es t q k) (e.to == k) where
  by : i.moved es (λ j. t * q j) k ≡ t * i.moved es q k → (c : Bool) → (if c then e.times * (t * q e.from) else 0) + i.moved es (λ j. t * q j) k ≡ t * ((if c then e.times * q e.from else 0) + i.moved es q k)
  by h true = grind (arith, h)
  by h false = grind (arith, h)

get_multiples : (x : Amount) (ns : List ℕ) (k : ℕ) → (at (amounts 1) (multiples (amounts 1) x ns) k).plus ≡ slice_index_or ns k 0 * x.plus
get_multiples x [] k = omega arith
get_multiples x (n ∷ ns) zero = refl
get_multiples x (n ∷ ns) (suc k) = get_multiples x ns k

get_multiples_minus : (x : Amount) (ns : List ℕ) (k : ℕ) → (at (amounts 1) (multiples (amounts 1) x ns) k).minus ≡ slice_index_or ns k 0 * x.minus
get_multiples_minus x [] k = omega arith
get_multiples_minus x (n ∷ ns) zero = refl
get_multiples_minus x (n ∷ ns) (suc k) = get_multiples_minus x ns k

length_multiples : (x : Amount) (ns : List ℕ) → length (multiples (amounts 1) x ns) ≡ length ns
length_multiples x [] = refl
length_multiples x (n ∷ ns) = ap suc (length_multiples x ns)

multiples_stand : (n t : ℕ) (ns : List ℕ) (q : Annotation) → Numbered n ns q → Stands n (multiples (amounts 1) (record { plus = t; minus = 0 }) ns) (λ k. t * q k)
multiples_stand n t ns q h = record {
  len = length_multiples _ ns ∙ h.len;
  is = λ k b. let e : slice_index_or ns k 0 * t ≡ t * q k = ap (λ z. z * t) (h.is k b) ∙ omega arith in
      omega (arith, get_multiples (record { plus = t; minus = 0 }) ns k, get_multiples_minus (record { plus = t; minus = 0 }) ns k, e);
}

get_numbers : (ns : List ℕ) (k : ℕ) → (at (amounts 1) (numbers (amounts 1) ns) k).plus ≡ slice_index_or ns k 0
get_numbers [] k = refl
get_numbers (n ∷ ns) zero = omega arith
get_numbers (n ∷ ns) (suc k) = get_numbers ns k

get_numbers_minus : (ns : List ℕ) (k : ℕ) → (at (amounts 1) (numbers (amounts 1) ns) k).minus ≡ 0
get_numbers_minus [] k = refl
get_numbers_minus (n ∷ ns) zero = refl
get_numbers_minus (n ∷ ns) (suc k) = get_numbers_minus ns k

length_numbers : (ns : List ℕ) → length (numbers (amounts 1) ns) ≡ length ns
length_numbers [] = refl
length_numbers (n ∷ ns) = ap suc (length_numbers ns)

numbers_stand : (n : ℕ) (ns : List ℕ) (q : Annotation) → Numbered n ns q → Stands n (numbers (amounts 1) ns) q
numbers_stand n ns q h = record { len = length_numbers ns ∙ h.len; is = λ k b. omega (arith, get_numbers ns k, get_numbers_minus ns k, h.is k b) }

-- rows where what a call gives back is taken from the right
back_to : (n : ℕ) (a c : List Amount) (q s : Annotation) (K : ℕ) (path : List ℕ) (j : ℕ) → Stands n a q → Stands n c s → ((k : ℕ) → k < n → s k ≤ more K q k) →
    AllMeet (numbered path j (against (amounts 1) a (at_zero ((amounts 1).less K) c)))
back_to n a [] q s K path j u v h = tt
back_to n [] (y ∷ c) q s K path j u v h = absurd (omega (arith, u.len, v.len))
back_to zero (x ∷ a) (y ∷ c) q s K path j u v h = absurd (omega (arith, u.len))
back_to (suc n) (x ∷ a) (y ∷ c) q s K path j u v h = (
  omega (arith, u.is 0 (omega arith), v.is 0 (omega arith), h 0 (omega arith)),
  covers_to n n a c (λ k. q (suc k)) (λ k. s (suc k)) path (suc j) (omega arith) (behind_stands n x a q u) (behind_stands n y c s v) (λ k b. h (suc k) (omega (arith, b))),
)

back_from : (n : ℕ) (a c : List Amount) (q s : Annotation) (K : ℕ) (path : List ℕ) (j : ℕ) → Stands n a q → Stands n c s → AllMeet (numbered path j (against (amounts 1) a (at_zero ((amounts 1).less K) c))) →
    (k : ℕ) → k < n → s k ≤ more K q k
back_from n a [] q s K path j u v h k b = absurd (omega (arith, b, v.len))
back_from n [] (y ∷ c) q s K path j u v h k b = absurd (omega (arith, u.len, v.len))
back_from zero (x ∷ a) (y ∷ c) q s K path j u v h k b = absurd (omega (arith, u.len))
back_from (suc n) (x ∷ a) (y ∷ c) q s K path j u v h zero b = omega (arith, u.is 0 (omega arith), v.is 0 (omega arith), h.0)
back_from (suc n) (x ∷ a) (y ∷ c) q s K path j u v h (suc k) b =
    covers_from n n a c (λ k. q (suc k)) (λ k. s (suc k)) path (suc j) (omega arith) (behind_stands n x a q u) (behind_stands n y c s v) h.1 k (omega (arith, b))

-- the blocks whose signatures may be taken
usable_is : (d : ℕ) (b : Option ℕ) (o : Option cert.Sig) → is_usable d b o ≡ true → (budget : ℕ) × (s : cert.Sig) × (b ≡ Some budget) × (o ≡ Some s) × (budget ≤ d)
usable_is d (Some budget) (Some s) h = (budget, s, refl, refl, grind (arith, nat_tests, h))
usable_is d (Some budget) None h = let no : false ≡ true = h in absurd (cc)
usable_is d None o h = let no : false ≡ true = h in absurd (cc)

usable_has : (P : Program) (d f : ℕ) (bs : List cert.Block) (from k : ℕ) → Contains (usable_from from P d f bs) k →
    (c : cert.Block) × (j : ℕ) × (k ≡ from + j) × (slice_get bs j ≡ Some c) × (is_usable d (free_budget c.task.kind) (sig_in P c f) ≡ true)
usable_has P d f [] from k h = absurd (omega (arith, h.1))
usable_has P d f (c ∷ bs) from k h = by (usable_has P d f bs (suc from) k) (is_usable d (free_budget c.task.kind) (sig_in P c f)) refl h where
  by : (Contains (usable_from (suc from) P d f bs) k → (c : cert.Block) × (j : ℕ) × (k ≡ suc from + j) × (slice_get bs j ≡ Some c) × (is_usable d (free_budget c.task.kind) (sig_in P c f) ≡ true)) →
      (o : Bool) → is_usable d (free_budget c.task.kind) (sig_in P c f) ≡ o → Contains (cond o (from ∷ usable_from (suc from) P d f bs) (usable_from (suc from) P d f bs)) k →
      (c' : cert.Block) × (j : ℕ) × (k ≡ from + j) × (slice_get (c ∷ bs) j ≡ Some c') × (is_usable d (free_budget c'.task.kind) (sig_in P c' f) ≡ true)
  by go false e g = let t = go g in (t.0, suc t.1, omega (arith, t.2), t.3, t.4)
  by go true e (zero, l, same) = (c, 0, omega (arith, same), refl, e)
  by go true e (suc j, l, same) = let t = go (j, omega (arith, l), same) in (t.0, suc t.1, omega (arith, t.2), t.3, t.4)

-- an item of a list that goes over a range
pub get_at : {X : Type 0} (h : ℕ → X) (other : X) (from n k : ℕ) → k < n → slice_index_or (map h (range_with_len from n)) k other ≡ h (from + k)
get_at h other from zero k l = absurd (omega (arith, l))
get_at h other from (suc n) zero l = ap h (omega arith)
get_at h other from (suc n) (suc k) l = get_at h other (from + 1) n k (omega (arith, l)) ∙ ap h (omega arith)

pub own_low : (b d : ℕ) → b ≤ max b d
own_low b d = omega (arith, clamps)

pub low_low : (a b d : ℕ) → a ≤ d → a ≤ max b d
low_low a b d h = omega (arith, clamps, h)

more_none : (q : Annotation) (k : ℕ) → more 0 q k ≡ q k
more_none q zero = omega arith
more_none q (suc k) = refl

same_some : {X : Type 0} (o : Option X) (x y : X) → o ≡ Some x → o ≡ Some y → x ≡ y
same_some o x y e f = cc

not_both : {X : Type 0} (o : Option X) (x : X) → o ≡ None → o ≡ Some x → ⊥
not_both {X = X} o x e f = let no : ◌≡◌ {A = Option X} None (Some x) = sym e ∙ f in absurd (cc)

module _ (S : Setting) (group : List (Sides Amount)) (free : ℕ → ℕ → Signature) (cost : Meter → ℕ → Option Signature) (reads : Reads S group free cost)
    (f : ℕ) (vs : List ℕ) (g : NormFun) (there : slice_get S.program.funs f ≡ Some g) (C : Context) (T : Type') (same : T ≡ g.result) (d : ℕ) where
  abbrev c : Called
  c = called S.program S.group S.earlier S.budget C f vs T d

  abbrev n : ℕ
  n = size_of (types C) d

  abbrev n' : ℕ
  n' = size_of (T ∷ []) d

  abbrev args_from : ℕ → List Entry
  args_from b = operand_entries C vs (types g.params) b d

  abbrev result_from : ℕ → List Entry
  result_from b = entries_of (to (λ t. t)) (T ∷ []) b (T ∷ []) d

  args_same : (b : ℕ) → b ≤ max S.budget d → slice_index_or c.args_from b [] ≡ args_from b
  args_same b l =
      get_at (λ b. operand_entries C vs (args_of (slice_get S.program.funs f)) b d) [] 0 (suc (max S.budget d)) b (omega (arith, l))
      ∙ ap (λ o. operand_entries C vs (args_of o) (0 + b) d) there ∙ ap args_from (omega arith)

  result_same : (b : ℕ) → b ≤ max S.budget d → slice_index_or c.result_from b [] ≡ result_from b
  result_same b l = get_at result_from [] 0 (suc (max S.budget d)) b (omega (arith, l)) ∙ ap result_from (omega arith)

  abbrev need : List Taken → Annotation
  need us k = total (λ (u : Taken). u.times * i.moved (args_from u.budget) (annotation u.sig.args) k) us

  abbrev gain : List Taken → Annotation
  gain us k = total (λ (u : Taken). u.times * i.moved (result_from u.budget) (annotation u.sig.result) k) us

  record Sums (s : Sides Amount) (us : List Taken) : Type 0 where
    args : Stands n s.args (need us)
    result : Stands n' s.result (gain us)

  -- one more signature
  more_taken : (budget t : ℕ) (sig : cert.Sig) (x : Sides Amount) (out : Sides Amount) (p p' : Annotation) → budget ≤ max S.budget d → Stands n out.args p → Stands n' out.result p' →
      Stands (size_of (types g.params) budget) x.args (λ k. t * annotation sig.args k) → Stands (size_of (g.result ∷ []) budget) x.result (λ k. t * annotation sig.result k) →
      Stands n (w.taken (amounts 1) (known_in S group free cost) c budget x out).args (λ k. p k + t * i.moved (args_from budget) (annotation sig.args) k)
      × Stands n' (w.taken (amounts 1) (known_in S group free cost) c budget x out).result (λ k. p' k + t * i.moved (result_from budget) (annotation sig.result) k)
  more_taken budget t sig x out p p' low u v h k =
      let qa = annotation sig.args in let qr = annotation sig.result in
      let one = brought_stands (size_of (types g.params) budget) n x.args (λ k. t * qa k) (args_from budget) out.args p (ranged (permutes (operand_places C vs)) (index_list (types g.params) budget) (index_list (types C) d)) h u in
      let two = brought_stands (size_of (T ∷ []) budget) n' x.result (λ k. t * qr k) (result_from budget) out.result p' (ranged (to (λ t. t)) (index_list (T ∷ []) budget) (index_list (T ∷ []) d))
      (subst (λ A. Stands (size_of (A ∷ []) budget) x.result (λ k. t * qr k)) (sym same) k) v in (
        subst (λ es. Stands n (brought (amounts 1) out.args es x.args) (λ k. p k + t * i.moved (args_from budget) qa k)) (sym (args_same budget low))
            (same_annotation n _ _ _ one (λ k b. omega (arith, moved_times (args_from budget) t qa k))),
        subst (λ es. Stands n' (brought (amounts 1) out.result es x.result) (λ k. p' k + t * i.moved (result_from budget) qr k)) (sym (result_same budget low))
            (same_annotation n' _ _ _ two (λ k b. omega (arith, moved_times (result_from budget) t qr k))),
      )

  -- all multiples
  used_stands : (xs : List (ℕ × Amount)) (ms : Entries) (us : List Taken) (out : Sides Amount) (p p' : Annotation) → Stands n out.args p → Stands n' out.result p' →
      AreMultiplesOf c.usable xs ms → AreMultiples S d f ms us →
      Stands n (w.used (amounts 1) (known_in S group free cost) c xs out).args (λ k. p k + need us k) × Stands n' (w.used (amounts 1) (known_in S group free cost) c xs out).result (λ k. p' k + gain us k)
  used_stands [] [] [] out p p' u v st h = (same_annotation n out.args p _ u (λ k b. omega arith), same_annotation n' out.result p' _ v (λ k b. omega arith))
  used_stands [] [] (e ∷ us) out p p' u v st h = absurd h
  used_stands [] (m ∷ ms) us out p p' u v st h = absurd st
  used_stands (x ∷ xs) [] us out p p' u v st h = absurd st
  used_stands (x ∷ xs) (m ∷ ms) [] out p p' u v st h = absurd h
  used_stands (x ∷ xs) (m ∷ ms) (e ∷ us) out p p' u v st h =
      let one_of = h.0 in let t = unsigned_abs m.1 in
      let s = free m.0 f in let stand = reads.free_is m.0 f e.budget g one_of.block e.sig there one_of.there one_of.free one_of.sig in
      let y : Amount = record { plus = t; minus = 0 } in let z = w.free_sides (amounts 1) (known_in S group free cost) s y in
      let qa = annotation e.sig.args in let qr = annotation e.sig.result in
      let ann = λ (k : ℕ). p k + t * i.moved (args_from e.budget) qa k in let ann' = λ (k : ℕ). p' k + t * i.moved (result_from e.budget) qr k in
      let one = more_taken e.budget t e.sig z out p p' (low_low e.budget S.budget d one_of.low) u v (multiples_stand _ t s.args qa stand.args) (multiples_stand _ t s.result qr stand.result) in
      let tk = λ (b : ℕ). w.taken (amounts 1) (known_in S group free cost) c b z out in
      let both = used_stands xs ms us (tk e.budget) ann ann' one.0 one.1 st.2 h.1 in
      let walked = λ (t : Sides Amount). w.used (amounts 1) (known_in S group free cost) c xs t in
      let goal = λ (t : Sides Amount). Stands n t.args (λ k. p k + need (e ∷ us) k) × Stands n' t.result (λ k. p' k + gain (e ∷ us) k) in
      let times : e.times ≡ t = one_of.times in
      let here : goal (walked (tk e.budget)) = (
        same_annotation n _ _ _ both.0 (λ k b. omega (arith, ap (λ t. t * i.moved (args_from e.budget) qa k) times)),
        same_annotation n' _ _ _ both.1 (λ k b. omega (arith, ap (λ t. t * i.moved (result_from e.budget) qr k) times)),
      ) in
      let there' : goal (walked (tk s.budget)) = subst (λ b. goal (walked (tk b))) (sym stand.budget_is) here in
      subst (λ (x : ℕ × Amount). goal (w.used (amounts 1) (known_in S group free cost) c (x ∷ xs) out)) (sym st.1) there'

  -- each multiple that is named is one of an earlier block
  named : (xs : List (ℕ × Amount)) (ms : Entries) → AreMultiplesOf c.usable xs ms → (us : List Taken) × AreMultiples S d f ms us
  named [] [] st = ([], tt)
  named [] (m ∷ ms) st = absurd st
  named (x ∷ xs) [] st = absurd st
  named (x ∷ xs) (m ∷ ms) st =
      let t = usable_has S.program d f S.earlier 0 m.0 st.0 in let rest = named xs ms st.2 in let at : m.0 ≡ t.1 = omega (arith, t.2) in
      let u = usable_is d (free_budget t.0.task.kind) (sig_in S.program t.0 f) t.4 in (
        record { budget = u.0; sig = u.1; times = unsigned_abs m.1 } ∷ rest.0,
        (record { block = t.0; there = ap (slice_get S.earlier) at ∙ t.3; free = u.2; low = u.4; sig = u.3; times = refl }, rest.1),
      )

  abbrev bl : List cert.Sig → List Taken
  bl ss = map (λ s. record { budget = S.budget; sig = s; times = 1 }) ss

  abbrev once : Mode → Option ℕ → Sides Amount
  once mode own = w.once (amounts 1) (known_in S group free cost) mode c own

  abbrev missing : Mode → Option ℕ → List (Amount × Amount)
  missing mode own = w.missing (amounts 1) (known_in S group free cost) mode c own

  record Base (mode : Mode) (own : Option ℕ) (ss : List cert.Sig) : Type 0 where
    none_missing : missing mode own ≡ []
    args : Stands n (once mode own).args (need (bl ss))
    result : Stands n' (once mode own).result (gain (bl ss))

  once_times : (m : ℕ) (a : List Amount) (q : Annotation) → Stands m a q → Stands m a (λ k. 1 * q k)
  once_times m a q s = same_annotation m a q (λ k. 1 * q k) s (λ k b. omega arith)

  base_one : (x : Sides Amount) (s : cert.Sig) → SidesStand g S.budget x s → (t : Sides Amount) → t ≡ w.taken (amounts 1) (known_in S group free cost) c S.budget x (w.none_taken (amounts 1) (known_in S group free cost) c) →
      Stands n t.args (need (bl (s ∷ []))) × Stands n' t.result (gain (bl (s ∷ [])))
  base_one x s h t e =
      let y = more_taken S.budget 1 s x (w.none_taken (amounts 1) (known_in S group free cost) c) (λ k. 0) (λ k. 0) (own_low S.budget d) (nothing_stands n) (nothing_stands n') (once_times _ x.args (annotation s.args) h.args) (once_times _ x.result (annotation s.result) h.result) in
      subst (λ (t : Sides Amount). Stands n t.args (need (bl (s ∷ []))) × Stands n' t.result (gain (bl (s ∷ [])))) (sym e)
      (same_annotation n _ _ _ y.0 (λ k b. omega arith), same_annotation n' _ _ _ y.1 (λ k b. omega arith))

  base_none : (mode : Mode) (own : Option ℕ) → missing mode own ≡ [] → once mode own ≡ w.none_taken (amounts 1) (known_in S group free cost) c → Base mode own []
  base_none mode own h e = record {
    none_missing = h;
    args = subst (λ (t : Sides Amount). Stands n t.args (need [])) (sym e) (nothing_stands n);
    result = subst (λ (t : Sides Amount). Stands n' t.result (gain [])) (sym e) (nothing_stands n');
  }

  base_stands : (mode : Mode) (own : Option ℕ) → place_in S.group f ≡ own → (ss : List cert.Sig) → TakesOnce S mode f ss → Base mode own ss
  base_stands Past own e ss h = subst (λ ss. Base Past own ss) (sym h) (base_none Past own refl refl)
  base_stands Own None e ss h = subst (λ ss. Base Own None ss) (sym (h ∙ ap option_to_list (reads.own_none f e))) (base_none Own None refl refl)
  base_stands Own (Some k) e ss h =
      let t = reads.own f k g there e in
      let y = base_one (w.group_sides (amounts 1) (known_in S group free cost) k) t.0 t.2 (once Own (Some k)) refl in
      subst (λ ss. Base Own (Some k) ss) (sym (h ∙ ap option_to_list t.1)) (record { none_missing = refl; args = y.0; result = y.1 })
  base_stands (With m) (Some k) e ss h =
      let t = reads.own f k g there e in
      let y = base_one (w.group_sides (amounts 1) (known_in S group free cost) k) t.0 t.2 (once (With m) (Some k)) refl in
      let one : t.0 ≡ h.0 = same_some (paid_sig S m f) t.0 h.0 (ap (λ o. or_else o (cost_sig S.program m S.earlier f)) t.1) h.1 in
      subst (λ ss. Base (With m) (Some k) ss) (ap (λ s. s ∷ []) one ∙ sym h.2) (record { none_missing = refl; args = y.0; result = y.1 })
  base_stands (With m) None e ss h = by (cost m f) refl where
    paid_is : paid_sig S m f ≡ cost_sig S.program m S.earlier f
    paid_is = ap (λ o. or_else o (cost_sig S.program m S.earlier f)) (reads.own_none f e)

    by : (o : Option Signature) → cost m f ≡ o → Base (With m) None ss
    by None z = absurd (not_both (paid_sig S m f) h.0 (paid_is ∙ reads.cost_none m f z) h.1)
    by (Some s) z =
        let t = reads.cost_some m f g s there z in
        let x = w.cost_sides (amounts 1) (known_in S group free cost) s in
        let y = base_one x t.0 (record { args = numbers_stand _ s.args (annotation t.0.args) t.2.args; result = numbers_stand _ s.result (annotation t.0.result) t.2.result })
        (once (With m) None) (ap (λ o. w.paid (amounts 1) (known_in S group free cost) c o) z
        ∙ ap (λ k. w.taken (amounts 1) (known_in S group free cost) c k x (w.none_taken (amounts 1) (known_in S group free cost) c)) t.2.budget_is) in
        let one : t.0 ≡ h.0 = same_some (paid_sig S m f) t.0 h.0 (paid_is ∙ t.1) h.1 in
        subst (λ ss. Base (With m) None ss) (ap (λ s. s ∷ []) one ∙ sym h.2)
        (record { none_missing = ap (w.unpaid (amounts 1) (known_in S group free cost)) z; args = y.0; result = y.1 })

  base_there : (mode : Mode) (own : Option ℕ) → place_in S.group f ≡ own → (path : List ℕ) (j : ℕ) → AllMeet (numbered path j (missing mode own)) → (ss : List cert.Sig) × TakesOnce S mode f ss
  base_there Past own e path j h = ([], refl)
  base_there Own own e path j h = (option_to_list (own_sig S f), refl)
  base_there (With m) (Some k) e path j h =
      let t = reads.own f k g there e in (t.0 ∷ [], (t.0, ap (λ o. or_else o (cost_sig S.program m S.earlier f)) t.1, refl))
  base_there (With m) None e path j h = by (cost m f) refl h where
    paid_is : paid_sig S m f ≡ cost_sig S.program m S.earlier f
    paid_is = ap (λ o. or_else o (cost_sig S.program m S.earlier f)) (reads.own_none f e)

    by : (o : Option Signature) → cost m f ≡ o → AllMeet (numbered path j (w.unpaid (amounts 1) (known_in S group free cost) o)) → (ss : List cert.Sig) × TakesOnce S (With m) f ss
    by None z h = absurd (omega (arith, h.0))
    by (Some s) z h = let t = reads.cost_some m f g s there z in (t.0 ∷ [], (t.0, paid_is ∙ t.1, refl))

  -- what all signatures bring
  sum_stands : (mode : Mode) (xs : List (ℕ × Amount)) (ms : Entries) (ss : List cert.Sig) (us : List Taken) → Base mode c.own ss → AreMultiplesOf c.usable xs ms → AreMultiples S d f ms us →
      Stands n (w.used (amounts 1) (known_in S group free cost) c xs (once mode c.own)).args (need (all_taken S ss us)) × Stands n' (w.used (amounts 1) (known_in S group free cost) c xs (once mode c.own)).result (gain (all_taken S ss us))
  sum_stands mode xs ms ss us base st h =
      let y = used_stands xs ms us (once mode c.own) (need (bl ss)) (gain (bl ss)) base.args base.result st h in
      (same_annotation n _ _ _ y.0 (λ k b. sym (total_append _ (bl ss) us)), same_annotation n' _ _ _ y.1 (λ k b. sym (total_append _ (bl ss) us)))

  -- rows against what is needed, with what the call gives back
  needs_to : (mode : Mode) (a : List Amount) (q s : Annotation) (t : Sides Amount) (path : List ℕ) (j : ℕ) → Stands n a q → Stands n t.args s → Covers (types C) d (more (r.refund S mode) q) s →
      AllMeet (numbered path j (against (amounts 1) a (w.refunded (amounts 1) (known_in S group free cost) mode t).args))
  needs_to (With Work) a q s t path j u v h = back_to n a t.args q s S.scale path j u v h
  needs_to (With Ticks) a q s t path j u v h = covers_to n n a t.args q s path j (omega arith) u v (λ k b. omega (arith, h k b, more_none q k))
  needs_to (With Cells) a q s t path j u v h = covers_to n n a t.args q s path j (omega arith) u v (λ k b. omega (arith, h k b, more_none q k))
  needs_to Own a q s t path j u v h = covers_to n n a t.args q s path j (omega arith) u v (λ k b. omega (arith, h k b, more_none q k))
  needs_to Past a q s t path j u v h = covers_to n n a t.args q s path j (omega arith) u v (λ k b. omega (arith, h k b, more_none q k))

  needs_from : (mode : Mode) (a : List Amount) (q s : Annotation) (t : Sides Amount) (path : List ℕ) (j : ℕ) → Stands n a q → Stands n t.args s →
      AllMeet (numbered path j (against (amounts 1) a (w.refunded (amounts 1) (known_in S group free cost) mode t).args)) → Covers (types C) d (more (r.refund S mode) q) s
  needs_from (With Work) a q s t path j u v h = back_from n a t.args q s S.scale path j u v h
  needs_from (With Ticks) a q s t path j u v h = λ k b. omega (arith, covers_from n n a t.args q s path j (omega arith) u v h k b, more_none q k)
  needs_from (With Cells) a q s t path j u v h = λ k b. omega (arith, covers_from n n a t.args q s path j (omega arith) u v h k b, more_none q k)
  needs_from Own a q s t path j u v h = λ k b. omega (arith, covers_from n n a t.args q s path j (omega arith) u v h k b, more_none q k)
  needs_from Past a q s t path j u v h = λ k b. omega (arith, covers_from n n a t.args q s path j (omega arith) u v h k b, more_none q k)

  result_is : (mode : Mode) (t : Sides Amount) → (w.refunded (amounts 1) (known_in S group free cost) mode t).result ≡ t.result
  result_is (With Ticks) t = refl
  result_is (With Cells) t = refl
  result_is (With Work) t = refl
  result_is Own t = refl
  result_is Past t = refl

  -- the rows of a call, and its rule
  pairs : Mode → List Amount → List Amount → List (ℕ × Amount) → List (Amount × Amount)
  pairs mode a cs xs = missing mode c.own ++ w.call_pairs (amounts 1) (known_in S group free cost) a cs (w.sums (amounts 1) (known_in S group free cost) mode c xs)

  rule_to : (mode : Mode) (a cs : List Amount) (q s : Annotation) (xs : List (ℕ × Amount)) (ms : Entries) (path : List ℕ) (j : ℕ) → Stands n a q → Stands n' cs s → AreMultiplesOf c.usable xs ms →
      CallRule S mode d C q f vs T s ms → AllMeet (numbered path j (pairs mode a cs xs))
  unfolding pairs
  rule_to mode a cs q s xs ms path j u v st h =
      let fun_is : h.fun ≡ g = same_some (slice_get S.program.funs f) h.fun g h.there there in
      let base = base_stands mode c.own refl h.once h.takes in
      let y = sum_stands mode xs ms h.once h.multiples base st h.named in
      let t = w.used (amounts 1) (known_in S group free cost) c xs (once mode c.own) in
      let args : Covers (types C) d (more (r.refund S mode) q) (need (all_taken S h.once h.multiples)) =
      subst (λ (fun : NormFun). Covers (types C) d (more (r.refund S mode) q) (r.asked S C vs (types fun.params) d (all_taken S h.once h.multiples))) fun_is h.args in
      numbered_append path j (missing mode c.own) _ (subst (λ es. AllMeet (numbered path j es)) (sym base.none_missing) tt)
      (λ k. numbered_append path k _ _ (needs_to mode a q (need (all_taken S h.once h.multiples)) t path k u y.0 args)
      (λ l. subst (λ es. AllMeet (numbered path l (against (amounts 1) es cs))) (sym (result_is mode t)) (covers_to n' n' t.result cs (gain (all_taken S h.once h.multiples)) s path l (omega arith) y.1 v h.result)))

  rule_from : (mode : Mode) (a cs : List Amount) (q s : Annotation) (xs : List (ℕ × Amount)) (ms : Entries) (path : List ℕ) (j : ℕ) → Stands n a q → Stands n' cs s → AreMultiplesOf c.usable xs ms →
      AllMeet (numbered path j (pairs mode a cs xs)) → CallRule S mode d C q f vs T s ms
  unfolding pairs
  rule_from mode a cs q s xs ms path j u v st h =
      let ss = base_there mode c.own refl path j (numbered_front path j (missing mode c.own) _ h) in
      let us = named xs ms st in
      let base = base_stands mode c.own refl ss.0 ss.1 in
      let y = sum_stands mode xs ms ss.0 us.0 base st us.1 in
      let t = w.used (amounts 1) (known_in S group free cost) c xs (once mode c.own) in
      let k = numbered_back path j (missing mode c.own) _ h in
      let l = numbered_back path k.0 (against (amounts 1) a (w.refunded (amounts 1) (known_in S group free cost) mode t).args) _ k.1 in
      record {
        fun = g;
        there = there;
        once = ss.0;
        takes = ss.1;
        multiples = us.0;
        named = us.1;
        args = needs_from mode a q (need (all_taken S ss.0 us.0)) t path k.0 u y.0 (numbered_front path k.0 _ _ k.1);
        result = covers_from n' n' t.result cs (gain (all_taken S ss.0 us.0)) s path l.0 (omega arith) y.1 v (subst (λ es. AllMeet (numbered path l.0 (against (amounts 1) es cs))) (result_is mode t) l.1);
      }

-- so calls tell
module _ (S : Setting) (group : List (Sides Amount)) (free : ℕ → ℕ → Signature) (cost : Meter → ℕ → Option Signature) (reads : Reads S group free cost) where
  calls_tell : CallsTell S group free cost
  unfolding pairs
  calls_tell wk f vs mode d C T q s a cs path [] out xs left us u v h = absurd h
  calls_tell wk f vs mode d C T q s a cs path (k ∷ hs) out [] left us u v h = absurd h
  calls_tell wk f vs mode d C T q s a cs path (cert.Let k ∷ hs) out (x ∷ xs) left us u v h = absurd h.0
  calls_tell wk f vs mode d C T q s a cs path (cert.Share k ∷ hs) out (x ∷ xs) left us u v h = absurd h.0
  calls_tell wk f vs mode d C T q s a cs path (cert.Call ms ∷ hs) out (Results k ∷ xs) left us u v h = absurd h.0
  calls_tell wk f vs mode d C T q s a cs path (cert.Call ms ∷ hs) out (Copies k ∷ xs) left us u v h = absurd h.0
  calls_tell wk f vs mode d C T q s a cs path (cert.Call ms ∷ hs) out (Multiples ys ∷ xs) left us u v h =
      begun_tells S group free cost wk mode path (size_of (types C) d) a q _ (λ p. CallRule S mode d C p f vs T s ms × (hs ≡ out)) (some_position (types C) d) u (λ j a' p s'. record {
        to = λ k. rule_to S group free cost reads f vs us.0 us.1 C T us.2 d mode a' cs p s ys ms path j s' v h.0 k.0;
        from = λ k. (rule_from S group free cost reads f vs us.0 us.1 C T us.2 d mode a' cs p s ys ms path j s' v h.0 k, h.1.0);
      })

  pub rules_are_conditions : (e : Norm) → Agrees S group free cost e
  rules_are_conditions e = agree S group free cost calls_tell e
