-- Paying prices, and calls.
use Rattle.std.proofs.Common.{◌≡◌, ◌≤◌, ◌⊎◌, inr, ⊎_elim, ℕ, ◌+◌, ◌*◌, List, [], ◌∷◌, slice_get, Option, Some, None}
use Rattle.std.proofs.Common.{refl, sym, ap, ◌∙◌, subst, arith}
use Rattle.std.proofs.Math.Nat.{mul-le-mul_left}
use Rattle.raml_syntax.specs.Tree.{Type'}
use Rattle.raml_syntax.specs.Value.{Value, Has, HaveTypes}
use Rattle.raml_syntax.specs.Eval.{Run, done, costs, new_cell, goes_on, and_then, cut}
use Rattle.base_poly.specs.Indices.{index_list}
use Rattle.base_poly.specs.Base.{bases, total}
use Rattle.index_shift.specs.Potential.{Annotation, potential}
use Rattle.index_shift.proofs.Brought.{Each}
use Rattle.normal_spec.specs.Norm.{NormFun}
use Rattle.normal_spec.specs.Run.{NormEnv, values_at, NormCalls, spend}
use Rattle.normal_spec.specs.Uses.{Context, types, Takes, types_of}
use Rattle.cost_free.specs.declared.task.Meter.TheVariants.{Ticks, Cells, Work}
use Rattle.annot_types.specs.Certificate.{Entries, annotation, Sig, Block}
use Rattle.annot_types.specs.Signature.{sig_in, free_budget}
use Rattle.annot_types.specs.Carried.{Covers, less, more, rebudgeted, at_operands}
use Rattle.annot_types.specs.Rules.{Mode, With, Own, Past, Setting, Taken, price, refund, TakesOnce, AreMultiples, all_taken, asked, left}
use Rattle.rules_soundness_laws.specs.Enough.{owed, remaining, values, IsTyped, Enough}
use Rattle.rules_soundness_laws.proofs.Weighed.{weighed_total}
use Rattle.rules_soundness_laws.proofs.Carried.{to_keeps, covers_less, pays, pays_back}
use Rattle.rules_soundness_laws.proofs.Operands.{values_taken, operands_keep}
use Rattle.rules_soundness_laws.proofs.Steps.{Comes}

-- Prices

spread : (a b c : ℕ) → a * (b + c) ≡ b * a + a * c
spread a b c = grind arith

module _ (S : Setting) where
  owed_more : (m : Mode) (nodes ticks cells : ℕ) (whole part : Run Value) →
      whole.ticks ≡ ticks + part.ticks → whole.cells ≡ cells + part.cells → whole.work ≡ nodes + part.work →
      owed S.scale m whole ≡ price S m nodes ticks cells + owed S.scale m part
  owed_more (With Ticks) nodes ticks cells whole part t c w = ap (λ x. S.scale * x) t ∙ spread S.scale ticks part.ticks
  owed_more (With Cells) nodes ticks cells whole part t c w = ap (λ x. S.scale * x) c ∙ spread S.scale cells part.cells
  owed_more (With Work) nodes ticks cells whole part t c w = ap (λ x. S.scale * x) w ∙ spread S.scale nodes part.work
  owed_more Own nodes ticks cells whole part t c w = refl
  owed_more Past nodes ticks cells whole part t c w = refl

pub owed_cut : (scale : ℕ) (m : Mode) → owed scale m cut ≡ 0
owed_cut scale (With Ticks) = grind arith
owed_cut scale (With Cells) = grind arith
owed_cut scale (With Work) = grind arith
owed_cut scale Own = refl
owed_cut scale Past = refl

owed_done : (scale : ℕ) (m : Mode) (v : Value) → owed scale m (done v) ≡ 0
owed_done scale (With Ticks) v = grind arith
owed_done scale (With Cells) v = grind arith
owed_done scale (With Work) v = grind arith
owed_done scale Own v = refl
owed_done scale Past v = refl

pub owed_then : (scale : ℕ) (m : Mode) (ra : Run Value) (next : Value → Run Value) →
    owed scale m (and_then ra next) ≡ owed scale m ra + owed scale m (goes_on ra.out next)
owed_then scale (With Ticks) ra next = grind arith
owed_then scale (With Cells) ra next = grind arith
owed_then scale (With Work) ra next = grind arith
owed_then scale Own ra next = refl
owed_then scale Past ra next = refl

module _ (S : Setting) (m : Mode) (d : ℕ) (C : Context) (env : NormEnv) (typed : IsTyped C env) (T : Type') (r : Annotation) where
  -- the price is paid from the first number
  paid_by : (nodes ticks cells : ℕ) (q : Annotation) (whole part : Run Value) →
      whole.ticks ≡ ticks + part.ticks → whole.cells ≡ cells + part.cells → whole.work ≡ nodes + part.work → whole.out ≡ part.out →
      price S m nodes ticks cells ≤ q 0 → Enough S.scale m d C env (less (price S m nodes ticks cells) q) T r part → Enough S.scale m d C env q T r whole
  paid_by nodes ticks cells q whole part t c w o low h =
      let all = pays (types C) d (values env C) typed.typed (price S m nodes ticks cells) q low in
      let spent = owed_more S m nodes ticks cells whole part t c w in
      let same = ap (remaining T d r) o in omega (arith, h, all, spent, same)

  pub paid : (nodes : ℕ) (q : Annotation) (run : Run Value) → price S m nodes 0 0 ≤ q 0 → Enough S.scale m d C env (less (price S m nodes 0 0) q) T r run →
      Enough S.scale m d C env q T r (spend nodes run)
  paid nodes q run low h = paid_by nodes 0 0 q (spend nodes run) run (omega arith) (omega arith) refl refl low h

  pub paid_ticks : (nodes ticks : ℕ) (q : Annotation) (run : Run Value) → price S m nodes ticks 0 ≤ q 0 →
      Enough S.scale m d C env (less (price S m nodes ticks 0) q) T r run → Enough S.scale m d C env q T r (spend nodes (costs ticks 0 0 run))
  paid_ticks nodes ticks q run low h = paid_by nodes ticks 0 q (spend nodes (costs ticks 0 0 run)) run refl (omega arith) (omega arith) refl low h

  pub finished : (q : Annotation) (v : Value) → potential (T ∷ []) d r (v ∷ []) ≤ potential (types C) d q (values env C) → Enough S.scale m d C env q T r (done v)
  finished q v h = let none = owed_done S.scale m v in omega (arith, h, none)

  pub paid_cell : (nodes : ℕ) (q : Annotation) (v : Value) → price S m nodes 0 1 ≤ q 0 →
      potential (T ∷ []) d r (v ∷ []) ≤ potential (types C) d (less (price S m nodes 0 1) q) (values env C) → Enough S.scale m d C env q T r (spend nodes (new_cell v))
  paid_cell nodes q v low h = paid_by nodes 0 1 q (spend nodes (new_cell v)) (done v) (omega arith) (omega arith) (omega arith) refl low (finished (less (price S m nodes 0 1) q) v h)

  -- what is enough after a step is enough before it
  pub before : (q : Annotation) (D : Context) (later : NormEnv) (s : Annotation) (run : Run Value) → Comes C env d q D later s →
      Enough S.scale m d D later s T r run → Enough S.scale m d C env q T r run
  before q D later s run comes h = let low = comes.less in omega (arith, h, low)

-- Calls

-- what a signature at a budget asks at arguments, and what it leaves of an outcome
abbrev pub asks : NormFun → List Value → ℕ → Sig → ℕ
asks g vs budget s = potential (types_of g) budget (annotation s.args) vs

abbrev pub leaves : NormFun → Option Value → ℕ → Sig → ℕ
leaves g o budget s = remaining g.result budget (annotation s.result) o

-- what is asked for the signatures that a mode takes once is enough for the call, beside its refund
abbrev pub OnceEnough : Setting → Mode → NormFun → List Value → Run Value → List Sig → Type 0
OnceEnough S m g vs run sigs =
    (owed S.scale m run + refund S m) + total (leaves g run.out S.budget) sigs ≤ total (asks g vs S.budget) sigs

-- what a derivation in this mode relies on in the functions that it calls; at limit 0 a call is cut before it costs anything
pub record CallsPay (S : Setting) (m : Mode) (call : NormCalls) : Type 0 where
  pub keep : (f : ℕ) (g : NormFun) (vs : List Value) (v : Value) → slice_get S.program.funs f ≡ Some g → HaveTypes vs (types_of g) →
      (call f vs).out ≡ Some v → Has v g.result
  pub once : (f : ℕ) (g : NormFun) (vs : List Value) (sigs : List Sig) → slice_get S.program.funs f ≡ Some g → HaveTypes vs (types_of g) →
      TakesOnce S m f sigs → (call f vs ≡ cut) ⊎ OnceEnough S m g vs (call f vs) sigs
  pub free : (f : ℕ) (g : NormFun) (vs : List Value) → slice_get S.program.funs f ≡ Some g → HaveTypes vs (types_of g) →
      (k : ℕ) (block : Block) (budget : ℕ) (s : Sig) → slice_get S.earlier k ≡ Some block → free_budget block.task.kind ≡ Some budget →
      sig_in S.program block f ≡ Some s → leaves g (call f vs).out budget s ≤ asks g vs budget s

-- In mode Past nothing is taken once.
pub past_pays : (S : Setting) (m : Mode) (call : NormCalls) → CallsPay S m call → CallsPay S Past call
past_pays S m call h = record {
  keep = h.keep;
  once = λ f g vs sigs there typed none. inr (subst (OnceEnough S Past g vs (call f vs)) (sym none) (omega arith));
  free = h.free;
}

-- the context stands at the block's budget or more, and in mode Past at any
abbrev pub StandsAt : Setting → Mode → ℕ → Type 0
StandsAt S Past d = Unit {0}
StandsAt S mode d = S.budget ≤ d

module _ (S : Setting) where
  once_low : (m : Mode) (d : ℕ) → StandsAt S m d → (f : ℕ) (sigs : List Sig) → TakesOnce S m f sigs → Each (λ s. S.budget ≤ d) sigs
  once_low (With meter) d low f sigs h = all sigs
    where
      all : (sigs : List Sig) → Each (λ s. S.budget ≤ d) sigs
      all [] = tt
      all (s ∷ sigs) = (low, all sigs)
  once_low Own d low f sigs h = all sigs
    where
      all : (sigs : List Sig) → Each (λ s. S.budget ≤ d) sigs
      all [] = tt
      all (s ∷ sigs) = (low, all sigs)
  once_low Past d low f sigs h = subst (Each (λ s. S.budget ≤ d)) (sym h) tt

  -- a sum over all that is taken
  taken_sum : (h : ℕ → Sig → ℕ) (sigs : List Sig) (ts : List Taken) →
      total (λ (t : Taken). t.times * h t.budget t.sig) (all_taken S sigs ts) ≡ total (h S.budget) sigs + total (λ (t : Taken). t.times * h t.budget t.sig) ts
  taken_sum h [] ts = omega arith
  taken_sum h (s ∷ sigs) ts = let more = taken_sum h sigs ts in grind (arith, more)

  taken_low : (d : ℕ) (sigs : List Sig) (ts : List Taken) → Each (λ s. S.budget ≤ d) sigs → Each (λ (t : Taken). t.budget ≤ d) ts →
      Each (λ (t : Taken). t.budget ≤ d) (all_taken S sigs ts)
  taken_low d [] ts h g = g
  taken_low d (s ∷ sigs) ts h g = (h.0, taken_low d sigs ts h.1 g)

  multiples_low : (d f : ℕ) (ms : Entries) (ts : List Taken) → AreMultiples S d f ms ts → Each (λ (t : Taken). t.budget ≤ d) ts
  multiples_low d f [] [] h = tt
  multiples_low d f (e ∷ ms) (t ∷ ts) h = (h.0.low, multiples_low d f ms ts h.1)
  multiples_low d f _ _ h = absurd h

module _ (S : Setting) (m : Mode) (call : NormCalls) (calls : CallsPay S m call) (f : ℕ) (g : NormFun) (there : slice_get S.program.funs f ≡ Some g) where
  multiples_less : (vs : List Value) → HaveTypes vs (types_of g) → (d : ℕ) (ms : Entries) (ts : List Taken) → AreMultiples S d f ms ts →
      total (λ (t : Taken). t.times * leaves g (call f vs).out t.budget t.sig) ts ≤ total (λ (t : Taken). t.times * asks g vs t.budget t.sig) ts
  multiples_less vs typed d [] [] h = omega arith
  multiples_less vs typed d (e ∷ ms) (t ∷ ts) h =
      let one = mul-le-mul_left t.times (calls.free f g vs there typed e.0 h.0.block t.budget t.sig h.0.there h.0.free h.0.sig) in
      let rest = multiples_less vs typed d ms ts h.1 in omega (arith, one, rest)
  multiples_less vs typed d _ _ h = absurd h

  -- the context has what is asked, but for the refund
  asked_less : (d : ℕ) (C : Context) (env : NormEnv) → HaveTypes (values env C) (types C) → (xs : List ℕ) → Takes C xs (types_of g) →
      (n : ℕ) (q : Annotation) (ts : List Taken) → Each (λ (t : Taken). t.budget ≤ d) ts → Covers (types C) d (more n q) (asked S C xs (types_of g) d ts) →
      total (λ (t : Taken). t.times * asks g (values_at xs env) t.budget t.sig) ts ≤ n + potential (types C) d q (values env C)
  asked_less d C env typed xs takes n q ts low covers =
      let whole = covers_less (types C) d (values env C) (more n q) (asked S C xs (types_of g) d ts) covers in
      let sum = weighed_total (λ t. bases t (values env C)) (index_list (types C) d) (λ (t : Taken). t.times)
      (λ t. at_operands C xs (types_of g) t.budget d (annotation t.sig.args)) ts in
      let keep = each ts low in
      let back = pays_back (types C) d (values env C) typed n q in omega (arith, whole, sum, keep, back)
    where
      each : (ts : List Taken) → Each (λ (t : Taken). t.budget ≤ d) ts →
          total (λ (t : Taken). t.times * potential (types C) d (at_operands C xs (types_of g) t.budget d (annotation t.sig.args)) (values env C)) ts
          ≡ total (λ (t : Taken). t.times * asks g (values_at xs env) t.budget t.sig) ts
      each [] h = refl
      each (t ∷ ts) h = λ i. t.times * operands_keep env C xs (types_of g) takes t.budget d h.0 (annotation t.sig.args) i + each ts h.1 i

  -- what is left of the result is what is wanted of it
  left_more : (d : ℕ) (r : Annotation) (ts : List Taken) → Each (λ (t : Taken). t.budget ≤ d) ts → Covers (g.result ∷ []) d (left S g.result d ts) r → (o : Option Value) →
      remaining g.result d r o ≤ total (λ (t : Taken). t.times * leaves g o t.budget t.sig) ts
  left_more d r ts low covers None = omega arith
  left_more d r ts low covers (Some w) =
      let whole = covers_less (g.result ∷ []) d (w ∷ []) (left S g.result d ts) r covers in
      let sum = weighed_total (λ t. bases t (w ∷ [])) (index_list (g.result ∷ []) d) (λ (t : Taken). t.times)
      (λ t. rebudgeted (g.result ∷ []) t.budget d (annotation t.sig.result)) ts in
      let keep = each ts low in omega (arith, whole, sum, keep)
    where
      each : (ts : List Taken) → Each (λ (t : Taken). t.budget ≤ d) ts →
          total (λ (t : Taken). t.times * potential (g.result ∷ []) d (rebudgeted (g.result ∷ []) t.budget d (annotation t.sig.result)) (w ∷ [])) ts
          ≡ total (λ (t : Taken). t.times * leaves g (Some w) t.budget t.sig) ts
      each [] h = refl
      each (t ∷ ts) h = λ i.
          t.times * to_keeps (λ u. u) (g.result ∷ []) t.budget (g.result ∷ []) d (λ u k. (k.0, (let few = k.1 in let least = h.0 in omega (arith, few, least))))
          (w ∷ []) (w ∷ []) (λ u k. refl) (annotation t.sig.result) i + each ts h.1 i

  pub call_pays : (d : ℕ) → StandsAt S m d → (C : Context) (env : NormEnv) → HaveTypes (values env C) (types C) → (q : Annotation) (xs : List ℕ) → Takes C xs (types_of g) →
      (r : Annotation) (sigs : List Sig) → TakesOnce S m f sigs → (ms : Entries) (ts : List Taken) → AreMultiples S d f ms ts →
      Covers (types C) d (more (refund S m) q) (asked S C xs (types_of g) d (all_taken S sigs ts)) →
      Covers (g.result ∷ []) d (left S g.result d (all_taken S sigs ts)) r →
      Enough S.scale m d C env q g.result r (call f (values_at xs env))
  call_pays d stands C env typed q xs takes r sigs once ms ts named args result =
      let vs = values_at xs env in
      let has = values_taken env C xs (types_of g) takes typed in
      let low = taken_low S d sigs ts (once_low S m d stands f sigs once) (multiples_low S d f ms ts named) in
      let free = multiples_less vs has d ms ts named in
      let enough = asked_less d C env typed xs takes (refund S m) q (all_taken S sigs ts) low args in
      let wanted = left_more d r (all_taken S sigs ts) low result (call f vs).out in
      let all_asked = taken_sum S (asks g vs) sigs ts in
      let all_left = taken_sum S (leaves g (call f vs).out) sigs ts in
      ⊎_elim
      (λ e. subst (Enough S.scale m d C env q g.result r) (sym e) (let none = owed_cut S.scale m in omega (arith, none)))
      (λ pay. omega (arith, pay, free, enough, wanted, all_asked, all_left))
      (calls.once f g vs sigs there has once)
