-- A derivation with all its numbers times u.
use Rattle.std.proofs.Common.{◌≡◌, ◌≤◌, ℕ, zero, suc, ◌+◌, ◌-◌, ◌*◌, ℤ, pos, ◌*ℤ◌, Bool, true, false, nat_eq, cond, List, []}
use Rattle.std.proofs.Common.{◌∷◌, ◌++◌, map, slice_get, Option, None, Some, refl, arith, ap, sym, ◌∙◌, subst}
use Rattle.std.specs.Option.{option_map, option_to_list}
use Rattle.std.proofs.Math.Nat.{mul-le-mul_left}
use Rattle.std.proofs.lemmas.Int.{unsigned_abs-mul}
use Rattle.std.proofs.lemmas.Option.{same_Some}
use Rattle.raml_syntax.specs.Tree.{Type'}
use Rattle.base_poly.specs.Plain.{Plain, degrees}
use Rattle.base_poly.specs.Base.{total}
use Rattle.index_shift.specs.Potential.{Annotation}
use Rattle.normal_spec.specs.Context.{Context, types}
use Rattle.cost_free.specs.declared.task.Meter.{Meter}
use Rattle.cost_free.specs.Blocked.{is_for_meter}
use Rattle.annot_types.specs.Program.{Program}
use Rattle.annot_types.specs.Certificate.{Entries, annotation, Sig, Hint, Let, Share, Call, Block}
use Rattle.annot_types.specs.Signature.{sig_among, sig_in, free_budget, or_else, cost_sig}
use Rattle.annot_types.specs.Carried.{Covers, less, more, rebudgeted, at_operands}
use Rattle.annot_types.specs.Rules.{Mode, With, Own, Past, Setting, Taken, TakesLet, TakesShare, TakesCall, Parts, price, Pays, refund}
use Rattle.annot_types.specs.Rules.{own_sig, TakesOnce, IsMultiple, AreMultiples, all_taken, asked, left, CallRule}
use Rattle.annot_types.specs.Holds.{times, times_sig, times_hint}
use Rattle.annot_types.proofs.Linear.{mul, distrib, swap, less_mul, more_mul, covers_mul, at_operands_mul}
use Rattle.annot_types.proofs.Linear.{annotation_mul, annotates_mul, rebudgeted_mul}

abbrev pub times_hints : ℕ → List Hint → List Hint
times_hints u hs = map (times_hint u) hs

-- Two blocks of one task: the signatures of a cost-free one are the same, and those of one of the mode's meter are multiplied.
pub record BlockTimes (u : ℕ) (P : Program) (m : Mode) (b c : Block) : Type 0 where
  pub task : c.task ≡ b.task
  pub free : (budget : ℕ) → free_budget b.task.kind ≡ Some budget → (f : ℕ) → sig_in P c f ≡ sig_in P b f
  pub cost : (meter : Meter) → m ≡ With meter → is_for_meter meter b.task.kind ≡ true → (f : ℕ) → sig_in P c f ≡ option_map (times_sig u) (sig_in P b f)

abbrev pub BlocksTimes : ℕ → Program → Mode → List Block → List Block → Type 0
BlocksTimes u P m [] [] = Unit {0}
BlocksTimes u P m (b ∷ bs) (c ∷ cs) = BlockTimes u P m b c × BlocksTimes u P m bs cs
BlocksTimes u P m _ _ = ⊥

-- the setting with these earlier blocks and this scale, and the group's own signatures times u
abbrev pub times_setting : ℕ → Setting → List Block → ℕ → Setting
times_setting u S earlier scale = record {
  program = S.program;
  earlier = earlier;
  group = S.group;
  sigs = map (times_sig u) S.sigs;
  budget = S.budget;
  scale = scale;
}

-- In this mode all that a derivation takes from its setting is multiplied.
pub record SettingTimes (u : ℕ) (m : Mode) (S : Setting) (earlier : List Block) (scale : ℕ) : Type 0 where
  pub blocks : BlocksTimes u S.program m S.earlier earlier
  pub prices : (nodes ticks cells : ℕ) → price (times_setting u S earlier scale) m nodes ticks cells ≡ u * price S m nodes ticks cells
  pub refunds : refund (times_setting u S earlier scale) m ≡ u * refund S m

nothing : (u : ℕ) → 0 ≡ u * 0
nothing u = grind arith

past_blocks : (u : ℕ) (P : Program) (m : Mode) (bs cs : List Block) → BlocksTimes u P m bs cs → BlocksTimes u P Past bs cs
past_blocks u P m [] [] h = tt
past_blocks u P m [] (c ∷ cs) h = absurd h
past_blocks u P m (b ∷ bs) [] h = absurd h
past_blocks u P m (b ∷ bs) (c ∷ cs) h =
    (record { task = h.0.task; free = h.0.free; cost = λ meter e. absurd (cc) }, past_blocks u P m bs cs h.1)

pub past_times : (u : ℕ) (m : Mode) (S : Setting) (earlier : List Block) (scale : ℕ) → SettingTimes u m S earlier scale → SettingTimes u Past S earlier scale
past_times u m S earlier scale h = record { blocks = past_blocks u S.program m S.earlier earlier h.blocks; prices = λ n t c. nothing u; refunds = nothing u }

pub sig_among_times : (u : ℕ) (gs : List ℕ) (ss : List Sig) (f : ℕ) → sig_among gs (map (times_sig u) ss) f ≡ option_map (times_sig u) (sig_among gs ss f)
sig_among_times u [] ss f = refl
sig_among_times u (g ∷ gs) [] f = refl
sig_among_times u (g ∷ gs) (s ∷ ss) f = at (nat_eq f g) (sig_among_times u gs ss f)
  where
    at : (b : Bool) → sig_among gs (map (times_sig u) ss) f ≡ option_map (times_sig u) (sig_among gs ss f) →
        cond b (Some (times_sig u s)) (sig_among gs (map (times_sig u) ss) f) ≡ option_map (times_sig u) (cond b (Some s) (sig_among gs ss f))
    at true rest = refl
    at false rest = rest

or_else_times : (u : ℕ) (a b : Option Sig) → or_else (option_map (times_sig u) a) (option_map (times_sig u) b) ≡ option_map (times_sig u) (or_else a b)
or_else_times u None b = refl
or_else_times u (Some s) b = refl

pub cost_times : (u : ℕ) (P : Program) (meter : Meter) (bs cs : List Block) → BlocksTimes u P (With meter) bs cs → (f : ℕ) →
    cost_sig P meter cs f ≡ option_map (times_sig u) (cost_sig P meter bs f)
cost_times u P meter [] [] h f = refl
cost_times u P meter [] (c ∷ cs) h f = absurd h
cost_times u P meter (b ∷ bs) [] h f = absurd h
cost_times u P meter (b ∷ bs) (c ∷ cs) h f =
    (λ i. or_else (cond (is_for_meter meter (h.0.task i).kind) (sig_in P c f) None) (cost_times u P meter bs cs h.1 f i))
    ∙ at (is_for_meter meter b.task.kind) refl
  where
    at : (on : Bool) → is_for_meter meter b.task.kind ≡ on →
        or_else (cond on (sig_in P c f) None) (option_map (times_sig u) (cost_sig P meter bs f)) ≡ option_map (times_sig u) (or_else (cond on (sig_in P b f) None) (cost_sig P meter bs f))
    at true e = ap (λ o. or_else o (option_map (times_sig u) (cost_sig P meter bs f))) (h.0.cost meter refl e f) ∙ or_else_times u (sig_in P b f) (cost_sig P meter bs f)
    at false e = refl

pub record Found (u : ℕ) (P : Program) (m : Mode) (cs : List Block) (k : ℕ) (b : Block) : Type 0 where
  pub block : Block
  pub there : slice_get cs k ≡ Some block
  pub times : BlockTimes u P m b block

found : (u : ℕ) (P : Program) (m : Mode) (bs cs : List Block) → BlocksTimes u P m bs cs → (k : ℕ) (b : Block) → slice_get bs k ≡ Some b → Found u P m cs k b
found u P m [] cs h k b there = absurd (cc)
found u P m (x ∷ bs) [] h k b there = absurd h
found u P m (x ∷ bs) (c ∷ cs) h zero b there = subst (Found u P m (c ∷ cs) 0) (same_Some x b there) (record { block = c; there = refl; times = h.0 })
found u P m (x ∷ bs) (c ∷ cs) h (suc k) b there = let f = found u P m bs cs h.1 k b there in record { block = f.block; there = f.there; times = f.times }

-- a multiple that is taken u times as often
abbrev times_taken : ℕ → Taken → Taken
times_taken u t = record { budget = t.budget; sig = t.sig; times = u * t.times }

module _ (u : ℕ) (m : Mode) (S : Setting) (earlier : List Block) (scale : ℕ) (h : SettingTimes u m S earlier scale) where
  multiple_times : (d f : ℕ) (named : ℕ × ℤ) (t : Taken) → IsMultiple S d f named t →
      IsMultiple (times_setting u S earlier scale) d f (named.0, pos u *ℤ named.1) (times_taken u t)
  multiple_times d f named t is =
      let b = found u S.program m S.earlier earlier h.blocks named.0 is.block is.there in
      record {
        block = b.block;
        there = b.there;
        free = ap (λ task. free_budget task.kind) b.times.task ∙ is.free;
        low = is.low;
        sig = b.times.free t.budget is.free f ∙ is.sig;
        times = ap (λ n. u * n) is.times ∙ sym (unsigned_abs-mul (pos u) named.1);
      }

  named_times : (d f : ℕ) (ms : Entries) (ts : List Taken) → AreMultiples S d f ms ts →
      AreMultiples (times_setting u S earlier scale) d f (times u ms) (map (times_taken u) ts)
  named_times d f [] [] are = tt
  named_times d f [] (t ∷ ts) are = absurd are
  named_times d f (x ∷ ms) [] are = absurd are
  named_times d f (x ∷ ms) (t ∷ ts) are = (multiple_times d f x t are.0, named_times d f ms ts are.1)

list_times : (u : ℕ) (o : Option Sig) → map (times_sig u) (option_to_list o) ≡ option_to_list (option_map (times_sig u) o)
list_times u None = refl
list_times u (Some s) = refl

once_times : (u : ℕ) (m : Mode) (S : Setting) (earlier : List Block) (scale : ℕ) → SettingTimes u m S earlier scale → (f : ℕ) (once : List Sig) →
    TakesOnce S m f once → TakesOnce (times_setting u S earlier scale) m f (map (times_sig u) once)
once_times u (With meter) S earlier scale h f once takes = (
  times_sig u takes.0,
  (λ i. or_else (sig_among_times u S.group S.sigs f i) (cost_times u S.program meter S.earlier earlier h.blocks f i))
      ∙ or_else_times u (own_sig S f) (cost_sig S.program meter S.earlier f)
      ∙ ap (option_map (times_sig u)) takes.1,
  ap (map (times_sig u)) takes.2,
)
once_times u Own S earlier scale h f once takes =
    ap (map (times_sig u)) takes ∙ list_times u (own_sig S f) ∙ ap option_to_list (sym (sig_among_times u S.group S.sigs f))
once_times u Past S earlier scale h f once takes = ap (map (times_sig u)) takes

-- what is taken is worth u times as much
all_times : (u budget : ℕ) (worth : Taken → ℕ) →
    ((s : Sig) → worth (record { budget = budget; sig = times_sig u s; times = 1 }) ≡ u * worth (record { budget = budget; sig = s; times = 1 })) →
    ((t : Taken) → worth (times_taken u t) ≡ u * worth t) → (once : List Sig) (ts : List Taken) →
    total worth (map (λ s. record { budget = budget; sig = s; times = 1 }) (map (times_sig u) once) ++ map (times_taken u) ts)
    ≡ u * total worth (map (λ s. record { budget = budget; sig = s; times = 1 }) once ++ ts)
all_times u budget worth of_sig of_taken [] [] = nothing u
all_times u budget worth of_sig of_taken [] (t ∷ ts) =
    (λ i. of_taken t i + all_times u budget worth of_sig of_taken [] ts i) ∙ distrib u (worth t) (total worth ts)
all_times u budget worth of_sig of_taken (s ∷ once) ts =
    (λ i. of_sig s i + all_times u budget worth of_sig of_taken once ts i)
    ∙ distrib u (worth (record { budget = budget; sig = s; times = 1 })) (total worth (map (λ s. record { budget = budget; sig = s; times = 1 }) once ++ ts))

group_left : (u n x : ℕ) → (u * n) * x ≡ u * (n * x)
group_left u n x = grind arith

module _ (u : ℕ) (S : Setting) (earlier : List Block) (scale : ℕ) (once : List Sig) (ts : List Taken) where
  asked_times : (C : Context) (xs : List ℕ) (As : List Type') (d : ℕ) →
      asked (times_setting u S earlier scale) C xs As d (all_taken (times_setting u S earlier scale) (map (times_sig u) once) (map (times_taken u) ts))
      ≡ mul u (asked S C xs As d (all_taken S once ts))
  asked_times C xs As d = λ i k. at k i
    where
      of_sig : (k : ℕ) (s : Sig) → 1 * at_operands C xs As S.budget d (annotation (times u s.args)) k ≡ u * (1 * at_operands C xs As S.budget d (annotation s.args) k)
      of_sig k s =
          (λ i. 1 * at_operands C xs As S.budget d (annotation_mul u s.args i) k)
          ∙ (λ i. 1 * at_operands_mul u C xs As S.budget d (annotation s.args) i k)
          ∙ swap u 1 (at_operands C xs As S.budget d (annotation s.args) k)

      at : (k : ℕ) → asked (times_setting u S earlier scale) C xs As d (all_taken (times_setting u S earlier scale) (map (times_sig u) once) (map (times_taken u) ts)) k
          ≡ u * asked S C xs As d (all_taken S once ts) k
      at k = all_times u S.budget (λ (t : Taken). t.times * at_operands C xs As t.budget d (annotation t.sig.args) k) (of_sig k)
          (λ t. group_left u t.times (at_operands C xs As t.budget d (annotation t.sig.args) k)) once ts

  left_times : (T : Type') (d : ℕ) →
      left (times_setting u S earlier scale) T d (all_taken (times_setting u S earlier scale) (map (times_sig u) once) (map (times_taken u) ts))
      ≡ mul u (left S T d (all_taken S once ts))
  left_times T d = λ i k. at k i
    where
      of_sig : (k : ℕ) (s : Sig) → 1 * rebudgeted (T ∷ []) S.budget d (annotation (times u s.result)) k ≡ u * (1 * rebudgeted (T ∷ []) S.budget d (annotation s.result) k)
      of_sig k s =
          (λ i. 1 * rebudgeted (T ∷ []) S.budget d (annotation_mul u s.result i) k)
          ∙ (λ i. 1 * rebudgeted_mul u (T ∷ []) S.budget d (annotation s.result) i k)
          ∙ swap u 1 (rebudgeted (T ∷ []) S.budget d (annotation s.result) k)

      at : (k : ℕ) → left (times_setting u S earlier scale) T d (all_taken (times_setting u S earlier scale) (map (times_sig u) once) (map (times_taken u) ts)) k
          ≡ u * left S T d (all_taken S once ts) k
      at k = all_times u S.budget (λ (t : Taken). t.times * rebudgeted (T ∷ []) t.budget d (annotation t.sig.result) k) (of_sig k)
          (λ t. group_left u t.times (rebudgeted (T ∷ []) t.budget d (annotation t.sig.result) k)) once ts

pub call_times : (u : ℕ) (m : Mode) (S : Setting) (earlier : List Block) (scale : ℕ) → SettingTimes u m S earlier scale →
    (d : ℕ) (C : Context) (q : Annotation) (f : ℕ) (xs : List ℕ) (T : Type') (r : Annotation) (hint : Entries) →
    CallRule S m d C q f xs T r hint → CallRule (times_setting u S earlier scale) m d C (mul u q) f xs T (mul u r) (times u hint)
call_times u m S earlier scale h d C q f xs T r hint rule =
    let more_q : mul u (more (refund S m) q) ≡ more (refund (times_setting u S earlier scale) m) (mul u q) =
    sym (more_mul u (refund S m) q) ∙ ap (λ n. more n (mul u q)) (sym h.refunds) in
    let once = map (times_sig u) rule.once in
    let multiples = map (times_taken u) rule.multiples in
    record {
      fun = rule.fun;
      there = rule.there;
      once = once;
      takes = once_times u m S earlier scale h f rule.once rule.takes;
      multiples = multiples;
      named = named_times u m S earlier scale h d f hint rule.multiples rule.named;
      args = subst (λ q. Covers (types C) d q (asked (times_setting u S earlier scale) C xs (types rule.fun.params) d (all_taken (times_setting u S earlier scale) once multiples))) more_q
          (subst (Covers (types C) d (mul u (more (refund S m) q))) (sym (asked_times u S earlier scale rule.once rule.multiples C xs (types rule.fun.params) d))
          (covers_mul u (types C) d (more (refund S m) q) (asked S C xs (types rule.fun.params) d (all_taken S rule.once rule.multiples)) rule.args));
      result = subst (λ q. Covers (T ∷ []) d q (mul u r)) (sym (left_times u S earlier scale rule.once rule.multiples T d))
          (covers_mul u (T ∷ []) d (left S T d (all_taken S rule.once rule.multiples)) r rule.result);
    }

-- The price is paid, and the rule holds of what is left.
pub pays_times : (u : ℕ) (m : Mode) (S : Setting) (earlier : List Block) (scale : ℕ) → SettingTimes u m S earlier scale →
    (nodes ticks cells : ℕ) (q : Annotation) (rule made : Annotation → Type 0) →
    ((q : Annotation) → rule q → made (mul u q)) → Pays S m nodes ticks cells q rule → Pays (times_setting u S earlier scale) m nodes ticks cells (mul u q) made
pays_times u m S earlier scale h nodes ticks cells q rule made go paid = (
  subst (λ p. p ≤ u * q 0) (sym (h.prices nodes ticks cells)) (mul-le-mul_left u paid.0),
  subst made (sym (ap (λ p. less p (mul u q)) (h.prices nodes ticks cells) ∙ less_mul u (price S m nodes ticks cells) q)) (go (less (price S m nodes ticks cells) q) paid.1),
)

-- Hints

pub let_times : (u : ℕ) (hs : List Hint) (rule made : List Entries → List Hint → Type 0) →
    ((rs : List Entries) (rest : List Hint) → rule rs rest → made (map (times u) rs) (times_hints u rest)) →
    TakesLet hs rule → TakesLet (times_hints u hs) made
let_times u [] rule made go t = absurd t
let_times u (Let rs ∷ rest) rule made go t = go rs rest t
let_times u (Share p ∷ rest) rule made go t = absurd t
let_times u (Call ms ∷ rest) rule made go t = absurd t

pub share_times : (u : ℕ) (hs : List Hint) (rule made : Entries → List Hint → Type 0) →
    ((p : Entries) (rest : List Hint) → rule p rest → made (times u p) (times_hints u rest)) →
    TakesShare hs rule → TakesShare (times_hints u hs) made
share_times u [] rule made go t = absurd t
share_times u (Let rs ∷ rest) rule made go t = absurd t
share_times u (Share p ∷ rest) rule made go t = go p rest t
share_times u (Call ms ∷ rest) rule made go t = absurd t

pub hint_times : (u : ℕ) (hs : List Hint) (rule made : Entries → List Hint → Type 0) →
    ((ms : Entries) (rest : List Hint) → rule ms rest → made (times u ms) (times_hints u rest)) →
    TakesCall hs rule → TakesCall (times_hints u hs) made
hint_times u [] rule made go t = absurd t
hint_times u (Let rs ∷ rest) rule made go t = absurd t
hint_times u (Share p ∷ rest) rule made go t = absurd t
hint_times u (Call ms ∷ rest) rule made go t = go ms rest t

abbrev pub Child : Type 1
Child = Mode → List Plain → Annotation → List Hint → List Hint → Type 0

pub parts_times : (u : ℕ) (A : Type') (d : ℕ) (child made : Child) (mode : Mode) →
    ((j : List Plain) (s : Annotation) (hs out : List Hint) → child mode j s hs out → made mode j (mul u s) (times_hints u hs) (times_hints u out)) →
    ((j : List Plain) (s : Annotation) (hs out : List Hint) → child Past j s hs out → made Past j (mul u s) (times_hints u hs) (times_hints u out)) →
    (js : List (List Plain)) (rs : List Entries) (hs out : List Hint) → Parts A d child mode js rs hs out →
    Parts A d made mode js (map (times u) rs) (times_hints u hs) (times_hints u out)
parts_times u A d child made mode first past [] [] hs out p = ap (times_hints u) p
parts_times u A d child made mode first past [] (r ∷ rs) hs out p = absurd p
parts_times u A d child made mode first past (j ∷ js) [] hs out p = absurd p
parts_times u A d child made mode first past (j ∷ js) (r ∷ rs) hs out p = (
  times_hints u p.0,
  annotates_mul u (A ∷ []) (d - degrees j) r p.1,
  subst (λ s. made mode j s (times_hints u hs) (times_hints u p.0)) (sym (annotation_mul u r)) (first j (annotation r) hs p.0 p.2),
  parts_times u A d child made Past past past js rs p.0 out p.3,
)
