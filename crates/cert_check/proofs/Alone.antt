-- In a certificate that is held and small nothing is found but a total that leaves its range.
use Rattle.std.proofs.Common.{◌≡◌, refl, ap, sym, ◌∙◌, subst, arith, inl, inr}
use Rattle.std.proofs.Math.Seq.{take-append_seam}
use Rattle.std.specs.Prelude.{ℕ, ◌*◌, ◌<◌, ◌≤◌, ◌||◌, Bool, true, false, cond, nat_lt, nat_le, List, [], ◌∷◌, ◌++◌, length, take, slice_get, Option, None, Some}
use Rattle.std.specs.Option.{option_map}
use Rattle.std.proofs.lemmas.Bool.Decides.{nat_tests}
use Rattle.std.proofs.lemmas.Option.{none-some}
use Rattle.std.proofs.lemmas.List.{append-nil, append_assoc}
use Rattle.raml_syntax.specs.Tree.{Type'}
use Rattle.index_shift.specs.Potential.{Annotation}
use Rattle.cost_free.specs.declared.task.Meter.TheVariants.{Ticks, Cells, Work}
use Rattle.cost_free.specs.Target.{Target}
use Rattle.cost_free.specs.Task as k
use Rattle.cost_free.specs.Task.{Task, Kind, Free}
use Rattle.annot_types.specs.Program.{Program}
use Rattle.annot_types.specs.Certificate.{annotation, Sig, Hint, Body, Solved, Refuted, Calls, Block, Certificate}
use Rattle.annot_types.specs.Holds.{CoversTarget, ReachesTarget, Holds}
use Rattle.annot_types.specs.Held.{before, scale_for, IsOne, IsInPlace, Held}
use Rattle.annot_types.proofs.Multiples.{holds_times}
use Rattle.annot_types.proofs.Raised.{all_same, body_once}
use Rattle.rules_spec.specs.Numbers.{Condition}
use Rattle.rules_spec.specs.Kinds.{Amount, total_left, total_right, Meets, AllMeet}
use Rattle.rules_spec.specs.Faults as f
use Rattle.rules_spec.specs.Faults.{too_great, fault_at, or_fault, first_fault}
use Rattle.cert_check.specs.Fault.{Fault, Unless}
use Rattle.cert_check.specs.Finds.{at_block, GoesOn, next_after, job, job_conditions, job_fault, BodyFinds, BlockFinds, BlocksFind, HeadFits, FirstFault}
use Rattle.cert_check.specs.Laws.{IsProper, IsLeaving, IsSmall, HeldLeavesAlone, TotalsFit, NoneLeaves}
use Rattle.cert_check.proofs.Fitted.{Tried, block_meets}

-- Conditions that are met have no fault but a total that leaves, and none where all totals fit.

abbrev pub LeavesAt : Option f.Fault → Type 0
LeavesAt None = Unit {0}
LeavesAt (Some (f.Leaves path index)) = Unit {0}
LeavesAt (Some (f.Fails path index)) = ⊥

met_leaves : (c : Condition Amount) → Meets c → LeavesAt (fault_at c)
met_leaves c m = by (nat_le too_great (total_left c) || nat_le too_great (total_right c)) (nat_lt (total_left c) (total_right c)) refl where
  by : (b d : Bool) → nat_lt (total_left c) (total_right c) ≡ d → LeavesAt (cond b (Some (f.Leaves c.path c.index)) (cond d (Some (f.Fails c.path c.index)) None))
  by true d e = tt
  by false false e = tt
  by false true e = let less : total_left c < total_right c = grind (arith, nat_tests, e) in absurd (omega (arith, less, m))

pub all_met_leave : (cs : List (Condition Amount)) → AllMeet cs → LeavesAt (first_fault cs)
all_met_leave [] m = tt
all_met_leave (c ∷ cs) m = by (fault_at c) (met_leaves c m.0) (all_met_leave cs m.1) where
  by : (o : Option f.Fault) → LeavesAt o → LeavesAt (first_fault cs) → LeavesAt (or_fault o (first_fault cs))
  by None h k = k
  by (Some x) h k = h

fits_none : (c : Condition Amount) → Meets c → total_left c < too_great → total_right c < too_great → fault_at c ≡ None
fits_none c m l r =
    by (nat_le too_great (total_left c)) refl (nat_le too_great (total_right c)) refl (nat_lt (total_left c) (total_right c)) refl where
      by : (b : Bool) → nat_le too_great (total_left c) ≡ b → (e : Bool) → nat_le too_great (total_right c) ≡ e → (d : Bool) → nat_lt (total_left c) (total_right c) ≡ d →
          cond (b || e) (Some (f.Leaves c.path c.index)) (cond d (Some (f.Fails c.path c.index)) None) ≡ None
      by true h e k d i = let le : too_great ≤ total_left c = grind (arith, nat_tests, h) in absurd (omega (arith, le, l))
      by false h true k d i = let le : too_great ≤ total_right c = grind (arith, nat_tests, k) in absurd (omega (arith, le, r))
      by false h false k true i = let less : total_left c < total_right c = grind (arith, nat_tests, i) in absurd (omega (arith, less, m))
      by false h false k false i = refl

pub all_fit_none : (cs : List (Condition Amount)) → AllMeet cs → TotalsFit cs → first_fault cs ≡ None
all_fit_none [] m t = refl
all_fit_none (c ∷ cs) m t = (λ i. or_fault (fits_none c m.0 t.0 t.1 i) (first_fault cs)) ∙ all_fit_none cs m.1 t.2

-- and where there is no fault, they fit
none_fits : (c : Condition Amount) → fault_at c ≡ None → (total_left c < too_great) × (total_right c < too_great)
none_fits c e = by (nat_le too_great (total_left c)) refl (nat_le too_great (total_right c)) refl e where
  by : (b : Bool) → nat_le too_great (total_left c) ≡ b → (d : Bool) → nat_le too_great (total_right c) ≡ d →
      cond (b || d) (Some (f.Leaves c.path c.index)) (cond (nat_lt (total_left c) (total_right c)) (Some (f.Fails c.path c.index)) None) ≡ None →
      (total_left c < too_great) × (total_right c < too_great)
  by true h d k e = absurd (none-some _ (sym e))
  by false h true k e = absurd (none-some _ (sym e))
  by false h false k e = (grind (arith, nat_tests, h), grind (arith, nat_tests, k))

pub totals_fit : (cs : List (Condition Amount)) → first_fault cs ≡ None → TotalsFit cs
totals_fit [] e = tt
totals_fit (c ∷ cs) e = by (fault_at c) refl e (totals_fit cs) where
  by : (o : Option f.Fault) → fault_at c ≡ o → or_fault o (first_fault cs) ≡ None → (first_fault cs ≡ None → TotalsFit cs) → TotalsFit (c ∷ cs)
  by None h e rest = let one = none_fits c h in (one.0, one.1, rest e)
  by (Some x) h e rest = absurd (none-some x (sym e))

-- A block that holds with some t, and one with cost with 1, holds with 1.

covers_once : (A : Type') (budget : ℕ) (r : Annotation) (t : ℕ) (target : Target) → 0 < t → CoversTarget A budget r t target → CoversTarget A budget r 1 target
covers_once A budget r t [] p h = tt
covers_once A budget r t (x ∷ xs) p h = (omega (arith, h.0, p), covers_once A budget r t xs p h.1)

module _ (P : Program) (d : ℕ) (earlier : List Block) (scale : ℕ) where
  reaches_once : (task : Task) (body : Body) (t : ℕ) (kind : Kind) → 0 < t → ReachesTarget P d (record { task = task; body = body }) t kind →
      ReachesTarget P d (record { task = task; body = body }) 1 kind
  reaches_once task body t (k.With meter) p h = tt
  reaches_once task body t (Free budget f number) p h = record {
    fun = h.fun;
    there = h.there;
    target = h.target;
    numbered = h.numbered;
    sig = h.sig;
    signed = h.signed;
    covers = covers_once h.fun.result budget (annotation h.sig.result) t h.target p h.covers;
  }

  nothing : 0 ≡ 1 * 0
  nothing = omega arith

  pub holds_once : (task : Task) (sigs : List Sig) (hints : List (List Hint)) (t : ℕ) → IsOne task.kind t →
      Holds P d earlier scale (record { task = task; body = Solved sigs hints }) t → Holds P d earlier scale (record { task = task; body = Solved sigs hints }) 1
  holds_once task sigs hints t one h = by task.group task.kind one h where
    by : (group : ℕ) (kind : Kind) → IsOne kind t → Holds P d earlier scale (record { task = record { group = group; kind = kind }; body = Solved sigs hints }) t →
        Holds P d earlier scale (record { task = record { group = group; kind = kind }; body = Solved sigs hints }) 1
    by group (k.With meter) one h =
        subst (Holds P d earlier scale (record { task = record { group = group; kind = k.With meter }; body = Solved sigs hints })) one h
    by group (Free budget f number) one h =
        let task : Task = record { group = group; kind = Free budget f number } in
        subst (λ body. Holds P d earlier scale (record { task = task; body = body }) 1) (body_once (Solved sigs hints))
        (holds_times 1 P d earlier earlier scale scale task sigs hints t 1
        (record { blocks = all_same 1 P earlier; prices = λ nodes ticks cells. nothing; refunds = nothing }) (omega arith)
        (λ r. subst (λ body. ReachesTarget P d (record { task = task; body = body }) 1 (Free budget f number)) (sym (body_once (Solved sigs hints)))
        (reaches_once task (Solved sigs hints) t (Free budget f number) h.positive r)) h)

-- what is left of a test that holds
kept : (good : Type 0) (fault : Option Fault) (found : Option Fault) (A : Type 0) → good → Unless good fault found A → A
kept good fault found A g (inl h) = h.1
kept good fault found A g (inr h) = absurd (h.0 g)

abbrev OnlyLeaves : Option Fault → Type 0
OnlyLeaves None = Unit {0}
OnlyLeaves (Some fault) = IsLeaving fault

at_block_leaves : (number : ℕ) (o : Option f.Fault) → LeavesAt o → OnlyLeaves (option_map (at_block number) o)
at_block_leaves number None h = tt
at_block_leaves number (Some (f.Leaves path index)) h = tt
at_block_leaves number (Some (f.Fails path index)) h = absurd h

module _ (P : Program) (proper : IsProper P) (c : Certificate) (held : Held P c) (small : IsSmall P c) where
  abbrev IsAt : ℕ → Block → Type 0
  IsAt place b = slice_get c.blocks place ≡ Some b

  tried : (place : ℕ) (task : Task) (sigs : List Sig) (hints : List (List Hint)) → IsInPlace P c place (record { task = task; body = Solved sigs hints }) →
      Tried P c.degree (before c place) task (scale_for c task.kind) sigs hints
  tried place task sigs hints h =
      block_meets P proper c.degree (before c place) (scale_for c task.kind) task sigs hints
      (holds_once P c.degree (before c place) (scale_for c task.kind) task sigs hints h.holds.t h.holds.one h.holds.holds).functions h.shape.1

  -- what is found in a block, and that nothing is found where all totals fit
  body_found : (place : ℕ) (task : Task) (body : Body) → IsAt place (record { task = task; body = body }) → IsInPlace P c place (record { task = task; body = body }) →
      (found : Option Fault) → BodyFinds P c (before c place) task body found → OnlyLeaves found
  body_found place task (Solved sigs hints) there h found x =
      let try = tried place task sigs hints h in
      let once = holds_once P c.degree (before c place) (scale_for c task.kind) task sigs hints h.holds.t h.holds.one h.holds.holds in
      let after_size = kept _ _ _ _ (small.within place (record { task = task; body = Solved sigs hints }) there) x in
      let after_shape = kept _ _ _ _ (record { sigs_fit = try.sigs_fit; sigs_rise = h.shape.0; hints_fit = try.hints_fit; hints_rise = h.shape.1 }) after_size in
      let rules = kept _ _ _ _ once.reaches after_shape in
      subst OnlyLeaves (sym rules) (at_block_leaves (length (before c place)) (job_fault (job P c (before c place) task) sigs hints)
      (all_met_leave (job_conditions (job P c (before c place) task) sigs hints) try.all_meet))
  body_found place task (Refuted farkas) there h found x = subst OnlyLeaves (sym (kept _ _ _ _ h.shape x)) tt
  body_found place task (Calls fun) there h found x = subst OnlyLeaves (sym x) tt

  body_finds_none : (place : ℕ) (task : Task) (body : Body) → IsAt place (record { task = task; body = body }) → IsInPlace P c place (record { task = task; body = body }) →
      NoneLeaves P c (before c place) task body → BodyFinds P c (before c place) task body None
  body_finds_none place task (Solved sigs hints) there h fit =
      let try = tried place task sigs hints h in
      let once = holds_once P c.degree (before c place) (scale_for c task.kind) task sigs hints h.holds.t h.holds.one h.holds.holds in
      inl (
        small.within place (record { task = task; body = Solved sigs hints }) there,
        inl (
          record { sigs_fit = try.sigs_fit; sigs_rise = h.shape.0; hints_fit = try.hints_fit; hints_rise = h.shape.1 },
          inl (
            once.reaches,
            ap (option_map (at_block (length (before c place)))) (sym (all_fit_none (job_conditions (job P c (before c place) task) sigs hints) try.all_meet fit)),
          ),
        ),
      )
  body_finds_none place task (Refuted farkas) there h fit = inl (h.shape, refl)
  body_finds_none place task (Calls fun) there h fit = refl

  block_found : (place : ℕ) (b : Block) → IsAt place b → (found : Option Fault) → BlockFinds P c (before c place) b found → OnlyLeaves found
  block_found place b there found x =
      let h = held.blocks place b there in
      body_found place b.task b.body there h found (kept _ _ _ _ (record { task = h.task; waits = h.waits }) (kept _ _ _ _ (small.goes_on place) x))

  block_finds_none : (place : ℕ) (b : Block) → IsAt place b → NoneLeaves P c (before c place) b.task b.body → BlockFinds P c (before c place) b None
  block_finds_none place b there fit =
      let h = held.blocks place b there in
      inl (small.goes_on place, inl (record { task = h.task; waits = h.waits }, body_finds_none place b.task b.body there h fit))

  -- in all blocks from a place on
  abbrev Rest : List Block → List Block → Type 0
  Rest earlier bs = (earlier ++ bs) ≡ c.blocks

  first_there : (earlier : List Block) (b : Block) (bs : List Block) → slice_get (earlier ++ b ∷ bs) (length earlier) ≡ Some b
  first_there [] b bs = refl
  first_there (x ∷ earlier) b bs = first_there earlier b bs

  is_before : (earlier bs : List Block) → Rest earlier bs → before c (length earlier) ≡ earlier
  is_before earlier bs e = ap (take (length earlier)) (sym e) ∙ take-append_seam earlier bs

  is_at : (earlier : List Block) (b : Block) (bs : List Block) → Rest earlier (b ∷ bs) → IsAt (length earlier) b
  is_at earlier b bs e = ap (λ xs. slice_get xs (length earlier)) (sym e) ∙ first_there earlier b bs

  goes_on_at : (earlier bs : List Block) → Rest earlier bs → GoesOn P c earlier
  goes_on_at earlier bs e = subst (GoesOn P c) (is_before earlier bs e) (small.goes_on (length earlier))

  ended_at : (earlier : List Block) → Rest earlier [] → next_after P c earlier ≡ None
  ended_at earlier e = subst (λ bs. next_after P c bs ≡ None) (sym e ∙ append-nil earlier) held.ended

  blocks_found : (earlier bs : List Block) → Rest earlier bs → (found : Option Fault) → BlocksFind P c earlier bs found → OnlyLeaves found
  blocks_found earlier [] e found x =
      subst OnlyLeaves (sym (kept _ _ _ _ (ended_at earlier e) (kept _ _ _ _ (goes_on_at earlier [] e) x))) tt
  blocks_found earlier (b ∷ bs) e found (inl x) = blocks_found (earlier ++ b ∷ []) bs (append_assoc earlier (b ∷ []) bs ∙ e) found x.1
  blocks_found earlier (b ∷ bs) e found (inr x) =
      subst OnlyLeaves (sym x.2) (block_found (length earlier) b (is_at earlier b bs e) (Some x.0)
      (subst (λ ds. BlockFinds P c ds b (Some x.0)) (sym (is_before earlier (b ∷ bs) e)) x.1))

  pub blocks_find_none : ((place : ℕ) (b : Block) → IsAt place b → NoneLeaves P c (before c place) b.task b.body) →
      (earlier bs : List Block) → Rest earlier bs → BlocksFind P c earlier bs None
  blocks_find_none fit earlier [] e = inl (goes_on_at earlier [] e, inl (ended_at earlier e, refl))
  blocks_find_none fit earlier (b ∷ bs) e =
      let there = is_at earlier b bs e in
      inl (
        subst (λ ds. BlockFinds P c ds b None) (is_before earlier (b ∷ bs) e) (block_finds_none (length earlier) b there (fit (length earlier) b there)),
        blocks_find_none fit (earlier ++ b ∷ []) bs (append_assoc earlier (b ∷ []) bs ∙ e),
      )

  pub head_fits : HeadFits c
  head_fits = record { least = held.least_degree; most = held.most_degree; ticks = held.scales Ticks; cells = held.scales Cells; work = held.scales Work }

  only_leaves : (found : Option Fault) → FirstFault P c found → OnlyLeaves found
  only_leaves found x = blocks_found [] c.blocks refl found (kept _ _ _ _ head_fits x)

pub held_leaves_alone : HeldLeavesAlone
held_leaves_alone P proper c held small fault x = only_leaves P proper c held small (Some fault) x
