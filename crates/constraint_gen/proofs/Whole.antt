-- The system of a task, from what the code makes.
use Rattle.std.proofs.Common.{◌≡◌, refl, ap, sym, ◌∙◌, arith, subst}
use Rattle.std.proofs.lemmas.List.{length-append, length-replicate, length-map}
use Rattle.std.specs.Prelude.{ℕ, zero, suc, ◌^◌, ◌<◌, ◌≤◌, ℤ, pos, ◌==◌, if◌then◌else◌, Bool, true, false, take, Result, Ok, Err, IfOk, IfErr, List, [], ◌∷◌, ◌++◌, map, length, replicate, slice_get, ◌+◌, Option, Some}
use Rattle.std.proofs.lemmas.Int.{ints}
use Rattle.std.proofs.lemmas.Bool.Decides.{nat_tests}
use Rattle.raml_num.specs.Sums.{NoneNegative}
use Rattle.base_poly.specs.Plain.{Plain, degrees}
use Rattle.base_poly.specs.Indices.{index_list}
use Rattle.linear_rows.specs.Terms.{SparseRow}
use Rattle.linear_rows.specs.Systems.{LinearSystem}
use Rattle.cost_free.specs.declared.task.Meter.{Meter}
use Rattle.cost_free.specs.Task as k
use Rattle.cost_free.specs.Task.{Task, Kind, Free}
use Rattle.annot_types.specs.Program.{Program, members}
use Rattle.annot_types.specs.Certificate.{Block}
use Rattle.annot_types.specs.Holds.{budget_of, mode_of}
use Rattle.annot_types.specs.System as s
use Rattle.annot_types.specs.Rules.{Setting, Mode}
use Rattle.normal_spec.specs.Norm.{NormFun}
use Rattle.normal_spec.specs.Context.{types}
use Rattle.rules_spec.specs.Told.{bodies_of}
use Rattle.rules_spec.proofs.Standing.{some_position}
use Rattle.annot_types.specs.System.{sig_weights, args_of, result_of, unsigned}
use Rattle.annot_types.specs.Rows.{size as size_of}
use Rattle.rules_spec.specs.Numbers.{Sides, Signature, Hint, Condition}
use Rattle.rules_spec.specs.Kinds.{Form, forms, unknown, one_at}
use Rattle.rules_spec.specs.Walk.{at, group_sides}
use Rattle.rules_spec.specs.Tasks.{Body, Job, sides_count, sides_given, hints_given, unknowns, known_by, of_target, of_bodies, given_conditions}
use Rattle.rules_spec.specs.Jobs.{body_of, job_of}
use Rattle.rules_spec.specs.Systems.{IsReady, AreReady, IsTask}
use Rattle.rules_spec.specs.Solving.{rows_of}
use Rattle.rules_spec.proofs.TaskRows.{systems_are_walked}
use Rattle.rules_spec.proofs.Given.{given_carry}
use Rattle.rules_spec.specs.Carried.{condition_to}
use Rattle.rules_spec.specs.Capped.{cap}
use Rattle.rules_walk.specs.Laws.{IsFree, WalksWithoutCost}
use Rattle.rules_walk.specs.Remembers.{Tables, Remembers}
use Rattle.rules_spec.specs.CappedRows.{capped_form, capped_forms, capped_condition, within}
use Rattle.rules_spec.proofs.CappingRows.{same_form, capped_rows}
use Rattle.constraint_gen.specs.Sums.{Sum, sums, form_of}
use Rattle.constraint_gen.specs.Sums as c
use Rattle.constraint_gen.specs.Given.{unknowns_of}
use Rattle.constraint_gen.specs.Walked.{job_in}
use Rattle.constraint_gen.specs.Heard.{Heard, hear_all}
use Rattle.rules_spec.specs.Sure.{AreSure}
use Rattle.rules_spec.proofs.Sure.{tasks_are_sure}
use Rattle.constraint_gen.specs.Finished.{RowFault}
use Rattle.constraint_gen.specs.Cause.{IsWithin, IsCause, LeavesFirst}
use Rattle.constraint_gen.specs.Made.{filled, HasRows, RowCause, IsProper, JobCause, job_rows}
use Rattle.constraint_gen.specs.declared.fault.GenFault.{GenFault}
use Rattle.constraint_gen.specs.declared.fault.GenFault.TheVariants.{TooLarge, Leaves, NoMemory}
use Rattle.constraint_gen.specs.declared.fault.What.TheVariants.{Indices, Unknowns, Rows}
use Rattle.constraint_gen.proofs.Finishing.{pairs, collected, exact_rows, large_is, leaves_is}
use Rattle.constraint_gen.proofs.Sums.{carries}

-- Conditions over the code's sums are the exact ones, capped.
one_if : (v u : ℕ) → one_at v u ≡ (if v == u then 1 else 0)
one_if zero zero = refl
one_if zero (suc u) = let e : (zero == suc u) ≡ false = grind (arith, nat_tests) in ap (λ b. if b then 1 else 0) (sym e)
one_if (suc v) zero = let e : (suc v == zero) ≡ false = grind (arith, nat_tests) in ap (λ b. if b then 1 else 0) (sym e)
one_if (suc v) (suc u) = one_if v u ∙ by (v == u) refl where
  by : (b : Bool) → (v == u) ≡ b → ◌≡◌ {A = ℕ} (if b then 1 else 0) (if suc v == suc u then 1 else 0)
  by true e = let t : (suc v == suc u) ≡ true = grind (arith, nat_tests, e) in ap (λ b. if b then 1 else 0) (sym t)
  by false e = let t : (suc v == suc u) ≡ false = grind (arith, nat_tests, e) in ap (λ b. if b then 1 else 0) (sym t)

one_unknown : (v u : ℕ) → cap (c.total_of u ((v, 1) ∷ [])) ≡ cap ((unknown v).terms u)
one_unknown v u = let e : c.total_of u ((v, 1) ∷ []) ≡ one_at v u = omega (arith, one_if v u) in ap cap e

unknown_is : (v : ℕ) → form_of (c.unknown v) ≡ capped_form (unknown v)
unknown_is v = same_form _ _ (one_unknown v) (omega arith) (omega arith)

pub conditions_are : (j : Job) → map (condition_to form_of) (given_conditions sums c.unknown j) ≡ map capped_condition (given_conditions forms unknown j)
conditions_are j =
    sym (given_carry sums capped_forms form_of c.unknown carries j)
    ∙ (λ i. given_conditions capped_forms (λ u. unknown_is u i) j)
    ∙ capped_rows.walks unknown j

-- No price is read in a task without cost.
abbrev with_cost : (Meter → ℕ → Option Signature) → Job → Job
with_cost cost j = record { bodies = j.bodies; mode = j.mode; scale = j.scale; budget = j.budget; free = j.free; cost = cost; function = j.function; target = j.target }

bodies_free : WalksWithoutCost → (j : Job) (cost : Meter → ℕ → Option Signature) → IsFree j.mode → (group : List (Sides Form)) (k : ℕ) (bs : List Body) (hss : List (List (Hint Form))) →
    of_bodies forms j group k bs hss ≡ of_bodies forms (with_cost cost j) group k bs hss
bodies_free law j cost free group k [] hss = refl
bodies_free law j cost free group k (b ∷ bs) [] = refl
bodies_free law j cost free group k (b ∷ bs) (hs ∷ hss) =
    let s = group_sides forms (known_by j group) k in
    λ i. (law.forms (known_by j group) cost b.plan j.mode free (k ∷ []) s.args s.result hs i).found ++ bodies_free law j cost free group (suc k) bs hss i

target_free : (j : Job) (cost : Meter → ℕ → Option Signature) (group : List (Sides Form)) (ps : List ℕ) → of_target forms j group ps ≡ of_target forms (with_cost cost j) group ps
target_free j cost group [] = refl
target_free j cost group (p ∷ ps) = ap (λ (l : List (Condition Form)). record { path = j.function ∷ []; index = p; left = at forms (group_sides forms (known_by j group) j.function).result p; right = forms.number 1 } ∷ l) (target_free j cost group ps)

conditions_free : WalksWithoutCost → (j : Job) (cost : Meter → ℕ → Option Signature) → IsFree j.mode → given_conditions forms unknown j ≡ given_conditions forms unknown (with_cost cost j)
conditions_free law j cost free =
    let group = sides_given unknown 0 j.bodies in
    let hss = hints_given unknown (sides_count j.bodies) j.bodies in
    λ i. target_free j cost group j.target i ++ bodies_free law j cost free group 0 j.bodies hss i

abbrev of_kind : ℕ → Kind → Task
of_kind group kind = record { group = group; kind = kind }

module _ (law : WalksWithoutCost) (P : Program) (d : ℕ) (blocks : List Block) (t : Tables) (remembers : Remembers P d blocks t) where
  same_conditions : (group : ℕ) (kind : Kind) (scale : ℕ) (bodies : List Body) → bodies ≡ (job_of P d blocks (of_kind group kind) scale).bodies →
      given_conditions forms unknown (job_in P d t bodies (of_kind group kind) scale) ≡ given_conditions forms unknown (job_of P d blocks (of_kind group kind) scale)
  same_conditions group (k.With meter) scale bodies e =
      let j = job_of P d blocks (of_kind group (k.With meter)) scale in
      λ i. given_conditions forms unknown (record {
        bodies = e i;
        mode = j.mode;
        scale = scale;
        budget = d;
        free = λ k f. remembers.free k f i;
        cost = λ meter f. remembers.cost meter f i;
        function = j.function;
        target = j.target;
      })
  same_conditions group (Free b f number) scale bodies e =
      let j = job_of P d blocks (of_kind group (Free b f number)) scale in
      conditions_free law (job_in P d t bodies (of_kind group (Free b f number)) scale) j.cost tt
      ∙ (λ i. given_conditions forms unknown (record {
        bodies = e i;
        mode = j.mode;
        scale = scale;
        budget = b;
        free = λ k f. remembers.free k f i;
        cost = j.cost;
        function = j.function;
        target = j.target;
      }))

  module _ (task : Task) (scale : ℕ) (bodies : List Body) (e : bodies ≡ (job_of P d blocks task scale).bodies) (is : IsTask P d blocks task scale) where
    abbrev j : Job
    j = job_in P d t bodies task scale

    pub unknowns_are : unknowns j ≡ (s.system P d blocks task scale).unknowns
    unknowns_are =
        ap (λ bs. unknowns (record { bodies = bs; mode = j.mode; scale = j.scale; budget = j.budget; free = j.free; cost = j.cost; function = j.function; target = j.target })) e
        ∙ sym (ap (λ (l : LinearSystem). l.unknowns) (systems_are_walked P d blocks task scale is))

    pub rows_are : job_rows j ≡ (s.system P d blocks task scale).rows
    rows_are =
        (λ i. rows_of ((unknowns_are ∙ ap (λ (l : LinearSystem). l.unknowns) (systems_are_walked P d blocks task scale is)) i) (same_conditions task.group task.kind scale bodies e i))
        ∙ sym (ap (λ (l : LinearSystem). l.rows) (systems_are_walked P d blocks task scale is))

    pub system_is : (made : LinearSystem) → HasRows (unknowns j) (job_rows j) (sig_weights P (budget_of d task.kind) (members P task.group)) made → made ≡ s.system P d blocks task scale
    system_is made h =
        let weights = sig_weights P (budget_of d task.kind) (members P task.group) in
        λ i. record {
          unknowns = (h.unknowns ∙ unknowns_are) i;
          rows = (h.rows_are ∙ rows_are) i;
          weights = (h.weights_are ∙ ap (λ n. filled n weights) unknowns_are) i;
        }

-- the unknowns of a task's system are those of its bodies
pub counted_in : (P : Program) (d : ℕ) (blocks : List Block) (task : Task) (scale : ℕ) {bodies : List Body} → bodies ≡ bodies_of P d blocks task → IsTask P d blocks task scale →
    (s.system P d blocks task scale).unknowns ≡ unknowns_of bodies
counted_in P d blocks task scale e is = ap (λ (l : LinearSystem). l.unknowns) (systems_are_walked P d blocks task scale is) ∙ sym (ap unknowns_of e)

-- weights are natural
pub natural_append : (xs ys : List ℤ) → NoneNegative xs → NoneNegative ys → NoneNegative (xs ++ ys)
natural_append [] ys h g = g
natural_append (x ∷ xs) ys h g = (h.0, natural_append xs ys h.1 g)

pub natural_zeros : (n : ℕ) → NoneNegative (replicate n (pos 0))
natural_zeros zero = tt
natural_zeros (suc n) = (omega (arith, ints), natural_zeros n)

natural_weights : (ts : List (List Plain)) → NoneNegative (map (λ t. pos (10 ^ degrees t)) ts)
natural_weights [] = tt
natural_weights (t ∷ ts) = (omega (arith, ints), natural_weights ts)

pub natural_sigs : (P : Program) (budget : ℕ) (fs : List ℕ) → NoneNegative (sig_weights P budget fs)
natural_sigs P budget [] = tt
natural_sigs P budget (f ∷ fs) =
    natural_append (map (λ t. pos (10 ^ degrees t)) (index_list (args_of (slice_get P.funs f)) budget)) (replicate (size_of (result_of (slice_get P.funs f)) budget) (pos 0) ++ sig_weights P budget fs)
    (natural_weights (index_list (args_of (slice_get P.funs f)) budget))
    (natural_append (replicate (size_of (result_of (slice_get P.funs f)) budget) (pos 0)) (sig_weights P budget fs) (natural_zeros (size_of (result_of (slice_get P.funs f)) budget)) (natural_sigs P budget fs))

pub natural_front : (n : ℕ) (xs : List ℤ) → NoneNegative xs → NoneNegative (take n xs)
natural_front zero xs h = tt
natural_front (suc n) [] h = tt
natural_front (suc n) (x ∷ xs) h = (h.0, natural_front n xs h.1)

module _ (S : Setting) (mode : Mode) (P : Program) (all : List ℕ) (blocks : List Block) (budget : ℕ) (same : S.program ≡ P) where
  abbrev bodies_at : List ℕ → List Body
  bodies_at fs = map (λ f. body_of P all blocks budget (slice_get P.funs f)) fs

  abbrev count_of : Option NormFun → ℕ
  count_of o = (body_of P all blocks budget o).args + (body_of P all blocks budget o).result

  -- a function that is there has an argument's position, and as many weights as positions
  one_body : (f : ℕ) → IsReady S mode f → (1 ≤ count_of (slice_get P.funs f)) × (size_of (args_of (slice_get P.funs f)) budget + size_of (result_of (slice_get P.funs f)) budget ≡ count_of (slice_get P.funs f))
  one_body f ready =
      let there : slice_get P.funs f ≡ Some ready.fun = subst (λ (Q : Program). slice_get Q.funs f ≡ Some ready.fun) same ready.there in
      subst (λ o. (1 ≤ count_of o) × (size_of (args_of o) budget + size_of (result_of o) budget ≡ count_of o)) (sym there)
      (omega (arith, some_position (types ready.fun.params) budget), refl)

  few_bodies : (fs : List ℕ) → AreReady S mode fs → length (bodies_at fs) ≤ sides_count (bodies_at fs)
  few_bodies [] h = omega arith
  few_bodies (f ∷ fs) h = omega (arith, (one_body f h.0).0, few_bodies fs h.2)

  few_weights : (fs : List ℕ) → AreReady S mode fs → length (sig_weights P budget fs) ≡ sides_count (bodies_at fs)
  few_weights [] h = refl
  few_weights (f ∷ fs) h =
      let As = args_of (slice_get P.funs f) in
      let n = size_of (result_of (slice_get P.funs f)) budget in
      let rest = sig_weights P budget fs in
      length-append (map (λ t. pos (10 ^ degrees t)) (index_list As budget)) (replicate n (pos 0) ++ rest)
      ∙ (λ i. length-map (index_list As budget) (λ t. pos (10 ^ degrees t)) i + length-append (replicate n (pos 0)) rest i)
      ∙ (λ i. size_of As budget + (length-replicate n (pos 0) i + few_weights fs h.2 i))
      ∙ omega (arith, (one_body f h.0).1)

pub proper_is : (P : Program) (d : ℕ) (blocks : List Block) (t : Tables) (task : Task) (scale : ℕ) (bodies : List Body) → bodies ≡ bodies_of P d blocks task → IsTask P d blocks task scale → scale < 2 ^ 127 →
    IsProper (job_in P d t bodies task scale) (sig_weights P (budget_of d task.kind) (members P task.group))
proper_is P d blocks t task scale bodies e is small =
    let S = unsigned P d blocks task scale in
    let mode = mode_of task.kind in
    let fs = members P task.group in
    let budget = budget_of d task.kind in
    let few = few_bodies S mode P fs blocks budget refl fs is.0 in
    let weights = few_weights S mode P fs blocks budget refl fs is.0 in
    let count = ap sides_count e in
    record {
      sure = tasks_are_sure P d blocks task (job_in P d t bodies task scale) e small;
      few_bodies = omega (arith, ap length e, few, count);
      few_weights = omega (arith, weights, count);
    }

-- what the code heard is the front of the rows
pub front_is : (j : Job) (n : ℕ) (v : List (Option SparseRow)) → record { unknowns = n; rows = v } ≡ hear_all (record { unknowns = n; rows = [] }) (given_conditions sums c.unknown j) →
    v ≡ take 2001 (map within (rows_of n (pairs (given_conditions sums c.unknown j))))
front_is j n v e = ap (λ (h : Heard). h.rows) e ∙ collected n (given_conditions sums c.unknown j) [] (omega arith)

pub exact_front : (j : Job) (n : ℕ) (v : List (Option SparseRow)) → AreSure (given_conditions forms unknown j) →
    record { unknowns = n; rows = v } ≡ hear_all (record { unknowns = n; rows = [] }) (given_conditions sums c.unknown j) → v ≡ take 2001 (map within (rows_of n (given_conditions forms unknown j)))
exact_front j n v sure e = front_is j n v e ∙ ap (take 2001) (exact_rows capped_rows.agree n (given_conditions forms unknown j) (given_conditions sums c.unknown j) (conditions_are j) sure)

pub row_cause : (rows : List SparseRow) (v : List (Option SparseRow)) (fault : GenFault) → v ≡ take 2001 (map within rows) → RowFault v fault → RowCause rows fault
row_cause rows v (TooLarge Indices) e h = absurd h
row_cause rows v (TooLarge Unknowns) e h = absurd h
row_cause rows v (TooLarge Rows) e h = large_is rows v e h
row_cause rows v (Leaves row) e h = leaves_is rows v row e h.0 h.1
row_cause rows v NoMemory e h = tt

pub job_cause : (j : Job) (n : ℕ) (fault : GenFault) → n ≡ unknowns j → n ≤ 2000 → RowCause (rows_of n (given_conditions forms unknown j)) fault → JobCause j fault
job_cause j n (TooLarge Indices) e low h = absurd h
job_cause j n (TooLarge Unknowns) e low h = absurd h
job_cause j n (TooLarge Rows) e low h = (omega (arith, e, low), subst (λ m. 2000 < length (rows_of m (given_conditions forms unknown j))) e h)
job_cause j n (Leaves row) e low h =
    let at = subst (λ m. (length (rows_of m (given_conditions forms unknown j)) ≤ 2000) × LeavesFirst (rows_of m (given_conditions forms unknown j)) row) e h in
    (omega (arith, e, low), at.0, at.1)
job_cause j n NoMemory e low h = tt

pub is_cause : (P : Program) (d : ℕ) (blocks : List Block) (task : Task) (scale : ℕ) (j : Job) (fault : GenFault) → IsWithin P d task → unknowns j ≡ (s.system P d blocks task scale).unknowns →
    job_rows j ≡ (s.system P d blocks task scale).rows → JobCause j fault → IsCause P d blocks task scale fault
is_cause P d blocks task scale j (TooLarge Indices) within e r h = absurd h
is_cause P d blocks task scale j (TooLarge Unknowns) within e r h = (within, subst (λ n. 2000 < n) e h)
is_cause P d blocks task scale j (TooLarge Rows) within e r h = (within, subst (λ n. n ≤ 2000) e h.0, subst (λ rows. 2000 < length rows) r h.1)
is_cause P d blocks task scale j (Leaves row) within e r h =
    let at = subst (λ (rows : List SparseRow). (length rows ≤ 2000) × LeavesFirst rows row) r (h.1, h.2) in
    (within, subst (λ n. n ≤ 2000) e h.0, at.0, at.1)
is_cause P d blocks task scale j NoMemory within e r h = tt

pub if_ok : {X E : Type 0} (r : Result X E) (A B : X → Type 0) → ((x : X) → A x → B x) → IfOk r A → IfOk r B
if_ok (Ok x) A B f h = f x h
if_ok (Err e) A B f h = tt

pub if_err : {X E : Type 0} (r : Result X E) (A B : E → Type 0) → ((e : E) → A e → B e) → IfErr r A → IfErr r B
if_err (Ok x) A B f h = tt
if_err (Err e) A B f h = f e h
