-- The system of a task that is tried.
use Rattle.std.proofs.Common.{◌≡◌, ◌≤◌, ◌<◌, ℕ, zero, suc, ◌+◌, ◌-◌, ◌^◌, ◌==◌, if◌then◌else◌, cond, not, Bool, true, false, ℤ, pos, ◌≤ℤ◌, List, [], ◌∷◌, ◌++◌, map, filter, length, replicate, slice_get, Some, refl, sym, ap, ◌∙◌, arith}
use Rattle.std.proofs.lemmas.List.{length-append, length-replicate}
use Rattle.std.specs.List.{range_with_len}
use Rattle.std.specs.Ordering.{int_eq}
use Rattle.std.proofs.lemmas.Int.{ints}
use Rattle.std.proofs.lemmas.Bool.Decides.{nat_tests}
use Rattle.raml_num.specs.Sums.{NoneNegative}
use Rattle.linear_rows.specs.Terms.{SparseRow, coefficient}
use Rattle.linear_rows.specs.Systems.{LinearSystem, AllBelow}
use Rattle.base_poly.specs.Plain.{Plain, degrees}
use Rattle.base_poly.specs.Indices.{index_list}
use Rattle.normal_spec.specs.Norm.{NormFun}
use Rattle.annot_types.specs.Program.{Program, members}
use Rattle.annot_types.specs.Certificate.{Block}
use Rattle.annot_types.specs.Rules.{Mode, Setting}
use Rattle.annot_types.specs.Holds.{mode_of, budget_of}
use Rattle.annot_types.specs.Rows.{Row, size}
use Rattle.annot_types.specs.System as s
use Rattle.annot_types.specs.System.{args_of, result_of, sig_weights, unsigned, is_kept, sparse_rows, weights_of_sigs, at_zero, terms, system}
use Rattle.rules_spec.specs.Tasks.{sides_count}
use Rattle.rules_spec.specs.Jobs.{body_of}
use Rattle.rules_spec.specs.Systems.{AreReady, SystemsAreWalked}
use Rattle.cost_free.specs.Task.{Task}
use Rattle.rules_systems_laws.specs.Shaped.{ShapedAreTasks}
use Rattle.infer_spec.specs.States.{scale_at}
use Rattle.annot_types.proofs.Lists.{length_map}
use Rattle.infer_systems_laws.specs.Tried.{TriedHaveSystems}
use Rattle.infer_systems_laws.proofs.Tried.{tried_are_tasks}

-- Terms

other : (v u : ℕ) (c z : ℤ) → v < u → (if v == u then c else z) ≡ z
other v u c z l = grind (arith, nat_tests)

terms_below : (f : ℕ → ℤ) (n from u : ℕ) → from + n ≤ u → coefficient u (filter (λ (t : ℕ × ℤ). not (int_eq t.1 (pos 0))) (map (λ v. (v, f v)) (range_with_len from n))) ≡ pos 0
terms_below f zero from u l = refl
terms_below f (suc n) from u l = by (not (int_eq (f from) (pos 0))) (terms_below f n (from + 1) u (omega (arith, l)))
  where
    by : (b : Bool) → coefficient u (filter (λ (t : ℕ × ℤ). not (int_eq t.1 (pos 0))) (map (λ v. (v, f v)) (range_with_len (from + 1) n))) ≡ pos 0 →
        coefficient u (cond b ((from, f from) ∷ filter (λ (t : ℕ × ℤ). not (int_eq t.1 (pos 0))) (map (λ v. (v, f v)) (range_with_len (from + 1) n)))
        (filter (λ (t : ℕ × ℤ). not (int_eq t.1 (pos 0))) (map (λ v. (v, f v)) (range_with_len (from + 1) n)))) ≡ pos 0
    by true rest = other from u (f from) _ (omega (arith, l)) ∙ rest
    by false rest = rest

kept_below : (n : ℕ) (p : SparseRow → Bool) (rows : List SparseRow) → AllBelow n rows → AllBelow n (filter p rows)
kept_below n p [] h = tt
kept_below n p (row ∷ rows) h = by (p row) (kept_below n p rows h.1)
  where
    by : (b : Bool) → AllBelow n (filter p rows) → AllBelow n (cond b (row ∷ filter p rows) (filter p rows))
    by true rest = (h.0, rest)
    by false rest = rest

module _ (P : Program) (d : ℕ) (earlier : List Block) (task : Task) (scale : ℕ) where
  rows_below : (place : ℕ) (rows : List Row) → AllBelow (at_zero P d earlier task scale).1 (sparse_rows P d earlier task scale place rows)
  rows_below place [] = tt
  rows_below place (r ∷ rs) = (λ u l. terms_below (s.coefficient P d earlier task scale place) (at_zero P d earlier task scale).1 0 u (omega (arith, l)), rows_below (place + 1) rs)

-- Weights

append_natural : (xs ys : List ℤ) → NoneNegative xs → NoneNegative ys → NoneNegative (xs ++ ys)
append_natural [] ys h k = k
append_natural (x ∷ xs) ys h k = (h.0, append_natural xs ys h.1 k)

natural : (n : ℕ) → pos 0 ≤ℤ pos n
natural n = grind (arith, ints)

zeros_natural : (n : ℕ) → NoneNegative (replicate n (pos 0))
zeros_natural zero = tt
zeros_natural (suc n) = (natural 0, zeros_natural n)

map_natural : {X : Type 0} (f : X → ℕ) (xs : List X) → NoneNegative (map (λ x. pos (f x)) xs)
map_natural f [] = tt
map_natural f (x ∷ xs) = (natural (f x), map_natural f xs)

weights_natural : (P : Program) (budget : ℕ) (fs : List ℕ) → NoneNegative (sig_weights P budget fs)
weights_natural P budget [] = tt
weights_natural P budget (f ∷ fs) =
    append_natural (map (λ t. pos (10 ^ degrees t)) (index_list (args_of (slice_get P.funs f)) budget)) _ (map_natural (λ (t : List Plain). 10 ^ degrees t) (index_list (args_of (slice_get P.funs f)) budget))
    (append_natural (replicate (size (result_of (slice_get P.funs f)) budget) (pos 0)) (sig_weights P budget fs) (zeros_natural (size (result_of (slice_get P.funs f)) budget)) (weights_natural P budget fs))

-- there is a weight for each number of the signatures
weights_count : (P : Program) (group : List ℕ) (earlier : List Block) (budget : ℕ) (S : Setting) (mode : Mode) → S.program ≡ P → (fs : List ℕ) → AreReady S mode fs →
    length (sig_weights P budget fs) ≡ sides_count (map (λ f. body_of P group earlier budget (slice_get P.funs f)) fs)
weights_count P group earlier budget S mode same [] h = refl
weights_count P group earlier budget S mode same (f ∷ fs) h =
    let rest = weights_count P group earlier budget S mode same fs h.2 in
    one h.0.fun (ap (λ P. slice_get P.funs f) (sym same) ∙ h.0.there) rest
  where
    one : (g : NormFun) → slice_get P.funs f ≡ Some g → length (sig_weights P budget fs) ≡ sides_count (map (λ f. body_of P group earlier budget (slice_get P.funs f)) fs) →
        length (sig_weights P budget (f ∷ fs)) ≡ sides_count (map (λ f. body_of P group earlier budget (slice_get P.funs f)) (f ∷ fs))
    one g there rest =
        let args = map (λ t. pos (10 ^ degrees t)) (index_list (args_of (Some g)) budget) in
        let zeros = replicate (size (result_of (Some g)) budget) (pos 0) in
        let a = length-append args (zeros ++ sig_weights P budget fs) in
        let b = length-append zeros (sig_weights P budget fs) in
        let c = length_map (λ t. pos (10 ^ degrees t)) (index_list (args_of (Some g)) budget) in
        let e = length-replicate (size (result_of (Some g)) budget) (pos 0) in
        let whole : length (args ++ (zeros ++ sig_weights P budget fs)) ≡ (size (args_of (Some g)) budget + size (result_of (Some g)) budget) + sides_count (map (λ f. body_of P group earlier budget (slice_get P.funs f)) fs) = omega (arith, a, b, c, e, rest) in
        (λ i. length (map (λ t. pos (10 ^ degrees t)) (index_list (args_of (there i)) budget) ++ (replicate (size (result_of (there i)) budget) (pos 0) ++ sig_weights P budget fs))) ∙ whole
        ∙ (λ i. sides_count (body_of P group earlier budget (sym there i) ∷ map (λ f. body_of P group earlier budget (slice_get P.funs f)) fs))

filled_up : (m n : ℕ) → m ≤ n → m + (n - m) ≡ n
filled_up m n l = omega (arith, l)

pub tried_have_systems : ShapedAreTasks → SystemsAreWalked → TriedHaveSystems
tried_have_systems tasks walked A ordered st task stands =
    let P = A.program in
    let scale = scale_at st.scales task.kind in
    let is_task = tried_are_tasks tasks A ordered st task stands in
    let count = weights_count A.program (members A.program task.group) st.blocks (budget_of A.degree task.kind) (unsigned A.program A.degree st.blocks task scale) (mode_of task.kind) refl (members A.program task.group) is_task.0 in
    let all = ap (λ (s : LinearSystem). s.unknowns) (walked A.program A.degree st.blocks task scale is_task) in
    let n = (at_zero A.program A.degree st.blocks task scale).1 in
    let w = weights_of_sigs A.program A.degree st.blocks task scale in
    record {
      below = kept_below n is_kept _ (rows_below A.program A.degree st.blocks task scale 0 (at_zero A.program A.degree st.blocks task scale).0);
      one_each =
          let a = length-append w (replicate (n - length w) (pos 0)) in
          let b = length-replicate (n - length w) (pos 0) in
          let few : length w ≤ n = omega (arith, count, all) in
          let full = filled_up (length w) n few in
          omega (arith, a, b, full);
      natural = append_natural w (replicate (n - length w) (pos 0)) (weights_natural A.program (budget_of A.degree task.kind) (members A.program task.group)) (zeros_natural (n - length w));
    }
