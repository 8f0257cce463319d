-- The system of a task is that of its job.
use Rattle.std.proofs.Common.{append-nil, length-append, ◌≡◌, refl, ap, sym, ◌∙◌, arith, subst}
use Rattle.std.specs.Prelude.{ℕ, zero, suc, ◌+◌, ◌^◌, ◌≤◌, ◌==◌, if◌then◌else◌, Bool, true, false, cond, pos, ◌-ℤ◌, List, [], ◌∷◌, ◌++◌, map, filter, length, replicate, slice_get, slice_index_or, Option, Some}
use Rattle.std.specs.Option.{unwrap_or}
use Rattle.std.specs.List.{range_with_len, list_any}
use Rattle.std.proofs.lemmas.Int.{ints}
use Rattle.std.proofs.lemmas.List.{map-append, length-map}
use Rattle.std.proofs.lemmas.Bool.Decides.{nat_tests}
use Rattle.base_poly.specs.Plain.{alike, degrees}
use Rattle.base_poly.specs.Indices.{index_list}
use Rattle.normal_spec.specs.Norm.{NormFun}
use Rattle.normal_spec.specs.Context.{types}
use Rattle.cost_free.specs.Target.{targets}
use Rattle.cost_free.specs.Task as t
use Rattle.cost_free.specs.Task.{Task, Kind, Free}
use Rattle.annot_types.specs.Program.{Program, members}
use Rattle.annot_types.specs.Certificate.{Block}
use Rattle.annot_types.specs.Rules.{Mode, Setting}
use Rattle.annot_types.specs.Holds.{mode_of, budget_of}
use Rattle.annot_types.specs.Rows as w
use Rattle.annot_types.specs.Rows.{size as size_of, Assignment, Row, Unsolved, none}
use Rattle.annot_types.specs.System as s
use Rattle.annot_types.specs.System.{args_of, result_of, unsolved, sig_weights, unsigned, is_kept}
use Rattle.rules_spec.specs.Numbers.{Sides, Condition, Carries}
use Rattle.rules_spec.specs.Walk.{at, walk, group_sides}
use Rattle.rules_spec.specs.Asked.{asked, counts, given, answers}
use Rattle.rules_spec.specs.Tasks.{Body, Job, sides_count, hints_count, unknowns, sides_given, hints_given, known_by, of_bodies, of_target, given_conditions}
use Rattle.rules_spec.specs.Kinds.{Form, forms, unknown, one_at}
use Rattle.rules_spec.specs.Carried.{condition_to}
use Rattle.rules_spec.specs.Solving.{terms_of, row_of, system_of}
use Rattle.rules_spec.specs.Jobs.{body_of, positions_of, target_place, target_positions, job_of}
use Rattle.rules_spec.specs.Systems.{Sum, sums, told_at, row_at, AreReady, HasTarget, IsTask, SystemsAreWalked}
use Rattle.rules_spec.proofs.Given.{given_carry}
use Rattle.rules_spec.proofs.Summed.{Full, given_full, sum_of as same_sum}
use Rattle.rules_spec.proofs.Rowed.{walks_say, zero_plus}
use Rattle.rules_spec.proofs.RowedCalls.{AreSides, Once, one_of, calls_say}

pub length_replicate : {X : Type 0} (n : ℕ) (x : X) → length (replicate n x) ≡ n
length_replicate zero x = refl
length_replicate (suc n) x = ap suc (length_replicate n x)

module _ (P : Program) (d : ℕ) (earlier : List Block) (task : Task) (scale : ℕ) where
  abbrev S : Setting
  S = unsigned P d earlier task scale

  abbrev budget : ℕ
  budget = budget_of d task.kind

  abbrev mode : Mode
  mode = mode_of task.kind

  abbrev J : Job
  J = job_of P d earlier task scale

  abbrev body : ℕ → Body
  body f = body_of P (members P task.group) earlier budget (slice_get P.funs f)

  abbrev full_body : NormFun → Body
  full_body g = body_of P (members P task.group) earlier budget (Some g)

  once_of : (fs : List ℕ) → AreReady S mode fs → Once fs
  once_of [] h = tt
  once_of (f ∷ fs) h = (h.1, once_of fs h.2)

  weights_count : (fs : List ℕ) → AreReady S mode fs → length (sig_weights P budget fs) ≡ sides_count (map body fs)
  weights_count [] h = refl
  weights_count (f ∷ fs) h = by (weights_count fs h.2) (slice_get P.funs f) h.0.there where
    by : length (sig_weights P budget fs) ≡ sides_count (map body fs) → (o : Option NormFun) → o ≡ Some h.0.fun →
        length (map (λ t. pos (10 ^ degrees t)) (index_list (args_of o) budget) ++ (replicate (size_of (result_of o) budget) (pos 0) ++ sig_weights P budget fs))
        ≡ (body_of P (members P task.group) earlier budget o).args + (body_of P (members P task.group) earlier budget o).result + sides_count (map body fs)
    by go o e = subst (λ o. length (map (λ t. pos (10 ^ degrees t)) (index_list (args_of o) budget) ++ (replicate (size_of (result_of o) budget) (pos 0) ++ sig_weights P budget fs))
        ≡ (body_of P (members P task.group) earlier budget o).args + (body_of P (members P task.group) earlier budget o).result + sides_count (map body fs)) (sym e) (at h.0.fun)
      where
        at : (g : NormFun) → length (map (λ t. pos (10 ^ degrees t)) (index_list (types g.params) budget) ++ (replicate (size_of (g.result ∷ []) budget) (pos 0) ++ sig_weights P budget fs))
            ≡ size_of (types g.params) budget + size_of (g.result ∷ []) budget + sides_count (map body fs)
        at g =
            let ws = map (λ t. pos (10 ^ degrees t)) (index_list (types g.params) budget) in let zs = replicate (size_of (g.result ∷ []) budget) (pos 0) in
            omega (arith, length-append ws (zs ++ sig_weights P budget fs), length-append zs (sig_weights P budget fs), length-map (index_list (types g.params) budget) (λ t. pos (10 ^ degrees t)), length_replicate (size_of (g.result ∷ []) budget) (pos 0), go)

  sides_are : (x : Assignment) (fs : List ℕ) (next : ℕ) → AreReady S mode fs → AreSides S x fs (unsolved P budget fs next) (sides_given (told_at x) next (map body fs))
  sides_are x [] next h = tt
  sides_are x (f ∷ fs) next h = (
    refl,
    side,
    subst (λ k. AreSides S x fs (unsolved P budget fs (next + size_of (args_of (slice_get P.funs f)) budget + size_of (result_of (slice_get P.funs f)) budget)) (sides_given (told_at x) k (map body fs))) regroup
        (sides_are x fs (next + size_of (args_of (slice_get P.funs f)) budget + size_of (result_of (slice_get P.funs f)) budget) h.2),
  ) where
    b : Body
    b = body f

    sizes : (o : Option NormFun) → o ≡ Some h.0.fun → (size_of (args_of o) budget ≡ (body_of P (members P task.group) earlier budget o).args) × (size_of (result_of o) budget ≡ (body_of P (members P task.group) earlier budget o).result)
    sizes o e = subst (λ o. (size_of (args_of o) budget ≡ (body_of P (members P task.group) earlier budget o).args) × (size_of (result_of o) budget ≡ (body_of P (members P task.group) earlier budget o).result)) (sym e) (refl, refl)

    regroup : next + size_of (args_of (slice_get P.funs f)) budget + size_of (result_of (slice_get P.funs f)) budget ≡ next + ((body f).args + (body f).result)
    regroup = let z = sizes (slice_get P.funs f) h.0.there in omega (arith, z.0, z.1)

    side : (g : NormFun) → slice_get S.program.funs f ≡ Some g →
        (given (told_at x) next (body f).args ≡ given (told_at x) next (size_of (types g.params) S.budget))
        × (given (told_at x) (next + (body f).args) (body f).result ≡ given (told_at x) (next + size_of (args_of (slice_get P.funs f)) budget) (size_of (g.result ∷ []) S.budget))
    side g e =
        let z = sizes (slice_get P.funs f) h.0.there in (
          ap (λ o. given (told_at x) next (body_of P (members P task.group) earlier budget o).args) e,
          (λ i. given (told_at x) (next + sym z.0 i) (body_of P (members P task.group) earlier budget (e i)).result),
        )

  module _ (x : Assignment) (ready : AreReady S mode (members P task.group)) where
    abbrev own : List Unsolved
    own = unsolved P budget (members P task.group) 0

    abbrev group : List (Sides Sum)
    group = sides_given (told_at x) 0 (map body (members P task.group))

    abbrev sides : AreSides S x S.group own group
    sides = sides_are x (members P task.group) 0 ready

    -- the bodies from one on
    record Bodies (bs : List Body) (us : List Unsolved) (k next : ℕ) : Type 0 where
      rows : map row_at (of_bodies sums J group k bs (hints_given (told_at x) next bs)) ≡ (w.group_rows S own x mode us next).0
      ends : (w.group_rows S own x mode us next).1 ≡ next + hints_count bs

    bodies : (fs : List ℕ) (us : List Unsolved) (ss : List (Sides Sum)) (k next : ℕ) → AreReady S mode fs → AreSides S x fs us ss →
        ((i : ℕ) → slice_index_or group (k + i) (record { args = []; result = [] }) ≡ slice_index_or ss i (record { args = []; result = [] })) → Bodies (map body fs) us k next
    bodies [] [] [] k next h sd same = record { rows = refl; ends = omega arith }
    bodies [] (u ∷ us) ss k next h sd same = absurd sd
    bodies [] [] (s ∷ ss) k next h sd same = absurd sd
    bodies (f ∷ fs) [] ss k next h sd same = absurd sd
    bodies (f ∷ fs) (u ∷ us) [] k next h sd same = absurd sd
    bodies (f ∷ fs) (u ∷ us) (s ∷ ss) k next h sd same =
        let g = h.0.fun in let b = full_body g in let there = h.0.there in let side = sd.1 g there in
        let here : group_sides sums (known_by J group) k ≡ s = ap (λ z. slice_index_or group z (record { args = []; result = [] })) (omega arith) ∙ same 0 in
        let full_args = subst (λ es. Full (size_of (types g.params) budget) es (w.unknown S own x u.args) none none) (sym side.0) (given_full x u.args (size_of (types g.params) budget)) in
        let full_result = subst (λ es. Full (size_of (g.result ∷ []) budget) es (w.unknown S own x u.result) none none) (sym side.1) (given_full x u.result (size_of (g.result ∷ []) budget)) in
        let hs = answers (told_at x) next (asked b.plan) in
        let one = walks_say S own x group (calls_say S own x group sides (once_of (members P task.group) ready)) g.body mode budget g.params g.result (w.unknown S own x u.args) none (w.unknown S own x u.result) s.args s.result (k ∷ []) next hs []
        h.0.uses h.0.paid full_args full_result (sym (append-nil hs)) in
        let after = next + counts (asked b.plan) in
        let rest = bodies fs us ss (suc k) after h.2 sd.2 (λ i. ap (λ z. slice_index_or group z (record { args = []; result = [] })) (omega arith) ∙ same (suc i)) in
        let walked = λ (s : Sides Sum). (walk sums (known_by J group) b.plan mode (k ∷ []) s.args s.result hs).found in
        let M = w.walk S own x mode budget g.params (w.unknown S own x u.args) none g.body g.result (w.unknown S own x u.result) in
        let made_one : w.body_rows S own x mode (slice_get P.funs u.fun) u ≡ M = ap (λ o. w.body_rows S own x mode o u) (ap (slice_get P.funs) sd.0 ∙ there) in
        let N = w.group_rows S own x mode us in
        subst (λ o. Bodies (body_of P (members P task.group) earlier budget o ∷ map body fs) (u ∷ us) k next) (sym there)
        (record {
          rows =
              map-append row_at (walked (group_sides sums (known_by J group) k)) (of_bodies sums J group (suc k) (map body fs) (hints_given (told_at x) after (map body fs)))
              ∙ (λ i. (ap (λ z. map row_at (walked z)) here ∙ one.rows) i ++ rest.rows i)
              ∙ ap (λ z. (M next).0 ++ (N z).0) (sym one.ends)
              ∙ ap (λ L. (w.both L N next).0) (sym made_one);
          ends = ap (λ L. (w.both L N next).1) made_one ∙ ap (λ z. (N z).1) one.ends ∙ rest.ends ∙ omega arith;
        })

    -- the target, of the positions from one on
    target_rows : (u : Unsolved) (g : NormFun) (s : Sides Sum) (place : ℕ) (test : ℕ → Bool) (from n : ℕ) → from + n ≤ size_of (g.result ∷ []) budget →
        s.result ≡ given (told_at x) u.result (size_of (g.result ∷ []) budget) → group_sides sums (known_by J group) J.function ≡ s →
        map row_at (of_target sums J group (filter test (range_with_len from n))) ≡ map (λ k. record { has = w.unknown S own x u.result k; asks = 0; right = pos 1 }) (filter test (range_with_len from n))
    target_rows u g s place test from zero l e h = refl
    target_rows u g s place test from (suc n) l e h = by (target_rows u g s place test (from + 1) n (omega (arith, l)) e h) (test from) where
      full : Full (size_of (g.result ∷ []) budget) s.result (w.unknown S own x u.result) none none
      full = subst (λ es. Full (size_of (g.result ∷ []) budget) es (w.unknown S own x u.result) none none) (sym e) (given_full x u.result (size_of (g.result ∷ []) budget))

      one : row_at (record { path = J.function ∷ []; index = from; left = at sums (group_sides sums (known_by J group) J.function).result from; right = sums.number 1 }) ≡ record { has = w.unknown S own x u.result from; asks = 0; right = pos 1 }
      one =
          (λ i. row_at (record { path = J.function ∷ []; index = from; left = (ap (λ (z : Sides Sum). at sums z.result from) h ∙ full.is from (omega (arith, l))) i; right = sums.number 1 }))
          ∙ ap (λ z. record { has = w.unknown S own x u.result from; asks = 0; right = z }) (omega (arith, ints))

      by : map row_at (of_target sums J group (filter test (range_with_len (from + 1) n))) ≡ map (λ k. record { has = w.unknown S own x u.result k; asks = 0; right = pos 1 }) (filter test (range_with_len (from + 1) n)) →
          (b : Bool) → map row_at (of_target sums J group (cond b (from ∷ filter test (range_with_len (from + 1) n)) (filter test (range_with_len (from + 1) n))))
          ≡ map (λ k. record { has = w.unknown S own x u.result k; asks = 0; right = pos 1 }) (cond b (from ∷ filter test (range_with_len (from + 1) n)) (filter test (range_with_len (from + 1) n)))
      by go true = λ i. one i ∷ go i
      by go false = go

    -- of a cost-free task
    reaches : (kind : Kind) → kind ≡ task.kind → HasTarget P (members P task.group) kind → J.function ≡ target_place (members P task.group) kind →
        map row_at (of_target sums J group (target_positions P d kind)) ≡ w.reach_rows S own x d kind
    reaches (t.With meter) e h fn = refl
    reaches (Free b f number) e h fn =
        let o = one_of S own x f h.0 (members P task.group) own group sides (once_of (members P task.group) ready) h.2 in
        let g = h.1 in let side = o.side g h.3 in
        let same : b ≡ budget = ap (budget_of d) e in
        let target = slice_index_or (targets g.result d) number [] in
        let s = slice_index_or group h.0 (record { args = []; result = [] }) in
        let here : group_sides sums (known_by J group) J.function ≡ s = ap (λ z. slice_index_or group z (record { args = []; result = [] })) (fn ∙ ap (λ z. unwrap_or z 0) h.2) in
        let test = λ (k : ℕ). list_any (alike (slice_index_or (index_list (g.result ∷ []) budget) k [])) target in
        ap (λ z. map row_at (of_target sums J group (positions_of d b number z))) h.3
        ∙ ap (λ b. map row_at (of_target sums J group (positions_of d b number (Some g)))) same
        ∙ target_rows o.one g s h.0 test 0 (size_of (g.result ∷ []) budget) (omega arith) side.1 here
        ∙ (λ i. w.rows_at_target S own x d f number (sym h.3 i) (sym o.alone i))

    made_is : HasTarget P (members P task.group) task.kind → (map row_at (given_conditions sums (told_at x) J) ≡ (s.made P d earlier task scale x).0) × ((s.made P d earlier task scale x).1 ≡ unknowns J)
    made_is target =
        let fs = members P task.group in let bs = map body fs in
        let n = length (sig_weights P budget fs) in
        let count : sides_count bs ≡ n = sym (weights_count fs ready) in
        let b = bodies fs own group 0 n ready sides (λ i. ap (λ z. slice_index_or group z (record { args = []; result = [] })) (zero_plus i)) in (
          map-append row_at (of_target sums J group J.target) (of_bodies sums J group 0 bs (hints_given (told_at x) (sides_count bs) bs))
              ∙ (λ i. reaches task.kind refl target refl i ++ (ap (λ z. map row_at (of_bodies sums J group 0 bs (hints_given (told_at x) z bs))) count ∙ b.rows) i),
          b.ends ∙ omega (arith, count),
        )

  -- a sum at one unknown
  abbrev coefficients : ℕ → Form → Sum
  coefficients u f = record { has = f.terms u; plus = f.plus; minus = f.minus }

  abbrev no_unknowns : Form → Sum
  no_unknowns f = record { has = 0; plus = f.plus; minus = f.minus }

  carries : (u : ℕ) → Carries forms sums (coefficients u)
  carries u = record { none = refl; plus = λ x y. refl; times = λ n x. refl; number = λ n. refl; less = λ n x. refl }

  carries_none : Carries forms sums no_unknowns
  carries_none = record { none = refl; plus = λ x y. refl; times = λ n x. same_sum _ _ _ _ _ _ (omega arith) refl refl; number = λ n. refl; less = λ n x. refl }

  one_if : (v u : ℕ) → one_at v u ≡ (if v == u then 1 else 0)
  one_if zero zero = refl
  one_if zero (suc u) = let e : (zero == suc u) ≡ false = grind (arith, nat_tests) in ap (λ b. if b then 1 else 0) (sym e)
  one_if (suc v) zero = let e : (suc v == zero) ≡ false = grind (arith, nat_tests) in ap (λ b. if b then 1 else 0) (sym e)
  one_if (suc v) (suc u) = one_if v u ∙ by (v == u) refl where
    by : (b : Bool) → (v == u) ≡ b → ◌≡◌ {A = ℕ} (if b then 1 else 0) (if suc v == suc u then 1 else 0)
    by true e = let t : (suc v == suc u) ≡ true = grind (arith, nat_tests, e) in ap (λ b. if b then 1 else 0) (sym t)
    by false e = let t : (suc v == suc u) ≡ false = grind (arith, nat_tests, e) in ap (λ b. if b then 1 else 0) (sym t)

  abbrev cs : List (Condition Form)
  cs = given_conditions forms unknown J

  map_two : (f : Form → Sum) (cs : List (Condition Form)) → map row_at (map (condition_to f) cs) ≡ map (λ c. row_at (condition_to f c)) cs
  map_two f [] = refl
  map_two f (c ∷ cs) = ap (λ l. row_at (condition_to f c) ∷ l) (map_two f cs)

  module _ (is : IsTask P d earlier task scale) where
    at_one : (u : ℕ) → (s.made P d earlier task scale (λ v. if v == u then 1 else 0)).0 ≡ map (λ c. row_at (condition_to (coefficients u) c)) cs
    at_one u =
        sym (made_is (λ v. if v == u then 1 else 0) is.0 is.1).0
        ∙ ap (λ give. map row_at (given_conditions sums give J)) (λ i v. record { has = sym (one_if v u) i; plus = 0; minus = 0 })
        ∙ ap (map row_at) (given_carry forms sums (coefficients u) unknown (carries u) J) ∙ map_two (coefficients u) cs

    at_none : (s.at_zero P d earlier task scale).0 ≡ map (λ c. row_at (condition_to no_unknowns c)) cs
    at_none =
        sym (made_is (λ u. 0) is.0 is.1).0 ∙ ap (map row_at) (given_carry forms sums no_unknowns unknown carries_none J) ∙ map_two no_unknowns cs

    count_is : (s.at_zero P d earlier task scale).1 ≡ unknowns J
    count_is = (made_is (λ u. 0) is.0 is.1).1

    item : (f : Condition Form → Row) (all rest : List (Condition Form)) (place : ℕ) (c : Condition Form) (other : Row) → ((i : ℕ) → slice_index_or (map f all) (place + i) other ≡ slice_index_or (map f (c ∷ rest)) i other) →
        slice_index_or (map f all) place other ≡ f c
    item f all rest place c other h = ap (λ z. slice_index_or (map f all) z other) (omega arith) ∙ h 0

    rows_from : (rest : List (Condition Form)) (place : ℕ) → ((f : Condition Form → Row) (other : Row) (i : ℕ) → slice_index_or (map f cs) (place + i) other ≡ slice_index_or (map f rest) i other) →
        s.sparse_rows P d earlier task scale place (map (λ c. row_at (condition_to no_unknowns c)) rest) ≡ map (row_of (unknowns J)) rest
    rows_from [] place h = refl
    rows_from (c ∷ rest) place h =
        let here : (u : ℕ) → s.coefficient P d earlier task scale place u ≡ pos (c.left.terms u) -ℤ pos (c.right.terms u) = λ u.
        ap (λ (r : Row). pos r.has -ℤ pos r.asks)
        (ap (λ l. slice_index_or l place (record { has = 0; asks = 0; right = pos 0 })) (at_one u)
        ∙ item (λ c. row_at (condition_to (coefficients u) c)) cs rest place c (record { has = 0; asks = 0; right = pos 0 }) (h (λ c. row_at (condition_to (coefficients u) c)) (record { has = 0; asks = 0; right = pos 0 }))) in
        (λ i. record { terms = terms_of (count_is i) (λ u. here u i); right = pos (c.right.plus + c.left.minus) -ℤ pos (c.left.plus + c.right.minus) }
        ∷ rows_from rest (place + 1) (λ f other i. ap (λ z. slice_index_or (map f cs) z other) (omega arith) ∙ h f other (suc i)) i)

    pub system_is : s.system P d earlier task scale ≡ system_of J (s.system P d earlier task scale).weights
    system_is = λ i. record {
      unknowns = count_is i;
      rows = filter is_kept ((ap (s.sparse_rows P d earlier task scale 0) at_none ∙ rows_from cs 0 (λ f other i. ap (λ z. slice_index_or (map f cs) z other) (zero_plus i))) i);
      weights = (s.system P d earlier task scale).weights;
    }

pub systems_are_walked : SystemsAreWalked
systems_are_walked P d earlier task scale is = system_is P d earlier task scale is
