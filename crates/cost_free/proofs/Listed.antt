-- Targets in their list.
use Rattle.std.proofs.Common.{◌≡◌, ℕ, zero, suc, ◌+◌, ◌-◌, ◌<◌, ◌≤◌, nat_eq, Bool, true, false, cond, List, [], ◌∷◌, ◌++◌, map, flat_map, filter, length, slice_get, get_or, Some, None, refl, sym, ap, ◌∙◌, arith}
use Rattle.std.specs.List.{range_with_len}
use Rattle.std.specs.Option.{option_map}
use Rattle.std.proofs.lemmas.Bool.Decides.{nat_tests}
use Rattle.std.proofs.lemmas.List.{map-append}
use Rattle.std.proofs.lemmas.Option.{slice_get_read}
use Rattle.raml_syntax.specs.Tree.{Type'}
use Rattle.base_poly.specs.Plain.{Plain, degrees, capped}
use Rattle.base_poly.specs.Indices.{tuples_up_to, by_degree, index_list}
use Rattle.base_poly.proofs.Capped.{capped_is}
use Rattle.cost_free.specs.Target as p
use Rattle.cost_free.specs.Target.{Target, degree_of, joined_targets, targets}
use Rattle.cost_free.specs.Joining.{joined_of, all_joined}
use Rattle.cost_free.specs.declared.joined.Joined.{Joined}

abbrev pub listed : List (List Plain) → List Joined → List Target
listed units joined = map (λ t. t ∷ []) units ++ map (λ (j : p.Joined). j.target) (all_joined joined)

-- behind the tuples
behind : (units : List (List Plain)) (ts : List Target) (number k : ℕ) → length units ≤ number → k ≡ number - length units → slice_get (map (λ t. t ∷ []) units ++ ts) number ≡ slice_get ts k
behind [] ts number k low e = let same : number ≡ k = omega (arith, e) in ap (slice_get ts) same
behind (u ∷ us) ts zero k low e = absurd (omega (arith, low))
behind (u ∷ us) ts (suc number) k low e = behind us ts number k (omega (arith, low)) (omega (arith, e))

joined_at : (units : List (List Plain)) (joined : List Joined) (number k : ℕ) → length units ≤ number → k ≡ number - length units
    → slice_get (listed units joined) number ≡ option_map (λ j. (joined_of j).target) (slice_get joined k)
joined_at units joined number k low e = behind units (map (λ (j : p.Joined). j.target) (all_joined joined)) number k low e ∙ targets_at joined k
  where
    targets_at : (js : List Joined) (k : ℕ) → slice_get (map (λ (j : p.Joined). j.target) (all_joined js)) k ≡ option_map (λ j. (joined_of j).target) (slice_get js k)
    targets_at [] k = refl
    targets_at (j ∷ js) zero = refl
    targets_at (j ∷ js) (suc k) = targets_at js k

pub joined_there : (units : List (List Plain)) (joined : List Joined) (all : List Target) (j : Joined) (number k : ℕ) → all ≡ listed units joined → length units ≤ number
    → k ≡ number - length units → k < length joined → j ≡ get_or joined k j → Some (joined_of j).target ≡ slice_get all number
joined_there units joined all j number k is low e there look =
    sym
    (ap (λ ts. slice_get ts number) is
    ∙ joined_at units joined number k low e
    ∙ ap (option_map (λ j. (joined_of j).target)) (slice_get_read joined (length joined) k j refl there look))

pub none_there : (units : List (List Plain)) (joined : List Joined) (all : List Target) (number k : ℕ) → all ≡ listed units joined → length units ≤ number
    → k ≡ number - length units → length joined ≤ k → None ≡ slice_get all number
none_there units joined all number k is low e past =
    sym (ap (λ ts. slice_get ts number) is ∙ joined_at units joined number k low e ∙ ap (option_map (λ j. (joined_of j).target)) (gone joined k past))
  where
    gone : (js : List Joined) (k : ℕ) → length js ≤ k → slice_get js k ≡ None
    gone [] k past = refl
    gone (j ∷ js) zero past = absurd (omega (arith, past))
    gone (j ∷ js) (suc k) past = gone js k (omega (arith, past))

-- the degrees of all
degrees_listed : (units : List (List Plain)) (joined : List Joined) →
    map (λ t. capped (degree_of t)) (listed units joined) ≡ map (λ t. capped (degrees t)) units ++ map (λ j. capped (degree_of (joined_of j).target)) joined
degrees_listed [] joined = of_joined joined
  where
    of_joined : (js : List Joined) →
        map (λ t. capped (degree_of t)) (map (λ (j : p.Joined). j.target) (all_joined js)) ≡ map (λ j. capped (degree_of (joined_of j).target)) js
    of_joined [] = refl
    of_joined (j ∷ js) = ap (λ l. capped (degree_of (joined_of j).target) ∷ l) (of_joined js)
degrees_listed (u ∷ us) joined = ap (λ l. capped (degrees u) ∷ l) (degrees_listed us joined)

-- those of the tuples, by their degrees
graded : (g : ℕ) → g ≤ 255 → (ts : List (List Plain)) → filter (λ n. nat_eq n g) (map degrees ts) ≡ map (λ t. capped (degrees t)) (filter (λ t. nat_eq (degrees t) g) ts)
graded g low [] = refl
graded g low (t ∷ ts) = by (nat_eq (degrees t) g) refl (graded g low ts)
  where
    by : (b : Bool) → nat_eq (degrees t) g ≡ b → filter (λ n. nat_eq n g) (map degrees ts) ≡ map (λ t. capped (degrees t)) (filter (λ t. nat_eq (degrees t) g) ts) →
        cond b (degrees t ∷ filter (λ n. nat_eq n g) (map degrees ts)) (filter (λ n. nat_eq n g) (map degrees ts))
        ≡ map (λ t. capped (degrees t)) (cond b (t ∷ filter (λ t. nat_eq (degrees t) g) ts) (filter (λ t. nat_eq (degrees t) g) ts))
    by true e more = let is : degrees t ≡ g = grind (arith, nat_tests) in λ i. sym (capped_is (degrees t) (omega (arith, is, low))) i ∷ more i
    by false e more = more

all_graded : (n from : ℕ) → from + n ≤ 256 → (ts : List (List Plain)) →
    flat_map (λ g. filter (λ n. nat_eq n g) (map degrees ts)) (range_with_len from n) ≡ map (λ t. capped (degrees t)) (by_degree n from ts)
all_graded zero from low ts = refl
all_graded (suc n) from low ts =
    let next : from + 1 ≡ 1 + from = omega arith in
    (λ i. graded from (omega (arith, low)) ts i ++ all_graded n (from + 1) (omega (arith, low)) ts i)
    ∙ ap (λ k. map (λ t. capped (degrees t)) (filter (λ t. nat_eq (degrees t) from) ts) ++ map (λ t. capped (degrees t)) (by_degree n k ts)) next
    ∙ sym (map-append (λ t. capped (degrees t)) (filter (λ t. nat_eq (degrees t) from) ts) (by_degree n (1 + from) ts))

-- those of a type's tuples, and those of the joined targets behind them
pub degrees_made : (A : Type') (d : ℕ) (units found : List ℕ) (joined : List Joined) → d ≤ 255 → units ≡ map degrees (tuples_up_to (A ∷ []) d) →
    map (λ (j : p.Joined). j.target) (all_joined joined) ≡ joined_targets A d →
    found ≡ flat_map (λ g. filter (λ n. nat_eq n g) units) (range_with_len 0 (d + 1)) ++ map (λ j. capped (degree_of (joined_of j).target)) joined →
    found ≡ map (λ t. capped (degree_of t)) (targets A d)
degrees_made A d units found joined low is same made =
    let last : d + 1 ≡ 1 + d = omega arith in
    made
    ∙ (λ i. flat_map (λ g. filter (λ n. nat_eq n g) (is i)) (range_with_len 0 (last i)) ++ map (λ j. capped (degree_of (joined_of j).target)) joined)
    ∙ ap (λ l. l ++ map (λ j. capped (degree_of (joined_of j).target)) joined) (all_graded (1 + d) 0 (omega (arith, low)) (tuples_up_to (A ∷ []) d))
    ∙ sym (degrees_listed (index_list (A ∷ []) d) joined)
    ∙ ap (λ l. map (λ t. capped (degree_of t)) (map (λ t. t ∷ []) (index_list (A ∷ []) d) ++ l)) same
