-- Programs of few functions have few groups, and groups have few functions.
use Rattle.std.proofs.Common.{◌≡◌, ◌≢◌, refl, ap, sym, ◌∙◌, subst, arith}
use Rattle.std.specs.Prelude.{ℕ, zero, suc, ◌+◌, ◌≤◌, ◌<◌, ◌||◌, nat_eq, Bool, true, false, List, [], ◌∷◌, ◌++◌, map, length, slice_get}
use Rattle.std.specs.List.{Contains}
use Rattle.std.proofs.lemmas.Bool.Decides.{nat_tests}
use Rattle.std.proofs.lemmas.List.Elements.{Contains-append_left, Contains-append_right}
use Rattle.std.proofs.lemmas.List.{length-map}
use Rattle.raml_syntax.specs.Tree.{Prog}
use Rattle.call_groups.specs.Groups.{here, AreInOrder, IsGrouping}
use Rattle.share_normal.specs.Program.{Kept, source_in}
use Rattle.cost_free.specs.Blocked.{row, is_among}
use Rattle.annot_types.specs.Program.{members}
use Rattle.annot_types.specs.Certificate.{Block}
use Rattle.rules_spec.specs.Jobs as j
use Rattle.rules_plan.specs.declared.body.Body.{Body}
use Rattle.rules_plan.specs.Read.{program_in, body_of, group_bodies}
use Rattle.cert_check.proofs.Grouped.{AreFunctions, members_are}

abbrev one_if : Bool → ℕ
one_if true = 1
one_if false = 0

-- how many of the functions below n are among these
count : ℕ → List ℕ → ℕ
count zero fs = 0
count (suc k) fs = one_if (is_among k fs) + count k fs

count_low : (n : ℕ) (fs : List ℕ) → count n fs ≤ n
unfolding count
count_low zero fs = omega arith
count_low (suc k) fs = by (is_among k fs) (count_low k fs) where
  by : (b : Bool) → count k fs ≤ k → one_if b + count k fs ≤ suc k
  by true h = omega (arith, h)
  by false h = omega (arith, h)

-- with one more they are more
module _ (fs gs : List ℕ) (more : (k : ℕ) → is_among k fs ≡ true → is_among k gs ≡ true) where
  step : (k : ℕ) → one_if (is_among k fs) ≤ one_if (is_among k gs)
  step k = by (is_among k fs) (is_among k gs) (more k) where
    by : (a b : Bool) → (a ≡ true → b ≡ true) → one_if a ≤ one_if b
    by true true h = omega arith
    by true false h = absurd (let wrong = h refl in cc)
    by false b h = omega arith

  no_less : (n : ℕ) → count n fs ≤ count n gs
  unfolding count
  no_less zero = omega arith
  no_less (suc k) = let here = step k in let rest = no_less k in omega (arith, here, rest)

  grows : (f n : ℕ) → f < n → is_among f fs ≡ false → is_among f gs ≡ true → count n fs < count n gs
  unfolding count
  grows f zero l none one = absurd (omega (arith, l))
  grows f (suc k) l none one = by (nat_eq f k) refl (λ less. grows f k less none one) where
    by : (b : Bool) → nat_eq f k ≡ b → (f < k → count k fs < count k gs) → one_if (is_among k fs) + count k fs < one_if (is_among k gs) + count k gs
    by true e rest =
        let same : f ≡ k = grind (arith, nat_tests, e) in
        let before : one_if (is_among k fs) ≡ 0 = ap one_if (ap (λ k. is_among k fs) (sym same) ∙ none) in
        let now : one_if (is_among k gs) ≡ 1 = ap one_if (ap (λ k. is_among k gs) (sym same) ∙ one) in
        let less = no_less k in omega (arith, before, now, less)
    by false e rest =
        let differ : f ≢ k = grind (arith, nat_tests, e) in
        let here = step k in
        let less = rest (omega (arith, l, differ)) in omega (arith, here, less)

among_first : (f : ℕ) (fs : List ℕ) → is_among f (f ∷ fs) ≡ true
among_first f fs = let same : nat_eq f f ≡ true = grind (arith, nat_tests) in ap (λ b. b || is_among f fs) same

among_more : (g f : ℕ) (fs : List ℕ) → is_among f fs ≡ true → is_among f (g ∷ fs) ≡ true
among_more g f fs e = by (nat_eq f g) where
  by : (b : Bool) → (b || is_among f fs) ≡ true
  by true = refl
  by false = e

-- functions that are named once
named_once : (n : ℕ) (fs : List ℕ) → AreFunctions n fs → length fs ≤ count n fs
unfolding AreFunctions
named_once n [] h = omega arith
named_once n (f ∷ fs) h =
    let rest = named_once n fs h.2 in
    let more = grows fs (f ∷ fs) (λ k. among_more f k fs) f n h.0 h.1 (among_first f fs) in
    omega (arith, rest, more)

pub members_few : (P : Prog) (groups : List (List ℕ)) → AreInOrder P [] groups → (k : ℕ) → length (row groups k) ≤ length P
members_few P groups h k =
    let once = named_once (length P) (row groups k) (members_are P [] groups h k) in
    let low = count_low (length P) (row groups k) in
    omega (arith, once, low)

-- the least functions of groups that come next: none of them came before
record Leasts (P : Prog) (before : List ℕ) (groups : List (List ℕ)) : Type 0 where
  funs : List ℕ
  as_many : length funs ≡ length groups
  functions : AreFunctions (length P) funs
  new : (f : ℕ) → Contains before f → is_among f funs ≡ false

leasts : (P : Prog) (before : List ℕ) (groups : List (List ℕ)) → AreInOrder P before groups → Leasts P before groups
unfolding AreFunctions
leasts P before [] h = record { funs = []; as_many = refl; functions = tt; new = λ f k. refl }
leasts P before (group ∷ groups) h =
    let first = h.0 in
    let rest = leasts P (before ++ group) groups h.1 in
    record {
      funs = first.least ∷ rest.funs;
      as_many = ap suc rest.as_many;
      functions = (
        first.may_come.is_function,
        rest.new first.least (Contains-append_right before group first.least ((first.members first.least).1 (here, here))),
        rest.functions,
      );
      new = λ f k. apart f first.least rest.funs (λ e. first.may_come.new (subst (Contains before) e k)) (rest.new f (Contains-append_left before group f k));
    } where
      apart : (f g : ℕ) (fs : List ℕ) → f ≢ g → is_among f fs ≡ false → is_among f (g ∷ fs) ≡ false
      apart f g fs differ e = let no : nat_eq f g ≡ false = grind (arith, nat_tests, differ) in ap (λ b. b || is_among f fs) no ∙ e

pub groups_few : (P : Prog) (groups : List (List ℕ)) → AreInOrder P [] groups → length groups ≤ length P
groups_few P groups h =
    let first = leasts P [] groups h in
    let once = named_once (length P) first.funs first.functions in
    let low = count_low (length P) first.funs in
    let many = first.as_many in
    omega (arith, once, low, many)

-- So a kept program has at most 256 of each.
module _ (kept : Kept) (small : length (source_in kept) ≤ 256) (grouping : IsGrouping (source_in kept) kept.groups) where
  pub kept_groups_few : length kept.groups.list ≤ 256
  kept_groups_few =
      let few = groups_few (source_in kept) kept.groups.list grouping.in_order in
      omega (arith, few, small)

  pub kept_members_few : (group : ℕ) → length (members (program_in kept) group) ≤ 256
  kept_members_few group =
      let few = members_few (source_in kept) kept.groups.list grouping.in_order group in
      omega (arith, few, small)

  pub kept_bodies_few : (group budget : ℕ) (blocks : List Block) (bodies : List Body) → map body_of bodies ≡ group_bodies (program_in kept) group blocks budget → length bodies ≤ 256
  kept_bodies_few group budget blocks bodies e =
      let few = kept_members_few group in
      let P = program_in kept in
      let same = sym (length-map bodies body_of) ∙ ap length e ∙ length-map (members P group) (λ f. j.body_of P (members P group) blocks budget (slice_get P.funs f)) in
      omega (arith, few, same)
