-- The normal form of a typed program, with its groups, is ordered.
use Rattle.std.proofs.Common.{◌≡◌, refl, ap, sym, ◌∙◌, arith, inl, inr, ⊎_elim, subst}
use Rattle.std.proofs.lemmas.Bool.{and_parts, or_cases, or_right, or_left}
use Rattle.std.specs.Prelude.{ℕ, zero, suc, ◌<◌, ◌⊎◌, ◌||◌, ◌&&◌, nat_eq, Bool, true, false, cond, List, [], ◌∷◌, ◌++◌, map, take, length, slice_get, slice_index_or, Option, None, Some}
use Rattle.std.specs.List.{Contains, filter, range_with_len}
use Rattle.std.specs.Option.{unwrap_or}
use Rattle.std.proofs.lemmas.Bool.Decides.{nat_tests}
use Rattle.std.proofs.lemmas.List.Elements.{Contains-append_cases}
use Rattle.std.proofs.lemmas.Option.{slice_get_within}
use Rattle.raml_syntax.specs.Tree.{Type', Function, Prog}
use Rattle.normal_spec.specs.Norm as n
use Rattle.normal_spec.specs.Norm.{Norm, NormFun, NormProg}
use Rattle.normal_spec.specs.Context.{Context, inners, others}
use Rattle.normal_spec.specs.Two.{norm_fun, norm}
use Rattle.normal_spec.specs.Uses.{Uses}
use Rattle.normal_spec.proofs.Keep.{normal_forms_keep}
use Rattle.call_groups.specs.Calls.{is_called, calls_from, calls, callees, calls_of}
use Rattle.call_groups.specs.Groups.{here, there, Ascends, AreInOrder}
use Rattle.call_groups.proofs.Leads.{reaches_low, reaches_more}
use Rattle.cost_free.specs.declared.task.Meter.TheVariants.{Ticks}
use Rattle.cost_free.specs.Task.{With, Task}
use Rattle.cost_free.specs.Blocked.{is_among, row, in_any, blocks, blocked}
use Rattle.cost_free.specs.Laws.{BlockersAreLeast}
use Rattle.annot_types.specs.Program.{called_in}
use Rattle.annot_types.proofs.Lists.{length_map, map_get, map_inv}
use Rattle.rules_systems_laws.specs.Ordered.{AreApart}
use Rattle.rules_spec.proofs.SameCalls.{same_blocker}
use Rattle.infer_systems_laws.specs.Laws.{NormalsAreOrdered}

-- Truths

same_of : (f g : ℕ) → nat_eq f g ≡ true → f ≡ g
same_of f g e = grind (arith, nat_tests, e)

differ : (f g : ℕ) → f < g → nat_eq f g ≡ false
differ f g l = grind (arith, nat_tests, l)

same_is : (f g : ℕ) → f ≡ g → nat_eq f g ≡ true
same_is f g e = grind (arith, nat_tests, e)

-- Members of lists

any_append : (f : ℕ) (xs ys : List ℕ) → is_among f (xs ++ ys) ≡ true → (is_among f xs ≡ true) ⊎ (is_among f ys ≡ true)
any_append f [] ys e = inr e
any_append f (x ∷ xs) ys e = ⊎_elim (λ h. inl (or_left (nat_eq f x) (is_among f xs) h))
    (λ h. ⊎_elim (λ g. inl (or_right (nat_eq f x) (is_among f xs) g)) (λ g. inr g) (any_append f xs ys h)) (or_cases (nat_eq f x) (is_among f (xs ++ ys)) e)

among_contains : (f : ℕ) (fs : List ℕ) → is_among f fs ≡ true → Contains fs f
among_contains f [] e = absurd (cc)
among_contains f (g ∷ fs) e = ⊎_elim
    (λ h. (0, omega arith, sym (same_of f g h)))
    (λ h. let c = among_contains f fs h in (suc c.0, omega (arith, c.1), c.2)) (or_cases (nat_eq f g) (is_among f fs) e)

contains_among : (f : ℕ) (fs : List ℕ) → Contains fs f → is_among f fs ≡ true
contains_among f fs c = at fs c.0 c.1 c.2 where
  at : (fs : List ℕ) (k : ℕ) → k < length fs → slice_index_or fs k f ≡ f → is_among f fs ≡ true
  at [] k l e = absurd (omega (arith, l))
  at (g ∷ fs) zero l e = or_left (nat_eq f g) (is_among f fs) (same_is f g (sym e))
  at (g ∷ fs) (suc k) l e = or_right (nat_eq f g) (is_among f fs) (at fs k (omega (arith, l)) e)

kept : (p : ℕ → Bool) (f : ℕ) (fs : List ℕ) → is_among f (filter p fs) ≡ true → p f ≡ true
kept p f [] e = absurd (cc)
kept p f (g ∷ fs) e = by (p g) refl e (kept p f fs) where
  by : (b : Bool) → p g ≡ b → is_among f (cond b (g ∷ filter p fs) (filter p fs)) ≡ true → (is_among f (filter p fs) ≡ true → p f ≡ true) → p f ≡ true
  by true h e go = ⊎_elim (λ s. ap p (same_of f g s) ∙ h) go (or_cases (nat_eq f g) (is_among f (filter p fs)) e)
  by false h e go = go e

-- What a body calls is there

module _ (N : NormProg) (f : ℕ) where
  abbrev IsThere : Type 0
  IsThere = (g : NormFun) × (slice_get N f ≡ Some g)

  two : (a b : Norm) → (is_among f (called_in a) ≡ true → IsThere) → (is_among f (called_in b) ≡ true → IsThere) → is_among f (called_in a ++ called_in b) ≡ true → IsThere
  two a b h g e = ⊎_elim h g (any_append f (called_in a) (called_in b) e)

  called_there : (e : Norm) (C : Context) (T : Type') → Uses N C e T → is_among f (called_in e) ≡ true → IsThere
  called_there (n.Call k g xs) C T u h = (u.0, ap (slice_get N) (⊎_elim (λ s. same_of f g s) (λ z. absurd (cc)) (or_cases (nat_eq f g) false h)) ∙ u.1)
  called_there (n.Let k x A a b) C T u h = two a b (called_there a (inners a C) A u.1) (called_there b (others a C ++ (x, A) ∷ []) T u.2) h
  called_there (n.Split k x p q a) C T u h = called_there a _ T u.4 h
  called_there (n.If k x a b) C T u h = two a b (called_there a _ T u.1) (called_there b _ T u.2) h
  called_there (n.CaseList k x a y z b) C T u h = two a b (called_there a _ T u.3) (called_there b _ T u.4) h
  called_there (n.CaseTree k x a w l r b) C T u h = two a b (called_there a _ T u.3) (called_there b _ T u.4) h
  called_there (n.CaseOption k x a w b) C T u h = two a b (called_there a _ T u.3) (called_there b _ T u.4) h
  called_there (n.Tick k i a) C T u h = called_there a C T u h
  called_there (n.Share k x p q a) C T u h = called_there a _ T u.3 h
  called_there (n.Drop k x a) C T u h = called_there a _ T u.2 h
  called_there (n.Var k x) C T u h = absurd (cc)
  called_there (n.Number k i) C T u h = absurd (cc)
  called_there (n.Truth k b) C T u h = absurd (cc)
  called_there (n.Nil k) C T u h = absurd (cc)
  called_there (n.Leaf k) C T u h = absurd (cc)
  called_there (n.Nothing k) C T u h = absurd (cc)
  called_there (n.Arith k op x y) C T u h = absurd (cc)
  called_there (n.Compare k op x y) C T u h = absurd (cc)
  called_there (n.Not k x) C T u h = absurd (cc)
  called_there (n.Pair k x y) C T u h = absurd (cc)
  called_there (n.Cons k x y) C T u h = absurd (cc)
  called_there (n.Node k x y z) C T u h = absurd (cc)
  called_there (n.Just k x) C T u h = absurd (cc)

-- What a body in normal form calls, that of the source calls

-- a task that waits for the callee, exactly where the function calls it
abbrev waiting : Task
waiting = record { group = 1; kind = With Ticks }

abbrev apart : ℕ → ℕ → List (List ℕ)
apart callee f = (callee ∷ []) ∷ (f ∷ []) ∷ []

module _ (least : BlockersAreLeast) (f callee : ℕ) where
  waits : (rows : List (List ℕ)) → callee < length rows → is_among callee (row rows f) ≡ true → blocked (apart callee f) rows waiting [] ≡ None → ⊥
  waits rows l e none =
      let self : nat_eq callee callee ≡ true = same_is callee callee refl in
      let in_the_way : blocks (apart callee f) rows 1 Ticks [] callee ≡ true = (λ i. ((e i || false) && ((self i || false) || false)) && true) in
      let not_there = least.none (apart callee f) rows 1 Ticks [] callee none l in
      absurd (let wrong : true ≡ false = sym in_the_way ∙ not_there in cc)

  waited : (rows : List (List ℕ)) (b : ℕ) → blocked (apart callee f) rows waiting [] ≡ Some b → is_among callee (row rows f) ≡ true
  waited rows b e =
      let way = (least.some (apart callee f) rows 1 Ticks [] b e).in_the_way in
      let parts : ((is_among b (row rows f) || false) ≡ true) × (((nat_eq b callee || false) || false) ≡ true) = and_parts _ _ (and_parts _ _ way).0 in
      let same = same_of b callee (⊎_elim (λ s. ⊎_elim (λ t. t) (λ z. absurd (cc)) (or_cases (nat_eq b callee) false s)) (λ z. absurd (cc)) (or_cases (nat_eq b callee || false) false parts.1)) in
      let called = ⊎_elim (λ s. s) (λ z. absurd (cc)) (or_cases (is_among b (row rows f)) false parts.0) in
      ap (λ g. is_among g (row rows f)) (sym same) ∙ called

  same_called : (P : Prog) → callee < length P → is_among callee (row (map (λ (g : NormFun). called_in g.body) (norm P)) f) ≡ true → is_among callee (row (calls_of P) f) ≡ true
  same_called P l e = by (blocked (apart callee f) rows waiting []) refl where
    rows : List (List ℕ)
    rows = map (λ (g : NormFun). called_in g.body) (norm P)

    long : callee < length rows
    long = subst (λ n. callee < n) (sym (length_map (λ (g : NormFun). called_in g.body) (norm P) ∙ length_map (norm_fun P) P)) l

    by : (o : Option ℕ) → blocked (apart callee f) rows waiting [] ≡ o → is_among callee (row (calls_of P) f) ≡ true
    by None none = absurd (waits rows long e none)
    by (Some b) some = waited (calls_of P) b (sym (same_blocker P (apart callee f) waiting []) ∙ some)

-- Groups

module _ (P : Prog) where
  -- what a function of a group calls is of that group, or of one before
  in_order : (before : List ℕ) (groups : List (List ℕ)) → AreInOrder P before groups → (k f callee : ℕ) → is_among f (row groups k) ≡ true → calls P f callee ≡ true →
      ((is_among callee (row groups k) ≡ true) ⊎ (in_any callee (take k groups) ≡ true)) ⊎ Contains before callee
  in_order before [] o k f callee m c = absurd (cc)
  in_order before (group ∷ rest) o zero f callee m c =
      let next = o.0 in
      let of = ((next.members f).0 (among_contains f group m)).0 in
      let led = reaches_more P of (there c here) in
      ⊎_elim (λ b. inr b) (λ back. inl (inl (contains_among callee group ((next.members callee).1 (led, back))))) (next.may_come.ready callee led)
  in_order before (group ∷ rest) o (suc k) f callee m c =
      ⊎_elim
      (λ h. ⊎_elim (λ own. inl (inl own)) (λ past. inl (inr (or_right (is_among callee group) (in_any callee (take k rest)) past))) h)
      (λ b. ⊎_elim (λ h. inr h) (λ h. inl (inr (or_left (is_among callee group) (in_any callee (take k rest)) (contains_among callee group h)))) (Contains-append_cases before group callee b))
      (in_order (before ++ group) rest o.1 k f callee m c)

-- functions in order differ
below : (f g : ℕ) (fs : List ℕ) → f < g → Ascends (g ∷ fs) → is_among f (g ∷ fs) ≡ false
below f g [] l a = (λ i. differ f g l i || false)
below f g (h ∷ fs) l a = (λ i. differ f g l i || below f h fs (omega (arith, l, a.0)) a.1 i)

are_apart : (fs : List ℕ) → Ascends fs → AreApart fs
are_apart [] a = tt
are_apart (f ∷ []) a = (refl, tt)
are_apart (f ∷ g ∷ fs) a = (below f g fs a.0 a.1, are_apart (g ∷ fs) a.1)

-- those of a group are functions
grouped : (P : Prog) (before : List ℕ) (groups : List (List ℕ)) → AreInOrder P before groups → (k : ℕ) → ((f : ℕ) → is_among f (row groups k) ≡ true → f < length P) × AreApart (row groups k)
grouped P before [] o k = (λ f e. absurd (cc), tt)
grouped P before (group ∷ rest) o zero =
    (λ f e. reaches_low P o.0.may_come.is_function ((o.0.members f).0 (among_contains f group e)).0, are_apart group o.0.ascends)
grouped P before (group ∷ rest) o (suc k) = grouped P (before ++ group) rest o.1 k

get_at : {X : Type 0} (xs : List X) (k : ℕ) → k < length xs → (x : X) × (slice_get xs k ≡ Some x)
get_at [] k l = absurd (omega (arith, l))
get_at (x ∷ xs) zero l = (x, refl)
get_at (x ∷ xs) (suc k) l = get_at xs k (omega (arith, l))

none_before : (f : ℕ) → Contains [] f → ⊥
none_before f c = omega (arith, c.1)

pub normals_are_ordered : BlockersAreLeast → NormalsAreOrdered
normals_are_ordered least P typed numbers groups grouping =
    record {
      uses = λ f g e. uses f g e;
      there = λ group f m. get_at (norm P) f (subst (λ n. f < n) (sym (length_map (norm_fun P) P)) ((grouped P [] groups.list grouping.in_order group).0 f m));
      apart = λ group. (grouped P [] groups.list grouping.in_order group).1;
      callees_first = λ group f g callee m e c.
          let source = map_inv (norm_fun P) P f g e in
          let callee_fun = called_there (norm P) callee g.body g.params g.result (uses f g e) c in
          let callee_source = map_inv (norm_fun P) P callee callee_fun.0 callee_fun.1 in
          let low = slice_get_within P callee callee_source.0 callee_source.1 in
          let row_is = ap (λ o. unwrap_or o []) (map_get (λ (g : NormFun). called_in g.body) (norm P) f g e) in
          let called = same_called least f callee P low (ap (is_among callee) row_is ∙ c) in
          let source_row = ap (λ o. unwrap_or o []) (map_get (λ (h : Function). callees P h.body) P f source.0 source.1) in
          let in_source = kept (λ g. is_called P g source.0.body) callee (range_with_len 0 (length P)) (ap (is_among callee) (sym source_row) ∙ called) in
          ⊎_elim (λ h. h) (λ b. absurd (none_before callee b)) (in_order P [] groups.list grouping.in_order group f callee m (ap (λ o. calls_from P o callee) source.1 ∙ in_source));
    } where
      uses : (f : ℕ) (g : NormFun) → slice_get (norm P) f ≡ Some g → Uses (norm P) g.params g.body g.result
      uses f g e =
          let source = map_inv (norm_fun P) P f g e in
          subst (λ g. Uses (norm P) g.params g.body g.result) source.2 (normal_forms_keep P typed numbers f source.0 source.1).normal.body
