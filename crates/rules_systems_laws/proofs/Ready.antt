-- What the system of a task asks for is there, over blocks of the right shape.
use Rattle.std.proofs.Common.{◌≡◌, ◌<◌, inl, ⊎_elim, ℕ, zero, suc, nat_eq, cond, not, ◌||◌, ◌&&◌, Bool, true, false, List, [], ◌∷◌, map, length, take, slice_get, Option, Some, None, refl, sym, ap, ◌∙◌, subst, arith}
use Rattle.std.specs.Option.{option_map, unwrap_or}
use Rattle.std.specs.List.{list_any}
use Rattle.std.proofs.lemmas.Bool.{and_parts, or_cases, eqb-true}
use Rattle.normal_spec.specs.Norm.{NormFun}
use Rattle.cost_free.specs.declared.task.Meter.{Meter}
use Rattle.cost_free.specs.declared.task.Done.{Done}
use Rattle.cost_free.specs.declared.task.Done.TheVariants as d
use Rattle.cost_free.specs.Task as k
use Rattle.cost_free.specs.Task.{Kind, Free, Task, Outcome}
use Rattle.cost_free.specs.Blocked.{is_among, row, is_for_meter, pays_for, in_any, has_bound, is_called, blocked}
use Rattle.cost_free.specs.Laws.{BlockersAreLeast}
use Rattle.annot_types.specs.Program.{Program, members, called_in, calls, blocker_of}
use Rattle.annot_types.specs.Certificate as c
use Rattle.annot_types.specs.Certificate.{Sig, Body, Solved, Block, sigs_of, done_as, outcome}
use Rattle.annot_types.specs.Signature.{sig_among, sig_in, or_else, cost_sig}
use Rattle.annot_types.specs.Rules.{Mode, With, Own, Past, Setting}
use Rattle.annot_types.specs.Holds.{mode_of}
use Rattle.annot_types.specs.System.{unsigned}
use Rattle.rules_spec.specs.Planned.{place_in}
use Rattle.rules_spec.specs.Systems.{PaidFor, AllPaid, IsReady, AreReady, HasTarget}
use Rattle.annot_types.proofs.Lists.{some_is, some_none, map_get, map_inv}
use Rattle.rules_systems_laws.specs.Ordered.{AreApart, IsOrdered}
use Rattle.rules_systems_laws.specs.Shaped.{HasNumber, IsSigned, AreSigned, ShapedAreTasks}
use Rattle.rules_systems_laws.proofs.Scheduled.{among_is, targets_are_numbered, numbered}

-- Truths

-- of three truths, the first two of which hold, and which do not all hold
last_false : (a b e : Bool) → a ≡ true → b ≡ true → ((a && b) && not e) ≡ false → e ≡ true
last_false true true true p q r = refl
last_false true true false p q r = absurd (cc)
last_false true false e p q r = absurd (cc)
last_false false b e p q r = absurd (cc)

-- Lists

pub is_later : (y x : ℕ) (fs : List ℕ) → is_among y fs ≡ true → is_among y (x ∷ fs) ≡ true
is_later y x fs e = by (nat_eq y x) where
  by : (b : Bool) → (b || is_among y fs) ≡ true
  by true = refl
  by false = e

any_true : (p : ℕ → Bool) (f : ℕ) (gs : List ℕ) → is_among f gs ≡ true → p f ≡ true → list_any p gs ≡ true
any_true p f [] e h = absurd (cc)
any_true p f (g ∷ gs) e h = ⊎_elim
    (λ s. (λ i. p (sym (eqb-true f g s) i) || list_any p gs) ∙ (λ i. h i || list_any p gs))
    (λ r. by (p g) (any_true p f gs r h)) (or_cases (nat_eq f g) (is_among f gs) e)
  where
    by : (b : Bool) → list_any p gs ≡ true → (b || list_any p gs) ≡ true
    by true q = refl
    by false q = q

any_place : {X : Type 0} (p : X → Bool) (xs : List X) → list_any p xs ≡ true → (place : ℕ) × (x : X) × (slice_get xs place ≡ Some x) × (p x ≡ true)
any_place p [] e = absurd (cc)
any_place p (x ∷ xs) e = ⊎_elim (λ h. (0, x, refl, h)) (λ r. let q = any_place p xs r in (suc q.0, q.1, q.2, q.3)) (or_cases (p x) (list_any p xs) e)

taken_there : {X : Type 0} (xs : List X) (n k : ℕ) (x : X) → slice_get (take n xs) k ≡ Some x → slice_get xs k ≡ Some x
taken_there xs zero k x e = absurd (cc)
taken_there [] (suc n) k x e = absurd (cc)
taken_there (y ∷ xs) (suc n) zero x e = e
taken_there (y ∷ xs) (suc n) (suc k) x e = taken_there xs n k x e

inside : {X : Type 0} (xs : List X) (k : ℕ) (x : X) → slice_get xs k ≡ Some x → k < length xs
inside [] k x e = absurd (cc)
inside (y ∷ xs) zero x e = omega arith
inside (y ∷ xs) (suc k) x e = let l = inside xs k x e in omega (arith, l)

place_of : (gs : List ℕ) (f : ℕ) → is_among f gs ≡ true → (place : ℕ) × (place_in gs f ≡ Some place)
place_of [] f e = absurd (cc)
place_of (g ∷ gs) f e = by (nat_eq f g) refl (place_of gs f)
  where
    by : (b : Bool) → nat_eq f g ≡ b → (is_among f gs ≡ true → (place : ℕ) × (place_in gs f ≡ Some place)) → (place : ℕ) × (cond b (Some 0) (option_map suc (place_in gs f)) ≡ Some place)
    by true q go = (0, refl)
    by false q go = let r = go ((λ i. sym q i || is_among f gs) ∙ e) in (suc r.0, ap (option_map suc) r.1)

-- Signatures

-- where there are as many signatures as functions, each function has one
sig_there : (f : ℕ) (fs : List ℕ) (ss : List Sig) → length ss ≡ length fs → is_among f fs ≡ true → (s : Sig) × (sig_among fs ss f ≡ Some s)
sig_there f [] ss n e = absurd (cc)
sig_there f (g ∷ fs) [] n e = absurd (omega (arith, n))
sig_there f (g ∷ fs) (s ∷ ss) n e = by (nat_eq f g) refl (sig_there f fs ss (omega (arith, n)))
  where
    by : (b : Bool) → nat_eq f g ≡ b → (is_among f fs ≡ true → (s : Sig) × (sig_among fs ss f ≡ Some s)) → (t : Sig) × (cond b (Some s) (sig_among fs ss f) ≡ Some t)
    by true q go = (s, refl)
    by false q go = go ((λ i. sym q i || is_among f fs) ∙ e)

cost_there : (P : Program) (meter : Meter) (f : ℕ) (bs : List Block) (place : ℕ) (block : Block) (s : Sig) → slice_get bs place ≡ Some block → is_for_meter meter block.task.kind ≡ true →
    sig_in P block f ≡ Some s → (t : Sig) × (cost_sig P meter bs f ≡ Some t)
cost_there P meter f [] place block s e of sig = absurd (cc)
cost_there P meter f (b ∷ bs) zero block s e of sig =
    let same = some_is b block e in (
      s,
      (λ i. or_else (cond (is_for_meter meter (same i).task.kind) (sig_in P (same i) f) None) (cost_sig P meter bs f)) ∙ (λ i. or_else (cond (of i) (sig_in P block f) None) (cost_sig P meter bs f))
          ∙ (λ i. or_else (sig i) (cost_sig P meter bs f)),
    )
cost_there P meter f (b ∷ bs) (suc place) block s e of sig =
    let rest = cost_there P meter f bs place block s e of sig in by (cond (is_for_meter meter b.task.kind) (sig_in P b f) None) rest
  where
    by : (o : Option Sig) → (t : Sig) × (cost_sig P meter bs f ≡ Some t) → (t : Sig) × (or_else o (cost_sig P meter bs f) ≡ Some t)
    by None rest = rest
    by (Some u) rest = (u, refl)

-- an outcome that pays is of a solved block of the meter
paying : (meter : Meter) (task : Task) (done : Done) → pays_for meter (task, done) ≡ true → (is_for_meter meter task.kind ≡ true) × (done ≡ d.Solved)
paying meter task d.Solved e = (e, refl)
paying meter task d.Refuted e = absurd (cc)
paying meter task d.Calls e = absurd (cc)

-- so has a solved block that is signed
solved_sig : (P : Program) (f : ℕ) (task : Task) (body : Body) → IsSigned P (record { task = task; body = body }) → done_as body ≡ d.Solved → is_among f (members P task.group) ≡ true →
    (s : Sig) × (sig_in P (record { task = task; body = body }) f ≡ Some s)
solved_sig P f task (Solved sigs hints) n e member = sig_there f (members P task.group) sigs n member
solved_sig P f task (c.Refuted farkas) n e member = absurd (cc)
solved_sig P f task (c.Calls fun) n e member = absurd (cc)

module _ (least : BlockersAreLeast) (P : Program) (degree : ℕ) (earlier : List Block) (task : Task) (scale : ℕ) (ordered : IsOrdered P) (signed : AreSigned P earlier)
    (tried : blocker_of P task (map outcome earlier) ≡ None) where
  abbrev group : List ℕ
  group = members P task.group

  -- where a function has a bound, there is a signature
  bound_sig : (meter : Meter) (f : ℕ) → has_bound P.groups meter (map outcome earlier) f ≡ true → (s : Sig) × (cost_sig P meter earlier f ≡ Some s)
  bound_sig meter f e =
      let o = any_place (λ (o : Outcome). pays_for meter o && is_among f (row P.groups o.0.group)) (map outcome earlier) e in
      let b = map_inv outcome earlier o.0 o.1 o.2 in
      let both = and_parts _ _ (subst (λ (o : Outcome). (pays_for meter o && is_among f (row P.groups o.0.group)) ≡ true) (sym b.2) o.3) in
      let pays = paying meter b.0.task (done_as b.0.body) both.0 in
      let sig = solved_sig P f b.0.task b.0.body (signed o.0 b.0 b.1) pays.1 both.1 in
      cost_there P meter f earlier o.0 b.0 sig.0 b.1 pays.0 sig.1

  -- what a function of the group calls outside of it is paid for
  paid_for : (meter : Meter) → task.kind ≡ k.With meter → (f : ℕ) (g : NormFun) → is_among f group ≡ true → slice_get P.funs f ≡ Some g →
      (callee : ℕ) → is_among callee (called_in g.body) ≡ true → place_in group callee ≡ None → (s : Sig) × (cost_sig P meter earlier callee ≡ Some s)
  paid_for meter kind f g member there callee called none =
      ⊎_elim (λ own. absurd (let p = place_of group callee own in some_none p.0 (place_in group callee) p.1 none)) of_earlier (ordered.callees_first task.group f g callee member there called)
    where
      of_earlier : in_any callee (take task.group P.groups) ≡ true → (s : Sig) × (cost_sig P meter earlier callee ≡ Some s)
      of_earlier before =
          let at = any_place (is_among callee) (take task.group P.groups) before in
          let there_group = taken_there P.groups task.group at.0 at.1 at.2 in
          let fun = ordered.there at.0 callee (ap (λ o. is_among callee (unwrap_or o [])) there_group ∙ at.3) in
          let listed : slice_get (calls P) callee ≡ Some (called_in fun.0.body) = map_get (λ (g : NormFun). called_in g.body) P.funs callee fun.0 fun.1 in
          let row_is : row (calls P) f ≡ called_in g.body = ap (λ o. unwrap_or o []) (map_get (λ (g : NormFun). called_in g.body) P.funs f g there) in
          let is_called_there : is_called P.groups (calls P) task.group callee ≡ true =
          any_true (λ g. is_among callee (row (calls P) g)) f group member (ap (is_among callee) row_is ∙ called) in
          let waits = least.none P.groups (calls P) task.group meter (map outcome earlier) callee (subst (λ kind. blocked P.groups (calls P) (record { group = task.group; kind = kind }) (map outcome earlier) ≡ None) kind tried) (inside (calls P) callee (called_in fun.0.body) listed) in
          bound_sig meter callee (last_false _ _ _ is_called_there before waits)

  abbrev setting : Setting
  setting = unsigned P degree earlier task scale

  all_paid : (mode : Mode) → mode_of task.kind ≡ mode → (f : ℕ) (g : NormFun) → is_among f group ≡ true → slice_get P.funs f ≡ Some g →
      (cs : List ℕ) → ((callee : ℕ) → is_among callee cs ≡ true → is_among callee (called_in g.body) ≡ true) → AllPaid setting mode cs
  all_paid mode e f g member there [] sub = tt
  all_paid mode e f g member there (x ∷ cs) sub = (of_mode mode e, all_paid mode e f g member there cs (λ callee h. sub callee (is_later callee x cs h)))
    where
      kind_of : (kind : Kind) (meter : Meter) → mode_of kind ≡ With meter → kind ≡ k.With meter
      kind_of (Free budget f number) meter e = absurd (cc)
      kind_of (k.With other) meter e = ap k.With (same other meter e)
        where
          same : (a b : Meter) → With a ≡ With b → a ≡ b
          same a b e = cc

      of_mode : (mode : Mode) → mode_of task.kind ≡ mode → PaidFor setting mode x
      of_mode (With meter) e = paid_for meter (kind_of task.kind meter e) f g member there x (sub x (among_is (x ∷ cs) x (inl refl)))
      of_mode Own e = tt
      of_mode Past e = tt

  is_ready : (f : ℕ) → is_among f group ≡ true → IsReady setting (mode_of task.kind) f
  is_ready f member =
      let g = ordered.there task.group f member in
      record { fun = g.0; there = g.1; uses = ordered.uses f g.0 g.1; paid = all_paid (mode_of task.kind) refl f g.0 member g.1 (called_in g.0.body) (λ callee h. h) }

  are_ready : (fs : List ℕ) → AreApart fs → ((f : ℕ) → is_among f fs ≡ true → is_among f group ≡ true) → AreReady setting (mode_of task.kind) fs
  are_ready [] apart sub = tt
  are_ready (f ∷ fs) apart sub = (is_ready f (sub f (among_is (f ∷ fs) f (inl refl))), apart.0, are_ready fs apart.1 (λ g h. sub g (is_later g f fs h)))

  has_target : (kind : Kind) → HasNumber P degree task.group kind → HasTarget P group kind
  has_target (Free budget f number) h =
      let place = place_of group f h.member in
      let fun = ordered.there task.group f h.member in
      (place.0, fun.0, place.1, fun.1)
  has_target (k.With meter) h = tt

pub shaped_are_tasks : BlockersAreLeast → ShapedAreTasks
shaped_are_tasks least P d work earlier task scale ordered signed next tried =
    let number = targets_are_numbered P d work (map outcome earlier) task next in (
      (
        are_ready least P d earlier task scale ordered signed tried (members P task.group) (ordered.apart task.group) (λ f h. h),
        has_target least P d earlier task scale ordered signed tried task.kind number,
      ),
      numbered P d task.group task.kind number,
    )
