-- Plans over no blocks, whose calls are told of blocks, are those over the blocks.
use Rattle.std.proofs.Common.{◌≡◌, ℕ, zero, suc, ◌-◌, ◌++◌, List, [], ◌∷◌, map, slice_get, Option, None, Some, refl, ap, ◌∙◌, arith}
use Rattle.raml_syntax.specs.Tree.{Type'}
use Rattle.normal_spec.specs.Norm as n
use Rattle.normal_spec.specs.Norm.{Norm, NormFun}
use Rattle.normal_spec.specs.Context.{Context, types, without, opened, parts_of, copies_of, inners, others}
use Rattle.annot_types.specs.Carried.{tuples}
use Rattle.annot_types.specs.Program.{Program, members}
use Rattle.annot_types.specs.Certificate.{Block}
use Rattle.annot_types.specs.Rows.{size as size_of}
use Rattle.rules_spec.specs.Plan as p
use Rattle.rules_spec.specs.Planned.{plan, called, usable_from, lower, let_part, leaving_step, opening_step, sharing_step}
use Rattle.rules_spec.specs.Tasks as t
use Rattle.rules_spec.specs.Jobs as j
use Rattle.rules_walk.specs.declared.plan.Usage.{Usage}
use Rattle.rules_walk.specs.Filled.{Uses, uses_of, with_uses, filled, all_filled}
use Rattle.rules_walk.specs.Remembers.{Tables, TellsUses}
use Rattle.rules_plan.specs.declared.body.FunctionPlan.{FunctionPlan}
use Rattle.rules_plan.specs.declared.body.GroupPlans.{GroupPlans}
use Rattle.rules_plan.specs.Read.{function_of, over_of, group_bodies, ArePlansOf}

module _ (P : Program) (group : List ℕ) (blocks : List Block) (top : ℕ) (uses : Uses) (told : (f d : ℕ) → uses d f ≡ usable_from 0 P d f blocks) where
  lower_filled : (f g : ℕ → p.Plan) → ((d : ℕ) → filled uses d (f d) ≡ g d) → (d : ℕ) → all_filled uses d (lower f d) ≡ lower g d
  lower_filled f g h zero = λ i. p.More (h zero i) p.NoPlans
  lower_filled f g h (suc d) = (λ i. p.More (h (suc d) i) (all_filled uses (below i) (lower f d))) ∙ (λ i. p.More (g (suc d)) (lower_filled f g h d i))
    where
      below : suc d - 1 ≡ d
      below = omega arith

  called_filled : (C : Context) (f : ℕ) (xs : List ℕ) (T : Type') (d : ℕ) → with_uses uses d (called P group [] top C f xs T d) ≡ called P group blocks top C f xs T d
  called_filled C f xs T d = λ i. with_uses (λ b g. told g b i) d (called P group [] top C f xs T d)

  pub filled_is : (e : Norm) (C : Context) (T : Type') (d : ℕ) → filled uses d (plan P group [] top e C T d) ≡ plan P group blocks top e C T d
  filled_is (n.Var k x) C T d = refl
  filled_is (n.Number k m) C T d = refl
  filled_is (n.Truth k b) C T d = refl
  filled_is (n.Nil k) C T d = refl
  filled_is (n.Leaf k) C T d = refl
  filled_is (n.Nothing k) C T d = refl
  filled_is (n.Arith k op x y) C T d = refl
  filled_is (n.Compare k op x y) C T d = refl
  filled_is (n.Not k x) C T d = refl
  filled_is (n.Pair k x y) C T d = refl
  filled_is (n.Cons k x y) C T d = refl
  filled_is (n.Node k x y z) C T d = refl
  filled_is (n.Just k x) C T d = refl
  filled_is (n.Call k f xs) C T d = ap (p.Calls k) (called_filled C f xs T d)
  filled_is (n.Let k x A a b) C T d = λ i. p.Lets k (map (let_part a C A d) (tuples (others a C) d))
      (lower_filled (plan P group [] top a (inners a C) A) (plan P group blocks top a (inners a C) A) (filled_is a (inners a C) A) d i)
      (size_of (types (others a C ++ (x, A) ∷ [])) d) (filled_is b (others a C ++ (x, A) ∷ []) T d i)
  filled_is (n.Split k x y z a) C T d = ap (p.Moves k (opening_step C x (y ∷ z ∷ []) d)) (filled_is a (opened x (y ∷ z ∷ []) parts_of C) T d)
  filled_is (n.If k x a b) C T d = λ i. p.Forks k (leaving_step C x d) (filled_is a (without x C) T d i) (leaving_step C x d) (filled_is b (without x C) T d i)
  filled_is (n.CaseList k x a h t b) C T d = λ i. p.Forks k (leaving_step C x d) (filled_is a (without x C) T d i)
      (opening_step C x (h ∷ t ∷ []) d) (filled_is b (opened x (h ∷ t ∷ []) parts_of C) T d i)
  filled_is (n.CaseTree k x a e y z b) C T d = λ i. p.Forks k (leaving_step C x d) (filled_is a (without x C) T d i)
      (opening_step C x (e ∷ y ∷ z ∷ []) d) (filled_is b (opened x (e ∷ y ∷ z ∷ []) parts_of C) T d i)
  filled_is (n.CaseOption k x a y b) C T d = λ i. p.Forks k (leaving_step C x d) (filled_is a (without x C) T d i)
      (opening_step C x (y ∷ []) d) (filled_is b (opened x (y ∷ []) parts_of C) T d i)
  filled_is (n.Tick k m a) C T d = ap (p.Pays k m) (filled_is a C T d)
  filled_is (n.Share k x y z a) C T d = ap (p.Shares k (size_of (types (opened x (y ∷ z ∷ []) copies_of C)) d) (sharing_step C x d)) (filled_is a (opened x (y ∷ z ∷ []) copies_of C) T d)
  filled_is (n.Drop k x a) C T d = ap (p.Moves k (leaving_step C x d)) (filled_is a (without x C) T d)

  abbrev pub fill : t.Body → t.Body
  fill b = record { plan = filled uses top b.plan; args = b.args; result = b.result }

  body_filled : (g : Option NormFun) → fill (j.body_of P group [] top g) ≡ j.body_of P group blocks top g
  body_filled None = refl
  body_filled (Some g) = λ i. record { plan = filled_is g.body g.params g.result top i; args = size_of (types g.params) top; result = size_of (g.result ∷ []) top }

  pub all_filled_are : (fs : List ℕ) → map fill (map (λ f. j.body_of P group [] top (slice_get P.funs f)) fs) ≡ map (λ f. j.body_of P group blocks top (slice_get P.funs f)) fs
  all_filled_are [] = refl
  all_filled_are (f ∷ fs) = λ i. body_filled (slice_get P.funs f) i ∷ all_filled_are fs i

filled_each : (P : Program) (group : List ℕ) (blocks : List Block) (table : List (List Usage)) (top : ℕ) (told : (f d : ℕ) → uses_of table d f ≡ usable_from 0 P d f blocks) (fs : List FunctionPlan) →
    map (over_of table top) fs ≡ map (fill P group blocks top (uses_of table) told) (map function_of fs)
filled_each P group blocks table top told [] = refl
filled_each P group blocks table top told (f ∷ fs) = ap (λ l. over_of table top f ∷ l) (filled_each P group blocks table top told fs)

pub over_blocks : (P : Program) (group budget : ℕ) (blocks : List Block) (tables : Tables) (made : GroupPlans) →
    ArePlansOf P group budget made → TellsUses P blocks tables → map (over_of tables.usable made.budget) made.functions.items ≡ group_bodies P group blocks budget
over_blocks P group budget blocks tables made of told =
    let M = members P made.group in
    filled_each P M blocks tables.usable made.budget told made.functions.items
    ∙ ap (map (fill P M blocks made.budget (uses_of tables.usable) told)) of.are.functions
    ∙ all_filled_are P M blocks made.budget (uses_of tables.usable) told M
    ∙ (λ i. group_bodies P (of.group_is i) blocks (of.budget_is i))
