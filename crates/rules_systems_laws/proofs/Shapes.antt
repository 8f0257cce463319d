-- What numbers stand for is in order.
use Rattle.std.proofs.Common.{◌≡◌, refl, arith}
use Rattle.std.specs.Prelude.{ℕ, zero, suc, ◌+◌, ◌≤◌, nat_eq, pos, Bool, true, false, cond, List, [], ◌∷◌, ◌++◌, map, slice_get, slice_index_or, Option, None, Some}
use Rattle.raml_syntax.specs.Tree.{Type'}
use Rattle.normal_spec.specs.Norm as n
use Rattle.normal_spec.specs.Norm.{Norm, NormFun}
use Rattle.normal_spec.specs.Context.{Context, without, opened, parts_of, copies_of, inners, others}
use Rattle.cost_free.specs.Task.{Task}
use Rattle.annot_types.specs.Program.{Program, members}
use Rattle.annot_types.specs.Carried.{tuples}
use Rattle.annot_types.specs.Certificate.{RiseFrom, Block}
use Rattle.annot_types.specs.Holds.{budget_of}
use Rattle.annot_types.specs.Held.{AllRise, SigsRise, HintsRise, AllHintsRise}
use Rattle.annot_types.specs.Signature.{sig_in, free_budget}
use Rattle.rules_spec.specs.Plan.{Plan, Part}
use Rattle.rules_spec.specs.Asked.{Ask, ResultsOf, CopiesOf, MultiplesOf, asked, all_asked, each_asked, count, counts, given, given_each, given_blocks, answers}
use Rattle.rules_spec.specs.Planned.{is_usable, usable_from, lower, let_part, plan}
use Rattle.rules_spec.specs.Tasks.{Body, sides_count, sides_given, hints_given}
use Rattle.rules_spec.specs.Jobs.{body_of}
use Rattle.rules_spec.proofs.Told.{positive, entries_rise, rise_later}
use Rattle.rules_spec.specs.Told.{bodies_of, entries, named, sig, hint, number_in, sigs_told, hints_told}

-- they ascend, from this one on
abbrev Up : ℕ → List ℕ → Type 0
Up from [] = Unit {0}
Up from (b ∷ bs) = (from ≤ b) × Up (suc b) bs

up_later : (least from : ℕ) (bs : List ℕ) → least ≤ from → Up from bs → Up least bs
up_later least from [] l h = tt
up_later least from (b ∷ bs) l h = (omega (arith, l, h.0), h.1)

named_rise : (give : ℕ → ℕ) (least from : ℕ) (blocks : List ℕ) → Up least blocks → RiseFrom least (named (given_blocks give from blocks))
named_rise give least from [] h = tt
named_rise give least from (b ∷ bs) h = by (nat_eq (give from) 0) refl (named_rise give (suc b) (suc from) bs h.1) where
  by : (t : Bool) → nat_eq (give from) 0 ≡ t → RiseFrom (suc b) (named (given_blocks give (suc from) bs)) →
      RiseFrom least (cond t (named (given_blocks give (suc from) bs)) ((b, pos (give from)) ∷ named (given_blocks give (suc from) bs)))
  by true e r = rise_later least (suc b) (named (given_blocks give (suc from) bs)) (omega (arith, h.0)) r
  by false e r = (h.0, positive (give from) e, r)

-- the blocks that are asked for ascend
abbrev IsUp : Ask → Type 0
IsUp (MultiplesOf blocks) = Up 0 blocks
IsUp ask = Unit {0}

abbrev AreUp : List Ask → Type 0
AreUp [] = Unit {0}
AreUp (ask ∷ asks) = IsUp ask × AreUp asks

abbrev AllUp : List (List Ask) → Type 0
AllUp [] = Unit {0}
AllUp (asks ∷ rest) = AreUp asks × AllUp rest

up_append : (asks more : List Ask) → AreUp asks → AreUp more → AreUp (asks ++ more)
up_append [] more h k = k
up_append (ask ∷ asks) more h k = (h.0, up_append asks more h.1 k)

up_at : (all : List (List Ask)) → AllUp all → (k : ℕ) → AreUp (slice_index_or all k [])
up_at [] h k = tt
up_at (asks ∷ rest) h zero = h.0
up_at (asks ∷ rest) h (suc k) = up_at rest h.1 k

each_up : (all : List (List Ask)) → AllUp all → (parts : List Part) → AreUp (each_asked all parts)
each_up all h [] = tt
each_up all h (part ∷ parts) = up_append (slice_index_or all part.degree []) (each_asked all parts) (up_at all h part.degree) (each_up all h parts)

lower_up : (f : ℕ → Plan) → ((d : ℕ) → AreUp (asked (f d))) → (d : ℕ) → AllUp (all_asked (lower f d))
lower_up f h zero = (h zero, tt)
lower_up f h (suc d) = (h (suc d), lower_up f h d)

usable_up : (P : Program) (d f k : ℕ) (bs : List Block) → Up k (usable_from k P d f bs)
usable_up P d f k [] = tt
usable_up P d f k (b ∷ bs) = by (is_usable d (free_budget b.task.kind) (sig_in P b f)) (usable_up P d f (suc k) bs) where
  by : (t : Bool) → Up (suc k) (usable_from (suc k) P d f bs) → Up k (cond t (k ∷ usable_from (suc k) P d f bs) (usable_from (suc k) P d f bs))
  by true h = (omega arith, h)
  by false h = up_later k (suc k) (usable_from (suc k) P d f bs) (omega arith) h

module _ (P : Program) (group : List ℕ) (earlier : List Block) (budget : ℕ) where
  plan_up : (e : Norm) (C : Context) (T : Type') (d : ℕ) → AreUp (asked (plan P group earlier budget e C T d))
  plan_up (n.Var k x) C T d = tt
  plan_up (n.Number k i) C T d = tt
  plan_up (n.Truth k b) C T d = tt
  plan_up (n.Nil k) C T d = tt
  plan_up (n.Leaf k) C T d = tt
  plan_up (n.Nothing k) C T d = tt
  plan_up (n.Arith k op x y) C T d = tt
  plan_up (n.Compare k op x y) C T d = tt
  plan_up (n.Not k x) C T d = tt
  plan_up (n.Pair k x y) C T d = tt
  plan_up (n.Cons k x y) C T d = tt
  plan_up (n.Node k x y z) C T d = tt
  plan_up (n.Just k x) C T d = tt
  plan_up (n.Call k f xs) C T d = (usable_up P d f 0 earlier, tt)
  plan_up (n.Let k x A a b) C T d = (
    tt,
    up_append _ (asked (plan P group earlier budget b (others a C ++ (x, A) ∷ []) T d))
        (each_up (all_asked (lower (plan P group earlier budget a (inners a C) A) d)) (lower_up (plan P group earlier budget a (inners a C) A) (plan_up a (inners a C) A) d) (map (let_part a C A d) (tuples (others a C) d)))
        (plan_up b (others a C ++ (x, A) ∷ []) T d),
  )
  plan_up (n.Split k x y z a) C T d = plan_up a (opened x (y ∷ z ∷ []) parts_of C) T d
  plan_up (n.If k x a b) C T d = up_append _ _ (plan_up a (without x C) T d) (plan_up b (without x C) T d)
  plan_up (n.CaseList k x a y z b) C T d = up_append _ _ (plan_up a (without x C) T d) (plan_up b (opened x (y ∷ z ∷ []) parts_of C) T d)
  plan_up (n.CaseTree k x a e y z b) C T d = up_append _ _ (plan_up a (without x C) T d) (plan_up b (opened x (e ∷ y ∷ z ∷ []) parts_of C) T d)
  plan_up (n.CaseOption k x a y b) C T d = up_append _ _ (plan_up a (without x C) T d) (plan_up b (opened x (y ∷ []) parts_of C) T d)
  plan_up (n.Tick k j a) C T d = plan_up a C T d
  plan_up (n.Share k x y z a) C T d = (tt, plan_up a (opened x (y ∷ z ∷ []) copies_of C) T d)
  plan_up (n.Drop k x a) C T d = plan_up a (without x C) T d

  body_up : (o : Option NormFun) → AreUp (asked (body_of P group earlier budget o).plan)
  body_up None = tt
  body_up (Some g) = plan_up g.body g.params g.result budget

-- what is told of numbers
module _ (give : ℕ → ℕ) where
  each_rise : (from : ℕ) (sizes : List ℕ) → AllRise (map entries (given_each give from sizes))
  each_rise from [] = tt
  each_rise from (n ∷ ns) = (entries_rise 0 (given give from n), each_rise (from + n) ns)

  hints_rise : (from : ℕ) (asks : List Ask) → AreUp asks → HintsRise (map hint (answers give from asks))
  hints_rise from [] h = tt
  hints_rise from (ResultsOf sizes ∷ asks) h = (each_rise from sizes, hints_rise (from + count (ResultsOf sizes)) asks h.1)
  hints_rise from (CopiesOf size ∷ asks) h = (entries_rise 0 (given give from size), hints_rise (from + count (CopiesOf size)) asks h.1)
  hints_rise from (MultiplesOf blocks ∷ asks) h = (named_rise give 0 from blocks h.0, hints_rise (from + count (MultiplesOf blocks)) asks h.1)

  sigs_rise : (from : ℕ) (bs : List Body) → SigsRise (map sig (sides_given give from bs))
  sigs_rise from [] = tt
  sigs_rise from (b ∷ bs) = (entries_rise 0 (given give from b.args), entries_rise 0 (given give (from + b.args) b.result), sigs_rise (from + (b.args + b.result)) bs)

module _ (P : Program) (d : ℕ) (earlier : List Block) (task : Task) (x : List ℕ) where
  all_rise : (from : ℕ) (fs : List ℕ) →
      AllHintsRise (map (map hint) (hints_given (number_in x) from (map (λ f. body_of P (members P task.group) earlier (budget_of d task.kind) (slice_get P.funs f)) fs)))
  all_rise from [] = tt
  all_rise from (f ∷ fs) =
      let b = body_of P (members P task.group) earlier (budget_of d task.kind) (slice_get P.funs f) in
      (hints_rise (number_in x) from (asked b.plan) (body_up P (members P task.group) earlier (budget_of d task.kind) (slice_get P.funs f)), all_rise (from + counts (asked b.plan)) fs)

  pub told_rise : SigsRise (sigs_told (bodies_of P d earlier task) x) × AllHintsRise (hints_told (bodies_of P d earlier task) x)
  told_rise = (sigs_rise (number_in x) 0 (bodies_of P d earlier task), all_rise (sides_count (bodies_of P d earlier task)) (members P task.group))
