-- Over the raised blocks.
use Rattle.std.proofs.Common.{◌≡◌, refl, ap, sym, ◌∙◌, subst, inl, inr}
use Rattle.std.specs.Prelude.{◌≤◌, ◌<◌, ℕ, List, map, take, length, slice_get, slice_index_or, Option, Some}
use Rattle.std.specs.Option.{option_map, unwrap_or}
use Rattle.std.specs.List.{All}
use Rattle.std.proofs.lemmas.List.{length-map, length-take-le}
use Rattle.std.proofs.lemmas.Option.{slice_get-map, slice_get-get_or, slice_get_within, same_Some}
use Rattle.cost_free.specs.Task as k
use Rattle.cost_free.specs.Task.{Kind, Free, Task}
use Rattle.annot_types.specs.Program.{Program, members}
use Rattle.annot_types.specs.Certificate.{Sig, Hint, Body, Solved, Refuted, Calls, IsSolved, Block, Certificate}
use Rattle.annot_types.specs.Rules.{With}
use Rattle.annot_types.specs.Read.{body_of, block_of, blocks_of}
use Rattle.annot_types.specs.declared.block.Block.{Block as Given}
use Rattle.annot_types.specs.Holds.{raised, blocks_before, budget_of}
use Rattle.annot_types.specs.Held.{before, IfSolved}
use Rattle.rules_spec.specs.Tasks as t
use Rattle.rules_spec.specs.Told.{bodies_of}
use Rattle.rules_spec.proofs.Refuted.{blocks_raised}
use Rattle.rules_spec.proofs.Planning.{bodies_kept}
use Rattle.rules_walk.specs.Remembers.{Tables, Knows}
use Rattle.rules_plan.specs.Within.{FunctionWithin}
use Rattle.rules_plan.specs.Read.{GroupWithin, ArePlansOf}
use Rattle.rules_plan.specs.declared.body.GroupPlans.{GroupPlans}
use Rattle.cert_check.specs.Fault.{Fault, Shape, TooLarge}
use Rattle.cert_check.specs.Finds.{AreWithin, job, ShapeFinds, BodyFinds}
use Rattle.cert_check.specs.Laws.{IsSmall}
use Rattle.other_blocks.specs.Raised.{raised_for}
use Rattle.other_blocks.specs.Other.{place, place_among, IsTried, IsOwn, OwnIsTried, raised_certificate, raised_before, ThereFinds, OtherFinds}

-- the degree is that of the certificate, and there are as many blocks
degree_raised : (t : ℕ) (c : Certificate) (kind : Kind) → (raised_for t c kind).degree ≡ c.degree
degree_raised t c (Free budget f target) = refl
degree_raised t c (k.With meter) = refl

count_raised : (t : ℕ) (kind : Kind) (bs : List Block) → length (blocks_before kind t bs) ≡ length bs
count_raised t (Free budget f target) bs = refl
count_raised t (k.With meter) bs = length-map bs (raised meter t)

-- the bodies of a task are the same
bodies_raised : (P : Program) (t d : ℕ) (bs : List Block) (group : ℕ) (kind : Kind) →
    bodies_of P d (blocks_before kind t bs) (record { group = group; kind = kind }) ≡ bodies_of P d bs (record { group = group; kind = kind })
bodies_raised P t d bs group (Free budget f target) = refl
bodies_raised P t d bs group (k.With meter) =
    bodies_kept P t (With meter) d bs (map (raised meter t) bs) (record { group = group; kind = k.With meter }) (blocks_raised t P meter bs)

module _ (P : Program) (c : Certificate) (times : ℕ) (block : Block) where
  abbrev over : Certificate
  over = raised_certificate P c times block

  abbrev first : List Block
  first = raised_before P c times block

  pub same_degree : c.degree ≡ over.degree
  same_degree = sym (degree_raised times c block.task.kind)

  module _ (n : ℕ) (here : n ≡ place P c times block) where
    pub count_here : n ≤ length c.blocks → length first ≡ n
    count_here low = count_raised times block.task.kind (before c (place P c times block)) ∙ ap (λ m. length (take m c.blocks)) (sym here) ∙ length-take-le n c.blocks low

    pub known_here : (T : Tables) → Knows P c.degree (blocks_before block.task.kind times (before c n)) T → Knows P over.degree first T
    known_here T h = subst (λ d. Knows P d first T) same_degree (subst (λ m. Knows P c.degree (blocks_before block.task.kind times (before c m)) T) here h)

    pub bodies_here : (bs : List t.Body) → bs ≡ bodies_of P c.degree (before c n) block.task → bs ≡ (job P over first block.task).bodies
    bodies_here bs e =
        e ∙ ap (λ m. bodies_of P c.degree (before c m) block.task) here
        ∙ sym (bodies_raised P times c.degree (before c (place P c times block)) block.task.group block.task.kind)
        ∙ ap (λ d. bodies_of P d first block.task) same_degree

  -- what is found in the shape, and behind it
  pub there_found : (found : Option Fault) (sigs : List Sig) (hints : List (List Hint)) → block.body ≡ Solved sigs hints → AreWithin P c block.task →
      ShapeFinds P over first block.task sigs hints found → ThereFinds P c times block found
  there_found found sigs hints e within h =
      subst (λ body. BodyFinds P over first block.task body found) (sym e)
      (inl (subst (λ d. All (λ f. FunctionWithin 2000 (slice_get P.funs f) (budget_of d block.task.kind)) (members P block.task.group)) same_degree within, h))

-- a block of the code's list
item_there : (xs : List Given) (k : ℕ) (d : Given) → k < length xs → slice_get (blocks_of xs) k ≡ Some (block_of (slice_index_or xs k d))
item_there xs k d low = slice_get-map block_of xs k ∙ ap (option_map block_of) (slice_get-get_or xs k d low)

-- where a certificate is within the limits, the walks of its solved blocks are
pub solved_within : (P : Program) (c : Certificate) (xs : List Given) → c.blocks ≡ blocks_of xs → IsSmall P c → (k : ℕ) (x : Given) → k < length xs → x ≡ slice_index_or xs k x →
    IfSolved (body_of x.body) (AreWithin P c (block_of x).task)
solved_within P c xs are small k x low is =
    small.within k (block_of x) (ap (λ bs. slice_get bs k) are ∙ item_there xs k x low ∙ ap (λ y. Some (block_of y)) (sym is))

-- the plans of a task's group are small enough
pub planned_within : (P : Program) (c : Certificate) (task : Task) (made : GroupPlans) → ArePlansOf P task.group (budget_of c.degree task.kind) made → AreWithin P c task
planned_within P c task made h = subst (λ group. GroupWithin P group (budget_of c.degree task.kind)) h.group_is (subst (GroupWithin P made.group) h.budget_is h.are.within)

-- the certificate's block of the task, which was tried
module _ (P : Program) (c : Certificate) (times : ℕ) (block : Block) (n : ℕ) (own : IsOwn c block.task n) where
  pub here_is : n ≡ place P c times block
  here_is = sym (ap (λ o. unwrap_or o 0) own.first)

  pub tried_is : OwnIsTried P c times block
  tried_is other there = own.tried other (ap (slice_get c.blocks) here_is ∙ there)

  -- where its group is too large, that is the fault
  pub too_large_is : IsSolved block.body → (AreWithin P c block.task → ⊥) → OtherFinds P c times block (Some (TooLarge block.task))
  too_large_is solved large = inl (tried_is, inr (TooLarge block.task, by block.body solved, refl))
    where
      by : (body : Body) → IsSolved body → BodyFinds P (raised_certificate P c times block) (raised_before P c times block) block.task body (Some (TooLarge block.task))
      by (Solved sigs hints) s = inr (
        λ within. large (subst (λ d. All (λ f. FunctionWithin 2000 (slice_get P.funs f) (budget_of d block.task.kind)) (members P block.task.group)) (sym (same_degree P c times block)) within),
        refl,
      )
      by (Refuted farkas) s = absurd s
      by (Calls fun) s = absurd s

-- whether the first block of the task was tried, as it is read
module _ (c : Certificate) (block : Block) (xs : List Given) (are : c.blocks ≡ blocks_of xs) (n : ℕ) (first : place_among block.task c.blocks ≡ Some n) (d : Given)
    (low : n < length xs) (is : d ≡ slice_index_or xs n d) where
  there_is : slice_get c.blocks n ≡ Some (block_of d)
  there_is = ap (λ bs. slice_get bs n) are ∙ item_there xs n d low ∙ ap (λ b. Some (block_of b)) (sym is)

  pub own_is : IsTried (body_of d.body) → IsOwn c block.task n
  own_is h = record {
    first = first;
    there = slice_get_within c.blocks n (block_of d) there_is;
    tried = λ own there. subst (λ (b : Block). IsTried b.body) (same_Some (block_of d) own (sym there_is ∙ there)) h;
  }

  -- a block that waits was not, and it is the fault
  pub not_tried : (P : Program) (t : ℕ) → (IsTried (body_of d.body) → ⊥) → OwnIsTried P c t block → ⊥
  not_tried P t waits tried = waits (tried (block_of d) (ap (λ o. slice_get c.blocks (unwrap_or o 0)) first ∙ there_is))

  pub waiting_is : (P : Program) (t : ℕ) → (IsTried (body_of d.body) → ⊥) → OtherFinds P c t block (Some (Shape n))
  waiting_is P t waits = inr (not_tried P t waits, ap (λ o. Some (Shape (unwrap_or o 0))) (sym first))
