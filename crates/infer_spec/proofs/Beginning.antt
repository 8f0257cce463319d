-- A meter of which no block is solved has the scale 1.
use Rattle.std.proofs.Common.{◌≡◌, ℕ, zero, suc, ◌*◌, cond, Bool, true, false, List, [], ◌∷◌, ◌++◌, map, slice_get, Some, refl, sym, subst}
use Rattle.cost_free.specs.declared.task.Meter.{Meter}
use Rattle.cost_free.specs.Task as k
use Rattle.cost_free.specs.Task.{Kind, Free, Task, same_meter}
use Rattle.cost_free.specs.Blocked.{is_for_meter}
use Rattle.annot_types.specs.Certificate as c
use Rattle.annot_types.specs.Certificate.{Body, Solved, Calls, IsSolved, Block}
use Rattle.annot_types.specs.Holds.{times_body, raised, blocks_before}
use Rattle.annot_types.proofs.Raised.{same_meters}
use Rattle.infer_spec.specs.States.{State, raised_scales}
use Rattle.infer_spec.specs.Places.{IsOfMeter}
use Rattle.infer_spec.specs.Courses.{Waits, Has, HasNone}
use Rattle.infer_spec.specs.Laws.{ScalesBegin}
use Rattle.annot_types.proofs.Lists.{map_get}
use Rattle.infer_spec.proofs.Raising.{raised_is}

-- no block of the list is solved with cost of the meter
abbrev NoneOf : Meter → List Block → Type 0
NoneOf meter bs = (place : ℕ) (block : Block) → slice_get bs place ≡ Some block → IsOfMeter meter block → ⊥

Begins : State → Type 0
Begins st = (meter : Meter) → NoneOf meter st.blocks → st.scales meter ≡ 1

in_left : (bs : List Block) (x : Block) (place : ℕ) (block : Block) → slice_get bs place ≡ Some block → slice_get (bs ++ x ∷ []) place ≡ Some block
in_left [] x place block e = absurd (cc)
in_left (b ∷ bs) x zero block e = e
in_left (b ∷ bs) x (suc place) block e = in_left bs x place block e

at_end : (bs : List Block) (x : Block) → (place : ℕ) × (slice_get (bs ++ x ∷ []) place ≡ Some x)
at_end [] x = (0, refl)
at_end (b ∷ bs) x = let r = at_end bs x in (suc r.0, r.1)

one_more : (meter : Meter) (bs : List Block) (x : Block) → NoneOf meter (bs ++ x ∷ []) → NoneOf meter bs
one_more meter bs x h place block e = h place block (in_left bs x place block e)

-- a raised block is solved where it was before
solved_raised : (is : Bool) (r : ℕ) (body : Body) → IsSolved body → IsSolved (cond is (times_body r body) body)
solved_raised false r body h = h
solved_raised true r (Solved sigs hints) h = tt
solved_raised true r (c.Refuted farkas) h = absurd h
solved_raised true r (Calls fun) h = absurd h

none_raised : (meter m : Meter) (r : ℕ) (bs : List Block) → NoneOf meter (map (raised m r) bs) → NoneOf meter bs
none_raised meter m r bs h place block e of =
    h place (raised m r block) (map_get (raised m r) bs place block e)
    (subst (IsOfMeter meter) (sym (raised_is m r block)) (record { kind = of.kind; solved = solved_raised (is_for_meter m block.task.kind) r block.body of.solved }))

has_begins : (kind : Kind) (group t : ℕ) (body : Body) → IsSolved body → (st : State) → Begins st →
    Begins (record { blocks = blocks_before kind t st.blocks ++ record { task = record { group = group; kind = kind }; body = body } ∷ []; scales = raised_scales kind t st.scales })
unfolding Begins
has_begins (Free budget fun target) group t body solved st h meter none = h meter (one_more meter st.blocks _ none)
has_begins (k.With m) group t body solved st h meter none = by (same_meter m meter) refl
  where
    block : Block
    block = record { task = record { group = group; kind = k.With m }; body = body }

    rest : NoneOf meter st.blocks
    rest = none_raised meter m t st.blocks (one_more meter (map (raised m t) st.blocks) _ none)

    by : (is : Bool) → same_meter m meter ≡ is → cond is (t * st.scales meter) (st.scales meter) ≡ 1
    by false e = h meter rest
    by true e = let r = at_end (map (raised m t) st.blocks) (record { task = record { group = group; kind = k.With m }; body = body }) in
        absurd (none r.0 _ r.1 (record { kind = (λ i. k.With (same_meters m meter e i)); solved = solved }))

pub scales_begin : ScalesBegin
unfolding Begins
scales_begin A [] st h = subst Begins (sym h) (λ meter none. refl)
scales_begin A (Waits fun ∷ fs) st h = subst Begins (sym h.2.is) (λ meter none. scales_begin A fs h.0 h.1 meter (one_more meter h.0.blocks _ none))
scales_begin A (Has t x ∷ fs) st h = subst Begins (sym h.2.is) (has_begins h.2.task.kind h.2.task.group t _ tt h.0 (scales_begin A fs h.0 h.1))
scales_begin A (HasNone y ∷ fs) st h = subst Begins (sym h.2.is) (λ meter none. scales_begin A fs h.0 h.1 meter (one_more meter h.0.blocks _ none))
