-- Tasks that are the same.
use Rattle.std.proofs.Common.{◌≡◌, refl, ap, sym}
use Rattle.std.specs.Prelude.{nat_eq, true, false, ◌&&◌, Option, None, Some}
use Rattle.std.proofs.lemmas.Bool.{eqb-true, eq-eqb, and_from, and_parts}
use Rattle.cost_free.specs.declared.task.Meter.{Meter}
use Rattle.cost_free.specs.declared.task.Meter.TheVariants.{Ticks, Cells, Work}
use Rattle.cost_free.specs.Task.{Kind, Free, With, Task, same_meter}
use Rattle.cert_check.specs.Same.{same_kind, is_task}

meter_is : (m n : Meter) → same_meter m n ≡ true → m ≡ n
meter_is Ticks Ticks e = refl
meter_is Cells Cells e = refl
meter_is Work Work e = refl
meter_is Ticks Cells e = absurd (cc)
meter_is Ticks Work e = absurd (cc)
meter_is Cells Ticks e = absurd (cc)
meter_is Cells Work e = absurd (cc)
meter_is Work Ticks e = absurd (cc)
meter_is Work Cells e = absurd (cc)

kind_is : (k l : Kind) → same_kind k l ≡ true → k ≡ l
kind_is (Free b f t) (Free c g u) e =
    let p = and_parts (nat_eq b c) (nat_eq f g && nat_eq t u) e in
    let q = and_parts (nat_eq f g) (nat_eq t u) p.1 in
    λ i. Free (eqb-true b c p.0 i) (eqb-true f g q.0 i) (eqb-true t u q.1 i)
kind_is (With m) (With n) e = ap With (meter_is m n e)
kind_is (Free b f t) (With n) e = absurd (cc)
kind_is (With m) (Free c g u) e = absurd (cc)

pub task_is : (t : Task) (o : Option Task) → is_task t o ≡ true → o ≡ Some t
task_is t None e = absurd (cc)
task_is t (Some u) e =
    let p = and_parts (nat_eq t.group u.group) (same_kind t.kind u.kind) e in
    let g : u.group ≡ t.group = sym (eqb-true t.group u.group p.0) in
    let k : u.kind ≡ t.kind = sym (kind_is t.kind u.kind p.1) in
    λ i. Some (record { group = g i; kind = k i })

meter_self : (m : Meter) → same_meter m m ≡ true
meter_self Ticks = refl
meter_self Cells = refl
meter_self Work = refl

kind_self : (k : Kind) → same_kind k k ≡ true
kind_self (Free b f t) = and_from (nat_eq b b) (nat_eq f f && nat_eq t t) (eq-eqb b b refl) (and_from (nat_eq f f) (nat_eq t t) (eq-eqb f f refl) (eq-eqb t t refl))
kind_self (With m) = meter_self m

pub is_task_self : (t : Task) → is_task t (Some t) ≡ true
is_task_self t = and_from (nat_eq t.group t.group) (same_kind t.kind t.kind) (eq-eqb t.group t.group refl) (kind_self t.kind)

pub true_false : true ≡ false → ⊥
true_false e = cc
