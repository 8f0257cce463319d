-- What is multiplied by one.
use Rattle.std.proofs.Common.{◌≡◌, ◌*◌, ◌∙◌, ℕ, ℤ, pos, ◌*ℤ◌, Bool, true, false, cond, List, [], ◌∷◌, map, refl, ap, arith}
use Rattle.std.proofs.lemmas.Int.{ints}
use Rattle.cost_free.specs.declared.task.Meter.{Meter}
use Rattle.cost_free.specs.Task as k
use Rattle.cost_free.specs.Task.{same_meter}
use Rattle.cost_free.specs.Blocked.{is_for_meter}
use Rattle.annot_types.specs.Certificate as c
use Rattle.annot_types.specs.Certificate.{Entries, Sig, Body, Solved, Refuted, Calls, Block}
use Rattle.annot_types.specs.Holds.{times, times_sig, times_hint, times_body, times_block, raised}
use Rattle.annot_types.proofs.Raised.{on, off}
use Rattle.infer_spec.specs.States.{State, raised_scales, raise}

pub one_times : (z : ℤ) → pos 1 *ℤ z ≡ z
one_times z = grind (arith, ints)

map_same : {X : Type 0} (f : X → X) → ((x : X) → f x ≡ x) → (xs : List X) → map f xs ≡ xs
map_same f h [] = refl
map_same f h (x ∷ xs) = λ i. h x i ∷ map_same f h xs i

times_one : (es : Entries) → times 1 es ≡ es
times_one es = map_same (λ (e : ℕ × ℤ). (e.0, pos 1 *ℤ e.1)) (λ e i. (e.0, one_times e.1 i)) es

sig_one : (s : Sig) → times_sig 1 s ≡ s
sig_one s = λ i. record { args = times_one s.args i; result = times_one s.result i }

hint_one : (h : c.Hint) → times_hint 1 h ≡ h
hint_one (c.Let rs) = ap c.Let (map_same (times 1) times_one rs)
hint_one (c.Share p) = ap c.Share (times_one p)
hint_one (c.Call ms) = ap c.Call (times_one ms)

body_one : (b : Body) → times_body 1 b ≡ b
body_one (Solved sigs hints) = λ i. Solved (map_same (times_sig 1) sig_one sigs i) (map_same (map (times_hint 1)) (map_same (times_hint 1) hint_one) hints i)
body_one (Refuted farkas) = refl
body_one (Calls fun) = refl

block_one : (b : Block) → times_block 1 b ≡ b
block_one b = λ i. record { task = b.task; body = body_one b.body i }

raised_one : (m : Meter) (b : Block) → raised m 1 b ≡ b
raised_one m b = by (is_for_meter m b.task.kind) refl
  where
    by : (is : Bool) → is_for_meter m b.task.kind ≡ is → raised m 1 b ≡ b
    by true e = on m 1 b e ∙ block_one b
    by false e = off m 1 b e

scale_one : (m : Meter) (scales : Meter → ℕ) (other : Meter) → raised_scales (k.With m) 1 scales other ≡ scales other
scale_one m scales other = by (same_meter m other)
  where
    by : (is : Bool) → cond is (1 * scales other) (scales other) ≡ scales other
    by true = omega arith
    by false = refl

pub state_one : (m : Meter) (st : State) → raise (k.With m) 1 st ≡ st
state_one m st = λ i. record { blocks = map_same (raised m 1) (raised_one m) st.blocks i; scales = λ other. scale_one m st.scales other i }
