-- Of a certificate that is held a function and a meter have one block, and it makes one claim.
use Rattle.std.proofs.Common.{◌≡◌, refl, ap, sym, ◌∙◌}
use Rattle.std.specs.Prelude.{ℕ, ◌<◌, nat_eq, Bool, true, false, cond, ◌&&◌, ◌||◌, List, [], ◌∷◌, map, filter, length, Option, None, Some}
use Rattle.std.specs.List.{Contains}
use Rattle.raml_syntax.specs.Tree.{Prog}
use Rattle.call_groups.specs.Groups.{AreInOrder}
use Rattle.cost_free.specs.declared.task.Meter.{Meter}
use Rattle.cost_free.specs.Schedule.{meters, tasks_from}
use Rattle.cost_free.specs.Blocked.{is_among, is_for_meter}
use Rattle.annot_types.specs.Program.{Program, members, results}
use Rattle.annot_types.specs.Certificate.{Sig, Hint, Block, Certificate, has_work, outcome, sigs_of}
use Rattle.annot_types.specs.Signature.{sig_among, sig_in, or_else, cost_sig}
use Rattle.annot_types.specs.Rules.{Mode, Setting}
use Rattle.annot_types.specs.Holds.{FunctionsHold}
use Rattle.annot_types.specs.Held.{is_for_function, Held}
use Rattle.infer_spec.proofs.Present.{whole}
use Rattle.bound_infer.proofs.Once.{tasks_of, is_it, never_left, all_come, one_task}

filter_map_is : {X Y : Type 0} (Q : Y → Bool) (g : X → Y) (xs : List X) → filter Q (map g xs) ≡ map g (filter (λ x. Q (g x)) xs)
filter_map_is Q g [] = refl
filter_map_is Q g (x ∷ xs) = by (Q (g x)) (filter_map_is Q g xs) where
  by : (b : Bool) → filter Q (map g xs) ≡ map g (filter (λ x. Q (g x)) xs) → cond b (g x ∷ filter Q (map g xs)) (filter Q (map g xs)) ≡ map g (cond b (x ∷ filter (λ x. Q (g x)) xs) (filter (λ x. Q (g x)) xs))
  by true e = ap (λ l. g x ∷ l) e
  by false e = e

-- a list that is mapped to one item has one
one_mapped : {X Y : Type 0} (g : X → Y) (xs : List X) (y : Y) → map g xs ≡ y ∷ [] → (x : X) × (xs ≡ x ∷ [])
one_mapped g [] y e = absurd (cc)
one_mapped g (x ∷ []) y e = (x, refl)
one_mapped g (x ∷ z ∷ xs) y e = absurd (cc)

tasks_mapped : (bs : List Block) → tasks_of (map outcome bs) ≡ map (λ (b : Block). b.task) bs
tasks_mapped [] = refl
tasks_mapped (b ∷ bs) = ap (λ l. b.task ∷ l) (tasks_mapped bs)

module _ (S : Prog) (P : Program) (order : AreInOrder S [] P.groups) (c : Certificate) (held : Held P c) (f : ℕ) (low : f < length S) (meter : Meter) (counted : Contains (meters (has_work c)) meter) where
  pub one_block : (b : Block) × (filter (is_for_function P meter f) c.blocks ≡ b ∷ [])
  one_block =
      let one = one_task P.groups meter f (results P) c.degree (has_work c) counted S order low in
      one_mapped (λ (b : Block). b.task) (filter (is_for_function P meter f) c.blocks) _
      (sym (filter_map_is (is_it P.groups meter f) (λ (b : Block). b.task) c.blocks)
      ∙ ap (filter (is_it P.groups meter f)) (sym (tasks_mapped c.blocks))
      ∙ all_come (is_it P.groups meter f) (never_left P.groups meter f) (tasks_from (results P) c.degree (has_work c) 0 P.groups) [] (map outcome c.blocks) (whole P c held) ∙ one.1)

-- What is found from a place on is found in all: a test that fails leaves the rest, and where one holds it is the block.
module _ {X : Type 0} (p : X → Bool) where
  pub passed_over : (xs ys : List X) (x : X) → p x ≡ false → filter p (x ∷ xs) ≡ ys → filter p xs ≡ ys
  passed_over xs ys x e h = (λ i. cond (sym e i) (x ∷ filter p xs) (filter p xs)) ∙ h

  pub found_it : (xs : List X) (x y : X) → p x ≡ true → filter p (x ∷ xs) ≡ y ∷ [] → x ≡ y
  found_it xs x y e h = head ((λ i. cond (sym e i) (x ∷ filter p xs) (filter p xs)) ∙ h) where
    head : x ∷ filter p xs ≡ y ∷ [] → x ≡ y
    head q = cc

-- The signature with cost is that of the one block.
none_among : (fs : List ℕ) (ss : List Sig) (f : ℕ) → is_among f fs ≡ false → sig_among fs ss f ≡ None
none_among [] [] f e = refl
none_among [] (s ∷ ss) f e = refl
none_among (g ∷ fs) [] f e = refl
none_among (g ∷ fs) (s ∷ ss) f e = by (nat_eq f g) e (none_among fs ss f) where
  by : (b : Bool) → (b || is_among f fs) ≡ false → (is_among f fs ≡ false → sig_among fs ss f ≡ None) → cond b (Some s) (sig_among fs ss f) ≡ None
  by true e go = absurd (cc)
  by false e go = go e

module _ (P : Program) (meter : Meter) (f : ℕ) where
  other_signs : (b : Block) → is_for_function P meter f b ≡ false → cond (is_for_meter meter b.task.kind) (sig_in P b f) None ≡ None
  other_signs b e = by (is_for_meter meter b.task.kind) e where
    by : (m : Bool) → (m && is_among f (members P b.task.group)) ≡ false → cond m (sig_in P b f) None ≡ None
    by true e = none_among (members P b.task.group) (sigs_of b.body) f e
    by false e = refl

  this_signs : (b : Block) → is_for_function P meter f b ≡ true → cond (is_for_meter meter b.task.kind) (sig_in P b f) None ≡ sig_in P b f
  this_signs b e = by (is_for_meter meter b.task.kind) e where
    by : (m : Bool) → (m && is_among f (members P b.task.group)) ≡ true → cond m (sig_in P b f) None ≡ sig_in P b f
    by true e = refl
    by false e = absurd (cc)

  pub cost_filtered : (bs : List Block) → cost_sig P meter bs f ≡ cost_sig P meter (filter (is_for_function P meter f) bs) f
  cost_filtered [] = refl
  cost_filtered (b ∷ bs) = by (is_for_function P meter f b) refl (cost_filtered bs) where
    by : (is : Bool) → is_for_function P meter f b ≡ is → cost_sig P meter bs f ≡ cost_sig P meter (filter (is_for_function P meter f) bs) f →
        cost_sig P meter (b ∷ bs) f ≡ cost_sig P meter (cond is (b ∷ filter (is_for_function P meter f) bs) (filter (is_for_function P meter f) bs)) f
    by true e h = ap (or_else (cond (is_for_meter meter b.task.kind) (sig_in P b f) None)) h
    by false e h = ap (λ o. or_else o (cost_sig P meter bs f)) (other_signs b e) ∙ h

  or_none : (o : Option Sig) → or_else o None ≡ o
  or_none None = refl
  or_none (Some s) = refl

  pub cost_of_one : (bs : List Block) (b : Block) → filter (is_for_function P meter f) bs ≡ b ∷ [] → is_for_function P meter f b ≡ true → cost_sig P meter bs f ≡ sig_in P b f
  cost_of_one bs b e is = cost_filtered bs ∙ ap (λ l. cost_sig P meter l f) e ∙ or_none _ ∙ this_signs b is

-- A block that holds has a signature for each function of its group.
pub is_signed : (S : Setting) (mode : Mode) (fs : List ℕ) (ss : List Sig) (hss : List (List Hint)) (f : ℕ) → FunctionsHold S mode fs ss hss → is_among f fs ≡ true →
    (s : Sig) × (sig_among fs ss f ≡ Some s)
is_signed S mode [] [] hss f h e = absurd (cc)
is_signed S mode [] (s ∷ ss) hss f h e = absurd h
is_signed S mode (g ∷ fs) [] hss f h e = absurd h
is_signed S mode (g ∷ fs) (s ∷ ss) [] f h e = absurd h
is_signed S mode (g ∷ fs) (s ∷ ss) (hs ∷ hss) f h e = by (nat_eq f g) e (is_signed S mode fs ss hss f h.1) where
  by : (b : Bool) → (b || is_among f fs) ≡ true → (is_among f fs ≡ true → (s : Sig) × (sig_among fs ss f ≡ Some s)) → (t : Sig) × (cond b (Some s) (sig_among fs ss f) ≡ Some t)
  by true e go = (s, refl)
  by false e go = go e
