-- What the signatures that a call takes bring is small.
use Rattle.std.proofs.Common.{◌≡◌, refl, subst, ℕ, zero, suc, ◌+◌, ◌*◌, ◌≤◌, List, [], ◌∷◌, length, slice_index_or, Option, None, Some, arith}
use Rattle.cost_free.specs.declared.task.Meter.{Meter}
use Rattle.cost_free.specs.declared.task.Meter.TheVariants.{Ticks, Cells, Work}
use Rattle.annot_types.specs.Rules.{Mode, With, Own, Past}
use Rattle.rules_spec.specs.Numbers.{Numbers, Sides, Signature, Known}
use Rattle.rules_spec.specs.Kinds.{Amount, amounts}
use Rattle.rules_spec.specs.Plan.{Called}
use Rattle.rules_spec.specs.Walk.{taken, none_taken, free_sides, paid, once, used, refunded, sums}
use Rattle.rules_spec.specs.Growth.{span, all_spans}
use Rattle.rules_spec.specs.Small.{SidesSmall, GroupSmall, MultiplesSmall, SignatureSmall}
use Rattle.rules_spec.proofs.SmallMaps.{at_most, small_more, zero_small, nothing_small, brought_small, numbers_small, multiples_small, span_within}

-- what a walk knows is at most n
pub record KnownSmall (n : ℕ) (G : Known Amount) : Type 0 where
  pub scale : G.scale ≤ n
  pub group : GroupSmall n G.group
  pub free : (block function : ℕ) → SignatureSmall n (G.free block function)
  pub cost : (meter : Meter) (function : ℕ) (s : Signature) → G.cost meter function ≡ Some s → SignatureSmall n s

pub group_small : (b : ℕ) (group : List (Sides Amount)) (k : ℕ) → GroupSmall b group → SidesSmall b (slice_index_or group k (record { args = []; result = [] }))
group_small b [] k s = (tt, tt)
group_small b (x ∷ group) zero s = s.0
group_small b (x ∷ group) (suc k) s = group_small b group k s.1

sides_more : (a b : ℕ) (s : Sides Amount) → a ≤ b → SidesSmall a s → SidesSmall b s
sides_more a b s l h = (small_more a b s.args l h.0, small_more a b s.result l h.1)

-- all maps of a call
abbrev pub takes : Called → ℕ
takes c = all_spans c.args_from + all_spans c.result_from

module _ (n : ℕ) (G : Known Amount) (known : KnownSmall n G) (c : Called) where
  abbrev A : Numbers Amount
  A = amounts 1

  taken_small : (o b budget : ℕ) (s out : Sides Amount) → SidesSmall b s → SidesSmall o out → SidesSmall (o + takes c * b) (taken A G c budget s out)
  taken_small o b budget s out h g =
      let x = span (slice_index_or c.args_from budget []) in let y = span (slice_index_or c.result_from budget []) in
      let x_less : x ≤ takes c = omega (arith, span_within c.args_from budget) in
      let y_less : y ≤ takes c = omega (arith, span_within c.result_from budget) in
      let x_times : x * b ≤ takes c * b = at_most x_less (omega arith) in
      let y_times : y * b ≤ takes c * b = at_most y_less (omega arith) in (
        small_more (o + x * b) (o + takes c * b) _ (omega (arith, x_times)) (brought_small o b out.args (slice_index_or c.args_from budget []) s.args g.0 h.0),
        small_more (o + y * b) (o + takes c * b) _ (omega (arith, y_times)) (brought_small o b out.result (slice_index_or c.result_from budget []) s.result g.1 h.1),
      )

  none_small : (b : ℕ) → SidesSmall b (none_taken A G c)
  none_small b = (nothing_small b c.args, nothing_small b c.result)

  first_small : (b budget : ℕ) (s : Sides Amount) → SidesSmall b s → SidesSmall (takes c * b) (taken A G c budget s (none_taken A G c))
  first_small b budget s h = sides_more (0 + takes c * b) (takes c * b) (taken A G c budget s (none_taken A G c)) (omega arith) (taken_small 0 b budget s (none_taken A G c) h (none_small 0))

  paid_small : (s : Option Signature) → ((x : Signature) → s ≡ Some x → SignatureSmall n x) → SidesSmall (takes c * n) (paid A G c s)
  paid_small None h = none_small _
  paid_small (Some s) h = let p = h s refl in first_small n s.budget _ (numbers_small n s.args p.0, numbers_small n s.result p.1)

  once_small : (mode : Mode) (own : Option ℕ) → SidesSmall (takes c * n) (once A G mode c own)
  once_small Past own = none_small _
  once_small Own None = none_small _
  once_small Own (Some k) = first_small n G.budget _ (group_small n G.group k known.group)
  once_small (With meter) (Some k) = first_small n G.budget _ (group_small n G.group k known.group)
  once_small (With meter) None = paid_small (G.cost meter c.function) (known.cost meter c.function)

  used_small : (o : ℕ) (ms : List (ℕ × Amount)) (out : Sides Amount) → MultiplesSmall n ms → SidesSmall o out → SidesSmall (o + length ms * (takes c * (n * n))) (used A G c ms out)
  used_small o [] out h g = sides_more o (o + 0 * (takes c * (n * n))) out (omega arith) g
  used_small o (m ∷ ms) out h g =
      let s = G.free m.0 c.function in let f = known.free m.0 c.function in
      let both : o + takes c * (n * n) + length ms * (takes c * (n * n)) ≡ o + suc (length ms) * (takes c * (n * n)) = grind arith in
      subst (λ z. SidesSmall z (used A G c (m ∷ ms) out)) both
      (used_small (o + takes c * (n * n)) ms _ h.1
      (taken_small o (n * n) s.budget (free_sides A G s m.1) out (multiples_small n n m.1 s.args h.0 f.0, multiples_small n n m.1 s.result h.0 f.1) g))

  refunded_small : (mode : Mode) (b : ℕ) (s : Sides Amount) → SidesSmall b s → SidesSmall (b + n) (refunded A G mode s)
  refunded_small (With Work) b s h = (zero_small b n _ s.args (λ x. omega (arith, known.scale)) h.0, small_more b (b + n) s.result (omega arith) h.1)
  refunded_small (With Ticks) b s h = sides_more b (b + n) s (omega arith) h
  refunded_small (With Cells) b s h = sides_more b (b + n) s (omega arith) h
  refunded_small Own b s h = sides_more b (b + n) s (omega arith) h
  refunded_small Past b s h = sides_more b (b + n) s (omega arith) h

  pub sums_small : (mode : Mode) (ms : List (ℕ × Amount)) → MultiplesSmall n ms → length ms ≤ n → SidesSmall ((1 + takes c * (1 + n * n)) * n) (sums A G mode c ms)
  sums_small mode ms h l =
      let p : length ms * (takes c * (n * n)) ≤ n * (takes c * (n * n)) = at_most l (omega arith) in
      let both : takes c * n + n * (takes c * (n * n)) + n ≡ (1 + takes c * (1 + n * n)) * n = grind arith in
      sides_more _ _ _ (omega (arith, p, both)) (refunded_small mode _ _ (used_small (takes c * n) ms _ h (once_small mode c.own)))
