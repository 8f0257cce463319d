-- A block without fault is kept with its scale.
use Rattle.std.proofs.Common.{◌≡◌, refl, ap, sym, ◌∙◌, subst, arith}
use Rattle.std.specs.Prelude.{ℕ, ◌*◌, ◌<◌, ℤ, pos, ◌<ℤ◌, unsigned_abs, None}
use Rattle.std.proofs.lemmas.Int.{ints}
use Rattle.cost_free.specs.declared.task.Meter.{Meter}
use Rattle.cost_free.specs.Task as k
use Rattle.share_normal.specs.Program.{Kept}
use Rattle.annot_types.specs.Certificate.{IsSolved, Block, Certificate}
use Rattle.annot_types.specs.Held.{scale_of, scale_for}
use Rattle.rules_plan.specs.Read.{program_in}
use Rattle.cert_check.specs.Laws.{IsProper, IsFaultless}
use Rattle.other_blocks.specs.Over.{IsOver}
use Rattle.other_blocks.specs.Other.{OtherFinds}
use Rattle.other_blocks.proofs.Exactly.{others_exactly}

pub abs_positive : (z : ℤ) → pos 0 <ℤ z → 0 < unsigned_abs z
abs_positive z h = grind (arith, ints, h)

module _ (kept : Kept) (c : Certificate) (faultless : IsFaultless (program_in kept) c) (times : ℤ) (above : pos 0 <ℤ times) (block : Block) (meter : Meter) (kind : block.task.kind ≡ k.With meter)
    (scale : ℤ) (is : scale ≡ pos (scale_for c block.task.kind * unsigned_abs times)) where
  scale_is : scale ≡ pos (unsigned_abs (scale_of c meter) * unsigned_abs times)
  scale_is = is ∙ ap (λ k. pos (scale_for c k * unsigned_abs times)) kind

  pub scale_positive : pos 0 <ℤ scale
  scale_positive = subst (λ z. pos 0 <ℤ z) (sym scale_is) (product (unsigned_abs (scale_of c meter)) (unsigned_abs times) (abs_positive (scale_of c meter) (faultless.held.scales meter)) (abs_positive times above)) where
    product : (a b : ℕ) → 0 < a → 0 < b → pos 0 <ℤ pos (a * b)
    product a b p q = grind (arith, ints)

  pub is_over : IsProper (program_in kept) → IsSolved block.body → OtherFinds (program_in kept) c (unsigned_abs times) block None →
      IsOver (record { program = kept; degree = c.degree; scale = unsigned_abs scale; block = block })
  is_over proper solved finds = record {
    meter = meter;
    kind = kind;
    certificate = c;
    faultless = faultless;
    degree = refl;
    t = unsigned_abs times;
    scale = ap unsigned_abs scale_is;
    other = (others_exactly (program_in kept) proper c (unsigned_abs times) (abs_positive times above) block meter kind solved).0 finds;
  }
