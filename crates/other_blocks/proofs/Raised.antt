-- The scale and the blocks of a meter, multiplied.
use Rattle.std.proofs.Common.{◌≡◌, sym, ap, ◌∙◌, subst, arith}
use Rattle.std.specs.Prelude.{ℕ, ◌*◌, ℤ, pos, ◌*ℤ◌, unsigned_abs, List, map, option_map}
use Rattle.std.proofs.lemmas.Int.{ints}
use Rattle.cost_free.specs.declared.task.Meter.{Meter}
use Rattle.cost_free.specs.declared.task.Meter.TheVariants.{Ticks, Cells, Work}
use Rattle.cost_free.specs.Task as k
use Rattle.cost_free.specs.Task.{Task}
use Rattle.annot_types.specs.Program.{Program, members}
use Rattle.annot_types.specs.Certificate.{Body, Block, Certificate, sigs_of}
use Rattle.annot_types.specs.Holds.{raised, setting}
use Rattle.annot_types.specs.Held.{scale_of, scale_for}
use Rattle.rules_walk.specs.Remembers.{Tables, Remembers, Knows, capped_signature}
use Rattle.cert_check.proofs.Fitting.{before_once}
use Rattle.other_blocks.specs.Raised.{raised_for}

size_times : (t : ℕ) (z : ℤ) → unsigned_abs (pos t *ℤ z) ≡ unsigned_abs z * t
size_times t z = grind (arith, ints)

-- the scale of a block with cost is t times that of the certificate
pub scale_raised : (t : ℕ) (c : Certificate) (meter : Meter) → scale_for (raised_for t c (k.With meter)) (k.With meter) ≡ scale_for c (k.With meter) * t
scale_raised t c Ticks = size_times t (scale_of c Ticks)
scale_raised t c Cells = size_times t (scale_of c Cells)
scale_raised t c Work = size_times t (scale_of c Work)

-- what holds with 1 over raised blocks and a raised scale is what holds with t
pub same_setting : (P : Program) (c : Certificate) (earlier : List Block) (meter : Meter) (t group : ℕ) (body : Body) →
    let block : Block = record { task = record { group = group; kind = k.With meter }; body = body } in
    setting P c.degree (map (raised meter t) earlier) (scale_for (raised_for t c (k.With meter)) (k.With meter)) block 1
    ≡ setting P c.degree earlier (scale_for c (k.With meter)) block t
same_setting P c earlier meter t group body = λ i. record {
  program = P;
  earlier = before_once (k.With meter) (map (raised meter t) earlier) i;
  group = members P group;
  sigs = sigs_of body;
  budget = c.degree;
  scale = (once (scale_for (raised_for t c (k.With meter)) (k.With meter)) ∙ scale_raised t c meter) i;
} where
  once : (n : ℕ) → n * 1 ≡ n
  once n = grind arith

-- tables know of blocks that are multiplied by 1 what they remember of them
pub known_once : (P : Program) (d : ℕ) (meter : Meter) (blocks : List Block) (times : ℕ) → times ≡ 1 → (T : Tables) → Remembers P d blocks T → Knows P d (map (raised meter times) blocks) T
known_once P d meter blocks times e T h =
    subst (λ bs. Knows P d bs T) (sym (before_once (k.With meter) blocks) ∙ (λ i. map (raised meter (sym e i)) blocks))
    (record { free = h.free; cost = λ m f. ap (option_map capped_signature) (h.cost m f) })
