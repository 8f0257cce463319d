-- The systems are as they were worked out, and so is a certificate with a refuted block.
use Rattle.std.proofs.Common.{◌≡◌, ◌≤ℤ◌, ℕ, zero, suc, pos, [], ◌∷◌, slice_get, Some, refl, arith, subst, sym}
use Rattle.std.proofs.lemmas.Int.{ints}
use Rattle.std.proofs.lemmas.Option.{same_Some}
use Rattle.std.proofs.lemmas.Bool.{leb-true, ltb-true}
use Rattle.cost_free.specs.declared.task.Meter.TheVariants.{Cells}
use Rattle.cost_free.specs.Task.{With}
use Rattle.annot_types.specs.Certificate.{Entries, Block, Refuted, Call}
use Rattle.annot_types.specs.Holds.{Holds}
use Rattle.annot_types.specs.Held.{Held, before, scale_for}
use Rattle.annot_types.specs.System.{system, IsRefutedBy, Valid}
use Rattle.annot_types.specs.Example.{program, block}
use Rattle.annot_types.specs.SystemExample.{SystemExamples, spin, spin_free, spin_ticks, spinning}
use Rattle.annot_types.proofs.Small.{covered}
use Rattle.annot_types.proofs.Each.{is_positive, all_in_place, one_entry, scales_positive, one_holds}

free_holds : Holds (program spin) 1 [] 1 spin_free 1
free_holds =
    one_holds spin _ _ _ _ _ _ _ tt (ltb-true 0 1 refl, tt) (
      leb-true 0 0 refl,
      (
        leb-true 0 0 refl,
        (record { fun = spin; there = refl; once = _; takes = refl; multiples = []; named = tt; args = covered 1 _ _ refl; result = covered 1 _ _ refl }, refl),
      ),
    )
    (record { fun = spin; there = refl; target = _; numbered = refl; sig = _; signed = refl; covers = (leb-true 1 1 refl, tt) })

cells_hold : Holds (program spin) 1 (before spinning 2) 1 (block (With Cells) [] [] (Call [] ∷ [])) 1
cells_hold =
    one_holds spin _ _ _ _ _ _ _ tt tt (
      leb-true 0 0 refl,
      (
        leb-true 0 0 refl,
        (record { fun = spin; there = refl; once = _; takes = (_, refl, refl); multiples = []; named = tt; args = covered 1 _ _ refl; result = covered 1 _ _ refl }, refl),
      ),
    )
    tt

spin_held : Held (program spin) spinning
spin_held = record {
  least_degree = leb-true 1 1 refl;
  most_degree = leb-true 1 4 refl;
  scales = scales_positive spinning.blocks;
  blocks = all_in_place (program spin) spinning (
    record { task = refl; waits = tt; shape = ((tt, one_entry 0 0, tt), (((tt, tt), tt))); holds = record { t = 1; one = tt; holds = free_holds } },
    (
      record { task = refl; waits = tt; shape = one_entry 1 0; holds = tt },
      (record { task = refl; waits = tt; shape = ((tt, tt, tt), ((tt, tt), tt)); holds = record { t = 1; one = refl; holds = cells_hold } }, tt),
    ),
  );
  ended = refl;
}

none_negative : (n : ℕ) → pos 0 ≤ℤ pos n
none_negative n = grind (arith, ints)

ticks_refuted : IsRefutedBy (system (program spin) 1 (before spinning 1) spin_ticks.task 1) ((1, pos 1) ∷ [])
ticks_refuted = record {
  rows = (ltb-true 1 2 refl, tt);
  refutes = record { one_each = refl; natural = (none_negative 0, (none_negative 1, tt)); columns = (none_negative 0, (none_negative 0, (none_negative 0, tt))); right = is_positive 0 };
}

-- the refuted block is the second one
spin_valid : Valid (program spin) spinning
spin_valid = record { held = spin_held; refuted = by }
  where
    no_vector : {x : Block} (b : Block) (farkas : Entries) → Some x ≡ Some b → (x.body ≡ Refuted farkas → ⊥) → b.body ≡ Refuted farkas → ⊥
    no_vector {x} b farkas there never refuted = never (subst (λ (b : Block). b.body ≡ Refuted farkas) (sym (same_Some x b there)) refuted)

    same_vector : (b : Block) (farkas : Entries) → spin_ticks ≡ b → b.body ≡ Refuted farkas → ((1, pos 1) ∷ []) ≡ farkas
    same_vector b farkas same refuted = let e = subst (λ (b : Block). b.body ≡ Refuted farkas) (sym same) refuted in cc

    by : (place : ℕ) (b : Block) (farkas : Entries) → slice_get spinning.blocks place ≡ Some b → b.body ≡ Refuted farkas →
        IsRefutedBy (system (program spin) 1 (before spinning place) b.task (scale_for spinning b.task.kind)) farkas
    by zero b farkas there refuted = absurd (no_vector b farkas there (λ e. cc) refuted)
    by (suc zero) b farkas there refuted =
        let same = same_Some spin_ticks b there in
        subst (λ (b : Block). IsRefutedBy (system (program spin) 1 (before spinning 1) b.task (scale_for spinning b.task.kind)) farkas) same
        (subst (IsRefutedBy (system (program spin) 1 (before spinning 1) spin_ticks.task 1)) (same_vector b farkas same refuted) ticks_refuted)
    by (suc (suc zero)) b farkas there refuted = absurd (no_vector b farkas there (λ e. cc) refuted)
    by (suc (suc (suc place))) b farkas there refuted = absurd (cc)

pub systems_hold : SystemExamples
systems_hold = record { three_free = refl; three_ticks = refl; append_length = refl; append_work = refl; spin_rows = refl; spin_valid = spin_valid }
