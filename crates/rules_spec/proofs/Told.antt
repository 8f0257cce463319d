-- The entries of numbers ascend.
use Rattle.std.proofs.Common.{◌≡◌, refl, arith}
use Rattle.std.specs.Prelude.{ℕ, zero, suc, ◌≤◌, nat_eq, pos, ◌<ℤ◌, Bool, true, false, cond, List, [], ◌∷◌}
use Rattle.std.proofs.lemmas.Int.{ints}
use Rattle.annot_types.specs.Certificate.{Entries, RiseFrom}
use Rattle.rules_spec.specs.Told.{entries_from}

pub rise_later : (least from : ℕ) (es : Entries) → least ≤ from → RiseFrom from es → RiseFrom least es
rise_later least from [] l h = tt
rise_later least from (e ∷ es) l h = (omega (arith, l, h.0), h.1, h.2)

pub positive : (n : ℕ) → nat_eq n 0 ≡ false → pos 0 <ℤ pos n
positive zero e = absurd (cc)
positive (suc n) e = grind (arith, ints)

pub entries_rise : (from : ℕ) (ns : List ℕ) → RiseFrom from (entries_from from ns)
entries_rise from [] = tt
entries_rise from (n ∷ ns) = by (nat_eq n 0) refl (entries_rise (suc from) ns) where
  by : (b : Bool) → nat_eq n 0 ≡ b → RiseFrom (suc from) (entries_from (suc from) ns) → RiseFrom from (cond b (entries_from (suc from) ns) ((from, pos n) ∷ entries_from (suc from) ns))
  by true e h = rise_later from (suc from) (entries_from (suc from) ns) (omega arith) h
  by false e h = (omega arith, positive n e, h)
