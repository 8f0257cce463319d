-- Faults that are passed on.
use Rattle.std.proofs.Common.{◌≡◌, Result, Ok, Err, IsErrAnd, refl, sym, ◌∙◌}
use Rattle.base_poly.specs.declared.fault.IndexFault.{IndexFault}
use Rattle.base_poly.specs.declared.fault.IndexFault.TheVariants as i
use Rattle.index_shift.specs.Read.{fault_of}
use Rattle.index_shift.specs.declared.fault.MapFault.{MapFault}
use Rattle.index_shift.specs.declared.fault.MapFault.TheVariants.{TooMany, NoMemory}

pub of_fault : {T : Type 0} (r : Result T MapFault) (e : MapFault) → IsErrAnd r (λ x. x ≡ e) → r ≡ Err TooMany → e ≡ TooMany
of_fault (Ok u) e h g = absurd (cc)
of_fault (Err x) e h g = sym h ∙ (let p : x ≡ TooMany = cc in p)

pub of_index_fault : {T : Type 0} (r : Result T MapFault) (e : IndexFault) → IsErrAnd r (λ x. x ≡ fault_of e) → r ≡ Err TooMany → e ≡ i.TooMany
of_index_fault (Ok u) e h g = absurd (cc)
of_index_fault (Err x) i.TooMany h g = refl
of_index_fault (Err x) i.NoMemory h g = absurd (let p : x ≡ TooMany = cc in apart (sym h ∙ p))
  where
    apart : NoMemory ≡ TooMany → ⊥
    apart q = cc
