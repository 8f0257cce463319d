-- The entries of an annotation, put at their positions one by one.
use Rattle.std.proofs.Common.{◌≡◌, refl, ap, ◌∙◌}
use Rattle.std.specs.Prelude.{ℕ, ℤ, zero, suc, ◌<◌, unsigned_abs, List, [], ◌∷◌, map, length, drop, replicate, slice_set, slice_index_or}
use Rattle.annot_types.specs.Certificate.{Entries, annotation}
use Rattle.rules_spec.specs.Capped.{capped, capped_amount}
use Rattle.rules_spec.specs.Found.{listed, amounts_of}
use Rattle.rules_spec.specs.Shape.{amounts_at}
use Rattle.rules_walk.proofs.Counting.{entries_left, entry_left}

nothing_at : (n : ℕ) → replicate n capped.none ≡ map capped_amount (amounts_of (replicate n 0))
nothing_at zero = refl
nothing_at (suc n) = ap (λ l. capped.none ∷ l) (nothing_at n)

put_at : (ns : List ℕ) (k n : ℕ) → slice_set (map capped_amount (amounts_of ns)) k (capped_amount (record { plus = n; minus = 0 })) ≡ map capped_amount (amounts_of (slice_set ns k n))
put_at [] k n = refl
put_at (m ∷ ns) zero n = refl
put_at (m ∷ ns) (suc k) n = ap (λ l. capped_amount (record { plus = m; minus = 0 }) ∷ l) (put_at ns k n)

-- what is there of the entries at the start, and with one more of them
pub none_at : (n : ℕ) (es : Entries) → replicate n capped.none ≡ map capped_amount (amounts_at n (drop (length es) es))
none_at n es = nothing_at n ∙ ap (λ l. map capped_amount (amounts_of l)) (entries_left n es)

pub entry_at : (n k : ℕ) (es : Entries) (d : ℕ × ℤ) → k < length es →
    slice_set (map capped_amount (amounts_at n (drop (suc k) es))) (slice_index_or es k d).0 (capped_amount (record { plus = unsigned_abs (slice_index_or es k d).1; minus = 0 }))
    ≡ map capped_amount (amounts_at n (drop k es))
entry_at n k es d h =
    put_at (listed n (annotation (drop (suc k) es))) (slice_index_or es k d).0 (unsigned_abs (slice_index_or es k d).1) ∙ ap (λ l. map capped_amount (amounts_of l)) (entry_left n k es d h)
