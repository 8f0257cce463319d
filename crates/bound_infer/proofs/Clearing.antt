-- Vectors that are checked.
use Rattle.std.proofs.Common.{◌≡◌, ◌⊎◌, ap, sym, ◌∙◌, arith, inl, inr}
use Rattle.std.specs.Prelude.{ℕ, suc, ◌+◌, ◌≤ℤ◌, ◌<ℤ◌, ℤ, pos, Bool, true, false, ◌==◌, if◌then◌else◌, List, [], ◌∷◌, ◌++◌, map, length, None}
use Rattle.std.specs.List.{range_with_len}
use Rattle.std.proofs.lemmas.Int.{ints}
use Rattle.std.proofs.lemmas.List.FromFn.{length-map-range_with_len, map-range_with_len_more}
use Rattle.raml_num.specs.Sums.{NoneNegative}
use Rattle.linear_rows.specs.Systems.{LinearSystem, Refutes}
use Rattle.farkas_check.specs.declared.Verdict.{Verdict}
use Rattle.farkas_check.specs.declared.Verdict.TheVariants.{Yes, No, Leaves}
use Rattle.farkas_check.specs.Checks.{Check, EachPasses, IsFault, IsFirstFault, IsVerdict, refuting}
use Rattle.annot_types.specs.Certificate.{Entries, number_at, Rise, RiseFrom}
use Rattle.annot_types.specs.System.{AreRows}
use Rattle.infer_spec.specs.Verifying as v
use Rattle.infer_spec.specs.Verifying.{NoneLeaves, vector_of}
use Rattle.bound_infer.specs.Cleared.{IsClear}

-- One number more.
pub vector_more : (es : Entries) (n : ℕ) (made new : List ℤ) → new ≡ made ++ number_at n es ∷ [] → made ≡ map (λ row. number_at row es) (range_with_len 0 n) →
    new ≡ map (λ row. number_at row es) (range_with_len 0 (n + 1))
vector_more es n made new e h =
    e ∙ ap (λ l. l ++ number_at n es ∷ []) h ∙ sym (map-range_with_len_more (λ row. number_at row es) 0 n n (omega arith))

-- the numbers of entries that rise are not negative
natural_from : (least : ℕ) (es : Entries) → RiseFrom least es → (row : ℕ) → pos 0 ≤ℤ number_at row es
natural_from least [] h row = omega (arith, ints)
natural_from least (e ∷ es) h row = by (e.0 == row) (natural_from (suc e.0) es h.2 row) where
  by : (b : Bool) → pos 0 ≤ℤ number_at row es → pos 0 ≤ℤ (if b then e.1 else number_at row es)
  by true k = let p : pos 0 <ℤ e.1 = h.1 in omega (arith, ints, p)
  by false k = k

natural_map : (f : ℕ → ℤ) → ((row : ℕ) → pos 0 ≤ℤ f row) → (rows : List ℕ) → NoneNegative (map f rows)
natural_map f h [] = tt
natural_map f h (row ∷ rows) = (h row, natural_map f h rows)

pub vector_natural : (s : LinearSystem) (es : Entries) → Rise es → NoneNegative (vector_of s es)
vector_natural s es h = natural_map (λ row. number_at row es) (natural_from 0 es h) (range_with_len 0 (length s.rows))

pub vector_length : (s : LinearSystem) (es : Entries) → length (vector_of s es) ≡ length s.rows
vector_length s es = length-map-range_with_len (λ row. number_at row es) 0 (length s.rows)

-- What passes has no first fault.
no_fault : (ks : List Check) (w : Verdict) → EachPasses ks → IsFirstFault ks w → ⊥
no_fault [] w h f = f
no_fault (k ∷ ks) w h (inl f) = by w f where
  by : (w : Verdict) → IsFault k w → ⊥
  by Yes f = f
  by (No c) f = f.2 h.0.meets
  by (Leaves c) f = f.1 h.0.fit
no_fault (k ∷ ks) w h (inr f) = no_fault ks w h.1 f.1

-- A vector that is found to refute has no fault.
pub clears : (s : LinearSystem) (es : Entries) → AreRows (length s.rows) es → EachPasses (refuting s (vector_of s es)) → Refutes s (vector_of s es) → NoneLeaves s → IsClear None s es
clears s es rows passes refutes none = record {
  refuted = record { rows = rows; refutes = refutes };
  clear = by;
} where
  by : (fault : v.Fault) → v.VectorFault None s es fault → ⊥
  by (v.TooLarge what) e = absurd (cc)
  by (v.Row place) h = none place h.1
  by v.NotRefuted h = other h.2 where
    other : (AreRows (length s.rows) es → ⊥) ⊎ (AreRows (length s.rows) es × (column : ℕ) × IsVerdict (refuting s (vector_of s es)) (No column)) → ⊥
    other (inl k) = k rows
    other (inr k) = no_fault (refuting s (vector_of s es)) (No k.1) passes k.2
  by (v.Refute column) h = no_fault (refuting s (vector_of s es)) (Leaves column) passes h.3
