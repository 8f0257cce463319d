-- The faults of vectors, block by block.
use Rattle.std.proofs.Common.{◌≡◌, refl, ap, sym, ◌∙◌, subst, arith}
use Rattle.std.specs.Prelude.{ℕ, ◌+◌, ◌<◌, Bool, true, false, nat_eq, length, slice_get, Option, None, Some}
use Rattle.std.proofs.lemmas.Option.{same_Some, slice_get_within}
use Rattle.std.proofs.lemmas.Bool.{eqb-true}
use Rattle.std.proofs.lemmas.Bool.Decides.{nat_tests}
use Rattle.cost_free.specs.Task.{Task}
use Rattle.annot_types.specs.Program.{Program}
use Rattle.annot_types.specs.Certificate as c
use Rattle.annot_types.specs.Certificate.{Entries, Body, Block, Certificate}
use Rattle.annot_types.specs.Held.{before, scale_for, Held}
use Rattle.annot_types.specs.System.{system, IsRefutedBy, Valid}
use Rattle.infer_spec.specs.Good.{AllRefuted}
use Rattle.infer_spec.specs.Verifying as v
use Rattle.infer_systems_laws.specs.Tried.{IsOrdered}
use Rattle.cert_check.specs.Finds.{FirstFault}
use Rattle.cert_check.specs.Laws.{IsFaultless}
use Rattle.bound_infer.specs.Laws.{VectorsRefute}
use Rattle.bound_infer.specs.Cleared.{OfFault, IsClear, BodyClear, ClearBefore, Faulty, LeavesThere, BlockCause, system_at, limit_at}
use Rattle.bound_infer.specs.Inferred.{IsVerified, VectorFault, TaskFault, LeavesVector, VerifyCause}
use Rattle.bound_infer.specs.declared.leaves.LeavesAt.{LeavesAt}
use Rattle.bound_infer.specs.declared.leaves.LeavesAt.TheVariants as l
use Rattle.bound_infer.specs.declared.refusal.VerifyFault.{VerifyFault}
use Rattle.bound_infer.specs.declared.refusal.VerifyFault.TheVariants as r

module _ (P : Program) (cert : Certificate) where
  -- a fault of the vector at a place
  pub faulty : (place : ℕ) (task : Task) (farkas : Entries) → slice_get cert.blocks place ≡ Some (record { task = task; body = c.Refuted farkas }) → (fault : Option v.Fault) →
      OfFault fault (v.VectorFault (limit_at P cert place (record { task = task; body = c.Refuted farkas })) (system_at P cert place (record { task = task; body = c.Refuted farkas })) farkas) →
      OfFault fault (Faulty P cert place)
  faulty place task farkas there None h = tt
  faulty place task farkas there (Some fault) h =
      record { block = record { task = task; body = c.Refuted farkas }; farkas = farkas; there = there; refuted = refl; is = h }

  -- A block that is clear has no fault.
  never : (place : ℕ) (block : Block) → slice_get cert.blocks place ≡ Some block → BodyClear P cert place block block.body → (fault : v.Fault) → Faulty P cert place fault → ⊥
  never place block there clear fault f =
      let same : block ≡ f.block = same_Some block f.block (sym there ∙ f.there) in
      let at : IsClear (limit_at P cert place f.block) (system_at P cert place f.block) f.farkas =
      subst (BodyClear P cert place f.block) f.refuted (subst (λ (b : Block). BodyClear P cert place b b.body) same clear) in
      at.clear fault f.is

  pub none_before : (count : ℕ) → ClearBefore P cert count → (place : ℕ) (fault : v.Fault) → place < count → Faulty P cert place fault → ⊥
  none_before count clear place fault low f = never place f.block f.there (clear place f.block low f.there) fault f

  -- one block more
  pub clear_more : (count : ℕ) (block : Block) → ClearBefore P cert count → slice_get cert.blocks count ≡ Some block → BodyClear P cert count block block.body → ClearBefore P cert (count + 1)
  clear_more count block clear there one place other low e = by (nat_eq place count) refl where
    by : (b : Bool) → nat_eq place count ≡ b → BodyClear P cert place other other.body
    by false q = clear place other (let less : place ≡ count → ⊥ = grind (arith, nat_tests, q) in omega (arith, low, less)) e
    by true q =
        let at : place ≡ count = eqb-true place count q in
        let same : block ≡ other = same_Some block other (sym there ∙ ap (slice_get cert.blocks) (sym at) ∙ e) in
        subst (λ (b : Block). BodyClear P cert place b b.body) same (subst (λ n. BodyClear P cert n block block.body) (sym at) one)

  -- the first fault of all
  module _ (passes : FirstFault P cert None) (place : ℕ) (clear : ClearBefore P cert place) (block : Block) (there : slice_get cert.blocks place ≡ Some block) where
    first : (fault : v.Fault) → Faulty P cert place fault → VectorFault P cert place fault
    first fault f = record { passes = passes; first = record { is = f; first = λ i other low. none_before place clear i other low } }

    of_task : (task : Task) (fault : v.Fault) → (task ≡ block.task) → Faulty P cert place fault → TaskFault P cert task fault
    of_task task fault e f = record { place = place; block = block; there = there; is = sym e; has = first fault f }

    leaves : (at : LeavesAt) → LeavesThere P cert place block.task at → LeavesVector P cert at
    leaves (l.Row task row) h = of_task _ _ h.0 h.1
    leaves (l.Refute task column) h = of_task _ _ h.0 h.1
    leaves (l.Solve task pivots row col) h = absurd h
    leaves (l.Scale task entry) h = absurd h
    leaves (l.Rescale task at) h = absurd h
    leaves (l.Check at path index) h = absurd h
    leaves (l.Least task column) h = absurd h

    pub caused : (fault : VerifyFault) → BlockCause P cert place block.task fault → VerifyCause P cert fault
    caused (r.Cert fault) h = absurd h
    caused (r.NotRefuted at) h = subst (λ n. VectorFault P cert n v.NotRefuted) (sym h.0) (first v.NotRefuted h.1)
    caused (r.TooLarge task what) h = of_task _ _ h.0 h.1
    caused (r.Leaves at) h = leaves at h
    caused r.NoMemory h = tt

  -- Where all are clear the certificate is verified.
  module _ (clear : ClearBefore P cert (length cert.blocks)) where
    pub is_verified : IsFaultless P cert → IsVerified P cert
    is_verified faultless = record {
      faultless = faultless;
      clear = λ place fault f. none_before (length cert.blocks) clear place fault (slice_get_within cert.blocks place f.block f.there) f;
    }

    is_refuted : (place : ℕ) (block : Block) (farkas : Entries) → slice_get cert.blocks place ≡ Some block → block.body ≡ c.Refuted farkas →
        IsRefutedBy (system P cert.degree (before cert place) block.task (scale_for cert block.task.kind)) farkas
    is_refuted place block farkas there e =
        let at = subst (BodyClear P cert place block) e (clear place block (slice_get_within cert.blocks place block there) there) in at.refuted

    pub is_valid : Held P cert → Valid P cert
    is_valid held = record { held = held; refuted = is_refuted }

    pub all_refuted : VectorsRefute → IsOrdered P → Held P cert → AllRefuted P cert
    all_refuted law ordered held place block farkas there e = law P ordered cert held place block farkas there e (is_refuted place block farkas there e)
