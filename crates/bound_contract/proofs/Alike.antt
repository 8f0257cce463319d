-- What is decided stays where the blocks of the meter and its scale are raised.
use Rattle.std.proofs.Common.{◌≡◌, ap, sym, ◌∙◌, subst, arith}
use Rattle.std.specs.Prelude.{ℕ, ◌*◌, ◌<◌, ◌≤◌, ◌↔◌, cond, List, map}
use Rattle.std.specs.Option.{option_map}
use Rattle.std.proofs.Math.Nat.{mul-le-mul_left}
use Rattle.index_shift.specs.Potential.{Annotation}
use Rattle.cost_free.specs.declared.task.Meter.{Meter}
use Rattle.cost_free.specs.Task as k
use Rattle.cost_free.specs.Task.{Task, Kind}
use Rattle.annot_types.specs.Program.{Program, members}
use Rattle.annot_types.specs.Certificate.{Sig, Hint, Block, annotation}
use Rattle.annot_types.specs.Rules.{With}
use Rattle.annot_types.specs.Holds.{times, times_sig, times_hint, raised, FunctionsHold, Holds}
use Rattle.annot_types.specs.Least.{solving}
use Rattle.annot_types.proofs.Linear.{annotation_mul}
use Rattle.annot_types.proofs.Raised.{on, same_self, sig_in_times}
use Rattle.annot_types.proofs.Multiples.{raising_keeps}
use Rattle.bound_file.specs.Lines.{Line, numerator_at, denominator_at}
use Rattle.infer_spec.proofs.Raising.{all_product}
use Rattle.bound_contract.specs.Under.{IsUnder}
use Rattle.bound_contract.specs.Kept.{Keeps, NoneKeeps}
use Rattle.bound_contract.specs.Laws.{RaisedDecideAlike}

module _ (P : Program) (d : ℕ) (bs : List Block) (group scale : ℕ) (line : Line) (r : ℕ) (positive : 0 < r) where
  abbrev meter : Meter
  meter = line.meter

  abbrev task : Task
  task = record { group = group; kind = k.With meter }

  abbrev later : List Block
  later = map (raised meter r) bs

  product_positive : (u : ℕ) → 0 < u → 0 < r * u
  product_positive u h = let one = mul-le-mul_left r h in let z : r * 1 ≡ r = grind arith in omega (arith, one, z, positive)

  -- what holds with u over the raised blocks holds with r u over the others
  down : (u : ℕ) (sigs : List Sig) (hints : List (List Hint)) → Holds P d later (r * scale) (solving task sigs hints) u → Holds P d bs scale (solving task sigs hints) (r * u)
  down u sigs hints h =
      let swap : u * r ≡ r * u = grind arith in
      let blocks : map (raised meter u) later ≡ map (raised meter (r * u)) bs = sym (all_product meter u r bs) ∙ (λ i. map (raised meter (swap i)) bs) in
      let price : (r * scale) * u ≡ scale * (r * u) = grind arith in
      record {
        positive = product_positive u h.positive;
        solved = tt;
        functions = subst (λ es. FunctionsHold (record { program = P; earlier = es; group = members P group; sigs = sigs; budget = d; scale = scale * (r * u) }) (With meter) (members P group) sigs hints) blocks
            (subst (λ n. FunctionsHold (record { program = P; earlier = map (raised meter u) later; group = members P group; sigs = sigs; budget = d; scale = n }) (With meter) (members P group) sigs hints) price h.functions);
        reaches = tt;
      }

  keeps_down : (u : ℕ) (sigs : List Sig) (hints : List (List Hint)) → Keeps P d later (r * scale) line (solving task sigs hints) u → Keeps P d bs scale line (solving task sigs hints) (r * u)
  keeps_down u sigs hints h = record {
    holds = down u sigs hints h.holds;
    under = subst (λ n. IsUnder P d line n (solving task sigs hints)) (let e : (r * scale) * u ≡ scale * (r * u) = grind arith in e) h.under;
  }

  -- and what holds over the others holds, raised, over the raised ones
  up : (t : ℕ) (sigs : List Sig) (hints : List (List Hint)) → Holds P d bs scale (solving task sigs hints) t →
      Holds P d later (r * scale) (solving task (map (times_sig r) sigs) (map (map (times_hint r)) hints)) t
  up t sigs hints h =
      let self = same_self meter in
      let block : Block = solving task sigs hints in
      subst (λ (b : Block). Holds P d later (r * scale) b t) (on meter r block self)
      (subst (λ n. Holds P d later n (raised meter r block) t) (λ i. cond (self i) (r * scale) scale) (raising_keeps P d bs scale block t meter r positive h))

  keeps_up : (t : ℕ) (sigs : List Sig) (hints : List (List Hint)) → Keeps P d bs scale line (solving task sigs hints) t →
      Keeps P d later (r * scale) line (solving task (map (times_sig r) sigs) (map (map (times_hint r)) hints)) t
  keeps_up t sigs hints h = record {
    holds = up t sigs hints h.holds;
    under = record {
      fun = h.under.fun;
      there = h.under.there;
      sig = times_sig r h.under.sig;
      signed = sig_in_times P r (solving task sigs hints) line.fun ∙ ap (option_map (times_sig r)) h.under.signed;
      under = λ i low. raises (annotation h.under.sig.args i) (denominator_at line.bound i) (numerator_at line.bound i) (annotation (times r h.under.sig.args) i)
          (ap (λ (q : Annotation). q i) (annotation_mul r h.under.sig.args)) (h.under.under i low);
    };
  } where
    raises : (q m n raised : ℕ) → raised ≡ r * q → q * m ≤ n * (scale * t) → raised * m ≤ n * ((r * scale) * t)
    raises q m n raised e l =
        let more : r * (q * m) ≤ r * (n * (scale * t)) = mul-le-mul_left r l in
        let left : r * (q * m) ≡ (r * q) * m = grind arith in
        let right : r * (n * (scale * t)) ≡ n * ((r * scale) * t) = grind arith in
        let same : raised * m ≡ (r * q) * m = ap (λ v. v * m) e in
        omega (arith, more, left, right, same)

  alike : NoneKeeps P d bs task scale line ↔ NoneKeeps P d later task (r * scale) line
  alike = (
    λ none u sigs hints h. none (r * u) sigs hints (keeps_down u sigs hints h),
    λ none t sigs hints h. none t (map (times_sig r) sigs) (map (map (times_hint r)) hints) (keeps_up t sigs hints h),
  )

pub raised_decide_alike : RaisedDecideAlike
raised_decide_alike P d earlier task scale line r kind positive =
    subst (λ (kind : Kind). NoneKeeps P d earlier (record { group = task.group; kind = kind }) scale line
    ↔ NoneKeeps P d (map (raised line.meter r) earlier) (record { group = task.group; kind = kind }) (r * scale) line) (sym kind)
    (alike P d earlier task.group scale line r positive)
