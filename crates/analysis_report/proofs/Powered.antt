-- Bounds in powers, and their lines one after the other.
use Rattle.std.proofs.Common.{◌≡◌, ◌≤◌, ◌<◌, ◌+◌, ⊎_elim, ℕ, true, false, List, [], ◌++◌, length, flat_map, append_assoc, slice_get, Some, sym, ap, ◌∙◌, subst, arith}
use Rattle.std.specs.Prelude.{slice_index_or}
use Rattle.std.specs.List.{All, Contains, range_with_len}
use Rattle.std.proofs.lemmas.List.{append-nil}
use Rattle.std.proofs.lemmas.Option.{same_Some, slice_get_within, slice_get_cases}
use Rattle.raml_syntax.specs.Tree.{Text, Type', Function, Prog}
use Rattle.raml_syntax.specs.Types.{types_of}
use Rattle.base_poly.specs.Indices.{AreIndices}
use Rattle.base_poly.specs.Plain.{degrees}
use Rattle.base_poly.specs.Poly.{Term}
use Rattle.base_poly.proofs.Among.{contains_among}
use Rattle.bound_compare.specs.Powers.{are_flat, Leaves}
use Rattle.normal_spec.specs.Norm.{NormFun}
use Rattle.normal_spec.specs.Context.{types}
use Rattle.normal_spec.specs.Two.{norm_fun, norm}
use Rattle.cost_free.specs.declared.task.Meter.{Meter}
use Rattle.cost_free.specs.declared.task.Meter.TheVariants.{Ticks, Cells, Work}
use Rattle.cost_free.specs.Schedule.{meters}
use Rattle.share_normal.specs.Program.{NormalForms}
use Rattle.annot_types.specs.Program.{Program}
use Rattle.annot_types.specs.Certificate.{Certificate, has_work}
use Rattle.annot_types.specs.Held.{Bound, Held}
use Rattle.report_text.specs.Names.{name_at}
use Rattle.analysis_report.specs.Lines.{Claims}
use Rattle.analysis_report.specs.Tuples.{AreOfParameters, BoundsAreOfParameters}
use Rattle.analysis_report.specs.Powers.{PowerClaim, NotFlat, ToldInPowers, power_line, power_lines_of, FitsAt, LeavesAt, ArePowerLines}
use Rattle.analysis_report.specs.Steps.{HasPowerLine, HasPowerLines, AllFitBelow}
use Rattle.analysis_report.proofs.InOrder.{AreTold, none_told, next_told, last_or_before}

-- What a held certificate claims of a function of the source is over tuples of its parameters.
pub are_of_source : BoundsAreOfParameters → (P : Prog) (N : Program) → N.funs ≡ norm P → NormalForms P → (c : Certificate) → Held N c →
    (f : ℕ) → f < length P → (As : List Type') → ((g : Function) → slice_get P f ≡ Some g → As ≡ types_of g) →
    (meter : Meter) (den : ℕ) (terms : List Term) → Claims N c f meter (Bound den terms) → All (λ (t : Term). AreIndices t.0 As × (degrees t.0 ≤ 4)) terms
are_of_source law P N is forms c held f below As same meter den terms claims k d l =
    ⊎_elim (λ found. by found.0 found.2) (λ past. let far = past.0 in absurd (omega (arith, far, below))) (slice_get_cases P f).1
  where
    tuples : AreOfParameters N c.degree f terms
    tuples = law N c held f meter den terms claims

    by : (g : Function) → slice_get P f ≡ Some g → AreIndices (slice_index_or terms k d).0 As × (degrees (slice_index_or terms k d).0 ≤ 4)
    by g there =
        let form = forms f g there in
        let fun : tuples.fun ≡ norm_fun P g = same_Some tuples.fun (norm_fun P g) (sym tuples.there ∙ ap (λ fs. slice_get fs f) is ∙ form.there) in
        let at = tuples.each k d l in
        let most = held.most_degree in
        let few = at.1 in (
          subst (AreIndices (slice_index_or terms k d).0) (ap (λ (x : NormFun). types x.params) fun ∙ form.params ∙ sym (same g there)) at.0,
          omega (arith, few, most),
        )

module _ (P : Prog) (N : Program) (c : Certificate) where
  -- One place

  pub bound_leaves : (f : ℕ) (meter : Meter) (As : List Type') (den : ℕ) (ts : List Term) → ((g : Function) → slice_get P f ≡ Some g → As ≡ types_of g) → f < length P →
      Claims N c f meter (Bound den ts) → are_flat As ≡ true → Leaves den ts → LeavesAt P N c f meter
  bound_leaves f meter As den ts same below claims flat leaves = ⊎_elim
      (λ found. record { fun = found.0; there = found.2; flat = ap are_flat (sym (same found.0 found.2)) ∙ flat; den = den; terms = ts; claims = claims; leaves = leaves })
      (λ past. let far = past.0 in absurd (omega (arith, far, below)))
      (slice_get_cases P f).1

  -- The lines of a function

  abbrev told_by : PowerClaim → PowerClaim → PowerClaim → Meter → PowerClaim
  told_by ticks cells work Ticks = ticks
  told_by ticks cells work Cells = cells
  told_by ticks cells work Work = work

  pub with_work : (f : ℕ) (one two three four : Text) → has_work c ≡ true → HasPowerLine P N c f Ticks one two → HasPowerLine P N c f Cells two three → HasPowerLine P N c f Work three four →
      HasPowerLines P N c f one four
  with_work f one two three four work t l w = record { told = told; each = each; is = is; fits = fits }
    where
      told : Meter → PowerClaim
      told = told_by t.told l.told w.told

      each : (g : Function) (meter : Meter) → slice_get P f ≡ Some g → Contains (meters (has_work c)) meter → ToldInPowers N c f g meter (told meter)
      each g Ticks there counted = t.each g there
      each g Cells there counted = l.each g there
      each g Work there counted = w.each g there

      fits : (meter : Meter) → Contains (meters (has_work c)) meter → FitsAt P N c f meter
      fits Ticks counted = t.fits
      fits Cells counted = l.fits
      fits Work counted = w.fits

      is : four ≡ one ++ power_lines_of P c f told
      is = lengthened one (power_line P (name_at P f) Ticks t.told) (power_line P (name_at P f) Cells l.told) (power_line P (name_at P f) Work w.told) two three four t.is l.is w.is
          ∙ ap (λ b. one ++ flat_map (λ meter. power_line P (name_at P f) meter (told meter)) (meters b)) (sym work)
        where
          lengthened : (a x y z b d e : Text) → b ≡ a ++ x → d ≡ b ++ y → e ≡ d ++ z → e ≡ a ++ (x ++ (y ++ (z ++ [])))
          lengthened a x y z b d e p q r =
              r ∙ ap (λ s. s ++ z) (q ∙ ap (λ s. s ++ y) p ∙ append_assoc a x y) ∙ append_assoc a (x ++ y) z
              ∙ ap (λ s. a ++ s) (append_assoc x y z ∙ ap (λ s. x ++ (y ++ s)) (sym (append-nil z)))

  pub without_work : (f : ℕ) (one two three : Text) → has_work c ≡ false → HasPowerLine P N c f Ticks one two → HasPowerLine P N c f Cells two three → HasPowerLines P N c f one three
  without_work f one two three work t l = record { told = told; each = each; is = is; fits = fits }
    where
      told : Meter → PowerClaim
      told = told_by t.told l.told NotFlat

      not_counted : Contains (meters (has_work c)) Work → ⊥
      not_counted counted = ⊎_elim (λ e. cc) (λ rest. ⊎_elim (λ e. cc) (λ none. none) rest) (contains_among Work (meters false) (subst (λ b. Contains (meters b) Work) work counted))

      each : (g : Function) (meter : Meter) → slice_get P f ≡ Some g → Contains (meters (has_work c)) meter → ToldInPowers N c f g meter (told meter)
      each g Ticks there counted = t.each g there
      each g Cells there counted = l.each g there
      each g Work there counted = absurd (not_counted counted)

      fits : (meter : Meter) → Contains (meters (has_work c)) meter → FitsAt P N c f meter
      fits Ticks counted = t.fits
      fits Cells counted = l.fits
      fits Work counted = absurd (not_counted counted)

      is : three ≡ one ++ power_lines_of P c f told
      is = lengthened one (power_line P (name_at P f) Ticks t.told) (power_line P (name_at P f) Cells l.told) two three t.is l.is
          ∙ ap (λ b. one ++ flat_map (λ meter. power_line P (name_at P f) meter (told meter)) (meters b)) (sym work)
        where
          lengthened : (a x y b d : Text) → b ≡ a ++ x → d ≡ b ++ y → d ≡ a ++ (x ++ (y ++ []))
          lengthened a x y b d p q = q ∙ ap (λ s. s ++ y) p ∙ append_assoc a x y ∙ ap (λ s. a ++ (x ++ s)) (sym (append-nil y))

  -- Those of all functions

  abbrev pub FunctionInPowers : ℕ → (Meter → PowerClaim) → Type 0
  FunctionInPowers f told = (g : Function) (meter : Meter) → slice_get P f ≡ Some g → Contains (meters (has_work c)) meter → ToldInPowers N c f g meter (told meter)

  abbrev pub FirstInPowers : ℕ → Text → Type 0
  FirstInPowers n text = AreTold FunctionInPowers (power_lines_of P c) n text

  pub none_in_powers : (text : Text) → text ≡ [] → FirstInPowers 0 text × AllFitBelow P N c 0
  none_in_powers text none = (none_told FunctionInPowers (power_lines_of P c) text none (λ m. NotFlat), λ f meter below. absurd (omega (arith, below)))

  pub next_in_powers : (n : ℕ) (old new : Text) → FirstInPowers n old × AllFitBelow P N c n → HasPowerLines P N c n old new → FirstInPowers (n + 1) new × AllFitBelow P N c (n + 1)
  next_in_powers n old new first more = (
    next_told FunctionInPowers (power_lines_of P c) n old new first.0 more.told more.each more.is,
    λ f meter below counted. ⊎_elim (λ less. first.1 f meter less counted) (λ same. subst (λ k. FitsAt P N c k meter) (sym same) (more.fits meter counted)) (last_or_before f n below),
  )

  pub all_in_powers : (n : ℕ) (text : Text) → n ≡ length P → FirstInPowers n text × AllFitBelow P N c n → ArePowerLines P N c text
  all_in_powers n text all first = record {
    told = first.0.told;
    each = λ f g meter there. first.0.each f (let below = slice_get_within P f g there in omega (arith, below, all)) g meter there;
    is = first.0.is ∙ ap (λ m. flat_map (λ f. power_lines_of P c f (first.0.told f)) (range_with_len 0 m)) all;
    fits = λ f meter counted g den terms there. first.1 f meter (let below = slice_get_within P f g there in omega (arith, below, all)) counted g den terms there;
  }
