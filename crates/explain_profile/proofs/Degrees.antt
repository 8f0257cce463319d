-- What the analysis of one more degree adds to what was found of the ticks of a function.
use Rattle.std.proofs.Common.{◌≡◌, ◌≤◌, ◌<◌, ◌-◌, ◌∙◌, ◌⊎◌, inl, inr, ap, refl, ℕ, sym, subst, List, slice_get, Some, Bool, true, false, arith}
use Rattle.std.specs.List.{Contains}
use Rattle.std.proofs.lemmas.Bool.Decides.{nat_tests}
use Rattle.std.proofs.lemmas.Option.{same_Some}
use Rattle.raml_syntax.specs.Tree.{Function, Prog}
use Rattle.raml_syntax.specs.Types.{types_of}
use Rattle.base_poly.specs.Indices.{AreIndices}
use Rattle.base_poly.specs.Plain.{degrees}
use Rattle.base_poly.specs.Poly.{Term, den_of, terms_of}
use Rattle.cost_free.specs.Schedule.{meters}
use Rattle.cost_free.specs.declared.task.Meter.TheVariants.{Ticks}
use Rattle.annot_types.specs.Certificate.{Certificate}
use Rattle.annot_types.specs.Held.{Bound}
use Rattle.annot_types.specs.Program.{Program}
use Rattle.analysis_report.specs.Lines.{Claims}
use Rattle.analysis_report.proofs.Tuples.{of_terms}
use Rattle.bound_infer.specs.declared.line.Line.{Line}
use Rattle.bound_infer.specs.declared.line.Line.TheVariants as line
use Rattle.bound_infer.specs.Told.{claim_of, IsWritten}
use Rattle.explain_bounds.specs.Written.{CanBeTold}
use Rattle.explain_degrees.specs.Degrees.{TellsAt, IsRefused, HasNoBoundAt, Between, IsFinding, IsOverParameters, IsBounded, found_at}
use Rattle.explain_degrees.specs.declared.finding.Finding.{Finding}
use Rattle.explain_degrees.specs.declared.finding.Finding.TheVariants as finding

below_or_same : (e d : ℕ) → e ≤ d → (e < d) ⊎ (e ≡ d)
below_or_same e d high = grind (arith, nat_tests)

-- each certificate has lines of ticks
pub ticks_counted : (work : Bool) → Contains (meters work) Ticks
ticks_counted true = (0, omega arith, refl)
ticks_counted false = (0, omega arith, refl)

-- the function at a place is one
pub same_types : (P : Prog) (f : ℕ) (g : Function) → slice_get P f ≡ Some g → (h : Function) → slice_get P f ≡ Some h → types_of g ≡ types_of h
same_types P f g there h here = ap types_of (same_Some g h (sym there ∙ here))

module _ (P : Prog) (N : Program) (f : ℕ) where
  -- nothing is found before the first degree
  pub nothing_found : IsFinding P N 0 f Ticks finding.Refused
  nothing_found d low high = absurd (omega (arith, low, high))

  -- at the lower degrees no bound was found
  none_below : (d : ℕ) (old : Finding) → IsFinding P N (d - 1) f Ticks old → (IsBounded old → ⊥) → (e : ℕ) → 0 < e → e < d → HasNoBoundAt N f Ticks e
  none_below d (finding.Bound h poly) is none e low high = absurd (none tt)
  none_below d (finding.NoBound h) is none e low high = is.2 e low (omega (arith, high))
  none_below d (finding.Calls h g) is none e low high = is.2 e low (omega (arith, high))
  none_below d finding.Refused is none e low high = inr (inr (is e low (omega (arith, high))))

  -- and none is found at this one
  none_up_to : (d : ℕ) (old : Finding) → IsFinding P N (d - 1) f Ticks old → (IsBounded old → ⊥) → HasNoBoundAt N f Ticks d → Between 0 d (HasNoBoundAt N f Ticks)
  none_up_to d old is none here e low high = elim (below_or_same e d high) [ inl less ↦ none_below d old is none e low less | inr same ↦ subst (HasNoBoundAt N f Ticks) (sym same) here ]

  none_above : (d : ℕ) → Between d d (IsRefused N)
  none_above d e low high = absurd (omega (arith, low, high))

  -- the bounds that a certificate claims are over the function's parameters
  abbrev pub Over : Certificate → Type 0
  Over c = (den : ℕ) (terms : List Term) → Claims N c f Ticks (Bound den terms) → IsOverParameters P f terms

  -- a line is told at this degree
  pub line_found : (d : ℕ) (old : Finding) (l : Line) → 1 ≤ d → IsFinding P N (d - 1) f Ticks old → (IsBounded old → ⊥) →
      (tells : TellsAt N d f Ticks (claim_of l)) → IsWritten l → Over tells.certificate → IsFinding P N d f Ticks (found_at d l)
  line_found d old (line.Bound poly) some is none tells written over =
      (omega arith, tells, written, over (den_of poly) (terms_of poly) tells.tells, λ e low high. none_below d old is none e low high)
  line_found d old line.NoBound some is none tells written over = (omega arith, tells, none_up_to d old is none (inl tells), none_above d)
  line_found d old (line.Calls g) some is none tells written over = (omega arith, tells, none_up_to d old is none (inr (inl (g.0, tells))), none_above d)

  -- one degree more
  more : (d : ℕ) (Said : ℕ → Type 0) (low : ℕ) → Between low (d - 1) Said → Said d → Between low d Said
  more d Said low before here e above below = elim (below_or_same e d below) [ inl less ↦ before e above (omega (arith, less)) | inr same ↦ subst Said (sym same) here ]

  -- this degree is refused
  pub refused_found : (d : ℕ) (old : Finding) → IsFinding P N (d - 1) f Ticks old → IsRefused N d → IsFinding P N d f Ticks old
  refused_found d (finding.Bound h poly) is refused = (let low = is.0 in omega (arith, low), is.1, is.2, is.3, is.4)
  refused_found d (finding.NoBound h) is refused = (let low = is.0 in omega (arith, low), is.1, more d (HasNoBoundAt N f Ticks) 0 is.2 (inr (inr refused)), more d (IsRefused N) h is.3 refused)
  refused_found d (finding.Calls h g) is refused = (let low = is.0 in omega (arith, low), is.1, more d (HasNoBoundAt N f Ticks) 0 is.2 (inr (inr refused)), more d (IsRefused N) h is.3 refused)
  refused_found d finding.Refused is refused = more d (IsRefused N) 0 is refused

  -- a bound that is found stays the least
  pub bound_stays : (d most : ℕ) (old : Finding) → IsFinding P N d f Ticks old → IsBounded old → d ≤ most → IsFinding P N most f Ticks old
  bound_stays d most (finding.Bound h poly) is bounded high = (let low = is.0 in omega (arith, low, high), is.1, is.2, is.3, is.4)
  bound_stays d most (finding.NoBound h) is bounded high = absurd bounded
  bound_stays d most (finding.Calls h g) is bounded high = absurd bounded
  bound_stays d most finding.Refused is bounded high = absurd bounded

  -- what is found can be told
  pub can_be_told : (most : ℕ) (g : Function) (found : Finding) → slice_get P f ≡ Some g → IsFinding P N most f Ticks found → CanBeTold (types_of g) found
  can_be_told most g (finding.Bound d poly) there is =
      let both = is.3 g there in (
        is.2,
        of_terms (λ t. AreIndices t (types_of g)) poly.terms.items (λ k d l. (both k d l).0),
        of_terms (λ t. degrees t ≤ 4) poly.terms.items (λ k d l. (both k d l).1),
      )
  can_be_told most g (finding.NoBound d) there is = tt
  can_be_told most g (finding.Calls d callee) there is = tt
  can_be_told most g finding.Refused there is = tt
