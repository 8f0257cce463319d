-- What the analysis of one more degree adds to what was found.
use Rattle.std.proofs.Common.{◌≡◌, ◌≤◌, ◌<◌, ◌-◌, ◌⊎◌, inl, inr, ℕ, zero, suc, sym, ap, subst, ◌∙◌, List, [], ◌∷◌, ◌++◌, length, slice_get, Option, Some, None, arith}
use Rattle.std.proofs.lemmas.Bool.Decides.{nat_tests}
use Rattle.std.proofs.lemmas.List.Elements.{All-append, All-cons}
use Rattle.std.proofs.lemmas.Option.{same_Some}
use Rattle.raml_syntax.specs.Tree.{Function, Prog}
use Rattle.raml_syntax.specs.Types.{types_of}
use Rattle.base_poly.specs.Poly.{Term, den_of, terms_of}
use Rattle.cost_free.specs.declared.task.Meter.{Meter}
use Rattle.annot_types.specs.Certificate.{Certificate}
use Rattle.annot_types.specs.Held.{Bound}
use Rattle.analysis_report.specs.Lines.{Claims}
use Rattle.annot_types.specs.Program.{Program}
use Rattle.bound_infer.specs.declared.line.Line.{Line}
use Rattle.bound_infer.specs.declared.line.Line.TheVariants as line
use Rattle.bound_infer.specs.Told.{claim_of, IsWritten}
use Rattle.explain_degrees.specs.Degrees.{TellsAt, RefusedAt, AreRefused, IsRefused, HasNoBoundAt, Between, IsFinding, IsOverParameters, IsBounded, AreFindings, AreLeast, AllBounded, finding_of, found_at}
use Rattle.explain_degrees.specs.Within.{IsUpTo}
use Rattle.explain_degrees.specs.declared.finding.Finding.{Finding}
use Rattle.explain_degrees.specs.declared.finding.Finding.TheVariants as finding
use Rattle.explain_degrees.specs.declared.finding.Findings.{Findings}
use Rattle.explain_degrees.specs.declared.least.LeastBounds.{LeastBounds}
use Rattle.explain_degrees.specs.declared.least.RefusedDegree.{RefusedDegree}

below_or_same : (e d : ℕ) → e ≤ d → (e < d) ⊎ (e ≡ d)
below_or_same e d high = grind (arith, nat_tests)

module _ (P : Prog) (N : Program) (f : ℕ) (meter : Meter) where
  -- at the lower degrees no bound was found
  none_below : (d : ℕ) (old : Finding) → IsFinding P N (d - 1) f meter old → (IsBounded old → ⊥) → (e : ℕ) → 0 < e → e < d → HasNoBoundAt N f meter e
  none_below d (finding.Bound h poly) is none e low high = absurd (none tt)
  none_below d (finding.NoBound h) is none e low high = is.2 e low (omega (arith, high))
  none_below d (finding.Calls h g) is none e low high = is.2 e low (omega (arith, high))
  none_below d finding.Refused is none e low high = inr (inr (is e low (omega (arith, high))))

  -- and none is found at this one
  none_up_to : (d : ℕ) (old : Finding) → IsFinding P N (d - 1) f meter old → (IsBounded old → ⊥) → HasNoBoundAt N f meter d → Between 0 d (HasNoBoundAt N f meter)
  none_up_to d old is none here e low high = elim (below_or_same e d high) [ inl less ↦ none_below d old is none e low less | inr same ↦ subst (HasNoBoundAt N f meter) (sym same) here ]

  none_above : (d : ℕ) → Between d d (IsRefused N)
  none_above d e low high = absurd (omega (arith, low, high))

  -- the bounds that a certificate claims are over the function's parameters
  abbrev pub Over : Certificate → Type 0
  Over c = (den : ℕ) (terms : List Term) → Claims N c f meter (Bound den terms) → IsOverParameters P f terms

  -- a line is told at this degree
  pub line_found : (d : ℕ) (old : Finding) (l : Line) → 1 ≤ d → IsFinding P N (d - 1) f meter old → (IsBounded old → ⊥) →
      (tells : TellsAt N d f meter (claim_of l)) → IsWritten l → Over tells.certificate → IsFinding P N d f meter (found_at d l)
  line_found d old (line.Bound poly) some is none tells written over =
      (omega arith, tells, written, over (den_of poly) (terms_of poly) tells.tells, λ e low high. none_below d old is none e low high)
  line_found d old line.NoBound some is none tells written over = (omega arith, tells, none_up_to d old is none (inl tells), none_above d)
  line_found d old (line.Calls g) some is none tells written over = (omega arith, tells, none_up_to d old is none (inr (inl (g.0, tells))), none_above d)

  -- one degree more
  more : (d : ℕ) (Said : ℕ → Type 0) (low : ℕ) → Between low (d - 1) Said → Said d → Between low d Said
  more d Said low before here e above below = elim (below_or_same e d below) [ inl less ↦ before e above (omega (arith, less)) | inr same ↦ subst Said (sym same) here ]

  -- this degree is refused
  pub refused_found : (d : ℕ) (old : Finding) → IsFinding P N (d - 1) f meter old → IsRefused N d → IsFinding P N d f meter old
  refused_found d (finding.Bound h poly) is refused = (let low = is.0 in omega (arith, low), is.1, is.2, is.3, is.4)
  refused_found d (finding.NoBound h) is refused = (let low = is.0 in omega (arith, low), is.1, more d (HasNoBoundAt N f meter) 0 is.2 (inr (inr refused)), more d (IsRefused N) h is.3 refused)
  refused_found d (finding.Calls h g) is refused = (let low = is.0 in omega (arith, low), is.1, more d (HasNoBoundAt N f meter) 0 is.2 (inr (inr refused)), more d (IsRefused N) h is.3 refused)
  refused_found d finding.Refused is refused = more d (IsRefused N) 0 is refused

  -- a bound that is found stays the least
  pub bound_stays : (d : ℕ) (most : ℕ) (old : Finding) → IsFinding P N d f meter old → IsBounded old → d ≤ most → IsFinding P N most f meter old
  bound_stays d most (finding.Bound h poly) is bounded high = (let low = is.0 in omega (arith, low, high), is.1, is.2, is.3, is.4)
  bound_stays d most (finding.NoBound h) is bounded high = absurd bounded
  bound_stays d most (finding.Calls h g) is bounded high = absurd bounded
  bound_stays d most finding.Refused is bounded high = absurd bounded

-- of all functions
pub all_refused_found : (P : Prog) (N : Program) (d : ℕ) (all : List Findings) → AreFindings P N (d - 1) all → IsRefused N d → AreFindings P N d all
all_refused_found P N d all is refused f findings meter there = refused_found P N f meter d (finding_of findings meter) (is f findings meter there) refused

pub bounds_stay : (P : Prog) (N : Program) (d most : ℕ) (all : List Findings) → AreFindings P N d all → AllBounded all → d ≤ most → AreFindings P N most all
bounds_stay P N d most all is bounded high f findings meter there = bound_stays P N f meter d most (finding_of findings meter) (is f findings meter there) (bounded f findings meter there) high

-- the functions before this place are noted at the degree, and the others are as they were
pub record AreNoted (P : Prog) (N : Program) (d place : ℕ) (old new : List Findings) : Type 0 where
  pub count : length new ≡ length old
  pub noted : (f : ℕ) (findings : Findings) (meter : Meter) → f < place → slice_get new f ≡ Some findings → IsFinding P N d f meter (finding_of findings meter)
  pub rest : (f : ℕ) → place ≤ f → slice_get new f ≡ slice_get old f

-- nothing is found of any of these
abbrev pub AreNone : List Findings → Type 0
AreNone all = (f : ℕ) (findings : Findings) (meter : Meter) → slice_get all f ≡ Some findings → finding_of findings meter ≡ finding.Refused

pub none_more : (all : List Findings) (x : Findings) → AreNone all → ((meter : Meter) → finding_of x meter ≡ finding.Refused) → AreNone (all ++ x ∷ [])
none_more [] x none here zero findings meter there = let same : x ≡ findings = cc in ap (λ y. finding_of y meter) (sym same) ∙ here meter
none_more [] x none here (suc f) findings meter there = absurd (cc)
none_more (y ∷ all) x none here zero findings meter there = none zero findings meter there
none_more (y ∷ all) x none here (suc f) findings meter there = none_more all x (λ f. none (suc f)) here f findings meter there

pub nothing_is_found : (all : List Findings) → AreNone all → (P : Prog) (N : Program) → AreFindings P N 0 all
nothing_is_found all none P N f findings meter there = subst (IsFinding P N 0 f meter) (sym (none f findings meter there)) (λ d low high. absurd (omega (arith, low, high)))

pub refused_more : (N : Program) (all : List RefusedDegree) (x : RefusedDegree) → AreRefused N all → RefusedAt N x.degree x.fault → AreRefused N (all ++ x ∷ [])
refused_more N all x are here = All-append (λ r. RefusedAt N r.degree r.fault) all (x ∷ []) are (All-cons (λ r. RefusedAt N r.degree r.fault) x [] here (λ k d low. absurd (omega (arith, low))))

-- the function at a place is one
pub same_types : (P : Prog) (f : ℕ) (g : Function) → slice_get P f ≡ Some g → (h : Function) → slice_get P f ≡ Some h → types_of g ≡ types_of h
same_types P f g there h here = ap types_of (same_Some g h (sym there ∙ here))

-- without a budget no degree is given up
pub none_given_up : (P : Prog) (N : Program) (most : ℕ) (found : LeastBounds) (given_up : Option ℕ) → IsUpTo P N most None found given_up → AreLeast P N most found
none_given_up P N most found None h = h
none_given_up P N most found (Some d) h = absurd (let stops = h.2 in let never = stops.given_up.cut.cut.is_limit in cc)
