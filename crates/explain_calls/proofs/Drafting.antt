-- Drafts of declared bounds.
use Rattle.std.proofs.Common.{◌≡◌, ◌≢◌, ◌≤◌, ◌<◌, ◌-◌, ◌+◌, ◌∙◌, ℕ, zero, suc, Bool, true, false, cond, List, [], ◌∷◌, ◌++◌, map, String, Global, refl, sym, ap, subst, arith, string_bytes}
use Rattle.std.proofs.lemmas.List.{append-nil, append_assoc}
use Rattle.std.proofs.lemmas.List.Elements.{All-cons}
use Rattle.raml_syntax.specs.Tree.{Text, Prog}
use Rattle.call_groups.specs.Groups.{Grouping}
use Rattle.cost_free.specs.declared.task.Meter.TheVariants.{Ticks, Cells, Work}
use Rattle.annot_types.specs.Program.{Program}
use Rattle.annot_types.specs.Certificate.{Certificate, has_work}
use Rattle.annot_types.specs.Held.{Line, lines_for}
use Rattle.rules_soundness_laws.specs.Laws.{normal_of}
use Rattle.report_text.specs.Claims.{lines_text}
use Rattle.analysis_report.proofs.Listed.{lines_append}
use Rattle.bound_infer.specs.Inferred.{InferCause}
use Rattle.bound_infer.specs.declared.refusal.InferFault.{InferFault}
use Rattle.bound_infer.specs.declared.refusal.InferFault.TheVariants.{NoMemory}
use Rattle.explain_degrees.specs.Degrees.{analysis_at, RefusedAt, AreRefused}
use Rattle.explain_degrees.specs.declared.least.RefusedDegree.{RefusedDegree}
use Rattle.explain_calls.specs.Told.{note, notes}
use Rattle.explain_calls.specs.Calls.{names_for}
use Rattle.explain_calls.specs.Draft.{is_bound, bounds_among, bounds_text, IsDraft, IsDrafted, down, AreRefusedAt}
use Rattle.explain_calls.specs.declared.draft.Draft.{Draft}
use Rattle.explain_calls.specs.declared.draft.Draft.TheVariants.{Made, Refused, NotAnalysed}

-- ---- the text

kept_or_not : (b : Bool) (l : Line) (ls more : List Line) → cond b (l ∷ (ls ++ more)) (ls ++ more) ≡ cond b (l ∷ ls) ls ++ more
kept_or_not true l ls more = refl
kept_or_not false l ls more = refl

among_append : (ls more : List Line) → bounds_among (ls ++ more) ≡ bounds_among ls ++ bounds_among more
among_append [] more = refl
among_append (l ∷ ls) more =
    ap (λ all. cond (is_bound l.claim) (l ∷ all) all) (among_append ls more)
    ∙ kept_or_not (is_bound l.claim) l (bounds_among ls) (bounds_among more)

module _ (P : Prog) (N : Program) (c : Certificate) (f : ℕ) where
  abbrev told : List Line → Text
  told ls = lines_text P (bounds_among ls)

  told_append : (ls more : List Line) → told (ls ++ more) ≡ told ls ++ told more
  told_append ls more = ap (lines_text P) (among_append ls more) ∙ lines_append P (bounds_among ls) (bounds_among more)

  -- the bounds of three meters are those of the function
  pub three_told : (t0 t1 t2 t3 : Text) → has_work c ≡ true → t1 ≡ t0 ++ told (lines_for N c f Ticks) → t2 ≡ t1 ++ told (lines_for N c f Cells) →
      t3 ≡ t2 ++ told (lines_for N c f Work) → t3 ≡ t0 ++ bounds_text P N c f
  three_told t0 t1 t2 t3 work ticks cells last =
      let a = told (lines_for N c f Ticks) in
      let b = told (lines_for N c f Cells) in
      let d = told (lines_for N c f Work) in
      let all = told_append (lines_for N c f Ticks) (lines_for N c f Cells ++ (lines_for N c f Work ++ []))
      ∙ ap (λ t. a ++ t) (told_append (lines_for N c f Cells) (lines_for N c f Work ++ [])
      ∙ ap (λ t. b ++ t) (ap told (append-nil (lines_for N c f Work)))) in
      let whole : a ++ (b ++ d) ≡ bounds_text P N c f = rw work (sym all) in
      last ∙ ap (λ t. t ++ d) cells ∙ append_assoc t1 b d ∙ ap (λ t. t ++ (b ++ d)) ticks ∙ append_assoc t0 a (b ++ d) ∙ ap (λ t. t0 ++ t) whole

-- ---- the degree

-- what refuses the analysis of the normal form
pub refused_at : (N' N : Program) (d : ℕ) (r : RefusedDegree) (fault : InferFault) → N' ≡ N → r.fault ≡ fault → r.fault ≢ NoMemory →
    InferCause (analysis_at N' d) fault → RefusedAt N d r.fault
refused_at N' N d r fault same is memory cause = record {
  refused = memory;
  cause = subst (λ fault. InferCause (analysis_at N d) fault) (sym is) (subst (λ N. InferCause (analysis_at N d) fault) same cause);
}

down_none : (d : ℕ) → down (d - d) d ≡ []
down_none d = let none : d - d ≡ 0 = omega arith in rw none refl

down_more : (n m high : ℕ) → n ≡ suc m → down n high ≡ high ∷ down m (high - 1)
down_more n m high is = rw is refl

module _ (P : Prog) (groups : Grouping) where
  abbrev N : Program
  N = normal_of P groups.list

  none_refused : AreRefused N []
  none_refused k x below = absurd (omega (arith, below))

  -- the analysis at the first degree is not refused
  pub made_here : (d low : ℕ) (text : String Global) → low ≤ d → IsDraft P N d (string_bytes text) → IsDrafted P groups d low (Made d text) []
  made_here d low text least is = ([], least, omega arith, record { at = sym (down_none d); why = none_refused }, is, refl)

  -- the analysis at a degree is refused, and so are those at the degrees below
  with_degree : (d e m : ℕ) (r : RefusedDegree) (refused : List RefusedDegree) → r.degree ≡ d → RefusedAt N d r.fault → m ≡ suc e →
      AreRefusedAt N (down e (d - 1)) refused → AreRefusedAt N (down m d) (r ∷ refused)
  with_degree d e m r refused same at count below = record {
    at = ap (λ degree. degree ∷ map (λ (r : RefusedDegree). r.degree) refused) same ∙ ap (λ degrees. d ∷ degrees) below.at ∙ sym (down_more m e d count);
    why = All-cons (λ (r : RefusedDegree). RefusedAt N r.degree r.fault) r refused (subst (λ degree. RefusedAt N degree r.fault) (sym same) at) below.why;
  }

  -- the analysis at the lowest degree is refused
  pub refused_here : (d low : ℕ) (r : RefusedDegree) → r.degree ≡ d → RefusedAt N d r.fault → d ≡ low →
      IsDrafted P groups d low NotAnalysed (note (names_for P groups) r)
  refused_here d low r same at last = (
    r ∷ [],
    with_degree d 0 (suc d - low) r [] same at (omega (arith, last)) (record { at = refl; why = none_refused }),
    sym (append-nil (note (names_for P groups) r)),
  )

  -- that at a higher one is refused
  pub refused_more : (d low : ℕ) (r : RefusedDegree) (draft : Draft) (rest : Text) → r.degree ≡ d → RefusedAt N d r.fault → 1 ≤ low → low < d →
      IsDrafted P groups (d - 1) low draft rest → IsDrafted P groups d low draft (note (names_for P groups) r ++ rest)
  refused_more d low r (Made e text) rest same at least less (refused, low_is, high_is, below, is, told) = (
    r ∷ refused,
    low_is,
    omega (arith, high_is),
    with_degree d (d - 1 - e) (d - e) r refused same at (omega (arith, high_is, less)) below,
    is,
    ap (λ t. note (names_for P groups) r ++ t) told,
  )
  refused_more d low r NotAnalysed rest same at least less (refused, below, told) = (
    r ∷ refused,
    with_degree d (suc (d - 1) - low) (suc d - low) r refused same at (omega (arith, least, less)) below,
    ap (λ t. note (names_for P groups) r ++ t) told,
  )
  refused_more d low r Refused rest same at least less is = absurd is
