-- A program has one grouping, and the course of its analysis comes to one end.
use Rattle.std.proofs.Common.{◌≡◌, ◌<◌, ◌⊎◌, ℕ, List, [], ◌∷◌, ◌++◌, length, Option, Some, None, refl, sym, subst, arith, inl, inr, ⊎_elim}
use Rattle.std.specs.List.{Contains, All}
use Rattle.raml_syntax.specs.Tree.{Prog, Function}
use Rattle.raml_syntax.specs.Types.{Typed}
use Rattle.raml_syntax.specs.Node.{AllNodes, NumberFits}
use Rattle.call_groups.specs.Groups.{Together, Ascends, ComesNext, AreInOrder, Grouping, IsGrouping}
use Rattle.rules_soundness_laws.specs.Laws.{normal_of}
use Rattle.annot_types.specs.Program.{Program}
use Rattle.annot_types.specs.Certificate.{Certificate}
use Rattle.infer_spec.specs.Generator.{What, Analysis, Generates}
use Rattle.infer_spec.specs.States.{State}
use Rattle.infer_spec.specs.Places as p
use Rattle.infer_spec.specs.Places.{Place, stage}
use Rattle.infer_spec.specs.Courses.{OnTask, OnGroup, StopsAt, EndsAt}
use Rattle.cost_free.specs.Task.{Task}
use Rattle.cert_check.specs.Fault as f
use Rattle.cert_check.specs.Finds.{FirstFault}
use Rattle.cert_check.proofs.OneFault.{one_first_fault}
use Rattle.bound_infer.specs.Inferred.{IsInferred}
use Rattle.raml_words.specs.declared.request.Rule.{Rule}
use Rattle.refusals.specs.Ending as e
use Rattle.refusals.specs.Ending.{Ending, TooLarge, Overflows, InCheck}
use Rattle.raml_promise.specs.Outside.{Sound, Complete}
use Rattle.raml_promise.specs.Steps.{Answer, OfNormal, RefusedOf, names_of}
use Rattle.refusal_text.specs.declared.task.Analysed.{Analysed}
use Rattle.raml_promise.specs.Analysis.{analysis, pick_of, CourseRefuses, IsCourse, OfCourse}
use Rattle.raml_promise.specs.Known.{KnownLaws}
use Rattle.raml_promise.specs.Promise.{Alike}
use Rattle.base_poly.proofs.Among.{Among, among_contains, contains_among}
use Rattle.raml_promise.proofs.Alike.{alike_same, Same, steps_same, either_refused, neither_refused}

-- ---- groups

-- a first element is less than the others
least_first : (f : ℕ) (fs : List ℕ) → Ascends (f ∷ fs) → (g : ℕ) → Among g fs → f < g
least_first f [] up g there = absurd there
least_first f (x ∷ fs) up g there = ⊎_elim (λ same. subst (λ k. f < k) same up.0) (λ more. let l = least_first x fs up.1 g more in omega (arith, l, up.0)) there

later_ascends : (f : ℕ) (fs : List ℕ) → Ascends (f ∷ fs) → Ascends fs
later_ascends f [] up = tt
later_ascends f (x ∷ fs) up = up.1

-- two lists that ascend and have the same elements are one
module _ (f g : ℕ) (fs gs : List ℕ) (up : Ascends (f ∷ fs)) (down : Ascends (g ∷ gs)) (go : (x : ℕ) → Among x (f ∷ fs) → Among x (g ∷ gs))
    (back : (x : ℕ) → Among x (g ∷ gs) → Among x (f ∷ fs)) where
  same_first : f ≡ g
  same_first = ⊎_elim (λ e. sym e) (λ more. ⊎_elim (λ e. e) (λ less. both more less) (back g (inl refl))) (go f (inl refl))
    where
      both : Among f gs → Among g fs → f ≡ g
      both more less = let a = least_first g gs down f more in let b = least_first f fs up g less in absurd (omega (arith, a, b))

  onward : (x : ℕ) → Among x fs → Among x gs
  onward x there = ⊎_elim (λ e. never e) (λ h. h) (go x (inr there))
    where
      never : g ≡ x → Among x gs
      never e = let l = least_first f fs up x there in absurd (omega (arith, l, e, same_first))

  backward : (x : ℕ) → Among x gs → Among x fs
  backward x there = ⊎_elim (λ e. never e) (λ h. h) (back x (inr there))
    where
      never : f ≡ x → Among x fs
      never e = let l = least_first g gs down x there in absurd (omega (arith, l, e, same_first))

one_ascending : (fs gs : List ℕ) → Ascends fs → Ascends gs → ((x : ℕ) → Among x fs → Among x gs) → ((x : ℕ) → Among x gs → Among x fs) → fs ≡ gs
one_ascending [] [] up down go back = refl
one_ascending [] (g ∷ gs) up down go back = absurd (back g (inl refl))
one_ascending (f ∷ fs) [] up down go back = absurd (go f (inl refl))
one_ascending (f ∷ fs) (g ∷ gs) up down go back =
    let first = same_first f g fs gs up down go back in
    let rest = one_ascending fs gs (later_ascends f fs up) (later_ascends g gs down) (onward f g fs gs up down go back) (backward f g fs gs up down go back) in
    λ i. first i ∷ rest i

module _ (P : Prog) where
  one_next : (before group other : List ℕ) → ComesNext P before group → ComesNext P before other → group ≡ other
  one_next before group other h k =
      one_ascending group other h.ascends k.ascends
      (λ x there. contains_among x other ((k.members x).1 (subst (λ l. Together P l x) same ((h.members x).0 (among_contains x group there)))))
      (λ x there. contains_among x group ((h.members x).1 (subst (λ l. Together P l x) (sym same) ((k.members x).0 (among_contains x other there)))))
    where
      same : h.least ≡ k.least
      same = let a = h.is_least k.least k.may_come in let b = k.is_least h.least h.may_come in omega (arith, a, b)

  -- where a group comes next, not every function was there
  none_left : (before group : List ℕ) → ComesNext P before group → ((f : ℕ) → f < length P → Contains before f) → ⊥
  none_left before group h all = h.may_come.new (all h.least h.may_come.is_function)

  pub one_order : (before : List ℕ) (gs hs : List (List ℕ)) → AreInOrder P before gs → AreInOrder P before hs → gs ≡ hs
  one_order before [] [] g h = refl
  one_order before [] (y ∷ hs) g h = absurd (none_left before y h.0 g)
  one_order before (x ∷ gs) [] g h = absurd (none_left before x g.0 h)
  one_order before (x ∷ gs) (y ∷ hs) g h =
      let same = one_next before x y g.0 h.0 in
      let rest = one_order (before ++ x) gs hs g.1 (subst (λ z. AreInOrder P (before ++ z) hs) (sym same) h.1) in
      λ i. same i ∷ rest i

  pub normal_same : (Q T : Program → Answer → Type 0) → ((groups : Grouping) → IsGrouping P groups → (a b : Answer) → Q (normal_of P groups.list) a → T (normal_of P groups.list) b → Same a b) →
      (a b : Answer) → OfNormal P Q a → OfNormal P T b → Same a b
  normal_same Q T rest a b h k =
      let same = one_order [] k.groups.list h.groups.list k.grouping.in_order h.grouping.in_order in
      rest h.groups h.grouping a b h.rest (subst (λ gs. T (normal_of P gs) b) same k.rest)

-- ---- courses

module _ (laws : KnownLaws) (A : Analysis) (generates : Generates A) where
  never : (c : Certificate) (st : State) (task : Task) (place : Place) → EndsAt A c → StopsAt A st task place → ⊥
  never c st task place ends stops = laws.ends_or_stops A generates c st task place ends stops

  -- what exceeds its limit is one thing
  one_what : (st : State) (task : Task) (what other : What) → StopsAt A st task (p.TooLarge what) → StopsAt A st task (p.TooLarge other) → what ≡ other
  one_what st task what other h k = by h.stops k.stops
    where
      by : OnTask A st task (p.TooLarge what) ⊎ OnGroup A st task (p.TooLarge what) → OnTask A st task (p.TooLarge other) ⊎ OnGroup A st task (p.TooLarge other) → what ≡ other
      by (inl x) (inl y) = let a = x.place.comes in let b = y.place.comes in cc
      by (inl x) (inr y) = absurd (x.goes_on y.refused)
      by (inr x) (inl y) = absurd (y.goes_on x.refused)
      by (inr x) (inr y) = let a = x.place in let b = y.place in cc

  large_same : (task other : Task) (what last : What) → CourseRefuses A (TooLarge task what) → CourseRefuses A (TooLarge other last) → TooLarge task what ≡ TooLarge other last
  large_same task other what last h k =
      let same = laws.one_place A generates h.0 k.0 task other (p.TooLarge what) (p.TooLarge last) h.1 k.1 in
      let moved : StopsAt A h.0 task (p.TooLarge last) = subst (λ t. StopsAt A h.0 t (p.TooLarge last)) (sym same.1) (subst (λ s. StopsAt A s other (p.TooLarge last)) (sym same.0) k.1) in
      let told = one_what h.0 task what last h.1 moved in
      λ i. TooLarge (same.1 i) (told i)

  found_same : (x y : Option f.Fault) (c d : Certificate) → EndsAt A c → EndsAt A d → FirstFault A.program c x → FirstFault A.program d y → x ≡ y
  found_same x y c d c_ends d_ends h k =
      one_first_fault A.program c x y h (subst (λ z. FirstFault A.program z y) (sym (laws.one A generates c d c_ends d_ends)) k)

  course_refusals : (e other : Ending) → CourseRefuses A e → CourseRefuses A other → Alike e other
  course_refusals (TooLarge task what) (TooLarge other last) h k = alike_same _ _ (large_same task other what last h k)
  course_refusals (TooLarge task what) (Overflows (e.OnTask other place)) h k =
      let same = laws.one_place A generates h.0 k.1.0 task other (p.TooLarge what) place h.1 k.1.1 in absurd (omega (arith, same.2, k.0))
  course_refusals (TooLarge task what) (Overflows (InCheck block path index)) h k = absurd (never k.certificate h.0 task (p.TooLarge what) k.ends h.1)
  course_refusals (TooLarge task what) (Overflows (e.AtPoint meter)) h k = absurd k
  course_refusals (TooLarge task what) (Overflows (e.InPowers f meter)) h k = absurd k
  course_refusals (TooLarge task what) (Overflows (e.OnLine line)) h k = absurd k
  course_refusals (Overflows (e.OnTask task place)) (TooLarge other last) h k =
      let same = laws.one_place A generates h.1.0 k.0 task other place (p.TooLarge last) h.1.1 k.1 in absurd (omega (arith, same.2, h.0))
  course_refusals (Overflows (e.OnTask task place)) (Overflows (e.OnTask other last)) h k =
      let same = laws.one_place A generates h.1.0 k.1.0 task other place last h.1.1 k.1.1 in (same.1, same.2)
  course_refusals (Overflows (e.OnTask task place)) (Overflows (InCheck block path index)) h k = absurd (never k.certificate h.1.0 task place k.ends h.1.1)
  course_refusals (Overflows (e.OnTask task place)) (Overflows (e.AtPoint meter)) h k = absurd k
  course_refusals (Overflows (e.OnTask task place)) (Overflows (e.InPowers f meter)) h k = absurd k
  course_refusals (Overflows (e.OnTask task place)) (Overflows (e.OnLine line)) h k = absurd k
  course_refusals (Overflows (InCheck block path index)) (TooLarge other last) h k = absurd (never h.certificate k.0 other (p.TooLarge last) h.ends k.1)
  course_refusals (Overflows (InCheck block path index)) (Overflows (e.OnTask other place)) h k = absurd (never h.certificate k.1.0 other place h.ends k.1.1)
  course_refusals (Overflows (InCheck block path index)) (Overflows (InCheck b q i)) h k =
      let found = found_same (Some (f.Leaves block path index)) (Some (f.Leaves b q i)) h.certificate k.certificate h.ends k.ends h.first k.first in
      let same : Overflows (InCheck block path index) ≡ Overflows (InCheck b q i) = cc in alike_same _ _ same
  course_refusals (Overflows (InCheck block path index)) (Overflows (e.AtPoint meter)) h k = absurd k
  course_refusals (Overflows (InCheck block path index)) (Overflows (e.InPowers f meter)) h k = absurd k
  course_refusals (Overflows (InCheck block path index)) (Overflows (e.OnLine line)) h k = absurd k
  course_refusals (Overflows (e.AtPoint meter)) other h k = absurd h
  course_refusals (Overflows (e.InPowers f meter)) other h k = absurd h
  course_refusals (Overflows (e.OnLine line)) other h k = absurd h
  course_refusals (TooLarge task what) other h k = absurd k
  course_refusals (Overflows (e.OnTask task place)) other h k = absurd k
  course_refusals (Overflows (InCheck block path index)) other h k = absurd k
  course_refusals e other h k = absurd h

  refused_or_ends : (e : Ending) (c : Certificate) → CourseRefuses A e → IsInferred A c → ⊥
  refused_or_ends (TooLarge task what) c h k = never c h.0 task (p.TooLarge what) k.ends h.1
  refused_or_ends (Overflows (e.OnTask task place)) c h k = never c h.1.0 task place k.ends h.1.1
  refused_or_ends (Overflows (InCheck block path index)) c h k =
      let found = found_same (Some (f.Leaves block path index)) None h.certificate c h.ends k.ends h.first k.passes in absurd (cc)
  refused_or_ends (Overflows (e.AtPoint meter)) c h k = absurd h
  refused_or_ends (Overflows (e.InPowers f meter)) c h k = absurd h
  refused_or_ends (Overflows (e.OnLine line)) c h k = absurd h
  refused_or_ends e c h k = absurd h

pub course_same : KnownLaws → (whose : Analysed) (P : Prog) → Typed P → All (λ (g : Function). AllNodes NumberFits g.body) P → (groups : Grouping) → IsGrouping P groups → (degree : ℕ) (rule : Rule) →
    (Q T : Certificate → Answer → Type 0) → ((c : Certificate) → (a b : Answer) → Q c a → T c b → Same a b) →
    (a b : Answer) → OfCourse Complete whose P (normal_of P groups.list) degree rule Q a → OfCourse Sound whose P (normal_of P groups.list) degree rule T b → Same a b
course_same laws whose P typed numbers groups grouping degree rule Q T rest =
    steps_same (names_of P N) (names_of P N) (RefusedOf whose (CourseRefuses A)) (RefusedOf whose (CourseRefuses A)) (IsCourse Complete P A) (IsCourse Sound P A) Q T
    (record {
      refusals = either_refused whose (CourseRefuses A) (CourseRefuses A) (course_refusals laws A generates);
      not_left = λ e c r d. neither_refused whose (CourseRefuses A) (λ f s. refused_or_ends laws A generates f c s d.inferred) e r;
      not_right = λ c e d s. neither_refused whose (CourseRefuses A) (λ f r. refused_or_ends laws A generates f c r d.inferred) e s;
      one = λ c d x y. laws.one A generates c d x.inferred.ends y.inferred.ends;
    })
    (λ c x y. rest c)
  where
    N : Program
    N = normal_of P groups.list

    A : Analysis
    A = analysis N degree rule

    generates : Generates A
    generates = laws.generate N (laws.ordered P typed numbers groups grouping) degree (pick_of rule)
