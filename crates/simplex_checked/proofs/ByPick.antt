-- What is told of fractions is an answer, by the rule that is named.
use Rattle.std.proofs.Common.{◌≡◌, ◌<◌, ℕ, ℤ, pos, ◌*ℤ◌, ◌<ℤ◌, List, [], ◌∷◌, ◌++◌, slice_index_or, Option, refl, sym, ◌∙◌, subst, arith}
use Rattle.std.proofs.lemmas.List.{length-map}
use Rattle.std.proofs.lemmas.Int.{ints}
use Rattle.std.specs.Prelude.{Result, Ok, Err, IfOk, IfErr, IsErrAnd}
use lib.IntN.{negsuc}
use Rattle.raml_num.proofs.Signed.{lt_mul}
use Rattle.linear_rows.specs.Systems.{LinearSystem, ProvesLeast}
use Rattle.frac128.specs.declared.Frac.{Frac}
use Rattle.simplex_spec.specs.Tableaux.{Tableau, opening, pivot, solution, dual, ray}
use Rattle.simplex_spec.specs.Courses.{Rule, IsPivot, Leads, FollowsFrom, Refuses, AtOpening, AtPivot, rule_by}
use Rattle.simplex.specs.Solving.{IsBest, IsRefuted, CutsBy}
use Rattle.simplex_integers.specs.Wholes.{most, AreLeastWholes, ScaleLeaves}
use Rattle.simplex_integers.specs.Denominators.{over, all_over}
use Rattle.simplex_integers.specs.Laws.{AreNatural, LeastDenominators, RefusedEntriesLeave}
use Rattle.simplex_integers.specs.Reading.{Both, Vector, BothAreFine, VectorIsFine}
use Rattle.simplex_checked.specs.declared.answer.Answer.{Answer}
use Rattle.simplex_checked.specs.declared.answer.Answer.TheVariants as a
use Rattle.simplex_checked.specs.declared.fault.AnswerFault.{AnswerFault}
use Rattle.simplex_checked.specs.declared.fault.AnswerFault.TheVariants as f
use Rattle.simplex_checked.specs.Wholes.{AreLeast, AreRefuting, AreTaken, EntryLeaves, InDenominator, InNumber, IsLeastOver, IsLeastAnswer, IsInOwn, IsVectorAnswer, EntryIsRefused, LeastFails, RefutingFails}
use Rattle.simplex_checked.specs.Outcomes.{NoOutcome}
use Rattle.simplex_checked.specs.Answers.{IsSolution, IsAnswer, Stops}
use Rattle.simplex_checked.specs.Alone.{OfSolution, OfVector, IsAlone, StopsAlone}
use Rattle.simplex_checked.proofs.Joining.{over_parts, both_natural}

-- By a function of the gains that answers as the rule does

module _ (pick : List ℤ → ℤ → Option ℕ) (rule : Rule) (more : (ns : List ℤ) (d : ℤ) (o : Option ℕ) → pos 0 <ℤ d → rule ns d o → pick ns d ≡ o) (s : LinearSystem) where
  product : (a b : ℤ) → pos 0 <ℤ a → pos 0 <ℤ b → pos 0 <ℤ (a *ℤ b)
  product (negsuc k) b p q = absurd (omega (arith, ints))
  product (pos k) b p q = let r = lt_mul (pos 0) b k (omega (arith, ints)) q in omega (arith, ints)

  moves : (t : Tableau) (l c : ℕ) → pos 0 <ℤ t.over → IsPivot s t l c → pos 0 <ℤ (pivot l c t).over
  moves t l c p h = product _ _ p h.exits.positive

  follows_by : (t : Tableau) (ps : List (ℕ × ℕ)) (u : Tableau) → pos 0 <ℤ t.over → Leads s t ps u → FollowsFrom rule s t ps → FollowsFrom (rule_by pick) s t ps
  follows_by t [] u p h f = tt
  follows_by t ((l, c) ∷ ps) u p h f = (more _ _ _ p f.0, follows_by (pivot l c t) ps u (moves t l c p h.0) h.1 f.1)

  positive_along : (t : Tableau) (ps : List (ℕ × ℕ)) (u : Tableau) → pos 0 <ℤ t.over → Leads s t ps u → pos 0 <ℤ u.over
  positive_along t [] u p h = subst (λ (v : Tableau). pos 0 <ℤ v.over) h p
  positive_along t ((l, c) ∷ ps) u p h = positive_along (pivot l c t) ps u (moves t l c p h.0) h.1

  opens : pos 0 <ℤ (opening s).over
  opens = omega (arith, ints)

  pub best_by : (ps : List (ℕ × ℕ)) (x y : List Frac) → IsBest rule s ps x y → IsBest (rule_by pick) s ps x y
  best_by ps x y h = record {
    t = h.t;
    ends = h.ends;
    follows = follows_by (opening s) ps h.t opens h.ends.course.leads h.follows;
    positive = h.positive;
    x_is = h.x_is;
    y_is = h.y_is;
    least = h.least;
    proves = h.proves;
  }

  pub refuted_by : (ps : List (ℕ × ℕ)) (y : List Frac) → IsRefuted rule s ps y → IsRefuted (rule_by pick) s ps y
  refuted_by ps y h = record {
    t = h.t;
    column = h.column;
    rises = h.rises;
    follows = follows_by (opening s) ps h.t opens h.rises.course.leads h.follows;
    answers = more _ _ _ h.positive h.answers;
    positive = h.positive;
    y_is = h.y_is;
    refutes = h.refutes;
  }

  pub refuses_by : (ps : List (ℕ × ℕ)) (i c : ℕ) → Refuses rule s ps i c → Refuses (rule_by pick) s ps i c
  refuses_by ps i c (AtOpening e n) = AtOpening e n
  refuses_by ps i c (AtPivot t e course follows enters answers refused) =
      AtPivot t e course (follows_by (opening s) ps t opens course.leads follows) enters (more _ _ _ (positive_along (opening s) ps t opens course.leads) answers) refused

  -- and where it is cut
  pub cuts_by : (limit : Option ℕ) → CutsBy rule s limit → CutsBy (rule_by pick) s limit
  cuts_by limit b =
      let cut = b.cut in
      record {
        limit = b.limit;
        is_limit = b.is_limit;
        pivots = b.pivots;
        cut = record {
          t = cut.t;
          column = cut.column;
          course = cut.course;
          follows = follows_by (opening s) b.pivots cut.t opens cut.course.leads cut.follows;
          count = cut.count;
          enters = cut.enters;
          answers = more _ _ _ (positive_along (opening s) b.pivots cut.t opens cut.course.leads) cut.answers;
          row = cut.row;
          bounds = cut.bounds;
        };
      }

pub are_least : (rule : Rule) (s : LinearSystem) (ps : List (ℕ × ℕ)) (x y : List Frac) → IsBest rule s ps x y → AreLeast s x y
are_least rule s ps x y h = record {
  d = h.t.over;
  xs = solution s h.t;
  ys = dual s h.t;
  x_are = h.x_is;
  y_are = h.y_is;
  proves = h.proves h.t.over (solution s h.t) (dual s h.t) h.positive h.x_is h.y_is;
}

pub are_refuting : (rule : Rule) (s : LinearSystem) (ps : List (ℕ × ℕ)) (y : List Frac) → IsRefuted rule s ps y → AreRefuting s y
are_refuting rule s ps y h = record {
  d = h.t.over;
  ys = ray s h.column h.t;
  positive = h.positive;
  are = h.y_is;
  refutes = h.refutes h.t.over (ray s h.column h.t) h.positive h.y_is;
}

scale_leaves : RefusedEntriesLeave → (d : ℤ) (ns : List ℤ) (fs : List Frac) → AreNatural d ns fs → (entry : ℕ) → EntryLeaves fs entry → ScaleLeaves d ns entry
scale_leaves law d ns fs h entry (InDenominator k) = law.denominator d ns fs h entry k
scale_leaves law d ns fs h entry (InNumber l is k) = law.number d ns fs h l is.is is.fits entry k

-- A solution

module _ (law : LeastDenominators) (rule : Rule) (s : LinearSystem) (ps : List (ℕ × ℕ)) (x y : List Frac) (h : IsBest rule s ps x y) where
  proof : ProvesLeast s (solution s h.t) (dual s h.t) h.t.over
  proof = h.proves h.t.over (solution s h.t) (dual s h.t) h.positive h.x_is h.y_is

  own : AreNatural h.t.over (solution s h.t) x
  own = record { positive = h.positive; natural = proof.solves.natural; are = h.x_is }

  both : AreNatural h.t.over (solution s h.t ++ dual s h.t) (x ++ y)
  both = both_natural h.t.over (solution s h.t) (dual s h.t) x y own (record { positive = h.positive; natural = proof.dual.natural; are = h.y_is })

  fine : (l : ℕ) → AreTaken (x ++ y) l → BothAreFine rule s l (all_over l x) (all_over l y)
  fine l taken = record {
    both = record {
      pivots = ps;
      table = h.t;
      ends = h.ends;
      follows = h.follows;
      whole = subst (AreLeastWholes h.t.over (solution s h.t ++ dual s h.t) l) (over_parts l x y)
          (law h.t.over (solution s h.t ++ dual s h.t) (x ++ y) both l taken.denominator.is);
      unknowns = length-map x (over l) ∙ h.x_is.count ∙ proof.solves.one_each;
    };
    denominator = taken.denominator.fits;
    numbers = subst (λ ns. (i : ℕ) → slice_index_or ns i 0 < most) (over_parts l x y) taken.numbers;
  }

  is_solution : (t : ℕ) → IsLeastOver s x y t → IsSolution rule s t (all_over t x)
  is_solution t k = record {
    solution = record { pivots = ps; table = h.t; ends = h.ends; follows = h.follows; whole = law h.t.over (solution s h.t) x own t k.own.is };
    fits = k.own.fits;
    over = k.over;
    primal = all_over k.over x;
    dual = all_over k.over y;
    fine = fine k.over k.taken;
    passed = k.passed;
  }

  pub is_least : (answer : Answer) → IsLeastAnswer s x y answer → IsAnswer rule s answer
  is_least (a.Solution denominator numbers) k = (k.0, all_over k.0 x, k.1, k.2, is_solution k.0 k.3)
  is_least (a.Vector numbers) k = absurd k

  pub least_stops : RefusedEntriesLeave → (fault : AnswerFault) → LeastFails s x y fault → Stops rule s fault
  least_stops entries (f.Scale entry) k =
      (h.t.over, solution s h.t ++ dual s h.t, Both ps h.t h.ends h.follows refl refl, scale_leaves entries h.t.over (solution s h.t ++ dual s h.t) (x ++ y) both entry k)
  least_stops entries (f.Least column) k = (k.0, all_over k.0 x, all_over k.0 y, fine k.0 k.1, k.2)
  least_stops entries f.NoMemory k = tt
  least_stops entries (f.Solve pivots row column) k = absurd k
  least_stops entries (f.Refute column) k = absurd k

  pub is_alone : (answer : Answer) → IsInOwn x answer → IsAlone rule s answer
  is_alone (a.Solution denominator numbers) k = (
    k.0,
    all_over k.0 x,
    k.1,
    k.2,
    record {
      solution = record { pivots = ps; table = h.t; ends = h.ends; follows = h.follows; whole = law h.t.over (solution s h.t) x own k.0 k.3.denominator.is };
      denominator = k.3.denominator.fits;
      numbers = k.3.numbers;
    },
  )
  is_alone (a.Vector numbers) k = absurd k

  pub alone_stops : RefusedEntriesLeave → (fault : AnswerFault) → EntryIsRefused x fault → StopsAlone rule s fault
  alone_stops entries (f.Scale entry) k =
      (h.t.over, solution s h.t, OfSolution ps h.t h.ends h.follows refl refl, scale_leaves entries h.t.over (solution s h.t) x own entry k)
  alone_stops entries f.NoMemory k = tt
  alone_stops entries (f.Solve pivots row column) k = absurd k
  alone_stops entries (f.Refute column) k = absurd k
  alone_stops entries (f.Least column) k = absurd k

-- A vector

module _ (law : LeastDenominators) (rule : Rule) (s : LinearSystem) (ps : List (ℕ × ℕ)) (y : List Frac) (h : IsRefuted rule s ps y) where
  natural : AreNatural h.t.over (ray s h.column h.t) y
  natural = record { positive = h.positive; natural = (h.refutes h.t.over (ray s h.column h.t) h.positive h.y_is).natural; are = h.y_is }

  vector : (l : ℕ) → AreTaken y l → VectorIsFine rule s (all_over l y)
  vector l taken = record {
    vector = record {
      pivots = ps;
      table = h.t;
      column = h.column;
      rises = h.rises;
      follows = h.follows;
      answers = h.answers;
      t = l;
      whole = law h.t.over (ray s h.column h.t) y natural l taken.denominator.is;
    };
    denominator = taken.denominator.fits;
    numbers = taken.numbers;
  }

  pub is_vector : (answer : Answer) → IsVectorAnswer s y answer → IsAnswer rule s answer
  is_vector (a.Solution denominator numbers) k = absurd k
  is_vector (a.Vector numbers) k = (all_over k.0 y, k.2, record { fine = vector k.0 k.1; passed = k.3 })

  pub vector_stops : RefusedEntriesLeave → (fault : AnswerFault) → RefutingFails s y fault → Stops rule s fault
  vector_stops entries (f.Scale entry) k =
      (h.t.over, ray s h.column h.t, Vector ps h.t h.column h.rises h.follows h.answers refl refl, scale_leaves entries h.t.over (ray s h.column h.t) y natural entry k)
  vector_stops entries (f.Refute column) k = (all_over k.0 y, vector k.0 k.1, k.2)
  vector_stops entries f.NoMemory k = tt
  vector_stops entries (f.Solve pivots row column) k = absurd k
  vector_stops entries (f.Least column) k = absurd k

  pub vector_is_alone : (answer : Answer) → IsVectorAnswer s y answer → IsAlone rule s answer
  vector_is_alone (a.Solution denominator numbers) k = absurd k
  vector_is_alone (a.Vector numbers) k = is_vector (a.Vector numbers) k

  pub vector_stops_alone : RefusedEntriesLeave → (fault : AnswerFault) → RefutingFails s y fault → StopsAlone rule s fault
  vector_stops_alone entries (f.Scale entry) k =
      (h.t.over, ray s h.column h.t, OfVector ps h.t h.column h.rises h.follows h.answers refl refl, scale_leaves entries h.t.over (ray s h.column h.t) y natural entry k)
  vector_stops_alone entries (f.Refute column) k = vector_stops entries (f.Refute column) k
  vector_stops_alone entries f.NoMemory k = tt
  vector_stops_alone entries (f.Solve pivots row column) k = absurd k
  vector_stops_alone entries (f.Least column) k = absurd k

-- What the code comes to

abbrev pub IsMore : (List ℤ → ℤ → Option ℕ) → Rule → Type 0
IsMore pick rule = (ns : List ℤ) (d : ℤ) (o : Option ℕ) → pos 0 <ℤ d → rule ns d o → pick ns d ≡ o

module _ (law : LeastDenominators) (rule : Rule) (s : LinearSystem) (ps : List (ℕ × ℕ)) where
  pub best_answers : (x y : List Frac) → IsBest rule s ps x y → (answer : Answer) → IsLeastAnswer s x y answer →
      (pick : List ℤ → ℤ → Option ℕ) → IsMore pick rule → IsAnswer (rule_by pick) s answer
  best_answers x y h answer k pick more = is_least law (rule_by pick) s ps x y (best_by pick rule more s ps x y h) answer k

  pub best_fails : (x y : List Frac) → IsBest rule s ps x y → RefusedEntriesLeave → (fault : AnswerFault) → LeastFails s x y fault →
      (pick : List ℤ → ℤ → Option ℕ) → IsMore pick rule → Stops (rule_by pick) s fault
  best_fails x y h entries fault k pick more = least_stops law (rule_by pick) s ps x y (best_by pick rule more s ps x y h) entries fault k

  pub vector_ok : (y : List Frac) → IsRefuted rule s ps y → (answer : Answer) → IsVectorAnswer s y answer →
      (pick : List ℤ → ℤ → Option ℕ) → IsMore pick rule → IsAnswer (rule_by pick) s answer
  vector_ok y h answer k pick more = is_vector law (rule_by pick) s ps y (refuted_by pick rule more s ps y h) answer k

  -- the same where what proves a solution least is not looked at
  pub alone_ok : (x y : List Frac) → IsBest rule s ps x y → (r : Result Answer AnswerFault) → IfOk r (IsInOwn x) →
      IfOk r (λ answer. (pick : List ℤ → ℤ → Option ℕ) → IsMore pick rule → IsAlone (rule_by pick) s answer)
  alone_ok x y h (Ok answer) k = λ pick more. is_alone law (rule_by pick) s ps x y (best_by pick rule more s ps x y h) answer k
  alone_ok x y h (Err fault) k = tt

  pub alone_err : (x y : List Frac) → IsBest rule s ps x y → RefusedEntriesLeave → (r : Result Answer AnswerFault) → IfErr r (EntryIsRefused x) →
      IfErr r (λ fault. (pick : List ℤ → ℤ → Option ℕ) → IsMore pick rule → StopsAlone (rule_by pick) s fault)
  alone_err x y h entries (Ok answer) k = tt
  alone_err x y h entries (Err fault) k = λ pick more. alone_stops law (rule_by pick) s ps x y (best_by pick rule more s ps x y h) entries fault k

  pub vector_alone_ok : (y : List Frac) → IsRefuted rule s ps y → (answer : Answer) → IsVectorAnswer s y answer →
      (pick : List ℤ → ℤ → Option ℕ) → IsMore pick rule → IsAlone (rule_by pick) s answer
  vector_alone_ok y h answer k pick more = vector_is_alone law (rule_by pick) s ps y (refuted_by pick rule more s ps y h) answer k

-- where there is no outcome
module _ (law : LeastDenominators) (entries : RefusedEntriesLeave) (rule : Rule) (s : LinearSystem) where
  pub no_outcome_stops : (fault : AnswerFault) → NoOutcome rule s fault → (pick : List ℤ → ℤ → Option ℕ) → IsMore pick rule → Stops (rule_by pick) s fault
  no_outcome_stops (f.Solve pivots row column) k pick more = refuses_by pick rule more s pivots.items row column k
  no_outcome_stops f.NoMemory k pick more = tt
  no_outcome_stops (f.Scale entry) k pick more = vector_stops law (rule_by pick) s k.0 k.1 (refuted_by pick rule more s k.0 k.1 k.2) entries (f.Scale entry) k.3
  no_outcome_stops (f.Refute column) k pick more = vector_stops law (rule_by pick) s k.0 k.1 (refuted_by pick rule more s k.0 k.1 k.2) entries (f.Refute column) k.3
  no_outcome_stops (f.Least column) k pick more = absurd k.3

  pub no_outcome_stops_alone : (fault : AnswerFault) → NoOutcome rule s fault → (pick : List ℤ → ℤ → Option ℕ) → IsMore pick rule → StopsAlone (rule_by pick) s fault
  no_outcome_stops_alone (f.Solve pivots row column) k pick more = no_outcome_stops (f.Solve pivots row column) k pick more
  no_outcome_stops_alone f.NoMemory k pick more = tt
  no_outcome_stops_alone (f.Scale entry) k pick more = vector_stops_alone law (rule_by pick) s k.0 k.1 (refuted_by pick rule more s k.0 k.1 k.2) entries (f.Scale entry) k.3
  no_outcome_stops_alone (f.Refute column) k pick more = no_outcome_stops (f.Refute column) k pick more
  no_outcome_stops_alone (f.Least column) k pick more = absurd k.3

-- a fault that is passed on
pub passed_on : {A X : Type 0} (P : X → Type 0) (r : Result A X) (e : X) → IsErrAnd r (λ x. x ≡ e) → P e → IfErr r P
passed_on P (Ok x) e h k = tt
passed_on P (Err x) e h k = subst P (sym h) k

-- what fails of a vector that refutes is no outcome
pub vector_fails : (rule : Rule) (s : LinearSystem) (ps : List (ℕ × ℕ)) (y : List Frac) → IsRefuted rule s ps y → (fault : AnswerFault) → RefutingFails s y fault → NoOutcome rule s fault
vector_fails rule s ps y h (f.Solve pivots row column) k = absurd k
vector_fails rule s ps y h (f.Scale entry) k = (ps, y, h, k)
vector_fails rule s ps y h (f.Refute column) k = (ps, y, h, k)
vector_fails rule s ps y h (f.Least column) k = absurd k
vector_fails rule s ps y h f.NoMemory k = tt
