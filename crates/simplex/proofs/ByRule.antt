-- An answer by one rule is an answer by every rule that answers as much.
use Rattle.std.proofs.Common.{ℕ, List, [], ◌∷◌, ℤ, Option}
use Rattle.linear_rows.specs.Systems.{LinearSystem}
use Rattle.simplex_spec.specs.Tableaux.{Tableau, pivot, opening}
use Rattle.simplex_spec.specs.Courses.{Rule, FollowsFrom, Refuses, AtOpening, AtPivot}
use Rattle.simplex.specs.declared.answer.Answer.{Answer}
use Rattle.simplex.specs.declared.answer.Answer.TheVariants.{Best, NoSolution, Leaves}
use Rattle.simplex.specs.Solving.{IsAnswer}

module _ (r q : Rule) (more : (ns : List ℤ) (d : ℤ) (o : Option ℕ) → r ns d o → q ns d o) (s : LinearSystem) where
  follows_by : (t : Tableau) (ps : List (ℕ × ℕ)) → FollowsFrom r s t ps → FollowsFrom q s t ps
  follows_by t [] f = tt
  follows_by t (p ∷ ps) f = (more _ _ _ f.0, follows_by (pivot p.0 p.1 t) ps f.1)

  refuses_by : (ps : List (ℕ × ℕ)) (i c : ℕ) → Refuses r s ps i c → Refuses q s ps i c
  refuses_by ps i c (AtOpening e n) = AtOpening e n
  refuses_by ps i c (AtPivot t e course f enters a refused) = AtPivot t e course (follows_by (opening s) ps f) enters (more _ _ _ a) refused

  pub answer_by : (a : Answer) → IsAnswer r s a → IsAnswer q s a
  answer_by (Best x y ps) h = record {
    t = h.t;
    ends = h.ends;
    follows = follows_by (opening s) ps.items h.follows;
    positive = h.positive;
    x_is = h.x_is;
    y_is = h.y_is;
    least = h.least;
    proves = h.proves;
  }
  answer_by (NoSolution y ps) h = record {
    t = h.t;
    column = h.column;
    rises = h.rises;
    follows = follows_by (opening s) ps.items h.follows;
    answers = more _ _ _ h.answers;
    positive = h.positive;
    y_is = h.y_is;
    refutes = h.refutes;
  }
  answer_by (Leaves ps i c) h = refuses_by ps.items i c h
