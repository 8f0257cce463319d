-- Two answers for one system agree, and there is none exactly where its course rises.
use Rattle.std.proofs.Common.{ℕ, List, ◌*ℤ◌, ◌≤ℤ◌, arith, ◌↔◌}
use Rattle.std.proofs.lemmas.Int.{ints}
use Rattle.linear_rows.specs.Systems.{LinearSystem, IsSystem}
use Rattle.linear_rows.specs.Vectors.{dot}
use Rattle.linear_rows.proofs.Duality.{no_solution}
use Rattle.simplex_spec.specs.Tableaux.{solution, ray}
use Rattle.simplex_spec.specs.Courses.{Rule, AnswersOnce, RisesBy}
use Rattle.simplex_spec.proofs.Agreeing as ends
use Rattle.simplex_spec.proofs.Paths.{rise_refused}
use Rattle.frac128.specs.declared.Frac.{Frac}
use Rattle.simplex.specs.declared.answer.Answer.{Answer}
use Rattle.simplex.specs.declared.answer.Answer.TheVariants.{Best, NoSolution, Leaves}
use Rattle.simplex.specs.Solving.{IsAnswer, IsBest, IsRefuted, SaysNone, EqualSums, Agree}

equal_sums : (r q : Rule) (s : LinearSystem) (ps qs : List (ℕ × ℕ)) (x y z w : List Frac) → IsBest r s ps x y → IsBest q s qs z w → EqualSums s x z
equal_sums r q s ps qs x y z w a b = record {
  equal = λ t u xs zs pt pu x_is z_is.
      let p = a.least t xs pt x_is in
      let q = b.least u zs pu z_is in
      let h : (u *ℤ dot s.weights xs) ≤ℤ (t *ℤ dot s.weights zs) = p.least zs u pu q.solves in
      let k : (t *ℤ dot s.weights zs) ≤ℤ (u *ℤ dot s.weights xs) = q.least xs t pt p.solves in
      omega (arith, ints);
}

not_both : (r q : Rule) (s : LinearSystem) (ps qs : List (ℕ × ℕ)) (x y z : List Frac) → IsBest r s ps x y → IsRefuted q s qs z → ⊥
not_both r q s ps qs x y z a b =
    let p = a.least a.t.over (solution s a.t) a.positive a.x_is in
    no_solution s (ray s b.column b.t) (solution s a.t) a.t.over (b.refutes b.t.over (ray s b.column b.t) b.positive b.y_is) a.positive p.solves

pub answers_agree : (r q : Rule) (s : LinearSystem) (a b : Answer) → IsAnswer r s a → IsAnswer q s b → Agree s a b
answers_agree r q s (Leaves ps i c) b f g = tt
answers_agree r q s (Best x y ps) (Best z w qs) f g = equal_sums r q s ps.items qs.items x.items y.items z.items w.items f g
answers_agree r q s (Best x y ps) (NoSolution z qs) f g = not_both r q s ps.items qs.items x.items y.items z.items f g
answers_agree r q s (Best x y ps) (Leaves qs i c) f g = tt
answers_agree r q s (NoSolution y ps) (Best z w qs) f g = not_both q r s qs.items ps.items z.items w.items y.items g f
answers_agree r q s (NoSolution y ps) (NoSolution z qs) f g = tt
answers_agree r q s (NoSolution y ps) (Leaves qs i c) f g = tt

pub none_where_risen : (rule : Rule) (s : LinearSystem) (a : Answer) → IsSystem s → IsAnswer rule s a → AnswersOnce rule → (SaysNone a ↔ RisesBy rule s)
none_where_risen rule s (Best x y ps) h best once = (λ none. absurd none, λ r. ends.not_both s ps.items r.pivots best.t r.t r.column h best.ends r.rises)
none_where_risen rule s (NoSolution y ps) h risen once =
    (λ none. record { pivots = ps.items; t = risen.t; column = risen.column; rises = risen.rises; follows = risen.follows; answers = risen.answers }, λ r. tt)
none_where_risen rule s (Leaves ps i c) h refuses once =
    (λ none. absurd none, λ r. rise_refused rule once s r.pivots ps.items r.t r.column i c h r.rises r.follows r.answers refuses)
