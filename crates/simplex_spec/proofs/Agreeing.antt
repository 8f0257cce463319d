-- The laws of courses.
use Rattle.std.proofs.Common.{◌≡◌, ℕ, ◌<◌, ◌^◌, ℤ, ◌*ℤ◌, ◌≤ℤ◌, arith, List, length}
use Rattle.std.proofs.lemmas.Int.{ints}
use Rattle.linear_rows.specs.Systems.{LinearSystem, IsSystem, Refutes, ProvesLeast}
use Rattle.linear_rows.specs.Vectors.{dot}
use Rattle.linear_rows.proofs.Duality.{least, no_solution}
use Rattle.simplex_spec.specs.Tableaux.{Tableau, right, solution, dual, ray, Exits}
use Rattle.simplex_spec.specs.Courses.{Course, Ends, Rises}
use Rattle.simplex_spec.proofs.Ending.{good_course, courses_end, one_row_exits}
use Rattle.simplex_spec.proofs.Reading.{proves_least, refutes}

pub ends_least : (s : LinearSystem) (ps : List (ℕ × ℕ)) (t : Tableau) → IsSystem s → Ends s ps t → ProvesLeast s (solution s t) (dual s t) t.over
ends_least s ps t h e = proves_least s h t (good_course s ps t h e.course) e.none

pub rise_refutes : (s : LinearSystem) (ps : List (ℕ × ℕ)) (t : Tableau) (c : ℕ) → IsSystem s → Rises s ps t c → Refutes s (ray s c t)
rise_refutes s ps t c h e = refutes s h t (good_course s ps t h e.course) c e.enters.gain e.none

pub course_ends : (s : LinearSystem) (ps : List (ℕ × ℕ)) (t : Tableau) → IsSystem s → Course s ps t → length ps < 2 ^ right s
course_ends s ps t h k = courses_end s ps t h k

pub one_exits : (s : LinearSystem) (ps : List (ℕ × ℕ)) (t : Tableau) (c l m : ℕ) → IsSystem s → Course s ps t → Exits s c t l → Exits s c t m → l ≡ m
one_exits s ps t c l m h k a b = one_row_exits s t c l m (good_course s ps t h k) a b

-- two proofs that a sum is least tell the same sum
pub same_sums : (s : LinearSystem) (x y z w : List ℤ) (t u : ℤ) → ProvesLeast s x y t → ProvesLeast s z w u → u *ℤ dot s.weights x ≡ t *ℤ dot s.weights z
same_sums s x y z w t u p q =
    let a : (u *ℤ dot s.weights x) ≤ℤ (t *ℤ dot s.weights z) = (least s x y t p).least z u q.positive q.solves in
    let b : (t *ℤ dot s.weights z) ≤ℤ (u *ℤ dot s.weights x) = (least s z w u q).least x t p.positive p.solves in
    omega (arith, ints)

pub agree : (s : LinearSystem) (ps qs : List (ℕ × ℕ)) (t u : Tableau) → IsSystem s → Ends s ps t → Ends s qs u
    → u.over *ℤ dot s.weights (solution s t) ≡ t.over *ℤ dot s.weights (solution s u)
agree s ps qs t u h e f = same_sums s (solution s t) (dual s t) (solution s u) (dual s u) t.over u.over (ends_least s ps t h e) (ends_least s qs u h f)

pub not_both : (s : LinearSystem) (ps qs : List (ℕ × ℕ)) (t u : Tableau) (c : ℕ) → IsSystem s → Ends s ps t → Rises s qs u c → ⊥
not_both s ps qs t u c h e r =
    let p = ends_least s ps t h e in
    no_solution s (ray s c u) (solution s t) t.over (rise_refutes s qs u c h r) p.positive p.solves
