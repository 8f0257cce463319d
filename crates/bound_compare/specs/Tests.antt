-- A comparison by tests.
use Rattle.std.specs.Prelude.{ℕ, ◌*◌, Bool, true, false, nat_le, List}
use Rattle.std.specs.List.{list_all}
use Rattle.base_poly.specs.Poly.{Term}
use Rattle.bound_compare.specs.Compare.{Sum, number_at}
use Rattle.bound_compare.specs.declared.relation.Relation.{Relation}
use Rattle.bound_compare.specs.declared.relation.Relation.TheVariants.{Equal, Below, Above, Mixed}

-- the relation by whether all are at most the other's, and at least
abbrev pub relation_of : Bool → Bool → Relation
relation_of true true = Equal
relation_of true false = Below
relation_of false true = Above
relation_of false false = Mixed

-- whether the number of each of the terms is at most that of its tuple in the others
abbrev pub all_at_most : List Term → ℕ → List Term → ℕ → Bool
all_at_most ts den us other_den = list_all (λ t. nat_le (t.1 * other_den) (number_at t.0 us * den)) ts

-- the relation by both tests
abbrev pub relation_between : Sum → Sum → Relation
relation_between p q = relation_of (all_at_most p.terms p.den q.terms q.den) (all_at_most q.terms q.den p.terms p.den)
