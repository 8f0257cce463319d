-- The order of fractions with one denominator.
use Rattle.std.proofs.Common.{◌≡◌, refl, ℕ, ◌<◌, ℤ, pos, ◌*ℤ◌, ◌<ℤ◌}
use Rattle.std.proofs.lemmas.Cmp.{int_ranked}
use Rattle.std.specs.Cmp.{int_cmp_is}
use Rattle.std.specs.Ordering.{int_cmp}
use Rattle.std.specs.declared.cmp.Ordering.{Ordering}
use Rattle.std.specs.declared.cmp.Ordering.TheVariants.{Less, Equal, Greater}
use lib.IntN.{*ℤ_comm}
use Rattle.raml_num.proofs.Signed.{lt_mul}
use Rattle.frac128.specs.declared.Frac.{Frac}
use Rattle.frac128.specs.Order.{order_of}

scaled : (a c : ℤ) (d : ℕ) → 0 < d → a <ℤ c → (a *ℤ pos d) <ℤ (c *ℤ pos d)
scaled a c d h l = rw (*ℤ_comm a (pos d), *ℤ_comm c (pos d)) (lt_mul a c d h l)

pub by_numerators : (x y : Frac) (o : Ordering) → x.den ≡ y.den → o ≡ int_cmp x.num y.num → o ≡ order_of x y
by_numerators x y Less e p = int_cmp_is (x.num *ℤ pos y.den) (y.num *ℤ pos x.den) Less (rw e (scaled x.num y.num y.den y.lowest.positive (int_ranked _ _ Less p)))
by_numerators x y Equal e p = int_cmp_is (x.num *ℤ pos y.den) (y.num *ℤ pos x.den) Equal (rw (e, int_ranked x.num y.num Equal p) refl)
by_numerators x y Greater e p = int_cmp_is (x.num *ℤ pos y.den) (y.num *ℤ pos x.den) Greater (rw e (scaled y.num x.num y.den y.lowest.positive (int_ranked _ _ Greater p)))
