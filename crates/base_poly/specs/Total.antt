-- The orders of indices and of tuples are total, and equal indices are one.
use Rattle.std.specs.Prelude.{◌≡◌, ℕ, Bool, List, [], ◌∷◌, ◌++◌, true, refl, IsTrue}
use Rattle.std.proofs.Common.{sym, ◌∙◌, ap, subst, append_assoc, append-nil}
use Rattle.std.specs.declared.cmp.Ordering.{Ordering}
use Rattle.std.specs.declared.cmp.Ordering.TheVariants.{Less, Equal, Greater}
use Rattle.std.specs.Ordering.{ordering_then, ordering_reverse, is_eq, eq_by_cmp, nat_cmp}
use Rattle.std.specs.Cmp.{IsTotalOrder}
use Rattle.std.specs.Cmp.Lexicographic.{slice_cmp}
use Rattle.std.proofs.lemmas.Cmp.{on_total, then_total, nat_cmp_total, nat_list_cmp_total, eq_by_cmp_equiv}
use Rattle.base_poly.specs.Plain.{Plain, Unit', Pair, End, Then, NoEntry, OneEntry, many, entries_of, degrees, capped, order, same, alike}
use Rattle.base_poly.specs.Plain.{writes}
use Rattle.base_poly.specs.Indices.{each_in_turn, tuple_order, capped_order}

-- an index as a list of numbers, which sorts as the index does
abbrev spell : Plain → List ℕ
spell Unit' = 1 ∷ []
spell (Pair a b) = 2 ∷ (spell a ++ spell b)
spell End = 3 ∷ []
spell (Then x r) = 4 ∷ (spell x ++ spell r)
spell NoEntry = 5 ∷ []
spell (OneEntry x) = 6 ∷ spell x

then_assoc : (a b c : Ordering) → ordering_then (ordering_then a b) c ≡ ordering_then a (ordering_then b c)
then_assoc Less b c = refl
then_assoc Equal b c = refl
then_assoc Greater b c = refl

then_Equal : (a : Ordering) → ordering_then a Equal ≡ a
then_Equal Less = refl
then_Equal Equal = refl
then_Equal Greater = refl

-- two spellings one after the other on both sides
two : (a b c d r s : List ℕ) (p q : Ordering) →
    ((t u : List ℕ) → slice_cmp nat_cmp (a ++ t) (c ++ u) ≡ ordering_then p (slice_cmp nat_cmp t u)) →
    ((t u : List ℕ) → slice_cmp nat_cmp (b ++ t) (d ++ u) ≡ ordering_then q (slice_cmp nat_cmp t u)) →
    slice_cmp nat_cmp ((a ++ b) ++ r) ((c ++ d) ++ s) ≡ ordering_then (ordering_then p q) (slice_cmp nat_cmp r s)
two a b c d r s p q f g =
    rw (append_assoc a b r, append_assoc c d s, f (b ++ r) (d ++ s), g r s) (sym (then_assoc p q (slice_cmp nat_cmp r s)))

by_spell : (x y : Plain) (r s : List ℕ) →
    slice_cmp nat_cmp (spell x ++ r) (spell y ++ s) ≡ ordering_then (order x y) (slice_cmp nat_cmp r s)
by_spell (Pair a b) (Pair c d) r s = two (spell a) (spell b) (spell c) (spell d) r s (order a c) (order b d) (by_spell a c) (by_spell b d)
by_spell (Then x q) (Then y t) r s = two (spell x) (spell q) (spell y) (spell t) r s (order x y) (order q t) (by_spell x y) (by_spell q t)
by_spell (OneEntry x) (OneEntry y) r s = by_spell x y r s
by_spell x Unit' r s = refl
by_spell x y r s = refl

is_order : (x y : Plain) → slice_cmp nat_cmp (spell x) (spell y) ≡ order x y
is_order x y =
    ap (λ l. slice_cmp nat_cmp l (spell y)) (sym (append-nil (spell x)))
    ∙ ap (λ l. slice_cmp nat_cmp (spell x ++ []) l) (sym (append-nil (spell y)))
    ∙ by_spell x y [] []
    ∙ then_Equal (order x y)

pub order_total : IsTotalOrder order
order_total = subst IsTotalOrder (λ i x y. is_order x y i) (on_total spell nat_list_cmp_total)

pub order_many : (is js : List Plain) → order (many is) (many js) ≡ each_in_turn is js
order_many [] [] = refl
order_many [] (j ∷ js) = refl
order_many (i ∷ is) [] = refl
order_many (i ∷ is) (j ∷ js) = ap (ordering_then (order i j)) (order_many is js)

pub tuple_total : IsTotalOrder tuple_order
tuple_total =
    subst IsTotalOrder (λ n x y. ordering_then (nat_cmp (degrees x) (degrees y)) (order_many x y n))
    (then_total (on_total degrees nat_cmp_total) (on_total many order_total))

pub capped_total : IsTotalOrder capped_order
capped_total = then_total (on_total (λ t. capped (degrees t)) nat_cmp_total) (on_total many order_total)

-- equal answers come from equal parts
first_equal : (a b : Ordering) → ordering_then a b ≡ Equal → a ≡ Equal
first_equal Less b h = h
first_equal Equal b h = refl
first_equal Greater b h = h

second_equal : (a b : Ordering) → ordering_then a b ≡ Equal → b ≡ Equal
second_equal Less b h = cc
second_equal Equal b h = h
second_equal Greater b h = cc

pub equal_is_one : (x y : Plain) → order x y ≡ Equal → x ≡ y
equal_is_one Unit' Unit' h = refl
equal_is_one (Pair a b) (Pair c d) h =
    let e = equal_is_one a c (first_equal (order a c) (order b d) h) in
    let f = equal_is_one b d (second_equal (order a c) (order b d) h) in
    λ i. Pair (e i) (f i)
equal_is_one End End h = refl
equal_is_one (Then x r) (Then y s) h =
    let e = equal_is_one x y (first_equal (order x y) (order r s) h) in
    let f = equal_is_one r s (second_equal (order x y) (order r s) h) in
    λ i. Then (e i) (f i)
equal_is_one NoEntry NoEntry h = refl
equal_is_one (OneEntry x) (OneEntry y) h = ap OneEntry (equal_is_one x y h)
equal_is_one x y h = cc

is_Equal : (o : Ordering) → IsTrue (is_eq o) → o ≡ Equal
is_Equal Less h = cc
is_Equal Equal h = refl
is_Equal Greater h = cc

pub same_is : (x y : Plain) → IsTrue (same x y) → x ≡ y
same_is x y h = equal_is_one x y (is_Equal (order x y) h)

pub writes_alike : (x y : Plain) → IsTrue (same x y) → writes x ≡ writes y
writes_alike x y h = ap writes (same_is x y h)

-- Tuples

pub entries_of_many : (is : List Plain) → entries_of (many is) ≡ is
entries_of_many [] = refl
entries_of_many (i ∷ is) = ap (λ l. i ∷ l) (entries_of_many is)

pub alike_is : (t u : List Plain) → alike t u ≡ true → t ≡ u
alike_is t u h = sym (entries_of_many t) ∙ ap entries_of (same_is (many t) (many u) h) ∙ entries_of_many u

pub alike_self : (t : List Plain) → alike t t ≡ true
alike_self t = (eq_by_cmp_equiv order_total).refl (many t)

tied : (o : Ordering) → o ≡ ordering_reverse o → o ≡ Equal
tied Less h = cc
tied Equal h = refl
tied Greater h = cc

-- equal tuples are those that their order does not tell apart
pub alike_capped : (x y : List Plain) → alike x y ≡ eq_by_cmp capped_order x y
alike_capped x y = at (order (many x) (many y)) refl
  where
    with_degrees : Ordering → Bool
    with_degrees o = is_eq (ordering_then (nat_cmp (capped (degrees x)) (capped (degrees y))) o)

    not_less : (o : Ordering) → is_eq Less ≡ is_eq (ordering_then o Less)
    not_less Less = refl
    not_less Equal = refl
    not_less Greater = refl

    not_greater : (o : Ordering) → is_eq Greater ≡ is_eq (ordering_then o Greater)
    not_greater Less = refl
    not_greater Equal = refl
    not_greater Greater = refl

    at : (o : Ordering) → order (many x) (many y) ≡ o → is_eq o ≡ with_degrees o
    at Less e = not_less (nat_cmp (capped (degrees x)) (capped (degrees y)))
    at Greater e = not_greater (nat_cmp (capped (degrees x)) (capped (degrees y)))
    at Equal e =
        let one = sym (entries_of_many x) ∙ ap entries_of (equal_is_one (many x) (many y) e) ∙ entries_of_many y in
        let n = capped (degrees x) in
        let same = tied (nat_cmp n n) (nat_cmp_total.antisymm n n) in
        sym (ap (λ o. is_eq (ordering_then o Equal)) ((λ i. nat_cmp n (capped (degrees (sym one i)))) ∙ same))
