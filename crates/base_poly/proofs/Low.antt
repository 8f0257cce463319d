-- Of what there is up to a degree, what there is up to a lower one.
use Rattle.std.proofs.Common.{◌≡◌, ℕ, ◌≤◌, nat_le, true, List, filter, ap, ◌∙◌, sym, subst, arith}
use Rattle.std.specs.declared.cmp.Ordering.{Ordering}
use Rattle.std.specs.declared.cmp.Ordering.TheVariants.{Less, Greater}
use Rattle.std.specs.Ordering.{ordering_reverse}
use Rattle.std.proofs.lemmas.Bool.{leb-true, le-leb}
use Rattle.raml_syntax.specs.Tree.{Type', ListOf}
use Rattle.base_poly.specs.Plain.{Plain, many, deg, degrees, order}
use Rattle.base_poly.specs.Indices.{IsIndex, Ascends, each_in_turn, lists, indices_up_to, tuples_up_to}
use Rattle.base_poly.specs.Total.{order_many, order_total, entries_of_many}
use Rattle.base_poly.proofs.Among.{Among, among_kept, kept_among, ascends_kept}
use Rattle.base_poly.proofs.Exact.{sound, whole, sound_lists, whole_lists, sound_tuples, whole_tuples, lists_ascend, indices_ascend, tuples_ascend}
use Rattle.base_poly.proofs.Only.{one_order}

pub is_low : (n k : ℕ) → nat_le n k ≡ true → n ≤ k
is_low = leb-true

apart : Less ≡ Greater → ⊥
apart e = cc

never_order : (x y : Plain) → order x y ≡ Less → order y x ≡ Less → ⊥
never_order x y h g = apart (sym h ∙ order_total.antisymm x y ∙ ap ordering_reverse g)

pub never_turn : (x y : List Plain) → each_in_turn x y ≡ Less → each_in_turn y x ≡ Less → ⊥
never_turn x y h g = never_order (many x) (many y) (order_many x y ∙ h) (order_many y x ∙ g)

module _ {X : Type 0} (by : X → X → Ordering) (never : (x y : X) → by x y ≡ Less → by y x ≡ Less → ⊥) (size : X → ℕ) where
  low_of : (k : ℕ) (all some : List X) → Ascends by all → Ascends by some → ((x : X) → Among x some → size x ≤ k) → ((x : X) → Among x some → Among x all) → ((x : X) → Among x all → size x ≤ k → Among x some) →
      filter (λ x. nat_le (size x) k) all ≡ some
  low_of k all some up up_some low there back =
      one_order by never (filter (λ x. nat_le (size x) k) all) some (ascends_kept by (λ x. nat_le (size x) k) all up) up_some
      (λ x m. let p = among_kept (λ x. nat_le (size x) k) x all m in back x p.0 (leb-true (size x) k p.1))
      (λ x m. kept_among (λ x. nat_le (size x) k) x all (le-leb (size x) k (low x m)) (there x m))

pub low_indices : (A : Type') (k d : ℕ) → k ≤ d → filter (λ i. nat_le (deg i) k) (indices_up_to A d) ≡ indices_up_to A k
low_indices A k d h =
    low_of order never_order deg k (indices_up_to A d) (indices_up_to A k) (indices_ascend A d) (indices_ascend A k)
    (λ i m. (sound A k i m).1)
    (λ i m. let p = sound A k i m in whole A d i p.0 (let e = p.1 in omega (arith, e, h)))
    (λ i m low. whole A k i (sound A d i m).0 low)

pub low_lists : (A : Type') (k d : ℕ) → k ≤ d → filter (λ l. nat_le (deg (many l)) k) (lists (indices_up_to A) d d) ≡ lists (indices_up_to A) k k
low_lists A k d h =
    low_of each_in_turn never_turn (λ l. deg (many l)) k (lists items d d) (lists items k k) (lists_ascend items (indices_ascend A) d d) (lists_ascend items (indices_ascend A) k k)
    (λ l m. (sound_lists A items (sound A) k k l m).1)
    (λ l m. let p = sound_lists A items (sound A) k k l m in there d l p.0 (let e = p.1 in omega (arith, e, h)))
    (λ l m low. there k l (sound_lists A items (sound A) d d l m).0 low)
  where
    items : ℕ → List Plain
    items = indices_up_to A

    there : (n : ℕ) (l : List Plain) → IsIndex (many l) (ListOf A) → deg (many l) ≤ n → Among l (lists items n n)
    there n l index low = subst (λ r. Among r (lists items n n)) (entries_of_many l) (whole_lists A items (whole A) (many l) n n index low low)

pub low_tuples : (As : List Type') (k d : ℕ) → k ≤ d → filter (λ t. nat_le (degrees t) k) (tuples_up_to As d) ≡ tuples_up_to As k
low_tuples As k d h =
    low_of each_in_turn never_turn degrees k (tuples_up_to As d) (tuples_up_to As k) (tuples_ascend As d) (tuples_ascend As k)
    (λ t m. (sound_tuples As k t m).1)
    (λ t m. let p = sound_tuples As k t m in whole_tuples As d t p.0 (let e = p.1 in omega (arith, e, h)))
    (λ t m low. whole_tuples As k t (sound_tuples As d t m).0 low)
