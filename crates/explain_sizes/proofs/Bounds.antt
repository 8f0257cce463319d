-- Polynomials at values of at most these sizes.
use Rattle.std.proofs.Common.{◌≤◌, ℕ, suc, ◌*◌, List, [], ◌∷◌, length, All, arith}
use Rattle.std.proofs.Math.Nat.{le_trans, div-mul-le_self}
use Rattle.std.proofs.lemmas.Nat.{le-div}
use Rattle.raml_syntax.specs.Value.{Value, Number, Truth, Both, Empty, Cons, Node, Just}
use Rattle.base_poly.specs.Plain.{Plain, Unit', Pair, End, Then, NoEntry, OneEntry, entry_count}
use Rattle.base_poly.specs.Base.{elements, base, bases, over}
use Rattle.base_poly.specs.Laws.{choose}
use Rattle.base_poly.specs.Poly.{Term, den_of, terms_of}
use Rattle.poly_point.specs.Point.{worth}
use Rattle.explain_sizes.specs.Sizes.{Sizes, NoSize, Parts, Content, Elements, IsWithin, AreWithin}
use Rattle.explain_sizes.specs.Counts.{counts, each_counts, tuple_counts, worth_at}
use Rattle.explain_sizes.specs.Laws.{BoundsWorthWithinSizes}
use Rattle.explain_sizes.proofs.Chosen.{choose_grows, one_entry_more}

pub no_more : (m : ℕ) → m ≤ m
no_more m = omega arith

least : (m : ℕ) → 0 ≤ m
least m = omega arith

pub products : (a b c d : ℕ) → a ≤ b → c ≤ d → a * c ≤ b * d
products a b c d p q = grind (arith, p, q)

module _ (s : Sizes) (i r : Plain) where
  entry_more : ((v : Value) → IsWithin s v → base i v ≤ counts i s) →
      ((vs : List Value) → All (IsWithin s) vs → over r vs ≤ choose (length vs) (entry_count r) * each_counts r s) →
      (vs : List Value) → All (IsWithin s) vs → over (Then i r) vs ≤ choose (length vs) (suc (entry_count r)) * (counts i s * each_counts r s)
  entry_more = one_entry_more (λ m n. m ≤ n) (no_more 0) (λ a b c d p q. omega (arith, p, q)) products (IsWithin s) i r (counts i s) (each_counts r s)

mutual
  within : (i : Plain) (s : Sizes) (v : Value) → IsWithin s v → base i v ≤ counts i s
  within Unit' s v h = no_more 1
  within (Pair i j) (Parts s t) (Both v w) h = products _ _ _ _ (within i s v h.0) (within j t w h.1)
  within End s v h = no_more 1
  within (Then i r) (Elements n s) v h =
      let most = counts i s * each_counts r s in
      le_trans (entry_more s i r (within i s) (entries r s) (elements v) h.2) (products _ _ most most (choose_grows (length (elements v)) n (suc (entry_count r)) h.1) (no_more most))
  within NoEntry s v h = no_more 1
  within (OneEntry i) (Content s) (Just v) h = within i s v h
  within (Pair i j) NoSize (Number n) h = no_more 0
  within (Pair i j) NoSize (Truth b) h = no_more 0
  within (Pair i j) (Content s) Empty h = no_more 0
  within (Pair i j) (Content s) (Just v) h = no_more 0
  within (Pair i j) (Elements n s) Empty h = no_more 0
  within (Pair i j) (Elements n s) (Cons u v) h = no_more 0
  within (Pair i j) (Elements n s) (Node u v w) h = no_more 0
  within (Then i r) NoSize (Number n) h = no_more 0
  within (Then i r) NoSize (Truth b) h = no_more 0
  within (Then i r) (Parts s t) (Both v w) h = no_more 0
  within (Then i r) (Content s) Empty h = no_more 0
  within (Then i r) (Content s) (Just v) h = no_more 0
  within (OneEntry i) NoSize (Number n) h = no_more 0
  within (OneEntry i) NoSize (Truth b) h = no_more 0
  within (OneEntry i) (Parts s t) (Both v w) h = no_more 0
  within (OneEntry i) (Content s) Empty h = least (counts i s)
  within (OneEntry i) (Elements n s) Empty h = no_more 0
  within (OneEntry i) (Elements n s) (Cons u v) h = no_more 0
  within (OneEntry i) (Elements n s) (Node u v w) h = no_more 0
  within i (Elements n s) v h = absurd h.0
  within i s v h = absurd h

  entries : (r : Plain) (s : Sizes) (vs : List Value) → All (IsWithin s) vs → over r vs ≤ choose (length vs) (entry_count r) * each_counts r s
  entries (Then i r) s vs h = entry_more s i r (within i s) (entries r s) vs h
  entries r s vs h = no_more 1

tuple_within : (is : List Plain) (ss : List Sizes) (vs : List Value) → AreWithin ss vs → bases is vs ≤ tuple_counts is ss
tuple_within [] ss vs h = no_more 1
tuple_within (i ∷ is) (s ∷ ss) (v ∷ vs) h = products _ _ _ _ (within i s v h.0) (tuple_within is ss vs h.1)
tuple_within (i ∷ is) [] [] h = no_more 0
tuple_within (i ∷ is) [] (v ∷ vs) h = absurd h
tuple_within (i ∷ is) (s ∷ ss) [] h = absurd h

sum_within : (ts : List Term) (ss : List Sizes) (vs : List Value) → AreWithin ss vs → worth ts vs ≤ worth_at ts ss
sum_within [] ss vs h = no_more 0
sum_within (t ∷ ts) ss vs h =
    let one = products t.1 t.1 _ _ (no_more t.1) (tuple_within t.0 ss vs h) in let more = sum_within ts ss vs h in omega (arith, one, more)

pub bounds_worth : BoundsWorthWithinSizes
bounds_worth = record {
  sum = sum_within;
  whole = λ p ss vs some h. le-div _ _ (den_of p) some (le_trans (div-mul-le_self (worth (terms_of p) vs) (den_of p)) (sum_within (terms_of p) ss vs h));
}
