-- Polynomials at values of exactly these sizes.
use Rattle.std.proofs.Common.{◌≡◌, suc, ◌+◌, ◌*◌, ◌/◌, List, [], ◌∷◌, length, All, refl, ap, ◌∙◌}
use Rattle.raml_syntax.specs.Value.{Value, Number, Truth, Both, Empty, Cons, Node, Just}
use Rattle.base_poly.specs.Plain.{Plain, Unit', Pair, End, Then, NoEntry, OneEntry, entry_count}
use Rattle.base_poly.specs.Base.{elements, base, bases, over}
use Rattle.base_poly.specs.Laws.{choose}
use Rattle.base_poly.specs.Poly.{Term, den_of, terms_of}
use Rattle.poly_point.specs.Point.{worth}
use Rattle.explain_sizes.specs.Sizes.{Sizes, NoSize, Parts, Content, Elements, HasExactly, HaveExactly}
use Rattle.explain_sizes.specs.Counts.{counts, each_counts, tuple_counts, worth_at}
use Rattle.explain_sizes.specs.Laws.{IsWorthAtExactSizes}
use Rattle.explain_sizes.proofs.Chosen.{one_entry_more}

module _ (s : Sizes) (i r : Plain) where
  entry_more : ((v : Value) → HasExactly s v → base i v ≡ counts i s) →
      ((vs : List Value) → All (HasExactly s) vs → over r vs ≡ choose (length vs) (entry_count r) * each_counts r s) →
      (vs : List Value) → All (HasExactly s) vs → over (Then i r) vs ≡ choose (length vs) (suc (entry_count r)) * (counts i s * each_counts r s)
  entry_more = one_entry_more (λ m n. m ≡ n) refl (λ a b c d p q n. p n + q n) (λ a b c d p q n. p n * q n) (HasExactly s) i r (counts i s) (each_counts r s)

mutual
  exactly : (i : Plain) (s : Sizes) (v : Value) → HasExactly s v → base i v ≡ counts i s
  exactly Unit' s v h = refl
  exactly (Pair i j) (Parts s t) (Both v w) h = λ n. exactly i s v h.0 n * exactly j t w h.1 n
  exactly End s v h = refl
  exactly (Then i r) (Elements n s) v h =
      entry_more s i r (exactly i s) (entries r s) (elements v) h.2 ∙ (λ m. choose (h.1 m) (suc (entry_count r)) * (counts i s * each_counts r s))
  exactly NoEntry s v h = refl
  exactly (OneEntry i) (Content s) (Just v) h = exactly i s v h
  exactly (Pair i j) NoSize (Number n) h = refl
  exactly (Pair i j) NoSize (Truth b) h = refl
  exactly (Pair i j) (Content s) (Just v) h = refl
  exactly (Pair i j) (Elements n s) Empty h = refl
  exactly (Pair i j) (Elements n s) (Cons u v) h = refl
  exactly (Pair i j) (Elements n s) (Node u v w) h = refl
  exactly (Then i r) NoSize (Number n) h = refl
  exactly (Then i r) NoSize (Truth b) h = refl
  exactly (Then i r) (Parts s t) (Both v w) h = refl
  exactly (Then i r) (Content s) (Just v) h = refl
  exactly (OneEntry i) NoSize (Number n) h = refl
  exactly (OneEntry i) NoSize (Truth b) h = refl
  exactly (OneEntry i) (Parts s t) (Both v w) h = refl
  exactly (OneEntry i) (Elements n s) Empty h = refl
  exactly (OneEntry i) (Elements n s) (Cons u v) h = refl
  exactly (OneEntry i) (Elements n s) (Node u v w) h = refl
  exactly i (Elements n s) v h = absurd h.0
  exactly i s v h = absurd h

  entries : (r : Plain) (s : Sizes) (vs : List Value) → All (HasExactly s) vs → over r vs ≡ choose (length vs) (entry_count r) * each_counts r s
  entries (Then i r) s vs h = entry_more s i r (exactly i s) (entries r s) vs h
  entries r s vs h = refl

tuple_exactly : (is : List Plain) (ss : List Sizes) (vs : List Value) → HaveExactly ss vs → bases is vs ≡ tuple_counts is ss
tuple_exactly [] ss vs h = refl
tuple_exactly (i ∷ is) (s ∷ ss) (v ∷ vs) h = λ n. exactly i s v h.0 n * tuple_exactly is ss vs h.1 n
tuple_exactly (i ∷ is) [] [] h = refl
tuple_exactly (i ∷ is) [] (v ∷ vs) h = absurd h
tuple_exactly (i ∷ is) (s ∷ ss) [] h = absurd h

sum_exactly : (ts : List Term) (ss : List Sizes) (vs : List Value) → HaveExactly ss vs → worth ts vs ≡ worth_at ts ss
sum_exactly [] ss vs h = refl
sum_exactly (t ∷ ts) ss vs h = λ n. t.1 * tuple_exactly t.0 ss vs h n + sum_exactly ts ss vs h n

pub is_worth : IsWorthAtExactSizes
is_worth = record { sum = sum_exactly; whole = λ p ss vs h. ap (λ n. n / den_of p) (sum_exactly (terms_of p) ss vs h) }
