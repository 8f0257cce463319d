-- What holds nothing that has a size counts as a number does, and no power is left out.
use Rattle.std.specs.Prelude.{◌≡◌, ◌≢◌, ◌≤◌, ◌*◌, ◌&&◌, ℕ, pos, Bool, true, false, None, List, length, All, slice_index_or}
use Rattle.std.specs.List.{list_all}
use Rattle.raml_syntax.specs.Tree.{Text, Type', Integer, Boolean, PairOf, ListOf, TreeOf}
use Rattle.raml_syntax.specs.Value.{Value, Has, HaveTypes}
use Rattle.base_poly.specs.Plain.{Plain, deg, degrees, entry_count}
use Rattle.base_poly.specs.Indices.{IsIndex, AreIndices, zero_of}
use Rattle.base_poly.specs.Base.{base}
use Rattle.base_poly.specs.Poly.{Term}
use Rattle.bound_compare.specs.Laws.{picks}
use Rattle.poly_point.specs.Point.{worth}
use Rattle.bound_compare.specs.Powers.{Powers, ArePowers, power_at, powers_worth, element_counts}
use Rattle.explain_algebra.specs.Algebra.{size_names, name_at}

-- a number, a truth value, or a pair of these
abbrev pub holds_no_size : Type' → Bool
holds_no_size Integer = true
holds_no_size Boolean = true
holds_no_size (PairOf A B) = holds_no_size A && holds_no_size B
holds_no_size A = false

-- the type has the index of degree 0 and no other, and it counts 1 at every value
pub record CountsOne (A : Type') : Type 0 where
  pub only : (i : Plain) → IsIndex i A → i ≡ zero_of A
  pub degree : deg (zero_of A) ≡ 0
  pub one : (v : Value) → Has v A → base (zero_of A) v ≡ 1

-- an index of the first type counts, at each of its values, what the index with as many entries over numbers does
abbrev pub CountsByEntries : Type' → Type 0
CountsByEntries A = (i : Plain) (v : Value) → IsIndex i A → Has v A → base i v ≡ base (picks (entry_count i)) v

-- So a list or a tree of such elements counts as one of numbers.
pub record CountAsNumbers : Type 0 where
  pub elements : (A : Type') → holds_no_size A ≡ true → CountsOne A
  pub lists : (A : Type') → holds_no_size A ≡ true → CountsByEntries (ListOf A)
  pub trees : (A : Type') → holds_no_size A ≡ true → CountsByEntries (TreeOf A)

-- nothing in it has a size but the list or tree that it may be itself
abbrev pub is_shallow : Type' → Bool
is_shallow (ListOf A) = holds_no_size A
is_shallow (TreeOf A) = holds_no_size A
is_shallow A = holds_no_size A

abbrev pub are_shallow : List Type' → Bool
are_shallow As = list_all is_shallow As

-- The powers of a polynomial over shallow parameters are worth, at the element counts of any arguments, 24 times what its
-- terms are.
abbrev pub PowersAreWorth : Type 0
PowersAreWorth = (As : List Type') (ts : List Term) (ps : Powers) → are_shallow As ≡ true → All (λ t. AreIndices t.0 As) ts →
    All (λ t. degrees t.0 ≤ 4) ts → ArePowers ts ps → (vs : List Value) → HaveTypes vs As →
    powers_worth (element_counts vs) ps ≡ pos (24 * worth ts vs)

-- Each power that it has is written: at exponents of which one stands at a parameter without a name, there is nothing. At most
-- eight names take at most eight of the sixteen letters.
abbrev pub NoneIsUnnamed : Type 0
NoneIsUnnamed = (params : List Text) (As : List Type') (ts : List Term) → length params ≤ 8 → are_shallow As ≡ true → length As ≤ 8 →
    All (λ t. AreIndices t.0 As) ts → (es : List ℕ) (j : ℕ) → name_at (size_names params As) j ≡ None → slice_index_or es j 0 ≢ 0 →
    power_at es ts ≡ pos 0
