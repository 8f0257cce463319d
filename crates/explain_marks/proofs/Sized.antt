-- The size of the argument at a place.
use Rattle.std.proofs.Common.{◌≡◌, ◌≤◌, ◌<◌, ◌^◌, ◌∙◌, ℕ, zero, suc, List, [], ◌∷◌, length, Some, refl, sym, ap, subst, arith}
use Rattle.std.specs.Prelude.{slice_get, slice_index_or}
use Rattle.raml_syntax.specs.Value.{Value, size}
use Rattle.base_poly.specs.Base.{elements, total}
use Rattle.value_text.specs.declared.word.Word.{Word}
use Rattle.value_text.specs.declared.word.Cell as c
use Rattle.value_text.specs.Heap.{IsBelow, NameEarlier}
use Rattle.value_text.specs.Stands.{StandsFor, StandForAll}
use Rattle.value_text.proofs.Standing.{stands_is, stands_there}
use Rattle.poly_point.specs.Point.{AreArguments}
use Rattle.poly_point.specs.Walk.{value}
use Rattle.explain_marks.specs.Marks.{size_at}

-- the value for which the word at a place stands
pub record StandsAt (cells : List c.Cell) (word : Word) (vs : List Value) (place : ℕ) : Type 0 where
  pub one : Value
  pub there : slice_get vs place ≡ Some one
  pub stands : StandsFor cells word one
  pub few : size one ≤ total size vs
  pub sized : size_at place vs ≡ length (elements one)

pub stands_at : (cells : List c.Cell) (words : List Word) (vs : List Value) (place : ℕ) (word : Word) → StandForAll cells words vs → slice_get words place ≡ Some word →
    StandsAt cells word vs place
stands_at cells [] vs place word stand is = absurd (cc)
stands_at cells (w ∷ words) [] place word stand is = absurd stand
stands_at cells (w ∷ words) (v ∷ vs) zero word stand is =
    let same : w ≡ word = cc is in
    record { one = v; there = refl; stands = subst (λ w. StandsFor cells w v) same stand.0; few = omega arith; sized = refl }
stands_at cells (w ∷ words) (v ∷ vs) (suc place) word stand is =
    let later = stands_at cells words vs place word stand.1 is in
    let few = later.few in
    record { one = later.one; there = later.there; stands = later.stands; few = omega (arith, few); sized = later.sized }

-- behind the last word there is no argument
pub none_sized : (cells : List c.Cell) (words : List Word) (vs : List Value) (place : ℕ) → StandForAll cells words vs → length words ≤ place → 0 ≡ size_at place vs
none_sized cells [] [] zero stand behind = refl
none_sized cells [] [] (suc place) stand behind = refl
none_sized cells [] (v ∷ vs) place stand behind = absurd stand
none_sized cells (w ∷ words) [] place stand behind = absurd stand
none_sized cells (w ∷ words) (v ∷ vs) zero stand behind = absurd (omega (arith, behind))
none_sized cells (w ∷ words) (v ∷ vs) (suc place) stand behind = none_sized cells words vs place stand.1 (omega (arith, behind))

-- what is read at a place stands there
pub got : {X : Type 0} (xs : List X) (i : ℕ) (x : X) → x ≡ slice_index_or xs i x → i < length xs → slice_get xs i ≡ Some x
got [] i x is below = absurd (omega (arith, below))
got (y ∷ ys) zero x is below = ap Some (sym is)
got (y ∷ ys) (suc i) x is below = got ys i x is (omega (arith, below))

module _ (cells : List c.Cell) (earlier : NameEarlier cells) (words : List Word) (place : ℕ) (word : Word) (is : slice_get words place ≡ Some word) where
  value_at : (vs : List Value) → StandForAll cells words vs → (at : StandsAt cells word vs place) × (at.one ≡ value cells word)
  value_at vs stand = let at = stands_at cells words vs place word stand is in (at, stands_is cells word at.one earlier at.stands)

  pub word_there : AreArguments cells words → IsBelow (length cells) word
  word_there args = let at = stands_at cells words args.values place word args.stand is in stands_there cells word at.one at.stands

  pub word_small : AreArguments cells words → size (value cells word) ≤ 2 ^ 20
  word_small args =
      let at = value_at args.values args.stand in
      let same = ap size at.1 in
      let few = at.0.few in
      let small = args.small in
      omega (arith, same, few, small)

  pub word_sized : (vs : List Value) → StandForAll cells words vs → (count : ℕ) → count ≡ length (elements (value cells word)) → count ≡ size_at place vs
  word_sized vs stand count counted =
      let at = value_at vs stand in
      counted ∙ ap (λ v. length (elements v)) (sym at.1) ∙ sym at.0.sized
