-- What is told of lines, one after the other.
use Rattle.std.proofs.Common.{◌≡◌, ◌<◌, ◌+◌, ◌++◌, ℕ, zero, suc, length, map, drop, List, [], ◌∷◌, Some, IfSome, refl, sym, ap, subst, ◌∙◌, arith}
use Rattle.std.specs.Prelude.{slice_get, slice_index_or}
use Rattle.std.proofs.lemmas.List.{append-nil, append_assoc, drop_more}
use Rattle.std.proofs.lemmas.Option.{slice_get_within, get_or_from_slice_get, same_Some}
use Rattle.raml_syntax.specs.Tree.{Text, Function, Prog}
use Rattle.raml_syntax.specs.Types.{types_of}
use Rattle.bound_file.specs.Lines.{Line}
use Rattle.explain_verdicts.specs.Fractions.{ArePlaced}
use Rattle.explain_verdicts.specs.Written.{IsFound}
use Rattle.explain_verdicts.specs.declared.judged.Judged.{Judged}
use Rattle.explain_budget.specs.Telling.{IsTold, AreTold, IsObject, AreObjects}
use Rattle.explain_budget.specs.Written.{LineCanBeTold, LinesCanBeTold}

-- what stands from the i-th place on begins with the i-th element
pub from_place : {A : Type 0} (xs : List A) (i : ℕ) (x : A) → x ≡ slice_index_or xs i x → i < length xs → drop i xs ≡ x ∷ drop (i + 1) xs
from_place xs i x is below = drop_more xs i x below ∙ ap (λ first. first ∷ drop (i + 1) xs) (sym is)

pub from_there : {A : Type 0} (xs : List A) (i : ℕ) (x : A) → slice_get xs i ≡ Some x → drop i xs ≡ x ∷ drop (i + 1) xs
from_there xs i x there = from_place xs i x (sym (get_or_from_slice_get xs i x x there)) (slice_get_within xs i x there)

module _ {A B : Type 0} (f : A → B) where
  pub at_mapped : (xs : List A) (i : ℕ) (x : A) → x ≡ slice_index_or xs i x → i < length xs → slice_get (map f xs) i ≡ Some (f x)
  at_mapped [] i x is below = absurd (omega (arith, below))
  at_mapped (y ∷ ys) zero x is below = ap (λ z. Some (f z)) (sym is)
  at_mapped (y ∷ ys) (suc i) x is below = at_mapped ys i x is (omega (arith, below))

module _ (P : Prog) (d : ℕ) where
  pub as_many : (lines : List Line) (all : List Judged) → LinesCanBeTold P d lines all → length lines ≡ length all
  as_many [] [] h = refl
  as_many [] (j ∷ all) h = absurd h
  as_many (line ∷ lines) [] h = absurd h
  as_many (line ∷ lines) (j ∷ all) h = omega (arith, as_many lines all h.1)

  -- the line at a place can be told
  pub can_at : (lines : List Line) (all : List Judged) (i : ℕ) (line : Line) (j : Judged) → LinesCanBeTold P d lines all → slice_get lines i ≡ Some line → j ≡ slice_index_or all i j → LineCanBeTold P line d j
  can_at [] [] i line j h there is = absurd (cc there)
  can_at [] (x ∷ all) i line j h there is = absurd h
  can_at (l ∷ lines) [] i line j h there is = absurd h
  can_at (l ∷ lines) (x ∷ all) zero line j h there is = subst (λ x. LineCanBeTold P line d x) (sym is) (subst (λ l. LineCanBeTold P l d x) (same_Some l line there) h.0)
  can_at (l ∷ lines) (x ∷ all) (suc i) line j h there is = can_at lines all i line j h.1 there is

  -- what stands at a place
  at_place : (all : List Judged) (i : ℕ) → i < length all → (j : Judged) × (j ≡ slice_index_or all i j)
  at_place [] i low = absurd (omega (arith, low))
  at_place (j ∷ all) zero low = (j, refl)
  at_place (j ∷ all) (suc i) low = at_place all i (omega (arith, low))

  module _ (lines : List Line) (all : List Judged) (i : ℕ) (line : Line) (h : LinesCanBeTold P d lines all) (there : slice_get lines i ≡ Some line) (low : i < length all) where
    here : LineCanBeTold P line d (at_place all i low).0
    here = can_at lines all i line (at_place all i low).0 h there (at_place all i low).1

    pub fun_there : line.fun < length P
    fun_there = slice_get_within P line.fun here.fun here.there

    module _ (g : Function) (named : slice_get P line.fun ≡ Some g) where
      pub placed_at : ArePlaced (types_of g) d line.bound
      placed_at = subst (λ (g : Function). ArePlaced (types_of g) d line.bound) (same_Some here.fun g (sym here.there ∙ named)) here.placed

      pub found_at : (j : Judged) → j ≡ slice_index_or all i j → IfSome j.found (IsFound (types_of g))
      found_at j is =
          let can = can_at lines all i line j h there is in
          subst (λ (g : Function). IfSome j.found (IsFound (types_of g))) (same_Some can.fun g (sym can.there ∙ named)) can.found

  -- ---- in words

  -- the texts so far, whatever is told of the lines that are left
  abbrev pub ToldSoFar : List Line → List Judged → List Line → List Judged → List Text → Type 0
  ToldSoFar lines all left more part = (rest : List Text) → AreTold P d left more rest → AreTold P d lines all (part ++ rest)

  pub one_told : (lines left later : List Line) (all more others : List Judged) (line : Line) (j : Judged) (part : List Text) (text : Text) → left ≡ line ∷ later → more ≡ j ∷ others →
      IsTold P d line j text → ToldSoFar lines all left more part → ToldSoFar lines all later others (part ++ text ∷ [])
  one_told lines left later all more others line j part text is same told so_far rest are =
      subst (AreTold P d lines all) (sym (append_assoc part (text ∷ []) rest))
      (so_far (text ∷ rest) (subst (λ left. AreTold P d left more (text ∷ rest)) (sym is) (subst (λ more. AreTold P d (line ∷ later) more (text ∷ rest)) (sym same) (told, are))))

  pub all_told : (lines left : List Line) (all more : List Judged) (part : List Text) → left ≡ [] → more ≡ [] → ToldSoFar lines all left more part → AreTold P d lines all part
  all_told lines left all more part is same so_far =
      subst (AreTold P d lines all) (append-nil part)
      (so_far [] (subst (λ left. AreTold P d left more []) (sym is) (subst (λ more. AreTold P d [] more []) (sym same) refl)))

  -- ---- as JSON

  abbrev pub WrittenSoFar : List Line → List Judged → List Line → List Judged → Text → Type 0
  WrittenSoFar lines all left more part = (rest : Text) → AreObjects P d left more rest → AreObjects P d lines all (part ++ rest)

  pub one_written : (lines left later : List Line) (all more others : List Judged) (line : Line) (j : Judged) (part text : Text) → left ≡ line ∷ later → more ≡ j ∷ others →
      IsObject P d line j text → WrittenSoFar lines all left more part → WrittenSoFar lines all later others (part ++ text)
  one_written lines left later all more others line j part text is same told so_far rest are =
      subst (AreObjects P d lines all) (sym (append_assoc part text rest))
      (so_far (text ++ rest) (subst (λ left. AreObjects P d left more (text ++ rest)) (sym is)
      (subst (λ more. AreObjects P d (line ∷ later) more (text ++ rest)) (sym same) (text, rest, told, are, refl))))

  pub all_written : (lines left : List Line) (all more : List Judged) (part : Text) → left ≡ [] → more ≡ [] → WrittenSoFar lines all left more part → AreObjects P d lines all part
  all_written lines left all more part is same so_far =
      subst (AreObjects P d lines all) (append-nil part)
      (so_far [] (subst (λ left. AreObjects P d left more []) (sym is) (subst (λ more. AreObjects P d [] more []) (sym same) refl)))
