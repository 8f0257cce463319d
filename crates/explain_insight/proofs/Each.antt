-- Something for each function, in the order of the source.
use Rattle.std.proofs.Common.{◌≡◌, refl, List, [], ◌∷◌, ◌++◌}
use Rattle.std.proofs.lemmas.List.{append-nil, append_assoc}
use Rattle.raml_syntax.specs.Tree.{Function}
use Rattle.explain_degrees.specs.declared.finding.Findings.{Findings}
use Rattle.explain_insight.specs.Lenses.{AreEach}

module _ {A : Type 0} (Is : Function → Findings → A → Type 0) where
  -- these stand for the functions before, whatever stands for the others
  abbrev pub AreSoFar : List Function → List Findings → List Function → List Findings → List A → Type 0
  AreSoFar gs all left more xs = (rest : List A) → AreEach Is left more rest → AreEach Is gs all (xs ++ rest)

  pub one_more : (gs left later : List Function) (all more others : List Findings) (g : Function) (found : Findings) (xs : List A) (x : A) → left ≡ g ∷ later →
      more ≡ found ∷ others → AreSoFar gs all left more xs → Is g found x → AreSoFar gs all later others (xs ++ x ∷ [])
  one_more gs left later all more others g found xs x is same so_far one rest are =
      let from = rw (is, same) at so_far in
      rw (append_assoc xs (x ∷ []) rest) (from (x ∷ rest) (one, are))

  pub all_made : (gs left : List Function) (all more : List Findings) (xs : List A) → left ≡ [] → AreSoFar gs all left more xs → AreEach Is gs all xs
  all_made gs left all more xs is so_far =
      let from = rw is at so_far in
      rw (append-nil xs) at (from [] refl)
