-- What words ask for is in range.
use Rattle.std.specs.Prelude.{◌≤◌, ◌^◌, ℕ, List, IfSome}
use Rattle.clap.specs.Walk.{Text}
use Rattle.explain_words.specs.Asking.{Asks}
use Rattle.explain_words.specs.declared.request.Request.{Request}
use Rattle.explain_words.specs.declared.request.Request.TheVariants.{Bounds, Budget, WriteBudget, Why, Plot, Profile, Lsp}
use Rattle.explain_words.specs.declared.request.bounds.BoundsWords.{BoundsWords}

abbrev pub IsDegree : ℕ → Type 0
IsDegree degree = (1 ≤ degree) × (degree ≤ 4)

-- the degree is from 1 to 4, and at most 2^127 may be spent
pub record AreInRange (words : BoundsWords) : Type 0 where
  pub least : 1 ≤ words.degree
  pub most : words.degree ≤ 4
  pub within : IfSome words.within (λ within. within.most ≤ 2 ^ 127)

abbrev pub IsInRange : Request → Type 0
IsInRange (Bounds words) = AreInRange words
IsInRange (Budget file bounds degree json) = IfSome degree IsDegree
IsInRange (WriteBudget file bounds degree force) = IfSome degree IsDegree
IsInRange (Why words) = IsDegree words.degree
IsInRange (Plot words) = IsDegree words.degree
IsInRange (Profile words) = IsDegree words.degree
IsInRange (Lsp words) = IsDegree words.degree
IsInRange other = Unit {0}

-- What words ask for is in range.
abbrev pub AskedIsInRange : Type 0
AskedIsInRange = (words : List Text) (request : Request) → Asks words request → IsInRange request
