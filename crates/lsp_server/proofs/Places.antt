-- The first document that passes a test, sought place by place.
use Rattle.std.proofs.Common.{◌≡◌, ℕ, suc, ◌+◌, ◌<◌, ◌≤◌, [], ◌∷◌, List, length, drop, get_or, Bool, true, false, Option, Some, None, refl, sym, ap, ◌∙◌, arith}
use Rattle.std.specs.Prelude.{option_map}
use Rattle.std.proofs.lemmas.List.{drop_more, drop_all}
use Rattle.std.proofs.lemmas.Option.{slice_get_read}
use Rattle.lsp_server.specs.State.{Open}
use Rattle.lsp_server.specs.Documents.{first_of, IsFirst}

-- the same, so many places later
abbrev pub later : ℕ → Option (ℕ × Open) → Option (ℕ × Open)
later n = option_map (λ found. (n + found.0, found.1))

-- the first behind so many places
abbrev pub first_from : (Open → Bool) → List Open → ℕ → Option (ℕ × Open)
first_from test documents n = later n (first_of test (drop n documents))

from_item : (test : Open → Bool) (documents : List Open) (n : ℕ) (item : Open) → n < length documents → item ≡ get_or documents n item →
    first_from test documents n ≡ later n (first_of test (item ∷ drop (n + 1) documents))
from_item test documents n item within at =
    ap (λ rest. later n (first_of test rest)) (drop_more documents n item within ∙ ap (λ x. x ∷ drop (n + 1) documents) (sym at))

later_none : (n : ℕ) (o : Option (ℕ × Open)) → later n (option_map (λ found. (suc found.0, found.1)) o) ≡ later (n + 1) o
later_none n None = refl
later_none n (Some found) = ap (λ k. Some (k, found.1)) (omega arith)

pub found_here : (test : Open → Bool) (documents : List Open) (n : ℕ) (item : Open) →
    n < length documents → item ≡ get_or documents n item → test item ≡ true → first_of test documents ≡ first_from test documents n → IsFirst test documents n
found_here test documents n item within at passes so_far = record {
  document = item;
  there = slice_get_read documents (length documents) n item refl within at;
  first = so_far ∙ from_item test documents n item within at ∙ rw passes (ap (λ k. Some (k, item)) (omega arith));
}

pub not_here : (test : Open → Bool) (documents : List Open) (n : ℕ) (item : Open) (whole : Option (ℕ × Open)) →
    n < length documents → item ≡ get_or documents n item → test item ≡ false → whole ≡ first_from test documents n → whole ≡ first_from test documents (n + 1)
not_here test documents n item whole within at fails so_far =
    so_far ∙ from_item test documents n item within at ∙ rw fails (later_none n (first_of test (drop (n + 1) documents)))

pub nowhere : (test : Open → Bool) (documents : List Open) (n : ℕ) (whole : Option (ℕ × Open)) →
    length documents ≤ n → whole ≡ first_from test documents n → whole ≡ None
nowhere test documents n whole all so_far = so_far ∙ ap (λ rest. later n (first_of test rest)) (drop_all n documents all)
