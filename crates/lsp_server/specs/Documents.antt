-- Open documents.
use Rattle.std.specs.Prelude.{ℕ, suc, ℤ, ◌≡◌, ◌⊎◌, Bool, true, false, not, cond, List, [], ◌∷◌, ◌++◌, Option, None, Some, option_map}
use Rattle.std.specs.Prelude.{slice_get, slice_set}
use Rattle.std.specs.List.{remove}
use Rattle.std.specs.Str.{bytes_eq}
use Rattle.lsp_positions.specs.declared.position.Encoding.{Encoding}
use Rattle.lsp_language.specs.Telling.{Telling}
use Rattle.lsp_language.specs.declared.insight.Insight.{Insight}
use Rattle.lsp_documents.specs.Changes.{Replacement, all_changed}
use Rattle.lsp_server.specs.State.{Open}

abbrev pub is_of : List ℕ → Open → Bool
is_of uri document = bytes_eq document.uri uri

abbrev pub is_unpublished : Open → Bool
is_unpublished document = not document.published

-- the first that passes the test, and its place
abbrev pub first_of : (Open → Bool) → List Open → Option (ℕ × Open)
first_of test [] = None
first_of test (d ∷ ds) = cond (test d) (Some (0, d)) (option_map (λ found. (suc found.0, found.1)) (first_of test ds))

-- the first that passes the test stands at this place
pub record IsFirst (test : Open → Bool) (documents : List Open) (place : ℕ) : Type 0 where
  pub document : Open
  pub there : slice_get documents place ≡ Some document
  pub first : first_of test documents ≡ Some (place, document)

-- a text of which nothing is known yet
abbrev pub fresh : List ℕ → ℤ → List ℕ → Open
fresh uri version text = record { uri = uri; content = record { text = text; version = version }; known = None; published = false }

-- the documents with one more, which stands in the place of one that is open by its name
abbrev pub opened_at : List Open → Open → Option (ℕ × Open) → List Open
opened_at documents new None = documents ++ new ∷ []
opened_at documents new (Some found) = slice_set documents found.0 new

abbrev pub opened : List Open → Open → List Open
opened documents new = opened_at documents new (first_of (is_of new.uri) documents)

-- A change that cannot be made leaves the document as it is.
abbrev pub changed_to : Open → ℤ → Option (List ℕ) → Open
changed_to old version None = old
changed_to old version (Some text) = fresh old.uri version text

abbrev pub changed_at : Encoding → List Open → ℤ → List Replacement → Option (ℕ × Open) → List Open
changed_at encoding documents version changes None = documents
changed_at encoding documents version changes (Some found) =
    slice_set documents found.0 (changed_to found.1 version (all_changed encoding found.1.content.text changes))

abbrev pub changed : Encoding → List Open → List ℕ → ℤ → List Replacement → List Open
changed encoding documents uri version changes = changed_at encoding documents version changes (first_of (is_of uri) documents)

abbrev pub closed_at : List Open → Option (ℕ × Open) → List Open
closed_at documents None = documents
closed_at documents (Some found) = remove documents found.0

abbrev pub closed : List Open → List ℕ → List Open
closed documents uri = closed_at documents (first_of (is_of uri) documents)

-- what is known of a document once it was asked for: what was known before, or what its language tells of its text
abbrev pub IsLearnt : Telling → Open → Option Insight → Insight → Type 0
IsLearnt tells document None insight = tells.insight document.content.text insight
IsLearnt tells document (Some known) insight = insight ≡ known

abbrev pub learnt : Open → Insight → Open
learnt document insight = record { uri = document.uri; content = document.content; known = Some insight; published = document.published }

-- the documents are as before, but that one of them may be known
abbrev pub MayLearn : Telling → List Open → List Open → Type 0
MayLearn tells before after =
    (after ≡ before)
    ⊎ ((place : ℕ) × (document : Open) × (insight : Insight) × (slice_get before place ≡ Some document)
    × IsLearnt tells document document.known insight × (after ≡ slice_set before place (learnt document insight)))

abbrev pub published : Open → Open
published document = record { uri = document.uri; content = document.content; known = document.known; published = true }
