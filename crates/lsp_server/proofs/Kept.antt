-- Documents that are opened, changed, closed and known, at the place of the first of a name.
use Rattle.std.proofs.Common.{◌≡◌, ◌⊎◌, inl, inr, ℕ, ℤ, ◌<◌, [], ◌∷◌, ◌++◌, List, length, get_or, Option, None, Some, refl, sym, ap, subst, ◌∙◌}
use Rattle.std.specs.Prelude.{slice_get, slice_set}
use Rattle.std.specs.List.{remove}
use Rattle.std.proofs.lemmas.Option.{slice_get_read, get_or_from_slice_get}
use Rattle.lsp_positions.specs.declared.position.Encoding.{Encoding}
use Rattle.lsp_language.specs.Telling.{Telling}
use Rattle.lsp_language.specs.declared.insight.Insight.{Insight}
use Rattle.lsp_documents.specs.Changes.{Replacement, all_changed}
use Rattle.lsp_params.specs.Asks.{NewName}
use Rattle.lsp_params.specs.declared.asking.Ask.{Ask}
use Rattle.lsp_results.specs.Renames.{IsRenamed}
use Rattle.lsp_server.specs.State.{Open}
use Rattle.lsp_server.specs.Documents.{is_of, first_of, IsFirst, opened_at, opened, changed_to, changed_at, changed, closed_at, closed, IsLearnt, learnt, MayLearn}
use Rattle.lsp_server.specs.Requests.{Answer, OfDocument, IsOfInsight, RenamedIn}

pub opened_none : (old : List Open) (new : Open) → first_of (is_of new.uri) old ≡ None → old ++ new ∷ [] ≡ opened old new
opened_none old new none = sym (ap (opened_at old new) none)

pub opened_there : (old : List Open) (new : Open) (place : ℕ) → IsFirst (is_of new.uri) old place → slice_set old place new ≡ opened old new
opened_there old new place first = sym (ap (opened_at old new) first.first)

-- the document that is read at the place is the one that is found
pub is_read : (old : List Open) (place : ℕ) (item document : Open) → item ≡ get_or old place item → slice_get old place ≡ Some document → item ≡ document
is_read old place item document read there = read ∙ get_or_from_slice_get old place document item there

pub changed_none : (encoding : Encoding) (old : List Open) (uri : List ℕ) (version : ℤ) (changes : List Replacement) →
    first_of (is_of uri) old ≡ None → old ≡ changed encoding old uri version changes
changed_none encoding old uri version changes none = sym (ap (changed_at encoding old version changes) none)

pub changed_there : (encoding : Encoding) (old : List Open) (uri : List ℕ) (version : ℤ) (changes : List Replacement) (place : ℕ) (item : Open) →
    IsFirst (is_of uri) old place → item ≡ get_or old place item →
    slice_set old place (changed_to item version (all_changed encoding item.content.text changes)) ≡ changed encoding old uri version changes
changed_there encoding old uri version changes place item first read =
    ap (λ (d : Open). slice_set old place (changed_to d version (all_changed encoding d.content.text changes)))
    (is_read old place item first.document read first.there)
    ∙ sym (ap (changed_at encoding old version changes) first.first)

pub closed_none : (old : List Open) (uri : List ℕ) → first_of (is_of uri) old ≡ None → old ≡ closed old uri
closed_none old uri none = sym (ap (closed_at old) none)

pub closed_there : (old : List Open) (uri : List ℕ) (place : ℕ) → IsFirst (is_of uri) old place → remove old place ≡ closed old uri
closed_there old uri place first = sym (ap (closed_at old) first.first)

-- what is answered of the document at the place is what is answered of the one of the name
pub of_first : (tells : Telling) (encoding : Encoding) (uri : List ℕ) (old new : List Open) (place : ℕ) (ask : Ask) (answer : Answer) →
    (first : IsFirst (is_of uri) old place) → IsOfInsight tells encoding old new (place, first.document) ask answer →
    OfDocument tells encoding old new (first_of (is_of uri) old) ask answer
of_first tells encoding uri old new place ask answer first is = subst (λ found. OfDocument tells encoding old new found ask answer) (sym first.first) is

-- what is answered of another name in the document that is read at the place is what is answered of the one of the name
pub renamed_first : (tells : Telling) (encoding : Encoding) (documents : List Open) (place : ℕ) (item : Open) (wanted : NewName) (answer : Answer) →
    IsFirst (is_of wanted.uri) documents place → item ≡ get_or documents place item →
    IsRenamed tells encoding item.content.text item.uri wanted.position wanted.name answer →
    RenamedIn tells encoding (first_of (is_of wanted.uri) documents) wanted answer
renamed_first tells encoding documents place item wanted answer first read is =
    subst (λ found. RenamedIn tells encoding found wanted answer) (sym first.first)
    (subst (λ (d : Open). IsRenamed tells encoding d.content.text d.uri wanted.position wanted.name answer)
    (is_read documents place item first.document read first.there) is)

pub learns : (tells : Telling) (old new : List Open) (place : ℕ) (item : Open) (insight : Insight) → place < length old →
    item ≡ get_or old place item → IsLearnt tells item item.known insight → new ≡ slice_set old place (learnt item insight) → MayLearn tells old new
learns tells old new place item insight within read is kept =
    inr (place, item, insight, slice_get_read old (length old) place item refl within read, is, kept)

pub learnt_same : (document : Open) (insight : Insight) → document.known ≡ Some insight → document ≡ learnt document insight
learnt_same document insight known = ap (λ (k : Option Insight). record { uri = document.uri; content = document.content; known = k; published = document.published }) known

pub learnt_already : (tells : Telling) (document : Open) (insight : Insight) → document.known ≡ Some insight →
    (known : Insight) × IsLearnt tells document document.known known × (document ≡ learnt document known)
learnt_already tells document insight known =
    (insight, subst (λ (k : Option Insight). IsLearnt tells document k insight) (sym known) refl, learnt_same document insight known)
