-- What is known of open documents was told, once a message is taken too.
use Rattle.std.proofs.Common.{◌≡◌, ℕ, zero, suc, ℤ, Bool, true, false, cond, [], ◌∷◌, ◌++◌, List, Option, None, Some, option_map, refl, sym, ap, subst}
use Rattle.std.specs.Prelude.{slice_set, option_and_then}
use Rattle.std.specs.List.{remove}
use Rattle.serde_json.specs.Data.{Data}
use Rattle.lsp_positions.specs.declared.position.Encoding.{Encoding}
use Rattle.lsp_language.specs.Telling.{Telling}
use Rattle.lsp_language.specs.declared.insight.Insight.{Insight}
use Rattle.lsp_documents.specs.Changes.{Replacement, all_changed}
use Rattle.lsp_requests.specs.Kinds.{Kind, Request, Notification, Response, Malformed}
use Rattle.lsp_params.specs.Asks.{asked_of, uri_of}
use Rattle.lsp_params.specs.Opened.{Opening, opening_of, versioned_of, changes_of}
use Rattle.lsp_params.specs.declared.asking.Ask.{Ask}
use Rattle.lsp_server.specs.State.{Open, State}
use Rattle.lsp_server.specs.Documents.{is_of, first_of, fresh, opened_at, changed_to, changed_at, closed_at, IsLearnt, learnt}
use Rattle.lsp_server.specs.Life.{method_of, notice_of}
use Rattle.lsp_server.specs.Requests.{Answer, OfDocument, OfText, OfRunning, Answers}
use Rattle.lsp_server.specs.Notices.{opened_by, changed_by, closed_by, documents_after, heard_in}
use Rattle.lsp_server.specs.Protocol.{Takes, IsTaken}
use Rattle.lsp_server.specs.Told.{IsTold, AllTold}
use Rattle.lsp_server.specs.declared.life.Life.{Life}
use Rattle.lsp_server.specs.declared.life.Life.TheVariants.{Fresh, Running, ShutDown}
use Rattle.lsp_server.specs.declared.life.Flow.{Flow}
use Rattle.lsp_server.specs.declared.method.Method.{Method}
use Rattle.lsp_server.specs.declared.method.Method.TheVariants.{Initialize, Shutdown, About, Rename, Unknown}
use Rattle.lsp_server.specs.declared.method.Notice.{Notice}
use Rattle.lsp_server.specs.declared.method.Notice.TheVariants as n

module _ (tells : Telling) where
  set_told : (documents : List Open) (place : ℕ) (new : Open) → IsTold tells new.content.text new.known → AllTold tells documents → AllTold tells (slice_set documents place new)
  set_told [] place new told all = all
  set_told (d ∷ ds) zero new told all = (told, all.1)
  set_told (d ∷ ds) (suc place) new told all = (all.0, set_told ds place new told all.1)

  more_told : (documents : List Open) (new : Open) → IsTold tells new.content.text new.known → AllTold tells documents → AllTold tells (documents ++ new ∷ [])
  more_told [] new told all = (told, tt)
  more_told (d ∷ ds) new told all = (all.0, more_told ds new told all.1)

  removed_told : (documents : List Open) (place : ℕ) → AllTold tells documents → AllTold tells (remove documents place)
  removed_told [] zero all = tt
  removed_told [] (suc place) all = tt
  removed_told (d ∷ ds) zero all = all.1
  removed_told (d ∷ ds) (suc place) all = (all.0, removed_told ds place all.1)

  abbrev Told : Open → Type 0
  Told document = IsTold tells document.content.text document.known

  first_told : (test : Open → Bool) (documents : List Open) (found : ℕ × Open) → first_of test documents ≡ Some found → AllTold tells documents → Told found.1
  first_told test [] found e all = absurd (cc e)
  first_told test (d ∷ ds) found e all = at (λ f here. first_told test ds f here all.1) (test d) e
    where
      later : ((f : ℕ × Open) → first_of test ds ≡ Some f → Told f.1) → (o : Option (ℕ × Open)) → first_of test ds ≡ o →
          option_map (λ found. (suc found.0, found.1)) o ≡ Some found → Told found.1
      later rest None here h = absurd (cc h)
      later rest (Some f) here h = subst Told (let same : f.1 ≡ found.1 = cc h in same) (rest f here)

      at : ((f : ℕ × Open) → first_of test ds ≡ Some f → Told f.1) → (b : Bool) →
          cond b (Some (0, d)) (option_map (λ found. (suc found.0, found.1)) (first_of test ds)) ≡ Some found → Told found.1
      at rest true h = subst Told (let same : d ≡ found.1 = cc h in same) all.0
      at rest false h = later rest (first_of test ds) refl h

  learnt_told : (document : Open) (known : Option Insight) (insight : Insight) → IsLearnt tells document known insight → IsTold tells document.content.text known →
      tells.insight document.content.text insight
  learnt_told document None insight is told = is
  learnt_told document (Some known) insight is told = subst (tells.insight document.content.text) (sym is) told

  document_told : (encoding : Encoding) (test : Open → Bool) (before after : List Open) (ask : Ask) (answer : Answer) (found : Option (ℕ × Open)) → first_of test before ≡ found →
      OfDocument tells encoding before after found ask answer → AllTold tells before → AllTold tells after
  document_told encoding test before after ask answer None e is all = subst (AllTold tells) (sym is.same) all
  document_told encoding test before after ask answer (Some found) e is all =
      subst (AllTold tells) (sym is.kept)
      (set_told before found.0 (learnt found.1 is.insight) (learnt_told found.1 found.1.known is.insight is.is (first_told test before found e all)) all)

  text_told : (encoding : Encoding) (before after : List Open) (answer : Answer) (asked : Option (List ℕ × Ask)) → OfText tells encoding before after asked answer →
      AllTold tells before → AllTold tells after
  text_told encoding before after answer None is all = subst (AllTold tells) (sym is.same) all
  text_told encoding before after answer (Some asked) is all =
      document_told encoding (is_of asked.0) before after asked.1 answer (first_of (is_of asked.0) before) refl is all

  running_told : (encoding : Encoding) (before after : List Open) (method : Method) (params : Option Data) (answer : Answer) →
      OfRunning tells encoding before after method params answer → AllTold tells before → AllTold tells after
  running_told encoding before after Initialize params answer is all = subst (AllTold tells) (sym is.same) all
  running_told encoding before after Shutdown params answer is all = subst (AllTold tells) (sym is.same) all
  running_told encoding before after (About subject) params answer is all =
      text_told encoding before after answer (option_and_then (asked_of subject) params) is all
  running_told encoding before after Rename params answer is all = subst (AllTold tells) (sym is.0) all
  running_told encoding before after Unknown params answer is all = subst (AllTold tells) (sym is.same) all

  answered_told : (life : Life) (encoding : Encoding) (before after : List Open) (method : Method) (params : Option Data) (answer : Answer) →
      Answers tells life encoding before after method params answer → AllTold tells before → AllTold tells after
  answered_told Fresh encoding before after method params answer is all = subst (AllTold tells) (sym is.same) all
  answered_told Running encoding before after method params answer is all = running_told encoding before after method params answer is all
  answered_told ShutDown encoding before after method params answer is all = subst (AllTold tells) (sym is.same) all

  opened_told : (before : List Open) (uri text : List ℕ) (version : ℤ) (found : Option (ℕ × Open)) → AllTold tells before →
      AllTold tells (opened_at before (fresh uri version text) found)
  opened_told before uri text version None all = more_told before (fresh uri version text) tt all
  opened_told before uri text version (Some found) all = set_told before found.0 (fresh uri version text) tt all

  changed_to_told : (document : Open) (version : ℤ) (text : Option (List ℕ)) → Told document → Told (changed_to document version text)
  changed_to_told document version None told = told
  changed_to_told document version (Some text) told = tt

  changed_told : (encoding : Encoding) (test : Open → Bool) (before : List Open) (version : ℤ) (changes : List Replacement) (found : Option (ℕ × Open)) → first_of test before ≡ found →
      AllTold tells before → AllTold tells (changed_at encoding before version changes found)
  changed_told encoding test before version changes None e all = all
  changed_told encoding test before version changes (Some found) e all =
      let text = all_changed encoding found.1.content.text changes in
      set_told before found.0 (changed_to found.1 version text) (changed_to_told found.1 version text (first_told test before found e all)) all

  closed_told : (before : List Open) (found : Option (ℕ × Open)) → AllTold tells before → AllTold tells (closed_at before found)
  closed_told before None all = all
  closed_told before (Some found) all = removed_told before found.0 all

  opened_by_told : (before : List Open) (opening : Option Opening) → AllTold tells before → AllTold tells (opened_by before opening)
  opened_by_told before None all = all
  opened_by_told before (Some o) all = opened_told before o.uri o.text o.version (first_of (is_of o.uri) before) all

  changed_by_told : (encoding : Encoding) (before : List Open) (versioned : Option (List ℕ × ℤ)) (changes : Option (List Replacement)) → AllTold tells before →
      AllTold tells (changed_by encoding before versioned changes)
  changed_by_told encoding before None None all = all
  changed_by_told encoding before None (Some changes) all = all
  changed_by_told encoding before (Some versioned) None all = all
  changed_by_told encoding before (Some versioned) (Some changes) all =
      changed_told encoding (is_of versioned.0) before versioned.1 changes (first_of (is_of versioned.0) before) refl all

  closed_by_told : (before : List Open) (uri : Option (List ℕ)) → AllTold tells before → AllTold tells (closed_by before uri)
  closed_by_told before None all = all
  closed_by_told before (Some uri) all = closed_told before (first_of (is_of uri) before) all

  notice_told : (encoding : Encoding) (before : List Open) (notice : Notice) (params : Option Data) → AllTold tells before →
      AllTold tells (documents_after encoding before notice params)
  notice_told encoding before n.Open params all = opened_by_told before (option_and_then opening_of params) all
  notice_told encoding before n.Change params all =
      changed_by_told encoding before (option_and_then versioned_of params) (option_and_then changes_of params) all
  notice_told encoding before n.Close params all = closed_by_told before (option_and_then uri_of params) all
  notice_told encoding before n.Exit params all = all
  notice_told encoding before n.Other params all = all

  heard_told : (life : Life) (encoding : Encoding) (before : List Open) (notice : Notice) (params : Option Data) → AllTold tells before →
      AllTold tells (heard_in life encoding before notice params)
  heard_told Fresh encoding before notice params all = all
  heard_told Running encoding before notice params all = notice_told encoding before notice params all
  heard_told ShutDown encoding before notice params all = all

  takes_told : (before after : State) (kind : Kind) (params : Option Data) (sent : List Data) → Takes tells before after kind params sent → AllTold tells before.documents →
      AllTold tells after.documents
  takes_told before after (Request id name) params sent is all =
      answered_told before.life before.encoding before.documents after.documents (method_of name) params is.answer is.answered.answers all
  takes_told before after (Notification name) params sent is all =
      subst (λ (s : State). AllTold tells s.documents) (sym is.0) (heard_told before.life before.encoding before.documents (notice_of name) params all)
  takes_told before after (Response id) params sent is all = subst (λ (s : State). AllTold tells s.documents) (sym is.0) all
  takes_told before after (Malformed code) params sent is all = subst (λ (s : State). AllTold tells s.documents) (sym is.0) all

  pub taken_told : (content : List ℕ) (before after : State) (old new : List ℕ) (flow : Flow) → IsTaken tells content before after old new flow →
      AllTold tells before.documents → AllTold tells after.documents
  taken_told content before after old new flow is all = takes_told before after is.kind is.params is.acts.sent is.acts.takes all
