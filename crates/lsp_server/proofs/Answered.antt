-- What is answered and published of the document at a place.
use Rattle.std.proofs.Common.{◌≡◌, ◌⊎◌, inl, inr, ℕ, ◌<◌, [], ◌∷◌, ◌++◌, List, length, get_or, get_or-set_same, set-set, Option, None, Some, Result, Ok, Err, IfOk, OnErr, refl, sym, ap, subst, ◌∙◌}
use Rattle.std.specs.Prelude.{slice_get, slice_set}
use Rattle.std.specs.declared.alloc.AllocError.{AllocError}
use Rattle.serde_json.specs.Data.{Data}
use Rattle.serde_json.specs.View.{view}
use Rattle.serde_json.specs.declared.value.Value.{Value}
use Rattle.lsp_positions.specs.declared.position.Encoding.{Encoding}
use Rattle.lsp_language.specs.Telling.{Telling}
use Rattle.lsp_language.specs.declared.insight.Insight.{Insight}
use Rattle.lsp_params.specs.declared.asking.Ask.{Ask}
use Rattle.lsp_results.specs.Results.{IsResult}
use Rattle.lsp_server.specs.State.{Open, State}
use Rattle.lsp_server.specs.Documents.{IsLearnt, learnt, published, MayLearn}
use Rattle.lsp_server.specs.Life.{method_of, life_after, encoding_after}
use Rattle.lsp_server.specs.Requests.{Answer, Answers, IsAnswered, IsOfInsight, response}
use Rattle.lsp_server.specs.Notices.{published_of, publish, publication}
use Rattle.lsp_server.specs.Protocol.{IsPublished, IsAsBefore, IsActed}
use Rattle.lsp_server.specs.declared.life.Life.{Life}
use Rattle.lsp_server.specs.declared.life.Flow.TheVariants.{GoOn}
use Rattle.lsp_server.specs.declared.method.Method.{Method}
use Rattle.lsp_requests.specs.Kinds.{Id, Request, Malformed}
use Rattle.lsp_requests.specs.Answers.{error_json}
use Rattle.lsp_requests.specs.declared.code.ErrorCode.{ErrorCode}
use Rattle.serde_json.specs.Written.{compact_text}
use Rattle.lsp_frames.specs.Frames.{frame}
use Rattle.lsp_server.proofs.Taken.{one_sent}
use Rattle.lsp_server.specs.Sent.{frames}
use Rattle.lsp_server.proofs.Kept.{is_read}

-- The document at a place is known then, and stands there again.
pub record IsKnown (tells : Telling) (documents : List Open) (place : ℕ) (document new here : Open) : Type 0 where
  pub insight : Insight
  pub is : IsLearnt tells document document.known insight
  pub new_is : new ≡ learnt document insight
  pub here_is : here ≡ learnt document insight

pub known_at : (tells : Telling) (documents : List Open) (place : ℕ) (item new here document : Open) → place < length documents →
    item ≡ get_or documents place item → (insight : Insight) × IsLearnt tells item item.known insight × (new ≡ learnt item insight) →
    here ≡ get_or (slice_set documents place new) place here → slice_get documents place ≡ Some document → IsKnown tells documents place document new here
known_at tells documents place item new here document within read known again there =
    let same : item ≡ document = is_read documents place item document read there in
    let new_is : new ≡ learnt document known.0 = known.2 ∙ ap (λ (d : Open). learnt d known.0) same in
    record {
      insight = known.0;
      is = subst (λ (d : Open). IsLearnt tells d d.known known.0) same known.1;
      new_is = new_is;
      here_is = again ∙ get_or-set_same documents place new here within ∙ new_is;
    }

pub answered_at : (tells : Telling) (encoding : Encoding) (ask : Ask) (documents : List Open) (place : ℕ) (document new here : Open) (r : Result Value AllocError) →
    IsKnown tells documents place document new here →
    ((insight : Insight) → here.known ≡ Some insight → IfOk r (λ v. IsResult tells encoding here.content.text here.uri insight ask (view v))) →
    IfOk r (λ v. IsOfInsight tells encoding documents (slice_set documents place new) (place, document) ask (Ok (view v)))
answered_at tells encoding ask documents place document new here r known tell =
    go r (subst (λ (d : Open). (insight : Insight) → d.known ≡ Some insight → IfOk r (λ v. IsResult tells encoding d.content.text d.uri insight ask (view v)))
    known.here_is tell known.insight refl)
  where
    go : (r : Result Value AllocError) → IfOk r (λ v. IsResult tells encoding document.content.text document.uri known.insight ask (view v)) →
        IfOk r (λ v. IsOfInsight tells encoding documents (slice_set documents place new) (place, document) ask (Ok (view v)))
    go (Ok v) told = record {
      insight = known.insight;
      is = known.is;
      kept = ap (slice_set documents place) known.new_is;
      result = view v;
      by = told;
      told = refl;
    }
    go (Err e) told = told

-- what is published of it
pub published_at : (tells : Telling) (encoding : Encoding) (documents : List Open) (place : ℕ) (document new here again last : Open) (params : Value) (old out : List ℕ) →
    place < length documents → IsKnown tells documents place document new here →
    ((insight : Insight) → here.known ≡ Some insight → view params ≡ published_of encoding here insight) →
    again ≡ get_or (slice_set documents place new) place again → last ≡ published again → out ≡ old ++ frame (compact_text (publish (view params))) →
    (sent : List Data) × IsPublished tells encoding documents (slice_set (slice_set documents place new) place last) (place, document) sent × (out ≡ old ++ frames sent)
published_at tells encoding documents place document new here again last params old out within known tell read marked sends =
    let params_is : view params ≡ published_of encoding document known.insight =
    subst (λ (d : Open). (insight : Insight) → d.known ≡ Some insight → view params ≡ published_of encoding d insight) known.here_is tell known.insight refl in
    let last_is : last ≡ published (learnt document known.insight) =
    marked ∙ ap published (read ∙ get_or-set_same documents place new again within ∙ known.new_is) in (
      publication encoding document known.insight ∷ [],
      record {
        insight = known.insight;
        is = known.is;
        kept = set-set documents place new last ∙ ap (slice_set documents place) last_is;
        sends = refl;
      },
      one_sent old out (publish (view params)) sends ∙ ap (λ (d : Data). old ++ frames (publish d ∷ [])) params_is,
    )

pub on_err : {T E : Type 0} (r : Result T E) {P : Type 0} → P → OnErr r P
on_err (Ok x) p = tt
on_err (Err e) p = p

-- a document may be known, and nothing else is changed
pub as_before : (tells : Telling) (was before : State) (documents : List Open) → was ≡ before → MayLearn tells was.documents documents →
    IsAsBefore tells before (record { life = was.life; encoding = was.encoding; documents = documents })
as_before tells was before documents e may =
    subst (λ (s : State). IsAsBefore tells s (record { life = was.life; encoding = was.encoding; documents = documents })) e
    (record { life = refl; encoding = refl; documents = may })

pub is_answered : (tells : Telling) (was before : State) (life : Life) (encoding : Encoding) (documents : List Open) (method : Method) (params : Option Data) (answer : Answer) →
    was ≡ before → Answers tells was.life was.encoding was.documents documents method params answer → life ≡ life_after was.life method →
    encoding ≡ encoding_after was.life was.encoding method params →
    IsAnswered tells before (record { life = life; encoding = encoding; documents = documents }) method params answer
is_answered tells was before life encoding documents method params answer e answers lives counts =
    subst (λ (s : State). IsAnswered tells s (record { life = life; encoding = encoding; documents = documents }) method params answer) e
    (record { answers = answers; life = lives; encoding = counts })

pub acted_request : (tells : Telling) (before after : State) (id : Id) (name : List ℕ) (method : Method) (params : Option Data) (old new : List ℕ) → method ≡ method_of name →
    (answer : Answer) × IsAnswered tells before after method params answer × (new ≡ old ++ frame (compact_text (response id answer))) →
    IsActed tells before after (Request id name) params old new GoOn
acted_request tells before after id name method params old new e found = record {
  sent = response id found.0 ∷ [];
  takes = record { answer = found.0; answered = subst (λ (m : Method). IsAnswered tells before after m params found.0) e found.1; one = refl };
  sends = one_sent old new (response id found.0) found.2;
  flows = refl;
}

pub acted_malformed : (tells : Telling) (state : State) (code : ErrorCode) (params : Option Data) (old new : List ℕ) →
    new ≡ old ++ frame (compact_text (error_json None code)) → IsActed tells state state (Malformed code) params old new GoOn
acted_malformed tells state code params old new sent = record {
  sent = error_json None code ∷ [];
  takes = (refl, refl);
  sends = one_sent old new (error_json None code) sent;
  flows = refl;
}
