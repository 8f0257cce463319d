-- A session goes on, or ends.
use Rattle.std.proofs.Common.{◌≡◌, ◌∙◌, ℕ, Bool, List, [], ◌∷◌, ◌++◌, Option, None, Some, Result, Ok, Err, OnOk, IfErr, ap, refl, sym, subst}
use Rattle.std.proofs.lemmas.List.{append_assoc, append-nil}
use Rattle.std.specs.Result.{IsErrAnd}
use Rattle.std.specs.Io.KnownBytes.{Consumes}
use Rattle.raml_io.specs.Written.{grown, GrewByFront}
use Rattle.raml_io.proofs.Grown.{grown-grown}
use Rattle.lsp_language.specs.Telling.{Telling}
use Rattle.lsp_frames.specs.Frames.{front, More, Whole}
use Rattle.lsp_frames.proofs.Streams.{leaves_more, leaves_then}
use Rattle.lsp_server.specs.State.{State}
use Rattle.lsp_server.specs.declared.life.Flow.{Flow}
use Rattle.lsp_server.specs.declared.life.Flow.TheVariants.{GoOn}
use Rattle.lsp_session.specs.Deeds.{Deed, Took, Published, Does, started, taken}
use Rattle.lsp_session.specs.Sessions.{Streams, Moment, GoesOn, KeepsOn, EndsIn, IsNext, IsFetched, StopsBy, EndsBy, IsServed, moment_of, streams_of}
use Rattle.lsp_session.specs.declared.end.SessionEnd.{SessionEnd}
use Rattle.lsp_session.specs.declared.end.SessionEnd.TheVariants as e
use Rattle.lsp_server.specs.Protocol.{IsTaken, IsSettled}

-- ---- streams

nothing_consumed : (comes : Option (List ℕ)) → Consumes comes comes []
nothing_consumed None = tt
nothing_consumed (Some xs) = refl

nothing_grown : (held : Option (List ℕ)) → held ≡ grown held []
nothing_grown None = refl
nothing_grown (Some xs) = ap Some (sym (append-nil xs))

pub consumed_then : (came comes left : Option (List ℕ)) (read piece : List ℕ) → Consumes came comes read → Consumes comes left piece → Consumes came left (read ++ piece)
consumed_then None comes left read piece one two = tt
consumed_then (Some xs) None left read piece one two = absurd one
consumed_then (Some xs) (Some ys) None read piece one two = absurd two
consumed_then (Some xs) (Some ys) (Some zs) read piece one two = one ∙ ap (λ ys. read ++ ys) two ∙ sym (append_assoc read piece zs)

consumed_nothing : (came comes left : Option (List ℕ)) (read : List ℕ) → Consumes came comes read → Consumes comes left [] → Consumes came left read
consumed_nothing None comes left read one two = tt
consumed_nothing (Some xs) None left read one two = absurd one
consumed_nothing (Some xs) (Some ys) None read one two = absurd two
consumed_nothing (Some xs) (Some ys) (Some zs) read one two = one ∙ ap (λ ys. read ++ ys) two

grown_then : (held before after : Option (List ℕ)) (sent new : List ℕ) → before ≡ grown held sent → after ≡ grown before new → after ≡ grown held (sent ++ new)
grown_then held before after sent new one two = two ∙ ap (λ w. grown w new) one ∙ grown-grown held sent new

-- ---- going on

pub begins : (tells : Telling) (start : Streams) → GoesOn tells start (moment_of start.comes start.holds started [])
begins tells start = record {
  deeds = [];
  read = [];
  sent = [];
  did = (refl, refl);
  consumed = nothing_consumed start.comes;
  left = refl;
  wrote = nothing_grown start.holds;
}

pub fetched : (tells : Telling) (start : Streams) (comes left holds : Option (List ℕ)) (state : State) (rest piece : List ℕ) →
    Consumes comes left piece → GoesOn tells start (moment_of comes holds state rest) → GoesOn tells start (moment_of left holds state (rest ++ piece))
fetched tells start comes left holds state rest piece consumes on = record {
  deeds = on.deeds;
  read = on.read ++ piece;
  sent = on.sent;
  did = on.did;
  consumed = consumed_then start.comes comes left on.read piece on.consumed consumes;
  left = leaves_more on.read piece (taken on.deeds) rest on.left;
  wrote = on.wrote;
}

pub ended : (tells : Telling) (start : Streams) (comes holds : Option (List ℕ)) (state : State) (rest : List ℕ) (last : Option (List ℕ)) (end : SessionEnd) →
    (on : GoesOn tells start (moment_of comes holds state rest)) → EndsBy tells (grown start.holds on.sent) state rest (streams_of comes last) end →
    IsServed tells start (streams_of comes last) end
ended tells start comes holds state rest last end on ends = record {
  deeds = on.deeds;
  read = on.read;
  rest = rest;
  sent = on.sent;
  state = state;
  did = on.did;
  consumed = on.consumed;
  left = on.left;
  ends = ends;
}

module _ (tells : Telling) (start : Streams) (comes before after : Option (List ℕ)) (state next_state : State) (rest next new : List ℕ) where
  pub took : (content : List ℕ) → front rest ≡ Whole content next → Does tells (Took content) state next_state new GoOn → after ≡ grown before new →
      GoesOn tells start (moment_of comes before state rest) → GoesOn tells start (moment_of comes after next_state next)
  took content is does wrote on = record {
    deeds = Took content ∷ on.deeds;
    read = on.read;
    sent = on.sent ++ new;
    did = (state, on.sent, new, on.did, does, refl);
    consumed = on.consumed;
    left = leaves_then on.read (taken on.deeds) rest content next on.left is;
    wrote = grown_then start.holds before after on.sent new on.wrote wrote;
  }

  pub published : Does tells Published state next_state new GoOn → after ≡ grown before new →
      GoesOn tells start (moment_of comes before state rest) → GoesOn tells start (moment_of comes after next_state rest)
  published does wrote on = record {
    deeds = Published ∷ on.deeds;
    read = on.read;
    sent = on.sent ++ new;
    did = (state, on.sent, new, on.did, does, refl);
    consumed = on.consumed;
    left = on.left;
    wrote = grown_then start.holds before after on.sent new on.wrote wrote;
  }

  pub cut_off : (deed : Deed) (flow : Flow) → IsNext rest deed → Does tells deed state next_state new flow → GrewByFront before after new →
      GoesOn tells start (moment_of comes before state rest) → IsServed tells start (streams_of comes after) e.WriteFault
  cut_off deed flow is does grew on =
      ended tells start comes before state rest after e.WriteFault on (record {
        deed = deed;
        is_next = is;
        last = next_state;
        new = new;
        flow = flow;
        does = does;
        wrote = subst (λ held. GrewByFront held after new) on.wrote grew;
      })

-- ---- what calls tell

module _ (tells : Telling) (state next : State) (old new : List ℕ) (empty : old ≡ []) where
  pub took_so : (content : List ℕ) (flow want : Flow) → flow ≡ want → IsTaken tells content state next old new flow → Does tells (Took content) state next new want
  took_so content flow want same is =
      subst (λ flow. IsTaken tells content state next [] new flow) same (subst (λ old. IsTaken tells content state next old new flow) empty is)

  pub published_so : (found : Bool) → IsSettled tells state next old new found → Does tells Published state next new GoOn
  published_so found is = ((found, subst (λ old. IsSettled tells state next old new found) empty is), refl)

pub wrote_all : (before after : Option (List ℕ)) (seen new : List ℕ) → seen ≡ new → after ≡ grown before seen → after ≡ grown before new
wrote_all before after seen new same wrote = wrote ∙ ap (grown before) same

pub wrote_front : (before after : Option (List ℕ)) (seen new : List ℕ) → seen ≡ new → GrewByFront before after seen → GrewByFront before after new
wrote_front before after seen new same grew = subst (GrewByFront before after) same grew

module _ (tells : Telling) (comes left before after : Option (List ℕ)) (state middle last : State) (rest read now : List ℕ) where
  fetched_so : IsFetched comes left read now → last ≡ middle → (start : Streams) → GoesOn tells start (moment_of comes after middle read) → GoesOn tells start (moment_of left after last now)
  fetched_so is same start on =
      subst (λ now. GoesOn tells start (moment_of left after last now)) (sym is.grew)
      (subst (λ last. GoesOn tells start (moment_of left after last (read ++ is.piece))) (sym same) (fetched tells start comes left after middle read is.piece is.consumed on))

  pub fetch_on : {A : Type 0} (r : Result A SessionEnd) → OnOk r (IsFetched comes left read now) → last ≡ middle →
      KeepsOn tells (moment_of comes before state rest) (moment_of comes after middle read) → OnOk r (KeepsOn tells (moment_of comes before state rest) (moment_of left after last now))
  fetch_on (Ok value) is same keeps = λ start on. fetched_so is same start (keeps start on)
  fetch_on (Err end) is same keeps = tt

  stopped : (end : SessionEnd) → StopsBy comes left middle end → front read ≡ More → (start : Streams) → GoesOn tells start (moment_of comes after middle read) →
      IsServed tells start (streams_of left after) end
  stopped (e.Closed status) (at_end, is, consumes) more start on = record {
    deeds = on.deeds;
    read = on.read;
    rest = read;
    sent = on.sent;
    state = middle;
    did = on.did;
    consumed = consumed_nothing start.comes comes left on.read on.consumed consumes;
    left = on.left;
    ends = (more, at_end, is, on.wrote);
  }
  stopped e.ReadFault consumes more start on = record {
    deeds = on.deeds;
    read = on.read;
    rest = read;
    sent = on.sent;
    state = middle;
    did = on.did;
    consumed = consumed_nothing start.comes comes left on.read on.consumed consumes;
    left = on.left;
    ends = on.wrote;
  }
  stopped e.NoMemory (piece, consumes) more start on =
      let then = fetched tells start comes left after middle read piece consumes on in
      ended tells start left after middle (read ++ piece) after e.NoMemory then then.wrote
  stopped end is more start on = absurd is

  pub fetch_ends : {A : Type 0} (r : Result A SessionEnd) → IfErr r (StopsBy comes left middle) → front read ≡ More →
      KeepsOn tells (moment_of comes before state rest) (moment_of comes after middle read) → IfErr r (EndsIn tells (moment_of comes before state rest) (streams_of left after))
  fetch_ends (Ok value) is more keeps = tt
  fetch_ends (Err end) is more keeps = λ start on. stopped end is more start (keeps start on)

-- a write that failed ends the session
pub write_fails : {A : Type 0} (tells : Telling) (now : Moment) (last : Streams) (r : Result A SessionEnd) → IsErrAnd r (λ end. end ≡ e.WriteFault) →
    EndsIn tells now last e.WriteFault → IfErr r (EndsIn tells now last)
write_fails tells now last (Ok value) is ends = tt
write_fails tells now last (Err end) is ends = subst (EndsIn tells now last) (sym is) ends
