-- Readers to which bytes come, and that forget bytes.
use Rattle.std.proofs.Common.{◌≡◌, ap, sym, ◌∙◌, subst, ℕ, ◌+◌, ◌<◌, ◌≤◌, Bool, true, false, if◌then◌else◌, List, [], ◌∷◌, ◌++◌, length, take, drop, Option, slice_index_or, arith, length-append}
use Rattle.std.proofs.lemmas.List.{drop-append-le, take_all, take_more, append_assoc, append-nil, map_push}
use Rattle.std.specs.List.{flat_map}
use Rattle.std.specs.declared.vec.Vec.{Vec}
use Rattle.std.specs.Global.{Global}
use Rattle.lsp_frames.specs.Frames.{Whole, front, Leaves, messages_of}
use Rattle.lsp_frames.specs.Seen.{Knows, Ends, front_told}
use Rattle.lsp_frames.specs.Reader.{IsReader}
use Rattle.lsp_frames.specs.Read.{contents_of, LeavesBehind, fault_of}
use Rattle.lsp_frames.specs.declared.field.FrameFault.{FrameFault}
use Rattle.lsp_frames.specs.declared.seen.Seen.{Seen}
use Rattle.lsp_frames.specs.declared.seen.Seen.TheVariants as s
use Rattle.lsp_frames.specs.declared.seen.Reading.{Reading}
use Rattle.lsp_frames.specs.declared.seen.Reading.TheVariants as r
use Rattle.lsp_frames.proofs.Streams.{knows_more, leaves_more, leaves_then, all_read}

pub reader_more : (bytes new more : List ℕ) (start : ℕ) (seen : Seen) (ok : Bool) → new ≡ (if ok then bytes ++ more else bytes) → IsReader bytes start seen → IsReader new start seen
reader_more bytes new more start seen false e h = subst (λ (l : List ℕ). IsReader l start seen) (sym e) h
reader_more bytes new more start seen true e h =
    let sum = length-append bytes more in
    subst (λ (l : List ℕ). IsReader l start seen) (sym e)
    (record { within = omega (arith, sum, h.within); knows = subst (λ (l : List ℕ). Knows l seen) (sym (drop-append-le start bytes more h.within)) (knows_more (drop start bytes) more seen h.knows) })

pub reader_forgets : (bytes new : List ℕ) (start : ℕ) (seen : Seen) → new ≡ drop start bytes → IsReader bytes start seen → IsReader new 0 seen
reader_forgets bytes new start seen e h = record { within = omega arith; knows = subst (λ (l : List ℕ). Knows l seen) (sym e) h.knows }

-- a reader from a later place on knows nothing
pub reader_from : (bytes : List ℕ) (start : ℕ) → start ≤ length bytes → IsReader bytes start (s.Open 0)
reader_from bytes start h = record { within = h; knows = (λ k few. absurd (omega (arith, few)), omega arith) }

-- messages

pub message_read : (old new : List ℕ) (reading : Reading) (content : Vec ℕ Global) → reading ≡ r.Message content → front old ≡ front_told reading new → front old ≡ Whole content.items new
message_read old new reading content e h = h ∙ ap (λ x. front_told x new) e

contents_more : (before after : List (Vec ℕ Global)) (content : Vec ℕ Global) → after ≡ before ++ content ∷ [] → contents_of after ≡ contents_of before ++ content.items ∷ []
contents_more before after content e = ap contents_of e ∙ map_push (λ (v : Vec ℕ Global). v.items) before content

pub read_more : (start middle new : List ℕ) (first before after : List (Vec ℕ Global)) (content : Vec ℕ Global) → LeavesBehind (contents_of first) start (contents_of before) middle →
    front middle ≡ Whole content.items new → after ≡ before ++ content ∷ [] → LeavesBehind (contents_of first) start (contents_of after) new
read_more start middle new first before after content h e added bytes l =
    subst (λ (cs : List (List ℕ)). Leaves bytes cs new) (sym (contents_more before after content added)) (leaves_then bytes (contents_of before) middle content.items new (h bytes l) e)

pub nothing_read : (items : List (Vec ℕ Global)) (reader : List ℕ) → items ≡ [] → reader ≡ [] → Leaves [] (contents_of items) reader
nothing_read items reader e h = subst (λ (vs : List (Vec ℕ Global)). Leaves [] (contents_of vs) reader) (sym e) (sym h)

pub nothing_stands : (reader : List ℕ) → reader ≡ [] → Ends (front reader)
nothing_stands reader h = subst (λ (l : List ℕ). Ends (front l)) (sym h) tt

joined : (xs : List (Vec ℕ Global)) (y : Vec ℕ Global) → flat_map (λ piece. piece.items) (xs ++ y ∷ []) ≡ flat_map (λ piece. piece.items) xs ++ y.items
joined [] y = append-nil y.items
joined (x ∷ xs) y = ap (λ (l : List ℕ). x.items ++ l) (joined xs y) ∙ sym (append_assoc x.items (flat_map (λ piece. piece.items) xs) y.items)

pub piece_more : (pieces : List (Vec ℕ Global)) (i : ℕ) (item : Vec ℕ Global) (reader pushed piece : List ℕ) (contents : List (List ℕ)) → i < length pieces →
    item ≡ slice_index_or pieces i item → piece ≡ item.items → pushed ≡ reader ++ piece → Leaves (flat_map (λ piece. piece.items) (take i pieces)) contents reader →
    Leaves (flat_map (λ piece. piece.items) (take (i + 1) pieces)) contents pushed
piece_more pieces i item reader pushed piece contents within read same added h =
    let front : flat_map (λ piece. piece.items) (take (i + 1) pieces) ≡ flat_map (λ piece. piece.items) (take i pieces) ++ item.items =
    ap (flat_map (λ piece. piece.items)) (take_more pieces i item within ∙ ap (λ (v : Vec ℕ Global). take i pieces ++ v ∷ []) (sym read)) ∙ joined (take i pieces) item in
    subst (λ (l : List ℕ). Leaves l contents pushed) (sym front)
    (subst (λ (l : List ℕ). Leaves (flat_map (λ piece. piece.items) (take i pieces) ++ item.items) contents l) (sym (added ∙ ap (λ (l : List ℕ). reader ++ l) same))
    (leaves_more (flat_map (λ piece. piece.items) (take i pieces)) item.items contents reader h))

pub all_pieces : (pieces : List (Vec ℕ Global)) (i : ℕ) (contents : List (List ℕ)) (reader : List ℕ) (fault : Option FrameFault) → length pieces ≤ i →
    Leaves (flat_map (λ piece. piece.items) (take i pieces)) contents reader → front reader ≡ fault_of fault →
    record { contents = contents; fault = fault } ≡ messages_of (flat_map (λ piece. piece.items) pieces)
all_pieces pieces i contents reader fault all h e =
    let bytes = flat_map (λ piece. piece.items) pieces in
    let same : flat_map (λ piece. piece.items) (take i pieces) ≡ bytes = ap (flat_map (λ piece. piece.items)) (take_all i pieces all) in
    sym (all_read contents bytes reader (length bytes) fault (omega arith) (subst (λ (l : List ℕ). Leaves l contents reader) same h) e)
