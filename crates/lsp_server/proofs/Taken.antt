-- What messages say, and what is sent.
use Rattle.std.proofs.Common.{◌≡◌, ◌⊎◌, inl, inr, ℕ, List, [], ◌∷◌, ◌++◌, codes, Option, sym, ap, ◌∙◌}
use Rattle.std.proofs.lemmas.List.{append-nil}
use Rattle.serde_json.specs.Data.{Data}
use Rattle.serde_json.specs.Find.{get}
use Rattle.serde_json.specs.View.{view}
use Rattle.lsp_requests.specs.declared.message.Message.{Message}
use Rattle.lsp_requests.specs.Read.{kind_view, IsMessage}
use Rattle.serde_json.specs.Written.{compact_text}
use Rattle.lsp_frames.specs.Frames.{frame}
use Rattle.lsp_server.specs.Sent.{frames}
use Rattle.lsp_server.specs.Protocol.{Says}

pub says_of : (content : List ℕ) (message : Message) (params : Option Data) → IsMessage content message →
    params ≡ get (codes "params") (view message.value) → Says content (kind_view message.kind) params
says_of content message params (inl json) is = inl (view message.value, json.0, json.1, is)
says_of content message params (inr none) is = inr (none.0, none.1, is ∙ ap (get (codes "params")) none.2)

pub one_sent : (old new : List ℕ) (d : Data) → new ≡ old ++ frame (compact_text d) → new ≡ old ++ frames (d ∷ [])
one_sent old new d sent = sent ∙ ap (λ (l : List ℕ). old ++ l) (sym (append-nil (frame (compact_text d))))

pub none_sent : (old : List ℕ) → old ≡ old ++ frames []
none_sent old = sym (append-nil old)
