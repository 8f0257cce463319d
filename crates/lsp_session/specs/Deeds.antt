-- What a server does, one thing after another.
use Rattle.std.specs.Prelude.{ℕ, ◌≡◌, Bool, List, [], ◌∷◌, ◌++◌}
use Rattle.lsp_language.specs.Telling.{Telling}
use Rattle.lsp_positions.specs.declared.position.Encoding.TheVariants.{Utf16}
use Rattle.lsp_server.specs.State.{State}
use Rattle.lsp_server.specs.Protocol.{IsTaken, IsSettled}
use Rattle.lsp_server.specs.declared.life.Flow.{Flow}
use Rattle.lsp_server.specs.declared.life.Flow.TheVariants.{GoOn}
use Rattle.lsp_server.specs.declared.life.Life.TheVariants.{Fresh}

-- it takes a message with this content, or publishes the diagnostics of the first document for which they are not published yet,
-- if there is one
pub data Deed : Type 0 where
  Took : (content : List ℕ) → Deed
  Published : Deed

-- the state before and after, what is sent, and whether it goes on
abbrev pub Does : Telling → Deed → State → State → List ℕ → Flow → Type 0
Does tells (Took content) before after sent flow = IsTaken tells content before after [] sent flow
Does tells Published before after sent flow = ((found : Bool) × IsSettled tells before after [] sent found) × (flow ≡ GoOn)

abbrev pub started : State
started = record { life = Fresh; encoding = Utf16; documents = [] }

-- What it did from its start on, the latest first, the state then, and all that it sent. It goes on.
abbrev pub Did : Telling → List Deed → State → List ℕ → Type 0
Did tells [] state sent = (state ≡ started) × (sent ≡ [])
Did tells (deed ∷ earlier) state sent =
    (before : State) × (old : List ℕ) × (new : List ℕ)
    × Did tells earlier before old × Does tells deed before state new GoOn × (sent ≡ old ++ new)

-- the contents of the messages that were taken, in order
abbrev pub taken : List Deed → List (List ℕ)
taken [] = []
taken (Took content ∷ earlier) = taken earlier ++ content ∷ []
taken (Published ∷ earlier) = taken earlier
