-- Messages as they are sent.
use Rattle.std.specs.Prelude.{ℕ, List, [], ◌∷◌, ◌++◌}
use Rattle.serde_json.specs.Data.{Data}
use Rattle.serde_json.specs.Written.{compact_text}
use Rattle.lsp_frames.specs.Frames.{frame}

abbrev pub frames : List Data → List ℕ
frames [] = []
frames (d ∷ ds) = frame (compact_text d) ++ frames ds
