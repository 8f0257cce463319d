-- Params without where they lie in memory.
use Rattle.std.specs.Prelude.{ℕ, ℤ, List}
use Rattle.std.specs.Borrow.{Bor}
use Rattle.lsp_params.specs.Asks as a
use Rattle.lsp_params.specs.Opened as o
use Rattle.lsp_params.specs.declared.asking.NewName.{NewName}
use Rattle.lsp_params.specs.declared.opening.Opening.{Opening}

abbrev pub opening_view : Opening → o.Opening
opening_view opening = record { uri = opening.uri.now; version = opening.version; text = opening.text.now }

abbrev pub versioned_view : Bor (List ℕ) × ℤ → List ℕ × ℤ
versioned_view versioned = (versioned.0.now, versioned.1)

abbrev pub new_name_view : NewName → a.NewName
new_name_view wanted = record { uri = wanted.uri.now; position = wanted.position; name = wanted.name.now }
