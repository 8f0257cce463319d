-- What the server tells of itself.
use Rattle.std.specs.Prelude.{List, ℕ, [], ◌∷◌, codes, true}
use Rattle.serde_json.specs.Data.{Data, boolean, string, object, Members, member, no_members}
use Rattle.lsp_positions.specs.declared.position.Encoding.{Encoding}
use Rattle.lsp_positions.specs.declared.position.Encoding.TheVariants.{Utf16, Utf8}
use Rattle.lsp_results.specs.Places.{natural, list_json}

abbrev pub encoding_name : Encoding → List ℕ
encoding_name Utf16 = codes "utf-16"
encoding_name Utf8 = codes "utf-8"

-- documents are opened and closed, and changed by ranges
abbrev pub sync_json : Data
sync_json = object (member (codes "change") (natural 2) (member (codes "openClose") (boolean true) no_members))

abbrev pub kinds_json : Data
kinds_json = object (member (codes "codeActionKinds") (list_json (string (codes "quickfix") ∷ [])) no_members)

-- before another name is asked for, it is asked where the present one stands
abbrev pub renames_json : Data
renames_json = object (member (codes "prepareProvider") (boolean true) no_members)

abbrev pub capabilities_json : Encoding → Data
capabilities_json encoding =
    object (member (codes "codeActionProvider") kinds_json (member (codes "codeLensProvider") (object no_members)
    (member (codes "definitionProvider") (boolean true) (member (codes "documentHighlightProvider") (boolean true)
    (member (codes "documentSymbolProvider") (boolean true) (member (codes "foldingRangeProvider") (boolean true)
    (member (codes "hoverProvider") (boolean true) (member (codes "inlayHintProvider") (boolean true)
    (member (codes "positionEncoding") (string (encoding_name encoding)) (member (codes "referencesProvider") (boolean true)
    (member (codes "renameProvider") renames_json (member (codes "textDocumentSync") sync_json no_members))))))))))))

abbrev pub server_json : Data
server_json = object (member (codes "name") (string (codes "explain")) no_members)

-- The result of `initialize`.
abbrev pub initialized_json : Encoding → Data
initialized_json encoding = object (member (codes "capabilities") (capabilities_json encoding) (member (codes "serverInfo") server_json no_members))
