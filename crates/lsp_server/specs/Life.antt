-- The life cycle of a server.
use Rattle.std.specs.Prelude.{ℕ, List, cond, codes, Option}
use Rattle.std.specs.Str.{bytes_eq}
use Rattle.serde_json.specs.Data.{Data}
use Rattle.lsp_positions.specs.declared.position.Encoding.{Encoding}
use Rattle.lsp_params.specs.Agreed.{agreed}
use Rattle.lsp_params.specs.declared.asking.Subject.TheVariants.{Hover, Lenses, Hints, Actions, Names}
use Rattle.lsp_params.specs.declared.asking.NamesSubject.TheVariants.{Definition, References, Highlights, Symbols, Folds, Prepare}
use Rattle.lsp_server.specs.declared.life.Life.{Life}
use Rattle.lsp_server.specs.declared.life.Life.TheVariants.{Fresh, Running, ShutDown}
use Rattle.lsp_server.specs.declared.method.Method.{Method}
use Rattle.lsp_server.specs.declared.method.Method.TheVariants.{Initialize, Shutdown, About, Rename, Unknown}
use Rattle.lsp_server.specs.declared.method.Notice.{Notice}
use Rattle.lsp_server.specs.declared.method.Notice.TheVariants.{Open, Change, Close, Exit, Other}

-- the requests on names that are served
abbrev pub names_method_of : List ℕ → Method
names_method_of name =
    cond (bytes_eq name (codes "textDocument/definition")) (About (Names Definition))
    (cond (bytes_eq name (codes "textDocument/references")) (About (Names References))
    (cond (bytes_eq name (codes "textDocument/documentHighlight")) (About (Names Highlights))
    (cond (bytes_eq name (codes "textDocument/documentSymbol")) (About (Names Symbols))
    (cond (bytes_eq name (codes "textDocument/foldingRange")) (About (Names Folds))
    (cond (bytes_eq name (codes "textDocument/prepareRename")) (About (Names Prepare))
    (cond (bytes_eq name (codes "textDocument/rename")) Rename Unknown))))))

-- the requests that are served
abbrev pub method_of : List ℕ → Method
method_of name =
    cond (bytes_eq name (codes "initialize")) Initialize
    (cond (bytes_eq name (codes "shutdown")) Shutdown
    (cond (bytes_eq name (codes "textDocument/hover")) (About Hover)
    (cond (bytes_eq name (codes "textDocument/codeLens")) (About Lenses)
    (cond (bytes_eq name (codes "textDocument/inlayHint")) (About Hints)
    (cond (bytes_eq name (codes "textDocument/codeAction")) (About Actions) (names_method_of name))))))

-- the notifications that are heard
abbrev pub notice_of : List ℕ → Notice
notice_of name =
    cond (bytes_eq name (codes "exit")) Exit
    (cond (bytes_eq name (codes "textDocument/didOpen")) Open
    (cond (bytes_eq name (codes "textDocument/didChange")) Change
    (cond (bytes_eq name (codes "textDocument/didClose")) Close Other)))

-- `initialize` starts a server, and `shutdown` ends what it does.
abbrev pub life_after : Life → Method → Life
life_after Fresh Initialize = Running
life_after Running Shutdown = ShutDown
life_after life method = life

-- The encoding of columns is agreed in `initialize`.
abbrev pub encoding_after : Life → Encoding → Method → Option Data → Encoding
encoding_after Fresh encoding Initialize params = agreed params
encoding_after life encoding method params = encoding

-- The status of a program that ends: 0 after `shutdown`, and else 1.
abbrev pub status_of : Life → ℕ
status_of ShutDown = 0
status_of life = 1
