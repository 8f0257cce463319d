-- Params, read by hand.
use Rattle.std.specs.Prelude.{◌≡◌, ℕ, List, [], ◌∷◌, codes, pos, Option, None, Some}
use Rattle.serde_json.specs.Data.{Data, null, number, unsigned, string, array, object, item, no_items, Members, member, no_members}
use Rattle.lsp_params.specs.Asks.{asked_of, new_name_of}
use Rattle.lsp_params.specs.Opened.{opening_of, changes_of, versioned_of}
use Rattle.lsp_params.specs.Agreed.{agreed}
use Rattle.lsp_params.specs.declared.asking.Ask.{Ask}
use Rattle.lsp_params.specs.declared.asking.Ask.TheVariants as a
use Rattle.lsp_params.specs.declared.asking.NamesAsk.TheVariants as n
use Rattle.lsp_params.specs.declared.asking.Subject.TheVariants.{Hover, Lenses, Hints, Names}
use Rattle.lsp_params.specs.declared.asking.NamesSubject.TheVariants.{Folds, Prepare}
use Rattle.lsp_positions.specs.declared.position.Encoding.TheVariants.{Utf16, Utf8}

abbrev place : ℕ → ℕ → Data
place line character = object (member (codes "character") (number (unsigned character)) (member (codes "line") (number (unsigned line)) no_members))

abbrev file : Members → Data
file others = object (member (codes "uri") (string (codes "file:///a")) others)

abbrev in_file : Members
in_file = member (codes "textDocument") (file no_members) no_members

abbrev at_place : Data
at_place = object (member (codes "position") (place 1 2) in_file)

-- another name for what stands there
abbrev named : Data
named = object (member (codes "newName") (string (codes "n")) (member (codes "position") (place 1 2) in_file))

-- a range whose end is no position
abbrev half_range : Data
half_range = object (member (codes "range") (object (member (codes "end") null (member (codes "start") (place 0 0) no_members))) in_file)

-- two changes: of a part, and of the whole
abbrev two_changes : Data
two_changes =
    object (member (codes "contentChanges")
    (array (item (object (member (codes "range") (object (member (codes "end") (place 0 1) (member (codes "start") (place 0 0) no_members)))
    (member (codes "text") (string (codes "x")) no_members)))
    (item (object (member (codes "text") (string (codes "y")) no_members)) no_items))) no_members)

abbrev offers : Data → Data
offers d = object (member (codes "capabilities") (object (member (codes "general") (object (member (codes "positionEncodings") d no_members)) no_members)) no_members)

pub record Examples : Type 0 where
  pub hover : asked_of Hover at_place ≡ Some (codes "file:///a", a.Hover (record { line = 1; character = 2 }))
  pub lenses : asked_of Lenses (object in_file) ≡ Some (codes "file:///a", a.Lenses)
  pub folds : asked_of (Names Folds) (object in_file) ≡ Some (codes "file:///a", a.Names n.Folds)
  pub prepare : asked_of (Names Prepare) at_place ≡ Some (codes "file:///a", a.Names (n.Prepare (record { line = 1; character = 2 })))
  pub new_name : new_name_of named ≡ Some (record { uri = codes "file:///a"; position = record { line = 1; character = 2 }; name = codes "n" })
  pub no_name : new_name_of at_place ≡ None
  pub no_document : asked_of Lenses (object no_members) ≡ None
  pub no_range : asked_of Hints half_range ≡ None
  pub opening : opening_of (object (member (codes "textDocument")
      (object (member (codes "text") (string (codes "t")) (member (codes "uri") (string (codes "u")) (member (codes "version") (number (unsigned 3)) no_members)))) no_members))
      ≡ Some (record { uri = codes "u"; version = pos 3; text = codes "t" })
  pub changes : changes_of two_changes
      ≡ Some (record { range = Some (record { start = record { line = 0; character = 0 }; end = record { line = 0; character = 1 } }); text = codes "x" }
      ∷ record { range = None; text = codes "y" } ∷ [])
  pub no_version : versioned_of (object in_file) ≡ None
  pub offered : agreed (Some (offers (array (item (string (codes "utf-16")) (item (string (codes "utf-8")) no_items))))) ≡ Utf8
  pub not_offered : agreed (Some (offers (array (item (string (codes "utf-32")) no_items)))) ≡ Utf16
  pub nothing : agreed None ≡ Utf16
