-- The JSON of a certificate. Keys ascend. A number of the analysis is written by `f` as a string, and each other number is a JSON
-- number.
use Rattle.std.specs.Prelude.{ℕ, List, map, codes, Option, Some, None}
use Rattle.serde_json.specs.Data.{Data, number, unsigned, string, array, object, item, no_items, Members, member, no_members}
use Rattle.serde_json.specs.View.{items_of}
use Rattle.cost_free.specs.declared.task.Meter.{Meter}
use Rattle.cost_free.specs.declared.task.Meter.TheVariants.{Ticks, Cells, Work}
use Rattle.cost_free.specs.Task.{Kind, Free, With}
use Rattle.cert_json.specs.Parts.{Entries, Sig, Hint, Let, Share, Call, Body, Solved, Refuted, Calls, Block, Head, Certificate}

abbrev pub Text : Type 0
Text = List ℕ

abbrev pub natural : ℕ → Data
natural n = number (unsigned n)

abbrev pub list_json : List Data → Data
list_json ds = array (items_of ds)

abbrev pub pair_json : Data → Data → Data
pair_json d e = array (item d (item e no_items))

abbrev pub entry_json : {N : Type 0} → (N → Text) → ℕ × N → Data
entry_json f e = pair_json (natural e.0) (string (f e.1))

abbrev pub entries_json : {N : Type 0} → (N → Text) → Entries N → Data
entries_json f es = list_json (map (entry_json f) es)

abbrev pub sig_json : {N : Type 0} → (N → Text) → Sig N → Data
sig_json f s = pair_json (entries_json f s.args) (entries_json f s.result)

abbrev pub sole_json : Text → Data → Data
sole_json key d = object (member key d no_members)

abbrev pub hint_json : {N : Type 0} → (N → Text) → Hint N → Data
hint_json f (Let annots) = sole_json (codes "let") (list_json (map (entries_json f) annots))
hint_json f (Share annot) = sole_json (codes "share") (entries_json f annot)
hint_json f (Call uses) = sole_json (codes "call") (entries_json f uses)

abbrev pub hints_json : {N : Type 0} → (N → Text) → List (Hint N) → Data
hints_json f hs = list_json (map (hint_json f) hs)

abbrev pub meter_text : Meter → Text
meter_text Ticks = codes "ticks"
meter_text Cells = codes "cells"
meter_text Work = codes "work"

abbrev pub group_kind : ℕ → Data → Members → Members
group_kind group kind rest = member (codes "group") (natural group) (member (codes "kind") kind rest)

abbrev pub solved_json : ℕ → Kind → Data → Data → Data
solved_json group (Free budget fun target) hints sigs =
    object (member (codes "budget") (natural budget) (member (codes "function") (natural fun) (member (codes "group") (natural group)
    (member (codes "hints") hints (member (codes "kind") (string (codes "free")) (member (codes "sigs") sigs
    (member (codes "target") (natural target) no_members)))))))
solved_json group (With meter) hints sigs =
    object (member (codes "group") (natural group) (member (codes "hints") hints
    (member (codes "kind") (string (meter_text meter)) (member (codes "sigs") sigs no_members))))

-- `key` stands between "budget" and "function"
abbrev pub other_json : ℕ → Kind → Text → Data → Data
other_json group (Free budget fun target) key d =
    object (member (codes "budget") (natural budget) (member key d (member (codes "function") (natural fun)
    (member (codes "group") (natural group) (member (codes "kind") (string (codes "free"))
    (member (codes "target") (natural target) no_members))))))
other_json group (With meter) key d =
    object (member key d (member (codes "group") (natural group) (member (codes "kind") (string (meter_text meter)) no_members)))

abbrev pub body_json : {N : Type 0} → (N → Text) → ℕ → Kind → Body N → Data
body_json f group kind (Solved sigs hints) =
    solved_json group kind (list_json (map (hints_json f) hints)) (list_json (map (sig_json f) sigs))
body_json f group kind (Refuted farkas) = other_json group kind (codes "farkas") (entries_json f farkas)
body_json f group kind (Calls fun) = other_json group kind (codes "calls") (natural fun)

abbrev pub block_json : {N : Type 0} → (N → Text) → Block N → Data
block_json f b = body_json f b.task.group b.task.kind b.body

abbrev pub scale_json : {N : Type 0} → (N → Text) → N → N → Option N → Data
scale_json f ticks cells None = object (member (codes "cells") (string (f cells)) (member (codes "ticks") (string (f ticks)) no_members))
scale_json f ticks cells (Some work) =
    object (member (codes "cells") (string (f cells))
    (member (codes "ticks") (string (f ticks)) (member (codes "work") (string (f work)) no_members)))

abbrev pub version : {N : Type 0} → Option N → ℕ
version None = 1
version (Some work) = 2

abbrev pub head_json : {N : Type 0} → (N → Text) → Head N → Data → Data
head_json f h blocks =
    object (member (codes "blocks") blocks (member (codes "degree") (natural h.degree)
    (member (codes "scale") (scale_json f h.ticks h.cells h.work) (member (codes "version") (natural (version h.work)) no_members))))

abbrev pub certificate_json : {N : Type 0} → (N → Text) → Certificate N → Data
certificate_json f c = head_json f c.head (list_json (map (block_json f) c.blocks))
