-- Members that are put into an object one by one, in any order of their keys.
use Rattle.std.specs.Prelude.{ℕ, List, map, codes, Option, Some, None}
use Rattle.serde_json.specs.Data.{Members, member, no_members, string, put}
use Rattle.cost_free.specs.Task.{Kind, Free, With}
use Rattle.cert_json.specs.Parts.{Sig, Hint, Body, Solved, Refuted, Calls, Head}
use Rattle.cert_json.specs.Form.{Text, natural, list_json, entries_json, sig_json, hints_json, meter_text, scale_json, version}

abbrev pub with_free : ℕ → ℕ → ℕ → Members → Members
with_free budget fun target ms =
    put (codes "target") (natural target) (put (codes "kind") (string (codes "free"))
    (put (codes "function") (natural fun) (put (codes "budget") (natural budget) ms)))

abbrev pub with_task : ℕ → Kind → Members → Members
with_task group (Free budget fun target) ms = with_free budget fun target (put (codes "group") (natural group) ms)
with_task group (With meter) ms = put (codes "kind") (string (meter_text meter)) (put (codes "group") (natural group) ms)

abbrev pub with_solved : {N : Type 0} → (N → Text) → List (Sig N) → List (List (Hint N)) → Members → Members
with_solved f sigs hints ms =
    put (codes "sigs") (list_json (map (sig_json f) sigs)) (put (codes "hints") (list_json (map (hints_json f) hints)) ms)

abbrev pub with_body : {N : Type 0} → (N → Text) → Body N → Members → Members
with_body f (Solved sigs hints) ms = with_solved f sigs hints ms
with_body f (Refuted farkas) ms = put (codes "farkas") (entries_json f farkas) ms
with_body f (Calls fun) ms = put (codes "calls") (natural fun) ms

abbrev pub with_work : {N : Type 0} → (N → Text) → Option N → Members → Members
with_work f None ms = ms
with_work f (Some work) ms = put (codes "work") (string (f work)) ms

-- those beside the blocks
abbrev pub head_members : {N : Type 0} → (N → Text) → Head N → Members
head_members f h =
    member (codes "degree") (natural h.degree) (member (codes "scale") (scale_json f h.ticks h.cells h.work)
    (member (codes "version") (natural (version h.work)) no_members))
