-- Members that were put one by one are those of the form.
use Rattle.std.proofs.Common.{◌≡◌, ℕ, codes, Option, Some, None, refl, ap, ◌∙◌}
use Rattle.serde_json.specs.Data.{Data, Members, object, no_members, string, put}
use Rattle.cost_free.specs.Task.{Kind, Free, With}
use Rattle.cert_json.specs.Parts.{Body, Solved, Refuted, Calls}
use Rattle.cert_json.specs.Form.{Text, body_json, scale_json}
use Rattle.cert_json.specs.Members.{with_task, with_body, with_work}

body_is : {N : Type 0} (f : N → Text) (group : ℕ) (kind : Kind) (body : Body N) → object (with_body f body (with_task group kind no_members)) ≡ body_json f group kind body
body_is f group (Free budget fun target) (Solved sigs hints) = refl
body_is f group (Free budget fun target) (Refuted farkas) = refl
body_is f group (Free budget fun target) (Calls called) = refl
body_is f group (With meter) (Solved sigs hints) = refl
body_is f group (With meter) (Refuted farkas) = refl
body_is f group (With meter) (Calls called) = refl

pub block_is : {N : Type 0} (f : N → Text) (group : ℕ) (kind : Kind) (body : Body N) (ms : Members) (d : Data) →
    ms ≡ with_task group kind no_members → d ≡ object (with_body f body ms) → d ≡ body_json f group kind body
block_is f group kind body ms d e h = h ∙ ap (λ more. object (with_body f body more)) e ∙ body_is f group kind body

scale_members : {N : Type 0} (f : N → Text) (ticks cells : N) (work : Option N) →
    object (with_work f work (put (codes "ticks") (string (f ticks)) (put (codes "cells") (string (f cells)) no_members))) ≡ scale_json f ticks cells work
scale_members f ticks cells None = refl
scale_members f ticks cells (Some work) = refl

pub scale_is : {N : Type 0} (f : N → Text) (ticks cells : N) (work : Option N) (ms one two : Members) →
    one ≡ put (codes "cells") (string (f cells)) no_members → two ≡ put (codes "ticks") (string (f ticks)) one → ms ≡ with_work f work two
    → object ms ≡ scale_json f ticks cells work
scale_is f ticks cells work ms one two e g h =
    ap object (h ∙ ap (with_work f work) (g ∙ ap (put (codes "ticks") (string (f ticks))) e)) ∙ scale_members f ticks cells work
