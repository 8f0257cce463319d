-- A certificate's parts are those of the code's certificate, and they tell certificates apart.
use Rattle.std.proofs.Common.{◌≡◌, ℤ, List, [], ◌∷◌, map, refl, sym, ap, ap₂, ◌∙◌}
use Rattle.std.specs.Prelude.{Vec}
use Rattle.std.specs.Global.{Global}
use Rattle.cost_free.specs.Task.{Task}
use Rattle.cost_free.specs.Read.{task_of}
use Rattle.annot_types.specs.Certificate as c
use Rattle.annot_types.specs.Read as r
use Rattle.annot_types.specs.declared.block.Hint.{Hint}
use Rattle.annot_types.specs.declared.block.Hint.TheVariants.{Let, Share, Call}
use Rattle.annot_types.specs.declared.block.BlockBody.{BlockBody}
use Rattle.annot_types.specs.declared.block.BlockBody.TheVariants.{Solved, Refuted, Calls}
use Rattle.annot_types.specs.declared.block.Block.{Block}
use Rattle.annot_types.specs.declared.block.Certificate.{Certificate}
use Rattle.cert_json.specs.Parts as p
use Rattle.cert_json.specs.Parts.{sig_parts, hint_parts, hints_parts, body_parts, block_parts, parts}
use Rattle.cert_json.specs.Read.{sig_of, hint_of, hints_of, body_of, block_of, parts_of}

-- ---- of the code's certificate

fused : {A B C : Type 0} (h : A → B) (g : B → C) (k : A → C) → ((x : A) → g (h x) ≡ k x) → (xs : List A) → map g (map h xs) ≡ map k xs
fused h g k e [] = refl
fused h g k e (x ∷ xs) = ap₂ (λ y ys. y ∷ ys) (e x) (fused h g k e xs)

hint_is : (hint : Hint) → hint_parts (r.hint_of hint) ≡ hint_of hint
hint_is (Let annots) = refl
hint_is (Share annot) = refl
hint_is (Call uses) = refl

hints_is : (hints : Vec Hint Global) → hints_parts (r.hints_of hints) ≡ hints_of hints
hints_is hints = fused r.hint_of hint_parts hint_of hint_is hints.items

body_is : (body : BlockBody) → body_parts (r.body_of body) ≡ body_of body
body_is (Solved sigs hints) = ap₂ p.Solved (fused r.sig_of sig_parts sig_of (λ s. refl) sigs.items) (fused r.hints_of hints_parts hints_of hints_is hints.items)
body_is (Refuted farkas) = refl
body_is (Calls fun) = refl

abbrev with_parts : Task → p.Body ℤ → p.Block ℤ
with_parts task body = record { task = task; body = body }

block_is : (block : Block) → block_parts (r.block_of block) ≡ block_of block
block_is block = ap (with_parts (task_of block.task)) (body_is block.body)

abbrev behind : p.Head ℤ → List (p.Block ℤ) → p.Certificate ℤ
behind head blocks = record { head = head; blocks = blocks }

pub parts_are : (cert : Certificate) → parts (r.certificate_of cert) ≡ parts_of cert
parts_are cert = ap (behind (parts_of cert).head) (fused r.block_of block_parts block_of block_is cert.blocks.items)

-- ---- back from the parts

undone : {A B : Type 0} (f : A → B) (g : B → A) → ((x : A) → g (f x) ≡ x) → (xs : List A) → map g (map f xs) ≡ xs
undone f g e [] = refl
undone f g e (x ∷ xs) = ap₂ (λ y ys. y ∷ ys) (e x) (undone f g e xs)

abbrev pub sig_back : p.Sig ℤ → c.Sig
sig_back s = record { args = s.args; result = s.result }

abbrev pub hint_back : p.Hint ℤ → c.Hint
hint_back (p.Let annots) = c.Let annots
hint_back (p.Share annot) = c.Share annot
hint_back (p.Call uses) = c.Call uses

abbrev pub hints_back : List (p.Hint ℤ) → List c.Hint
hints_back hints = map hint_back hints

abbrev pub body_back : p.Body ℤ → c.Body
body_back (p.Solved sigs hints) = c.Solved (map sig_back sigs) (map hints_back hints)
body_back (p.Refuted farkas) = c.Refuted farkas
body_back (p.Calls fun) = c.Calls fun

abbrev with_body : Task → c.Body → c.Block
with_body task body = record { task = task; body = body }

abbrev pub block_back : p.Block ℤ → c.Block
block_back b = with_body b.task (body_back b.body)

abbrev with_blocks : p.Head ℤ → List c.Block → c.Certificate
with_blocks h blocks = record { degree = h.degree; ticks_scale = h.ticks; cells_scale = h.cells; work_scale = h.work; blocks = blocks }

abbrev pub back : p.Certificate ℤ → c.Certificate
back cert = with_blocks cert.head (map block_back cert.blocks)

hint_undone : (hint : c.Hint) → hint_back (hint_parts hint) ≡ hint
hint_undone (c.Let annots) = refl
hint_undone (c.Share annot) = refl
hint_undone (c.Call uses) = refl

hints_undone : (hints : List c.Hint) → hints_back (hints_parts hints) ≡ hints
hints_undone hints = undone hint_parts hint_back hint_undone hints

body_undone : (body : c.Body) → body_back (body_parts body) ≡ body
body_undone (c.Solved sigs hints) = ap₂ c.Solved (undone sig_parts sig_back (λ s. refl) sigs) (undone hints_parts hints_back hints_undone hints)
body_undone (c.Refuted farkas) = refl
body_undone (c.Calls fun) = refl

block_undone : (block : c.Block) → block_back (block_parts block) ≡ block
block_undone block = ap (with_body block.task) (body_undone block.body)

pub undone_whole : (cert : c.Certificate) → back (parts cert) ≡ cert
undone_whole cert = ap (with_blocks (parts cert).head) (undone block_parts block_back block_undone cert.blocks)

-- certificates with the same parts are the same
pub parts_tell : (x y : c.Certificate) → parts x ≡ parts y → x ≡ y
parts_tell x y e = sym (undone_whole x) ∙ ap back e ∙ undone_whole y
