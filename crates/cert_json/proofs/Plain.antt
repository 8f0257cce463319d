-- A certificate's JSON has no float, and is not deep.
use Rattle.std.proofs.Common.{◌≡◌, ℕ, ◌≤◌, ◌+◌, List, [], ◌∷◌, map, false, Option, Some, None, refl, arith}
use Rattle.serde_json.specs.Data.{Data, depth, items_depth}
use Rattle.serde_json.specs.View.{items_of}
use Rattle.serde_json.specs.Written.{has_float, items_have_float}
use Rattle.cost_free.specs.Task.{Kind, Free, With}
use Rattle.cert_json.specs.Parts.{Entries, Sig, Hint, Let, Share, Call, Body, Solved, Refuted, Calls, Block, Certificate}
use Rattle.cert_json.specs.Form.{Text, list_json, entry_json, entries_json, sig_json, hint_json, hints_json, body_json, block_json, scale_json, certificate_json}

pub record Plain (n : ℕ) (d : Data) : Type 0 where
  pub no_float : has_float d ≡ false
  pub shallow : depth d ≤ n

no_floats : {A : Type 0} (g : A → Data) → (n : ℕ) → ((x : A) → Plain n (g x)) → (xs : List A) → items_have_float (items_of (map g xs)) ≡ false
no_floats g n h [] = refl
no_floats g n h (x ∷ xs) = rw ((h x).no_float) (no_floats g n h xs)

shallow_items : {A : Type 0} (g : A → Data) → (n : ℕ) → ((x : A) → Plain n (g x)) → (xs : List A) → items_depth (items_of (map g xs)) ≤ n
shallow_items g n h [] = omega arith
shallow_items g n h (x ∷ xs) = omega (arith, (h x).shallow, shallow_items g n h xs)

plain_list : {A : Type 0} (g : A → Data) → (n m : ℕ) → m ≡ n + 1 → ((x : A) → Plain n (g x)) → (xs : List A) → Plain m (list_json (map g xs))
plain_list g n m e h xs = record { no_float = no_floats g n h xs; shallow = omega (arith, shallow_items g n h xs) }

plain_entry : {N : Type 0} (f : N → Text) (e : ℕ × N) → Plain 1 (entry_json f e)
plain_entry f e = record { no_float = refl; shallow = omega arith }

plain_entries : {N : Type 0} (f : N → Text) (es : Entries N) → Plain 2 (entries_json f es)
plain_entries f es = plain_list (entry_json f) 1 2 refl (plain_entry f) es

plain_sig : {N : Type 0} (f : N → Text) (s : Sig N) → Plain 3 (sig_json f s)
plain_sig f s =
    let a = plain_entries f s.args in let r = plain_entries f s.result in
    record { no_float = rw (a.no_float) (rw (r.no_float) refl); shallow = omega (arith, a.shallow, r.shallow) }

plain_hint : {N : Type 0} (f : N → Text) (h : Hint N) → Plain 4 (hint_json f h)
plain_hint f (Let annots) = let a = plain_list (entries_json f) 2 3 refl (plain_entries f) annots in record { no_float = rw (a.no_float) refl; shallow = omega (arith, a.shallow) }
plain_hint f (Share annot) = let a = plain_entries f annot in record { no_float = rw (a.no_float) refl; shallow = omega (arith, a.shallow) }
plain_hint f (Call uses) = let a = plain_entries f uses in record { no_float = rw (a.no_float) refl; shallow = omega (arith, a.shallow) }

plain_hints : {N : Type 0} (f : N → Text) (hs : List (Hint N)) → Plain 5 (hints_json f hs)
plain_hints f hs = plain_list (hint_json f) 4 5 refl (plain_hint f) hs

plain_body : {N : Type 0} (f : N → Text) (group : ℕ) (kind : Kind) (b : Body N) → Plain 7 (body_json f group kind b)
plain_body f group (Free a b c) (Solved sigs hints) =
    let s = plain_list (sig_json f) 3 4 refl (plain_sig f) sigs in let h = plain_list (hints_json f) 5 6 refl (plain_hints f) hints in
    record { no_float = rw (h.no_float) (rw (s.no_float) refl); shallow = omega (arith, s.shallow, h.shallow) }
plain_body f group (With m) (Solved sigs hints) =
    let s = plain_list (sig_json f) 3 4 refl (plain_sig f) sigs in let h = plain_list (hints_json f) 5 6 refl (plain_hints f) hints in
    record { no_float = rw (h.no_float) (rw (s.no_float) refl); shallow = omega (arith, s.shallow, h.shallow) }
plain_body f group (Free a b c) (Refuted farkas) = let s = plain_entries f farkas in record { no_float = rw (s.no_float) refl; shallow = omega (arith, s.shallow) }
plain_body f group (With m) (Refuted farkas) = let s = plain_entries f farkas in record { no_float = rw (s.no_float) refl; shallow = omega (arith, s.shallow) }
plain_body f group (Free a b c) (Calls fun) = record { no_float = refl; shallow = omega arith }
plain_body f group (With m) (Calls fun) = record { no_float = refl; shallow = omega arith }

plain_block : {N : Type 0} (f : N → Text) (b : Block N) → Plain 7 (block_json f b)
plain_block f b = plain_body f b.task.group b.task.kind b.body

plain_scale : {N : Type 0} (f : N → Text) (ticks cells : N) (work : Option N) → Plain 1 (scale_json f ticks cells work)
plain_scale f ticks cells None = record { no_float = refl; shallow = omega arith }
plain_scale f ticks cells (Some w) = record { no_float = refl; shallow = omega arith }

plain_certificate : {N : Type 0} (f : N → Text) (c : Certificate N) → Plain 9 (certificate_json f c)
plain_certificate f c =
    let b = plain_list (block_json f) 7 8 refl (plain_block f) c.blocks in let s = plain_scale f c.head.ticks c.head.cells c.head.work in
    record { no_float = rw (b.no_float) (rw (s.no_float) refl); shallow = omega (arith, b.shallow, s.shallow) }

pub no_float : {N : Type 0} (f : N → Text) (c : Certificate N) → has_float (certificate_json f c) ≡ false
no_float f c = (plain_certificate f c).no_float

pub shallow : {N : Type 0} (f : N → Text) (c : Certificate N) → depth (certificate_json f c) ≤ 127
shallow f c = omega (arith, (plain_certificate f c).shallow)
