-- A value has the form of a part exactly where it is read with any texts for numbers.
use Rattle.std.proofs.Common.{◌≡◌, ℕ, suc, ◌^◌, Bool, true, false, cond, List, [], ◌∷◌, Option, Some, None, refl, ap, ap₂, ◌∙◌, codes}
use Rattle.std.specs.Prelude.{nat_eq, nat_le, ◌&&◌, option_map, option_and_then, is_some}
use Rattle.std.specs.List.{list_all}
use Rattle.std.specs.Option.{option_map_or}
use Rattle.std.specs.Str.{bytes_eq}
use Rattle.serde_json.specs.Data.{Data}
use Rattle.serde_json.specs.Find.{as_str}
use Rattle.cert_json.specs.Parts.{Entries, Sig, Let, Share, Call, Solved, Refuted, Calls}
use Rattle.cert_json.specs.Form.{Text}
use Rattle.cost_free.specs.Task.{Task}
use Rattle.cert_json.specs.Reading.{natural_of, list_of, each, two_of, text_number, entry_of, entries_of, ascend_from, in_order, annot_of, sig_of, each_of, sole_of, hint_by, hint_of, both, solved_of, refuted_of, calls_of, block_with, fields, or_else, head_keys, block_of, scale_one, scale_two, scale_of, degree_of, head_with, head_in, head_of}
use Rattle.cert_json.specs.Likeness.{position_by, like_pair, like_entry, like_all, like_entries, like_annot_from, like_annot, like_sig, like_hint_by, like_hint, like_hints, like_solved, like_piece, or_like, like_calls, like_block, like_scale_one, like_scale_two, like_scale, like_head_in, like_head}
use Rattle.cert_json.specs.Pieces as p
use Rattle.cert_json.specs.Pieces.{Piece, block_from, block_pieces}
use Rattle.cert_json.proofs.Keyed.{pieces_read}

-- any text stands for a number
abbrev any : Text → Option Text
any = Some

abbrev entry : ℕ → Text → ℕ × Text
entry at n = (at, n)

abbrev sig : Entries Text → Entries Text → Sig Text
sig args result = record { args = args; result = result }

pair_is : (o : Option ℕ) (s : Option Text) → (is_some o && is_some s) ≡ is_some (option_and_then (λ at. option_map (entry at) (option_and_then any s)) o)
pair_is None s = refl
pair_is (Some at) None = refl
pair_is (Some at) (Some s) = refl

entry_by : (o : Option (Data × Data)) → option_map_or like_pair o false ≡ is_some (option_and_then (λ p. option_and_then (λ at. option_map (entry at) (text_number any p.1)) (natural_of (2 ^ 32) p.0)) o)
entry_by None = refl
entry_by (Some p) = pair_is (natural_of (2 ^ 32) p.0) (as_str p.1)

entry_like : (d : Data) → like_entry d ≡ is_some (entry_of any d)
entry_like d = entry_by (two_of d)

cons_is : {A : Type 0} (o : Option A) (p : Option (List A)) → (is_some o && is_some p) ≡ is_some (option_and_then (λ y. option_map (λ ys. y ∷ ys) p) o)
cons_is None p = refl
cons_is (Some a) None = refl
cons_is (Some a) (Some ys) = refl

each_like : {A : Type 0} (g : Data → Option A) (like : Data → Bool) → ((d : Data) → like d ≡ is_some (g d)) → (ds : List Data) → list_all like ds ≡ is_some (each g ds)
each_like g like h [] = refl
each_like g like h (d ∷ ds) = ap₂ (λ a b. a && b) (h d) (each_like g like h ds) ∙ cons_is (g d) (each g ds)

then_like : {A : Type 0} (like : List Data → Bool) (g : List Data → Option A) → ((ds : List Data) → like ds ≡ is_some (g ds)) → (o : Option (List Data)) → option_map_or like o false ≡ is_some (option_and_then g o)
then_like like g h None = refl
then_like like g h (Some ds) = h ds

list_like : {A : Type 0} (g : Data → Option A) (like : Data → Bool) → ((d : Data) → like d ≡ is_some (g d)) → (d : Data) → like_all like d ≡ is_some (each_of g d)
list_like g like h d = then_like (list_all like) (each g) (each_like g like h) (list_of d)

entries_like : (d : Data) → like_entries d ≡ is_some (entries_of any d)
entries_like d = list_like (entry_of any) like_entry entry_like d

position_pair : (o : Option ℕ) (s : Option Text) → option_and_then (λ at. cond (is_some s) (Some at) None) o ≡ option_map (λ (e : ℕ × Text). e.0) (option_and_then (λ at. option_map (entry at) (option_and_then any s)) o)
position_pair None s = refl
position_pair (Some at) None = refl
position_pair (Some at) (Some s) = refl

position_of : (o : Option (Data × Data)) → option_and_then position_by o ≡ option_map (λ (e : ℕ × Text). e.0) (option_and_then (λ p. option_and_then (λ at. option_map (entry at) (text_number any p.1)) (natural_of (2 ^ 32) p.0)) o)
position_of None = refl
position_of (Some p) = position_pair (natural_of (2 ^ 32) p.0) (as_str p.1)

abbrev order_from : ℕ → Entries Text → Option (Entries Text)
order_from n es = cond (ascend_from n es) (Some es) None

guard_is : {A : Type 0} (a b : Bool) (x y : A) → (a && is_some (cond b (Some x) None)) ≡ is_some (cond (a && b) (Some y) None)
guard_is true true x y = refl
guard_is true false x y = refl
guard_is false b x y = refl

and_false : (a : Bool) → (a && false) ≡ false
and_false true = refl
and_false false = refl

annot_step : (n : ℕ) (e : ℕ × Text) (o : Option (Entries Text)) → (nat_le n e.0 && is_some (option_and_then (order_from (suc e.0)) o)) ≡ is_some (option_and_then (order_from n) (option_map (λ es. e ∷ es) o))
annot_step n e None = and_false (nat_le n e.0)
annot_step n e (Some es) = guard_is (nat_le n e.0) (ascend_from (suc e.0) es) es (e ∷ es)

annot_from : (n : ℕ) (ds : List Data) → like_annot_from n ds ≡ is_some (option_and_then (order_from n) (each (entry_of any) ds))
annot_from n [] = refl
annot_from n (d ∷ ds) = ap (λ o. option_map_or (λ at. nat_le n at && like_annot_from (suc at) ds) o false) (position_of (two_of d)) ∙ by (λ n. annot_from n ds) (entry_of any d)
  where
    by : ((n : ℕ) → like_annot_from n ds ≡ is_some (option_and_then (order_from n) (each (entry_of any) ds))) → (o : Option (ℕ × Text)) → option_map_or (λ at. nat_le n at && like_annot_from (suc at) ds) (option_map (λ e. e.0) o) false ≡ is_some (option_and_then (order_from n) (option_and_then (λ y. option_map (λ ys. y ∷ ys) (each (entry_of any) ds)) o))
    by ih None = refl
    by ih (Some e) = ap (λ b. nat_le n e.0 && b) (ih (suc e.0)) ∙ annot_step n e (each (entry_of any) ds)

annot_like : (d : Data) → like_annot d ≡ is_some (annot_of any d)
annot_like d = by (list_of d)
  where
    by : (o : Option (List Data)) → option_map_or (like_annot_from 0) o false ≡ is_some (option_and_then in_order (option_and_then (each (entry_of any)) o))
    by None = refl
    by (Some ds) = annot_from 0 ds

map_some : {A B : Type 0} (f : A → B) (o : Option A) → is_some o ≡ is_some (option_map f o)
map_some f None = refl
map_some f (Some a) = refl

two_some : {A B C : Type 0} (f : A → B → C) (o : Option A) (p : Option B) → (is_some o && is_some p) ≡ is_some (option_and_then (λ a. option_map (f a) p) o)
two_some f None p = refl
two_some f (Some a) None = refl
two_some f (Some a) (Some b) = refl

cond_some : {A : Type 0} (b x y : Bool) (o p : Option A) → x ≡ is_some o → y ≡ is_some p → cond b x y ≡ is_some (cond b o p)
cond_some true x y o p h k = h
cond_some false x y o p h k = k

or_some : {A : Type 0} (o : Option (List Data)) (like : List Data → Bool) (f : List Data → Option A) (rest : Bool) (r : Option A) → ((ds : List Data) → like ds ≡ is_some (f ds)) → rest ≡ is_some r → or_like o like rest ≡ is_some (or_else o f r)
or_some None like f rest r h k = k
or_some (Some ds) like f rest r h k = h ds

sig_like : (d : Data) → like_sig d ≡ is_some (sig_of any d)
sig_like d = by (two_of d)
  where
    by : (o : Option (Data × Data)) → option_map_or (λ (p : Data × Data). like_annot p.0 && like_annot p.1) o false
        ≡ is_some (option_and_then (λ p. option_and_then (λ args. option_map (sig args) (annot_of any p.1)) (annot_of any p.0)) o)
    by None = refl
    by (Some p) = ap₂ (λ a b. a && b) (annot_like p.0) (annot_like p.1) ∙ two_some sig (annot_of any p.0) (annot_of any p.1)

hint_by_like : (key : Text) (d : Data) → like_hint_by key d ≡ is_some (hint_by any key d)
hint_by_like key d =
    cond_some (bytes_eq key (codes "let")) _ _ (option_map Let (each_of (annot_of any) d)) _ (list_like (annot_of any) like_annot annot_like d ∙ map_some Let (each_of (annot_of any) d))
    (cond_some (bytes_eq key (codes "share")) _ _ (option_map Share (annot_of any d)) _ (annot_like d ∙ map_some Share (annot_of any d))
    (cond_some (bytes_eq key (codes "call")) _ _ (option_map Call (entries_of any d)) None (entries_like d ∙ map_some Call (entries_of any d)) refl))

hint_like : (d : Data) → like_hint d ≡ is_some (hint_of any d)
hint_like d = by (sole_of d)
  where
    by : (o : Option (Text × Data)) → option_map_or (λ (m : Text × Data). like_hint_by m.0 m.1) o false ≡ is_some (option_and_then (λ m. hint_by any m.0 m.1) o)
    by None = refl
    by (Some m) = hint_by_like m.0 m.1

hints_like : (d : Data) → like_hints d ≡ is_some (each_of (hint_of any) d)
hints_like d = list_like (hint_of any) like_hint hint_like d

solved_like : (hints sigs : Data) → like_solved hints sigs ≡ is_some (solved_of any hints sigs)
solved_like hints sigs =
    ap₂ (λ a b. a && b) (list_like (each_of (hint_of any)) like_hints hints_like hints) (list_like (sig_of any) like_sig sig_like sigs)
    ∙ two_some (λ a b. (a, b)) (each_of (each_of (hint_of any)) hints) (each_of (sig_of any) sigs)
    ∙ map_some (λ p. Solved p.1 p.0) (both (each_of (each_of (hint_of any)) hints) (each_of (sig_of any) sigs))

refuted_like : (d : Data) → like_entries d ≡ is_some (refuted_of any d)
refuted_like d = entries_like d ∙ map_some Refuted (entries_of any d)

calls_like : (d : Data) → like_calls d ≡ is_some (calls_of {N = Text} d)
calls_like d = map_some Calls (natural_of (2 ^ 32) d)

piece_like : (q : Task × Piece) → like_piece q.1 ≡ is_some (block_from any q)
piece_like (t, p.Solved hints sigs) = solved_like hints sigs ∙ map_some (λ body. block_with (t, body)) (solved_of any hints sigs)
piece_like (t, p.Refuted farkas) = refuted_like farkas ∙ map_some (λ body. block_with (t, body)) (refuted_of any farkas)
piece_like (t, p.Calls fun) = calls_like fun ∙ map_some (λ body. block_with (t, body)) (calls_of {N = Text} fun)

-- a value has the form of a block exactly where it is read with any texts for numbers
pub blocks_like : (work : Bool) (d : Data) → like_block work d ≡ is_some (block_of any work d)
blocks_like work d = by (block_pieces work d) ∙ ap is_some (pieces_read any work d)
  where
    by : (o : Option (Task × Piece)) → option_map_or (λ (q : Task × Piece). like_piece q.1) o false ≡ is_some (option_and_then (block_from any) o)
    by None = refl
    by (Some q) = piece_like q

text_some : (o : Option Text) → is_some o ≡ is_some (option_and_then any o)
text_some None = refl
text_some (Some s) = refl

scale_one_like : (ds : List Data) → like_scale_one ds ≡ is_some (scale_one any ds)
scale_one_like (c ∷ t ∷ []) = ap₂ (λ a b. a && b) (text_some (as_str c)) (text_some (as_str t)) ∙ two_some (λ c t. (t, c, None)) (text_number any c) (text_number any t)
scale_one_like _ = refl

three_some : {A B C D : Type 0} (f : A → B → C → D) (o : Option A) (p : Option B) (q : Option C) → (is_some o && (is_some p && is_some q)) ≡ is_some (option_and_then (λ a. option_and_then (λ b. option_map (f a b) q) p) o)
three_some f None p q = refl
three_some f (Some a) None q = refl
three_some f (Some a) (Some b) None = refl
three_some f (Some a) (Some b) (Some c) = refl

scale_two_like : (ds : List Data) → like_scale_two ds ≡ is_some (scale_two any ds)
scale_two_like (c ∷ t ∷ w ∷ []) =
    ap₂ (λ a b. a && b) (text_some (as_str c)) (ap₂ (λ a b. a && b) (text_some (as_str t)) (text_some (as_str w)))
    ∙ three_some (λ c t w. (t, c, Some w)) (text_number any c) (text_number any t) (text_number any w)
scale_two_like _ = refl

or_then : {A : Type 0} (o : Option (List Data)) (like : List Data → Bool) (f : List Data → Option A) → ((ds : List Data) → like ds ≡ is_some (f ds)) → or_like o like false ≡ is_some (option_and_then f o)
or_then None like f h = refl
or_then (Some ds) like f h = h ds

scale_like : (d : Data) (v : ℕ) → like_scale d v ≡ is_some (scale_of any v d)
scale_like d v =
    cond_some (nat_eq v 1) _ _ (option_and_then (scale_one any) (fields (codes "cells" ∷ codes "ticks" ∷ []) d)) _ (or_then (fields (codes "cells" ∷ codes "ticks" ∷ []) d) like_scale_one (scale_one any) scale_one_like)
    (cond_some (nat_eq v 2) _ _ (option_and_then (scale_two any) (fields (codes "cells" ∷ codes "ticks" ∷ codes "work" ∷ []) d)) None (or_then (fields (codes "cells" ∷ codes "ticks" ∷ codes "work" ∷ []) d) like_scale_two (scale_two any) scale_two_like) refl)

version_like : (d : Data) (o : Option ℕ) → option_map_or (like_scale d) o false ≡ is_some (option_and_then (λ v. scale_of any v d) o)
version_like d None = refl
version_like d (Some v) = scale_like d v

grouped : (a b c : Bool) → (a && (b && c)) ≡ ((a && b) && c)
grouped true b c = refl
grouped false b c = refl

head_in_like : (ds : List Data) → like_head_in ds ≡ is_some (head_in any ds)
head_in_like (b ∷ g ∷ s ∷ v ∷ []) =
    let scale = option_and_then (λ v. scale_of any v s) (natural_of 3 v) in
    ap (λ x. is_some (degree_of g) && (x && is_some (list_of b))) (version_like s (natural_of 3 v))
    ∙ grouped (is_some (degree_of g)) (is_some scale) (is_some (list_of b))
    ∙ ap (λ x. x && is_some (list_of b)) (two_some (λ a b. (a, b)) (degree_of g) scale ∙ map_some head_with (both (degree_of g) scale))
    ∙ two_some (λ a b. (a, b)) (option_map head_with (both (degree_of g) scale)) (list_of b)
head_in_like _ = refl

-- and the form of a head
pub heads_like : (d : Data) → like_head d ≡ is_some (head_of any d)
heads_like d = or_then (fields head_keys d) like_head_in (head_in any) head_in_like
