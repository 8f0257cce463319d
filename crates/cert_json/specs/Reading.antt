-- Reading a certificate from its JSON, part by part. A number of the analysis is read by `num` from the text of a string.
use Rattle.std.specs.Prelude.{ℕ, suc, ℤ, pos, ◌^◌, Bool, true, false, cond, ◌&&◌, nat_eq, nat_lt, nat_le, List, [], ◌∷◌, length, map, codes}
use Rattle.std.specs.Prelude.{decimal, Option, Some, None, option_map, option_and_then}
use Rattle.std.specs.Str.{bytes_eq}
use Rattle.std.specs.Borrow.{Bor}
use Rattle.std.specs.Str.Parse.{digits_value}
use Rattle.serde_json.specs.Data.{Data, string, Items, item, no_items, Members, member, no_members}
use Rattle.serde_json.specs.Find.{as_str, as_array, as_object, as_number, as_u64}
use Rattle.cost_free.specs.declared.task.Meter.{Meter}
use Rattle.cost_free.specs.declared.task.Meter.TheVariants.{Ticks, Cells, Work}
use Rattle.cost_free.specs.Task.{Kind, Free, With, Task}
use Rattle.cert_json.specs.Parts.{Entries, Sig, Hint, Let, Share, Call, Body, Solved, Refuted, Calls, Block, Head}
use Rattle.cert_json.specs.Form.{Text}

-- the number that the text spells: in decimal, from 1 to 2^127 - 1, with no leading zero
abbrev pub number_by : ℕ → Text → Option ℤ
number_by n s = cond (nat_le 1 n && (nat_lt n (2 ^ 127) && bytes_eq (decimal n) s)) (Some (pos n)) None

abbrev pub number_of : Text → Option ℤ
number_of s = number_by (digits_value 10 s) s

-- a JSON number that is natural and below `limit`
abbrev pub natural_of : ℕ → Data → Option ℕ
natural_of limit d = option_and_then (λ n. cond (nat_lt n limit) (Some n) None) (option_and_then as_u64 (as_number d))

abbrev pub listed : Items → List Data
listed no_items = []
listed (item d ds) = d ∷ listed ds

abbrev pub short_list : List Data → Option (List Data)
short_list ds = cond (nat_lt (length ds) (2 ^ 31)) (Some ds) None

abbrev pub list_of : Data → Option (List Data)
list_of d = option_and_then (λ ds. short_list (listed ds)) (as_array d)

abbrev pub each : {A B : Type 0} → (A → Option B) → List A → Option (List B)
each f [] = Some []
each f (x ∷ xs) = option_and_then (λ y. option_map (λ ys. y ∷ ys) (each f xs)) (f x)

abbrev pub two_in : List Data → Option (Data × Data)
two_in (d ∷ e ∷ []) = Some (d, e)
two_in _ = None

abbrev pub two_of : Data → Option (Data × Data)
two_of d = option_and_then two_in (list_of d)

abbrev pub text_number : {N : Type 0} → (Text → Option N) → Data → Option N
text_number num d = option_and_then num (as_str d)

abbrev pub entry_of : {N : Type 0} → (Text → Option N) → Data → Option (ℕ × N)
entry_of num d =
    option_and_then (λ p. option_and_then (λ at. option_map (λ n. (at, n)) (text_number num p.1)) (natural_of (2 ^ 32) p.0)) (two_of d)

abbrev pub entries_of : {N : Type 0} → (Text → Option N) → Data → Option (Entries N)
entries_of num d = option_and_then (each (entry_of num)) (list_of d)

-- positions ascend from n on
abbrev pub ascend_from : {N : Type 0} → ℕ → Entries N → Bool
ascend_from n [] = true
ascend_from n (e ∷ es) = nat_le n e.0 && ascend_from (suc e.0) es

abbrev pub in_order : {N : Type 0} → Entries N → Option (Entries N)
in_order es = cond (ascend_from 0 es) (Some es) None

abbrev pub annot_of : {N : Type 0} → (Text → Option N) → Data → Option (Entries N)
annot_of num d = option_and_then in_order (entries_of num d)

abbrev pub sig_of : {N : Type 0} → (Text → Option N) → Data → Option (Sig N)
sig_of num d =
    option_and_then (λ p. option_and_then
    (λ args. option_map (λ result. record { args = args; result = result }) (annot_of num p.1)) (annot_of num p.0)) (two_of d)

abbrev pub each_of : {A : Type 0} → (Data → Option A) → Data → Option (List A)
each_of f d = option_and_then (each f) (list_of d)

abbrev pub sole_in : Members → Option (Text × Data)
sole_in (member k d no_members) = Some (k, d)
sole_in _ = None

abbrev pub sole_of : Data → Option (Text × Data)
sole_of d = option_and_then sole_in (as_object d)

abbrev pub hint_by : {N : Type 0} → (Text → Option N) → Text → Data → Option (Hint N)
hint_by num key d =
    cond (bytes_eq key (codes "let")) (option_map Let (each_of (annot_of num) d))
    (cond (bytes_eq key (codes "share")) (option_map Share (annot_of num d))
    (cond (bytes_eq key (codes "call")) (option_map Call (entries_of num d)) None))

abbrev pub hint_of : {N : Type 0} → (Text → Option N) → Data → Option (Hint N)
hint_of num d = option_and_then (λ m. hint_by num m.0 m.1) (sole_of d)

-- the texts that are lent
abbrev pub texts : List (Bor (List ℕ)) → List Text
texts = map (λ (key : Bor (List ℕ)). key.now)

-- the value of the first member, where its key is this, and the members behind it
abbrev pub taken : Text → Members → Option (Data × Members)
taken key no_members = None
taken key (member k d ms) = cond (bytes_eq k key) (Some (d, ms)) None

abbrev pub is_done : Members → Bool
is_done no_members = true
is_done (member k d ms) = false

abbrev pub done : Members → Option (List Data)
done ms = cond (is_done ms) (Some []) None

-- the values of the members, where their keys are these
abbrev pub fields_in : List Text → Members → Option (List Data)
fields_in [] ms = done ms
fields_in (key ∷ keys) ms = option_and_then (λ p. option_map (λ ds. p.0 ∷ ds) (fields_in keys p.1)) (taken key ms)

abbrev pub fields : List Text → Data → Option (List Data)
fields keys d = option_and_then (fields_in keys) (as_object d)

-- f of what is there, or the rest where nothing is
abbrev pub or_else : {A B : Type 0} → Option A → (A → Option B) → Option B → Option B
or_else (Some a) f rest = f a
or_else None f rest = rest

abbrev pub both : {A B : Type 0} → Option A → Option B → Option (A × B)
both o p = option_and_then (λ a. option_map (λ b. (a, b)) p) o

-- with `work` the meter of work is one too
abbrev pub meter_of : Bool → Text → Option Meter
meter_of work s =
    cond (bytes_eq s (codes "ticks")) (Some Ticks) (cond (bytes_eq s (codes "cells")) (Some Cells)
    (cond (work && bytes_eq s (codes "work")) (Some Work) None))

abbrev pub task_with : ℕ × Kind → Task
task_with p = record { group = p.0; kind = p.1 }

abbrev pub with_of : Bool → Data → Data → Option Task
with_of work group kind =
    option_map task_with (both (natural_of (2 ^ 32) group) (option_map With (option_and_then (meter_of work) (as_str kind))))

abbrev pub free_kind : Data → Data → Data → Option Kind
free_kind budget fun target =
    option_and_then (λ b. option_and_then
    (λ f. option_map (λ t. Free b f t) (natural_of (2 ^ 32) target)) (natural_of (2 ^ 32) fun)) (natural_of 256 budget)

abbrev pub is_free : Data → Bool
is_free (string s) = bytes_eq s (codes "free")
is_free _ = false

abbrev pub free_of : Data → Data → Data → Data → Data → Option Task
free_of budget fun group kind target =
    cond (is_free kind) (option_map task_with (both (natural_of (2 ^ 32) group) (free_kind budget fun target))) None

abbrev pub solved_of : {N : Type 0} → (Text → Option N) → Data → Data → Option (Body N)
solved_of num hints sigs = option_map (λ p. Solved p.1 p.0) (both (each_of (each_of (hint_of num)) hints) (each_of (sig_of num) sigs))

abbrev pub refuted_of : {N : Type 0} → (Text → Option N) → Data → Option (Body N)
refuted_of num farkas = option_map Refuted (entries_of num farkas)

abbrev pub calls_of : {N : Type 0} → Data → Option (Body N)
calls_of fun = option_map Calls (natural_of (2 ^ 32) fun)

abbrev pub block_with : {N : Type 0} → Task × Body N → Block N
block_with p = record { task = p.0; body = p.1 }

abbrev pub block_by : {N : Type 0} → Option Task → Option (Body N) → Option (Block N)
block_by task body = option_map block_with (both task body)

abbrev pub solved_keys : List Text
solved_keys = codes "group" ∷ codes "hints" ∷ codes "kind" ∷ codes "sigs" ∷ []

abbrev pub solved_free_keys : List Text
solved_free_keys = codes "budget" ∷ codes "function" ∷ codes "group" ∷ codes "hints" ∷ codes "kind" ∷ codes "sigs" ∷ codes "target" ∷ []

abbrev pub other_keys : Text → List Text
other_keys key = key ∷ codes "group" ∷ codes "kind" ∷ []

abbrev pub other_free_keys : Text → List Text
other_free_keys key = codes "budget" ∷ key ∷ codes "function" ∷ codes "group" ∷ codes "kind" ∷ codes "target" ∷ []

abbrev pub solved_in : {N : Type 0} → (Text → Option N) → Bool → List Data → Option (Block N)
solved_in num work (group ∷ hints ∷ kind ∷ sigs ∷ []) = block_by (with_of work group kind) (solved_of num hints sigs)
solved_in num work _ = None

abbrev pub solved_free_in : {N : Type 0} → (Text → Option N) → List Data → Option (Block N)
solved_free_in num (budget ∷ fun ∷ group ∷ hints ∷ kind ∷ sigs ∷ target ∷ []) =
    block_by (free_of budget fun group kind target) (solved_of num hints sigs)
solved_free_in num _ = None

abbrev pub other_in : {N : Type 0} → (Data → Option (Body N)) → Bool → List Data → Option (Block N)
other_in body work (d ∷ group ∷ kind ∷ []) = block_by (with_of work group kind) (body d)
other_in body work _ = None

abbrev pub other_free_in : {N : Type 0} → (Data → Option (Body N)) → List Data → Option (Block N)
other_free_in body (budget ∷ d ∷ fun ∷ group ∷ kind ∷ target ∷ []) = block_by (free_of budget fun group kind target) (body d)
other_free_in body _ = None

-- the block, by the keys that the object has
abbrev pub calls_free_or : {N : Type 0} → Data → Option (Block N)
calls_free_or d = or_else (fields (other_free_keys (codes "calls")) d) (other_free_in calls_of) None

abbrev pub calls_block : {N : Type 0} → Bool → Data → Option (Block N)
calls_block work d = or_else (fields (other_keys (codes "calls")) d) (other_in calls_of work) (calls_free_or d)

abbrev pub refuted_free_or : {N : Type 0} → (Text → Option N) → Bool → Data → Option (Block N)
refuted_free_or num work d = or_else (fields (other_free_keys (codes "farkas")) d) (other_free_in (refuted_of num)) (calls_block work d)

abbrev pub refuted_block : {N : Type 0} → (Text → Option N) → Bool → Data → Option (Block N)
refuted_block num work d = or_else (fields (other_keys (codes "farkas")) d) (other_in (refuted_of num) work) (refuted_free_or num work d)

abbrev pub solved_free_or : {N : Type 0} → (Text → Option N) → Bool → Data → Option (Block N)
solved_free_or num work d = or_else (fields solved_free_keys d) (solved_free_in num) (refuted_block num work d)

abbrev pub block_of : {N : Type 0} → (Text → Option N) → Bool → Data → Option (Block N)
block_of num work d = or_else (fields solved_keys d) (solved_in num work) (solved_free_or num work d)

abbrev pub head_keys : List Text
head_keys = codes "blocks" ∷ codes "degree" ∷ codes "scale" ∷ codes "version" ∷ []

abbrev pub Scale : Type 0 → Type 0
Scale N = N × N × Option N

abbrev pub scale_one : {N : Type 0} → (Text → Option N) → List Data → Option (Scale N)
scale_one num (cells ∷ ticks ∷ []) = option_and_then (λ c. option_map (λ t. (t, c, None)) (text_number num ticks)) (text_number num cells)
scale_one num _ = None

abbrev pub scale_two : {N : Type 0} → (Text → Option N) → List Data → Option (Scale N)
scale_two num (cells ∷ ticks ∷ work ∷ []) =
    option_and_then (λ c. option_and_then
    (λ t. option_map (λ w. (t, c, Some w)) (text_number num work)) (text_number num ticks)) (text_number num cells)
scale_two num _ = None

abbrev pub scale_of : {N : Type 0} → (Text → Option N) → ℕ → Data → Option (Scale N)
scale_of num version d =
    cond (nat_eq version 1) (option_and_then (scale_one num) (fields (codes "cells" ∷ codes "ticks" ∷ []) d))
    (cond (nat_eq version 2) (option_and_then (scale_two num) (fields (codes "cells" ∷ codes "ticks" ∷ codes "work" ∷ []) d)) None)

abbrev pub degree_of : Data → Option ℕ
degree_of d = option_and_then (λ n. cond (nat_le 1 n) (Some n) None) (natural_of 5 d)

abbrev pub head_with : {N : Type 0} → ℕ × Scale N → Head N
head_with p = record { degree = p.0; ticks = p.1.0; cells = p.1.1; work = p.1.2 }

-- the head, and the blocks that are not yet read
abbrev pub head_in : {N : Type 0} → (Text → Option N) → List Data → Option (Head N × List Data)
head_in num (blocks ∷ degree ∷ scale ∷ version ∷ []) =
    both (option_map head_with
    (both (degree_of degree) (option_and_then (λ v. scale_of num v scale) (natural_of 3 version)))) (list_of blocks)
head_in num _ = None

abbrev pub head_of : {N : Type 0} → (Text → Option N) → Data → Option (Head N × List Data)
head_of num d = option_and_then (head_in num) (fields head_keys d)
