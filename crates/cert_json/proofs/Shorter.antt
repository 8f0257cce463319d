-- What a JSON value has is no longer than its text, nor are its lists.
use Rattle.std.proofs.Common.{◌^◌, ◌<◌, ◌++◌, Bool, true, false, List, [], ◌∷◌, length, arith}
use Rattle.std.proofs.lemmas.List.{length-append}
use Rattle.serde_json.specs.Data.{Data, object, Members, member, no_members}
use Rattle.serde_json.specs.View.{items_of}
use Rattle.serde_json.specs.Written.{comma_if, compact_text, items_text, members_text}
use Rattle.json.specs.Print.{quoted}
use Rattle.cert_json.specs.Form.{list_json}
use Rattle.cert_json.specs.Fits.{Each, FitsList}

pub record IsShort (d : Data) : Type 0 where
  pub text : length (compact_text d) < 2 ^ 31

-- each item has a comma before it or a bracket behind it
longer : (ds : List Data) → length ds < length (items_text true (items_of ds))
longer [] = omega arith
longer (d ∷ ds) = omega (arith, longer ds, length-append (compact_text d) (items_text true (items_of ds)))

items_short : (later : Bool) (ds : List Data) → length (items_text later (items_of ds)) < 2 ^ 31 → Each IsShort ds
items_short later [] h = tt
items_short later (d ∷ ds) h =
    let e = length-append (comma_if later) (compact_text d ++ items_text true (items_of ds)) in
    let f = length-append (compact_text d) (items_text true (items_of ds)) in
    (record { text = omega (arith, e, f, h) }, items_short true ds (omega (arith, e, f, h)))

pub list_short : (ds : List Data) → IsShort (list_json ds) → FitsList IsShort ds
list_short [] h = record { short = omega arith; each = tt }
list_short (d ∷ ds) h = record {
  short = omega (arith, h.text, longer ds, length-append (compact_text d) (items_text true (items_of ds)));
  each = items_short false (d ∷ ds) (omega (arith, h.text));
}

abbrev pub values : Members → List Data
values no_members = []
values (member k d ms) = d ∷ values ms

members_short : (later : Bool) (ms : Members) → length (members_text later ms) < 2 ^ 31 → Each IsShort (values ms)
members_short later no_members h = tt
members_short later (member k d ms) h =
    let rest = members_text true ms in
    let e = length-append (comma_if later) (quoted k ++ 58 ∷ (compact_text d ++ rest)) in
    let f = length-append (quoted k) (58 ∷ (compact_text d ++ rest)) in
    let g = length-append (compact_text d) rest in
    (record { text = omega (arith, e, f, g, h) }, members_short true ms (omega (arith, e, f, g, h)))

pub object_short : (ms : Members) → IsShort (object ms) → Each IsShort (values ms)
object_short ms h = members_short false ms (omega (arith, h.text))
