-- A certificate that is complete fits the form, where its text is not too long.
use Rattle.std.proofs.Common.{◌≡◌, ℕ, suc, ℤ, pos, negsuc, true, List, [], ◌∷◌, map, Option, Some, None, refl, sym, subst, arith}
use Rattle.std.specs.Prelude.{◌<ℤ◌, slice_get}
use Rattle.std.specs.Option.{unwrap_or}
use Rattle.std.specs.Fmt.{signed_decimal}
use Rattle.std.proofs.lemmas.List.{length-map}
use Rattle.std.proofs.lemmas.Int.{ints}
use Rattle.serde_json.specs.Data.{Data}
use Rattle.cost_free.specs.declared.task.Meter.TheVariants.{Ticks, Cells, Work}
use Rattle.cost_free.specs.Task.{Kind, Free, With}
use Rattle.annot_types.specs.Certificate as c
use Rattle.annot_types.specs.Certificate.{RiseFrom, Rise}
use Rattle.annot_types.specs.Held.{AllRise, SigsRise, HintRises, HintsRise, AllHintsRise, IsShaped}
use Rattle.cert_json.specs.Parts.{Entries, Sig, Hint, Let, Share, Call, Body, Solved, Refuted, Calls, Block, Certificate}
use Rattle.cert_json.specs.Form.{list_json, entry_json, entries_json, sig_json, hint_json, hints_json, body_json, block_json, certificate_json}
use Rattle.cert_json.specs.Fits.{Each, FitsList, FitsEntry, FitsAnnot, FitsSig, FitsHint, FitsBody, FitsKind, FitsBlock, FitsOption, InRange}
use Rattle.cert_json.specs.Numbers.{Wide, EntryHas, EntriesHave, SigHas, HintHas, HintsHave, KindFits, BodyHas, BlockHas, CertificateHas}
use Rattle.cert_json.specs.Faults.{HasParts}
use Rattle.cert_json.specs.Told.{IsComplete}
use Rattle.cert_json.proofs.Numbers.{ascends}
use Rattle.cert_json.proofs.Parted.{sig_back, hint_back, hints_back, body_back, block_back, back}
use Rattle.cert_json.proofs.Shorter.{IsShort, list_short, object_short}

-- a list fits where S of it gives what its first item needs, and S of the rest
module _ {A : Type 0} (g : A → Data) (H F : A → Type 0) (S : List A → Type 0) (step : (x : A) (xs : List A) → S (x ∷ xs) → (H x → IsShort (g x) → F x) × S xs) where
  each_fits : (xs : List A) → S xs → Each H xs → Each IsShort (map g xs) → Each F xs
  each_fits [] s h t = tt
  each_fits (x ∷ xs) s h t = let k = step x xs s in (k.0 h.0 t.0, each_fits xs k.1 h.1 t.1)

  list_fits : (xs : List A) → S xs → Each H xs → IsShort (list_json (map g xs)) → FitsList F xs
  list_fits xs s h t =
      let l = list_short (map g xs) t in
      record { short = omega (arith, l.short, length-map xs g); each = each_fits xs s h l.each }

in_range : (z : ℤ) → pos 0 <ℤ z → Wide z → InRange z
in_range (pos n) p w = (grind (arith, ints, p), grind (arith, ints, w))
in_range (negsuc n) p w = let no : ⊥ = grind (arith, ints, p) in no

record Ascend (es : Entries ℤ) : Type 0 where
  least : ℕ
  rise : RiseFrom least es

entries_fit : (es : Entries ℤ) → Rise es → EntriesHave Wide es → IsShort (entries_json signed_decimal es) → FitsList (FitsEntry InRange) es
entries_fit es r =
    list_fits (entry_json signed_decimal) (EntryHas Wide) (FitsEntry InRange) Ascend
    (λ e es a. (λ h t. record { position = h.position; number = in_range e.1 a.rise.1 h.number }, record { least = suc e.0; rise = a.rise.2 }))
    es (record { least = 0; rise = r })

annot_fits : (es : Entries ℤ) → Rise es → EntriesHave Wide es → IsShort (entries_json signed_decimal es) → FitsAnnot InRange es
annot_fits es r h t = record { entries = entries_fit es r h t; ascend = ascends 0 es r }

sig_fits : (s : Sig ℤ) → Rise s.args → Rise s.result → SigHas Wide s → IsShort (sig_json signed_decimal s) → FitsSig InRange s
sig_fits s a r h t =
    let each = (list_short (entries_json signed_decimal s.args ∷ entries_json signed_decimal s.result ∷ []) t).each in
    record { args = annot_fits s.args a h.args each.0; result = annot_fits s.result r h.result each.1.0 }

hint_fits : (hint : Hint ℤ) → HintRises (hint_back hint) → HintHas Wide hint → IsShort (hint_json signed_decimal hint) → FitsHint InRange hint
hint_fits (Let annots) r h t =
    list_fits (entries_json signed_decimal) (EntriesHave Wide) (FitsAnnot InRange) AllRise (λ es rest r. (annot_fits es r.0, r.1)) annots r h (object_short _ t).0
hint_fits (Share annot) r h t = annot_fits annot r h (object_short _ t).0
hint_fits (Call uses) r h t = entries_fit uses r h (object_short _ t).0

hints_fit : (hints : List (Hint ℤ)) → HintsRise (hints_back hints) → HintsHave Wide hints → IsShort (hints_json signed_decimal hints) → FitsList (FitsHint InRange) hints
hints_fit =
    list_fits (hint_json signed_decimal) (HintHas Wide) (FitsHint InRange) (λ hints. HintsRise (hints_back hints)) (λ hint rest r. (hint_fits hint r.0, r.1))

solved_fits : (sigs : List (Sig ℤ)) (hints : List (List (Hint ℤ))) → IsShaped (body_back (Solved sigs hints)) → BodyHas Wide (Solved sigs hints)
    → IsShort (list_json (map (sig_json signed_decimal) sigs)) → IsShort (list_json (map (hints_json signed_decimal) hints)) → FitsBody InRange (Solved sigs hints)
solved_fits sigs hints r h s t = (
  list_fits (sig_json signed_decimal) (SigHas Wide) (FitsSig InRange) (λ sigs. SigsRise (map sig_back sigs)) (λ sig rest r. (sig_fits sig r.0 r.1, r.2)) sigs r.0 h.0 s,
  list_fits (hints_json signed_decimal) (HintsHave Wide) (FitsList (FitsHint InRange)) (λ hints. AllHintsRise (map hints_back hints)) (λ hints rest r. (hints_fit hints r.0, r.1)) hints r.1 h.1 t,
)

body_fits : (group : ℕ) (kind : Kind) (body : Body ℤ) → IsShaped (body_back body) → BodyHas Wide body → IsShort (body_json signed_decimal group kind body) → FitsBody InRange body
body_fits group (Free budget fun target) (Solved sigs hints) r h t = let v = object_short _ t in solved_fits sigs hints r h v.1.1.1.1.1.0 v.1.1.1.0
body_fits group (With meter) (Solved sigs hints) r h t = let v = object_short _ t in solved_fits sigs hints r h v.1.1.1.0 v.1.0
body_fits group (Free budget fun target) (Refuted farkas) r h t = entries_fit farkas r h (object_short _ t).1.0
body_fits group (With meter) (Refuted farkas) r h t = entries_fit farkas r h (object_short _ t).0
body_fits group kind (Calls fun) r h t = h

kind_fits : (kind : Kind) → KindFits kind → FitsKind true kind
kind_fits (Free budget fun target) h = h
kind_fits (With Ticks) h = tt
kind_fits (With Cells) h = tt
kind_fits (With Work) h = refl

block_fits : (b : Block ℤ) → IsShaped (body_back b.body) → BlockHas Wide b → IsShort (block_json signed_decimal b) → FitsBlock InRange true b
block_fits b r h t = record { group = h.group; kind = kind_fits b.task.kind h.kind; body = body_fits b.task.group b.task.kind b.body r h.body t }

work_fits : (o : Option ℤ) → pos 0 <ℤ unwrap_or o (pos 1) → FitsOption Wide o → FitsOption InRange o
work_fits None p h = tt
work_fits (Some z) p h = in_range z p h

pub certificate_fits : (cert : Certificate ℤ) → IsComplete (back cert) → CertificateHas Wide cert → IsShort (certificate_json signed_decimal cert) → HasParts (certificate_json signed_decimal cert) cert
certificate_fits cert i h t = record {
  is = refl;
  head = record {
    positive = i.least_degree;
    small = omega (arith, i.most_degree);
    ticks = in_range cert.head.ticks (i.scales Ticks) h.ticks;
    cells = in_range cert.head.cells (i.scales Cells) h.cells;
    work = work_fits cert.head.work (i.scales Work) h.work;
  };
  blocks = subst (λ work. FitsList (FitsBlock InRange work) cert.blocks) (sym i.work)
      (list_fits (block_json signed_decimal) (BlockHas Wide) (FitsBlock InRange true)
      (λ bs. (place : ℕ) (block : c.Block) → slice_get (map block_back bs) place ≡ Some block → IsShaped block.body)
      (λ b bs s. (block_fits b (s 0 (block_back b) refl), λ place. s (suc place))) cert.blocks i.shape h.blocks (object_short _ t).0);
}
