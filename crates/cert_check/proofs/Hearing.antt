-- The conditions of one body after the other.
use Rattle.std.proofs.Common.{◌≡◌, ap, sym, ◌∙◌, arith, drop-cons}
use Rattle.std.specs.Prelude.{ℕ, suc, ◌+◌, ◌<◌, List, map, drop, length, slice_index_or, Option, Vec}
use Rattle.std.specs.Global.{Global}
use Rattle.annot_types.specs.declared.block.Hint.{Hint as Told}
use Rattle.annot_types.specs.Read as a
use Rattle.annot_types.specs.Rules.{Mode}
use Rattle.rules_spec.specs.Numbers.{Known}
use Rattle.rules_spec.specs.Kinds.{Amount}
use Rattle.rules_spec.specs.Capped.{capped, capped_amount}
use Rattle.rules_spec.specs.Carried.{hint_to}
use Rattle.rules_spec.specs.Faults.{Fault}
use Rattle.rules_spec.specs.Shape.{hints_at}
use Rattle.rules_walk.specs.declared.ask.Ask.{Ask}
use Rattle.rules_walk.specs.Asks.{asks_of}
use Rattle.rules_walk.specs.Place.{body_walked}
use Rattle.rules_plan.specs.declared.body.Body.{Body}
use Rattle.rules_plan.specs.Read.{body_of}
use Rattle.cert_check.specs.Finds.{hints_by}
use Rattle.cert_check.specs.Asking.{all_asks_of}
use Rattle.cert_check.specs.Judged.{after, in_turn}
use Rattle.cert_check.specs.Judging.{bodies_walked}

module _ (G : Known Amount) (mode : Mode) (bodies : List Body) (asks : List (Vec Ask Global)) (hints : List (Vec Told Global)) where
  abbrev pub heard_from : ℕ → Option Fault → Option Fault
  heard_from k v = after v (bodies_walked G mode k (map body_of (drop k bodies))
      (map (map (hint_to capped_amount)) (hints_by (all_asks_of (drop k asks)) (map a.hints_of (drop k hints)))))

  pub next_heard : (k : ℕ) (v : Option Fault) (b : Body) (x : Vec Ask Global) (h : Vec Told Global) →
      k < length bodies → k < length asks → k < length hints →
      heard_from (k + 1) (after v (body_walked capped G (body_of (slice_index_or bodies k b)).plan mode k
      (map (hint_to capped_amount) (hints_at (asks_of (slice_index_or asks k x).items) (map a.hint_of (slice_index_or hints k h).items)))).found)
      ≡ heard_from k v
  next_heard k v b x h lb lx lh =
      let n : k + 1 ≡ suc k = omega arith in
      let body = slice_index_or bodies k b in
      let hs = map (hint_to capped_amount) (hints_at (asks_of (slice_index_or asks k x).items) (map a.hint_of (slice_index_or hints k h).items)) in
      let first = (body_walked capped G (body_of body).plan mode k hs).found in
      ap (λ j. heard_from j (after v first)) n
      ∙ in_turn v first (bodies_walked G mode (suc k) (map body_of (drop (suc k) bodies))
      (map (map (hint_to capped_amount)) (hints_by (all_asks_of (drop (suc k) asks)) (map a.hints_of (drop (suc k) hints)))))
      ∙ (λ i. after v (bodies_walked G mode k (map body_of (sym (drop-cons bodies k b lb) i))
      (map (map (hint_to capped_amount)) (hints_by (all_asks_of (sym (drop-cons asks k x lx) i)) (map a.hints_of (sym (drop-cons hints k h lh) i))))))
