use Rattle.std.proofs.Common.{rules, ◌≡◌, refl, sym, ap, ◌∙◌, subst, arith, ℕ, pos, ◌<ℤ◌, ◌≤ℤ◌, take, ◌<◌, ◌≤◌, ◌+◌, length, get_or}
use Rattle.simplex_rows.specs.Entries.{at}
use Rattle.simplex.specs.Standing.{entries_at}
use Rattle.simplex.specs.Among.{Among}
use Rattle.simplex.specs.Ties.{IsBounding}
use Rattle.simplex.proofs.Rows.{Picked, picked_more, picked_same, number_read, among_at, among_take, among_taken, among_take_more, not_yet, greater, not_greater, is_bounding, not_bounding, bounding_all}
use Rattle.simplex.proofs.exiting.bounding.Goals.{then-eq+in_ok-push, else-eq}
use Rattle.simplex.proofs.exiting.bounding.Goals as goal

pub bounds-rows-row : goal.bounds-rows-row
bounds-rows-row c = c.requires.inside (get_or c.args.touching.now c.loop-row.row-index 0) (among_at c.args.touching.now c.loop-row.row-index 0 (omega arith))

pub offset_bounds-rows-row : goal.offset_bounds-rows-row
offset_bounds-rows-row c =
    let inside : get_or c.args.touching.now c.loop-row.row-index 0 < length c.args.rows.now = c.requires.inside (get_or c.args.touching.now c.loop-row.row-index 0) (among_at c.args.touching.now c.loop-row.row-index 0 (omega arith)) in
    search rules

pub loop-row-preserved : goal.loop-row-preserved
loop-row-preserved c =
    let k : ℕ = c.loop-row.row-index in
    let i : ℕ = get_or c.args.touching.now k 0 in
    let inside : i < length c.args.rows.now = c.requires.inside i (among_at c.args.touching.now k 0 (omega arith)) in
    let n : (at c.args.entering c.index-rows-row.result).num ≡ (at c.args.entering (entries_at c.args.rows.now i)).num = number_read c.args.entering c.args.rows.now i c.index-rows-row.result (at c.args.entering c.index-rows-row.result).num inside c.index-rows-row.is refl in
    let Q : ℕ → Type 0 = (λ j. Among j (take k c.args.touching.now)) in
    let R : ℕ → Type 0 = (λ j. Among j (take (k + 1) c.args.touching.now)) in
    elim c.if-eq.branch [
      | then-eq+in_ok-push w ↦
          let p : pos 0 <ℤ (at c.args.entering c.index-rows-row.result).num = greater (at c.args.entering c.index-rows-row.result).num c.sign_at.result c.sign_at.ensures w.if-eq.ensures in
          picked_more Q R (IsBounding c.args.entering c.args.rows.now) c.loop-row.all.items i c.loop-row.invariant (λ j a. among_take_more k c.args.touching.now j (omega arith) a) (λ j a. among_take k c.args.touching.now j (omega arith) a)
          c.if-eq.all.items (among_taken k c.args.touching.now (omega arith)) (not_yet k c.args.touching.now (omega arith) c.requires.differ) (is_bounding c.args.entering c.args.rows.now i (at c.args.entering c.index-rows-row.result).num inside n p) (ap (λ v. v.items) w.all-is ∙ w.in_ok-push.ensures.items)
      | else-eq w ↦
          let p : (at c.args.entering c.index-rows-row.result).num ≤ℤ pos 0 = not_greater (at c.args.entering c.index-rows-row.result).num c.sign_at.result c.sign_at.ensures w.if-eq.ensures in
          subst (Picked R (IsBounding c.args.entering c.args.rows.now)) (sym (ap (λ v. v.items) w.all-is)) (picked_same Q R (IsBounding c.args.entering c.args.rows.now) c.loop-row.all.items i c.loop-row.invariant (λ j a. among_take_more k c.args.touching.now j (omega arith) a) (λ j a. among_take k c.args.touching.now j (omega arith) a)
          (not_bounding c.args.entering c.args.rows.now i (at c.args.entering c.index-rows-row.result).num n p))
    ]

pub returns : goal.returns
returns c =
    let past : length c.args.touching.now ≤ c.loop-row.row-index = omega arith in
    bounding_all c.loop-row.row-index c.args.entering c.args.rows.now c.args.touching.now c.loop-row.all.items past c.requires c.loop-row.invariant
