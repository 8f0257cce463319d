use Rattle.std.proofs.Common.{rules, ◌≡◌, refl, sym, subst, arith, ℕ, pos, ◌<ℤ◌, ◌<◌, ◌-◌, length, get_or}
use Rattle.simplex_spec.specs.Places.{counted}
use Rattle.frac128.specs.Values.{IsQuotient}
use Rattle.simplex_rows.specs.Entries.{Entries, at, QuotientLeaves}
use Rattle.simplex.specs.declared.fault.Fault.{Fault}
use Rattle.simplex.specs.Standing.{entries_at}
use Rattle.simplex.specs.Among.{Among}
use Rattle.simplex.specs.Ties.{IsBounding, RatioLeaves, columns_to}
use Rattle.simplex.proofs.Alone.{only_exits}
use Rattle.simplex.proofs.Narrowing.{first_among, search_first}
use Rattle.simplex.proofs.Rows.{row_is}
use Rattle.simplex.proofs.exiting.alone.Goals as goal

pub bounds-rows-row : goal.bounds-rows-row
bounds-rows-row c = (c.requires.bounding.only (get_or c.args.all.now 0 0) (first_among c.args.all.now 0 (let n = c.requires.one in omega arith))).inside

pub offset_bounds-rows-row : goal.offset_bounds-rows-row
offset_bounds-rows-row c =
    let inside : get_or c.args.all.now 0 0 < length c.args.rows.now = (c.requires.bounding.only (get_or c.args.all.now 0 0) (first_among c.args.all.now 0 (let n = c.requires.one in omega arith))).inside in
    search rules

pub ratio-requires : goal.ratio-requires
ratio-requires c =
    let i : ℕ = get_or c.args.all.now 0 0 in
    let b : IsBounding c.args.entering c.args.rows.now i = c.requires.bounding.only i (first_among c.args.all.now 0 (let n = c.requires.one in omega arith)) in
    subst (λ (es : Entries). pos 0 <ℤ (at c.args.entering es).num) (sym (row_is c.args.rows.now i c.index-rows-row.result b.inside c.index-rows-row.is)) b.positive

pub returns-in-Some-clause-row : goal.returns-in-Some-clause-row
returns-in-Some-clause-row c =
    let i : ℕ = get_or c.args.all.now 0 0 in
    let b : IsBounding c.args.entering c.args.rows.now i = c.requires.bounding.only i (first_among c.args.all.now 0 (let n = c.requires.one in omega arith)) in
    let row : c.index-rows-row.result ≡ entries_at c.args.rows.now i = row_is c.args.rows.now i c.index-rows-row.result b.inside c.index-rows-row.is in
    only_exits c.args.right c.args.slack c.args.entering c.args.rows.now c.args.all.now 0 c.in-Some.field-0 c.requires.order c.requires.bounding c.requires.one
    (subst (λ (es : Entries). IsQuotient (at c.args.right es) (at c.args.entering es) c.in-Some.field-0) row c.in-Some.ensures)

pub returns-in-None-clause-leaves : goal.returns-in-None-clause-leaves
returns-in-None-clause-leaves c j k e =
    let i : ℕ = get_or c.args.all.now 0 0 in
    let a : Among i c.args.all.now = first_among c.args.all.now 0 (let n = c.requires.one in omega arith) in
    let b : IsBounding c.args.entering c.args.rows.now i = c.requires.bounding.only i a in
    let row : c.index-rows-row.result ≡ entries_at c.args.rows.now i = row_is c.args.rows.now i c.index-rows-row.result b.inside c.index-rows-row.is in
    let same : Fault.Leaves i c.args.right ≡ Fault.Leaves j k = cc in
    let first : i ≡ j = cc in
    let second : c.args.right ≡ k = cc in
    search_first (columns_to c.args.right c.args.slack c.args.right) (counted c.args.slack (c.args.right - c.args.slack)) c.args.right c.args.entering c.args.rows.now c.args.all.now j k refl c.requires.bounding
    (subst (λ (z : ℕ). RatioLeaves c.args.entering c.args.right c.args.rows.now c.args.all.now z k) first
    (record {
      is_among = a;
      at_column = sym second;
      leaves = subst (λ (z : ℕ). QuotientLeaves (at z (entries_at c.args.rows.now i)) (at c.args.entering (entries_at c.args.rows.now i))) second
          (subst (λ (es : Entries). QuotientLeaves (at c.args.right es) (at c.args.entering es)) row c.in-None.ensures);
    }))
