use Rattle.std.proofs.Common.{rules, ◌≡◌, sym, subst, arith, ℕ, pos, ◌<ℤ◌, ◌<◌, ◌≤◌, length, get_or, take, List}
use Rattle.frac128.specs.Values.{IsQuotient}
use Rattle.simplex_rows.specs.Entries.{Entries, at, QuotientLeaves}
use Rattle.simplex.specs.declared.fault.Fault.{Fault}
use Rattle.simplex.specs.Standing.{entries_at}
use Rattle.simplex.specs.Among.{Among}
use Rattle.simplex.specs.Ties.{IsBounding, AreTied, RatioLeaves}
use Rattle.simplex.proofs.Rows.{row_is, take_more, take_whole, among_at}
use Rattle.simplex.proofs.Tying.{tied_more}
use Rattle.simplex.proofs.exiting.ties.Goals as goal

pub bounds-rows-row : goal.bounds-rows-row
bounds-rows-row c = (c.requires (get_or c.args.among.now c.loop-row.row-index 0) (among_at c.args.among.now c.loop-row.row-index 0 (omega arith))).inside

pub offset_bounds-rows-row : goal.offset_bounds-rows-row
offset_bounds-rows-row c =
    let inside : get_or c.args.among.now c.loop-row.row-index 0 < length c.args.rows.now = (c.requires (get_or c.args.among.now c.loop-row.row-index 0) (among_at c.args.among.now c.loop-row.row-index 0 (omega arith))).inside in
    search rules

pub ratio-requires : goal.ratio-requires
ratio-requires c =
    let i : ℕ = get_or c.args.among.now c.loop-row.row-index 0 in
    let b : IsBounding c.args.entering c.args.rows.now i = c.requires i (among_at c.args.among.now c.loop-row.row-index 0 (omega arith)) in
    subst (λ (es : Entries). pos 0 <ℤ (at c.args.entering es).num) (sym (row_is c.args.rows.now i c.index-rows-row.result b.inside c.index-rows-row.is)) b.positive

pub returns-in-None-clause-leaves : goal.returns-in-None-clause-leaves
returns-in-None-clause-leaves c j k e =
    let i : ℕ = get_or c.args.among.now c.loop-row.row-index 0 in
    let a : Among i c.args.among.now = among_at c.args.among.now c.loop-row.row-index 0 (omega arith) in
    let b : IsBounding c.args.entering c.args.rows.now i = c.requires i a in
    let row : c.index-rows-row.result ≡ entries_at c.args.rows.now i = row_is c.args.rows.now i c.index-rows-row.result b.inside c.index-rows-row.is in
    let same : Fault.Leaves i c.args.column ≡ Fault.Leaves j k = cc in
    let first : i ≡ j = cc in
    let second : c.args.column ≡ k = cc in
    subst (λ (z : ℕ). RatioLeaves c.args.entering c.args.column c.args.rows.now c.args.among.now z k) first
    (record {
      is_among = a;
      at_column = sym second;
      leaves = subst (λ (z : ℕ). QuotientLeaves (at z (entries_at c.args.rows.now i)) (at c.args.entering (entries_at c.args.rows.now i))) second
          (subst (λ (es : Entries). QuotientLeaves (at c.args.column es) (at c.args.entering es)) row c.in-None.ensures);
    })

pub loop-row-preserved : goal.loop-row-preserved
loop-row-preserved c =
    let i : ℕ = get_or c.args.among.now c.loop-row.row-index 0 in
    let b : IsBounding c.args.entering c.args.rows.now i = c.requires i (among_at c.args.among.now c.loop-row.row-index 0 (omega arith)) in
    let row : c.index-rows-row.result ≡ entries_at c.args.rows.now i = row_is c.args.rows.now i c.index-rows-row.result b.inside c.index-rows-row.is in
    subst (λ (is : List ℕ). AreTied c.args.entering c.args.column c.args.rows.now is c.keep.new.tied.items c.keep.new.least) (sym (take_more c.args.among.now c.loop-row.row-index 0 (omega arith)))
    (tied_more c.args.entering c.args.column c.args.rows.now (take c.loop-row.row-index c.args.among.now) c.loop-row.tied.items c.loop-row.least i c.in-Some.ratio c.keep.new.tied.items c.keep.new.least c.loop-row.invariant
    (subst (λ (es : Entries). IsQuotient (at c.args.column es) (at c.args.entering es) c.in-Some.ratio) row c.in-Some.ensures) c.in_ok-keep-in-Some.ensures)

pub returns-clause-tied : goal.returns-clause-tied
returns-clause-tied c =
    let past : length c.args.among.now ≤ c.loop-row.row-index = omega arith in
    (c.loop-row.least, subst (λ (is : List ℕ). AreTied c.args.entering c.args.column c.args.rows.now is c.loop-row.tied.items c.loop-row.least) (take_whole c.loop-row.row-index c.args.among.now past) c.loop-row.invariant)
