use Rattle.std.proofs.Common.{rules, Bool, sym, subst}
use Rattle.std.proofs.lemmas.List.Sorted.{IsNonDecreasingBy-from_sort_by_key}
use Rattle.std.proofs.lemmas.Result.{on_ok_weaker}
use Rattle.explain_profile.specs.Rows.{rank, work_in_all, AreArranged}
use Rattle.explain_profile.proofs.rows.arrange.Goals as goal

pub returns-then-is_sized : goal.returns-then-is_sized
returns-then-is_sized c =
    let old = c.args.rows.now.items in
    let new = c.sort_by_key.new.self.items in
    on_ok_weaker c.sort_by_key.result
    (λ sorted. subst (λ (is_sized : Bool). AreArranged is_sized old new) (sym c.if-is_sized.true) (record {
      same = c.sort_by_key.ensures.permutation;
      order = IsNonDecreasingBy-from_sort_by_key (λ row. rank (work_in_all row)) new sorted (λ a r q k. search rules);
    })) c.sort_by_key.ensures.sorted
