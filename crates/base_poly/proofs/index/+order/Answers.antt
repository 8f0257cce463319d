use Rattle.base_poly.proofs.Many.{unit_first, pair_second, list_third, list_before_option, option_last}
use Rattle.base_poly.proofs.index.+order.Goals as goal

pub Index::order-returns-in-Pair-other-2 : goal.Index::order-returns-in-Pair-other-2
Index::order-returns-in-Pair-other-2 t c = unit_first _ _ c.in-Unit.is c.in-Pair-other.is

pub Index::order-returns-in-List-other : goal.Index::order-returns-in-List-other
Index::order-returns-in-List-other t c = pair_second _ _ (_, _, c.in-Pair.is) c.in-List-other.is

pub Index::order-returns-in-Unit-other-3 : goal.Index::order-returns-in-Unit-other-3
Index::order-returns-in-Unit-other-3 t c = list_third _ _ (_, c.in-List.is) c.in-Unit-other-3.is

pub Index::order-returns-in-Unit-other-3-2 : goal.Index::order-returns-in-Unit-other-3-2
Index::order-returns-in-Unit-other-3-2 t c = list_third _ _ (_, c.in-List.is) c.in-Unit-other-3.is

pub Index::order-returns-in-Opt : goal.Index::order-returns-in-Opt
Index::order-returns-in-Opt t c = list_before_option _ _ (_, c.in-List.is) (_, c.in-Opt.is)

pub Index::order-returns-in-Unit-other-4-3 : goal.Index::order-returns-in-Unit-other-4-3
Index::order-returns-in-Unit-other-4-3 t c = option_last _ _ (_, c.in-Opt-None.is) c.in-Unit-other-4.is

pub Index::order-returns-in-Unit-other-5-3 : goal.Index::order-returns-in-Unit-other-5-3
Index::order-returns-in-Unit-other-5-3 t c = option_last _ _ (_, c.in-Opt-Some.is) c.in-Unit-other-5.is
