use Rattle.tests_potential.proofs.There.{pair_there, list_there, tree_there, option_there}
use Rattle.tests_potential.proofs.maps.opened.Goals as goal

pub split_pair-requires-clause-pair : goal.split_pair-requires-clause-pair
split_pair-requires-clause-pair c = (_, _, pair_there _ _ _ c.requires.there c.index-types-at.is _ _ c.in-Pair.is)

pub shift_list-requires-clause-list : goal.shift_list-requires-clause-list
shift_list-requires-clause-list c = (_, list_there _ _ _ c.requires.there c.index-types-at.is _ c.in-List.is)

pub shift_tree-requires-clause-tree : goal.shift_tree-requires-clause-tree
shift_tree-requires-clause-tree c = (_, tree_there _ _ _ c.requires.there c.index-types-at.is _ c.in-Tree.is)

pub shift_option-requires-clause-option : goal.shift_option-requires-clause-option
shift_option-requires-clause-option c = (_, option_there _ _ _ c.requires.there c.index-types-at.is _ c.in-Opt.is)
