use Rattle.value_text.proofs.Turning.{pair_turned, node_turned, just_turned}
use Rattle.value_text.proofs.taking.turn.Goals as goal

pub returns-in_ok-make_pair-in-Pair-clause-turned :
    goal.returns-in_ok-make_pair-in-Pair-clause-turned
returns-in_ok-make_pair-in-Pair-clause-turned c = pair_turned c.args.goal _ _ _ _ _ c.in-Pair.is c.requires.fits c.in_ok-make_pair-in-Pair.ensures.value

pub returns-in_ok-make_node-in-Node-clause-turned :
    goal.returns-in_ok-make_node-in-Node-clause-turned
returns-in_ok-make_node-in-Node-clause-turned c = node_turned c.args.goal _ _ _ _ _ c.in-Node.is c.requires.fits c.in_ok-make_node-in-Node.ensures.value

pub returns-in_ok-make_just-in-Just-clause-turned :
    goal.returns-in_ok-make_just-in-Just-clause-turned
returns-in_ok-make_just-in-Just-clause-turned c = just_turned c.args.goal _ _ _ _ _ c.in-Just.is c.requires.fits c.in_ok-make_just-in-Just.ensures.value
