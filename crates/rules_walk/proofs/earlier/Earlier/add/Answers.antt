use Rattle.std.proofs.Common.{subst}
use Rattle.std.proofs.lemmas.Result.{on_ok_weaker}
use Rattle.call_groups.specs.Read.{ids_of}
use Rattle.cost_free.specs.Read.{kind_of}
use Rattle.annot_types.specs.Certificate.{sigs_of}
use Rattle.annot_types.specs.Read.{body_of, block_of}
use Rattle.rules_walk.specs.Grows.{Grows}
use Rattle.rules_walk.proofs.Remembering.{grown}
use Rattle.rules_walk.proofs.earlier.Earlier.add.Goals as goal

pub returns-clause-all : goal.returns-clause-all
returns-clause-all c = on_ok_weaker c.grow.result
    (λ g P earlier same fits h. let block = c.args.block.now in
    grown P c.args.degree earlier (block_of block) c.args.sizes.now c.args.self.now c.grow.new.self fits h
    (subst (λ fs. Grows fs c.args.sizes.now (sigs_of (body_of block.body)) c.args.degree (kind_of block.task.kind) c.args.self.now c.grow.new.self) same
    (subst (λ ss. Grows (ids_of c.args.functions.now) c.args.sizes.now ss c.args.degree (kind_of block.task.kind) c.args.self.now c.grow.new.self) c.sigs_of-sigs.ensures g)))
    c.grow.ensures.grows
