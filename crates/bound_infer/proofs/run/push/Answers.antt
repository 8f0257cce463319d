use Rattle.std.proofs.Common.{◌≡◌, ◌++◌, ◌∷◌, [], sym, ap, ◌∙◌, subst}
use Rattle.std.proofs.lemmas.List.{map-append}
use Rattle.annot_types.specs.Read.{block_of, blocks_of}
use Rattle.cert_check.specs.Course.{HasCome}
use Rattle.bound_infer.specs.Raised.{EachFits}
use Rattle.bound_infer.specs.Keeping.{first_of}
use Rattle.bound_infer.proofs.Staying.{one_more_fits}
use Rattle.bound_infer.proofs.run.push.Goals as goal

pub returns-clause-keeps : goal.returns-clause-keeps
returns-clause-keeps c =
    let run = c.args.run.now in
    let bs = blocks_of run.blocks.items in
    let b = block_of c.args.block in
    let is : blocks_of c.push.new.self.items ≡ bs ++ b ∷ [] = ap blocks_of c.in_ok-push.ensures.items ∙ map-append block_of run.blocks.items (c.args.block ∷ []) in
    record {
      come = subst (λ bs. HasCome c.args.program.now (first_of c.args.d) bs c.note.new.schedule c.note.new.earlier) (sym is)
          (c.in_ok-note.ensures bs c.requires.keeps.come c.requires.next c.requires.sizes);
      fit = subst EachFits (sym is) (one_more_fits bs b c.requires.keeps.fit c.body_fits.ensures);
    }
