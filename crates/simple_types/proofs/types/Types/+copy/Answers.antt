use Rattle.std.proofs.Common.{◌≡◌, ◌∙◌, IfOk, sym, ap, subst}
use Rattle.raml_syntax.specs.Tree.{Type', Integer}
use Rattle.raml_syntax.specs.Read.{ty_of, ty_step}
use Rattle.raml_syntax.specs.declared.ty.Ty.TheVariants.{Int, rolls-Int}
use Rattle.raml_syntax.specs.declared.ty.Ty.TheOpen as o
use Rattle.raml_syntax.specs.declared.ty.Ty.TheFolds.{fold-roll-Ty}
use Rattle.simple_types.proofs.Tables.{made_here, among_before, among_past}
use Rattle.simple_types.proofs.types.Types.+copy.Goals as goal

pub copy_part-returns-then-part-whole : goal.copy_part-returns-then-part-whole
copy_part-returns-then-part-whole t c =
    let table = c.args.self.now.nodes.keys in
    subst (λ (A : Type'). IfOk c.copy.result (λ ty. ty_of ty ≡ A)) (sym (made_here table c.args.part) ∙ sym (among_before table c.args.whole c.args.part c.if-part-whole.true)) c.copy.ensures

pub copy_part-returns-else-part-whole : goal.copy_part-returns-else-part-whole
copy_part-returns-else-part-whole t c =
    let int : ty_of Int ≡ Integer = ap ty_of (sym rolls-Int) ∙ fold-roll-Ty Type' ty_step o.Int in
    let past = among_past c.args.self.now.nodes.keys c.args.whole c.args.part c.if-part-whole.false in
    subst (λ (A : Type'). ty_of Int ≡ A) (sym past) int
