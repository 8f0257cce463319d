use Rattle.std.proofs.Common.{◌≡◌, true, [], ◌∷◌, sym, ◌∙◌, subst, rules}
use Rattle.raml_syntax.specs.Read.{ty_of}
use Rattle.index_shift.specs.Parts.{type_parts}
use Rattle.index_shift.specs.Maps.{opens}
use Rattle.index_shift.specs.Local.{IsLocal}
use Rattle.index_shift.specs.Lengths.{has_lengths}
use Rattle.index_shift.proofs.Alone.{opened_alone}
use Rattle.index_shift.proofs.Measured.{opened_lists}
use Rattle.index_shift.proofs.local.Local.opening.Goals as goal

pub returns-in_ok-lists_opened-clause-is : goal.returns-in_ok-lists_opened-clause-is
returns-in_ok-lists_opened-clause-is c =
    let T = ty_of c.args.ty.now in
    let is : has_lengths T ≡ true = search rules in
    subst (IsLocal (opens T) (T ∷ []) (type_parts T) c.args.d) (sym (c.in_ok-lists_opened.ensures ∙ opened_lists T c.args.d is c.requires.low)) (opened_alone T c.args.d)
