use Rattle.std.proofs.Common.{◌≡◌, true, [], ◌∷◌, sym, ◌∙◌, subst, rules}
use Rattle.raml_syntax.specs.Read.{ty_of}
use Rattle.index_shift.specs.Maps.{leaves}
use Rattle.index_shift.specs.Local.{IsLocal}
use Rattle.index_shift.specs.Lengths.{has_lengths}
use Rattle.index_shift.proofs.Alone.{left_alone}
use Rattle.index_shift.proofs.Measured.{left_lists}
use Rattle.index_shift.proofs.local.Local.leaving.Goals as goal

pub returns-in_ok-lists_left-clause-is : goal.returns-in_ok-lists_left-clause-is
returns-in_ok-lists_left-clause-is c =
    let T = ty_of c.args.ty.now in
    let is : has_lengths T ≡ true = search rules in
    subst (IsLocal leaves (T ∷ []) [] c.args.d) (sym (c.in_ok-lists_left.ensures ∙ left_lists T c.args.d is c.requires.low)) (left_alone T c.args.d)
