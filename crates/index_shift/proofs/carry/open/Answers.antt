use Rattle.std.proofs.Common.{◌≡◌, List, ℕ, [], ◌∷◌, map, ap, ◌∙◌}
use Rattle.std.proofs.lemmas.Result.{IfOk-weaker}
use Rattle.raml_syntax.specs.Read.{ty_of}
use Rattle.base_poly.specs.Plain.{Plain}
use Rattle.base_poly.specs.Read.{index_of}
use Rattle.index_shift.specs.Maps.{opens}
use Rattle.index_shift.proofs.Alone.{alone_too}
use Rattle.index_shift.proofs.carry.open.Goals as goal

pub returns : goal.returns
returns c =
    IfOk-weaker c.each_once.result _ (λ found. found.items ≡ opens (ty_of c.args.ty.now) (index_of c.args.index.now ∷ []))
    (λ found h. h ∙ ap (map {A = List Plain} {B = List Plain × ℕ} (λ t. (t, 1))) c.in_ok-parts.ensures ∙ alone_too _) c.each_once.ensures
