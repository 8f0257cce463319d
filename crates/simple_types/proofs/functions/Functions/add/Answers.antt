use Rattle.std.proofs.Common.{◌≡◌, ◌∙◌, None, sym, ap, Bor}
use Rattle.std.specs.Option.{option_map}
use Rattle.std.specs.Str.{bytes_eq}
use Rattle.std.proofs.lemmas.Map.Text.{hash_map_updates_str}
use Rattle.indexmap.specs.IndexMap.{get_by}
use Rattle.raml_syntax.specs.Tree.{Text}
use Rattle.simple_types.specs.Scope.{sig_of}
use Rattle.simple_types.proofs.Signed.{signed_is}
use Rattle.simple_types.proofs.functions.Functions.add.Goals as goal

pub returns-in-Ok-None-clause-signed : goal.returns-in-Ok-None-clause-signed
returns-in-Ok-None-clause-signed c h f =
    let found = λ (g : Text). get_by (λ (k : Bor Text). bytes_eq g k.now) c.args.self.now.signatures in
    let none : found c.args.name.now ≡ None = sym c.in-Ok-None.ensures.old ∙ c.in-Ok-None.field-0-is in
    ap (option_map sig_of) (hash_map_updates_str c.args.name.now c.args.self.now.signatures c.insert.new.self _ c.in-Ok-None.ensures.updates f)
    ∙ signed_is sig_of found c.args.name.now c.args.signature none f
