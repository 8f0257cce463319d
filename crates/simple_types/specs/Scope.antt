-- What scopes and signatures are as plain data.
use Rattle.std.specs.Prelude.{[], ◌∷◌}
use Rattle.std.specs.Option.{option_map}
use Rattle.std.specs.Borrow.{Bor}
use Rattle.std.specs.Str.{bytes_eq}
use Rattle.indexmap.specs.IndexMap.{get_by}
use Rattle.raml_syntax.specs.Tree.{Text}
use Rattle.simple_types.specs.Numbered.{Ids, Sig, Sigs}
use Rattle.simple_types.specs.declared.functions.Signature.{Signature}
use Rattle.simple_types.specs.declared.functions.Functions.{Functions}
use Rattle.simple_types.specs.declared.scope.Scope.{Scope}
use Rattle.simple_types.specs.declared.scope.Scope.TheOpen as s
use Rattle.simple_types.specs.declared.scope.Scope.TheFolds.{fold-Scope}

abbrev pub scope_step : s.Scope-F Ids → Ids
scope_step s.Empty = []
scope_step (s.Bound name ty outer) = (name.now, ty) ∷ outer.now

abbrev pub ids_of : Scope → Ids
ids_of = fold-Scope Ids scope_step

abbrev pub sig_of : Signature → Sig
sig_of s = (s.params.items, s.result)

abbrev pub sigs_of : Functions → Sigs
sigs_of fs f = option_map sig_of (get_by (λ (k : Bor Text). bytes_eq f k.now) fs.signatures)
