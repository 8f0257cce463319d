-- What sites and scopes are as plain data.
use Rattle.std.specs.Prelude.{ℕ, ◌≡◌, List, [], ◌∷◌, ◌++◌, Option, map}
use Rattle.std.specs.Option.{option_map}
use Rattle.std.specs.Borrow.{Bor}
use Rattle.raml_syntax.specs.Tree as t
use Rattle.raml_syntax.specs.Tree.{Type'}
use Rattle.raml_syntax.specs.Read.{ty_of, program_of}
use Rattle.raml_syntax.specs.declared.ty.Ty.{Ty}
use Rattle.explain_changes.specs.Built as b
use Rattle.explain_changes.specs.Scope as s
use Rattle.explain_changes.specs.Sites as p
use Rattle.explain_changes.specs.declared.built.Built.{Built}
use Rattle.explain_changes.specs.declared.built.Built.TheVariants as d
use Rattle.explain_changes.specs.declared.scope.Scope.{Scope}
use Rattle.explain_changes.specs.declared.scope.Scope.TheOpen as o
use Rattle.explain_changes.specs.declared.scope.Scope.TheFolds.{fold-Scope}
use Rattle.explain_changes.specs.declared.site.Site.{Site}
use Rattle.explain_changes.specs.declared.uses.Place.{Place}
use Rattle.explain_changes.specs.declared.compare.Changing.{Changing}

abbrev pub built_of : Built → b.Built
built_of d.Nil = b.Nil
built_of d.Leaf = b.Leaf
built_of d.Nothing = b.Nothing
built_of (d.Pair x y) = b.Pair x.now y.now
built_of (d.Cons x y) = b.Cons x.now y.now
built_of (d.Node x y z) = b.Node x.now y.now z.now
built_of (d.Just x) = b.Just x.now

-- a type that is lent
abbrev pub lent : Option (Bor Ty) → Option Type'
lent = option_map (λ (ty : Bor Ty). ty_of ty.now)

abbrev pub scope_step : o.Scope-F s.Scope → s.Scope
scope_step o.Empty = []
scope_step (o.Bound name ty outer) = s.Bound name.now (lent ty) ∷ outer.now
scope_step (o.Apart variable built outer) = s.Apart variable.now (built_of built) ∷ outer.now

abbrev pub scope_in : Scope → s.Scope
scope_in = fold-Scope s.Scope scope_step

abbrev pub site_of : Site → p.Site
site_of s = record { at = s.at.0; function = s.function.now; variable = s.variable.now; built = built_of s.built }

abbrev pub sites_of : List Site → List p.Site
sites_of = map site_of

-- the sites are there, behind others
abbrev pub Adds : List Site → List Site → List p.Site → Type 0
Adds old new sites = sites_of new ≡ sites_of old ++ sites

-- the sites of an expression where it stands
abbrev pub sites_at : Place → t.Term → List p.Site
sites_at place e = p.sites (program_of place.program.now) place.function.now (scope_in place.scope.now) e

-- the bytes of sites
abbrev pub bytes_of : List Site → List ℕ
bytes_of = map (λ (s : Site). s.at.0)

-- the changed expression where it stands
abbrev pub changed_at : Changing → t.Term → t.Term
changed_at place e = p.changed (program_of place.program.now) (bytes_of place.chosen.now) (scope_in place.scope.now) e
