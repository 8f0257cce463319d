-- The objects of `explain bounds --json`: of each function and meter one, on a line of its own.
use Rattle.std.specs.Prelude.{◌≡◌, ◌≢◌, ◌⊎◌, ℕ, ◌^◌, nat_le, cond, List, [], ◌∷◌, ◌++◌, map, unwrap_or, codes, decimal}
use Rattle.json.specs.Json.{Json, Members, null, number, string, object, member, no_members}
use Rattle.json.specs.Print.{print}
use Rattle.json.specs.Tree.{json_tokens}
use Rattle.raml_syntax.specs.Tree.{Text, Function, Prog}
use Rattle.base_poly.specs.Poly.{den_of, terms_of}
use Rattle.base_poly.specs.declared.tuple.Poly.{Poly}
use Rattle.cost_free.specs.declared.task.Meter.{Meter}
use Rattle.cost_free.specs.declared.task.Meter.TheVariants.{Ticks, Cells, Work}
use Rattle.report_text.specs.Names.{meter_text, name_at}
use Rattle.explain_json.specs.Terms.{terms_json}
use Rattle.explain_sizes.specs.Counts.{whole_at}
use Rattle.explain_sizes.specs.Open.{KeepsWithin}
use Rattle.explain_sizes.specs.declared.within.Within as sizes
use Rattle.explain_sizes.specs.declared.within.Within.TheVariants.{Any, UpTo, Never}
use Rattle.explain_at.specs.Words.{Given, given_for}
use Rattle.explain_at.specs.Asked.{all_names}
use Rattle.explain_at.specs.Read.{names_and_types}
use Rattle.explain_degrees.specs.declared.finding.Finding.{Finding}
use Rattle.explain_degrees.specs.declared.finding.Finding.TheVariants as finding
use Rattle.explain_degrees.specs.declared.finding.Findings.{Findings}
use Rattle.explain_bounds.specs.Told.{Told, Nothing, At, Within}

-- a member whose value is a text, or a number
abbrev pub named : Text → Text → Members → Members
named key text rest = member key (string text) rest

abbrev pub counted : Text → ℕ → Members → Members
counted key n rest = member key (number (decimal n)) rest

-- sizes by their names, `"l":100,"l.each":20`
abbrev pub sizes_members : List Given → Members
sizes_members [] = no_members
sizes_members (g ∷ gs) = counted g.0 g.1 (sizes_members gs)

-- the sizes of these names, with a number for those that were not given
abbrev pub filled : List Given → List Text → ℕ → List Given
filled gs names n = map (λ x. (x, unwrap_or (given_for x gs) n)) names

-- the value as a text, or null where it is greater
abbrev pub value_json : ℕ → Json
value_json n = cond (nat_le n (2 ^ 127)) (string (decimal n)) null

-- up to which sizes: these, `"any"`, or null where it is none
abbrev pub within_json : List Given → List Text → sizes.Within → Json
within_json gs names Any = string (codes "any")
within_json gs names (UpTo n) = object (sizes_members (filled gs names n))
within_json gs names Never = null

-- The members behind a bound of a meter, for parameters whose sizes have these names.
abbrev pub AreBehind : Told → List Text → Meter → Poly → Members → Type 0
AreBehind Nothing names meter poly members = members ≡ no_members
AreBehind (At gs ss) names meter poly members =
    members ≡ member (codes "at") (object (sizes_members gs)) (member (codes "value") (value_json (whole_at poly ss)) no_members)
AreBehind (Within one most gs os) names meter poly members =
    ((meter ≢ one) × (members ≡ no_members))
    ⊎ ((meter ≡ one) × (within : sizes.Within) × KeepsWithin poly os most within
    × (members ≡ named (codes "within") (decimal most) (member (codes "sizes") (within_json gs names within) no_members)))

-- no bound, up to this degree
abbrev pub unbounded : ℕ → Members → Members
unbounded d rest = counted (codes "degree") d (member (codes "bound") null rest)

-- the members that a finding has
abbrev pub HasMembers : Prog → Function → Told → Meter → Finding → Members → Type 0
HasMembers P g told meter (finding.Bound d poly) members =
    (behind : Members) × AreBehind told (all_names (names_and_types g.params)) meter poly behind
    × (members ≡ counted (codes "degree") d (member (codes "bound") (terms_json (den_of poly) (terms_of poly)) behind))
HasMembers P g told meter (finding.NoBound d) members = members ≡ unbounded d no_members
HasMembers P g told meter (finding.Calls d callee) members =
    members ≡ unbounded d (named (codes "calls") (name_at P callee.0) no_members)
HasMembers P g told meter finding.Refused members =
    members ≡ member (codes "degree") null (member (codes "bound") null no_members)

-- {"function":NAME,"meter":METER,..} on a line
pub record IsObject (P : Prog) (g : Function) (told : Told) (meter : Meter) (found : Finding) (line : Text) : Type 0 where
  pub members : Members
  pub has : HasMembers P g told meter found members
  pub is : line
      ≡ print (json_tokens (object (named (codes "function") g.name (named (codes "meter") (meter_text meter) members)))) ++ codes "\n"

-- those of a function: of ticks, of cells and of work
pub record AreObjects (P : Prog) (g : Function) (told : Told) (found : Findings) (text : Text) : Type 0 where
  pub ticks : Text
  pub cells : Text
  pub work : Text
  pub of_ticks : IsObject P g told Ticks found.ticks ticks
  pub of_cells : IsObject P g told Cells found.cells cells
  pub of_work : IsObject P g told Work found.work work
  pub are : text ≡ ticks ++ (cells ++ work)
