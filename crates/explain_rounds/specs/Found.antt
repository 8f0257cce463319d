-- What the code finds of calls that get the same part, as plain data.
use Rattle.std.specs.Prelude.{ℕ, List, [], map, Option}
use Rattle.std.specs.Option.{option_map}
use Rattle.raml_syntax.specs.Tree as t
use Rattle.raml_syntax.specs.Tree.{Bound, Parameter}
use Rattle.raml_syntax.specs.declared.tree.Pos.{Pos}
use Rattle.call_groups.specs.Read.{ids_of}
use Rattle.explain_rounds.specs.Classes.{Class, bind, bind_parameters}
use Rattle.explain_rounds.specs.Twice as w
use Rattle.explain_rounds.specs.Twice.{Handed, TwoCalls, handed_by, found_in, found_in_all}
use Rattle.explain_rounds.specs.Read.{program_in, variables_at}
use Rattle.explain_rounds.specs.declared.calls.Env.{Env}
use Rattle.explain_rounds.specs.declared.handed.SamePart.{SamePart}
use Rattle.explain_rounds.specs.declared.twice.Found.{Found}

abbrev pub place_in : Option Pos → Option ℕ
place_in = option_map (λ (p : Pos). p.0)

abbrev pub plain_pair : SamePart → TwoCalls
plain_pair c = record { first = c.first.0; second = c.second.0; part = c.part.0 }

abbrev pub pairs_of : List SamePart → List TwoCalls
pairs_of cs = map plain_pair cs

abbrev pub handed_at : Env → ℕ → t.Terms → Option ℕ → List Handed
handed_at env = handed_by (program_in env) (ids_of env.group.now) (variables_at env)

-- a call without its arguments
abbrev pub call_found : Env → ℕ → t.Terms → Option ℕ → w.Found
call_found env p args f = record { handed = handed_at env p args f; pairs = [] }

abbrev pub found_by : Env → t.Term → w.Found
found_by env = found_in (program_in env) (ids_of env.group.now) (variables_at env)

abbrev pub all_found_by : Env → t.Terms → w.Found
all_found_by env = found_in_all (program_in env) (ids_of env.group.now) (variables_at env)

abbrev pub found_below : Env → Class → List Bound → t.Term → w.Found
found_below env c xs = found_in (program_in env) (ids_of env.group.now) (bind c xs (variables_at env))

abbrev pub body_found_by : Env → List Parameter → t.Term → w.Found
body_found_by env params = found_in (program_in env) (ids_of env.group.now) (bind_parameters params (variables_at env))

abbrev pub found_of : Found → w.Found
found_of found = record { handed = found.handed.items; pairs = pairs_of found.pairs.items }
