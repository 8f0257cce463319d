-- Programs in which each round of a group of functions takes an entry of a list.
use Rattle.std.specs.Prelude.{◌≡◌, ℕ, List, [], ◌∷◌, true, string_bytes}
use Rattle.cost_free.specs.declared.task.Meter.TheVariants.{Ticks, Cells, Work}
use Rattle.raml_syntax.specs.Tree.{Text, Prog}
use Rattle.raml_parse.specs.Spelling.{HasTokens}
use Rattle.parse_table.specs.Tokens.{Token}
use Rattle.explain_edits.specs.Edits.{Edit, with_edits}
use Rattle.explain_lines.specs.Mended.{Line, has_bounds}
use Rattle.explain_lines.specs.Read.{lines_of}
use Rattle.explain_trials.specs.Read.{IsTrialOf}
use Rattle.explain_mending.specs.Mended.{findings_in}
use Rattle.explain_supply.specs.Names.{names_at, AreFresh}
use Rattle.explain_supply.specs.Insertions.{edits}
use Rattle.explain_supply.specs.declared.supplying.Supplied.{Supplied}

-- The edits are those by which each round of the group takes an entry of a list of this name. No token of the source is the name of
-- the list or of its entries.
pub record AreRoundEdits (source : Text) (P : Prog) (group : List ℕ) (name : Text) (made : List Edit) : Type 0 where
  pub tokens : List Token
  pub has : HasTokens source tokens
  pub number : ℕ
  pub named : name ≡ (names_at number).rounds
  pub fresh : AreFresh tokens (names_at number)
  pub are : made ≡ edits P group (names_at number) tokens

-- all lines of the functions of a group
abbrev pub group_lines : List ℕ → List Line
group_lines [] = []
group_lines (f ∷ group) =
    record { fun = f; meter = Ticks } ∷ record { fun = f; meter = Cells } ∷ record { fun = f; meter = Work } ∷ group_lines group

-- The source so edited spells a typed program, and analyses of it up to a degree find bounds of all functions of the group and all
-- meters.
pub record IsSupplied (source : Text) (P : Prog) (most : ℕ) (group : List ℕ) (supplied : Supplied) : Type 0 where
  pub made : List Edit
  pub rounds : AreRoundEdits source P group (string_bytes supplied.name) made
  pub text : supplied.trial.text.items ≡ with_edits source made
  pub analysed : IsTrialOf most supplied.trial
  pub lines : lines_of supplied.lines.items ≡ group_lines group
  pub bounds : has_bounds (findings_in supplied.trial) (group_lines group) ≡ true
