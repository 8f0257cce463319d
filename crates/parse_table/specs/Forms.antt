-- The rules of the forms that the code tells apart.
use Rattle.std.specs.Prelude.{ℕ, List}
use Rattle.parse_spec.specs.Rules.{Done, Sub}
use Rattle.parse_table.specs.Table.{Part, Rules, Exprs, int_act, bool_act, inner_type_rule, list_act, tree_act, option_act, number_act}
use Rattle.parse_table.specs.Table.{truth_act, nil_act, leaf_act, none_act, name_rule, node_rule, some_rule, not_rule, parens_rule}
use Rattle.parse_table.specs.Table.{let_rule, if_rule, match_rule, tick_rule, arith_act, compare_act, cons_act}
use Rattle.raml_syntax.specs.declared.tree.ArithOp.{ArithOp}
use Rattle.raml_syntax.specs.declared.tree.ArithOp.TheVariants as op
use Rattle.parse_table.specs.declared.form.TypeStart.{TypeStart}
use Rattle.parse_table.specs.declared.form.TypeStart.TheVariants as b
use Rattle.parse_table.specs.declared.form.Suffix.{Suffix}
use Rattle.parse_table.specs.declared.form.Suffix.TheVariants as f
use Rattle.parse_table.specs.declared.form.Simple.{Simple}
use Rattle.parse_table.specs.declared.form.Simple.TheVariants as a
use Rattle.parse_table.specs.declared.form.Compound.{Compound}
use Rattle.parse_table.specs.declared.form.Compound.TheVariants as c
use Rattle.parse_table.specs.declared.form.Start.{Start}
use Rattle.parse_table.specs.declared.form.Start.TheVariants as s
use Rattle.parse_table.specs.declared.form.Infix.{Infix}
use Rattle.parse_table.specs.declared.form.Infix.TheVariants as i

abbrev pub type_rule : TypeStart → Rules
type_rule b.Int = Done int_act
type_rule b.Bool = Done bool_act
type_rule b.Parens = inner_type_rule

abbrev pub type_form : TypeStart → ℕ × Rules
type_form x = (0, type_rule x)

abbrev pub suffix_act : Suffix → List Part → Part
suffix_act f.List = list_act
suffix_act f.Tree = tree_act
suffix_act f.Option = option_act

abbrev pub suffix_rule : Suffix → Rules
suffix_rule x = Done (suffix_act x)

abbrev pub simple_rule : Simple → Rules
simple_rule (a.Name x) = name_rule x.now
simple_rule (a.Number n) = Done (number_act n)
simple_rule (a.Truth b) = Done (truth_act b)
simple_rule a.Nil = Done nil_act
simple_rule a.Leaf = Done leaf_act
simple_rule a.Nothing = Done none_act

abbrev pub compound_rule : Compound → Rules
compound_rule c.Node = node_rule
compound_rule c.Just = some_rule
compound_rule c.Not = not_rule
compound_rule c.Parens = parens_rule
compound_rule c.Let = let_rule
compound_rule c.If = if_rule
compound_rule c.Match = match_rule
compound_rule c.Tick = tick_rule

abbrev pub compound_level : Compound → ℕ
compound_level c.Node = 0
compound_level c.Just = 0
compound_level c.Not = 0
compound_level c.Parens = 0
compound_level c.Let = 4
compound_level c.If = 4
compound_level c.Match = 4
compound_level c.Tick = 4

abbrev pub start_form : Start → ℕ × Rules
start_form (s.Simple x) = (0, simple_rule x)
start_form (s.Compound x) = (compound_level x, compound_rule x)

abbrev pub start_rule : Start → Rules
start_rule x = (start_form x).1

abbrev pub arith_level : ArithOp → ℕ
arith_level op.Mul = 0
arith_level op.Div = 0
arith_level op.Mod = 0
arith_level op.Add = 1
arith_level op.Sub = 1

abbrev pub infix_level : Infix → ℕ
infix_level (i.Arith o) = arith_level o
infix_level i.Cons = 2
infix_level (i.Compare o) = 3

-- the level of the right operand
abbrev pub right_level : Infix → ℕ
right_level (i.Arith o) = arith_level o
right_level i.Cons = 3
right_level (i.Compare o) = 3

abbrev pub infix_act : Infix → List Part → Part
infix_act (i.Arith o) = arith_act o
infix_act i.Cons = cons_act
infix_act (i.Compare o) = compare_act o

abbrev pub infix_rule : Infix → Rules
infix_rule x = Sub Exprs (right_level x) (Done (infix_act x))

abbrev pub infix_form : Infix → ℕ × Rules
infix_form x = (infix_level x, infix_rule x)
