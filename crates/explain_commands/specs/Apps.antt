-- The commands as `clap` has them.
use Rattle.std.specs.Prelude.{◌≡◌, true, false, Some, codes}
use Rattle.clap.specs.Lexer.{usize_max}
use Rattle.clap.specs.Walk.{Rule, Text, rule_of}
use Rattle.clap.specs.Simple.{App, new_app, new_rule, with_rule, with_subcommand, on_top}
use Rattle.clap.specs.declared.builder.arg.Arg.{Arg}
use Rattle.clap.specs.declared.builder.action.ArgAction.TheVariants.{Append, SetTrue}

-- an argument with this rule, which is that of one command
abbrev pub IsArg : Rule → Arg → Type 0
IsArg rule arg = (rule_of arg ≡ rule) × (arg.global ≡ false)

-- an operand that must be there
abbrev pub operand_rule : Text → Rule
operand_rule id = record (new_rule id) {
  value_names = 1;
  required = true;
}

-- an operand that may be left out
abbrev pub perhaps_rule : Text → Rule
perhaps_rule id = record (new_rule id) { value_names = 1 }

-- an option with one value, by its long name
abbrev pub option_rule : Text → Rule
option_rule id = record (new_rule id) {
  long = Some id;
  value_names = 1;
}

-- an option that is there or not
abbrev pub flag_rule : Text → Rule
flag_rule id = record (new_rule id) {
  long = Some id;
  action = Some SetTrue;
}

-- one file or more
abbrev pub files_rule : Rule
files_rule = record (new_rule (codes "file")) {
  action = Some Append;
  range = Some (record { start_inclusive = 1; end_inclusive = usize_max });
  value_names = 1;
  required = true;
}

-- `--data` with two values
abbrev pub data_rule : Rule
data_rule = record (new_rule (codes "data")) {
  long = Some (codes "data");
  range = Some (record { start_inclusive = 2; end_inclusive = 2 });
  value_names = 2;
}

abbrev pub check_app : App
check_app = with_rule (with_rule (new_app (codes "check")) files_rule) data_rule

-- how the bounds of a program are asked for, and at which sizes
abbrev pub bounds_chosen : App
bounds_chosen =
    with_rule (with_rule (with_rule (new_app (codes "bounds")) (operand_rule (codes "file")))
    (option_rule (codes "degree"))) (option_rule (codes "function"))

abbrev pub bounds_sized : App
bounds_sized = with_rule (with_rule bounds_chosen (option_rule (codes "at"))) (option_rule (codes "within"))

abbrev pub bounds_app : App
bounds_app = with_rule (with_rule bounds_sized (option_rule (codes "width"))) (flag_rule (codes "json"))

-- the file of bounds is an operand, or it is to be written
abbrev pub budget_files : App
budget_files =
    with_rule (with_rule (with_rule (new_app (codes "budget")) (operand_rule (codes "file")))
    (perhaps_rule (codes "bounds"))) (option_rule (codes "write"))

abbrev pub budget_app : App
budget_app =
    with_rule (with_rule (with_rule budget_files (option_rule (codes "degree")))
    (flag_rule (codes "json"))) (flag_rule (codes "force"))

abbrev pub verify_app : App
verify_app = with_rule (with_rule (new_app (codes "verify")) (operand_rule (codes "file"))) (operand_rule (codes "certificate"))

abbrev pub why_file : App
why_file = with_rule (new_app (codes "why")) (operand_rule (codes "file"))

-- what is asked about
abbrev pub why_chosen : App
why_chosen =
    with_rule (with_rule (with_rule why_file (option_rule (codes "degree"))) (option_rule (codes "function"))) (option_rule (codes "meter"))

abbrev pub why_app : App
why_app = with_rule (with_rule why_chosen (option_rule (codes "write"))) (flag_rule (codes "force"))

-- an option with one value that must be there, by its long name
abbrev pub needed_rule : Text → Rule
needed_rule id = record (option_rule id) { required = true }

-- `-o` or `--output`, which must be there
abbrev pub output_rule : Rule
output_rule = record (needed_rule (codes "output")) { short = Some 111 }

-- `--data` with one file or more
abbrev pub given_rule : Rule
given_rule = record (new_rule (codes "data")) {
  long = Some (codes "data");
  range = Some (record { start_inclusive = 1; end_inclusive = usize_max });
  value_names = 1;
}

-- what is run
abbrev pub plot_run : App
plot_run = with_rule (with_rule (new_app (codes "plot")) (operand_rule (codes "file"))) (operand_rule (codes "name"))

-- on which arguments
abbrev pub plot_made : App
plot_made = with_rule (with_rule plot_run (option_rule (codes "sizes"))) (option_rule (codes "seed"))

abbrev pub plot_given : App
plot_given = with_rule (with_rule plot_made given_rule) (option_rule (codes "of"))

-- what is drawn
abbrev pub plot_chosen : App
plot_chosen = with_rule (with_rule plot_given (option_rule (codes "degree"))) (option_rule (codes "meter"))

abbrev pub plot_app : App
plot_app = with_rule (with_rule plot_chosen output_rule) (flag_rule (codes "force"))

abbrev pub profile_file : App
profile_file = with_rule (new_app (codes "profile")) (operand_rule (codes "file"))

abbrev pub profile_app : App
profile_app =
    with_rule (with_rule (with_rule profile_file (option_rule (codes "function"))) (option_rule (codes "degree"))) (option_rule (codes "at"))

abbrev pub lsp_app : App
lsp_app =
    with_rule (with_rule (with_rule (new_app (codes "lsp")) (option_rule (codes "degree"))) (option_rule (codes "budget"))) (option_rule (codes "log"))

-- the program before it has commands
abbrev pub bare : App
bare = on_top (λ s. record s {
  no_binary_name = true;
  has_version = true;
  arg_required_else_help = true;
  subcommand_required = true;
}) (new_app (codes "explain"))

-- with its first commands
abbrev pub begun : App
begun = with_subcommand (with_subcommand bare check_app.top) bounds_app.top

-- with those that compare what is found with a file
abbrev pub comparing : App
comparing = with_subcommand (with_subcommand begun budget_app.top) verify_app.top

-- with those that look closely at a function
abbrev pub looking : App
looking = with_subcommand (with_subcommand (with_subcommand comparing why_app.top) plot_app.top) profile_app.top

abbrev pub app : App
app = with_subcommand looking lsp_app.top
