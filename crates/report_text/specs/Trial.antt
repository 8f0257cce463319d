-- The program of a trial: functions a1, a2, .. that append lists, and functions c1, c2, .. that copy one, each by the one before.
use Rattle.std.specs.Prelude.{ℕ, zero, suc, ◌+◌, ◌*◌, ◌==◌, cond, [], ◌++◌, codes, decimal}
use Rattle.raml_syntax.specs.Tree.{Text}

-- the function ai, with i one more than this number
abbrev pub append_line : ℕ → Text
append_line before =
    codes "fun a" ++ decimal (before + 1) ++ codes " (x : int list, y : int list) : int list = match x with nil -> y | h :: t -> h :: a"
    ++ decimal (before + 1) ++ codes "(t, y)\n"

abbrev pub append_lines : ℕ → Text
append_lines zero = []
append_lines (suc before) = append_lines before ++ append_line before

-- What ci copies, behind so many functions before it: its list for the first, and the copy that the last of these makes for all others.
abbrev pub copied_text : ℕ → Text
copied_text before = cond (before == 0) (codes "x") (codes "c" ++ decimal before ++ codes "(x)")

-- the function ci, with i one more than this number
abbrev pub copy_line : ℕ → Text
copy_line before =
    codes "fun c" ++ decimal (before + 1) ++ codes " (x : int list) : int list = a"
    ++ decimal (before + 1) ++ codes "(" ++ copied_text before
    ++ codes ", nil)\n"

abbrev pub copy_lines : ℕ → Text
copy_lines zero = []
copy_lines (suc before) = copy_lines before ++ copy_line before

-- the program with so many functions of each kind
abbrev pub trial_text : ℕ → Text
trial_text count = append_lines count ++ copy_lines count

-- the function that runs, and the data that it runs on
abbrev pub trial_function : ℕ → Text
trial_function count = codes "c" ++ decimal count

abbrev pub trial_data : Text
trial_data = codes "[1, 2, 3, 4, 5, 6, 7, 8, 9, 10]"

-- how many functions the program has
abbrev pub functions_line : ℕ → Text
functions_line count = codes "functions " ++ decimal (count * 2) ++ codes "\n"
