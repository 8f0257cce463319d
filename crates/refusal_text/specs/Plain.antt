-- The lines that are the same each time.
use Rattle.std.specs.Prelude.{codes}
use Rattle.raml_syntax.specs.Tree.{Text}
use Rattle.refusal_text.specs.declared.plain.Which.{Which}
use Rattle.refusal_text.specs.declared.plain.Which.TheVariants.{Program, Data, Certificate, Prices, Bounds, Other}

abbrev pub usage_line : Text
usage_line = codes "raml: usage\n"

-- the file was not read
abbrev pub unread_line : Which → Text
unread_line Program = codes "raml: cannot read program\n"
unread_line Data = codes "raml: cannot read data\n"
unread_line Certificate = codes "raml: cannot read certificate\n"
unread_line Prices = codes "raml: cannot read prices\n"
unread_line Bounds = codes "raml: cannot read bounds\n"
unread_line Other = codes "raml: cannot read other\n"

-- the file has too many bytes
abbrev pub too_long_line : Which → Text
too_long_line Program = codes "raml: too long: program\n"
too_long_line Data = codes "raml: too long: data\n"
too_long_line Certificate = codes "raml: too long: certificate\n"
too_long_line Prices = codes "raml: too long: prices\n"
too_long_line Bounds = codes "raml: too long: bounds\n"
too_long_line Other = codes "raml: too long: other\n"

abbrev pub no_function_line : Text
no_function_line = codes "raml: no function\n"

abbrev pub write_failed_line : Text
write_failed_line = codes "raml: write failed\n"

abbrev pub no_memory_line : Text
no_memory_line = codes "raml: out of memory\n"
