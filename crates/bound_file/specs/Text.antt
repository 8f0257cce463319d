-- The lines that tell the faults of a file of declared bounds.
use Rattle.std.specs.Prelude.{◌++◌, codes, decimal}
use Rattle.raml_syntax.specs.Tree.{Text}
use Rattle.bound_file.specs.declared.fault.LineFault.{LineFault}
use Rattle.bound_file.specs.declared.fault.LineFault.TheVariants.{Shape, Number, Unknown, Index, Twice}
use Rattle.bound_file.specs.declared.fault.DeclFault.{DeclFault}
use Rattle.bound_file.specs.declared.fault.DeclFault.TheVariants.{NotUtf8, Line}

abbrev pub word_of : LineFault → Text
word_of Shape = codes "shape"
word_of Number = codes "number"
word_of Unknown = codes "unknown"
word_of Index = codes "index"
word_of Twice = codes "twice"

abbrev pub fault_text : DeclFault → Text
fault_text (NotUtf8 at) = codes "not utf-8 at " ++ decimal at.0
fault_text (Line line fault) = (codes "line " ++ decimal line) ++ (codes ": " ++ word_of fault)

-- the line of a file that is refused
abbrev pub bounds_line : DeclFault → Text
bounds_line fault = codes "raml: bounds: " ++ fault_text fault ++ codes "\n"
