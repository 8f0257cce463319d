-- The texts of faults.
use Rattle.std.specs.Prelude.{◌++◌, codes, string_bytes}
use Rattle.raml_syntax.specs.Tree.{Text}
use Rattle.explain_at.specs.declared.fault.WordFault.{WordFault}
use Rattle.explain_at.specs.declared.fault.WordFault.TheVariants as word
use Rattle.explain_at.specs.declared.fault.SizeFault.{SizeFault}
use Rattle.explain_at.specs.declared.fault.SizeFault.TheVariants as size

abbrev pub word_text : WordFault → Text
word_text (word.Shape text) = codes "'" ++ (text.now ++ codes "' is not NAME=N, with a whole number N")
word_text (word.Long text) = codes "'" ++ (text.now ++ codes "': a size has at most ten digits")
word_text (word.Twice name) = codes "the size of '" ++ (name.now ++ codes "' is given twice")
word_text word.NoMemory = codes "no memory is left"

abbrev pub size_text : SizeFault → Text
size_text (size.Unknown name) = codes "no parameter has a size '" ++ (name.now ++ codes "'")
size_text (size.NotGiven name) = codes "the size of '" ++ (string_bytes name ++ codes "' is not given")
size_text size.NoneOpen = codes "all sizes are given, and one is to be left open"
size_text (size.TwoOpen name other) =
    codes "the sizes of '" ++
    (string_bytes name ++ (codes "' and of '" ++ (string_bytes other ++ codes "' are not given, and one may be left open")))
size_text size.NoMemory = codes "no memory is left"
