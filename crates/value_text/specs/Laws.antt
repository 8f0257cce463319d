-- Laws of what words stand for.
use Rattle.std.specs.Prelude.{◌≡◌, List}
use Rattle.raml_syntax.specs.Value.{Value}
use Rattle.value_text.specs.declared.word.Word.{Word}
use Rattle.value_text.specs.declared.word.Cell.{Cell}
use Rattle.value_text.specs.Heap.{NameEarlier}
use Rattle.value_text.specs.Stands.{StandsFor}

-- in a heap, where each cell names only earlier ones, a word stands for one value at most
abbrev pub WordsStandForOneValue : Type 0
WordsStandForOneValue = (cells : List Cell) (word : Word) (v u : Value) →
    NameEarlier cells →
    StandsFor cells word v →
    StandsFor cells word u →
    v ≡ u
