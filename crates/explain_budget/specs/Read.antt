-- What is asked, as the code has it.
use Rattle.explain_budget.specs.Degrees.{Asking}
use Rattle.explain_budget.specs.declared.asked.Asked.{Asked}

abbrev pub asking_in : Asked → Asking
asking_in asked = record { name = asked.name.now; bytes = asked.bytes.now; width = asked.width; json = asked.json }
