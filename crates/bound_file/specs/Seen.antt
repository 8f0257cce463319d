-- What is written in a line, as the code holds it.
use Rattle.std.specs.Prelude.{List, map, unsigned_abs}
use Rattle.raml_syntax.specs.Tree.{Text}
use Rattle.bound_file.specs.Spelling as s
use Rattle.bound_file.specs.Reading as r
use Rattle.bound_file.specs.declared.term.Term.{Term}
use Rattle.bound_file.specs.declared.line.Line.{Line}
use Rattle.bound_file.specs.declared.counted.Counted.{Counted}
use Rattle.bound_file.specs.declared.written.Parts.{Parts}

abbrev pub term_of : Term → s.Term
term_of t = record { numerator = t.numerator.now; denominator = t.denominator.now; tuple = t.tuple.now }

abbrev pub terms_of : List Term → List s.Term
terms_of ts = map term_of ts

abbrev pub tuples_of : List Term → List Text
tuples_of ts = map (λ (t : s.Term). t.tuple) (terms_of ts)

abbrev pub parts_of : Parts → r.Parts
parts_of p = record { name = p.name.now; meter = p.meter.now; sum = p.sum.now }

abbrev pub written_of : Line → s.Written
written_of line = record { name = line.name.now; meter = line.meter; terms = terms_of line.terms.items }

abbrev pub counted_of : Counted → r.Counted
counted_of c = record { tuple = c.tuple.now; numerator = unsigned_abs c.numerator; denominator = unsigned_abs c.denominator }

abbrev pub all_counted_of : List Counted → List r.Counted
all_counted_of cs = map counted_of cs
