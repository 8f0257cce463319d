-- What is left of an expression, as the code has it.
use Rattle.raml_syntax.specs.Read.{term_of}
use Rattle.explain_origins.specs.Origins.{Origins}
use Rattle.explain_origins.specs.Cursors.{left}
use Rattle.explain_origins.specs.declared.cursor.Cursor.{Cursor}

abbrev pub origins_of : Cursor → Origins
origins_of c = left (term_of c.expr.now) c.bound
