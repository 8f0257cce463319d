-- What the code has of a function as plain data.
use Rattle.raml_syntax.specs.Read.{program_of, function_of}
use Rattle.explain_profile_call.specs.Calls as c
use Rattle.explain_profile_call.specs.declared.call.Callee.{Callee}

abbrev pub callee_of : Callee → c.Callee
callee_of x = record {
  source = x.source.now.bytes.items;
  program = program_of x.source.now.typed;
  place = x.fun.0;
  function = function_of x.function.now;
  words = x.words.now;
}
