use Rattle.std.proofs.Common.{map, string_bytes}
use Rattle.clap.specs.Simple.{app_of}
use Rattle.raml_words.proofs.Parsed.{finds, refuses}
use Rattle.raml_words.proofs.clapped.matches_of.Goals as goal

pub returns-in-Ok : goal.returns-in-Ok
returns-in-Ok c = λ s. finds (app_of c.args.command) (map string_bytes c.args.words.now) c.in-Ok.matches s (c.in-Ok.ensures.kinds s) c.in-Ok.ensures.matches

pub returns-in-Err : goal.returns-in-Err
returns-in-Err c = λ s. refuses (app_of c.args.command) (map string_bytes c.args.words.now) c.in-Err.error c.fault_of.result (c.in-Err.ensures.kinds s) c.fault_of.ensures
