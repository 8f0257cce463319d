use Rattle.std.proofs.Common.{◌≡◌, map, take, drop, is_some}
use Rattle.std.specs.List.{list_any}
use Rattle.std.specs.Str.{bytes_eq}
use Rattle.raml_syntax.specs.Tree.{Text}
use Rattle.raml_syntax.specs.Read.{program_of, function_of}
use Rattle.simple_types.specs.Numbered.{signatures, no_sigs}
use Rattle.simple_types.specs.Scope.{sigs_of}
use Rattle.simple_types.specs.Walk.{repeated, all_new, distinct, function_name}
use Rattle.simple_types.proofs.Signed.{function_texts}
use Rattle.simple_types.proofs.functions.Functions.new.Given as goal

abbrev pub invariant-loop-fun : goal.invariant-loop-fun
invariant-loop-fun l =
    let funs = l.program.funs.items in
    record {
      signed : signatures l.types.nodes.keys (sigs_of l.functions) (map function_of (drop l.fun-index funs)) ≡ signatures l.fn.types.nodes.keys no_sigs (program_of l.program);
      seen : (f : Text) → is_some (sigs_of l.functions f) ≡ list_any (bytes_eq f) (function_texts (take l.fun-index funs));
      differ : all_new (repeated (function_texts (take l.fun-index funs)) (map function_name (map function_of (drop l.fun-index funs)))) ≡ distinct (map function_name (program_of l.program));
    }
