use Rattle.std.proofs.Common.{◌≡◌, drop}
use Rattle.raml_io.specs.MemStore.{held, listed}
use Rattle.explain_files.proofs.mem_shelf.has_file.Given as goal

abbrev pub invariant-loop-key : goal.invariant-loop-key
invariant-loop-key l = held (listed l.files) l.name ≡ held (listed (drop l.key-index l.files)) l.name
