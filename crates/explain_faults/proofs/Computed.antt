-- Small changes.
use Rattle.std.proofs.Common.{refl}
use Rattle.explain_faults.specs.Example.{Examples}

pub examples : Examples
examples = record {
  left_out = refl;
  replaced = refl;
  put_in = refl;
  nothing_new = refl;
  words = refl;
}
