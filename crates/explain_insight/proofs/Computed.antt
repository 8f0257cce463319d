-- Small texts.
use Rattle.std.proofs.Common.{refl}
use lib.Utf8.{encode}
use Rattle.explain_insight.specs.Example.{Examples}

pub examples : Examples
unfolding encode
examples = record {
  mark = refl;
  header = refl;
  lines = refl;
  sizes = refl;
  no_size = refl;
  end = refl;
}
