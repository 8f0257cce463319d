use Rattle.std.proofs.Common.{refl, string_bytes}
use Rattle.explain_verdicts.proofs.exceeding.read_alone.Goals as goal

pub returns : goal.returns
returns c = (string_bytes c.in_ok-reading.reading.legend, record { poly = c.args.poly.now; is = refl; reading = c.in_ok-reading.ensures })
