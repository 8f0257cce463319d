use Rattle.std.proofs.Common.{◌++◌, codes, string_bytes, refl}
use Rattle.std.proofs.lemmas.Result.{on_ok_weaker}
use Rattle.base_poly.specs.Read.{context_of}
use Rattle.explain_algebra.specs.Algebra.{texts}
use Rattle.explain_bounds.specs.Lines.{at_most, legend_behind}
use Rattle.explain_verdicts.specs.Line.{all_sizes, shared}
use Rattle.explain_verdicts.proofs.Appended.{five}
use Rattle.explain_verdicts.proofs.line.push_bound.Goals as goal

pub returns : goal.returns
returns c =
    let sum = string_bytes c.in_ok-reading.reading.sum in
    let means = string_bytes c.in_ok-reading.reading.legend in
    let excess = c.in_ok-push_excess.ensures in
    let legend = legend_behind (shared (all_sizes (context_of c.args.params.types.now) (texts c.args.params.names.now)) means c.args.legend.now) in
    let two = rw c.deref.ensures at c.in_ok-push_str-2.ensures.bytes in
    on_ok_weaker c.push_shared.result
    (λ last. (
      at_most ++ (sum ++ (codes " found" ++ (excess.0 ++ legend))),
      record { sum = sum; means = means; excess = excess.0; reads = record { poly = c.args.found.now; is = refl; reading = c.in_ok-reading.ensures }; exceeds = excess.1; is = refl },
      five (string_bytes c.args.text.now) (string_bytes c.push_str.new.self) (string_bytes c.push_str-2.new.self) (string_bytes c.push_str-3.new.self) (string_bytes c.push_excess.new.text) (string_bytes c.push_shared.new.text)
          at_most sum (codes " found") excess.0 legend c.in_ok-push_str.ensures.bytes two c.in_ok-push_str-3.ensures.bytes excess.2 (rw c.deref-2.ensures at last),
    ))
    c.push_shared.ensures
