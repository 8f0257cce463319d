use Rattle.std.proofs.Common.{◌++◌, codes, string_bytes, refl}
use Rattle.explain_verdicts.proofs.Appended.{four}
use Rattle.explain_verdicts.proofs.exceeding.push_excess.Goals as goal

pub returns : goal.returns
returns c =
    let sum = string_bytes c.in_ok-sum.sum in
    let beside = string_bytes c.in_ok-beside.beside in
    let reads = c.in_ok-sum.ensures in
    let one = rw c.deref.ensures at c.in_ok-push_str.ensures.bytes in
    let three = rw c.deref-2.ensures at c.in_ok-push_str-3.ensures.bytes in (
      sum ++ (codes " (declared " ++ (beside ++ codes ")")),
      record { sum = sum; meaning = reads.0; beside = beside; reads = reads.1; reads_declared = c.in_ok-beside.ensures; is = refl },
      four (string_bytes c.args.text.now) (string_bytes c.push_str.new.self) (string_bytes c.push_str-2.new.self) (string_bytes c.push_str-3.new.self) (string_bytes c.push_str-4.new.self)
          sum (codes " (declared ") beside (codes ")") one c.in_ok-push_str-2.ensures.bytes three c.in_ok-push_str-4.ensures.bytes,
    )
