use Rattle.std.proofs.Common.{◌≡◌, ◌≤◌, ◌+◌, suc, length, subst, refl, inr, arith, rules}
use Rattle.std.specs.Prelude.{IfSome}
use Rattle.raml_io.specs.Files.{IsFront}
use Rattle.refusals.specs.Ending as e
use Rattle.refusals.specs.Line.{no_names}
use Rattle.refusals.specs.declared.status.Status.TheVariants as s
use Rattle.raml_promise.specs.Outside.{store_of}
use Rattle.raml_promise.specs.Steps.{most_bytes}
use Rattle.raml_parts.specs.Parts.{FileRefuses}
use Rattle.raml_parts.proofs.Refusing.{told_refuses}
use Rattle.raml_parts.proofs.Stepping.{file_unread}
use Rattle.raml_parts.proofs.Reading.{still_rises, too_long_read}
use Rattle.raml_parts.proofs.file.read_file.Goals as goal

pub returns-then-len-most_bytes-clause-err : goal.returns-then-len-most_bytes-clause-err
returns-then-len-most_bytes-clause-err g c before earlier =
    let store = store_of (g.S.Store.holds c.args.store.now) before (g.S.Store.faults c.read.new.self) in
    let most : c.most_bytes.result + 1 ≡ suc (most_bytes c.args.which) = omega (arith, c.most_bytes.ensures) in
    told_refuses no_names (s.TooLong c.args.which) (e.TooLong c.args.which) (FileRefuses store c.args.which c.args.name.now) refl
    (too_long_read store c.args.which c.args.name.now c.in-Ok.bytes.items (subst (λ n. length c.in-Ok.bytes.items ≤ n) most (search rules))
    (subst (λ n. IfSome (g.S.Store.holds c.args.store.now) (λ files. IsFront files c.args.name.now n c.in-Ok.bytes.items)) most c.in-Ok.ensures.front)
    (search rules)) c.too_long.result (inr (c.too_long.ensures no_names))

pub returns-in-Err-Failed-clause-err : goal.returns-in-Err-Failed-clause-err
returns-in-Err-Failed-clause-err g c before earlier =
    let store = store_of (g.S.Store.holds c.args.store.now) before (g.S.Store.faults c.read.new.self) in
    told_refuses no_names (s.ReadFault c.args.which) (e.ReadFault c.args.which) (FileRefuses store c.args.which c.args.name.now) refl
    (file_unread store c.args.which c.args.name.now (still_rises _ _ _ (earlier c.args.name.now) (search rules))) c.unread.result (inr (c.unread.ensures no_names))
