use Rattle.std.proofs.Common.{◌≡◌, ◌<◌, ◌+◌, [], nat_eq, true, false, ap, subst, drop, length, slice_index_or, arith}
use Rattle.std.proofs.lemmas.Bool.Decides.{nat_tests}
use Rattle.std.proofs.lemmas.Grind.{common_steps}
use Rattle.cost_free.specs.Read.{ids_of}
use Rattle.constraint_gen.proofs.Functions.{From, from_begins, from_goes_on, from_ends, from_none, cut_at}
use Rattle.constraint_gen.proofs.task.place_in.Goals as goal

pub loop-place-init : goal.loop-place-init
loop-place-init c = from_begins (ids_of c.args.functions.now) c.args.fun.0

pub returns-then-functions-place : goal.returns-then-functions-place
returns-then-functions-place c =
    let p = c.loop-place.place in
    let fs = c.args.functions.now in
    let here = slice_index_or fs p c.args.fun in
    let in_range : p < length fs = grind (arith, nat_tests, c.loop-place-test.true) in
    let same : nat_eq c.args.fun.0 here.0 ≡ true = grind (arith, nat_tests, common_steps, c.if-functions-place.true, in_range) in
    from_ends (ids_of fs) c.args.fun.0 p here.0 (ids_of (drop (p + 1) fs)) same
    (subst (From (ids_of fs) c.args.fun.0 p) (ap ids_of (cut_at fs p c.args.fun in_range)) c.loop-place.invariant)

pub loop-place-preserved : goal.loop-place-preserved
loop-place-preserved c =
    let p = c.loop-place.place in
    let fs = c.args.functions.now in
    let here = slice_index_or fs p c.args.fun in
    let in_range : p < length fs = grind (arith, nat_tests, c.loop-place-test.true) in
    let differs : nat_eq c.args.fun.0 here.0 ≡ false = grind (arith, nat_tests, common_steps, c.if-functions-place.false, in_range) in
    from_goes_on (ids_of fs) c.args.fun.0 p here.0 (ids_of (drop (p + 1) fs)) differs
    (subst (From (ids_of fs) c.args.fun.0 p) (ap ids_of (cut_at fs p c.args.fun in_range)) c.loop-place.invariant)

pub returns : goal.returns
returns c =
    let none : drop c.loop-place.place c.args.functions.now ≡ [] = grind (arith, common_steps) in
    from_none (ids_of c.args.functions.now) c.args.fun.0 c.loop-place.place (subst (From (ids_of c.args.functions.now) c.args.fun.0 c.loop-place.place) (ap ids_of none) c.loop-place.invariant)
