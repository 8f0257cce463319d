use Rattle.std.proofs.Common.{◌≡◌, ◌<◌, length, IfOk, IsErrOf, sym, ap, ◌∙◌, subst, arith}
use Rattle.std.proofs.lemmas.Grind.{common_steps}
use Rattle.std.proofs.lemmas.Result.{IfOk-weaker}
use Rattle.std.proofs.lemmas.List.{length-map}
use Rattle.base_poly.specs.Plain.{degrees}
use Rattle.base_poly.specs.Indices.{tuples_up_to, index_list}
use Rattle.base_poly.specs.Read.{context_of}
use Rattle.base_poly.specs.declared.fault.IndexFault.TheVariants.{TooMany}
use Rattle.base_poly.proofs.Graded.{as_many}
use Rattle.base_poly.proofs.Least.{one_sized, one_long}
use Rattle.base_poly.proofs.sizes.degrees.Goals as goal

pub returns-then-d-eq0-clause-all : goal.returns-then-d-eq0-clause-all
returns-then-d-eq0-clause-all c =
    subst (λ l. IfOk c.only.result (λ found. found.items ≡ l)) (one_sized (context_of c.args.types.now) c.args.d c.if-d-eq0.true) c.only.ensures.all

pub returns-then-d-eq0-clause-positions : goal.returns-then-d-eq0-clause-positions
returns-then-d-eq0-clause-positions c =
    IfOk-weaker c.only.result _ (λ found. length found.items ≡ length (index_list (context_of c.args.types.now) c.args.d)) (λ found h. ap length h ∙ one_long (context_of c.args.types.now) c.args.d c.if-d-eq0.true) c.only.ensures.all

pub returns-then-d-eq0-clause-few : goal.returns-then-d-eq0-clause-few
returns-then-d-eq0-clause-few c = let one = one_long (context_of c.args.types.now) c.args.d c.if-d-eq0.true in grind (arith, common_steps, one)

pub returns-then-d-eq0-clause-many : goal.returns-then-d-eq0-clause-many
returns-then-d-eq0-clause-many c = λ e. let one = one_long (context_of c.args.types.now) c.args.d c.if-d-eq0.true in let less = c.only.ensures.many e in omega (arith, one, less)

pub returns-clause-positions : goal.returns-clause-positions
returns-clause-positions c =
    IfOk-weaker c.of_types.result _ (λ found. length found.items ≡ length (index_list (context_of c.args.types.now) c.args.d))
    (λ found h. ap length h ∙ length-map (tuples_up_to (context_of c.args.types.now) c.args.d) degrees ∙ sym (as_many (context_of c.args.types.now) c.args.d)) c.of_types.ensures.all

pub returns-clause-few : goal.returns-clause-few
returns-clause-few c =
    let same = as_many (context_of c.args.types.now) c.args.d in
    let long = length-map (tuples_up_to (context_of c.args.types.now) c.args.d) degrees in
    grind (arith, common_steps, same, long)

pub returns-clause-many : goal.returns-clause-many
returns-clause-many c = subst (λ n. IsErrOf c.of_types.result TooMany → c.args.most < n) (sym (as_many (context_of c.args.types.now) c.args.d)) c.of_types.ensures.many
