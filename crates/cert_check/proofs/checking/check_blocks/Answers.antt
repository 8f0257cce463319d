use Rattle.std.proofs.Common.{◌≡◌, ◌<◌, ◌≤◌, ◌++◌, ◌∷◌, [], ap, sym, ◌∙◌, subst, length, take, drop, None, arith, rules}
use Rattle.std.proofs.lemmas.List.{length-map, length-take-le}
use Rattle.std.proofs.Math.Seq.{drop-length}
use Rattle.normal_spec.specs.Two.{norm_fun}
use Rattle.share_normal.specs.Program.{source_in}
use Rattle.annot_types.specs.Read.{block_of, blocks_of, certificate_of}
use Rattle.rules_plan.specs.Read.{program_in}
use Rattle.cert_check.specs.Course.{HasCome}
use Rattle.cert_check.specs.Finds.{BlockFinds, EndFinds, BlocksFind}
use Rattle.cert_check.specs.Read.{fault_of, OfFault}
use Rattle.cert_check.proofs.Telling.{tells_more}
use Rattle.cert_check.proofs.Walking.{front_is, next_block, stopped}
use Rattle.cert_check.proofs.checking.check_blocks.Goals as goal

pub loop-number-init : goal.loop-number-init
loop-number-init c =
    let kept = c.args.program.now in
    let held = certificate_of c.args.certificate.now in
    let count : length (program_in kept).funs ≡ c.len.result =
    ap length c.functions-functions.ensures.norm ∙ length-map (source_in kept) (norm_fun (source_in kept)) ∙ sym c.functions-functions.ensures.count ∙ sym c.len.ensures in
    record {
      come = record {
        course_is = c.new-schedule.ensures ∙ (λ i. record {
          results = c.results-results.ensures.results i;
          groups = ap (λ g. g.list) c.groups.ensures.groups i;
          degree = held.degree;
          work = c.is_some-work.ensures i;
          done = [];
        });
        remembers = c.in-Ok.ensures (program_in kept) held.degree count;
      };
      reduces = λ found h. h;
      kept = c.requires.kept;
    }

pub returns-in-Err : goal.returns-in-Err
returns-in-Err c =
    let P = program_in c.args.program.now in
    let held = certificate_of c.args.certificate.now in
    let xs = c.args.certificate.now.blocks.items in
    let bs = blocks_of xs in
    let k = c.loop-number.number in
    let low : k < length xs = search rules in
    let n : length (take k bs) ≡ k = length-take-le k bs (omega (arith, low, length-map xs block_of)) in
    stopped P held xs k c.index-block.result.now low c.loop-number.invariant.reduces (fault_of c.in-Err.fault)
    (subst (λ b. OfFault (fault_of c.in-Err.fault) (BlockFinds P held (take k bs) b)) (ap block_of c.index-block.ensures)
    (c.in-Err.ensures.tells (take k bs) c.loop-number.invariant.come n))

pub loop-number-preserved : goal.loop-number-preserved
loop-number-preserved c =
    let kept = c.args.program.now in
    let P = program_in kept in
    let held = certificate_of c.args.certificate.now in
    let xs = c.args.certificate.now.blocks.items in
    let bs = blocks_of xs in
    let k = c.loop-number.number in
    let d = c.index-block.result.now in
    let low : k < length xs = search rules in
    let n : length (take k bs) ≡ k = length-take-le k bs (omega (arith, low, length-map xs block_of)) in
    let come = c.loop-number.invariant.come in
    record {
      come = subst (λ l. HasCome kept held l c.check_block.new.schedule c.check_block.new.earlier) (sym (front_is P held xs k d low))
          (subst (λ b. HasCome kept held (take k bs ++ b ∷ []) c.check_block.new.schedule c.check_block.new.earlier) (ap block_of c.index-block.ensures)
          (c.in_default-check_block.ensures.goes (take k bs) come n));
      reduces = next_block P held xs k d low c.loop-number.invariant.reduces
          (subst (λ b. BlockFinds P held (take k bs) b None) (ap block_of c.index-block.ensures) (c.in_default-check_block.ensures.tells (take k bs) come n));
      kept = c.in_default-check_block.ensures.kept;
    }

pub returns : goal.returns
returns c =
    let P = program_in c.args.program.now in
    let held = certificate_of c.args.certificate.now in
    let xs = c.args.certificate.now.blocks.items in
    let bs = blocks_of xs in
    let k = c.loop-number.number in
    let le : length xs ≤ k = search rules in
    let ge : k ≤ length xs = search rules in
    let all : k ≡ length bs = omega (arith, le, ge, length-map xs block_of) in
    let n : length (take k bs) ≡ k = length-take-le k bs (omega (arith, all)) in
    let count : c.len-count.result ≡ length xs = search rules in
    tells_more c.check_end.result (EndFinds P held (take k bs)) (BlocksFind P held [] bs)
    (λ x h. c.loop-number.invariant.reduces x (subst (λ l. BlocksFind P held (take k bs) l x) (sym (ap (λ n. drop n bs) all ∙ drop-length bs)) h))
    (c.check_end.ensures (take k bs) c.loop-number.invariant.come (omega (arith, n, le, ge, count)))

pub check_block-requires-clause-came : goal.check_block-requires-clause-came
check_block-requires-clause-came c = (take c.loop-number.number (blocks_of c.args.certificate.now.blocks.items), c.loop-number.invariant.come)

pub check_end-requires : goal.check_end-requires
check_end-requires c = (take c.loop-number.number (blocks_of c.args.certificate.now.blocks.items), c.loop-number.invariant.come)
