use Rattle.std.proofs.Common.{◌≡◌, ◌+◌, ◌-◌, ◌<◌, ◌++◌, [], ◌∷◌, map, length, take, ap, ◌∙◌, arith}
use Rattle.std.proofs.lemmas.List.{map-append}
use Rattle.raml_syntax.specs.Read.{ty_of}
use Rattle.base_poly.specs.Read.{plains_of}
use Rattle.cost_free.specs.Target.{pieces}
use Rattle.cost_free.specs.Read.{pieces_of}
use Rattle.cost_free.proofs.Cuts.{tuple_with, fill_step, fill_done, piece_behind, to_end}
use Rattle.cost_free.proofs.fill.+cuts.Goals as goal

pub append_cut-returns-clause-all : goal.append_cut-returns-clause-all
append_cut-returns-clause-all t c =
    let ps = pieces c.args.count (plains_of c.args.entries.now) in
    let A = ty_of c.args.ty.now in
    let places = c.args.places.now in
    let pushed = ap pieces_of c.in_ok-push.ensures.items ∙ map-append (λ p. plains_of p.now) c.args.before.now.items (c.args.piece ∷ []) in
    c.in_ok-append_filled.ensures.all
    ∙ ap (λ l. c.args.found.now.items ++ l)
    (ap (λ b. map (tuple_with A places b) ps) pushed ∙ piece_behind (pieces_of c.args.before.now.items) (plains_of c.args.piece.now) A places ps)

pub append_cuts-loop-cut-preserved : goal.append_cuts-loop-cut-preserved
append_cuts-loop-cut-preserved t c =
    let is = c.args.entries.now in
    let len = length is in
    let k = c.loop-cut.cut in
    let A = ty_of c.args.ty.now in
    let places = c.args.places.now in
    let some : 0 < len + 1 - k = omega (arith, c.loop-cut-test.true) in
    let next : len + 1 - (k + 1) ≡ len + 1 - k - 1 = omega arith in
    record {
      done = fill_step (tuple_with A places (pieces_of c.args.before.now.items)) c.args.count is (len + 1 - k) (len + 1 - (k + 1)) k _ _ _ some next
          (c.in_ok-append_cut.ensures.all
          ∙ (λ i. c.loop-cut.found.items ++ map (tuple_with A places (pieces_of (c.loop-cut.invariant.kept i))) (map (λ p. plains_of (take k is) ∷ p) (pieces c.args.count (plains_of (to_end k is i))))))
          c.loop-cut.invariant.done;
      kept = c.in_ok-append_cut.ensures.kept ∙ c.loop-cut.invariant.kept;
    }

pub append_cuts-returns-clause-all : goal.append_cuts-returns-clause-all
append_cuts-returns-clause-all t c =
    let is = c.args.entries.now in
    let none : length is + 1 - c.loop-cut.cut ≡ 0 = omega (arith, c.loop-cut-test.false) in
    fill_done (tuple_with (ty_of c.args.ty.now) c.args.places.now (pieces_of c.args.before.now.items)) c.args.count is (length is + 1 - c.loop-cut.cut) c.loop-cut.cut _ _ none c.loop-cut.invariant.done
