use Rattle.std.proofs.Common.{◌-◌, ◌∷◌, [], ◌++◌, List, ℕ, map, cond, nat_lt, ap, ◌∙◌, arith}
use Rattle.tuple_ranks.specs.Columns.{sizes_in}
use Rattle.tuple_ranks.specs.Numbers.{numbered, flat_behind}
use Rattle.tuple_ranks.proofs.Walked.{led_behind, led_step}
use Rattle.tuple_ranks.proofs.numbers.+append.Goals as goal

pub append_behind-returns-clause-all : goal.append_behind-returns-clause-all
append_behind-returns-clause-all t c =
    c.in_ok-append.ensures.all
    ∙ ap (λ l. c.args.found.now.items ++ l)
    (led_behind c.args.before.now.items _ c.args.number c.args.g c.args.size (numbered (sizes_in c.args.columns.now) (c.args.g - c.args.size)) (omega (arith, c.if-g-size.false)) c.in_ok-push.ensures.ok)

pub append_led-loop-number-preserved : goal.append_led-loop-number-preserved
append_led-loop-number-preserved t c =
    let rests : ℕ → List (List ℕ) = numbered (sizes_in c.args.columns.now) in
    record {
      all = led_step rests c.args.g c.args.sizes.now c.loop-number.number c.from.result c.args.before.now.items c.loop-number.found.items _ _ c.loop-number-test.true c.from.ensures
          (c.in_ok-append_behind.ensures.all ∙ ap (λ b. c.loop-number.found.items ++ flat_behind b (cond (nat_lt c.args.g c.from.result) [] (map (λ ns. c.loop-number.number ∷ ns) (rests (c.args.g - c.from.result))))) c.loop-number.invariant.kept)
          c.loop-number.invariant.all;
      kept = c.in_ok-append_behind.ensures.kept ∙ c.loop-number.invariant.kept;
    }
