use Rattle.std.proofs.Common.{◌≡◌, ◌*◌, ◌+◌, sym, arith}
use Rattle.rules_spec.specs.Capped.{cap}
use Rattle.constraint_gen.proofs.Sums.{put_on_none}
use Rattle.constraint_gen.proofs.form.FormKind.raise.Goals as goal

pub returns : goal.returns
returns c =
    let plus : c.saturating_add-self-inside.result ≡ cap (cap (c.args.n * c.args.scale) + c.self.inside.plus) = grind (arith, c.saturating_add-self-inside.ensures, c.capped_product-price.ensures, c.from.ensures) in
    let minus : c.saturating_add-self-inside-2.result ≡ cap (0 + c.self.inside.minus) = grind (arith, c.saturating_add-self-inside-2.ensures) in
    rw (← c.self.view_is) (λ i. record { terms = sym (put_on_none c.self.inside.terms.items c.self.invariant) i; plus = plus i; minus = minus i })
