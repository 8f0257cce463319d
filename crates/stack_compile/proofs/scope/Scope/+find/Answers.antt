use Rattle.std.proofs.Common.{◌≡◌, length, rules, sym, ap, ◌∙◌}
use Rattle.std.specs.Str.{bytes_eq}
use Rattle.stack_compile.specs.Read.{names_in}
use Rattle.stack_compile.proofs.Places.{found_here, found_behind}
use Rattle.stack_compile.proofs.scope.Scope.+find.Goals as goal

pub returns-then-eq : goal.returns-then-eq
returns-then-eq t c =
    let numbered : c.args.depth ≡ length (names_in c.args.self.now) = search rules in
    found_here c.args.self.now c.in-Bound.name c.in-Bound.outer c.args.wanted.now c.args.depth c.in-Bound.is numbered (ap (bytes_eq c.args.wanted.now) (sym c.text.ensures) ∙ sym c.eq.ensures ∙ c.if-eq.true)

pub returns-else-eq : goal.returns-else-eq
returns-else-eq t c =
    found_behind c.args.self.now c.in-Bound.name c.in-Bound.outer c.args.wanted.now c.find.result c.in-Bound.is c.find.ensures (ap (bytes_eq c.args.wanted.now) (sym c.text.ensures) ∙ sym c.eq.ensures ∙ c.if-eq.false)
