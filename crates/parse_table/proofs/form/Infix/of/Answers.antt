use Rattle.parse_table.proofs.form.Infix.of.Goals as goal

pub returns-in-Sign : goal.returns-in-Sign
returns-in-Sign c = rw c.in-Sign.is (c.of_sign.ensures c.args.token.now.at.0)
