use Rattle.simplex_rows.proofs.Quotients.{in_vector}
use Rattle.simplex_rows.proofs.wide.WideRow.over.Goals as goal

pub invariant_of-result : goal.invariant_of-result
invariant_of-result c =
    let back = in_vector c.args.by.now c.self.inside.entries.len c.self.inside.entries.items _ c.divide.new.entries c.self.invariant c.deref_mut.ensures.value c.deref_mut.ensures.len c.in-Ok.ensures.divided in
    rw back.all back.sparse

pub returns-in-Ok-clause-each : goal.returns-in-Ok-clause-each
returns-in-Ok-clause-each c k =
    let back = in_vector c.args.by.now c.self.inside.entries.len c.self.inside.entries.items _ c.divide.new.entries c.self.invariant c.deref_mut.ensures.value c.deref_mut.ensures.len c.in-Ok.ensures.divided in
    rw (back.all, ← c.self.view_is) (back.each k)
