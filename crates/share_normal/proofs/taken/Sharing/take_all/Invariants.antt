use Rattle.std.proofs.Common.{◌≡◌, ◌++◌, drop}
use Rattle.normal_spec.specs.Two as two
use Rattle.share_normal.proofs.taken.Sharing.take_all.Given as goal

abbrev pub invariant-loop-i : goal.invariant-loop-i
invariant-loop-i l =
    (l.names.items ++ (two.take_all (drop l.i l.operands) l.left.items l.self.next).0.names ≡ (two.take_all l.operands l.slots l.fn.self.next).0.names)
    × (l.shares.items ++ (two.take_all (drop l.i l.operands) l.left.items l.self.next).0.shares ≡ (two.take_all l.operands l.slots l.fn.self.next).0.shares)
    × ((two.take_all (drop l.i l.operands) l.left.items l.self.next).1 ≡ (two.take_all l.operands l.slots l.fn.self.next).1)
