use Rattle.std.proofs.Common.{◌≡◌, ◌++◌, drop}
use Rattle.normal_spec.specs.Two as two
use Rattle.share_normal.specs.Made.{form_in}
use Rattle.share_normal.proofs.taken.Sharing.part.Given as goal

abbrev pub invariant-loop-slot : goal.invariant-loop-slot
invariant-loop-slot l =
    (l.first.items ++ (two.part (form_in l.bound) (form_in l.rest) (drop l.slot-index l.slots) l.self.next).0.first ≡ (two.part (form_in l.bound) (form_in l.rest) l.slots l.fn.self.next).0.first)
    × (l.second.items ++ (two.part (form_in l.bound) (form_in l.rest) (drop l.slot-index l.slots) l.self.next).0.second ≡ (two.part (form_in l.bound) (form_in l.rest) l.slots l.fn.self.next).0.second)
    × (l.shares.items ++ (two.part (form_in l.bound) (form_in l.rest) (drop l.slot-index l.slots) l.self.next).0.shares ≡ (two.part (form_in l.bound) (form_in l.rest) l.slots l.fn.self.next).0.shares)
    × ((two.part (form_in l.bound) (form_in l.rest) (drop l.slot-index l.slots) l.self.next).1 ≡ (two.part (form_in l.bound) (form_in l.rest) l.slots l.fn.self.next).1)
