use Rattle.std.proofs.Common.{◌≡◌, drop, fold}
use Rattle.base_poly.specs.Plain.{many, writes}
use Rattle.base_poly.specs.Read.{plains_of}
use Rattle.base_poly.proofs.index.+feed.Given as goal

abbrev pub invariant-feed_all-loop-entry : goal.invariant-feed_all-loop-entry
invariant-feed_all-loop-entry g l =
    fold g.H.Hasher.write l.state (writes (many (plains_of (drop l.entry-index l.entries))))
    ≡ fold g.H.Hasher.write l.fn.state (writes (many (plains_of l.entries)))
