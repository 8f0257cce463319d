-- The targets of nine lists.
use Rattle.std.proofs.Common.{refl}
use Rattle.tests_analysis.specs.NineLists.{NineExamples}

pub nine_are_joined : NineExamples
nine_are_joined = record { sets = refl; eight = refl; targets = refl }
