-- What is told of a file of declared bounds.
use Rattle.std.specs.Prelude.{◌≡◌, ℕ, [], ◌++◌, Option, Some, None}
use Rattle.raml_syntax.specs.Tree.{Text, Prog}
use Rattle.bound_file.specs.Lines.{Declaration}
use Rattle.bound_file.specs.Answers.{Spells, AreWithin, FirstFault}
use Rattle.bound_file.specs.declared.fault.DeclFault.{DeclFault}
use Rattle.explain_check.specs.Checks.{fault_head}
use Rattle.explain_declared.specs.Places.{place_of}

-- The bytes of this name are no declared bounds of the program at the degree: the first fault is told, at its place.
abbrev pub IsFaulty : Prog → ℕ → Text → Text → Text → Type 0
IsFaulty P d name bytes part =
    (fault : DeclFault) × (rest : Text) × FirstFault P d bytes fault × (part ≡ fault_head name bytes (place_of bytes fault) ++ rest)

-- the bounds that the bytes declare, of which nothing is told, or their first fault
abbrev pub BytesGive : Prog → ℕ → Text → Text → Option Declaration → Text → Type 0
BytesGive P d name bytes (Some declared) part = Spells P d bytes declared × AreWithin P declared × (part ≡ [])
BytesGive P d name bytes None part = IsFaulty P d name bytes part
