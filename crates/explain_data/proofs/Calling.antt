-- What is told of the data for a function.
use Rattle.std.proofs.Common.{◌≡◌, ◌≤◌, ℕ, Bool, true, false, cond, [], ◌∷◌, ◌++◌, length, Option, Some, Result, Ok, Err, IfOk, sym, ap, subst, ◌∙◌, inl, inr}
use Rattle.std.specs.Str.{bytes_eq}
use Rattle.std.proofs.lemmas.List.{append-nil}
use Rattle.std.proofs.lemmas.List.Elements.{All-head, All-tail}
use Rattle.raml_io.specs.Files.{Files}
use Rattle.raml_syntax.specs.Tree.{Text, Function, Prog}
use Rattle.raml_syntax.specs.Eval.{find}
use Rattle.raml_syntax.specs.Read.{program_of}
use Rattle.raml_syntax.specs.Types.{types_of}
use Rattle.raml_syntax.specs.declared.program.Program.{Program}
use Rattle.explain_check.specs.Checks.{SourceGives, IsProgramOf, most_bytes, HoldsProgram}
use Rattle.explain_check.specs.Stores.{Store, store_of, FileGives}
use Rattle.explain_data.specs.Data.{ProgramIs, CallIs, HaveSomeParameters}
use Rattle.explain_data.specs.declared.finding.Finding.{Finding}
use Rattle.explain_data.specs.declared.finding.Finding.TheVariants.{Fits, Untyped, Refused}
use Rattle.explain_data.proofs.Telling.{since_before}

-- a function that is found has one to eight parameters
abbrev pub HasSomeParameters : Function → Type 0
HasSomeParameters g = (1 ≤ length g.params) × (length g.params ≤ 8)

pub found_has : (name : Text) (P : Prog) (g : Function) → HaveSomeParameters P → find name P ≡ Some g → HasSomeParameters g
found_has name [] g have found = absurd (cc)
found_has name (f ∷ P) g have found = by (bytes_eq name f.name) found (found_has name P g (All-tail HasSomeParameters f P have))
  where
    by : (c : Bool) → cond c (Some f) (find name P) ≡ Some g → (find name P ≡ Some g → HasSomeParameters g) → HasSomeParameters g
    by true found later = let same : f ≡ g = cc in subst HasSomeParameters same (All-head HasSomeParameters f P have)
    by false found later = later found

of_program : (store : Store) (P : Prog) (file name data' : Text) (finding : Finding) (part : Text) → HoldsProgram store file P → ProgramIs store P file name data' finding part → CallIs store file name data' finding part
of_program store P file name data' Fits part held is = (P, held, is)
of_program store P file name data' Refused part held is = inr (P, held, is)
of_program store P file name data' Untyped part held (inl none) = absurd (cc (none.1))
of_program store P file name data' Untyped part held (inr faulty) = absurd faulty.2

-- what is told of a program is told of the call
pub of_call : {E : Type 0} (holds same : Option Files) (before mid after : Text → ℕ) (file name data' source seen : Text) (program : Program) (P : Prog) (old read typed new first second : Text) (result : Result Finding E)
    → same ≡ holds → ((name : Text) → before name ≤ mid name)
    → FileGives (store_of holds before mid) most_bytes file (Some source) first → read ≡ old ++ first → seen ≡ source
    → SourceGives file seen (Some program) second → typed ≡ read ++ second → P ≡ program_of program
    → IfOk result (λ finding. (part : Text) × ProgramIs (store_of same mid after) P file name data' finding part × (new ≡ typed ++ part))
    → IfOk result (λ finding. (part : Text) × CallIs (store_of holds before after) file name data' finding part × (new ≡ old ++ part))
of_call holds same before mid after file name data' source seen program P old read typed new first second (Ok finding) e early gives read_is is spelled typed_is P_is told =
    let once : read ≡ old = read_is ∙ ap (λ part. old ++ part) gives.2 ∙ append-nil old in
    let twice : typed ≡ old = typed_is ∙ ap (λ part. read ++ part) spelled.1 ∙ append-nil read ∙ once in
    let held : HoldsProgram (store_of holds before after) file P = (source, gives.0, subst (λ source. IsProgramOf source P) is (subst (λ P. IsProgramOf seen P) (sym P_is) spelled.0)) in
    (told.0, of_program (store_of holds before after) P file name data' finding told.0 held (longer told.1), told.2 ∙ ap (λ typed. typed ++ told.0) twice)
  where
    longer : {part : Text} → ProgramIs (store_of same mid after) P file name data' finding part → ProgramIs (store_of holds before after) P file name data' finding part
    longer (inl none) = inl none
    longer (inr told) = inr (told.0, told.1, since_before holds same before mid after e early data' (types_of told.0) finding _ told.2)
of_call holds same before mid after file name data' source seen program P old read typed new first second (Err x) e early gives read_is is spelled typed_is P_is told = tt
