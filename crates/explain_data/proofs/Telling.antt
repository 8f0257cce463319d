-- What is told of data, and of a file of it.
use Rattle.std.proofs.Common.{◌≡◌, ◌≤◌, ℕ, List, ◌++◌, Option, Some, Result, Ok, Err, IfOk, refl, ap, subst, ◌∙◌, inl, inr}
use Rattle.std.proofs.lemmas.List.{append-nil}
use Rattle.raml_io.specs.Files.{Files}
use Rattle.raml_syntax.specs.Tree.{Text, Type'}
use Rattle.value_text.specs.Reading.{Answers, FirstFault}
use Rattle.value_text.specs.declared.fault.DataFault.{DataFault}
use Rattle.value_text.specs.declared.fault.DataFault.TheVariants.{NotUtf8, Shape, TooDeep, TooManyCells, NoMemory}
use Rattle.explain_check.specs.Stores.{Store, store_of, Holds, FileGives}
use Rattle.explain_check.proofs.Longer.{unread_since}
use Rattle.explain_data.specs.Data.{DataIs, DataFileIs, most_data_bytes}
use Rattle.explain_data.specs.declared.finding.Finding.{Finding}
use Rattle.explain_data.specs.declared.finding.Finding.TheVariants.{Fits, Untyped, Refused}

-- a fault that is told is what the data is
pub answers : (data' : Text) (types : List Type') (fault : DataFault) → FirstFault data' types fault → (fault ≡ NoMemory → ⊥) → Answers data' types (Err fault)
answers data' types (NotUtf8 at) first memory = first
answers data' types (Shape at) first memory = first
answers data' types (TooDeep at) first memory = first
answers data' types TooManyCells first memory = first
answers data' types NoMemory first memory = memory refl

of_data : (store : Store) (name data' : Text) (types : List Type') (finding : Finding) (part : Text) → Holds store name data' → DataIs name data' types finding part → DataFileIs store name types finding part
of_data store name data' types Fits part held is = (data', held, is)
of_data store name data' types Refused part held is = inr (data', held, is)
of_data store name data' types Untyped part held is = absurd is

-- what is told of the data of a file is told of the file
pub of_file : {E : Type 0} (store : Store) (name data' seen : Text) (types : List Type') (old read new part : Text) (result : Result Finding E) → FileGives store most_data_bytes name (Some data') part → read ≡ old ++ part → seen ≡ data'
    → IfOk result (λ finding. (part : Text) × DataIs name seen types finding part × (new ≡ read ++ part))
    → IfOk result (λ finding. (part : Text) × DataFileIs store name types finding part × (new ≡ old ++ part))
of_file store name data' seen types old read new part (Ok finding) gives same is told =
    let nothing : read ≡ old = same ∙ ap (λ part. old ++ part) gives.2 ∙ append-nil old in
    (told.0, of_data store name data' types finding told.0 gives.0 (subst (λ data'. DataIs name data' types finding told.0) is told.1), told.2 ∙ ap (λ read. read ++ told.0) nothing)
of_file store name data' seen types old read new part (Err e) gives same is told = tt

-- ---- since an earlier time

module _ (holds same : Option Files) (before mid after : Text → ℕ) (e : same ≡ holds) (early : (name : Text) → before name ≤ mid name) where
  pub since_before : (name : Text) (types : List Type') (finding : Finding) (part : Text) → DataFileIs (store_of same mid after) name types finding part → DataFileIs (store_of holds before after) name types finding part
  since_before name types Fits part told = subst (λ holds. DataFileIs (store_of holds before after) name types Fits part) e told
  since_before name types Refused part (inl long) = inl (unread_since holds same before mid after most_data_bytes name part e early long)
  since_before name types Refused part (inr faulty) = subst (λ holds. DataFileIs (store_of holds before after) name types Refused part) e (inr faulty)
  since_before name types Untyped part told = absurd told
