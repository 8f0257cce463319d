-- What is read of files.
use Rattle.std.proofs.Common.{◌≡◌, ◌≤◌, ◌<◌, ℕ, suc, List, length, Option, Result, Ok, Err, sym, subst, inl, inr, ⊎_elim, arith}
use Rattle.raml_io.specs.Faults.{Rose}
use Rattle.std.specs.Prelude.{IfSome, IfOk, IfErr}
use Rattle.raml_io.specs.Files.{Files, IsFront}
use Rattle.raml_syntax.specs.Tree.{Text, Prog}
use Rattle.refusal_text.specs.declared.plain.Which.{Which}
use Rattle.refusal_text.specs.declared.task.Analysed.{Analysed}
use Rattle.refusal_text.specs.declared.task.Analysed.TheVariants as analysed
use Rattle.price_file.specs.Construct.{Prices}
use Rattle.refusals.specs.Ending.{TooLong}
use Rattle.refusals.specs.Line.{no_names}
use Rattle.refusals.specs.declared.answer.Refusal.{Refusal}
use Rattle.raml_promise.specs.Outside.{Sound, Store, store_of}
use Rattle.raml_promise.specs.Steps.{most_bytes, SourceRefuses, IsTyped, RefusedOf, file_of, Answer, OfProgram}
use Rattle.raml_promise.specs.Prices.{OfPrices}
use Rattle.raml_parts.specs.Parts.{Before, Gives, IsShort, FileRefuses, IsProgram, ProgramRefuses, ArePrices, Refuses}
use Rattle.refusals.specs.declared.answer.Report.{Report}
use Rattle.raml_parts.proofs.Stepping.{refuses_map, file_long, by_bytes, program_goes, prices_go}

-- a count that rose has risen from any that came before
pub still_rises : (before old now : ℕ) → before ≤ old → Rose old now → Rose before now
still_rises before old now earlier h = ⊎_elim (λ less. inl (omega (arith, less, earlier))) (λ last. inr last) h

pub too_long_read : (store : Store) (which : Which) (file bytes : List ℕ) → length bytes ≤ suc (most_bytes which) →
    IfSome store.holds (λ files. IsFront files file (suc (most_bytes which)) bytes) → most_bytes which < length bytes →
    FileRefuses store which file (TooLong which)
too_long_read store which file bytes few front long = file_long store which file bytes (record { few = few; front = front }) (omega (arith, long))

-- what a file spells, by what its bytes do
module _ {T E : Type 0} (program : T → Prog) (store : Store) (whose : Analysed) (file source seen : List ℕ) (same : seen ≡ source)
    (within : IsShort store (file_of whose) file source) where
  pub program_read : (r : Result T E) → IfOk r (λ t. IsTyped seen (program t)) → IfOk r (λ t. IsProgram store whose file (program t))
  program_read (Ok t) h = record { source = source; within = within; typed = subst (λ s. IsTyped s (program t)) same h }
  program_read (Err e) h = tt

pub program_unread : {T : Type 0} (store : Store) (whose : Analysed) (file source seen : List ℕ) → seen ≡ source → IsShort store (file_of whose) file source → (r : Result T Refusal) →
    IfErr r (Refuses no_names (RefusedOf whose (SourceRefuses seen))) → IfErr r (Refuses no_names (ProgramRefuses store whose file))
program_unread store whose file source seen same within (Ok t) h = tt
program_unread store whose file source seen same within (Err e) h =
    refuses_map no_names (RefusedOf whose (SourceRefuses source)) (ProgramRefuses store whose file) (by_bytes store (file_of whose) file (λ s. RefusedOf whose (SourceRefuses s)) IsTyped source within) e
    (subst (λ s. Refuses no_names (RefusedOf whose (SourceRefuses s)) e) same h)

-- no file that holds a program is longer
pub program_short : (whose : Analysed) (source seen : List ℕ) → seen ≡ source → length source ≤ most_bytes (file_of whose) → length seen ≤ 1048576
program_short analysed.Program source seen same short = subst (λ bytes. length bytes ≤ 1048576) (sym same) short
program_short analysed.Other source seen same short = subst (λ bytes. length bytes ≤ 1048576) (sym same) short

-- what was read of a file stays read, whatever the store's counts do then
pub program_stays : (holds : Option Files) (before after other later : Text → ℕ) (whose : Analysed) (file : List ℕ) (P : Prog) →
    IsProgram (store_of holds before after) whose file P → IsProgram (store_of holds other later) whose file P
program_stays holds before after other later whose file P is = record {
  source = is.source;
  within = record { read = record { few = is.within.read.few; front = is.within.read.front }; short = is.within.short };
  typed = is.typed;
}

pub prices_stay : (holds : Option Files) (before after other later : Text → ℕ) (file : List ℕ) (prices : Prices) →
    ArePrices (store_of holds before after) file prices → ArePrices (store_of holds other later) file prices
prices_stay holds before after other later file prices are = record {
  bytes = are.bytes;
  within = record { read = record { few = are.within.read.few; front = are.within.read.front }; short = are.within.short };
  table = are.table;
  spelled = are.spelled;
  are = are.are;
}

-- what is promised of counts is promised of those before the call
pub from_now : (counts : Text → ℕ) → Before counts counts
from_now counts name = omega arith

-- What comes after a program was read stands over the counts before it.
pub program_then : (whose : Analysed) (holds told : Option Files) (before read later : Text → ℕ) (file : List ℕ) (Rest : Store → Prog → Answer → Type 0) (P : Prog) → told ≡ holds →
    IsProgram (store_of holds before read) whose file P → (r : Result Report Refusal) → Gives (Rest (store_of told before later) P) r →
    Gives (OfProgram Sound (store_of holds before later) whose file (Rest (store_of holds before later))) r
program_then whose holds told before read later file Rest P same is r given =
    program_goes (store_of holds before later) whose file (Rest (store_of holds before later)) P (program_stays holds before read before later whose file P is) r
    (subst (λ h. Gives (Rest (store_of h before later) P) r) same given)

pub earlier_still : (before old now : Text → ℕ) → Before before old → ((name : Text) → old name ≤ now name) → Before before now
earlier_still before old now earlier later name = let a = earlier name in let b = later name in omega (arith, a, b)

-- What comes after prices were read stands over the counts before them.
pub prices_then : (holds told : Option Files) (before read later : Text → ℕ) (file : List ℕ) (Rest : Store → Prices → Answer → Type 0) (prices : Prices) → told ≡ holds →
    ArePrices (store_of holds before read) file prices → (r : Result Report Refusal) → Gives (Rest (store_of told before later) prices) r →
    Gives (OfPrices Sound (store_of holds before later) file (Rest (store_of holds before later))) r
prices_then holds told before read later file Rest prices same are r given =
    prices_go (store_of holds before later) file (Rest (store_of holds before later)) prices (prices_stay holds before read before later file prices are) r
    (subst (λ h. Gives (Rest (store_of h before later) prices) r) same given)
