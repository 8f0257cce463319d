-- What is answered is what the bytes are.
use Rattle.std.proofs.Common.{◌≡◌, ◌<◌, true, false, [], ◌∷◌, ◌+◌, ℕ, suc, length, Result, Ok, Err, subst, sym, ap, ◌∙◌, arith}
use Rattle.std.specs.Prelude.{◌==◌, IfOk, IfErr}
use Rattle.std.specs.Result.{IsErr, IsErrAnd}
use Rattle.std.specs.Str.{IsUtf8}
use Rattle.raml_syntax.specs.Tree.{Text}
use Rattle.price_file.specs.Spelling.{lines_of, Table, prices_in, Spells, FirstFault}
use Rattle.price_file.specs.Listed.{Listed, or_free}
use Rattle.raml_syntax.specs.Cut.{cut_at}
use Rattle.price_file.specs.Reading.{first_of, entry_of, with_entry, read_lines}
use Rattle.price_file.specs.Read.{prices_of, Reads}
use Rattle.price_file.specs.declared.prices.Prices as p
use Rattle.price_file.specs.declared.fault.PriceFault.{PriceFault}
use Rattle.price_file.proofs.Cuts.{line_and_more, lines_step}
use Rattle.price_file.proofs.Tables.{Told, told, whole, fault_stays}

-- of a text, which is these bytes
read_as : (text bytes : Text) (r : Result p.Prices PriceFault) → text ≡ bytes → Reads r (whole text) → Reads r (whole bytes)
read_as text bytes r e h = subst (λ t. Reads r (whole t)) e h

pub table_answered : (text bytes : Text) (r : Result p.Prices PriceFault) → (text ≡ bytes) × IsUtf8 bytes → Reads r (whole text) → IfOk r (λ prices. (table : Table) × Spells bytes table × (prices_of prices ≡ prices_in table))
table_answered text bytes (Ok prices) e h =
    let t = subst (Told bytes) (read_as text bytes (Ok prices) e.0 h) (told bytes e.1) in
    (t.0, t.1, λ i construct. ap or_free (t.2.at construct) i)
table_answered text bytes (Err fault) e h = tt

pub fault_answered : (text bytes : Text) (r : Result p.Prices PriceFault) → (text ≡ bytes) × IsUtf8 bytes → Reads r (whole text) → IfErr r (FirstFault bytes)
fault_answered text bytes (Ok prices) e h = tt
fault_answered text bytes (Err fault) e h = subst (Told bytes) (read_as text bytes (Err fault) e.0 h) (told bytes e.1)

-- the first line of what is left is read next
pub read_first : (list : Listed) (number : ℕ) (rest line behind : Text) → 0 < length rest → (line, behind) ≡ first_of rest (cut_at 10 rest) → read_lines (Ok list) number (lines_of rest) ≡ read_lines (with_entry list (number + 1) (entry_of line)) (number + 1) (lines_of behind)
read_first list number rest line behind h cut =
    let one : suc number ≡ number + 1 = omega arith in
    ap (read_lines (Ok list) number) (lines_step rest h ∙ ap line_and_more (sym cut))
    ∙ ap (λ k. read_lines (with_entry list k (entry_of line)) k (lines_of behind)) one

pub read_on : (whole : Result Listed PriceFault) (list new : Listed) (number : ℕ) (rest line behind : Text) → 0 < length rest → (line, behind) ≡ first_of rest (cut_at 10 rest) → with_entry list (number + 1) (entry_of line) ≡ Ok new → whole ≡ read_lines (Ok list) number (lines_of rest) → whole ≡ read_lines (Ok new) (number + 1) (lines_of behind)
read_on whole list new number rest line behind h cut step e =
    e ∙ read_first list number rest line behind h cut ∙ ap (λ r. read_lines r (number + 1) (lines_of behind)) step

pub read_fault : (whole : Result Listed PriceFault) (list : Listed) (fault : PriceFault) (number : ℕ) (rest line behind : Text) → 0 < length rest → (line, behind) ≡ first_of rest (cut_at 10 rest) → with_entry list (number + 1) (entry_of line) ≡ Err fault → whole ≡ read_lines (Ok list) number (lines_of rest) → whole ≡ Err fault
read_fault whole list fault number rest line behind h cut step e =
    e ∙ read_first list number rest line behind h cut ∙ ap (λ r. read_lines r (number + 1) (lines_of behind)) step ∙ fault_stays fault (number + 1) (lines_of behind)

pub fault_passed : (r : Result p.Prices PriceFault) (read : Result Listed PriceFault) (fault : PriceFault) → IsErr r → IsErrAnd r (λ x. x ≡ fault) → read ≡ Err fault → Reads r read
fault_passed (Ok x) read fault e w k = absurd (let p : false ≡ true = e in cc)
fault_passed (Err x) read fault e w k = k ∙ ap Err (sym w)

pub not_empty : (text : Text) → false ≡ (length text == 0) → 0 < length text
not_empty [] e = absurd (let p : false ≡ true = e in cc)
not_empty (byte ∷ text) e = omega arith
