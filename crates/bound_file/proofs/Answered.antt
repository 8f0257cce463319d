-- What is answered is what the bytes are.
use Rattle.std.proofs.Common.{◌≡◌, ◌<◌, true, false, [], ◌∷◌, ◌+◌, ℕ, zero, suc, List, length, Result, Ok, Err, refl, subst, sym, ap, ◌∙◌, arith}
use Rattle.std.specs.Prelude.{◌==◌}
use Rattle.std.specs.List.{All}
use Rattle.std.specs.Str.{IsUtf8}
use Rattle.raml_syntax.specs.Tree.{Text, Prog}
use Rattle.bound_file.specs.Lines.{Line, Declaration, IsProper}
use Rattle.bound_file.specs.Answers.{lines_in, AreDeclared, Spells, FirstFault, Answers, AreWithin, OfFault}
use Rattle.bound_file.specs.Laws.{FilesHaveOneAnswer}
use Rattle.bound_file.specs.Read.{line_of, lines_of, IsSigned, IsSound}
use Rattle.raml_syntax.specs.Cut.{cut_at}
use Rattle.bound_file.specs.Reading.{line_added}
use Rattle.bound_file.specs.Lined.{Lines, first_of, numbered, read_lines, Reads, Leaves, at_line}
use Rattle.bound_file.specs.declared.declaration.DeclLine.{DeclLine}
use Rattle.bound_file.specs.declared.fault.DeclFault.{DeclFault}
use Rattle.bound_file.specs.declared.fault.DeclFault.TheVariants as f
use Rattle.bound_file.specs.declared.fault.DeclError.{DeclError}
use Rattle.bound_file.specs.declared.fault.DeclError.TheVariants as e
use Rattle.bound_file.specs.declared.fault.LineError.{LineError}
use Rattle.bound_file.specs.declared.fault.LineError.TheVariants as l
use Rattle.bound_file.proofs.Cuts.{line_and_more, lines_step}
use Rattle.bound_file.proofs.Told.{IsFileAs, whole, told, fault_stays, all_declared, declared_proper, declared_within, one_answer}

module _ (P : Prog) (d : ℕ) where
  -- the first line of what is left is read next
  read_first : (lines : List Line) (number : ℕ) (rest line behind : Text) → 0 < length rest → (line, behind) ≡ first_of rest (cut_at 10 rest) →
      read_lines P d (Ok lines) number (lines_in rest) ≡ read_lines P d (numbered (number + 1) (line_added P d lines line)) (number + 1) (lines_in behind)
  read_first lines number rest line behind h cut =
      let one : suc number ≡ number + 1 = omega arith in
      ap (read_lines P d (Ok lines) number) (lines_step rest h ∙ ap line_and_more (sym cut))
      ∙ ap (λ k. read_lines P d (numbered k (line_added P d lines line)) k (lines_in behind)) one

  pub read_on : (all : Lines) (lines new : List Line) (number : ℕ) (rest line behind : Text) → 0 < length rest → (line, behind) ≡ first_of rest (cut_at 10 rest) → line_added P d lines line ≡ Ok new →
      all ≡ read_lines P d (Ok lines) number (lines_in rest) → all ≡ read_lines P d (Ok new) (number + 1) (lines_in behind)
  read_on all lines new number rest line behind h cut step e =
      e ∙ read_first lines number rest line behind h cut ∙ ap (λ r. read_lines P d (numbered (number + 1) r) (number + 1) (lines_in behind)) step

  pub read_fault : (all : Lines) (lines new : List Line) (number : ℕ) (rest line behind : Text) (error : LineError) → 0 < length rest → (line, behind) ≡ first_of rest (cut_at 10 rest) →
      Leaves (Err error) new (line_added P d lines line) → all ≡ read_lines P d (Ok lines) number (lines_in rest) → Reads (Err (at_line (number + 1) error)) all
  read_fault all lines new number rest line behind (l.Fault fault) h cut step e =
      e ∙ read_first lines number rest line behind h cut ∙ ap (λ r. read_lines P d (numbered (number + 1) r) (number + 1) (lines_in behind)) step ∙ fault_stays P d (f.Line (number + 1) fault) (number + 1) (lines_in behind)
  read_fault all lines new number rest line behind l.NoMemory h cut step e = tt

  -- The whole
  module _ (bytes : Text) (utf8 : IsUtf8 bytes) where
    file : (lines : List Line) → whole P d bytes ≡ Ok lines → AreDeclared P d (lines_in bytes) lines
    file lines e = subst (IsFileAs P d bytes) e (told P d bytes utf8)

    pub spells : (lines : List Line) → whole P d bytes ≡ Ok lines → Spells P d bytes (record { degree = d; lines = lines })
    spells lines e = record { utf8 = utf8; degree = refl; lines = file lines e }

    pub within : (lines : List Line) → whole P d bytes ≡ Ok lines → AreWithin P (record { degree = d; lines = lines })
    within lines e = all_declared P d _ (declared_within P d) (lines_in bytes) lines (file lines e).each

    pub proper : (lines : List Line) → whole P d bytes ≡ Ok lines → All IsProper lines
    proper lines e = all_declared P d IsProper (declared_proper P d) (lines_in bytes) lines (file lines e).each

    pub refused : (error : DeclError) → Reads (Err error) (whole P d bytes) → OfFault (FirstFault P d bytes) error
    refused (e.Fault fault) h = subst (IsFileAs P d bytes) h (told P d bytes utf8)
    refused e.NoMemory h = tt

pub sound : (ls : List DeclLine) → All IsProper (lines_of ls) → All IsSigned ls → All IsSound ls
sound [] p s k d low = absurd (omega (arith, low))
sound (x ∷ ls) p s zero d low = record { proper = p 0 (line_of x) (omega arith); positive = s 0 x (omega arith) }
sound (x ∷ ls) p s (suc k) d low = sound ls (λ j e h. p (suc j) e (omega (arith, h))) (λ j e h. s (suc j) e (omega (arith, h))) k d (omega (arith, low))

pub not_empty : (text : Text) → false ≡ (length text == 0) → 0 < length text
not_empty [] e = absurd (let p : false ≡ true = e in cc)
not_empty (byte ∷ text) e = omega arith

pub files_have_one_answer : FilesHaveOneAnswer
files_have_one_answer = record {
  one = one_answer;
  some = λ P d bytes utf8. at P d bytes (whole P d bytes) utf8 (told P d bytes utf8);
}
  where
    at : (P : Prog) (d : ℕ) (bytes : Text) (r : Lines) → IsUtf8 bytes → IsFileAs P d bytes r → (answer : Result Declaration DeclFault) × Answers P d bytes answer
    at P d bytes (Ok lines) utf8 h = (Ok (record { degree = d; lines = lines }), record { utf8 = utf8; degree = refl; lines = h })
    at P d bytes (Err fault) utf8 h = (Err fault, h)
