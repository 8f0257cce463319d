-- A file has no more lines than bytes.
use Rattle.std.proofs.Common.{◌≡◌, ◌+◌, ◌≤◌, ℕ, Bool, true, false, cond, List, [], ◌∷◌, length, refl, arith}
use Rattle.std.specs.Prelude.{nat_eq}
use Rattle.raml_syntax.specs.Tree.{Text, Prog}
use Rattle.bound_file.specs.Lines.{Line, Declaration}
use Rattle.bound_file.specs.Answers.{longer, lines_in, DeclareEach, Spells}

longer_by_one : (byte : ℕ) (lines : List Text) → length (longer byte lines) ≤ 1 + length lines
longer_by_one byte [] = omega arith
longer_by_one byte (line ∷ lines) = omega arith

lines_are_fewer : (bytes : Text) → length (lines_in bytes) ≤ length bytes
lines_are_fewer [] = omega arith
lines_are_fewer (byte ∷ bytes) = by (nat_eq byte 10) (lines_are_fewer bytes) where
  by : (b : Bool) → length (lines_in bytes) ≤ length bytes → length (cond b ([] ∷ lines_in bytes) (longer byte (lines_in bytes))) ≤ length (byte ∷ bytes)
  by true h = omega (arith, h)
  by false h = omega (arith, h, longer_by_one byte (lines_in bytes))

module _ (P : Prog) (degree : ℕ) where
  as_many : (texts : List Text) (lines : List Line) → DeclareEach P degree texts lines → length lines ≡ length texts
  as_many [] [] h = refl
  as_many [] (line ∷ lines) h = absurd h
  as_many (text ∷ texts) [] h = absurd h
  as_many (text ∷ texts) (line ∷ lines) h = omega (arith, as_many texts lines h.1)

  pub declared_are_few : (bytes : Text) (D : Declaration) → Spells P degree bytes D → length D.lines ≤ length bytes
  declared_are_few bytes D h = omega (arith, lines_are_fewer bytes, as_many (lines_in bytes) D.lines h.lines.each)
