-- The lines of a certificate, and what they say.
use Rattle.std.specs.Prelude.{◌≡◌, ◌<◌, ℕ, List, [], ◌∷◌, length, flat_map}
use Rattle.std.specs.List.{Contains, range_with_len}
use Rattle.raml_syntax.specs.Tree.{Text, Prog}
use Rattle.cost_free.specs.declared.task.Meter.{Meter}
use Rattle.cost_free.specs.Schedule.{meters}
use Rattle.annot_types.specs.Program.{Program}
use Rattle.annot_types.specs.Certificate.{Certificate, has_work}
use Rattle.annot_types.specs.Held.{Claim, Line, line, lines_for, lines}
use Rattle.rules_soundness_laws.specs.Laws.{IsTrue}
use Rattle.infer_spec.specs.Lines.{Tells}
use Rattle.report_text.specs.Claims.{lines_text}

-- the lines of a function: one for each meter
abbrev pub lines_of : Program → Certificate → ℕ → List Line
lines_of N c f = flat_map (lines_for N c f) (meters (has_work c))

-- this is what the certificate claims of a function and a meter, and nothing else
abbrev pub Claims : Program → Certificate → ℕ → Meter → Claim → Type 0
Claims N c f meter claim = lines_for N c f meter ≡ line f meter claim ∷ []

-- the text of the lines of n functions, from this one on
abbrev pub lines_between : Prog → Program → Certificate → ℕ → ℕ → Text
lines_between P N c f n = lines_text P (flat_map (lines_of N c) (range_with_len f n))

-- the functions below this one have a claim for each meter
abbrev pub AllClaim : Program → Certificate → ℕ → Type 0
AllClaim N c n = (f : ℕ) (meter : Meter) → f < n → Contains (meters (has_work c)) meter → (claim : Claim) × Claims N c f meter claim

-- The text is the lines: one for each function, in the order of the source, and each meter.
pub record AreLines (P : Prog) (N : Program) (c : Certificate) (text : Text) : Type 0 where
  pub is : text ≡ lines_text P (lines N c)
  pub each : AllClaim N c (length P)

-- The text is the lines of one meter: one for each function, in the order of the source.
pub record AreMeterLines (P : Prog) (N : Program) (c : Certificate) (meter : Meter) (text : Text) : Type 0 where
  pub is : text ≡ lines_text P (flat_map (λ f. lines_for N c f meter) (range_with_len 0 (length P)))
  pub each : (f : ℕ) → f < length P → (claim : Claim) × Claims N c f meter claim

-- What the lines of a certificate say is true: a polynomial bounds what the function costs; where there is none, the
-- task of the function's group is refuted, or waits for a function that is told.
pub record LinesHold (P : Prog) (N : Program) (c : Certificate) : Type 0 where
  pub bounds : (l : Line) → Contains (lines N c) l → IsTrue P l.fun l.meter l.claim
  pub tell : (l : Line) → Contains (lines N c) l → Tells N c l.fun l.meter l.claim
