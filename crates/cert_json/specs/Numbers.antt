-- What holds of all numbers in a part of a certificate: P of those of the analysis, and the others fit their fields.
use Rattle.std.specs.Prelude.{ℕ, ◌^◌, ◌<◌, ℤ, List, Option, FitsSigned}
use Rattle.std.specs.Int.{w128}
use Rattle.cost_free.specs.Task.{Kind, Free, With}
use Rattle.cert_json.specs.Parts.{Entries, Sig, Hint, Let, Share, Call, Body, Solved, Refuted, Calls, Block, Certificate}
use Rattle.cert_json.specs.Fits.{Each, FitsOption}

-- the number fits 128 bits
abbrev pub Wide : ℤ → Type 0
Wide z = FitsSigned w128 z

pub record EntryHas (P : ℤ → Type 0) (e : ℕ × ℤ) : Type 0 where
  pub position : e.0 < 2 ^ 32
  pub number : P e.1

abbrev pub EntriesHave : (ℤ → Type 0) → Entries ℤ → Type 0
EntriesHave P es = Each (EntryHas P) es

pub record SigHas (P : ℤ → Type 0) (s : Sig ℤ) : Type 0 where
  pub args : EntriesHave P s.args
  pub result : EntriesHave P s.result

abbrev pub HintHas : (ℤ → Type 0) → Hint ℤ → Type 0
HintHas P (Let annots) = Each (EntriesHave P) annots
HintHas P (Share annot) = EntriesHave P annot
HintHas P (Call uses) = EntriesHave P uses

abbrev pub HintsHave : (ℤ → Type 0) → List (Hint ℤ) → Type 0
HintsHave P hs = Each (HintHas P) hs

abbrev pub BodyHas : (ℤ → Type 0) → Body ℤ → Type 0
BodyHas P (Solved sigs hints) = Each (SigHas P) sigs × Each (HintsHave P) hints
BodyHas P (Refuted farkas) = EntriesHave P farkas
BodyHas P (Calls fun) = fun < 2 ^ 32

abbrev pub KindFits : Kind → Type 0
KindFits (Free budget fun target) = (budget < 256) × (fun < 2 ^ 32) × (target < 2 ^ 32)
KindFits (With meter) = Unit {0}

pub record BlockHas (P : ℤ → Type 0) (b : Block ℤ) : Type 0 where
  pub group : b.task.group < 2 ^ 32
  pub kind : KindFits b.task.kind
  pub body : BodyHas P b.body

pub record ScaleHas (P : ℤ → Type 0) (t c : ℤ) (w : Option ℤ) : Type 0 where
  pub ticks : P t
  pub cells : P c
  pub work : FitsOption P w

pub record CertificateHas (P : ℤ → Type 0) (c : Certificate ℤ) : Type 0 where
  pub ticks : P c.head.ticks
  pub cells : P c.head.cells
  pub work : FitsOption P c.head.work
  pub blocks : Each (BlockHas P) c.blocks
