-- Potential pays for what evaluation costs.
use Rattle.std.specs.Prelude.{◌≡◌, ◌≤◌, ◌<◌, ◌⊎◌, ℕ, ◌*◌, ◌/◌, unsigned_abs, List, slice_get, Some}
use Rattle.std.specs.List.{All, Contains}
use Rattle.raml_syntax.specs.Tree.{Type', Function, Prog}
use Rattle.raml_syntax.specs.Value.{Value, HaveTypes}
use Rattle.raml_syntax.specs.Types as source
use Rattle.raml_syntax.specs.Types.{Typed}
use Rattle.raml_syntax.specs.Node.{AllNodes, NumberFits}
use Rattle.base_poly.specs.Poly.{Term}
use Rattle.poly_point.specs.Point.{worth}
use Rattle.index_shift.specs.Potential.{Annotation}
use Rattle.normal_spec.specs.Norm.{Norm, NormFun}
use Rattle.normal_spec.specs.Run.{NormEnv, eval_norm}
use Rattle.normal_spec.specs.Two.{norm}
use Rattle.normal_spec.specs.Uses.{Context, types, Uses, IsNormal}
use Rattle.cost_free.specs.declared.task.Meter.{Meter}
use Rattle.cost_free.specs.declared.task.Meter.TheVariants.{Cells}
use Rattle.cost_free.specs.Task as k
use Rattle.annot_types.specs.Program.{Program}
use Rattle.annot_types.specs.Certificate.{Sig, Hint, Block, Certificate}
use Rattle.annot_types.specs.Signature.{sig_in}
use Rattle.annot_types.specs.Rules.{Mode, Past, Setting, Ann}
use Rattle.annot_types.specs.Holds.{mode_of, budget_of, setting, Holds}
use Rattle.annot_types.specs.Held.{before, scale_of, scale_for, terms_of, lines, Claim, Bound, Line, Held}
use Rattle.stack_compile.specs.Laws.{at}
use Rattle.rules_soundness_laws.specs.Enough.{IsTyped, Enough}
use Rattle.rules_soundness_laws.specs.Bounds.{BoundsNormal, Bounds}

-- Over the blocks before a place of a certificate a block holds with t.
abbrev pub HoldsAt : Program → Certificate → ℕ → Block → ℕ → Type 0
HoldsAt P c place block t = Holds P c.degree (before c place) (scale_for c block.task.kind) block t

abbrev pub setting_at : Program → Certificate → ℕ → Block → ℕ → Setting
setting_at P c place block t = setting P c.degree (before c place) (scale_for c block.task.kind) block t

-- where derivations over a block stand: in the block's mode at its budget or more, and in mode Past at any
abbrev pub StandsOver : ℕ → Block → Mode → ℕ → Type 0
StandsOver degree block mode d = ((mode ≡ mode_of block.task.kind) × (budget_of degree block.task.kind ≤ d)) ⊎ (mode ≡ Past)

-- Of a certificate that is held, a form that fits the rules over a block, which holds over those before it: at every
-- limit, the potential of the context is enough for what the run owes and for the potential of its outcome. So without
-- cost potential does not rise; with cost it falls by what the run costs; and where the run is cut, there was enough
-- for what it cost so far.
abbrev pub FormsPay : Type 0
FormsPay =
    (P : Program) → All (IsNormal P.funs) P.funs → (c : Certificate) → Held P c →
    (place : ℕ) (block : Block) (t : ℕ) → HoldsAt P c place block t →
    (mode : Mode) (d : ℕ) → StandsOver c.degree block mode d →
    (C : Context) (env : NormEnv) → IsTyped C env → (e : Norm) (T : Type') → Uses P.funs C e T →
    (q r : Annotation) (hs out : List Hint) → Ann (setting_at P c place block t) mode d C q e T r hs out →
    (n : ℕ) → Enough (scale_for c block.task.kind * t) mode d C env q T r (eval_norm P.funs n env e)

-- Over the blocks before a place of a certificate a block of the meter holds with t, and has this signature for the
-- function. Each solved block of a held certificate with cost holds so with 1.
pub record Signs (P : Program) (c : Certificate) (meter : Meter) (t f : ℕ) (s : Sig) : Type 0 where
  pub place : ℕ
  pub block : Block
  pub kind : block.task.kind ≡ k.With meter
  pub holds : HoldsAt P c place block t
  pub sig : sig_in P block f ≡ Some s

-- So the annotation of the arguments, over the scale of the meter times t, bounds the runs of the function's normal form.
abbrev pub NormalRunsAreBounded : Type 0
NormalRunsAreBounded =
    (P : Program) → All (IsNormal P.funs) P.funs → (c : Certificate) → Held P c →
    (meter : Meter) (t f : ℕ) (g : NormFun) (s : Sig) → slice_get P.funs f ≡ Some g → Signs P c meter t f s →
    BoundsNormal P.funs g meter (unsigned_abs (scale_of c meter) * t) (terms_of (types g.params) c.degree s.args)

-- the normal form of a program, with these groups of its functions
abbrev pub normal_of : Prog → List (List ℕ) → Program
normal_of P groups = record { funs = norm P; groups = groups }

-- It bounds the function of the source, and the machine that runs it.
abbrev pub SourcesAreBounded : Type 0
SourcesAreBounded =
    (P : Prog) → Typed P → All (λ (g : Function). AllNodes NumberFits g.body) P →
    (groups : List (List ℕ)) (c : Certificate) → Held (normal_of P groups) c →
    (meter : Meter) (t f : ℕ) (fun : Function) (s : Sig) → slice_get P f ≡ Some fun → Signs (normal_of P groups) c meter t f s →
    Bounds P f fun meter (unsigned_abs (scale_of c meter) * t) (terms_of (source.types_of fun) c.degree s.args)

-- A polynomial that is claimed of a function and a meter is a bound. Of the other claims nothing is said here.
abbrev pub IsTrue : Prog → ℕ → Meter → Claim → Type 0
IsTrue P f meter (Bound den terms) = (fun : Function) → slice_get P f ≡ Some fun → Bounds P f fun meter den terms
IsTrue P f meter claim = Unit {0}

-- Each polynomial in the lines of a certificate that is held is a bound.
abbrev pub LinesAreTrue : Type 0
LinesAreTrue =
    (P : Prog) → Typed P → All (λ (g : Function). AllNodes NumberFits g.body) P →
    (groups : List (List ℕ)) (c : Certificate) → Held (normal_of P groups) c →
    (l : Line) → Contains (lines (normal_of P groups) c) l → IsTrue P l.fun l.meter l.claim

-- Where the cells of a function are bounded, the machine that runs it never has more than the whole part of the bound.
abbrev pub CellsStayBelow : Type 0
CellsStayBelow =
    (P : Prog) (f : ℕ) (fun : Function) (den : ℕ) (terms : List Term) → 0 < den → Bounds P f fun Cells den terms →
    (args : List Value) (m : ℕ) → HaveTypes args (source.types_of fun) → (at P f args m).cells ≤ worth terms args / den
