-- A sink, as a call sees it.
use Rattle.std.specs.Prelude.{◌≡◌, ◌⊎◌, ℕ, Option}
use Rattle.raml_io.specs.Faults.{Rose}
use Rattle.raml_io.specs.Written.{grown, GrewByFront}
use Rattle.raml_syntax.specs.Tree.{Text}

-- how often a put had failed before the call, and after it, and what it tells that was written before the call, and after it
pub record Sink : Type 0 where
  pub before : ℕ
  pub after : ℕ
  pub old : Option Text
  pub new : Option Text

abbrev pub sink_of : ℕ → ℕ → Option Text → Option Text → Sink
sink_of before after old new = record { before = before; after = after; old = old; new = new }

-- nothing is written
abbrev pub GainsNothing : Sink → Type 0
GainsNothing sink = sink.new ≡ sink.old

-- all of a text is written
abbrev pub Gains : Text → Sink → Type 0
Gains text sink = sink.new ≡ grown sink.old text

-- the sink fails, and a front of a text is written
abbrev pub GainsFront : Text → Sink → Type 0
GainsFront text sink = Rose sink.before sink.after × GrewByFront sink.old sink.new text

-- all of a text is written, or a front of it, where the sink fails
abbrev pub Writes : Text → Sink → Type 0
Writes text sink = Gains text sink ⊎ GainsFront text sink
