-- Small texts, worked out by hand.
use Rattle.std.specs.Prelude.{◌≡◌, ℕ, None, Some, [], ◌∷◌, codes}
use Rattle.lsp_language.specs.declared.span.Span.{Span}
use Rattle.explain_regions.specs.Lines.{Line}
use Rattle.explain_profile.specs.declared.runs.Runs.TheVariants as r
use Rattle.explain_counts.specs.Parts.{part_of}
use Rattle.explain_counts.specs.Lines.{first_of}
use Rattle.explain_counts.specs.Counts.{at_most, count_text}

abbrev part : ℕ → ℕ → Span
part start end = record { start = start; end = end }

abbrev line : ℕ → Line
line at = record { at = at; region = 0; ticks = 0; cells = 0; work = 1 }

pub record Examples : Type 0 where
  pub indented : part_of (codes "a\n  bc \n") 6 ≡ part 4 7
  pub in_the_indentation : part_of (codes "a\n  bc \n") 2 ≡ part 4 7
  pub no_text : part_of (codes "a\n  \n") 3 ≡ part 4 4
  pub first : first_of (part 4 7) (line 1 ∷ line 4 ∷ line 6 ∷ []) ≡ Some (line 4)
  pub none : first_of (part 4 7) (line 1 ∷ line 7 ∷ []) ≡ None
  pub bound : at_most (codes "n + 1") (codes "n = |l|") ≡ codes "at most `n + 1`, `n = |l|`"
  pub constant : at_most (codes "1") [] ≡ codes "at most `1`"
  pub no_bound : count_text (codes "f") r.NoBound ≡ codes "runs in a call of `f`: no bound"
