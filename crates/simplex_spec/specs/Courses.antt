-- Lawful pivots from a system's opening tableau, how they end, and rules of the entering column.
use Rattle.std.specs.Prelude.{◌≡◌, ◌≢◌, ℕ, ◌<◌, List, [], ◌∷◌, length, take, ℤ, pos, ◌≤ℤ◌, ◌<ℤ◌, Option, Some}
use Rattle.linear_rows.specs.Systems.{LinearSystem}
use Rattle.simplex_spec.specs.Places.{at, row_at}
use Rattle.simplex_spec.specs.Tableaux.{Tableau, right, opening, pivot, entry, Exits}
use Rattle.simplex_spec.specs.Refusals.{Refused, least_number}

-- column c, before the right side, has positive gain
pub record Enters (s : LinearSystem) (t : Tableau) (c : ℕ) : Type 0 where
  pub before : c < right s
  pub gain : pos 0 <ℤ at t.gains c

-- a pivot in row l and column c is lawful, and no number of it leaves the range of fractions
pub record IsPivot (s : LinearSystem) (t : Tableau) (l c : ℕ) : Type 0 where
  pub enters : Enters s t c
  pub exits : Exits s c t l
  pub whole : (i k : ℕ) → Refused s t c i k → ⊥

-- the pivots, each a row and a column, lead from t to u
abbrev pub Leads : LinearSystem → Tableau → List (ℕ × ℕ) → Tableau → Type 0
Leads s t [] u = t ≡ u
Leads s t (p ∷ ps) u = IsPivot s t p.0 p.1 × Leads s (pivot p.0 p.1 t) ps u

-- no number of the opening tableau leaves the range, and the pivots lead from it to t
pub record Course (s : LinearSystem) (pivots : List (ℕ × ℕ)) (t : Tableau) : Type 0 where
  pub opens : (i c : ℕ) → entry (opening s) i c ≢ least_number
  pub leads : Leads s (opening s) pivots t

-- no gain is left
pub record Ends (s : LinearSystem) (pivots : List (ℕ × ℕ)) (t : Tableau) : Type 0 where
  pub course : Course s pivots t
  pub none : (c : ℕ) → c < right s → at t.gains c ≤ℤ pos 0

-- column c has gain, and no row bounds it
pub record Rises (s : LinearSystem) (pivots : List (ℕ × ℕ)) (t : Tableau) (c : ℕ) : Type 0 where
  pub course : Course s pivots t
  pub enters : Enters s t c
  pub none : (i : ℕ) → i < length t.rows → at (row_at t.rows i) c ≤ℤ pos 0

-- a rule: the column that it answers for gains, which stand over a positive number
abbrev pub Rule : Type 1
Rule = List ℤ → ℤ → Option ℕ → Type 0

-- the rule that answers by a function of the gains and of what they are over
abbrev pub rule_by : (List ℤ → ℤ → Option ℕ) → Rule
rule_by pick ns d o = pick ns d ≡ o

-- for gains over a positive number, the rule has one answer
abbrev pub AnswersOnce : Rule → Type 0
AnswersOnce rule = (ns : List ℤ) (d : ℤ) (o p : Option ℕ) → pos 0 <ℤ d → rule ns d o → rule ns d p → o ≡ p

-- for the gains of the columns before the right side, the rule answers column c
abbrev pub Answers : Rule → LinearSystem → Tableau → ℕ → Type 0
Answers rule s t c = rule (take (right s) t.gains) t.over (Some c)

-- from t on, each entering column is the rule's answer
abbrev pub FollowsFrom : Rule → LinearSystem → Tableau → List (ℕ × ℕ) → Type 0
FollowsFrom rule s t [] = Unit {0}
FollowsFrom rule s t (p ∷ ps) = Answers rule s t p.1 × FollowsFrom rule s (pivot p.0 p.1 t) ps

abbrev pub Follows : Rule → LinearSystem → List (ℕ × ℕ) → Type 0
Follows rule s pivots = FollowsFrom rule s (opening s) pivots

-- after some pivots by the rule, its column has gain and no row bounds it
pub record RisesBy (rule : Rule) (s : LinearSystem) : Type 0 where
  pub pivots : List (ℕ × ℕ)
  pub t : Tableau
  pub column : ℕ
  pub rises : Rises s pivots t column
  pub follows : Follows rule s pivots
  pub answers : Answers rule s t column

-- after these pivots, all by the rule, the number at (i, c) leaves the range of fractions: at the opening,
-- or with the rule's entering column e
pub data Refuses (rule : Rule) (s : LinearSystem) (pivots : List (ℕ × ℕ)) (i c : ℕ) : Type 0 where
  AtOpening : pivots ≡ [] → entry (opening s) i c ≡ least_number → Refuses rule s pivots i c
  AtPivot : (t : Tableau) (e : ℕ) → Course s pivots t → Follows rule s pivots → Enters s t e →
      Answers rule s t e → Refused s t e i c → Refuses rule s pivots i c
