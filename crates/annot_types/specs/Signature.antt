-- Which signatures of blocks a call can take.
use Rattle.std.specs.Prelude.{ℕ, nat_eq, List, [], ◌∷◌, cond, Option, Some, None}
use Rattle.cost_free.specs.declared.task.Meter.{Meter}
use Rattle.cost_free.specs.Task.{Kind, Free, With}
use Rattle.cost_free.specs.Blocked.{is_for_meter}
use Rattle.annot_types.specs.Program.{Program, members}
use Rattle.annot_types.specs.Certificate.{Sig, Block, sigs_of}

-- the signature of a function, where these are the functions of a group and their signatures
abbrev pub sig_among : List ℕ → List Sig → ℕ → Option Sig
sig_among (g ∷ gs) (s ∷ ss) f = cond (nat_eq f g) (Some s) (sig_among gs ss f)
sig_among _ _ f = None

-- the signature that a solved block has for a function of its group
abbrev pub sig_in : Program → Block → ℕ → Option Sig
sig_in P block f = sig_among (members P block.task.group) (sigs_of block.body) f

-- the budget of a cost-free block
abbrev pub free_budget : Kind → Option ℕ
free_budget (Free budget fun target) = Some budget
free_budget (With meter) = None

-- the first, or else the second
abbrev pub or_else : Option Sig → Option Sig → Option Sig
or_else None other = other
or_else (Some s) other = Some s

-- the signature with cost: of the first block of the meter that has one for the function
abbrev pub cost_sig : Program → Meter → List Block → ℕ → Option Sig
cost_sig P meter [] f = None
cost_sig P meter (b ∷ bs) f = or_else (cond (is_for_meter meter b.task.kind) (sig_in P b f) None) (cost_sig P meter bs f)
