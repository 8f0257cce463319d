-- How the tuples of one variable are carried, whatever stands beside it.
use Rattle.std.specs.Prelude.{◌≡◌, ◌≤◌, ℕ, List, [], ◌∷◌, ◌++◌, map, length, slice_get, slice_index_or, Some}
use Rattle.std.specs.List.{position_or_len}
use Rattle.raml_syntax.specs.Tree.{Type'}
use Rattle.base_poly.specs.Plain.{Plain, degrees, alike}
use Rattle.base_poly.specs.Indices.{tuples_up_to}
use Rattle.index_shift.specs.Maps.{Carry, behind, entries, IsTooLarge}
use Rattle.index_shift.specs.declared.entry.Entry.{Entry}
use Rattle.index_shift.specs.Lift.{Middle}
use Rattle.index_shift.specs.declared.lift.Target.{Target}

-- The degrees of the tuples of the types that leave and of those that come, up to a degree, and to what the first are carried.
pub record Alone : Type 0 where
  pub degree : ℕ
  pub old : List ℕ
  pub new : List ℕ
  pub middles : List Middle

-- The target stands for e, to which the tuple m with u behind it is carried: for a tuple of the new types, with u behind it.
pub record IsTarget (Ts : List Type') (d : ℕ) (m u : List Plain) (e : List Plain × ℕ) (t : Target) : Type 0 where
  pub tuple : List Plain
  pub there : slice_get (tuples_up_to Ts d) t.place ≡ Some tuple
  pub degree : t.degree ≡ degrees tuple
  pub low : degrees tuple ≤ degrees m
  pub whole : e.0 ≡ tuple ++ u
  pub times : e.1 ≡ t.times

abbrev pub AreTargets : List Type' → ℕ → List Plain → List Plain → List (List Plain × ℕ) → List Target → Type 0
AreTargets Ts d m u [] [] = Unit {0}
AreTargets Ts d m u (e ∷ es) (t ∷ ts) = IsTarget Ts d m u e t × AreTargets Ts d m u es ts
AreTargets Ts d m u _ _ = ⊥

pub record IsMiddle (c : Carry) (Ts : List Type') (d : ℕ) (m : List Plain) (w : Middle) : Type 0 where
  pub degree : w.degree ≡ degrees m
  pub targets : (u : List Plain) → AreTargets Ts d m u (c (m ++ u)) w.targets

abbrev pub AreMiddles : Carry → List Type' → ℕ → List (List Plain) → List Middle → Type 0
AreMiddles c Ts d [] [] = Unit {0}
AreMiddles c Ts d (m ∷ ms) (w ∷ ws) = IsMiddle c Ts d m w × AreMiddles c Ts d ms ws
AreMiddles c Ts d _ _ = ⊥

-- They say how the tuples of the types Fs are carried to tuples of the types Ts, both of degree at most d.
pub record IsLocal (c : Carry) (Fs Ts : List Type') (d : ℕ) (l : Alone) : Type 0 where
  pub degree : l.degree ≡ d
  pub old : l.old ≡ map degrees (tuples_up_to Fs d)
  pub new : l.new ≡ map degrees (tuples_up_to Ts d)
  pub middles : AreMiddles c Ts d (tuples_up_to Fs d) l.middles

-- the place of a tuple among those of the new types, the degree there, and how often it counts
abbrev pub target_at : List (List Plain) → List ℕ → List Plain × ℕ → Target
target_at us ns e =
    let place = position_or_len (alike e.0) us in
    record { place = place; degree = slice_index_or ns place 0; times = e.1 }

abbrev pub middle_at : Carry → List (List Plain) → List ℕ → List Plain → Middle
middle_at c us ns m = record { degree = degrees m; targets = map (target_at us ns) (c m) }

-- what it is for a way to carry the tuples of Fs alone
abbrev pub alone_of : Carry → List Type' → List Type' → ℕ → Alone
alone_of c Fs Ts d =
    let us = tuples_up_to Ts d in
    record {
      degree = d;
      old = map degrees (tuples_up_to Fs d);
      new = map degrees us;
      middles = map (middle_at c us (map degrees us)) (tuples_up_to Fs d);
    }

-- the types Fs, in the place between As and Bs, give way to Ts, and these are the degrees on both sides and the map in between
pub record StandsBetween (c : Carry) (As Fs Ts Bs : List Type') (d : ℕ) (xs : List ℕ) (l : Alone) (bs : List ℕ) : Type 0 where
  pub before : xs ≡ map degrees (tuples_up_to As d)
  pub local : IsLocal c Fs Ts d l
  pub after : bs ≡ map degrees (tuples_up_to Bs d)

-- The entries are the map between any such contexts.
abbrev pub IsMapBetween : List ℕ → Alone → List ℕ → List Entry → Type 0
IsMapBetween xs l bs es =
    (c : Carry) (As Fs Ts Bs : List Type') (d : ℕ) → StandsBetween c As Fs Ts Bs d xs l bs →
    es ≡ entries (behind (length As) c) (As ++ (Fs ++ Bs)) (As ++ (Ts ++ Bs)) d

-- None of the two has too many indices.
abbrev pub AreSmall : List ℕ → Alone → List ℕ → Type 0
AreSmall xs l bs =
    (c : Carry) (As Fs Ts Bs : List Type') (d : ℕ) → StandsBetween c As Fs Ts Bs d xs l bs →
    IsTooLarge (As ++ (Fs ++ Bs)) (As ++ (Ts ++ Bs)) d → ⊥

-- One of the two has.
abbrev pub AreLarge : List ℕ → Alone → List ℕ → Type 0
AreLarge xs l bs =
    (c : Carry) (As Fs Ts Bs : List Type') (d : ℕ) → StandsBetween c As Fs Ts Bs d xs l bs →
    IsTooLarge (As ++ (Fs ++ Bs)) (As ++ (Ts ++ Bs)) d
