-- The lines of a meter are lines of the certificate.
use Rattle.std.proofs.Common.{◌<◌, ℕ, length, flat_map, List, sym, ◌∙◌, subst, arith}
use Rattle.std.specs.List.{Contains, range_with_len}
use Rattle.std.proofs.lemmas.List.FromFn.{length-range_with_len, get_or-range_with_len}
use Rattle.base_poly.proofs.Among.{contains_among, among_contains, part_among}
use Rattle.cost_free.specs.declared.task.Meter.{Meter}
use Rattle.cost_free.specs.Schedule.{meters}
use Rattle.annot_types.specs.Program.{Program}
use Rattle.annot_types.specs.Certificate.{Certificate, has_work}
use Rattle.annot_types.specs.Held.{Line, lines_for, lines}

pub meter_lines_are_lines : (N : Program) (c : Certificate) (f : ℕ) (meter : Meter) (l : Line) → f < length N.funs → Contains (meters (has_work c)) meter →
    Contains (lines_for N c f meter) l → Contains (lines N c) l
meter_lines_are_lines N c f meter l below counted there =
    among_contains l (lines N c)
    (part_among of_function f l (range_with_len 0 (length N.funs)) (contains_among f (range_with_len 0 (length N.funs)) in_range)
    (part_among (lines_for N c f) meter l (meters (has_work c)) (contains_among meter (meters (has_work c)) counted) (contains_among l (lines_for N c f meter) there)))
  where
    of_function : ℕ → List Line
    of_function = λ g. flat_map (lines_for N c g) (meters (has_work c))

    in_range : Contains (range_with_len 0 (length N.funs)) f
    in_range = (f, subst (λ n. f < n) (sym (length-range_with_len 0 (length N.funs))) below, get_or-range_with_len 0 (length N.funs) f f below ∙ omega arith)
