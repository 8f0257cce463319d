-- Small cases, worked out by hand.
use Rattle.std.specs.Prelude.{◌≡◌, pos, negsuc, List, [], ◌∷◌, codes}
use Rattle.base_poly.specs.Plain.{Unit'}
use Rattle.base_poly.specs.Poly.{Term}
use Rattle.bound_compare.specs.Compare.{number_at}
use Rattle.bound_compare.specs.Laws.{picks}
use Rattle.bound_compare.specs.Powers.{falling, power_at, positive, negative, powers_of}
use Rattle.bound_compare.specs.Text.{powers_text, bound_text, powers_line, not_flat_line, compared_line}
use Rattle.bound_compare.specs.declared.relation.Relation.TheVariants.{Below}
use Rattle.bound_compare.specs.declared.compared.Compared.TheVariants.{Absent, NoBound, Bounds}

-- the work of quicksort: 4 + 24*<[_]> + 23*<[_, _]>
abbrev quicksort : List Term
quicksort = (picks 0 ∷ [], 4) ∷ (picks 1 ∷ [], 24) ∷ (picks 2 ∷ [], 23) ∷ []

-- 7*<[_], [_]> + 1*<[], [_, _]>
abbrev two_lists : List Term
two_lists = (picks 1 ∷ picks 1 ∷ [], 7) ∷ (picks 0 ∷ picks 2 ∷ [], 1) ∷ []

-- of insertion sort: ticks 1*<[_, _]>, cells 1*<[_]> + 1*<[_, _]>, work 4 + 11*<[_]> + 12*<[_, _]>
abbrev sort_ticks : List Term
sort_ticks = (picks 2 ∷ [], 1) ∷ []

abbrev sort_cells : List Term
sort_cells = (picks 1 ∷ [], 1) ∷ (picks 2 ∷ [], 1) ∷ []

abbrev sort_work : List Term
sort_work = (picks 0 ∷ [], 4) ∷ (picks 1 ∷ [], 11) ∷ (picks 2 ∷ [], 12) ∷ []

-- 3*<_, [_]>, of an integer and a list or tree
abbrev behind_integer : List Term
behind_integer = (Unit' ∷ picks 1 ∷ [], 3) ∷ []

pub record Examples : Type 0 where
  -- n * (n - 1) * (n - 2) * (n - 3) is -6*n + 11*n^2 - 6*n^3 + n^4
  pub first : falling 4 1 ≡ negsuc 5
  pub second : falling 4 2 ≡ pos 11
  pub third : falling 4 3 ≡ negsuc 5
  pub fourth : falling 4 4 ≡ pos 1
  pub none : falling 0 0 ≡ pos 1
  -- pairs of n elements are -1/2*n + 1/2*n^2, which is -12 and 12 over 24
  pub pairs : power_at (1 ∷ []) ((picks 2 ∷ [], 1) ∷ []) ≡ negsuc 11
  pub squares : power_at (2 ∷ []) ((picks 2 ∷ [], 1) ∷ []) ≡ pos 12
  -- 4 + 25/2*n + 23/2*n^2
  pub constant : power_at (0 ∷ []) quicksort ≡ pos 96
  pub linear : power_at (1 ∷ []) quicksort ≡ pos 300
  pub quadratic : power_at (2 ∷ []) quicksort ≡ pos 276
  -- of which 576 is above 0 and 276 below
  pub above : positive (1 ∷ []) quicksort ≡ 576
  pub below : negative (1 ∷ []) quicksort ≡ 276
  -- 7*n1*n2 - 1/2*n2 + 1/2*n2^2
  pub product : power_at (1 ∷ 1 ∷ []) two_lists ≡ pos 168
  pub one_list : power_at (0 ∷ 1 ∷ []) two_lists ≡ negsuc 11
  pub its_square : power_at (0 ∷ 2 ∷ []) two_lists ≡ pos 12
  pub other_list : power_at (1 ∷ 0 ∷ []) two_lists ≡ pos 0
  -- 3*n2
  pub second_parameter : power_at (0 ∷ 1 ∷ []) behind_integer ≡ pos 72
  pub coefficient : number_at (picks 1 ∷ []) quicksort ≡ 24
  pub no_term : number_at (picks 3 ∷ []) quicksort ≡ 0
  pub ticks_text : bound_text 1 1 sort_ticks ≡ codes "-1/2*n1 + 1/2*n1^2"
  pub cells_text : bound_text 1 1 sort_cells ≡ codes "1/2*n1 + 1/2*n1^2"
  pub work_text : bound_text 1 1 sort_work ≡ codes "4 + 5*n1 + 6*n1^2"
  -- over 3: a third of each coefficient
  pub thirds_text : bound_text 1 3 sort_work ≡ codes "4/3 + 5/3*n1 + 2*n1^2"
  pub two_text : bound_text 2 1 two_lists ≡ codes "-1/2*n2 + 1/2*n2^2 + 7*n1*n2"
  pub less_text : powers_text 24 ((2 ∷ [], pos 24) ∷ (3 ∷ [], negsuc 11) ∷ []) ≡ codes "1*n1^2 - 1/2*n1^3"
  pub no_text : bound_text 1 1 [] ≡ codes "0"
  pub line : powers_line (codes "isort") (codes "cells") 24 (powers_of 1 sort_cells) ≡ codes "isort cells <= 1/2*n1 + 1/2*n1^2\n"
  pub not_flat : not_flat_line (codes "flat") (codes "cells") ≡ codes "flat cells not flat\n"
  pub below_line : compared_line (codes "append") (codes "ticks") (Bounds Below) ≡ codes "append ticks below\n"
  pub absent_line : compared_line (codes "append") (codes "work") Absent ≡ codes "append work absent\n"
  pub no_bound_line : compared_line (codes "spin") (codes "ticks") NoBound ≡ codes "spin ticks no bound\n"
