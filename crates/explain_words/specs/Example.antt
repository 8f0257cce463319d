-- Small words, worked out by hand.
use Rattle.std.specs.Prelude.{◌≡◌, Some, None, codes}
use Rattle.explain_words.specs.Spelled.{degree_in, width_in, within_in}
use Rattle.explain_words.specs.declared.within.Meter.TheVariants.{Ticks, Cells, Work}

pub record Examples : Type 0 where
  pub degree : degree_in (codes "3") ≡ Some 3
  pub no_degree : degree_in (codes "5") ≡ None
  pub two_digits : degree_in (codes "03") ≡ None
  pub signed : degree_in (codes "+3") ≡ None
  pub width : width_in (codes "00080") ≡ Some 80
  pub narrow : width_in (codes "19") ≡ None
  pub spent : within_in (codes "cells=1000") ≡ Some (record { meter = Cells; most = 1000 })
  pub most : within_in (codes "work=170141183460469231731687303715884105728")
      ≡ Some (record { meter = Work; most = 170141183460469231731687303715884105728 })
  pub too_much : within_in (codes "work=170141183460469231731687303715884105729") ≡ None
  pub nothing : within_in (codes "ticks=0") ≡ Some (record { meter = Ticks; most = 0 })
  pub no_meter : within_in (codes "steps=1") ≡ None
  pub no_number : within_in (codes "ticks=") ≡ None
  pub two_marks : within_in (codes "ticks=1=1") ≡ None
