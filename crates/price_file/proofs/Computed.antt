-- The worked examples, computed.
use Rattle.std.proofs.Common.{refl}
use Rattle.std.specs.Prelude.{codes}
use Rattle.std.specs.Char.{encode_utf8}
use Rattle.price_file.specs.Construct as c
use Rattle.price_file.specs.Example.{Examples}
use Rattle.price_file.proofs.Entries.{is_set}
use Rattle.price_file.proofs.Tables.{told}

pub examples_hold : Examples
unfolding encode_utf8
examples_hold = record {
  no_lines = refl;
  one_line = refl;
  last_line = refl;
  empty_line = refl;
  two_lines = record {
    utf8 = (codes "cons 1\ncall 2", (refl, refl));
    lines = record {
      set = (is_set (codes "cons 1") c.Cons 1 refl, (is_set (codes "call 2") c.Call 2 refl, tt));
      once = (refl, (refl, tt));
    };
  };
  zeros_in_front = record {
    utf8 = (codes "call 0000000\n", (refl, refl));
    lines = record { set = (is_set (codes "call 0000000") c.Call 0 refl, tt); once = (refl, tt) };
  };
  above = told (codes "call 1000001\n") (codes "call 1000001\n", (refl, refl));
  eight_digits = told (codes "cons 1\ncall 00000001") (codes "cons 1\ncall 00000001", (refl, refl));
  carriage_return = told (codes "call 1\r\n") (codes "call 1\r\n", (refl, refl));
  nothing_behind = told (codes "cons 1\n\n") (codes "cons 1\n\n", (refl, refl));
  twice = told (codes "cons 0\nlet 1\ncons 2\ncall") (codes "cons 0\nlet 1\ncons 2\ncall", (refl, refl));
  shape_before_twice = told (codes "cons 1\ncons x\ncons 1\n") (codes "cons 1\ncons x\ncons 1\n", (refl, refl));
  append_costs_nine = refl;
  cut_keeps_prices = refl;
  nothing_after_cut = refl;
  ticks_besides = refl;
  annotation_is_free = refl;
  nil = refl;
  none = refl;
  let_one = refl;
  let_pair = refl;
  match_option = refl;
  match_tree = refl;
  position_stays = refl;
  annotation_stays = refl;
}
