use Rattle.std.proofs.Common.{List, [], option_map, ap, ◌∙◌}
use Rattle.std.specs.Prelude.{unwrap_or}
use Rattle.std.specs.Borrow.{Bor}
use Rattle.clap.specs.Matches.{found_of}
use Rattle.explain_words.specs.Commands.{texts}
use Rattle.explain_words.proofs.Values.{found_values, copied}
use Rattle.explain_words.proofs.given.texts_of.Goals as goal

pub returns-in-Some : goal.returns-in-Some
returns-in-Some c =
    let all = found_values (found_of c.args.matches.now) c.args.id.now c.get_strs.result c.get_strs.ensures in
    copied _ c.in-Some.texts.now c.from_slice.result c.from_slice.ensures.items (all ∙ ap (λ (found : _). unwrap_or (option_map (λ (s : Bor (List (Bor (List _)))). texts s.now) found) []) c.in-Some.is)

pub returns-in-None : goal.returns-in-None
returns-in-None c =
    let all = found_values (found_of c.args.matches.now) c.args.id.now c.get_strs.result c.get_strs.ensures in
    rw (c.new.ensures.items) (all ∙ ap (λ (found : _). unwrap_or (option_map (λ (s : Bor (List (Bor (List _)))). texts s.now) found) []) c.in-None.is)
