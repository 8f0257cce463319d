use Rattle.std.proofs.Common.{◌∙◌, sym, ap, length}
use Rattle.bound_file.specs.Names.{is_whole_name}
use Rattle.bound_file.proofs.Named.{tokens_tell, refused_tells}
use Rattle.bound_file.proofs.name.is_name.Goals as goal

pub returns-in-Ok : goal.returns-in-Ok
returns-in-Ok c =
    c.is_whole_name.ensures ∙ ap (λ ts. is_whole_name ts (length c.args.word.now)) c.deref.ensures.value
    ∙ tokens_tell c.args.word.now c.tokens.ensures.one_answer c.in-Ok.found.items c.in-Ok.ensures.spelled c.in-Ok.ensures.words

pub returns-else-is_want : goal.returns-else-is_want
returns-else-is_want c = refused_tells c.args.word.now c.tokens.ensures.one_answer c.in-Err.fault (sym c.is_want.ensures ∙ c.if-is_want.false) c.in-Err.ensures.fault
