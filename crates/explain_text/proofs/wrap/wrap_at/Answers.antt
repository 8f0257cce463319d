use Rattle.std.proofs.Common.{rules, sym, ◌∙◌, ◌++◌, Some, arith}
use Rattle.std.proofs.lemmas.Str.Pattern.{split_parts}
use Rattle.explain_text.specs.Wrapped.{space}
use Rattle.explain_text.proofs.Joined.{word_more, same_indent}
use Rattle.explain_text.proofs.wrap.wrap_at.Goals as goal

pub loop-word-preserved : goal.loop-word-preserved
loop-word-preserved c =
    let seen = c.loop-word.invariant.read in
    let parts = split_parts 32 c.loop-word.rest.now (Some (c.in-Some.word, c.in-Some.behind)) c.in-Some.ensures.cases (omega arith) in
    let word = c.in-Some.word.now in
    record {
      text = search rules;
      read = (
        seen.0 ++ (word ++ space),
        same_indent _ _ _ _ _ _ c.loop-word.invariant.indent
            (c.in_ok-read.ensures.read seen.0 (same_indent _ _ _ _ _ _ (sym c.loop-word.invariant.indent) seen.1)),
        word_more seen.0 c.loop-word.rest.now word c.in-Some.behind.now _ parts.0 seen.2,
      );
      indent = c.in_ok-read.ensures.indent ∙ c.loop-word.invariant.indent;
    }
