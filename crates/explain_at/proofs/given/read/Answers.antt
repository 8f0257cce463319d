use Rattle.std.proofs.Common.{rules, sym, subst, ◌∙◌, [], Ok}
use Rattle.explain_at.specs.Words.{words_of, words_read}
use Rattle.explain_at.specs.Read.{all_given, IsWordFault}
use Rattle.explain_at.proofs.Cuts.{shorter}
use Rattle.explain_at.proofs.Reading.{passed, read_on, fault_read, last_read}
use Rattle.explain_at.proofs.given.read.Goals as goal

pub returns-in_err-add-clause-fault : goal.returns-in_err-add-clause-fault
returns-in_err-add-clause-fault c =
    let whole = words_read (Ok []) (words_of c.args.text.now) in
    passed c.from_residual.result (IsWordFault whole) c.in_err-add.field-0.0 c.from_residual.ensures.0 c.from_residual.ensures.1
    (fault_read whole (all_given c.loop-word.given.items) c.loop-word.rest.now c.in-Some.word.now c.in-Some.behind.now (sym c.in-Some.ensures) c.loop-word.invariant.read _ c.in_err-add.ensures.fault)

pub loop-word-smaller : goal.loop-word-smaller
loop-word-smaller c = shorter c.loop-word.rest.now c.in-Some.word.now c.in-Some.behind.now (sym c.in-Some.ensures)

pub loop-word-preserved : goal.loop-word-preserved
loop-word-preserved c = record {
  text = search rules;
  read = read_on _ (all_given c.loop-word.given.items) c.loop-word.rest.now c.in-Some.word.now c.in-Some.behind.now (sym c.in-Some.ensures) c.loop-word.invariant.read
      (all_given c.add.new.given.items) c.in_ok-add.ensures.given;
}

pub returns-in_err-add-2-clause-fault : goal.returns-in_err-add-2-clause-fault
returns-in_err-add-2-clause-fault c =
    let whole = words_read (Ok []) (words_of c.args.text.now) in
    let last = last_read whole (all_given c.loop-word.given.items) c.loop-word.rest.now (sym c.in_default.ensures) c.loop-word.invariant.read in
    passed c.from_residual-in_err-add-2.result (IsWordFault whole) c.in_err-add-2.field-0.0 c.from_residual-in_err-add-2.ensures.0 c.from_residual-in_err-add-2.ensures.1
    (subst (λ r. IsWordFault r c.in_err-add-2.field-0.0) last c.in_err-add-2.ensures.fault)

pub returns-clause-given : goal.returns-clause-given
returns-clause-given c =
    let whole = words_read (Ok []) (words_of c.args.text.now) in
    sym (last_read whole (all_given c.loop-word.given.items) c.loop-word.rest.now (sym c.in_default.ensures) c.loop-word.invariant.read) ∙ c.in_ok-add-2.ensures.given
