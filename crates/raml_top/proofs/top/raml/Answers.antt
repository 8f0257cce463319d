use Rattle.std.proofs.Common.{◌⊎◌, refl, subst}
use Rattle.raml_io.specs.Written.{GrewByFront}
use Rattle.raml_words.specs.Words.{texts}
use Rattle.raml_promise.specs.Outside.{store_of, sink_of, outside_of, Gains, GainsFront}
use Rattle.raml_top.proofs.Causes.{written_cause, failed_cause, refused_cause}
use Rattle.raml_top.proofs.top.raml.Goals as goal

pub returns-in-Ok-put_all-clause-cause : goal.returns-in-Ok-put_all-clause-cause
returns-in-Ok-put_all-clause-cause g c =
    let o = outside_of (texts c.args.words.now) (store_of (g.S.Store.holds c.args.store.now) (g.S.Store.faults c.args.store.now) (g.S.Store.faults c.answer.new.store))
    (sink_of (g.O.Sink.faults c.args.out.now) (g.O.Sink.faults c.put_all.new.out) (g.O.Sink.written c.args.out.now) (g.O.Sink.written c.put_all.new.out))
    (sink_of (g.E.Sink.faults c.args.err.now) (g.E.Sink.faults c.args.err.now) (g.E.Sink.written c.args.err.now) (g.E.Sink.written c.args.err.now)) in
    written_cause o c.in-Ok.report c.in-Ok.ensures.gives (subst (λ text. Gains text o.out) c.deref.ensures.value c.in-Ok-put_all.ensures.ok) refl

pub returns-in-Ok-put_all-clause-forced : goal.returns-in-Ok-put_all-clause-forced
returns-in-Ok-put_all-clause-forced g c =
    let o = outside_of (texts c.args.words.now) (store_of (g.S.Store.holds c.args.store.now) (g.S.Store.faults c.args.store.now) (g.S.Store.faults c.answer.new.store))
    (sink_of (g.O.Sink.faults c.args.out.now) (g.O.Sink.faults c.put_all.new.out) (g.O.Sink.written c.args.out.now) (g.O.Sink.written c.put_all.new.out))
    (sink_of (g.E.Sink.faults c.args.err.now) (g.E.Sink.faults c.args.err.now) (g.E.Sink.written c.args.err.now) (g.E.Sink.written c.args.err.now)) in
    c.causes_force.ensures o c.in-Ok.report.status
    (written_cause o c.in-Ok.report c.in-Ok.ensures.gives (subst (λ text. Gains text o.out) c.deref.ensures.value c.in-Ok-put_all.ensures.ok) refl)

pub returns-in-Err-put_all-clause-cause : goal.returns-in-Err-put_all-clause-cause
returns-in-Err-put_all-clause-cause g c =
    let o = outside_of (texts c.args.words.now) (store_of (g.S.Store.holds c.args.store.now) (g.S.Store.faults c.args.store.now) (g.S.Store.faults c.answer.new.store))
    (sink_of (g.O.Sink.faults c.args.out.now) (g.O.Sink.faults c.put_all.new.out) (g.O.Sink.written c.args.out.now) (g.O.Sink.written c.put_all.new.out))
    (sink_of (g.E.Sink.faults c.args.err.now) (g.E.Sink.faults c.put_line.new.err) (g.E.Sink.written c.args.err.now) (g.E.Sink.written c.put_line.new.err)) in
    let front = subst (GrewByFront (g.O.Sink.written c.args.out.now) (g.O.Sink.written c.put_all.new.out)) c.deref.ensures.value c.in-Err-put_all.ensures.err in
    failed_cause o c.in-Ok.report c.in-Ok.ensures.gives (front, c.in-Err-put_all.ensures.failed)
    (subst (λ line. Gains line o.err ⊎ GainsFront line o.err) c.write_failed_line.ensures c.put_line.ensures.gains)

pub returns-in-Err-put_all-clause-forced : goal.returns-in-Err-put_all-clause-forced
returns-in-Err-put_all-clause-forced g c =
    let o = outside_of (texts c.args.words.now) (store_of (g.S.Store.holds c.args.store.now) (g.S.Store.faults c.args.store.now) (g.S.Store.faults c.answer.new.store))
    (sink_of (g.O.Sink.faults c.args.out.now) (g.O.Sink.faults c.put_all.new.out) (g.O.Sink.written c.args.out.now) (g.O.Sink.written c.put_all.new.out))
    (sink_of (g.E.Sink.faults c.args.err.now) (g.E.Sink.faults c.put_line.new.err) (g.E.Sink.written c.args.err.now) (g.E.Sink.written c.put_line.new.err)) in
    let front = subst (GrewByFront (g.O.Sink.written c.args.out.now) (g.O.Sink.written c.put_all.new.out)) c.deref.ensures.value c.in-Err-put_all.ensures.err in
    c.causes_force.ensures o _ (failed_cause o c.in-Ok.report c.in-Ok.ensures.gives (front, c.in-Err-put_all.ensures.failed)
    (subst (λ line. Gains line o.err ⊎ GainsFront line o.err) c.write_failed_line.ensures c.put_line.ensures.gains))

pub returns-in-Err-clause-cause : goal.returns-in-Err-clause-cause
returns-in-Err-clause-cause g c =
    let o = outside_of (texts c.args.words.now) (store_of (g.S.Store.holds c.args.store.now) (g.S.Store.faults c.args.store.now) (g.S.Store.faults c.answer.new.store))
    (sink_of (g.O.Sink.faults c.args.out.now) (g.O.Sink.faults c.args.out.now) (g.O.Sink.written c.args.out.now) (g.O.Sink.written c.args.out.now))
    (sink_of (g.E.Sink.faults c.args.err.now) (g.E.Sink.faults c.put_line-in-Err.new.err) (g.E.Sink.written c.args.err.now) (g.E.Sink.written c.put_line-in-Err.new.err)) in
    refused_cause o c.in-Err.refusal c.in-Err.ensures.gives refl (subst (λ line. Gains line o.err ⊎ GainsFront line o.err) c.text.ensures c.put_line-in-Err.ensures.gains)

pub returns-in-Err-clause-forced : goal.returns-in-Err-clause-forced
returns-in-Err-clause-forced g c =
    let o = outside_of (texts c.args.words.now) (store_of (g.S.Store.holds c.args.store.now) (g.S.Store.faults c.args.store.now) (g.S.Store.faults c.answer.new.store))
    (sink_of (g.O.Sink.faults c.args.out.now) (g.O.Sink.faults c.args.out.now) (g.O.Sink.written c.args.out.now) (g.O.Sink.written c.args.out.now))
    (sink_of (g.E.Sink.faults c.args.err.now) (g.E.Sink.faults c.put_line-in-Err.new.err) (g.E.Sink.written c.args.err.now) (g.E.Sink.written c.put_line-in-Err.new.err)) in
    c.causes_force.ensures o c.in-Err.refusal.status
    (refused_cause o c.in-Err.refusal c.in-Err.ensures.gives refl (subst (λ line. Gains line o.err ⊎ GainsFront line o.err) c.text.ensures c.put_line-in-Err.ensures.gains))

pub returns-in-Ok-put_all-clause-again : goal.returns-in-Ok-put_all-clause-again
returns-in-Ok-put_all-clause-again g c =
    let o = outside_of (texts c.args.words.now) (store_of (g.S.Store.holds c.args.store.now) (g.S.Store.faults c.args.store.now) (g.S.Store.faults c.answer.new.store))
    (sink_of (g.O.Sink.faults c.args.out.now) (g.O.Sink.faults c.put_all.new.out) (g.O.Sink.written c.args.out.now) (g.O.Sink.written c.put_all.new.out))
    (sink_of (g.E.Sink.faults c.args.err.now) (g.E.Sink.faults c.args.err.now) (g.E.Sink.written c.args.err.now) (g.E.Sink.written c.args.err.now)) in
    c.written_verifies.ensures o c.in-Ok.report.status
    (written_cause o c.in-Ok.report c.in-Ok.ensures.gives (subst (λ text. Gains text o.out) c.deref.ensures.value c.in-Ok-put_all.ensures.ok) refl)

pub returns-in-Err-put_all-clause-again : goal.returns-in-Err-put_all-clause-again
returns-in-Err-put_all-clause-again g c =
    let o = outside_of (texts c.args.words.now) (store_of (g.S.Store.holds c.args.store.now) (g.S.Store.faults c.args.store.now) (g.S.Store.faults c.answer.new.store))
    (sink_of (g.O.Sink.faults c.args.out.now) (g.O.Sink.faults c.put_all.new.out) (g.O.Sink.written c.args.out.now) (g.O.Sink.written c.put_all.new.out))
    (sink_of (g.E.Sink.faults c.args.err.now) (g.E.Sink.faults c.put_line.new.err) (g.E.Sink.written c.args.err.now) (g.E.Sink.written c.put_line.new.err)) in
    let front = subst (GrewByFront (g.O.Sink.written c.args.out.now) (g.O.Sink.written c.put_all.new.out)) c.deref.ensures.value c.in-Err-put_all.ensures.err in
    c.written_verifies.ensures o _ (failed_cause o c.in-Ok.report c.in-Ok.ensures.gives (front, c.in-Err-put_all.ensures.failed)
    (subst (λ line. Gains line o.err ⊎ GainsFront line o.err) c.write_failed_line.ensures c.put_line.ensures.gains))

pub returns-in-Err-clause-again : goal.returns-in-Err-clause-again
returns-in-Err-clause-again g c =
    let o = outside_of (texts c.args.words.now) (store_of (g.S.Store.holds c.args.store.now) (g.S.Store.faults c.args.store.now) (g.S.Store.faults c.answer.new.store))
    (sink_of (g.O.Sink.faults c.args.out.now) (g.O.Sink.faults c.args.out.now) (g.O.Sink.written c.args.out.now) (g.O.Sink.written c.args.out.now))
    (sink_of (g.E.Sink.faults c.args.err.now) (g.E.Sink.faults c.put_line-in-Err.new.err) (g.E.Sink.written c.args.err.now) (g.E.Sink.written c.put_line-in-Err.new.err)) in
    c.written_verifies.ensures o c.in-Err.refusal.status
    (refused_cause o c.in-Err.refusal c.in-Err.ensures.gives refl (subst (λ line. Gains line o.err ⊎ GainsFront line o.err) c.text.ensures c.put_line-in-Err.ensures.gains))
