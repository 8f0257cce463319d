use Rattle.std.proofs.Common.{inl, inr}
use Rattle.std.proofs.lemmas.Result.{IfOk-weaker}
use Rattle.explain_language.specs.Told.{IsAnalysed, IsFaulty, IsLong, IsTold}
use Rattle.explain_language.proofs.source.source_insight.Goals as goal

pub returns-then-source-gt-MOST_BYTES : goal.returns-then-source-gt-MOST_BYTES
returns-then-source-gt-MOST_BYTES c =
    let source = c.args.source.now in
    IfOk-weaker c.long_insight.result (IsLong source) (IsTold c.args.most c.args.pivots source) (λ insight long. inl long) c.long_insight.ensures

pub returns-in-Program : goal.returns-in-Program
returns-in-Program c =
    let source = c.args.source.now in
    IfOk-weaker c.typed_insight.result (IsAnalysed c.args.most c.args.pivots source) (IsTold c.args.most c.args.pivots source) (λ insight told. inr (inr told)) c.typed_insight.ensures

pub returns-in-Fault : goal.returns-in-Fault
returns-in-Fault c =
    let source = c.args.source.now in
    IfOk-weaker c.faulty_insight.result (IsFaulty source) (IsTold c.args.most c.args.pivots source) (λ insight told. inr (inl told)) c.faulty_insight.ensures
