use Rattle.std.proofs.Common.{◌∙◌, ◌++◌, List, [], Some, sym, ap, rules, arith}
use Rattle.std.specs.Option.{option_map}
use Rattle.bound_file.specs.Spelling as s
use Rattle.bound_file.specs.Reading.{with_term, each_read, pieces}
use Rattle.bound_file.specs.Seen.{term_of, terms_of}
use Rattle.bound_file.proofs.Cuts.{cut_shortens}
use Rattle.bound_file.proofs.Sums.{each_none, each_more, each_last, found_more}
use Rattle.bound_file.proofs.Stepped.{terms_pushed, none_read, some_read}
use Rattle.bound_file.proofs.sum.each_term.Goals as goal

pub returns-in_default-2 : goal.returns-in_default-2
returns-in_default-2 c =
    let found = terms_of c.loop-piece.terms.items in
    sym (ap (option_map (λ (ts : List s.Term). found ++ ts)) (each_none c.loop-piece.rest.now c.in-Some.piece.now c.in-Some.behind.now (sym c.in-Some.ensures) (none_read c.in_ok-term.field-0 _ c.in_default-2.not-Some c.in_ok-term.ensures)))
    ∙ c.loop-piece.invariant.read

pub loop-piece-smaller : goal.loop-piece-smaller
loop-piece-smaller c =
    let sum = cut_shortens 43 c.loop-piece.rest.now (c.in-Some.piece.now, c.in-Some.behind.now) (sym c.in-Some.ensures) in
    omega (arith, sum)

pub loop-piece-preserved : goal.loop-piece-preserved
loop-piece-preserved c =
    let found = terms_of c.loop-piece.terms.items in
    let t = term_of c.in-Some-2.term in
    let behind = c.in-Some.behind.now in
    let step = each_more c.loop-piece.rest.now c.in-Some.piece.now behind t (sym c.in-Some.ensures) (some_read c.in_ok-term.field-0 c.in-Some-2.term _ c.in-Some-2.is c.in_ok-term.ensures) in
    let pushed = ap terms_of c.in_ok-push.ensures.items ∙ terms_pushed c.loop-piece.terms.items c.in-Some-2.term in
    record {
      read = ap (λ fs. option_map (λ (ts : List s.Term). fs ++ ts) (each_read (pieces behind))) pushed
          ∙ found_more found t (each_read (pieces behind)) (each_read (pieces c.args.sum.now)) (ap (option_map (λ (ts : List s.Term). found ++ ts)) (sym step) ∙ c.loop-piece.invariant.read);
      text = search rules;
    }

pub returns-in_default-3 : goal.returns-in_default-3
returns-in_default-3 c =
    let found = terms_of c.loop-piece.terms.items in
    sym (ap (option_map (λ (ts : List s.Term). found ++ ts)) (each_last c.loop-piece.rest.now (sym c.in_default.ensures) ∙ ap (λ o. with_term o (Some [])) (none_read c.in_ok-term-2.field-0 _ c.in_default-3.not-Some c.in_ok-term-2.ensures)))
    ∙ c.loop-piece.invariant.read

pub returns : goal.returns
returns c =
    let found = terms_of c.loop-piece.terms.items in
    let pushed = ap terms_of c.in_ok-push-2.ensures.items ∙ terms_pushed c.loop-piece.terms.items c.in-Some-3.term in
    ap Some pushed
    ∙ sym (ap (option_map (λ (ts : List s.Term). found ++ ts)) (each_last c.loop-piece.rest.now (sym c.in_default.ensures) ∙ ap (λ o. with_term o (Some [])) (some_read c.in_ok-term-2.field-0 c.in-Some-3.term _ c.in-Some-3.is c.in_ok-term-2.ensures)))
    ∙ c.loop-piece.invariant.read
