use Rattle.std.proofs.Common.{◌≡◌, ◌<◌, ◌≤◌, List, length, slice_index_or, false, is_some, subst}
use Rattle.raml_syntax.specs.declared.program.Fun.{Fun}
use Rattle.raml_syntax.specs.Tree.{Text, Function}
use Rattle.raml_syntax.specs.Read.{program_of}
use Rattle.simple_types.specs.Numbered.{signed, signatures, no_sigs}
use Rattle.simple_types.specs.Scope.{sigs_of, sig_of}
use Rattle.simple_types.proofs.Places.{all_read}
use Rattle.simple_types.proofs.Signed.{new_where, signatures_step, seen_step, differ_step}
use Rattle.simple_types.proofs.functions.Functions.new.Goals as goal

pub new-requires-in-loop-fun : goal.new-requires-in-loop-fun
new-requires-in-loop-fun c =
    let funs = c.args.program.now.funs.items in
    let i = c.loop-fun.fun-index in
    let item = c.fun-item.result in
    let within : i < length funs = subst (λ (xs : List Fun). i < length xs) c.deref-fun-items.ensures.value c.loop-fun-test.true in
    let read : item ≡ slice_index_or funs i item = subst (λ (xs : List Fun). item ≡ slice_index_or xs i item) c.deref-fun-items.ensures.value c.fun-item.is in
    record { few = all_read (λ (g : Function). length g.params ≤ 8) funs i item within read c.requires.few }

pub loop-fun-preserved : goal.loop-fun-preserved
loop-fun-preserved c =
    let funs = c.args.program.now.funs.items in
    let i = c.loop-fun.fun-index in
    let item = c.fun-item.result in
    let within : i < length funs = subst (λ (xs : List Fun). i < length xs) c.deref-fun-items.ensures.value c.loop-fun-test.true in
    let read : item ≡ slice_index_or funs i item = subst (λ (xs : List Fun). item ≡ slice_index_or xs i item) c.deref-fun-items.ensures.value c.fun-item.is in
    let S = sigs_of c.loop-fun.functions in
    let new : is_some (S item.name) ≡ false = subst (λ (x : Text). is_some (S x) ≡ false) c.text.ensures (new_where c.in_ok-add.field-0 (is_some (S c.text.result.now)) c.in_ok-add.ensures.new c.if-not-branch.false) in
    let added : (f : Text) → sigs_of c.add.new.self f ≡ signed S item.name (sig_of c.in_ok-signature.signature) f =
    subst (λ (x : Text). (f : Text) → sigs_of c.add.new.self f ≡ signed S x (sig_of c.in_ok-signature.signature) f) c.text.ensures (c.in_ok-add.ensures.signed c.if-not-branch.false) in
    record {
      signed = signatures_step funs i item within read S (sigs_of c.add.new.self) (sig_of c.in_ok-signature.signature) added c.loop-fun.types.nodes.keys c.new-in-loop-fun.new.types.nodes.keys (signatures c.args.types.now.nodes.keys no_sigs (program_of c.args.program.now)) c.in_ok-signature.ensures c.loop-fun.invariant.signed;
      seen = seen_step funs i item within read S (sigs_of c.add.new.self) (sig_of c.in_ok-signature.signature) added c.loop-fun.invariant.seen;
      differ = differ_step funs i item within read S (sigs_of c.add.new.self) (sig_of c.in_ok-signature.signature) added _ new (c.loop-fun.invariant.seen item.name) c.loop-fun.invariant.differ;
    }
