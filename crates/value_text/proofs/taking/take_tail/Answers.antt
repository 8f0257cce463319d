use Rattle.std.proofs.Common.{[], refl, ap, arith}
use Rattle.raml_syntax.specs.Value as v
use Rattle.raml_syntax.specs.Read.{ty_of}
use Rattle.value_text.specs.Held.{held}
use Rattle.value_text.specs.Spelling.{sizes}
use Rattle.value_text.specs.Tokens.{token_of}
use Rattle.value_text.specs.State.{values_in}
use Rattle.value_text.proofs.Takings.{tail_taken, tail_ended, sizes_joined}
use Rattle.value_text.proofs.Returned.{tail_put}
use Rattle.value_text.proofs.taking.take_tail.Goals as goal

pub returns-then-is_sign-clause-taken : goal.returns-then-is_sign-clause-taken
returns-then-is_sign-clause-taken c =
    tail_taken (ty_of c.args.ty.now) c.args.level c.args.count (token_of c.args.token) _ _ _ _ c.if-is_sign.ensures c.requires.fits
    (tail_put c.args.goals.now.items c.extend_from_slice.new.self.items c.args.ty c.args.level _ c.args.count _ c.in_ok-extend_from_slice.ensures.items (omega arith) (omega arith)) refl

pub returns-then-is_sign-2-clause-taken : goal.returns-then-is_sign-2-clause-taken
returns-then-is_sign-2-clause-taken c =
    tail_ended (ty_of c.args.ty.now) c.args.level c.args.count (token_of c.args.token) _ _ _ _ c.if-is_sign-2.ensures c.requires.fits refl c.in_ok-join.ensures.value

pub returns-then-is_sign-2-clause-count : goal.returns-then-is_sign-2-clause-count
returns-then-is_sign-2-clause-count c =
    let z = sizes_joined c.args.count (values_in (held c.args.heap.now.cells) c.args.words.now.items []) v.Empty in
    let s = ap sizes c.in_ok-join.ensures.value in
    let n = c.in_ok-join.ensures.count in
    λ e. omega (arith, z, s, n)
