-- Machines that ask for a cell, and machines that are stopped.
use Rattle.std.proofs.Common.{◌≡◌, ℕ, ◌+◌, List, Option, Some, slice_get, refl, sym, ap, ◌∙◌, subst, arith}
use Rattle.raml_syntax.specs.Tree.{Function, Prog}
use Rattle.raml_syntax.specs.Value.{Value, HaveTypes}
use Rattle.raml_syntax.specs.Types.{types_of}
use Rattle.stack_compile.specs.Code.{Body, bodies_of}
use Rattle.stack_compile.specs.Machine.{Config, Going, Halted, Frame, act, fetch, move, State, start}
use Rattle.stack_compile.specs.Laws.{at, IsGoing}
use Rattle.stack_compile.specs.declared.instr.Instr.{Instr}
use Rattle.stack_compile.specs.declared.instr.Instr.TheVariants as instr
use Rattle.stack_compile.proofs.After.{after_add}
use Rattle.metered_vm.specs.Moving.{TakesCell}
use Rattle.metered_vm.specs.Seen.{Seen, Kept, program_in, fun_in, args_in, limit_in, state_in}
use Rattle.metered_vm.specs.Ending.{next_of}
use Rattle.rules_soundness_laws.proofs.Source.{cells_stay_below}
use Rattle.analysis_report.specs.Limits.{Asks, NeverAsks, NeverFull, NeverStopped}

takes_one : (code : List Body) (o : Option Instr) (f p : ℕ) (st ls : List Value) (fs : List Frame) → TakesCell o → (act code o f p st ls fs).cells ≡ 1
takes_one code (Some instr.Pair) f p st ls fs h = refl
takes_one code (Some instr.Cons) f p st ls fs h = refl
takes_one code (Some instr.Node) f p st ls fs h = refl
takes_one code (Some instr.Some) f p st ls fs h = refl
takes_one code _ f p st ls fs h = absurd h

-- an instruction that takes a cell takes one
pub moves_one : (code : List Body) (c : Config) → TakesCell (next_of code c) → (move code c).cells ≡ 1
moves_one code (Going f p st ls fs) h = takes_one code (fetch code f p) f p st ls fs h
moves_one code (Halted v) h = absurd h

one_more : (P : Prog) (f : ℕ) (args : List Value) (m : ℕ) → TakesCell (next_of (bodies_of P) (at P f args m).at) → (at P f args (m + 1)).cells ≡ (at P f args m).cells + 1
one_more P f args m takes =
    ap (λ (s : State). s.cells) (after_add (bodies_of P) m 1 (start f args)) ∙ ap (λ n. (at P f args m).cells + n) (moves_one (bodies_of P) (at P f args m).at takes)

pub never_asks : NeverAsks
never_asks P f fun den terms positive bounds args has limit low m asks =
    let next = cells_stay_below P f fun den terms positive bounds args (m + 1) has in
    let more = one_more P f args m asks.takes in
    let all = asks.all in
    omega (arith, next, low, more, all)

-- the machine's arguments have the types of its function
types_in : (vm : Seen) → Kept vm → (fun : Function) → slice_get (program_in vm) (fun_in vm) ≡ Some fun → HaveTypes (args_in vm) (types_of fun)
types_in vm kept fun there = subst (λ g. HaveTypes (args_in vm) (types_of g)) (same kept.function fun (sym kept.there ∙ there)) kept.types
  where
    same : (g h : Function) → Some g ≡ Some h → g ≡ h
    same g h e = cc

pub never_full : NeverFull
never_full vm kept fun there den terms positive bounds low steps full =
    never_asks (program_in vm) (fun_in vm) fun den terms positive bounds (args_in vm) (types_in vm kept fun there) (limit_in vm) low (state_in vm).made
    (subst (Asks (program_in vm) (limit_in vm)) kept.state (record { going = full.going; all = full.cells; takes = full.takes }))

pub never_stopped : NeverStopped
never_stopped vm kept fun there den terms bounds steps enough stopped =
    let few = bounds.machine (args_in vm) (state_in vm).made (types_in vm kept fun there) (subst IsGoing (ap (λ (s : State). s.at) kept.state) stopped.going) in
    let made = stopped.made in
    omega (arith, few, made, enough)
