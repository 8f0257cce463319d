-- A machine keeps what is true of every machine.
use Rattle.std.proofs.Common.{◌≡◌, ℕ, suc, ◌+◌, ◌-◌, ◌*◌, ◌<◌, ◌≤◌, List, [], ◌∷◌, length, Option, Some, None, refl, sym, ap, subst, ◌∙◌, arith, length-append}
use Rattle.std.specs.Prelude.{Result, Ok, Err, IfOk, IfSome, slice_get}
use Rattle.std.specs.List.{All}
use Rattle.std.specs.declared.alloc.AllocError.{AllocError}
use Rattle.raml_syntax.specs.Tree.{Function, Prog}
use Rattle.raml_syntax.specs.Value.{Value, HaveTypes}
use Rattle.raml_syntax.specs.Types.{types_of, Typed}
use Rattle.raml_syntax.specs.Node.{AllNodes, NumberFits}
use Rattle.raml_syntax.specs.Eval.{run_of}
use Rattle.raml_syntax.specs.Read.{program_of}
use Rattle.raml_syntax.specs.declared.program.Program.{Program}
use Rattle.stack_compile.specs.Code.{bodies_of}
use Rattle.stack_compile.specs.Machine.{Halted, State, after, start}
use Rattle.stack_compile.specs.Ready.{Ready}
use Rattle.stack_compile.specs.Laws.{at, IsGoing, Gives, Linked}
use Rattle.stack_compile.proofs.After.{after_add}
use Rattle.stack_compile.proofs.Linked.{machine_is_linked}
use Rattle.value_text.specs.Heap.{IsBelow, NameEarlier}
use Rattle.value_text.specs.Held.{value_of, held}
use Rattle.value_text.specs.Stands.{StandForAll}
use Rattle.value_text.specs.declared.word.Word.{Word}
use Rattle.value_text.specs.declared.word.Cell.{Cell}
use Rattle.value_text.proofs.Holding.{length_held, held_front}
use Rattle.value_text.proofs.Standing.{stands_there, stands_word, stand_is}
use Rattle.metered_vm.specs.Running.{values_of, AllBelow, IsSound, state_of, state_with}
use Rattle.metered_vm.specs.Stepping.{Came, EndsAt, Goes, word_of}
use Rattle.metered_vm.specs.Seen.{Seen, program_in, fun_in, cells_in, args_in, word_in, state_in, HaveArguments, Kept, Begins, GoesOn}
use Rattle.metered_vm.specs.Ending.{HasHalted, Ended}
use Rattle.metered_vm.specs.Keeping.{Holds}
use Rattle.metered_vm.specs.declared.machine.Machine.{Machine}
use Rattle.metered_vm.specs.declared.end.End.{End}
use Rattle.metered_vm.specs.declared.end.End.TheVariants as e
use Rattle.metered_vm.proofs.Lists.{all_more}
use Rattle.metered_vm.proofs.Acting.{values_more}

made_of : (o : Option Word) (x : Machine) → (state_with o x).made ≡ x.made
made_of None x = refl
made_of (Some w) x = refl

cells_of : (o : Option Word) (x : Machine) → (state_with o x).cells ≡ x.cells
cells_of None x = refl
cells_of (Some w) x = refl

-- the machine of what is kept, and evaluation
linked : (vm : Seen) → Kept vm → (g : Function) → slice_get (program_in vm) (fun_in vm) ≡ Some g → Linked (program_in vm) (fun_in vm) g (args_in vm)
linked vm h g there =
    let same : h.function ≡ g = by h.function g (sym h.there ∙ there) in
    machine_is_linked (program_in vm) h.typed h.numbers (fun_in vm) g (args_in vm) there (subst (λ f. HaveTypes (args_in vm) (types_of f)) same h.types)
  where
    by : (f g : Function) → Some f ≡ Some g → f ≡ g
    by f g e = cc

-- with the word with which it has halted
pub has_halted : (vm : Seen) (w : Word) → Kept vm → word_in vm ≡ Some w → NameEarlier (cells_in vm) → IsBelow (length (cells_in vm)) w → HasHalted w vm
has_halted vm w h is earlier below =
    let value = value_of (held (cells_in vm)) w in
    let halted : (state_in vm).at ≡ Halted value = ap (λ o. (state_with o vm.machine).at) is in
    let P = program_in vm in
    let f = fun_in vm in
    let args = args_in vm in
    let there : (at P f args (state_in vm).made).at ≡ Halted value = ap (λ (s : State). s.at) (sym h.state) ∙ halted in
    record {
      word = is;
      value = value;
      halted = halted;
      stands = stands_word (cells_in vm) w earlier below;
      gives = λ g has. subst (Gives P g args value) (sym h.state) ((linked vm h g has).halts_only (state_in vm).made value there);
    }

-- a machine that goes on, as callers see it
abbrev pub seen : Program → ℕ → List Word → Option Word → Machine → Seen
seen program fun args word x = record { program = program; fun = fun; args = args; machine = x; word = word }

pub ended : (program : Program) (fun : ℕ) (args : List Word) (x : Machine) (steps : ℕ) (r : Result End AllocError) → Kept (seen program fun args (word_of r) x) → IsSound x → IfOk r (EndsAt (bodies_of (program_of program)) steps x) → IfOk r (λ end. Ended steps end (seen program fun args (word_of r) x))
ended program fun args x steps (Err err) h sound ends = tt
ended program fun args x steps (Ok (e.Halted w)) h sound ends = has_halted (seen program fun args (Some w) x) w h refl sound.earlier ends
ended program fun args x steps (Ok e.Stopped) h sound ends =
    let vm = seen program fun args None x in
    let going : IsGoing (at (program_in vm) fun (args_in vm) x.made).at = subst (λ (s : State). IsGoing s.at) h.state tt in
    record {
      going = tt;
      made = ends;
      work = λ g has. subst (λ n. n < 4 * (run_of (program_in vm) g (args_in vm) (suc n)).work) ends ((linked vm h g has).goes_on x.made going);
    }
ended program fun args x steps (Ok e.HeapFull) h sound ends = record { going = tt; made = ends.0; cells = ends.1; takes = ends.2 }

-- what is true of the end of a run
end_below : (x : Machine) (steps : ℕ) (P : Prog) (r : Result End AllocError) → IfOk r (EndsAt (bodies_of P) steps x) → IfSome (word_of r) (IsBelow (length x.heap.cells))
end_below x steps P (Err err) ends = tt
end_below x steps P (Ok (e.Halted w)) ends = ends
end_below x steps P (Ok e.Stopped) ends = tt
end_below x steps P (Ok e.HeapFull) ends = tt

-- a machine that runs: before it has not halted
module _ (program : Program) (fun : ℕ) (args : List Word) (x : Machine) (before : Holds (seen program fun args None x)) where
  abbrev P : Prog
  P = program_of program

  abbrev old : Seen
  old = seen program fun args None x

  pub ready : (k : ℕ) → Ready (bodies_of P) (after (bodies_of P) k (state_of x)).at
  ready k =
      let h = before.kept in
      let there = ap (after (bodies_of P) k) h.state ∙ sym (after_add (bodies_of P) x.made k (start fun (args_in old))) in
      subst (λ (s : State). Ready (bodies_of P) s.at) (sym there) ((linked old h h.function h.there).ready (x.made + k))

  module _ (y : Machine) (steps : ℕ) (r : Result End AllocError) (came : Came (word_of r) y (after (bodies_of P) (y.made - x.made) (state_of x))) (goes : Goes steps x y) (sound : IsSound y) (ends : IfOk r (EndsAt (bodies_of P) steps y)) where
    abbrev new : Seen
    new = seen program fun args (word_of r) y

    same_args : args_in new ≡ args_in old
    same_args =
        let more = goes.4 in
        let rest = held_front x.heap.cells more.0 in
        let below = subst (λ n. AllBelow n args) (sym (length_held x.heap.cells)) before.args in
        ap (λ l. values_of (held l) args) more.1 ∙ ap (λ h. values_of h args) rest.1 ∙ values_more (held x.heap.cells) rest.0 args below

    there : state_in new ≡ at P fun (args_in new) (state_in new).made
    there =
        let code = bodies_of P in
        let s = start fun (args_in old) in
        let sum : x.made + (y.made - x.made) ≡ (state_in new).made = omega (arith, goes.0, made_of (word_of r) y) in
        came ∙ ap (after code (y.made - x.made)) before.kept.state ∙ sym (after_add code x.made (y.made - x.made) s) ∙ ap (λ n. after code n s) sum
        ∙ ap (λ l. at P fun l (state_in new).made) (sym same_args)

    pub kept : Kept new
    kept =
        let h = before.kept in
        record {
          function = h.function;
          there = h.there;
          typed = h.typed;
          numbers = h.numbers;
          types = subst (λ l. HaveTypes l (types_of h.function)) (sym same_args) h.types;
          state = there;
          cells = omega (arith, sound.taken, cells_of (word_of r) y);
        }

    pub holds : Holds new
    holds =
        let more : length x.heap.cells ≤ length y.heap.cells = omega (arith, ap length goes.4.1, length-append x.heap.cells goes.4.0) in
        record {
          kept = kept;
          sound = sound;
          args = all_more (length x.heap.cells) (length y.heap.cells) args more before.args;
          word = end_below y steps P r ends;
          ticks = goes.2;
        }

    pub goes_on : GoesOn steps old new
    goes_on = record {
      program = refl;
      fun = refl;
      arguments = same_args;
      most = goes.3;
      heap = goes.4;
      made = omega (arith, goes.0, made_of (word_of r) y);
      few = omega (arith, goes.1, made_of (word_of r) y);
      halted = λ w is. absurd (cc);
    }

pub all_below : (cells : List Cell) (words : List Word) (vs : List Value) → StandForAll cells words vs → AllBelow (length cells) words
all_below cells [] [] h = tt
all_below cells (w ∷ ws) (v ∷ vs) h = (stands_there cells w v h.0, all_below cells ws vs h.1)
all_below cells [] (v ∷ vs) h = absurd h
all_below cells (w ∷ ws) [] h = absurd h

-- a machine that begins
module _ (program : Program) (fun : ℕ) (args : List Word) (x : Machine) (cells : List Cell) (has : HaveArguments (program_of program) fun cells args) (heap : x.heap.cells ≡ cells) (sound : IsSound x) (begins : state_of x ≡ start fun (values_of (held x.heap.cells) args)) where
  abbrev first : Seen
  first = seen program fun args None x

  stand_here : (values : List Value) → StandForAll cells args values → args_in first ≡ values
  stand_here values h = sym (stand_is x.heap.cells args values sound.earlier (subst (λ l. StandForAll l args values) (sym heap) h))

  pub begins_first : (limit : ℕ) → x.limit ≡ limit → Begins (program_of program) fun cells args limit first
  begins_first limit most = record { program = refl; fun = refl; arguments = stand_here; heap = heap; most = most; state = begins }

  module _ (typed : Typed (program_of program)) (numbers : All (λ (g : Function). AllNodes NumberFits g.body) (program_of program)) where
    pub kept_first : Kept first
    kept_first = record {
      function = has.function;
      there = has.there;
      typed = typed;
      numbers = numbers;
      types = subst (λ l. HaveTypes l (types_of has.function)) (sym (stand_here has.values has.stand)) has.types;
      state = begins ∙ ap (λ (s : State). at (program_of program) fun (args_in first) s.made) (sym begins);
      cells = sound.taken;
    }

    pub holds_first : Holds first
    holds_first =
        let ticks : x.ticks ≡ 0 = ap (λ (s : State). s.ticks) begins in
        record {
          kept = kept_first;
          sound = sound;
          args = all_below x.heap.cells args has.values (subst (λ l. StandForAll l args has.values) (sym heap) has.stand);
          word = tt;
          ticks = omega (arith, ticks);
        }
