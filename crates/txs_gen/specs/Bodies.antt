-- What is made of functions and threads.
use Rattle.std.specs.Prelude.{◌≡◌, ℕ, ◌+◌, max, List, [], ◌∷◌, ◌++◌, length}
use Rattle.txs_value_data.specs.declared.fault.Span.{Span}
use Rattle.txs_value_data.specs.declared.value.Value.{Value}
use Rattle.txs_tree_meaning.specs.Known.{Known}
use Rattle.txs_tree_meaning.specs.Sound.{SoundFunctions, SoundThreads}
use Rattle.txs_tree_meaning.specs.Tree.{Tree, PlainFunction, PlainThread}
use Rattle.txs_code_meaning.specs.declared.instr.Instr.{Instr}
use Rattle.txs_code_meaning.specs.declared.instr.Instr.TheVariants.{Return, Halt}
use Rattle.txs_code_meaning.specs.PlainCode.{CodeBody}
use Rattle.txs_gen.specs.Emission.{Emission, AreLawful, emits, with_instr, instrs_of, stored, top}
use Rattle.txs_gen.specs.Generated.{spans_of, constants_of, constants_of_functions, constants_of_threads}
use Rattle.txs_gen.specs.declared.emit.Around.{Around}

-- nothing but constants and so many locals
abbrev pub fresh : ℕ → List Value → Emission
fresh d cs = record { instrs = []; spans = []; constants = cs; locals = d; room = 0 }

-- what a body's tree finds: nothing but so many locals, its parameters, is there yet, and a recur continues at its start
abbrev pub outermost : ℕ → Around
outermost d = record { depth = d; height = 0; base = 0; start = 0 }

-- the code of a body with so many parameters, after these constants
unfoldable pub finished : ℕ → Tree → Instr → Span → List Value → Emission
finished d t last span cs = with_instr last span (emits t (outermost d) (fresh d cs))

-- a body with so many parameters, where so many constants are there already
abbrev pub made_at : ℕ → Tree → Instr → Span → ℕ → CodeBody
made_at d t last span k = record {
  parameters = d;
  locals = max d (stored t d);
  instrs = instrs_of t d 0 0 0 k ++ last ∷ [];
  spans = spans_of t ++ span ∷ [];
}

-- the bodies of functions, where so many constants are there already
abbrev pub functions_from : List PlainFunction → ℕ → List CodeBody
functions_from [] k = []
functions_from (f ∷ fs) k = made_at f.parameters f.body Return f.span k ∷ functions_from fs (k + length (constants_of f.body))

-- how many values the stack of each function needs at most
abbrev pub function_rooms : List PlainFunction → List ℕ
function_rooms [] = []
function_rooms (f ∷ fs) = max 0 (top f.body 0) ∷ function_rooms fs

-- the bodies of threads, where so many constants are there already
abbrev pub threads_from : List PlainThread → ℕ → List CodeBody
threads_from [] k = []
threads_from (t ∷ ts) k = made_at 0 t.body Halt t.span k ∷ threads_from ts (k + length (constants_of t.body))

-- how many values the stack of each thread needs at most
abbrev pub thread_rooms : List PlainThread → List ℕ
thread_rooms [] = []
thread_rooms (t ∷ ts) = max 0 (top t.body 0) ∷ thread_rooms ts

-- functions that are sound where some are defined
abbrev pub AreSoundFunctions : List PlainFunction → Type 0
AreSoundFunctions fs = (ks : List Known) × AreLawful ks × SoundFunctions ks fs

-- threads that are sound where some functions are defined
abbrev pub AreSoundThreads : List PlainThread → Type 0
AreSoundThreads ts = (ks : List Known) × AreLawful ks × SoundThreads ks ts

-- constants, bodies and rooms are those of functions
pub record AreFunctionsMade (fs : List PlainFunction) (cs : List Value) (bs : List CodeBody) (rs : List ℕ) : Type 0 where
  pub constants : cs ≡ constants_of_functions fs
  pub bodies : bs ≡ functions_from fs 0
  pub rooms : rs ≡ function_rooms fs

-- bodies and rooms are those of threads, and so are the constants behind those that were there
pub record AreThreadsMade (ts : List PlainThread) (before cs : List Value) (bs : List CodeBody) (rs : List ℕ) : Type 0 where
  pub constants : cs ≡ before ++ constants_of_threads ts
  pub bodies : bs ≡ threads_from ts (length before)
  pub rooms : rs ≡ thread_rooms ts
