-- What compiling a script gives.
use Rattle.std.specs.Prelude.{◌≢◌, ℕ, List, map}
use Rattle.txs_reader.specs.Script.{Reads, ReadStops}
use Rattle.txs_reader.specs.Tree.{PlainForm as Form}
use Rattle.txs_reader.specs.declared.error.ReadErrorKind.TheVariants.{Memory as Unread}
use Rattle.txs_reader.specs.declared.error.ReadError.{ReadError}
use Rattle.txs_resolve.specs.Names.{Resolves, ResolveStops}
use Rattle.txs_resolve_expand.specs.declared.error.ResolveError.{ResolveError}
use Rattle.txs_check.specs.Refused.{CheckStops}
use Rattle.txs_check.specs.declared.error.CheckError.{CheckError}
use Rattle.txs_tree_meaning.specs.Sound.{Sound}
use Rattle.txs_tree_meaning.specs.Tree.{PlainProgram}
use Rattle.txs_code_meaning.specs.Machine.{ThreadCode}
use Rattle.txs_code_meaning.specs.PlainCode.{PlainCode, thread_code}
use Rattle.txs_compile.specs.declared.compile_error.CompileError.{CompileError}
use Rattle.txs_compile.specs.declared.compile_error.CompileError.TheVariants.{Read, Resolve, Check, Memory}

-- the program of a script: its forms are read, names resolve to the program, and that is sound
pub record IsProgramOf (bytes : List ℕ) (p : PlainProgram) : Type 0 where
  pub forms : List Form
  pub reads : Reads bytes forms
  pub resolved : Resolves forms p
  pub sound : Sound p

-- why a script isn't read: no forms are those of its bytes
pub record IsUnread (bytes : List ℕ) (e : ReadError) : Type 0 where
  pub told : e.kind ≢ Unread
  pub stops : ReadStops bytes e.kind e.at

-- why names of a script that reads don't resolve
pub record IsUnresolved (bytes : List ℕ) (e : ResolveError) : Type 0 where
  pub forms : List Form
  pub reads : Reads bytes forms
  pub stops : ResolveStops forms e

-- why a script whose names resolve isn't sound
pub record IsUnchecked (bytes : List ℕ) (e : CheckError) : Type 0 where
  pub forms : List Form
  pub reads : Reads bytes forms
  pub program : PlainProgram
  pub resolved : Resolves forms program
  pub stops : CheckStops program e

-- the code of each thread
abbrev pub codes_of : PlainCode → List ThreadCode
codes_of code = map (λ b. thread_code code b) code.threads

-- a refusal is that of the first layer that refuses, and true; running out of memory says nothing of the script
abbrev pub IsRefusal : List ℕ → CompileError → Type 0
IsRefusal bytes (Read e) = IsUnread bytes e
IsRefusal bytes (Resolve e) = IsUnresolved bytes e
IsRefusal bytes (Check e) = IsUnchecked bytes e
IsRefusal bytes Memory = Unit {0}
