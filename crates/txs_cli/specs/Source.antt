-- What a request works on, what it is loaded as, and why it may be refused.
use Rattle.std.specs.Prelude.{◌≡◌, ◌≢◌, ◌⊎◌, ℕ, true, List, [], ◌++◌, Option, Some, None}
use Rattle.txs_cli_report.specs.Lent.{text_in}
use Rattle.txs_cli_report.specs.Lines.{Script}
use Rattle.txs_cli_report.specs.Told.{Told, IsCompiled, IsTold, ScriptRefused, front}
use Rattle.txs_code_decode.specs.CodeForm.{HasForm}
use Rattle.txs_code_meaning.specs.PlainCode.{PlainCode}
use Rattle.txs_code_meaning.specs.WellTyped.{WellTyped}
use Rattle.txs_compile.specs.Compiled.{IsRefusal as IsScriptRefusal}
use Rattle.txs_tree_meaning.specs.View.{Parts, program_of}
use Rattle.txs_verify.specs.Load.{IsFormOf, IsRefusal as IsFormRefusal, is_settled}
use Rattle.txs_verify.specs.declared.load_error.LoadError.{LoadError}
use Rattle.txs_verify.specs.declared.load_error.LoadError.TheVariants.{Memory}
use Rattle.txs_cli.specs.CodeLines.{load_line}
use Rattle.txs_cli.specs.declared.source.Refusal.{Refusal}
use Rattle.txs_cli.specs.declared.source.Refusal.TheVariants as refusal
use Rattle.txs_cli.specs.declared.source.Source as lent
use Rattle.txs_cli.specs.declared.source.Source.TheVariants as lent_source

-- A script, and the name under which its lines are explained, where they are; or code in its byte form.
pub data Source : Type 0 where
  OfScript : (file : Option (List ℕ)) → Source
  OfForm : Source

-- the same as it is lent
abbrev pub source_of : lent.Source → Source
source_of (lent_source.Script file) = OfScript (text_in file)
source_of lent_source.Form = OfForm

-- what it is of an input: as many bytes as are read of a script, or all
abbrev pub source_text : Source → List ℕ → List ℕ
source_text (OfScript file) input = front input
source_text OfForm input = input

-- the name under which lines are explained; those of code in its byte form never are
abbrev pub file_of : Source → Option (List ℕ)
file_of (OfScript file) = file
file_of OfForm = None

-- the script of which lines tell; code in its byte form has none
abbrev pub script_at : Source → List ℕ → Script
script_at (OfScript file) text = record { text = text; file = file }
script_at OfForm text = record { text = []; file = None }

-- These bytes are all of a text, or no form begins with them, whatever is behind them.
pub record IsEnoughOf (text bytes : List ℕ) : Type 0 where
  pub rest : List ℕ
  pub is : text ≡ bytes ++ rest
  pub enough : (rest ≡ []) ⊎ (is_settled bytes ≡ true)

-- how much of a text is read: all of a script, and enough of a byte form
abbrev pub IsReadOf : Source → (text bytes : List ℕ) → Type 0
IsReadOf (OfScript file) text bytes = bytes ≡ text
IsReadOf OfForm text bytes = IsEnoughOf text bytes

-- Code is well typed with some rooms for its stacks.
pub record IsTyped (code : PlainCode) : Type 0 where
  pub function_rooms : List ℕ
  pub thread_rooms : List ℕ
  pub typed : WellTyped code function_rooms thread_rooms

-- what a text is loaded as: a script as its program and the code that it compiles to, and a byte form as its code, which is well typed
abbrev pub IsLoaded : Source → List ℕ → Option Parts → PlainCode → Type 0
IsLoaded (OfScript file) text (Some parts) code = IsCompiled text (program_of parts) code × HasForm code
IsLoaded (OfScript file) text None code = ⊥
IsLoaded OfForm text (Some parts) code = ⊥
IsLoaded OfForm text None code = IsFormOf text code × IsTyped code

-- why it isn't loaded
abbrev pub IsRefusedBy : Source → List ℕ → Refusal → Type 0
IsRefusedBy (OfScript file) text (refusal.Script e) = IsScriptRefusal text e
IsRefusedBy (OfScript file) text (refusal.Form e) = ⊥
IsRefusedBy OfForm text (refusal.Script e) = ⊥
IsRefusedBy OfForm text (refusal.Form e) = IsFormRefusal text e

-- What is told of bytes that aren't taken as code: why, truly, which isn't for want of memory.
pub record FormRefused (bytes : List ℕ) (t : Told) : Type 0 where
  pub error : LoadError
  pub told : error ≢ Memory
  pub refused : IsFormRefusal bytes error
  pub is : IsTold [] (load_line error) 1 t

-- what is told of a text that is refused
abbrev pub RefusalTells : Source → List ℕ → Told → Type 0
RefusalTells (OfScript file) text t = ScriptRefused (record { text = text; file = file }) t
RefusalTells OfForm text t = FormRefused text t
