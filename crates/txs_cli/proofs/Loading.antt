-- What is told of bytes that were read is told of a source's text; and what is known of what is loaded.
use Rattle.std.proofs.Common.{◌≡◌, ◌≢◌, ◌⊎◌, ◌++◌, ℕ, true, List, [], Option, Some, None, Result, Ok, Err, IfOk, append-nil, sym, ap, subst, ◌∙◌, inl, inr}
use Rattle.txs_cli_report.specs.Lent.{told_of}
use Rattle.txs_cli_report.specs.Lines.{Script}
use Rattle.txs_cli_report.specs.Told.{Told, IsTold, ScriptRefused}
use Rattle.txs_cli_report.specs.declared.told.Told as owned
use Rattle.txs_code_decode.specs.CodeForm.{HasForm}
use Rattle.txs_code_meaning.specs.PlainCode.{PlainCode}
use Rattle.txs_compile.specs.Compiled.{IsRefusal as IsScriptRefusal}
use Rattle.txs_compile.specs.declared.compile_error.CompileError.{CompileError}
use Rattle.txs_machine.specs.declared.schedule.Entries.{Entries}
use Rattle.txs_tree_meaning.specs.View.{Parts, program_of}
use Rattle.txs_verify.specs.Load.{IsRefusal as IsFormRefusal, is_settled}
use Rattle.txs_verify.specs.declared.load_error.LoadError.{LoadError}
use Rattle.txs_verify.specs.declared.load_error.LoadError.TheVariants.{Memory}
use Rattle.txs_world_shared.specs.SharedState.{PlainShared}
use Rattle.txs_cli.proofs.FormStream.{not_form, refused_on}
use Rattle.txs_cli.specs.CodeLines.{load_line}
use Rattle.txs_cli.specs.Runner.{IsWorked}
use Rattle.txs_cli.specs.Runs.{Failures, ProgramExplains}
use Rattle.txs_cli.specs.Source as source
use Rattle.txs_cli.specs.Source.{Source, OfForm, FormRefused, IsLoaded, IsReadOf, IsRefusedBy, RefusalTells, script_at}
use Rattle.txs_cli.specs.Telling.{SourceTells, Use, UseTells, of_refused, of_use}
use Rattle.txs_cli.specs.declared.source.Refusal.TheVariants as refusal

-- ---- of all of a text

-- all of it was read
all_read : (text bytes rest : List ℕ) → text ≡ bytes ++ rest → rest ≡ [] → bytes ≡ text
all_read text bytes rest is none = sym (is ∙ ap (λ l. bytes ++ l) none ∙ append-nil bytes)

used_form : (f : Failures) (text bytes : List ℕ) (wanted : Use) (t : Told) (code : PlainCode) (rest : List ℕ) → text ≡ bytes ++ rest → (rest ≡ []) ⊎ (is_settled bytes ≡ true)
    → IsLoaded OfForm bytes None code → UseTells f (script_at OfForm bytes) None code wanted t → SourceTells f OfForm text wanted t
used_form f text bytes wanted t code rest is (inl none) loaded told = subst (λ (x : List ℕ). SourceTells f OfForm x wanted t) (all_read text bytes rest is none) (of_use None code loaded told)
used_form f text bytes wanted t code rest is (inr settled) loaded told = not_form bytes code settled loaded.0

pub used_so : (f : Failures) (s : Source) (text bytes : List ℕ) (wanted : Use) (t : Told) (program : Option Parts) (code : PlainCode)
    → IsReadOf s text bytes → IsLoaded s bytes program code → UseTells f (script_at s bytes) program code wanted t → SourceTells f s text wanted t
used_so f (source.OfScript file) text bytes wanted t program code read loaded told = subst (λ (x : List ℕ). SourceTells f (source.OfScript file) x wanted t) read (of_use program code loaded told)
used_so f OfForm text bytes wanted t (Some parts) code read loaded told = absurd loaded
used_so f OfForm text bytes wanted t None code read loaded told = used_form f text bytes wanted t code read.rest read.is read.enough loaded told

refused_form : (text bytes : List ℕ) (t : Told) (rest : List ℕ) → text ≡ bytes ++ rest → (rest ≡ []) ⊎ (is_settled bytes ≡ true) → FormRefused bytes t → FormRefused text t
refused_form text bytes t rest is (inl none) told = subst (λ (x : List ℕ). FormRefused x t) (all_read text bytes rest is none) told
refused_form text bytes t rest is (inr settled) told =
    record { error = told.error; told = told.told; refused = subst (λ (x : List ℕ). IsFormRefusal x told.error) (sym is) (refused_on bytes rest told.error settled told.told told.refused); is = told.is }

pub refused_so : (f : Failures) (s : Source) (text bytes : List ℕ) (wanted : Use) (t : Told) → IsReadOf s text bytes → RefusalTells s bytes t → SourceTells f s text wanted t
refused_so f (source.OfScript file) text bytes wanted t read told = subst (λ (x : List ℕ). SourceTells f (source.OfScript file) x wanted t) read (of_refused told)
refused_so f OfForm text bytes wanted t read told = of_refused (refused_form text bytes t read.rest read.is read.enough told)

-- ---- refusals

-- why a script is refused, and that is told of the source
pub script_refused : (s : Source) (text : List ℕ) (e : CompileError) (z : Script) → z ≡ script_at s text → IsRefusedBy s text (refusal.Script e) → IsScriptRefusal z.text e
script_refused (source.OfScript file) text e z is h = subst (λ (x : Script). IsScriptRefusal x.text e) (sym is) h
script_refused OfForm text e z is h = absurd h

pub script_told : {E : Type 0} (s : Source) (text : List ℕ) (e : CompileError) (z : Script) (r : Result owned.Told E) → z ≡ script_at s text → IsRefusedBy s text (refusal.Script e)
    → IfOk r (λ t. ScriptRefused z (told_of t)) → IfOk r (λ t. RefusalTells s text (told_of t))
script_told (source.OfScript file) text e z r is h told = subst (λ (x : Script). IfOk r (λ t. ScriptRefused x (told_of t))) is told
script_told OfForm text e z r is h told = absurd h

pub form_told : {E : Type 0} (s : Source) (text : List ℕ) (e : LoadError) (r : Result owned.Told E) → IsRefusedBy s text (refusal.Form e)
    → IfOk r (λ t. e ≢ Memory) → IfOk r (λ t. IsTold [] (load_line e) 1 (told_of t)) → IfOk r (λ t. RefusalTells s text (told_of t))
form_told (source.OfScript file) text e r h told is = absurd h
form_told OfForm text e (Ok t) h told is = record { error = e; told = told; refused = h; is = is }
form_told OfForm text e (Err x) h told is = tt

-- ---- of what is loaded

pub has_form : (s : Source) (text : List ℕ) (program : Option Parts) (code : PlainCode) → IsLoaded s text program code → HasForm code
has_form (source.OfScript file) text None code h = absurd h
has_form (source.OfScript file) text (Some parts) code h = h.1
has_form OfForm text None code h = h.0.fits
has_form OfForm text (Some parts) code h = absurd h

-- a script's program explains its runs
pub explained_by : (s : Source) (text : List ℕ) (program : Option Parts) (code : PlainCode) (steps : ℕ) (shared : PlainShared) (entries : Entries)
    → IsLoaded s text program code → IsWorked code steps shared entries → ProgramExplains program shared entries
explained_by (source.OfScript file) text None code steps shared entries h worked = absurd h
explained_by (source.OfScript file) text (Some parts) code steps shared entries h worked =
    let compiled = h.0 in worked.explained (program_of parts) (sym compiled.same) compiled.follows compiled.agents compiled.sends compiled.agents_send
explained_by OfForm text None code steps shared entries h worked = tt
explained_by OfForm text (Some parts) code steps shared entries h worked = absurd h
