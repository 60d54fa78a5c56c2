-- A run that tells the same as another, and what is recorded of it.
use Rattle.std.proofs.Common.{◌≡◌, ◌+◌, ◌<◌, ◌≤◌, ◌++◌, ◌∙◌, ℕ, List, [], Option, Some, None, IfSome, get_or, drop, length, ap, sym, subst}
use Rattle.std.proofs.lemmas.List.{drop_all}
use Rattle.txs_code_meaning.specs.PlainCode.{PlainCode}
use Rattle.txs_machine.specs.declared.schedule.Entries.{Entries}
use Rattle.txs_world_protocol.specs.declared.report.ActorReport.{ActorReport}
use Rattle.txs_world_shared.specs.SharedState.{PlainShared}
use Rattle.txs_cli_report.proofs.Printing.{printed_both}
use Rattle.txs_cli_report.proofs.Threads.{dropped}
use Rattle.txs_cli_report.specs.Lines.{Script, all_printed}
use Rattle.txs_cli_report.specs.Told.{Told, behind_bytes}
use Rattle.txs_cli_args.specs.declared.request.RunOptions.{RunOptions}
use Rattle.txs_cli.specs.Recorded.{Records, ReportRecords}
use Rattle.txs_cli.specs.Runner.{IsWorked}
use Rattle.txs_cli.specs.Source as source
use Rattle.txs_cli.specs.Source.{IsLoaded}
use Rattle.txs_cli.specs.declared.record.Record.{Record}
use Rattle.txs_cli.specs.declared.record.Record.TheVariants.{NoRun, NoList, List as Listed}
use Rattle.txs_tree_meaning.specs.View.{Parts}

-- ---- the same is told

-- two actors that printed the same, behind those that did
pub printed_more : (xs ys : List ActorReport) (k : ℕ) (x y : ActorReport) → k < length xs → k < length ys → x ≡ get_or xs k x → y ≡ get_or ys k y → x.printed.items ≡ y.printed.items
    → (all_printed (drop k xs) ≡ all_printed (drop k ys) → all_printed xs ≡ all_printed ys)
    → all_printed (drop (k + 1) xs) ≡ all_printed (drop (k + 1) ys) → all_printed xs ≡ all_printed ys
printed_more xs ys k x y within_xs within_ys is_x is_y same before rest =
    let first : all_printed (drop k xs) ≡ x.printed.items ++ all_printed (drop (k + 1) xs) = ap (λ (l : List ActorReport). all_printed l) (dropped xs k x within_xs is_x) in
    let second : all_printed (drop k ys) ≡ y.printed.items ++ all_printed (drop (k + 1) ys) = ap (λ (l : List ActorReport). all_printed l) (dropped ys k y within_ys is_y) in
    before (first ∙ ap (λ (l : List ℕ). l ++ all_printed (drop (k + 1) xs)) same ∙ ap (λ (l : List ℕ). y.printed.items ++ l) rest ∙ sym second)

-- behind the last actors nothing is printed
pub none_printed : (xs ys : List ActorReport) (k : ℕ) → length xs ≤ k → length xs ≡ length ys → all_printed (drop k xs) ≡ all_printed (drop k ys)
none_printed xs ys k past same =
    let first : all_printed (drop k xs) ≡ [] = ap (λ (l : List ActorReport). all_printed l) (drop_all k xs past) in
    let second : all_printed (drop k ys) ≡ [] = ap (λ (l : List ActorReport). all_printed l) (drop_all k ys (subst (λ (n : ℕ). n ≤ k) same past)) in
    first ∙ sym second

-- the same bytes on both streams, and the same status
pub told_same : (o p e f : List ℕ) (s t : ℕ) (a b : Told) → a ≡ record { output = o; errors = e; status = s } → b ≡ record { output = p; errors = f; status = t } → o ≡ p → e ≡ f → s ≡ t → a ≡ b
told_same o p e f s t a b is_a is_b output errors status =
    let by_output : List ℕ → Told = λ x. record { output = x; errors = e; status = s } in
    let by_errors : List ℕ → Told = λ x. record { output = p; errors = x; status = s } in
    let by_status : ℕ → Told = λ x. record { output = p; errors = f; status = x } in
    is_a ∙ ap by_output output ∙ ap by_errors errors ∙ ap by_status status ∙ sym is_b

-- the same lines behind what the same actors printed
pub behind_same : (ts us rs ss : List ActorReport) (l m : Told) → l ≡ m → all_printed ts ≡ all_printed rs → all_printed us ≡ all_printed ss
    → behind_bytes (all_printed (ts ++ us)) l ≡ behind_bytes (all_printed (rs ++ ss)) m
behind_same ts us rs ss l m lines threads agents =
    let printed : all_printed (ts ++ us) ≡ all_printed (rs ++ ss) = printed_both ts us ∙ ap (λ (x : List ℕ). x ++ all_printed us) threads ∙ ap (λ (x : List ℕ). all_printed rs ++ x) agents ∙ sym (printed_both rs ss) in
    ap (λ (x : List ℕ). behind_bytes x l) printed ∙ ap (λ (x : Told). behind_bytes (all_printed (rs ++ ss)) x) lines

-- what holds of a value, if there is one, holds of this one
pub some_at : {A : Type 0} (o : Option A) (x : A) (P : A → Type 0) → o ≡ Some x → IfSome o P → P x
some_at o x P e h = subst (λ m. IfSome m P) e h

-- ---- what is recorded

-- of a run of a script's code
pub recorded_so : (script : Script) (o : RunOptions) (program : Option Parts) (code : PlainCode) (shared : PlainShared) (report : Entries) (t : Told) (r : Record)
    → IsLoaded (source.OfScript script.file) script.text program code → IsWorked code o.steps shared report → ReportRecords code script o shared report t r → Records script o t r
recorded_so script o program code shared report t NoRun loaded worked h = tt
recorded_so script o program code shared report t NoList loaded worked h = tt
recorded_so script o None code shared report t (Listed list) loaded worked h = absurd loaded
recorded_so script o (Some parts) code shared report t (Listed list) loaded worked h =
    record { parts = parts; code = code; loaded = loaded; shared = shared; report = report; worked = worked; repeated = h }
