-- What the runs of ways print and tell.
use Rattle.std.proofs.Common.{◌≡◌, ◌<◌, ◌≤◌, ◌+◌, ◌++◌, ◌∙◌, ℕ, Bool, true, false, List, [], ◌∷◌, Option, Some, Result, IfOk, IfSome, length, take, drop, get_or, refl, sym, ap, subst, append_assoc, Global, Vec}
use Rattle.std.proofs.lemmas.List.{append-nil, drop_all, take_all}
use Rattle.txs_audit_book.specs.declared.verdict.AuditError.{AuditError}
use Rattle.txs_cli.specs.Runs.{RanTells, against}
use Rattle.txs_cli_report.proofs.Printing.{printed_both}
use Rattle.txs_cli_report.specs.Lent.{told_of}
use Rattle.txs_cli_report.specs.Lines.{Script, all_printed}
use Rattle.txs_cli_report.specs.Told.{Told}
use Rattle.txs_cli_report.specs.declared.told.Told as owned
use Rattle.txs_cli_args.specs.declared.request.RunOptions.{RunOptions}
use Rattle.txs_code_meaning.specs.PlainCode.{PlainCode}
use Rattle.txs_machine.specs.declared.schedule.Entries.{Entries}
use Rattle.txs_tree_meaning.specs.View.{Parts}
use Rattle.txs_world_protocol.specs.declared.report.ActorReport.{ActorReport}
use Rattle.txs_world_protocol.specs.declared.report.Report.{Report}
use Rattle.txs_world_shared.specs.SharedState.{PlainShared}
use Rattle.txs_cli_explore.specs.Explored.{ExploredTells, OutcomeTells, lists_in, outcome_options, texts_in}
use Rattle.txs_cli_explore.specs.declared.outcomes.Outcome.{Outcome}
use Rattle.txs_cli_explore.proofs.Lines.{dropped, taken}

-- what holds of a value, if there is one, holds of this one
pub some_at : {A : Type 0} (o : Option A) (x : A) (P : A → Type 0) → o ≡ Some x → IfSome o P → P x
some_at o x P e h = subst (λ m. IfSome m P) e h

-- ---- what actors printed

-- one actor more
pub printed_more : (out new all : List ℕ) (rs : List ActorReport) (i : ℕ) (r : ActorReport) (bytes : List ℕ) → i < length rs → r ≡ get_or rs i r → bytes ≡ r.printed.items → new ≡ out ++ bytes
    → out ++ all_printed (drop i rs) ≡ all → new ++ all_printed (drop (i + 1) rs) ≡ all
printed_more out new all rs i r bytes l is same e h =
    let more : List ℕ = all_printed (drop (i + 1) rs) in
    ap (λ z. z ++ more) (e ∙ ap (λ b. out ++ b) same) ∙ append_assoc out r.printed.items more ∙ ap (λ ds. out ++ all_printed ds) (sym (dropped rs i r l is)) ∙ h

pub printed_done : (out all : List ℕ) (rs : List ActorReport) (i : ℕ) → length rs ≤ i → out ++ all_printed (drop i rs) ≡ all → out ≡ all
printed_done out all rs i le h = sym (append-nil out) ∙ ap (λ ds. out ++ all_printed ds) (sym (drop_all i rs le)) ∙ h

-- what the threads printed, what the agents printed, and then lines
pub lines_are : (ts us ts2 us2 : List ActorReport) (o o2 e e2 l0 l1 l2 l3 l4 : List ℕ) → ts2 ≡ ts → us2 ≡ us → o2 ≡ o → e2 ≡ e → l0 ≡ [] → l1 ≡ l0 ++ all_printed ts2 → l2 ≡ l1 ++ all_printed us2 → l3 ≡ l2 ++ o2 → l4 ≡ l3 ++ e2
    → l4 ≡ (all_printed (ts ++ us) ++ o) ++ e
lines_are ts us ts2 us2 o o2 e e2 l0 l1 l2 l3 l4 p q r s a b c d f =
    f ∙ ap (λ z. l3 ++ z) s
    ∙ ap (λ z. z ++ e)
    (d ∙ ap (λ z. l2 ++ z) r
    ∙ ap (λ z. z ++ o) (c ∙ ap (λ z. l1 ++ all_printed z) q ∙ ap (λ z. z ++ all_printed us) (b ∙ ap (λ z. l0 ++ all_printed z) p ∙ ap (λ z. z ++ all_printed ts) a) ∙ sym (printed_both ts us)))

-- ---- what a run tells

-- against the program that is asked for, and by these options
pub told_so : {E : Type 0} (r : Result owned.Told E) (failed : ℕ → Parts → Report → AuditError → Type 0) (script : Script) (steps : ℕ) (audit : Bool) (o : RunOptions) (a : Option Parts) (parts : Parts) (code : PlainCode) (s : PlainShared) (entries : Entries)
    → a ≡ against audit (Some parts) → o ≡ outcome_options steps audit → IfOk r (λ t. RanTells a (failed o.steps) code script o s entries (told_of t)) → IfOk r (λ t. OutcomeTells audit (failed steps) script steps parts code s entries (told_of t))
told_so r failed script steps audit o a parts code s entries is e h =
    subst (λ (p : RunOptions). IfOk r (λ t. RanTells (against audit (Some parts)) (failed p.steps) code script p s entries (told_of t))) e
    (subst (λ (x : Option Parts). IfOk r (λ t. RanTells x (failed o.steps) code script o s entries (told_of t))) is h)

-- ---- lists of plays

texts_push : (ts : List (Vec ℕ Global)) (t : Vec ℕ Global) → texts_in (ts ++ t ∷ []) ≡ texts_in ts ++ t.items ∷ []
texts_push [] t = refl
texts_push (x ∷ ts) t = ap (λ z. x.items ∷ z) (texts_push ts t)

lists_push : (os : List Outcome) (o : Outcome) → lists_in (os ++ o ∷ []) ≡ lists_in os ++ o.list.items ∷ []
lists_push [] o = refl
lists_push (x ∷ os) o = ap (λ z. x.list.items ∷ z) (lists_push os o)

-- one list more
pub lists_more : (ts new : List (Vec ℕ Global)) (t : Vec ℕ Global) (os : List Outcome) (i : ℕ) (o : Outcome) → i < length os → o ≡ get_or os i o → t.items ≡ o.list.items → new ≡ ts ++ t ∷ [] → texts_in ts ≡ lists_in (take i os)
    → texts_in new ≡ lists_in (take (i + 1) os)
lists_more ts new t os i o l is same e h =
    ap texts_in e ∙ texts_push ts t ∙ ap (λ z. z ++ t.items ∷ []) h ∙ ap (λ z. lists_in (take i os) ++ z ∷ []) same ∙ sym (lists_push (take i os) o) ∙ ap lists_in (sym (taken os i o l is))

pub lists_done : (ts : List (Vec ℕ Global)) (os : List Outcome) (i : ℕ) → length os ≤ i → texts_in ts ≡ lists_in (take i os) → texts_in ts ≡ lists_in os
lists_done ts os i le h = h ∙ ap lists_in (take_all i os le)

-- ---- limits

-- what is told of a search within one limit is told of it within the same
pub limited_so : (failed : ℕ → Parts → Report → AuditError → Type 0) (script : Script) (n m : ℕ) (audit b same d : Bool) (lists : List (List ℕ)) (t : Told) → n ≡ m → audit ≡ b → same ≡ d
    → ExploredTells script n (OutcomeTells audit (failed n) script n) same lists t → ExploredTells script m (OutcomeTells b (failed m) script m) d lists t
limited_so failed script n m audit b same d lists t p q r h =
    subst (λ x. ExploredTells script m (OutcomeTells b (failed m) script m) x lists t) r
    (subst (λ x. ExploredTells script m (OutcomeTells x (failed m) script m) same lists t) q (subst (λ x. ExploredTells script x (OutcomeTells audit (failed x) script x) same lists t) p h))
