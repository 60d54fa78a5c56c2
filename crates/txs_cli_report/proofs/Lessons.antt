-- A line with what explains it: there is a sentence exactly where there is a line.
use Rattle.std.proofs.Common.{◌≡◌, ◌≢◌, ◌++◌, ◌∙◌, ℕ, List, [], ◌∷◌, Option, Some, None, IsNone, codes, refl, sym, ap, append_assoc}
use Rattle.txs_world_protocol.specs.declared.event.Outcome.{Outcome}
use Rattle.txs_cli_report.specs.AgentLines.{EndTold, end_status}
use Rattle.txs_cli_report.specs.Lines.{Script, IsLesson, at_place, end_line, end_place, failed_line, how_ended, status_of, lesson_of, refusal_line, stopped_line}
use Rattle.txs_value_data.specs.Faults.{fault_name}
use Rattle.txs_value_data.specs.declared.fault.Fault.{Fault}
use Rattle.txs_value_data.specs.declared.fault.Span.{Span}

-- ---- these are lines

pub is_refusal_line : (number : ℕ) (name : List ℕ) (at : Span) → refusal_line number name at ≢ []
is_refusal_line number name at e = cc

pub is_failed_line : (front : List ℕ) (f : Fault) → failed_line front f ≢ []
is_failed_line [] f e = cc
is_failed_line (x ∷ xs) f e = cc

pub is_stopped_line : (front why : List ℕ) → stopped_line front why ≢ []
is_stopped_line [] why e = cc
is_stopped_line (x ∷ xs) why e = cc

-- ---- lessons

-- a line with its sentence
pub line_told : (script : Script) (line : List ℕ) (at : Option Span) (errors advice : List ℕ) → line ≢ [] → errors ≡ line ++ lesson_of script.file script.text at (Some advice) → IsLesson script line at errors
line_told script line at errors advice there is = record { advice = Some advice; told = (λ none. cc, λ e. absurd (there e)); is = is }

-- the same, where the line was written first
pub begun_told : (script : Script) (line : List ℕ) (at : Option Span) (begun errors advice : List ℕ) → line ≢ [] → begun ≡ line → errors ≡ begun ++ lesson_of script.file script.text at (Some advice) → IsLesson script line at errors
begun_told script line at begun errors advice there b is = line_told script line at errors advice there (is ∙ ap (λ (l : List ℕ). l ++ lesson_of script.file script.text at (Some advice)) b)

-- the same behind other lines
pub told_behind : (script : Script) (line : List ℕ) (at : Option Span) (old new advice : List ℕ) → line ≢ [] → new ≡ (old ++ line) ++ lesson_of script.file script.text at (Some advice)
    → (l : List ℕ) × IsLesson script line at l × (new ≡ old ++ l)
told_behind script line at old new advice there is =
    let lesson : List ℕ = lesson_of script.file script.text at (Some advice) in
    (line ++ lesson, line_told script line at (line ++ lesson) advice there refl, is ∙ append_assoc old line lesson)

-- the same behind what was empty, with the line and what explains it written at once
pub line_behind : (script : Script) (line : List ℕ) (at : Option Span) (old errors advice : List ℕ) → line ≢ [] → old ≡ [] → errors ≡ (old ++ line) ++ lesson_of script.file script.text at (Some advice) → IsLesson script line at errors
line_behind script line at old errors advice there none is = line_told script line at errors advice there (is ∙ ap (λ (l : List ℕ). (l ++ line) ++ lesson_of script.file script.text at (Some advice)) none)

-- four parts of a line, behind what stands before it
four_assoc : (old a b c d : List ℕ) → (old ++ a) ++ b ++ c ++ d ≡ old ++ (a ++ b ++ c ++ d)
four_assoc old a b c d = ap (λ (l : List ℕ). l ++ c ++ d) (append_assoc old a b) ∙ ap (λ (l : List ℕ). l ++ d) (append_assoc old (a ++ b) c) ∙ append_assoc old (a ++ b ++ c) d

-- of one that failed
pub failed_behind : (script : Script) (f : Fault) (front old begun ended new advice : List ℕ) → begun ≡ old ++ front → ended ≡ failed_line begun f → new ≡ ended ++ lesson_of script.file script.text (Some f.span) (Some advice)
    → (l : List ℕ) × IsLesson script (failed_line front f) (Some f.span) l × (new ≡ old ++ l)
failed_behind script f front old begun ended new advice b e n =
    let lesson : List ℕ = lesson_of script.file script.text (Some f.span) (Some advice) in
    let line : ended ≡ old ++ failed_line front f = e ∙ ap (λ (l : List ℕ). failed_line l f) b ∙ four_assoc old front (codes " failed: ") (fault_name f.kind) (at_place f.span) in
    told_behind script (failed_line front f) (Some f.span) old new advice (is_failed_line front f) (n ∙ ap (λ (l : List ℕ). l ++ lesson) line)

-- of one that was stopped
pub stopped_behind : (script : Script) (at : Option Span) (why front old begun ended new advice : List ℕ) → begun ≡ old ++ front → ended ≡ stopped_line begun why → new ≡ ended ++ lesson_of script.file script.text at (Some advice)
    → (l : List ℕ) × IsLesson script (stopped_line front why) at l × (new ≡ old ++ l)
stopped_behind script at why front old begun ended new advice b e n =
    let lesson : List ℕ = lesson_of script.file script.text at (Some advice) in
    let line : ended ≡ old ++ stopped_line front why = e ∙ ap (λ (l : List ℕ). stopped_line l why) b ∙ four_assoc old front (codes " stopped: ") why (codes "\n") in
    told_behind script (stopped_line front why) at old new advice (is_stopped_line front why) (n ∙ ap (λ (l : List ℕ). l ++ lesson) line)

-- without a sentence nothing is explained
unexplained : (file : Option (List ℕ)) (text : List ℕ) (at : Option Span) → lesson_of file text at None ≡ []
unexplained None text at = refl
unexplained (Some f) text at = refl

-- no line
pub nothing_told : (script : Script) (at : Option Span) (errors : List ℕ) → errors ≡ [] → IsLesson script [] at errors
nothing_told script at errors e = record { advice = None; told = (λ none. refl, λ l. refl); is = e ∙ sym (unexplained script.file script.text at) }

-- a lesson without a line is nothing
no_lesson : (script : Script) (line : List ℕ) (advice : Option (List ℕ)) → IsNone advice → line ≡ lesson_of script.file script.text None advice → line ≡ []
no_lesson script line None none is = is ∙ unexplained script.file script.text None
no_lesson script line (Some advice) none is = cc

-- of one that may not have ended, where nothing is told of it as of one that is done
pub ended_told : (script : Script) (front : List ℕ) (o : Option Outcome) (at : Option Span) (line : List ℕ) → IsLesson script (end_line front (how_ended o)) (end_place (how_ended o) at) line → EndTold script front o at line
ended_told script front None at line h = no_lesson script line h.advice (h.told.1 refl) h.is
ended_told script front (Some o) at line h = h

-- its status
pub ended_status : (o : Option Outcome) → status_of (how_ended o) ≡ end_status o
ended_status None = refl
ended_status (Some o) = refl

-- two parts and two more behind what stands before them
pub two_pairs : (old a b c d first second : List ℕ) → first ≡ old ++ (a ++ b) → second ≡ first ++ (c ++ d) → second ≡ old ++ (a ++ b ++ c ++ d)
two_pairs old a b c d first second e f =
    f ∙ ap (λ (l : List ℕ). l ++ (c ++ d)) e ∙ append_assoc old (a ++ b) (c ++ d) ∙ ap (λ (l : List ℕ). old ++ l) (sym (append_assoc (a ++ b) c d))
