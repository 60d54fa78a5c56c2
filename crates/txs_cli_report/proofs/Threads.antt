-- What is told of threads, one after the other: with one more thread told, what is told so far and of those to come is what is told of all.
use Rattle.std.proofs.Common.{◌≡◌, ◌+◌, ◌<◌, ◌==◌, ℕ, suc, max, List, [], ◌∷◌, ◌++◌, None, Some, length, get_or, drop, true, false, refl, sym, ap, ◌∙◌, subst, append_assoc, arith}
use Rattle.std.proofs.lemmas.Bool.{eqb-true, false≢true}
use Rattle.std.proofs.lemmas.List.{drop_more}
use Rattle.txs_world_protocol.specs.declared.report.ActorReport.{ActorReport}
use Rattle.txs_cli_report.specs.Lines.{Script, IsLesson, AreLessons, AreThreadsTold, how_ended, lesson_of, thread_front, end_line, end_place, all_printed, status_from, status_of}

-- the threads from the k-th on begin with the k-th
pub dropped : (rs : List ActorReport) (k : ℕ) (r : ActorReport) → k < length rs → r ≡ get_or rs k r → drop k rs ≡ r ∷ drop (k + 1) rs
dropped rs k r l e = drop_more rs k r l ∙ ap (λ x. x ∷ drop (k + 1) rs) (sym e)

-- ---- what is printed

-- of no thread nothing is
pub none_printed : (rs ss : List ActorReport) (lines xs : List ℕ) → rs ≡ [] → ss ≡ [] → lines ≡ xs → all_printed (rs ++ ss) ++ lines ≡ xs
none_printed rs ss lines xs none no_more is = ap (λ (l : List ActorReport). all_printed (l ++ ss) ++ lines) none ∙ ap (λ (l : List ActorReport). all_printed l ++ lines) no_more ∙ is

-- ---- lines and status

-- the lines of the threads to come, behind one more
pub lessons_more : (script : Script) (k : ℕ) (rs : List ActorReport) (r : ActorReport) (errors line : List ℕ) → k < length rs → r ≡ get_or rs k r
    → ((rest : List ℕ) → AreLessons script k (drop k rs) rest → AreLessons script 0 rs (errors ++ rest)) → IsLesson script (end_line (thread_front k) (how_ended r.outcome)) (end_place (how_ended r.outcome) r.place) line
    → (rest : List ℕ) → AreLessons script (k + 1) (drop (k + 1) rs) rest → AreLessons script 0 rs ((errors ++ line) ++ rest)
lessons_more script k rs r errors line l e before lesson rest h =
    let next : k + 1 ≡ suc k = omega arith in
    subst (λ es. AreLessons script 0 rs es) (sym (append_assoc errors line rest))
    (before (line ++ rest) (subst (λ xs. AreLessons script k xs (line ++ rest)) (sym (dropped rs k r l e)) (line, rest, lesson, subst (λ n. AreLessons script n (drop (k + 1) rs) rest) next h, refl)))

-- the status
pub status_more : (rs : List ActorReport) (k : ℕ) (r : ActorReport) (m : ℕ) → k < length rs → r ≡ get_or rs k r
    → status_from m (drop k rs) ≡ status_from 0 rs → status_from (max m (status_of (how_ended r.outcome))) (drop (k + 1) rs) ≡ status_from 0 rs
status_more rs k r m l e before = ap (status_from m) (sym (dropped rs k r l e)) ∙ before

-- ---- no thread, or some

-- of none it is told that there is none
pub no_thread : (script : Script) (rs : List ActorReport) (errors : List ℕ) → (length rs == 0) ≡ true → (advice : List ℕ) × (errors ≡ lesson_of script.file script.text None (Some advice)) → AreThreadsTold script rs errors
no_thread script [] errors none told = told
no_thread script (r ∷ rs) errors none told = (let z = eqb-true (length (r ∷ rs)) 0 none in absurd (omega (arith, z)))

pub no_thread_status : (rs : List ActorReport) → (length rs == 0) ≡ true → 0 ≡ status_from 0 rs
no_thread_status [] none = refl
no_thread_status (r ∷ rs) none = (let z = eqb-true (length (r ∷ rs)) 0 none in absurd (omega (arith, z)))

-- of some it is told how each ended
pub some_threads : (script : Script) (rs : List ActorReport) (errors : List ℕ) → (length rs == 0) ≡ false → AreLessons script 0 rs errors → AreThreadsTold script rs errors
some_threads script [] errors some told = absurd (false≢true (sym some))
some_threads script (r ∷ rs) errors some told = told
