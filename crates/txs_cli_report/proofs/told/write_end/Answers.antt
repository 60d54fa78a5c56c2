use Rattle.std.proofs.Common.{◌≡◌, ◌++◌, ℕ, List, [], None, OnOk, sym, subst, refl}
use Rattle.std.proofs.lemmas.List.{append-nil}
use Rattle.txs_world_protocol.specs.declared.event.Outcome.{Outcome}
use Rattle.txs_cli_report.specs.Lent.{front_of, script_of}
use Rattle.txs_cli_report.specs.Lines.{IsLesson, end_line, end_place}
use Rattle.txs_cli_report.proofs.Lessons.{nothing_told}
use Rattle.txs_cli_report.proofs.told.write_end.Goals as goal

-- of one that is done there is no line
pub returns-in-Done : goal.returns-in-Done
returns-in-Done c =
    let script = script_of c.args.script in
    let front = front_of c.args.front in
    ([], subst (λ (o : Outcome). IsLesson script (end_line front o) (end_place o c.args.at) []) (sym c.in-Done.is) (nothing_told script None [] refl), sym (append-nil c.args.errors.now.items))

pub returns-in-StepsSpent : goal.returns-in-StepsSpent
returns-in-StepsSpent c =
    let script = script_of c.args.script in
    let front = front_of c.args.front in
    let old = c.args.errors.now.items in
    let new = c.write_stopped.new.errors.items in
    subst (λ (o : Outcome). OnOk c.write_stopped.result ((line : List ℕ) × IsLesson script (end_line front o) (end_place o c.args.at) line × (new ≡ old ++ line))) (sym c.in-StepsSpent.is) c.write_stopped.ensures

pub returns-in-JournalFull : goal.returns-in-JournalFull
returns-in-JournalFull c =
    let script = script_of c.args.script in
    let front = front_of c.args.front in
    let old = c.args.errors.now.items in
    let new = c.write_stopped-in-JournalFull.new.errors.items in
    subst (λ (o : Outcome). OnOk c.write_stopped-in-JournalFull.result ((line : List ℕ) × IsLesson script (end_line front o) (end_place o c.args.at) line × (new ≡ old ++ line))) (sym c.in-JournalFull.is) c.write_stopped-in-JournalFull.ensures

pub returns-in-Memory : goal.returns-in-Memory
returns-in-Memory c =
    let script = script_of c.args.script in
    let front = front_of c.args.front in
    let old = c.args.errors.now.items in
    let new = c.write_stopped-in-Memory.new.errors.items in
    subst (λ (o : Outcome). OnOk c.write_stopped-in-Memory.result ((line : List ℕ) × IsLesson script (end_line front o) (end_place o c.args.at) line × (new ≡ old ++ line))) (sym c.in-Memory.is) c.write_stopped-in-Memory.ensures
