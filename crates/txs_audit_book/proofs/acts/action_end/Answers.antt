use Rattle.std.proofs.Common.{◌≡◌, Some, Err, refl, rules}
use Rattle.txs_tree_meaning.specs.View.{program_of}
use Rattle.txs_theorem_audit.specs.Evaluated as evaluated
use Rattle.txs_audit_book.proofs.Validators.{ends_by_fault, ends_by_none, ends_by_event, ends_by_turns, ends_by_wrong}
use Rattle.txs_audit_book.proofs.acts.action_end.Goals as goal

pub returns-in-Some-Err : goal.returns-in-Some-Err
returns-in-Some-Err c =
    let fault = c.in-Some-Err.fault in
    let result : c.args.meaning.now.result ≡ Some (Err fault) = search rules in
    ends_by_fault (program_of c.args.program.now) c.args.turns c.args.action.now c.args.meaning.now (evaluated.HandedIn (Err fault)) fault c.in-Nothing.is result refl

pub returns-in-None : goal.returns-in-None
returns-in-None c = ends_by_none (program_of c.args.program.now) c.args.turns c.args.action.now c.args.meaning.now evaluated.Disallows c.in-Nothing.is c.in-None.is refl

pub returns-in-Event : goal.returns-in-Event
returns-in-Event c = ends_by_event (program_of c.args.program.now) c.args.turns c.args.action.now c.args.meaning.now evaluated.LacksEvent c.in-Event.is refl

pub returns-in-Turns : goal.returns-in-Turns
returns-in-Turns c = ends_by_turns (program_of c.args.program.now) c.args.turns c.args.action.now c.args.meaning.now evaluated.LacksTurns c.in-Turns.is refl

pub returns-in-Wrong : goal.returns-in-Wrong
returns-in-Wrong c = ends_by_wrong (program_of c.args.program.now) c.args.turns c.args.action.now c.args.meaning.now evaluated.Disallows c.in-Wrong.is refl
