use Rattle.std.proofs.Common.{◌∙◌, sym}
use Rattle.txs_tree_meaning.specs.View.{program_of}
use Rattle.txs_theorem_audit.specs.Audited.{place_of}
use Rattle.txs_audit_difference.proofs.Walks.{act_fine, act_off, act_open, no_act}
use Rattle.txs_audit_difference.proofs.walking.pass.Goals as goal

pub returns-then-not-is_act : goal.returns-then-not-is_act
returns-then-not-is_act c =
    let b = c.args.books.now in
    no_act (program_of b.program) b.report c.args.turns c.args.agent c.args.from c.args.at (place_of c.args.place) (sym c.is_act.ensures ∙ c.if-not-is_act.true)

pub returns-in-Clear : goal.returns-in-Clear
returns-in-Clear c =
    let b = c.args.books.now in
    act_fine (program_of b.program) b.report c.args.turns c.args.agent c.args.from c.args.at (place_of c.args.place) (sym c.is_act.ensures ∙ c.if-not-is_act.false) (sym c.in-Clear.is ∙ c.in_ok-act_told.ensures)

pub returns-in-Open : goal.returns-in-Open
returns-in-Open c =
    let b = c.args.books.now in
    act_open (program_of b.program) b.report c.args.turns c.args.agent c.args.from c.args.at (place_of c.args.place) (sym c.is_act.ensures ∙ c.if-not-is_act.false) (sym c.in-Open.is ∙ c.in_ok-act_told.ensures)

pub returns-in-So : goal.returns-in-So
returns-in-So c =
    let b = c.args.books.now in
    act_off (program_of b.program) b.report c.args.turns c.args.agent c.args.from c.args.at (place_of c.args.place) c.in-So.differs (sym c.is_act.ensures ∙ c.if-not-is_act.false) (sym c.in-So.is ∙ c.in_ok-act_told.ensures)
