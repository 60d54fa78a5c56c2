use Rattle.std.proofs.Common.{sym, ap, ◌∙◌, subst}
use Rattle.txs_tree_meaning.specs.Marked.{MarkedProgram}
use Rattle.txs_tree_meaning.specs.Sound.{Sound}
use Rattle.txs_tree_meaning.specs.Tree.{PlainProgram}
use Rattle.txs_tree_meaning.specs.View.{Parts, program_of}
use Rattle.txs_opt.proofs.InlinedMarked.{inlined_program_marked}
use Rattle.txs_opt.proofs.InlinedSound.{inlined_program_sound}
use Rattle.txs_opt.proofs.inline_program.program_as_inlined.Goals as goal

pub new-requires-clause-scoped : goal.new-requires-clause-scoped
new-requires-clause-scoped c =
    let sound = inlined_program_sound c.args.limit (program_of c.args.program.now) c.is_sound.ensures in
    (subst (λ (p : PlainProgram). Sound p) (sym c.requires) sound).scoped

pub new-requires-clause-marked : goal.new-requires-clause-marked
new-requires-clause-marked c =
    let marked = inlined_program_marked c.args.limit (program_of c.args.program.now) c.is_marked.ensures in
    subst (λ (p : PlainProgram). MarkedProgram p) (sym c.requires) marked

pub new-requires-2 : goal.new-requires-2
new-requires-2 c =
    let sound = inlined_program_sound c.args.limit (program_of c.args.program.now) c.is_sound.ensures in
    subst (λ (p : PlainProgram). Sound p) (sym (ap (λ (x : Parts). program_of x) c.new.ensures ∙ c.requires)) sound
