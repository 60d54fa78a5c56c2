use Rattle.std.proofs.Common.{◌≡◌, IfOk, refl, sym, ◌∙◌, subst}
use Rattle.txs_tree_meaning.specs.Tree.{PlainProgram}
use Rattle.txs_tree_meaning.specs.View.{program_of}
use Rattle.txs_opt.specs.Inline.{inlined_program}
use Rattle.txs_opt.proofs.NoCalls.{with_calls, without_calls}
use Rattle.txs_opt.proofs.optimise.optimised_copy.Goals as goal

pub returns-then-has_calls : goal.returns-then-has_calls
returns-then-has_calls c =
    let q = program_of c.in_ok-folded.folded in
    subst (λ (t : PlainProgram). IfOk c.inlined_copy.result (λ p. program_of p ≡ t)) (with_calls c.args.limit (program_of c.args.program.now) q (inlined_program c.args.limit q) c.in_ok-folded.ensures refl) c.inlined_copy.ensures

pub returns : goal.returns
returns c =
    without_calls c.args.limit (program_of c.args.program.now) (program_of c.in_ok-folded.folded) c.in_ok-folded.ensures (sym c.has_calls.ensures ∙ c.if-has_calls.false)
