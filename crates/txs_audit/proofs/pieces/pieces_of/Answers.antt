use Rattle.std.proofs.Common.{◌≤◌, ◌++◌, ◌∙◌, ap, length, subst, sym}
use Rattle.std.specs.Prelude.{map}
use Rattle.txs_theorem_audit.specs.Audited.{books_of, ran_as}
use Rattle.txs_theorem_audit.specs.Pieces.{agent_pieces, thread_pieces}
use Rattle.txs_tree_meaning.specs.Sound.{Sound}
use Rattle.txs_tree_meaning.specs.View.{program_of}
use Rattle.txs_audit.specs.Pieced.{pieces_as}
use Rattle.txs_audit.proofs.Counting.{few_agents, few_threads}
use Rattle.txs_audit.proofs.pieces.pieces_of.Goals as goal

pub add_threads-requires : goal.add_threads-requires
add_threads-requires c =
    let r = c.report-report.result.now in
    let sound = subst (λ p. Sound (program_of p)) c.program.ensures c.is_sound.ensures in
    subst (λ l. length l ≤ 65535) (sym c.as_slice.ensures.value) (few_threads c.args.books.now c.are_legal.ensures sound r.threads.items (ap (λ x. x.threads) c.report-report.ensures))

pub add_agents-requires : goal.add_agents-requires
add_agents-requires c =
    let r = c.report-report.result.now in
    let sound = subst (λ p. Sound (program_of p)) c.program.ensures c.is_sound.ensures in
    subst (λ l. length l ≤ 65535) (sym c.as_slice-2.ensures.value) (few_agents c.args.books.now c.are_legal.ensures sound r.agents.items (ap (λ x. x.agents) c.report-report.ensures))

pub returns : goal.returns
returns c =
    let r = c.report-report.result.now in
    c.in_ok-add_agents.ensures
    ∙ ap (λ l. l ++ agent_pieces (books_of c.args.books.now.report) 0 (map ran_as c.as_slice-2.result.now)) (c.in_ok-add_threads.ensures ∙ ap (λ l. pieces_as l ++ thread_pieces 0 (map ran_as c.as_slice.result.now)) c.new-pieces.ensures.items)
    ∙ ap (λ l. thread_pieces 0 (map ran_as l) ++ agent_pieces (books_of c.args.books.now.report) 0 (map ran_as c.as_slice-2.result.now)) c.as_slice.ensures.value
    ∙ ap (λ l. thread_pieces 0 (map ran_as r.threads.items) ++ agent_pieces (books_of c.args.books.now.report) 0 (map ran_as l)) c.as_slice-2.ensures.value
    ∙ ap (λ x. thread_pieces 0 x.threads ++ agent_pieces (books_of c.args.books.now.report) 0 x.agents) c.report-report.ensures
