use Rattle.std.proofs.Common.{◌++◌}
use Rattle.std.specs.Prelude.{map}
use Rattle.txs_theorem_audit.specs.Audited.{books_of, ran_as}
use Rattle.txs_theorem_audit.specs.Pieces.{agent_pieces}
use Rattle.txs_audit.specs.Pieced.{pieces_as}
use Rattle.txs_audit.proofs.Counting.{agents_end, agents_next}
use Rattle.txs_audit.proofs.pieces.add_agents.Goals as goal

pub loop-i-preserved : goal.loop-i-preserved
loop-i-preserved c =
    let i = c.loop-i.i in
    let rans = c.args.agents.now in
    agents_next (books_of c.args.books.now.report) (pieces_as c.loop-i.pieces.items) (pieces_as c.add_agent.new.pieces.items) rans i c.index-agents-i.result (pieces_as c.args.pieces.now.items ++ agent_pieces (books_of c.args.books.now.report) 0 (map ran_as rans)) c.loop-i-test.true c.index-agents-i.is c.in_ok-add_agent.ensures c.loop-i.invariant

pub returns : goal.returns
returns c =
    let i = c.loop-i.i in
    let rans = c.args.agents.now in
    let end = c.loop-i-test.false in
    agents_end (books_of c.args.books.now.report) (pieces_as c.loop-i.pieces.items) rans i (pieces_as c.args.pieces.now.items ++ agent_pieces (books_of c.args.books.now.report) 0 (map ran_as rans)) end c.loop-i.invariant
