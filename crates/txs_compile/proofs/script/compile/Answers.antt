use Rattle.txs_value_data.specs.Limits.{most_nodes}
use Rattle.txs_tree_meaning.specs.View.{program_of}
use Rattle.txs_compile.proofs.Optimised.{names_own_cells, is_made, own_cells, follows, agents_follow, sends}
use Rattle.txs_compile.proofs.script.compile.Goals as goal

pub generate-requires : goal.generate-requires
generate-requires c =
    names_own_cells most_nodes (program_of c.in_ok-program.program) (program_of c.in_ok-improved.improved) c.in_ok-improved.ensures c.in_ok-program.ensures.own_cells

pub returns-clause-marked : goal.returns-clause-marked
returns-clause-marked c =
    let p = c.in_ok-program.ensures.ok in
    c.resolved_is_marked.ensures p.forms (program_of c.in_ok-program.program) p.resolved

pub returns-clause-generated : goal.returns-clause-generated
returns-clause-generated c =
    is_made most_nodes (program_of c.in_ok-program.program) (program_of c.in_ok-improved.improved) c.in_ok-improved.ensures c.in_ok-verified.verified c.in_ok-verified.ensures

pub returns-clause-code : goal.returns-clause-code
returns-clause-code c =
    follows most_nodes (program_of c.in_ok-program.program) (program_of c.in_ok-improved.improved) c.in_ok-improved.ensures c.in_ok-verified.verified c.in_ok-verified.ensures c.in_ok-program.ensures.ok.sound
    c.code_of_program_behaves.ensures c.optimised_code_follows.ensures

pub returns-clause-agents : goal.returns-clause-agents
returns-clause-agents c =
    agents_follow most_nodes (program_of c.in_ok-program.program) (program_of c.in_ok-improved.improved) c.in_ok-improved.ensures c.in_ok-verified.verified c.in_ok-verified.ensures c.in_ok-program.ensures.ok.sound
    c.code_of_actions_behaves.ensures c.optimised_code_follows_agents.ensures

pub returns-clause-sends : goal.returns-clause-sends
returns-clause-sends c =
    sends most_nodes (program_of c.in_ok-program.program) (program_of c.in_ok-improved.improved) c.in_ok-improved.ensures c.in_ok-verified.verified c.in_ok-verified.ensures c.in_ok-program.ensures.ok.sound
    c.code_of_program_sends_sound.ensures.program c.code_of_program_sends_sound.ensures.code

pub returns-clause-cells : goal.returns-clause-cells
returns-clause-cells c =
    (is_made most_nodes (program_of c.in_ok-program.program) (program_of c.in_ok-improved.improved) c.in_ok-improved.ensures c.in_ok-verified.verified c.in_ok-verified.ensures).cells

pub returns-clause-own_cells : goal.returns-clause-own_cells
returns-clause-own_cells c =
    own_cells most_nodes (program_of c.in_ok-program.program) (program_of c.in_ok-improved.improved) c.in_ok-improved.ensures c.in_ok-verified.verified c.in_ok-verified.ensures c.in_ok-program.ensures.own_cells

pub returns-clause-form : goal.returns-clause-form
returns-clause-form c =
    let p = c.in_ok-program.ensures.ok in
    let made = is_made most_nodes (program_of c.in_ok-program.program) (program_of c.in_ok-improved.improved) c.in_ok-improved.ensures c.in_ok-verified.verified c.in_ok-verified.ensures in
    let own = own_cells most_nodes (program_of c.in_ok-program.program) (program_of c.in_ok-improved.improved) c.in_ok-improved.ensures c.in_ok-verified.verified c.in_ok-verified.ensures c.in_ok-program.ensures.own_cells in
    c.code_of_script_has_form.ensures c.args.bytes.now p.forms (program_of c.in_ok-program.program) most_nodes c.in_ok-verified.verified c.rooms-rooms.result.0.now c.rooms-rooms.result.1.now p.reads p.resolved p.sound made own c.rooms-rooms.ensures
