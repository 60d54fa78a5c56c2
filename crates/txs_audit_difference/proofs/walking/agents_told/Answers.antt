use Rattle.std.proofs.Common.{◌≤◌, ◌∙◌, ap, arith, length, map, refl, subst, sym}
use Rattle.txs_theorem_audit.specs.Audited.{ran_as}
use Rattle.txs_tree_meaning.specs.Sound.{Sound}
use Rattle.txs_tree_meaning.specs.View.{program_of}
use Rattle.txs_audit_difference.proofs.Walks.{agent_on, agent_open, agent_so, agents_end, few_agents, ran_read, rans_many}
use Rattle.txs_audit_difference.proofs.walking.agents_told.Goals as goal

pub loop-i-init : goal.loop-i-init
loop-i-init c = refl

pub overflow_cast-i : goal.overflow_cast-i
overflow_cast-i c =
    let b = c.args.books.now in
    let r = c.report.result.now in
    let sound = subst (λ p. Sound (program_of p)) c.program.ensures c.is_sound.ensures in
    let few = few_agents b c.are_legal.ensures sound c.as_slice-agents.result.now (ap (map ran_as) c.as_slice-agents.ensures.value ∙ ap (λ x. x.agents) c.report.ensures) in
    omega (arith, few, c.loop-i-test.true)

pub returns-in-Open : goal.returns-in-Open
returns-in-Open c =
    let b = c.args.books.now in
    let same = ap (map ran_as) c.as_slice-agents.ensures.value ∙ ap (λ x. x.agents) c.report.ensures in
    let ran = c.index-agents-i.result in
    let there = ran_read c.as_slice-agents.result.now b.report.agents c.loop-i.i ran same c.loop-i-test.true c.index-agents-i.is in
    agent_open (program_of b.program) b.report c.args.turns b.report.agents c.loop-i.i (ran_as ran) there (sym c.in-Open.is ∙ c.in_ok-agent_told.ensures) ∙ c.loop-i.invariant

pub returns-in-So : goal.returns-in-So
returns-in-So c =
    let b = c.args.books.now in
    let same = ap (map ran_as) c.as_slice-agents.ensures.value ∙ ap (λ x. x.agents) c.report.ensures in
    let ran = c.index-agents-i.result in
    let there = ran_read c.as_slice-agents.result.now b.report.agents c.loop-i.i ran same c.loop-i-test.true c.index-agents-i.is in
    agent_so (program_of b.program) b.report c.args.turns b.report.agents c.loop-i.i (ran_as ran) there c.in-So.differs (sym c.in-So.is ∙ c.in_ok-agent_told.ensures) ∙ c.loop-i.invariant

pub loop-i-preserved : goal.loop-i-preserved
loop-i-preserved c =
    let b = c.args.books.now in
    let same = ap (map ran_as) c.as_slice-agents.ensures.value ∙ ap (λ x. x.agents) c.report.ensures in
    let ran = c.index-agents-i.result in
    let there = ran_read c.as_slice-agents.result.now b.report.agents c.loop-i.i ran same c.loop-i-test.true c.index-agents-i.is in
    agent_on (program_of b.program) b.report c.args.turns b.report.agents c.loop-i.i (ran_as ran) there (sym c.in-Clear.is ∙ c.in_ok-agent_told.ensures) ∙ c.loop-i.invariant

pub returns : goal.returns
returns c =
    let b = c.args.books.now in
    let same = ap (map ran_as) c.as_slice-agents.ensures.value ∙ ap (λ x. x.agents) c.report.ensures in
    let many = rans_many c.as_slice-agents.result.now b.report.agents same in
    let le : length b.report.agents ≤ c.loop-i.i = omega (arith, many, c.loop-i-test.false) in
    agents_end (program_of b.program) b.report c.args.turns b.report.agents c.loop-i.i le ∙ c.loop-i.invariant
