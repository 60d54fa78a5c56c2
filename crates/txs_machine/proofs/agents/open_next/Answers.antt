use Rattle.std.proofs.Common.{◌≡◌, ◌+◌, ◌++◌, ◌∷◌, List, [], length, get_or, take, true, false, rules, refl, sym, ap, subst, ◌∙◌, arith}
use Rattle.txs_value_cell.specs.Forms.{same_kind}
use Rattle.txs_value_cell.specs.declared.cell.CellDefinition.{CellDefinition}
use Rattle.txs_code_meaning.specs.PlainCode.{PlainCode}
use Rattle.txs_value_data.specs.declared.value.CellId.{CellId}
use Rattle.txs_value_data.specs.declared.value.CellKind.TheVariants.{Agent}
use Rattle.txs_value_cell.specs.Agents.{agents_from}
use Rattle.txs_machine.specs.Plays.{AreOpenedFor}
use Rattle.txs_machine.specs.Running.{IsAgentAt}
use Rattle.txs_machine.specs.declared.player.AgentPlayer.{AgentPlayer}
use Rattle.txs_machine.proofs.Opening.{agent_placed, agents_fit, agents_same, agents_next, new_attending, one_opened}
use Rattle.txs_machine.proofs.agents.open_next.Goals as goal

pub returns-then-not-is_agent : goal.returns-then-not-is_agent
returns-then-not-is_agent c =
    let cells = c.args.code.now.cells in
    let d = c.index-cells-cell.result in
    let same : c.cells-cells.result.now ≡ cells = c.cells-cells.ensures ∙ ap (λ (x : PlainCode). x.cells) c.code.ensures.value in
    let read : d ≡ get_or cells c.args.cell d = c.index-cells-cell.is ∙ ap (λ (l : List CellDefinition). get_or l c.args.cell d) same in
    let other : same_kind d.kind Agent ≡ false = search rules in
    subst (λ (gs : List CellId). AreOpenedFor c.args.code.now c.args.max_steps c.args.threads gs c.args.agents.now.items) (sym (agents_same cells c.args.cell d c.requires.there read other)) c.requires.opened

pub overflow_cast-number : goal.overflow_cast-number
overflow_cast-number c =
    let few = agents_fit c.args.code.now c.args.max_steps c.args.threads c.args.cell c.args.agents.now.items c.requires.opened.attending in
    let most = c.requires.few in
    let len : c.len.result ≡ length c.args.agents.now.items = search rules in
    omega (arith, few, most, len)

pub overflow_add-number : goal.overflow_add-number
overflow_add-number c =
    let few = agents_fit c.args.code.now c.args.max_steps c.args.threads c.args.cell c.args.agents.now.items c.requires.opened.attending in
    let most = c.requires.few in
    let many = c.requires.many in
    let len : c.len.result ≡ length c.args.agents.now.items = search rules in
    omega (arith, few, most, many, len)

pub agent-requires : goal.agent-requires
agent-requires c =
    let cells = c.args.code.now.cells in
    let xs = c.args.agents.now.items in
    let d = c.index-cells-cell.result in
    let same : c.cells-cells.result.now ≡ cells = c.cells-cells.ensures ∙ ap (λ (x : PlainCode). x.cells) c.code.ensures.value in
    let read : d ≡ get_or cells c.args.cell d = c.index-cells-cell.is ∙ ap (λ (l : List CellDefinition). get_or l c.args.cell d) same in
    let kind : same_kind d.kind Agent ≡ true = search rules in
    let len : c.len.result ≡ length xs = search rules in
    (agent_placed c.args.code.now c.args.max_steps c.args.threads c.args.cell xs d c.requires.there read kind c.requires.many c.len.result len c.requires.opened).acts

pub returns : goal.returns
returns c =
    let code = c.args.code.now in
    let cells = c.args.code.now.cells in
    let xs = c.args.agents.now.items in
    let d = c.index-cells-cell.result in
    let same : c.cells-cells.result.now ≡ cells = c.cells-cells.ensures ∙ ap (λ (x : PlainCode). x.cells) c.code.ensures.value in
    let read : d ≡ get_or cells c.args.cell d = c.index-cells-cell.is ∙ ap (λ (l : List CellDefinition). get_or l c.args.cell d) same in
    let kind : same_kind d.kind Agent ≡ true = search rules in
    let len : c.len.result ≡ length xs = search rules in
    let g : CellId = record { kind = Agent; number = c.args.cell } in
    let k = c.args.threads + c.len.result in
    let x : AgentPlayer = record { agent = g; player = record { actor = c.in_ok-actor.actor; trace = c.new.result } } in
    let new = c.in_ok-actor.ensures.new in
    let pushed : c.push_reserved.new.self.items ≡ xs ++ x ∷ [] = c.push_reserved.ensures.items ∙ ap (λ (l : List AgentPlayer). l ++ x ∷ []) c.reserve.ensures.items in
    let at : IsAgentAt code g k = agent_placed code c.args.max_steps c.args.threads c.args.cell xs d c.requires.there read kind c.requires.many c.len.result len c.requires.opened in
    let gs = agents_from 0 (take c.args.cell cells) in
    subst (λ (hs : List CellId). AreOpenedFor code c.args.max_steps c.args.threads hs c.push_reserved.new.self.items) (sym (agents_next cells c.args.cell d c.requires.there read kind))
    (subst (AreOpenedFor code c.args.max_steps c.args.threads (gs ++ g ∷ [])) (sym pushed)
    (one_opened code c.args.max_steps c.args.threads gs xs g x c.requires.opened c.len.result len (new_attending code g k c.args.max_steps x refl at c.in_ok-actor.ensures.lives new) new c.new.ensures.items))
