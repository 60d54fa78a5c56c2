use Rattle.std.proofs.Common.{◌≡◌, ◌<◌, ◌≤◌, ◌+◌, ◌++◌, ◌∷◌, ℕ, [], List, length, take, rules, sym, ap, subst, ◌∙◌, arith}
use Rattle.txs_value_cell.specs.declared.cell.CellDefinition.{CellDefinition}
use Rattle.txs_code_meaning.specs.PlainCode.{PlainCode}
use Rattle.txs_machine_actor.proofs.Following.{actors_run}
use Rattle.txs_value_cell.specs.Agents.{agents_from}
use Rattle.txs_machine_actor.specs.Turns.{IsNew}
use Rattle.txs_theorem_runs.proofs.Typed.{typed_stands}
use Rattle.txs_machine.specs.Agents.{agents_of}
use Rattle.txs_machine.specs.Playing.{IsBetween, AreBetween, AreNew}
use Rattle.txs_machine.specs.Plays.{AreOpenedFor}
use Rattle.txs_machine.specs.declared.player.Player.{Player}
use Rattle.txs_machine.proofs.Limits.{new_limited}
use Rattle.txs_machine.proofs.Opening.{take_whole}
use Rattle.txs_machine.proofs.Opened.{new_more, opened_playing}
use Rattle.txs_machine.proofs.Playing.{between_more}
use Rattle.txs_machine.proofs.RunOver.{standing_of, new_over}
use Rattle.txs_machine.proofs.Together.{as_attending}
use Rattle.txs_machine.proofs.schedule.open_players.Goals as goal

pub loop-k-preserved : goal.loop-k-preserved
loop-k-preserved c =
    let code = c.args.code.now in
    let most = c.args.max_steps in
    let a = c.in_ok-actor.actor in
    let k = c.loop-k.k in
    let players = c.loop-k.players.threads.items in
    let new = c.in_ok-actor.ensures.new in
    let x : Player = record { actor = a; trace = c.new.result } in
    let pushed : c.push_reserved.new.self.items ≡ players ++ x ∷ [] = c.push_reserved.ensures.items in
    let many = c.loop-k.invariant.many in
    let there : k < length code.threads = search rules in
    let stands = standing_of typed_stands code c.rooms.result.0.now c.rooms.result.1.now k c.rooms.ensures there in
    let place : k ≡ 0 + length players = omega (arith, many) in
    let between : IsBetween code k most (λ n. []) x = record {
      lives = c.in_ok-actor.ensures.lives;
      free = new.unasking;
      limited = new_limited most a new.limited new.unended new.unused;
      over = new_over actors_run code k most c.new.result.items a c.new.ensures.items there stands new;
    } in
    record {
      room = search rules;
      none = c.loop-k.invariant.none;
      many = search rules;
      between = subst (λ l. AreBetween code most (λ n. []) 0 l) (sym pushed)
          (between_more code most (λ n. []) 0 players x c.loop-k.invariant.between (subst (λ (n : ℕ). IsBetween code n most (λ i. []) x) place between));
      opened = subst (λ l. AreNew code most 0 l) (sym pushed) (new_more code most 0 players x c.loop-k.invariant.opened (subst (λ (n : ℕ). IsNew code n most a) place new) c.new.ensures.items);
    }

pub loop-cell-init : goal.loop-cell-init
loop-cell-init c =
    let i = c.loop-k.invariant in
    record {
      threads = record { many = search rules; between = i.between; opened = i.opened };
      agents = subst (AreOpenedFor c.args.code.now c.args.max_steps c.args.threads []) (sym i.none) (record { attending = tt; opened = tt });
    }

pub open_next-requires-clause-there : goal.open_next-requires-clause-there
open_next-requires-clause-there c =
    let same : c.cells-cells.result.now ≡ c.args.code.now.cells = c.cells-cells.ensures ∙ ap (λ (x : PlainCode). x.cells) c.code.ensures.value in
    subst (λ (l : List CellDefinition). c.loop-cell.cell < length l) same c.loop-cell-test.true

pub returns : goal.returns
returns c =
    let code = c.args.code.now in
    let i = c.loop-cell.invariant in
    let xs = i.threads in
    let same : c.cells-cells.result.now ≡ code.cells = c.cells-cells.ensures ∙ ap (λ (x : PlainCode). x.cells) c.code.ensures.value in
    let len = ap length same in
    let past : length code.cells ≤ c.loop-cell.cell = omega (arith, len) in
    let whole : take c.loop-cell.cell code.cells ≡ code.cells = take_whole code.cells c.loop-cell.cell past in
    let gs : AreOpenedFor code c.args.max_steps c.args.threads (agents_of code) c.loop-cell.players.agents.items =
    subst (λ cells. AreOpenedFor code c.args.max_steps c.args.threads (agents_from 0 cells) c.loop-cell.players.agents.items) whole i.agents
    in
    record {
      many = xs.many;
      agents = as_attending code c.args.max_steps c.args.threads (agents_of code) c.loop-cell.players.agents.items gs.attending;
      playing = λ s same. opened_playing actors_run code c.args.max_steps c.args.threads s c.loop-cell.players same c.requires.many xs.many xs.between xs.opened gs.attending gs.opened;
    }

pub loop-k-init : goal.loop-k-init
loop-k-init c =
    let code = c.args.code.now in
    let most = c.args.max_steps in
    let none = c.in_ok-reserve.ensures.items ∙ c.requires.no_threads in
    let room = c.in_ok-reserve.ensures.ok in
    record {
      room = omega (arith, room);
      none = c.requires.no_agents;
      many = ap length none;
      between = subst (λ l. AreBetween code most (λ n. []) 0 l) (sym none) tt;
      opened = subst (λ l. AreNew code most 0 l) (sym none) tt;
    }
