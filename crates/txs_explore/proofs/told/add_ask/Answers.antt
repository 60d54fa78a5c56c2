use Rattle.std.proofs.Common.{◌≡◌, ◌++◌, ◌∷◌, ◌+◌, [], option_to_list, refl, sym, ap, ◌∙◌}
use Rattle.txs_machine.specs.Schedule.{spread}
use Rattle.txs_machine.specs.declared.schedule.Play.TheVariants as play
use Rattle.txs_machine.specs.declared.schedule.Repeated.{Repeated}
use Rattle.txs_explore.proofs.Telling.{ask_more, ask_once}
use Rattle.txs_explore.proofs.told.add_ask.Goals as goal

pub returns-then-is_more_of : goal.returns-then-is_more_of
returns-then-is_more_of c =
    let old = c.args.runs.now.items in
    let rest = c.pop.new.self.items in
    let last = c.in-Some.last in
    let was : old ≡ rest ++ last ∷ [] = c.pop.ensures.items ∙ ap (λ o. rest ++ option_to_list o) c.in-Some.is in
    let more : Repeated = record { play = last.play; times = last.times + 1 } in
    ask_more old rest c.push-then-is_more_of.new.self.items last more c.args.k was c.in_ok-push-2.ensures.items (c.is_more_of.ensures.same c.if-is_more_of.true) refl refl

pub returns : goal.returns
returns c =
    let old = c.args.runs.now.items in
    let rest = c.pop.new.self.items in
    let last = c.in-Some.last in
    let was : old ≡ rest ++ last ∷ [] = c.pop.ensures.items ∙ ap (λ o. rest ++ option_to_list o) c.in-Some.is in
    let once : Repeated = record { play = play.Ask c.args.k; times = 1 } in
    ask_once c.push-2.new.self.items c.push-3.new.self.items once c.args.k c.in_ok-push-4.ensures.items refl refl
    ∙ ap (λ l. spread l ++ play.Ask c.args.k ∷ []) (c.in_ok-push-3.ensures.items ∙ sym was)
