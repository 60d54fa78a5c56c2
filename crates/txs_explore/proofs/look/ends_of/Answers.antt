use Rattle.std.proofs.Common.{◌++◌, ◌∷◌, [], sym, ap, ◌∙◌}
use Rattle.std.proofs.lemmas.List.{map-append}
use Rattle.txs_explore.specs.declared.look.Look.{Look}
use Rattle.txs_explore.proofs.look.ends_of.Goals as goal

pub loop-look-preserved : goal.loop-look-preserved
loop-look-preserved c =
    let h = c.loop-look in
    let x = c.in-Some.look in
    c.in_ok-push.ensures.items ∙ ap (λ l. l ++ x.end ∷ []) h.invariant ∙ sym (map-append (λ (l : Look). l.end) h.yielded (x ∷ []))
