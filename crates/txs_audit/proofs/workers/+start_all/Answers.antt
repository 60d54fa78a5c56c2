use Rattle.std.proofs.Common.{◌≡◌, sym, ap, ◌∙◌}
use Rattle.txs_audit.specs.Parted.{sought_by, sought_in}
use Rattle.txs_audit.specs.Pieced.{both}
use Rattle.txs_audit.proofs.Parting.{both_three, on_done, sought_more}
use Rattle.txs_audit.proofs.workers.+start_all.Goals as goal

pub returns-then-workers-le1 : goal.returns-then-workers-le1
returns-then-workers-le1 g t c =
    let j = g.J.Judge in
    let old = c.args.handles.now.items in
    ap (sought_by j) c.in_ok-push.ensures.items ∙ sought_more j old c.in_ok-handle.handle ∙ ap (λ p. both (sought_by j old) (sought_in j p)) c.in_ok-handle.ensures

pub returns : goal.returns
returns g t c =
    let j = g.J.Judge in
    let old = sought_by j c.args.handles.now.items in
    let one = sought_in j c.halves.result.0 in
    let two = sought_in j c.halves.result.1 in
    let new = sought_by j c.start_all-2.new.handles.items in
    on_done c.start_all-2.result (new ≡ both (sought_by j c.start_all.new.handles.items) two) (new ≡ both old (sought_in j c.args.part))
    (λ h. h ∙ ap (λ s. both s two) c.in_ok-start_all.ensures ∙ both_three old one two ∙ ap (both old) (sym c.halves.ensures)) c.start_all-2.ensures
