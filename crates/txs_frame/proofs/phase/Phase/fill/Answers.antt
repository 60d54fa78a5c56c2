use Rattle.std.proofs.Common.{◌≡◌, ◌∙◌, ap, length, subst, sym}
use Rattle.std.specs.Prelude.{drop}
use Rattle.txs_world_protocol.specs.Ask.{Writes}
use Rattle.txs_frame.specs.Phase.{IsPhase, PlainPhase, filled}
use Rattle.txs_frame.proofs.Phasing.{fills}
use Rattle.txs_frame.proofs.phase.Phase.fill.Goals as goal

pub invariant_of-self : goal.invariant_of-self
invariant_of-self c =
    let s = c.self.inside in
    let ks = drop s.next s.work.items in
    let same : length c.args.values ≡ length s.values.items = subst (λ (p : PlainPhase). length c.args.values ≡ length p.values) (sym c.self.view_is) c.requires in
    subst (λ (ws : Writes). IsPhase ws ks) (sym c.fill_values.ensures) (fills s.values.items c.args.values ks same c.self.invariant)

pub returns : goal.returns
returns c =
    let s = c.self.inside in
    ap (λ (ws : Writes). record { work = drop s.next s.work.items; values = ws }) c.fill_values.ensures
    ∙ ap (λ (p : PlainPhase). record p { values = filled p.values c.args.values }) c.self.view_is
