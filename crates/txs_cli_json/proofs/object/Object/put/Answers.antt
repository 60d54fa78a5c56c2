use Rattle.std.proofs.Common.{rules}
use Rattle.serde_json.specs.View.{view, members_view}
use Rattle.txs_cli_json.proofs.Fitting.{fits_put}
use Rattle.txs_cli_json.proofs.object.Object.put.Goals as goal

pub invariant_of-self : goal.invariant_of-self
invariant_of-self g c =
    let both = fits_put g.row.N c.args.name.now (view c.args.value) c.put.result (members_view c.args.self.now.members.entries) (members_view c.put.new.map.entries) c.put.ensures.ok (search (rules, c.put.ensures.err)) (record { shallow = c.requires.shallow; whole = c.requires.whole }) c.args.self.now.shallow c.args.self.now.whole in
    record { shallow = both.0; whole = both.1 }
