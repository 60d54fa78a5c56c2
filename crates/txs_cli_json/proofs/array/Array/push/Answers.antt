use Rattle.std.specs.Prelude.{is_ok}
use Rattle.txs_cli_json.proofs.Fitting.{fits_push}
use Rattle.txs_cli_json.proofs.array.Array.push.Goals as goal

pub invariant_of-self : goal.invariant_of-self
invariant_of-self g c =
    let both = fits_push g.row.N (is_ok c.push.result) c.args.self.now.items.items c.push.new.self.items c.args.item c.push.ensures.items c.requires.shallow c.requires.whole c.args.self.now.shallow c.args.self.now.whole in
    record { shallow = both.0; whole = both.1 }
