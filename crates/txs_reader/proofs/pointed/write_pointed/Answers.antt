use Rattle.std.proofs.Common.{◌≡◌, length, rules}
use Rattle.txs_reader.proofs.Growing.{Extends-undone, on_err}
use Rattle.txs_reader.proofs.pointed.write_pointed.Goals as goal

pub returns-then-is_err-clause-err : goal.returns-then-is_err-clause-err
returns-then-is_err-clause-err c =
    let old = c.args.out.now.items in
    let cut = c.truncate.new.self.items in
    let size : length old ≡ c.len-length.result = search rules in
    on_err c.append_pointed-done.result (cut ≡ old) (Extends-undone old c.append_pointed-done.new.out.items cut c.len-length.result c.append_pointed-done.ensures.kept size c.truncate.ensures.items)
