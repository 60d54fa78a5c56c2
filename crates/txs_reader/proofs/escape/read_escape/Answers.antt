use Rattle.std.proofs.Common.{sym, ◌∙◌, arith}
use Rattle.txs_reader.proofs.Escapes.{short_begins, short_not, cut}
use Rattle.txs_reader.proofs.escape.read_escape.Goals as goal

pub returns-then-bytes-lt2-clause-none : goal.returns-then-bytes-lt2-clause-none
returns-then-bytes-lt2-clause-none c = cut c.args.bytes.now (omega arith) c.requires.begins

pub returns-in-Some-clause-some : goal.returns-in-Some-clause-some
returns-in-Some-clause-some c =
    rw c.from.ensures (short_begins c.args.bytes.now c.in-Some.byte (omega arith) c.requires.begins (sym c.short_value.ensures ∙ c.in-Some.is))

pub returns-in-None-clause-none : goal.returns-in-None-clause-none
returns-in-None-clause-none c = short_not c.args.bytes.now (omega arith) c.requires.begins c.if-bytes-eq117.false (sym c.short_value.ensures ∙ c.in-None.is)
