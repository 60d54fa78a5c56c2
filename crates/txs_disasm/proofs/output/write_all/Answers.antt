use Rattle.txs_disasm.proofs.output.write_all.Goals as goal

pub returns-clause-cut : goal.returns-clause-cut
returns-clause-cut g c = c.write_whole.ensures.cut
