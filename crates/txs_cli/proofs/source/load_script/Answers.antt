use Rattle.txs_cli.proofs.source.load_script.Goals as goal

pub returns-in-Ok-clause-loaded : goal.returns-in-Ok-clause-loaded
returns-in-Ok-clause-loaded c = λ file.
    let of = c.in-Ok.ensures in (record { program = of.program; generated = of.generated; follows = of.code; agents = of.agents; agents_send = of.sends.1; sends = of.sends.0; same = of.cells }, of.form)
