use Rattle.txs_cli.proofs.source.load_form.Goals as goal

pub returns-in-Ok-clause-loaded : goal.returns-in-Ok-clause-loaded
returns-in-Ok-clause-loaded c = (c.in-Ok.ensures.form, record { function_rooms = c.rooms-rooms.result.0.now; thread_rooms = c.rooms-rooms.result.1.now; typed = c.rooms-rooms.ensures })
