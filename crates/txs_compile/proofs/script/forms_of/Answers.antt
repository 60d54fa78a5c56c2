use Rattle.txs_compile.proofs.script.forms_of.Goals as goal

pub returns-in_default : goal.returns-in_default
returns-in_default c = record {
  ok = tt;
  err = record { told = c.in_default.not-Memory; stops = c.in-Err.ensures.stops c.in_default.not-Memory };
}
