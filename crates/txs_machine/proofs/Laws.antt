-- The laws of the crates below that runs stand on, as answers cite them.
use Rattle.txs_theorem_threads.proofs.Fitted.{fits_of}
use Rattle.txs_world.specs.Laws.{ActionStays, RefusedIsUndisturbed, ServeKeeps}
use Rattle.txs_world.proofs.Actions.{action_stays}
use Rattle.txs_world_book.proofs.Older.{after_unwritten}
use Rattle.txs_world.proofs.Serves.{done_is_undisturbed, refused_is_undisturbed, serve_stands}
use Rattle.txs_theorem_runs.specs.Lawful.{RunAsksLawful}
use Rattle.txs_theorem_runs.specs.Report.{RunReported, RunTraced}
use Rattle.txs_theorem_runs.proofs.Lawful.{run_lawful}
use Rattle.txs_theorem_runs.proofs.Report.{run_reported}
use Rattle.txs_theorem_runs.proofs.Told.{fresh_stands, told_fits}
use Rattle.txs_theorem_runs.proofs.Tracing.{run_traced}
use Rattle.txs_machine.proofs.Explaining.{Known}
use Rattle.txs_machine.proofs.Following.{actors_explained}

pub known : Known
known = record { explained = actors_explained; stays = after_unwritten; done = done_is_undisturbed; fit = fits_of; fits = told_fits after_unwritten }

pub keeps : ServeKeeps
keeps = serve_stands

pub refused : RefusedIsUndisturbed
refused = λ cells a at view sets commuted ensured sends book g h. refused_is_undisturbed cells a at view sets commuted ensured sends book g h

actions_stay : ActionStays
actions_stay = λ cells threads book more g x l has off h. action_stays cells book more g x l.each has off h

pub traced : RunTraced
traced = run_traced keeps fresh_stands

pub reported : RunReported
reported = run_reported (record { stays = after_unwritten; done = done_is_undisturbed; fit = fits_of }) keeps actions_stay refused fresh_stands

pub lawful : RunAsksLawful
lawful = run_lawful keeps fresh_stands
