use Rattle.txs_threads.proofs.run.run_all.Given as goal

-- the run's code, and how many steps an actor may make
abbrev pub ghosts-run_in-J-Run : goal.ghosts-run_in-J-Run
ghosts-run_in-J-Run g a = record { code = a.code.now; limit = a.max_steps }

abbrev pub ghosts-run_in-J-Naming : goal.ghosts-run_in-J-Naming
ghosts-run_in-J-Naming g a = record { book = a.opened.seen.book }
