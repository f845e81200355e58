use Rattle.work_board.proofs.queue.Queue.split.Given as goal

abbrev pub ghosts-cuts : goal.ghosts-cuts
ghosts-cuts a = record { key = a.part }
