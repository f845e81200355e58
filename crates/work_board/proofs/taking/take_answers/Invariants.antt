use Rattle.std.proofs.Common.{◌≡◌, List, ◌++◌, take}
use Rattle.std.specs.Prelude.{vec_len}
use Rattle.std.specs.Vec.{vec_capacity}
use Rattle.std.specs.Slots.{slots_items}
use Rattle.fusion_core.specs.declared.board.done.Done.{Done}
use Rattle.work_board.specs.Closes.{AreAnswers, freed_all}
use Rattle.work_board.proofs.taking.take_answers.Given as goal

abbrev pub invariant-loop-j : goal.invariant-loop-j
invariant-loop-j l = ((ds : List Done) → AreAnswers l.count (slots_items l.closed.words) ds → (l.done.items ≡ take l.j ds) × (l.free.items ≡ l.fn.free.items ++ freed_all (take l.j ds)))
    × (vec_capacity l.free ≡ vec_capacity l.fn.free) × (vec_capacity l.done ≡ vec_capacity l.fn.done) × (vec_len l.done ≡ l.j)
