-- What contracts see of a board and of its seats.
use Rattle.std.specs.Prelude.{◌≡◌, ℕ, suc, ◌<◌, ◌≤◌, Bool, None, Some, is_some, [], ◌∷◌, ◌++◌, length, vec_len}
use Rattle.std.specs.Vec.{vec_capacity}
use Rattle.atomic_table.specs.Seated.{TableId}
use Rattle.fusion_core.specs.Boards.{IsReady}
use Rattle.fusion_core.specs.Jobs.{Start}
use Rattle.work_board.specs.declared.board.Board.TheInside.{Inside as BoardInside}
use Rattle.work_board.specs.declared.seat.BoardSeat.TheInside.{Inside as SeatInside}
use Rattle.work_board.specs.declared.turn.Turn.{Turn}
use Rattle.work_board.specs.declared.turn.Turn.TheVariants.{Did, Empty}
use Rattle.work_board.specs.declared.view.View.{View}
use Rattle.work_board.specs.Hands.{Rests}
use Rattle.work_board.specs.Rule.{start_in}
use Rattle.work_board.specs.Steps.{Held, NoneTwice}

-- a board: its table, what it was made of, and the number of its seats
pub record SharedBoard : Type 0 where
  pub table : TableId
  pub start : Start
  pub seats : ℕ

-- a seat: at whose table it is, and what it knows
pub record Worker : Type 0 where
  pub table : TableId
  pub knows : View

-- the seat is one of the board's
abbrev pub Belongs : Worker → SharedBoard → Type 0
Belongs w b = (w.table ≡ b.table) × (w.knows.start ≡ b.start)

-- what a turn did to what a seat knows: one job more is done, and the seat has no mark, or one claim number more was drawn past the jobs, which is the mark now
abbrev pub IsTurn : View → View → Turn → Type 0
IsTurn v w (Did j) = (j < length v.start.jobs) × (v.mark ≡ None) × (w ≡ record v { did = v.did ++ j ∷ [] })
IsTurn v w (Empty drawn) = (length v.start.jobs ≤ drawn) × (w ≡ record v { mark = Some drawn; ends = suc v.ends })

-- ---- what is kept by the types

abbrev pub board_of : BoardInside → SharedBoard
board_of b = record { table = b.queue.table.shared.table_id; start = start_in b.queue.table.shared.key; seats = b.queue.table.shared.key.seats }

-- the board was ready for its work, and the emptied lists have the room that they need at the end
pub record IsBoard (b : BoardInside) : Type 0 where
  pub ready : IsReady (start_in b.queue.table.shared.key)
  pub cells_emptied : vec_len b.cells ≡ 0
  pub docks_emptied : vec_len b.docks ≡ 0
  pub none_done : vec_len b.done ≡ 0
  pub cell_room : length (start_in b.queue.table.shared.key).cells ≤ vec_capacity b.cells
  pub dock_room : length (start_in b.queue.table.shared.key).docks ≤ vec_capacity b.docks
  pub done_room : length (start_in b.queue.table.shared.key).jobs ≤ vec_capacity b.done
  pub free_room : length (start_in b.queue.table.shared.key).cells ≤ vec_capacity b.queue.free

abbrev pub worker_of : SeatInside → Worker
worker_of s = record { table = s.seat.table_id; knows = s.seat.me.0 }

-- between calls a seat of this part has nothing in hand, and its list has no job twice; the board was ready for its work
pub record IsAtRest (part : ℕ) (marked : Bool) (me : Held) : Type 0 where
  pub ready : IsReady me.0.start
  pub rests : Rests me.0.start me
  pub parts : part ≡ me.0.part
  pub mark : marked ≡ is_some me.0.mark
  pub once : NoneTwice me.0.did

abbrev pub IsBoardSeat : SeatInside → Type 0
IsBoardSeat s = IsAtRest s.part s.marked s.seat.me
