use Rattle.std.proofs.Common.{◌≡◌, ◌+◌, length, sym, ap, subst, ◌∙◌, rules}
use Rattle.std.specs.Prelude.{Ok, Err, Some}
use Rattle.std.proofs.lemmas.Result.{err_from_is_err_and}
use Rattle.spatial_hash.specs.Table.{Table}
use Rattle.block_heap.specs.Cells.{Cells}
use Rattle.streamer.specs.Places.{blocks_of}
use Rattle.scan_io.specs.Reading.{saturated}
use Rattle.fusion_core.specs.declared.settings.Settings.{Settings}
use Rattle.fusion_core.specs.Maps.{BlockMap, HasWholeBlocks, fuse, need}
use Rattle.streamer.proofs.Moves.{same_blocks, same_places}
use Rattle.fusion_core.specs.Fold.{State, fused, offered}
use Rattle.session.specs.declared.error.FrameError.{FrameError}
use Rattle.session.specs.Answers.{AnswersRoom, session_of, state_of}
use Rattle.session.specs.Fold.{settings_of}
use Rattle.session.specs.Standing.{IsSettled}
use Rattle.session.proofs.FrameLemmas.{IsAnswer, fused_arm, fused_state, on_err, refused_arm, room_arm}
use Rattle.session.proofs.StandingLemmas.{settled_after, settled_put, stands}
use Rattle.session.proofs.fused_map.fuse_frame.Given.{Over}
use Rattle.session.proofs.fused_map.fuse_frame.Goals.{After-drop-frame-inside, After-drop-frame-inside-2, After-frame-3-1, After-from_residual}
use Rattle.session.proofs.fused_map.fuse_frame.Goals as goal

-- ---- a frame that is refused for its size or its pose

refused : (g : Over) (c : After-from_residual g) → IsAnswer c.args.config.now (state_of (session_of c.args.config.now c.args.map.now)) c.args.rows.now c.args.depths c.from_residual.result
refused g c =
    let s = state_of (session_of c.args.config.now c.args.map.now) in
    let rows = c.args.rows.now in
    let depths = c.args.depths in
    let p = err_from_is_err_and c.from_residual.result c.from_residual.ensures.1 in
    subst (IsAnswer c.args.config.now s rows depths) (sym (p.1 ∙ ap (λ (e : FrameError). Err e) p.2)) (refused_arm c.args.config.now s rows depths c.in_err-frame.field-0.0
    (ap (λ (k : Settings). offered k rows depths) (sym c.settings.ensures.value) ∙ sym c.offered.ensures.value ∙ c.in_err-frame.was))

pub returns-in_err-frame-clause-answer : goal.returns-in_err-frame-clause-answer
returns-in_err-frame-clause-answer g c = (refused g c).answer

pub returns-in_err-frame-clause-size : goal.returns-in_err-frame-clause-size
returns-in_err-frame-clause-size g c = (refused g c).size

pub returns-in_err-frame-clause-pose : goal.returns-in_err-frame-clause-pose
returns-in_err-frame-clause-pose g c = (refused g c).pose

pub returns-in_err-frame-clause-stands : goal.returns-in_err-frame-clause-stands
returns-in_err-frame-clause-stands g c = stands _ c.requires.settled

-- ---- a frame that finds no room, or no memory

no_room : (g : Over) (c : After-drop-frame-inside g) → IsAnswer c.args.config.now (state_of (session_of c.args.config.now c.args.map.now)) c.args.rows.now c.args.depths c.from_residual-in_err-ready.result
no_room g c =
    let s = state_of (session_of c.args.config.now c.args.map.now) in
    let rows = c.args.rows.now in
    let depths = c.args.depths in
    let f = c.in_ok-frame.frame in
    let e = c.in_err-ready.field-0.0 in
    let p = err_from_is_err_and c.from_residual-in_err-ready.result c.from_residual-in_err-ready.ensures.1 in
    subst (IsAnswer c.args.config.now s rows depths) (sym (p.1 ∙ ap (λ (e : FrameError). Err e) p.2)) (room_arm c.args.config.now s rows depths f
    (ap (λ (k : Settings). offered k rows depths) (sym c.settings.ensures.value) ∙ sym c.offered.ensures.value ∙ c.in_ok-frame.was)
    e (subst (λ l. AnswersRoom l (need (blocks_of c.args.map.now.rest) f) (Err e)) c.heap_blocks-limit.ensures.value c.in_err-ready.ensures.room))

pub returns-in_err-ready-clause-answer : goal.returns-in_err-ready-clause-answer
returns-in_err-ready-clause-answer g c = (no_room g c).answer

pub returns-in_err-ready-clause-size : goal.returns-in_err-ready-clause-size
returns-in_err-ready-clause-size g c = (no_room g c).size

pub returns-in_err-ready-clause-pose : goal.returns-in_err-ready-clause-pose
returns-in_err-ready-clause-pose g c = (no_room g c).pose

pub returns-in_err-ready-clause-settled : goal.returns-in_err-ready-clause-settled
returns-in_err-ready-clause-settled g c = settled_put c.args.config.now c.args.map.now.rest c.make_room.new.rest c.args.map.now.frames c.args.map.now.last c.make_room.ensures.kept c.requires.settled

pub returns-in_err-ready-clause-stands : goal.returns-in_err-ready-clause-stands
returns-in_err-ready-clause-stands g c = stands _ (settled_put c.args.config.now c.args.map.now.rest c.make_room.new.rest c.args.map.now.frames c.args.map.now.last c.make_room.ensures.kept c.requires.settled)

pub returns-in_err-ready-clause-kept : goal.returns-in_err-ready-clause-kept
returns-in_err-ready-clause-kept g c =
    let put = c.make_room.ensures.kept in
    let blocks = same_blocks c.args.map.now.rest c.make_room.new.rest put.table put.heap put.contents in
    on_err _ c.from_residual-in_err-ready.result (ap (λ (m : BlockMap). record { blocks = m; frames = c.args.map.now.frames; last = c.args.map.now.last }) blocks)

-- ---- a frame that is fused

pub fuse-requires-clause-whole : goal.fuse-requires-clause-whole
fuse-requires-clause-whole g c = (let put = c.make_room.ensures.kept in subst HasWholeBlocks (sym (same_blocks c.args.map.now.rest c.make_room.new.rest put.table put.heap put.contents)) c.requires.settled.sound.whole)

pub fuse-requires-clause-placed : goal.fuse-requires-clause-placed
fuse-requires-clause-placed g c = (let put = c.make_room.ensures.kept in same_places c.args.map.now.rest c.make_room.new.rest c.requires.settled.placed put.table put.heap put.contents)

-- the state before the frame, and the one after it
old : (g : Over) → After-drop-frame-inside-2 g → State
old g c = record { blocks = blocks_of c.args.map.now.rest; frames = c.args.map.now.frames; last = c.args.map.now.last }

new : (g : Over) → After-drop-frame-inside-2 g → State
new g c = record { blocks = blocks_of c.fuse.new.rest; frames = c.saturating_add-map.result; last = Some c.in_ok-frame.frame.pose }

new_is : (g : Over) (c : After-drop-frame-inside-2 g) → new g c ≡ fused (old g c) c.in_ok-frame.frame
unfolding old new
new_is g c =
    let frames : c.saturating_add-map.result ≡ saturated (c.args.map.now.frames + 1) = search rules in
    let put = c.make_room.ensures.kept in
    let blocks = c.fuse.ensures.fused ∙ ap (λ m. fuse m c.in_ok-frame.frame) (same_blocks c.args.map.now.rest c.make_room.new.rest put.table put.heap put.contents) in
    λ i. record { blocks = blocks i; frames = frames i; last = Some c.in_ok-frame.frame.pose }

settled : (g : Over) (c : After-drop-frame-inside-2 g) → IsSettled (record { config = c.args.config.now; places = c.fuse.new.rest; frames = c.saturating_add-map.result; last = Some c.pose.result })
unfolding old new
settled g c =
    let f = c.in_ok-frame.frame in
    let k = c.settings.ensures.value in
    let slots = c.make_room.ensures.kept in
    let size = c.requires.settled.size in
    subst (λ m. IsSettled (record { config = c.args.config.now; places = c.fuse.new.rest; frames = c.saturating_add-map.result; last = Some m })) (sym c.pose.ensures)
    (settled_after c.args.config.now (old g c) c.fuse.new.rest c.saturating_add-map.result f c.requires.settled.sound c.in_ok-frame.ensures.frame
    (c.in_ok-frame.ensures.camera ∙ ap (λ (s : Settings). s.camera) k) (c.in_ok-frame.ensures.max_weight ∙ ap (λ (s : Settings). s.max_weight) k) (new_is g c) c.fuse.ensures.placed
    (c.fuse.ensures.cells ∙ ap (λ (h : Cells). length h.cells) slots.heap ∙ c.requires.settled.cells)
    (record { buckets = c.fuse.ensures.size.buckets ∙ ap (λ (t : Table). t.buckets) slots.table ∙ size.buckets; nodes = c.fuse.ensures.size.nodes ∙ ap (λ (t : Table). t.nodes) slots.table ∙ size.nodes })
    c.fuse.ensures.active)

pub returns-clause-settled : goal.returns-clause-settled
returns-clause-settled g c = settled g c

pub returns-clause-stands : goal.returns-clause-stands
returns-clause-stands g c = stands _ (settled g c)

now_is : (g : Over) (c : After-drop-frame-inside-2 g) → record { blocks = blocks_of c.fuse.new.rest; frames = c.saturating_add-map.result; last = Some c.pose.result } ≡ fused (state_of (session_of c.args.config.now c.args.map.now)) c.in_ok-frame.frame
unfolding old new
now_is g c = (λ i. record { blocks = blocks_of c.fuse.new.rest; frames = c.saturating_add-map.result; last = Some (c.pose.ensures i) }) ∙ new_is g c

is_offered : (g : Over) (c : After-drop-frame-inside-2 g) → offered (settings_of c.args.config.now) c.args.rows.now c.args.depths ≡ Ok c.in_ok-frame.frame
is_offered g c = ap (λ (k : Settings). offered k c.args.rows.now c.args.depths) (sym c.settings.ensures.value) ∙ sym c.offered.ensures.value ∙ c.in_ok-frame.was

has_room : (g : Over) (c : After-drop-frame-inside-2 g) → AnswersRoom c.args.config.now.heap_blocks (need (blocks_of c.args.map.now.rest) c.in_ok-frame.frame) (Ok c.in_ok-ready.ready.plan.need)
has_room g c = subst (λ l. AnswersRoom l (need (blocks_of c.args.map.now.rest) c.in_ok-frame.frame) (Ok c.in_ok-ready.ready.plan.need)) c.heap_blocks-limit.ensures.value c.in_ok-ready.ensures.room

answers : (g : Over) (c : After-drop-frame-inside-2 g) → IsAnswer c.args.config.now (state_of (session_of c.args.config.now c.args.map.now)) c.args.rows.now c.args.depths (Ok (record { frame = c.saturating_add-map.result; blocks = c.len.result; resident = c.in_ok-ready.ready.plan.need }))
answers g c =
    let s = state_of (session_of c.args.config.now c.args.map.now) in
    let n = c.in_ok-ready.ready.plan.need in
    subst (λ b. IsAnswer c.args.config.now s c.args.rows.now c.args.depths (Ok (record { frame = c.saturating_add-map.result; blocks = b; resident = n }))) (sym c.len.ensures.blocks)
    (fused_arm c.args.config.now s c.args.rows.now c.args.depths c.in_ok-frame.frame (is_offered g c) _ n (now_is g c) (has_room g c))

pub returns-clause-answer : goal.returns-clause-answer
returns-clause-answer g c = (answers g c).answer

pub returns-clause-size : goal.returns-clause-size
returns-clause-size g c = (answers g c).size

pub returns-clause-pose : goal.returns-clause-pose
returns-clause-pose g c = (answers g c).pose

pub returns-clause-state : goal.returns-clause-state
returns-clause-state g c = fused_state c.args.config.now (state_of (session_of c.args.config.now c.args.map.now)) c.args.rows.now c.args.depths c.in_ok-frame.frame (is_offered g c) _ c.in_ok-ready.ready.plan.need (now_is g c) (has_room g c)
