-- The parts of the text, one after the other.
use Rattle.std.proofs.Common.{◌≡◌, ℕ, suc, ◌+◌, ◌-◌, ◌≤◌, ◌<◌, List, [], ◌++◌, refl, sym, ap, ◌∙◌, append-nil, append_assoc, arith}
use Rattle.std.specs.Prelude.{codes, nat_le, nat_lt, true, false, Bool, if◌then◌else◌}
use Rattle.std.proofs.lemmas.Bool.Decides.{nat_tests}
use Rattle.scan_gen.specs.declared.ball.Ball.{Ball}
use Rattle.scan_gen.specs.declared.view.View.{View}
use Rattle.scan_gen.specs.Scene.{ball_of, view_of}
use Rattle.scan_gen.specs.Generated.{raster, frame_line, frame_record, last_lines, config_line, frames_from, later_of, part_of, generated_scan}

-- a frame, written in three pieces
pub frame_written : (w : View) (o o1 o2 o3 : List ℕ) → o1 ≡ o ++ frame_line w.x w.z → o2 ≡ o1 ++ codes "P5\n640 480\n65535\n" → o3 ≡ o2 ++ raster w → o3 ≡ o ++ frame_record w
unfolding frame_record
frame_written w o o1 o2 o3 e f g =
    g ∙ ap (λ (l : List ℕ). l ++ raster w) (f ∙ ap (λ (l : List ℕ). l ++ codes "P5\n640 480\n65535\n") e) ∙ append_assoc (o ++ frame_line w.x w.z) (codes "P5\n640 480\n65535\n") (raster w)
    ∙ append_assoc o (frame_line w.x w.z) (codes "P5\n640 480\n65535\n" ++ raster w)

-- ---- no part is empty

frame_some : (w : View) → frame_record w ≡ [] → ⊥
unfolding frame_record
frame_some w e = cc

last_some : last_lines ≡ [] → ⊥
unfolding last_lines
last_some e = cc

pub part_some : (b : Ball) (frames next : ℕ) → part_of b frames next ≡ [] → ⊥
part_some b frames next = by_test (nat_lt next frames)
  where
    by_test : (t : Bool) → (if t then frame_record (view_of b next) else last_lines) ≡ [] → ⊥
    by_test true e = frame_some (view_of b next) e
    by_test false e = last_some e

-- ---- what follows

first_frame : (b : Ball) (next n : ℕ) → frames_from b next (suc n) ++ last_lines ≡ frame_record (view_of b next) ++ (frames_from b (next + 1) n ++ last_lines)
first_frame b next n = append_assoc (frame_record (view_of b next)) (frames_from b (next + 1) n) last_lines

pub later_none : (b : Ball) (frames next : ℕ) → frames < next → later_of b frames next ≡ []
unfolding later_of
later_none b frames next h = let no : nat_le next frames ≡ false = grind (arith, nat_tests) in rw no refl

later_some : (b : Ball) (frames next : ℕ) → next ≤ frames → later_of b frames next ≡ frames_from b next (frames - next) ++ last_lines
unfolding later_of
later_some b frames next h = let yes : nat_le next frames ≡ true = grind (arith, nat_tests) in rw yes refl

later_frame : (b : Ball) (frames next : ℕ) → next < frames → later_of b frames next ≡ frame_record (view_of b next) ++ later_of b frames (next + 1)
later_frame b frames next h =
    let count : frames - next ≡ suc (frames - (next + 1)) = omega arith in
    later_some b frames next (omega arith) ∙ ap (λ (n : ℕ). frames_from b next n ++ last_lines) count ∙ first_frame b next (frames - (next + 1))
    ∙ ap (λ (l : List ℕ). frame_record (view_of b next) ++ l) (sym (later_some b frames (next + 1) (omega arith)))

later_last : (b : Ball) (frames next : ℕ) → next ≡ frames → later_of b frames next ≡ last_lines ++ later_of b frames (next + 1)
later_last b frames next h =
    let count : frames - next ≡ 0 = omega arith in
    later_some b frames next (omega arith) ∙ ap (λ (n : ℕ). frames_from b next n ++ last_lines) count ∙ sym (append-nil last_lines)
    ∙ ap (λ (l : List ℕ). last_lines ++ l) (sym (later_none b frames (next + 1) (omega arith)))

-- the next part, and then what follows it
pub later_more : (b : Ball) (frames next : ℕ) → next ≤ frames → later_of b frames next ≡ part_of b frames next ++ later_of b frames (next + 1)
later_more b frames next most = by_test (nat_lt next frames) refl
  where
    by_test : (t : Bool) → nat_lt next frames ≡ t → later_of b frames next ≡ (if t then frame_record (view_of b next) else last_lines) ++ later_of b frames (next + 1)
    by_test true e = later_frame b frames next (grind (arith, nat_tests))
    by_test false e = later_last b frames next (grind (arith, nat_tests))

-- the whole text
pub whole : (seed frames : ℕ) → config_line ++ later_of (ball_of seed) frames 0 ≡ generated_scan seed frames
unfolding generated_scan
whole seed frames =
    let all : frames - 0 ≡ frames = omega arith in
    ap (λ (l : List ℕ). config_line ++ l) (later_some (ball_of seed) frames 0 (omega arith) ∙ ap (λ (n : ℕ). frames_from (ball_of seed) 0 n ++ last_lines) all)
