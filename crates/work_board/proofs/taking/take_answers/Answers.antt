use Rattle.std.proofs.Common.{rules, ◌≡◌, ℕ, ◌+◌, ◌<◌, ◌≤◌, List, [], ◌∷◌, ◌++◌, length, take, sym, ap, ◌∙◌, subst, append_assoc}
use Rattle.std.specs.Prelude.{vec_len}
use Rattle.std.specs.Vec.{vec_capacity}
use Rattle.std.proofs.lemmas.List.{take_more}
use mathlib.Core.Option.{some-injective}
use Rattle.std.specs.Slots.{slots_items}
use Rattle.fusion_core.specs.declared.board.done.Done.{Done}
use Rattle.fusion_core.specs.declared.board.done.Done.TheVariants as done
use Rattle.work_board.specs.Closes.{AreAnswers, freed_by, freed_all, done_or}
use Rattle.work_board.proofs.Takes.{free_room, freed_more}
use Rattle.work_board.proofs.taking.take_answers.Goals as goal

pub add_freed-requires : goal.add_freed-requires
add_freed-requires c =
    let ds : List Done = c.requires.room.0 in let t : AreAnswers c.args.count (slots_items c.args.closed.now.words) ds = c.requires.room.1 in let j : ℕ = c.loop-j.j in
    let lt : j < c.args.count = c.loop-j-test.true in
    let told : c.done_of-answer.result ≡ done_or ds j = c.done_of-answer.ensures (done_or ds j) (t.fits j lt) (some-injective _ _ (sym c.word.ensures ∙ t.word j lt)) in
    let lt' : j < length ds = subst (λ (n : ℕ). j < n) (sym t.as_many) lt in
    let inv = c.loop-j.invariant in
    let n : vec_len c.loop-j.free ≡ length c.loop-j.free.items = search rules in
    let n0 : vec_len c.args.free.now ≡ length c.args.free.now.items = search rules in
    let room = subst (λ (m : ℕ). vec_len c.args.free.now + length (freed_all ds) ≤ m) (sym inv.1) c.requires.room.2 in
    subst (λ (d : Done). vec_len c.loop-j.free + length (freed_by d) ≤ vec_capacity c.loop-j.free) (sym told) (free_room ds j _ _ _ c.loop-j.free.items c.args.free.now.items lt' n n0 (inv.0 ds t).1 room)

pub loop-j-preserved : goal.loop-j-preserved
loop-j-preserved c =
    let j : ℕ = c.loop-j.j in let lt : j < c.args.count = c.loop-j-test.true in let inv = c.loop-j.invariant in (
      (λ ds t.
          let told : c.done_of-answer.result ≡ done_or ds j = c.done_of-answer.ensures (done_or ds j) (t.fits j lt) (some-injective _ _ (sym c.word.ensures ∙ t.word j lt)) in
          let lt' : j < length ds = subst (λ (n : ℕ). j < n) (sym t.as_many) lt in let old = inv.0 ds t in (
            c.push_reserved.ensures.items ∙ ap (λ (l : List Done). l ++ c.done_of-answer.result ∷ []) old.0 ∙ (ap (λ (d : Done). take j ds ++ d ∷ []) told ∙ sym (take_more ds j (done.Cell 0) lt')),
            c.add_freed.ensures.items ∙ ap (λ (l : List ℕ). l ++ freed_by c.done_of-answer.result) old.1 ∙ (ap (λ (d : Done). (c.args.free.now.items ++ freed_all (take j ds)) ++ freed_by d) told
                ∙ (append_assoc c.args.free.now.items (freed_all (take j ds)) (freed_by (done_or ds j)) ∙ ap (λ (l : List ℕ). c.args.free.now.items ++ l) (sym (freed_more ds j lt')))),
          )),
      c.add_freed.ensures.capacity ∙ inv.1,
      c.push_reserved.ensures.capacity ∙ inv.2,
      c.push_reserved.ensures.len ∙ ap (λ (n : ℕ). n + 1) inv.3,
    )
