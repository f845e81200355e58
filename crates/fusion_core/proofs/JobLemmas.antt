-- What a job finds when it can be done, and what it leaves.
use Rattle.std.proofs.Common.{◌≡◌, ◌≢◌, ℕ, ◌+◌, ◌<◌, ◌≤◌, List, [], ◌∷◌, length, set, sym, refl, ap, ◌∙◌, arith, subst}
use Rattle.std.specs.Prelude.{Option, None, Some}
use Rattle.std.proofs.lemmas.Bool.{false≢true}
use Rattle.std.proofs.lemmas.List.{set-get_or}
use Rattle.fusion_core.specs.declared.board.job.Job.TheVariants.{Fresh, Stay, Enter, Leave, Check}
use Rattle.fusion_core.specs.declared.board.slot.Slot.{Slot}
use Rattle.fusion_core.specs.declared.board.dock.Dock.TheVariants.{Full}
use Rattle.fusion_core.specs.declared.board.slot.Slot.TheVariants.{Away, OfDock}
use Rattle.fusion_core.specs.declared.board.work.Work.{Work}
use Rattle.voxel_block.specs.declared.key.BlockKey.{BlockKey}
use Rattle.fusion_core.specs.Jobs.{Start, slot_at, first_at, drawn_number, left}
use Rattle.fusion_core.specs.BoardStates.{put}
use Rattle.fusion_core.specs.Boards.{IsPackedBlock}
use Rattle.fusion_core.specs.Machines.{CanDo, IsTaken}
use Rattle.fusion_core.specs.Works.{greatest_weight}
use Rattle.fusion_core.specs.Counts.{count_of}
use Rattle.fusion_core.proofs.SumLemmas.{count_of-cons, same_test}

here : (x : ℕ) (l : List ℕ) → 0 < count_of x (x ∷ l)
here x l = let t = same_test x x refl in let c = count_of-cons x x l in omega arith

behind : (x y : ℕ) → 0 < count_of x (y ∷ x ∷ [])
behind x y = let t = same_test x x refl in omega arith

twice : (x y : ℕ) → x ≡ y → count_of x (y ∷ x ∷ []) ≤ 1 → ⊥
twice x y e h = let t = same_test x x refl in let u = same_test y x (sym e) in absurd (omega arith)

module _ (st : Start) (w : Work) (n : ℕ) (l : List Slot) where
  pub fresh_finds : (key : BlockKey) (got : Option ℕ) → CanDo st w n l (Fresh key) got → (drawn_number got < length l) × (slot_at l (drawn_number got) ≡ first_at st (drawn_number got))
  fresh_finds key None can = absurd (false≢true (sym can.wants))
  fresh_finds key (Some c) can = can.same c (here c [])

  pub check_finds : (cell : ℕ) (got : Option ℕ) → CanDo st w n l (Check cell) got → (cell < length l) × (slot_at l cell ≡ first_at st cell)
  check_finds cell None can = can.same cell (here cell [])
  check_finds cell (Some c) can = absurd (false≢true can.wants)

  pub enter_finds : (dock : ℕ) (got : Option ℕ) → CanDo st w n l (Enter dock) got
      → ((drawn_number got < length l) × (n + dock < length l)) × (n + dock ≢ drawn_number got) × (slot_at l (drawn_number got) ≡ first_at st (drawn_number got)) × (slot_at l (n + dock) ≡ first_at st (n + dock))
  enter_finds dock None can = absurd (false≢true (sym can.wants))
  enter_finds dock (Some c) can =
      let a = can.same c (here c ((length st.cells + dock) ∷ [])) in let b = can.same (length st.cells + dock) (behind (length st.cells + dock) c) in
      let P : ℕ → Type 0 = λ k. ((c < length l) × (k + dock < length l)) × (k + dock ≢ c) × (slot_at l c ≡ first_at st c) × (slot_at l (k + dock) ≡ first_at st (k + dock)) in
      subst P can.count ((a.0, b.0), (λ e. twice (length st.cells + dock) c e (can.once (length st.cells + dock))), a.1, b.1)

  pub stay_finds : (cell : ℕ) (got : Option ℕ) → CanDo st w n l (Stay cell) got → (cell < length l) × (slot_at l cell ≡ first_at st cell)
  stay_finds cell None can = can.same cell (here cell [])
  stay_finds cell (Some c) can = absurd (false≢true can.wants)

  pub leave_finds : (cell dock : ℕ) (got : Option ℕ) → CanDo st w n l (Leave cell dock) got
      → ((cell < length l) × (n + dock < length l)) × (cell ≢ n + dock) × (slot_at l cell ≡ first_at st cell) × (slot_at l (n + dock) ≡ first_at st (n + dock))
  leave_finds cell dock (Some c) can = absurd (false≢true can.wants)
  leave_finds cell dock None can =
      let a = can.same cell (behind cell (length st.cells + dock)) in let b = can.same (length st.cells + dock) (here (length st.cells + dock) (cell ∷ [])) in
      let P : ℕ → Type 0 = λ k. ((cell < length l) × (k + dock < length l)) × (cell ≢ k + dock) × (slot_at l cell ≡ first_at st cell) × (slot_at l (k + dock) ≡ first_at st (k + dock)) in
      subst P can.count ((a.0, b.0), (λ e. twice cell (length st.cells + dock) e (can.once cell)), a.1, b.1)

  -- a full dock that a job enters has a packed block of its key
  pub enter_taken : (dock : ℕ) (got : Option ℕ) → CanDo st w n l (Enter dock) got → IsTaken w (slot_at l (n + dock))
  enter_taken dock got can =
      let s = can.suited in
      let block : IsPackedBlock (greatest_weight w) s.0 s.1 = subst (λ (v : Work). IsPackedBlock (greatest_weight v) s.0 s.1) can.same_work s.3 in
      let at : first_at st (n + dock) ≡ OfDock (Full s.0 s.1) = subst (λ (k : ℕ). first_at st (k + dock) ≡ OfDock (Full s.0 s.1)) can.count s.2 in
      subst (IsTaken w) (sym ((enter_finds dock got can).3 ∙ at)) block

  -- a look leaves all as it was
  pub check_leaves : (cell : ℕ) (got : Option ℕ) → CanDo st w n l (Check cell) got → l ≡ put l (left st (Check cell) got)
  check_leaves cell got can = let f = check_finds cell got can in sym (set-get_or l cell Away) ∙ ap (set l cell) f.1
