-- A board's table begins with the state in which the machine opens.
use Rattle.std.proofs.Common.{◌≡◌, ℕ, zero, suc, ◌+◌, ◌<◌, ◌≤◌, List, [], ◌∷◌, length, sym, refl, ap, arith, map, subst, ◌∙◌, min, replicate}
use Rattle.std.specs.Prelude.{Option, None, IfSome}
use Rattle.std.proofs.lemmas.List.{length-map}
use mathlib.Core.Option.{some, some-injective, some-ne-none}
use lib.ListN.{get_elem?}
use Rattle.atomic_table.specs.Table.{opening as table_opening}
use Rattle.fusion_core.specs.declared.board.done.Done.{Done}
use Rattle.fusion_core.specs.declared.board.hand.Hand.TheVariants.{Idle}
use Rattle.fusion_core.specs.declared.board.slot.Slot.{Slot}
use Rattle.fusion_core.specs.Boards.{IsReady}
use Rattle.fusion_core.specs.BoardStates.{is_done, opening}
use Rattle.fusion_core.specs.Jobs.{Start, slot_at, slots_of}
use Rattle.fusion_core.proofs.EndLemmas.{none_done, opening_whole}
use Rattle.fusion_core.proofs.SumLemmas.{none_no_some}
use Rattle.work_board.specs.declared.view.View.{View}
use Rattle.work_board.specs.Events.{IsNone, StartIsOpening, machine}
use Rattle.work_board.specs.Rule.{IsPast, Shows, code, first_view}
use Rattle.work_board.proofs.Keeps.{hand_of, same_state, same_whole}

all_home : (xs : List Slot) (k : ℕ) → k < length xs → get_elem? (map some xs) k ≡ some (some (slot_at xs k))
all_home [] k h = absurd (omega arith)
all_home (x ∷ xs) zero h = refl
all_home (x ∷ xs) (suc k) h = all_home xs k (omega arith)

only_one : (v u : View) (i : ℕ) → get_elem? (v ∷ []) i ≡ some u → v ≡ u
only_one v u zero e = some-injective v u e
only_one v u (suc i) e = absurd (some-ne-none u (sym e))

no_code : (n : ℕ) → ◌≡◌ {A = List ℕ} (replicate n 0) (map code (replicate n None))
no_code zero = refl
no_code (suc n) = ap (λ (l : List ℕ). 0 ∷ l) (no_code n)

pub opens_so : (st : Start) (seats : ℕ) (ws : List ℕ) (xs : List Slot) → IsReady st → 1 ≤ seats → seats ≤ 64 → ws ≡ replicate (length st.jobs + 2) 0 → xs ≡ slots_of st.cells st.docks
    → (o : Shows st seats (table_opening ws xs (first_view st seats))) × IsNone (opening st 1) (machine st seats (table_opening ws xs (first_view st seats)) o)
opens_so st seats ws xs r least most words-are slots-are =
    let n : ℕ = length st.jobs in let ds : List (Option Done) = replicate n None in let v : View = first_view st seats in
    let two : n + 2 ≡ suc (suc n) = omega arith in
    let none : 0 ≡ min 0 n = omega arith in (
      record {
        slots = slots_of st.cells st.docks;
        counter = 0;
        cursor = 0;
        done = ds;
        whole = same_whole st (slots_of st.cells st.docks) ds 0 0 (min 0 n) (replicate 1 Idle) (map hand_of (v ∷ [])) none refl (opening_whole st 1 r);
        words = words-are ∙ ap (λ (k : ℕ). replicate k 0) two ∙ ap (λ (l : List ℕ). 0 ∷ 0 ∷ l) (no_code n);
        fits = λ j d e. none_no_some d (sym (none_done n j) ∙ e);
        homes = length-map xs some ∙ ap length slots-are;
        at_home = λ k lt none-away. ap (λ (l : List Slot). get_elem? (map some l) k) slots-are ∙ all_home (slots_of st.cells st.docks) k lt;
        few = most;
        parts = omega arith;
        idle = λ i u e none-left. absurd (let q : seats ≡ u.part = ap (λ (z : View). z.part) (only_one v u i e) in omega arith);
        counted = omega arith;
        marked = λ i u e. subst (λ (z : View). IfSome z.mark (IsPast st 0)) (only_one v u i e) tt;
        did = λ j. omega (arith, ap is_done (none_done n j));
      },
      same_state st (slots_of st.cells st.docks) ds 0 (min 0 n) 0 (replicate 1 Idle) (replicate 1 Idle) (sym none) refl,
    )

pub opens : (st : Start) (seats : ℕ) (ws : List ℕ) (xs : List Slot) → IsReady st → 1 ≤ seats → seats ≤ 64 → ws ≡ replicate (length st.jobs + 2) 0 → xs ≡ slots_of st.cells st.docks
    → Shows st seats (table_opening ws xs (first_view st seats))
opens st seats ws xs r least most words-are slots-are = (opens_so st seats ws xs r least most words-are slots-are).0

pub start_is_opening : StartIsOpening
start_is_opening st seats r least most = opens_so st seats (replicate (length st.jobs + 2) 0) (slots_of st.cells st.docks) r least most refl refl
