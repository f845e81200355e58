-- A seat comes to know more.
use Rattle.std.proofs.Common.{◌≡◌, ◌≢◌, ℕ, ◌+◌, ◌*◌, ◌<◌, ◌≤◌, List, [], ◌∷◌, ◌++◌, length, set, get_or, sym, ap, ◌∙◌, arith, inl, inr, subst}
use Rattle.std.proofs.lemmas.Bool.{cases_eq}
use Rattle.std.proofs.lemmas.List.{get_or-set_same, get_or-set_other, length-set}
use Rattle.spatial_hash.specs.Table.{Table, entries_in}
use Rattle.fusion_core.specs.TouchSeats.{SeatState}
use Rattle.fusion_core.specs.TouchCounts.{pairs_at}
use Rattle.fusion_core.specs.TouchWords.{shown, counter_at, IsLed, IsOnWalk}
use Rattle.fusion_core.specs.TouchRule.{IsWalked, Fits}
use Rattle.fusion_core.specs.TouchSteps.{saw, found, touched_after}
use Rattle.fusion_core.proofs.TouchPairs.{Each, touched_more, touched_keeps, times_more}

module _ (start : Table) (ws : List ℕ) (v : SeatState) (f : Fits start ws v) where
  pub fits_saw : (w r : ℕ) → 0 < v.part → w < counter_at start → length ws ≡ counter_at start + 1 → get_or ws w 0 ≡ r → ((n : ℕ) → n < start.nodes → (IsLed (shown start ws) n → ⊥) → 4 * start.buckets + n ≢ w) → Fits start ws (saw w r v)
  fits_saw w r part low wide is off =
      let long : length v.seen ≡ length ws = f.wide part in
      record {
        wide = λ p. length-set v.seen w r ∙ f.wide p;
        seen = λ a lt more. elim (cases_eq a w) [
          | inl q ↦ (let here : get_or (set v.seen w r) a 0 ≡ r = ap (λ (x : ℕ). get_or (set v.seen w r) x 0) q ∙ get_or-set_same v.seen w r 0 (omega arith) in ap (λ (x : ℕ). get_or ws x 0) q ∙ is ∙ sym here)
          | inr ne ↦ (let there = get_or-set_other v.seen w a r 0 ne in f.seen a lt (rw there at more) ∙ sym there)
        ];
        blind = λ n lt no_link. get_or-set_other v.seen w (4 * start.buckets + n) r 0 (off n lt no_link) ∙ f.blind n lt no_link;
        touched = f.touched;
        placed = f.placed;
        filled = f.filled;
        few = f.few;
        idle = f.idle;
        marked = f.marked;
      }

  -- a key with its entry comes onto the touched list, if x is its word
  pub fits_touched : (k e x : ℕ) → 0 < v.part → (x ≡ k → (0 < k) × (e < entries_in start) × IsOnWalk (shown start ws) e × (get_or ws e 0 ≡ k)) → Fits start ws (record v { touched = touched_after k e x v.touched })
  fits_touched k e x part is = record {
    wide = f.wide;
    seen = f.seen;
    blind = f.blind;
    touched = touched_more (λ y d. (0 < y) × (d < entries_in start) × IsOnWalk (shown start ws) d × (get_or ws d 0 ≡ y)) k e x v.touched is f.touched;
    placed = λ y h. (let o = f.placed y h in (o.0, touched_keeps y o.0 k e x v.touched o.1));
    filled = f.filled;
    few = f.few;
    idle = λ z. absurd (omega arith);
    marked = f.marked;
  }

  pub fits_placed : (k : ℕ) → 0 < v.part → (d : ℕ) × (0 < pairs_at k d v.touched) → Fits start ws (record v { placed = v.placed ++ k ∷ [] })
  fits_placed k part h = record {
    wide = f.wide;
    seen = f.seen;
    blind = f.blind;
    touched = f.touched;
    placed = times_more (λ y. (d : ℕ) × (0 < pairs_at y d v.touched)) k v.placed h f.placed;
    filled = f.filled;
    few = f.few;
    idle = λ z. absurd (omega arith);
    marked = f.marked;
  }

  pub fits_nodes : (ns : List (ℕ × ℕ)) → 0 < v.part → Each (λ n x. (n < start.nodes) × (get_or ws (4 * start.buckets + n) 0 ≡ x)) ns → length ns ≤ v.part → Fits start ws (record v { nodes = ns })
  fits_nodes ns part each few = record {
    wide = f.wide;
    seen = f.seen;
    blind = f.blind;
    touched = f.touched;
    placed = f.placed;
    filled = each;
    few = few;
    idle = λ z. absurd (omega arith);
    marked = f.marked;
  }

  pub fits_mark : (m : ℕ) → 0 < v.part → (start.nodes < m) × (start.nodes ≤ get_or ws (counter_at start) 0) → Fits start ws (record v { mark = m })
  fits_mark m part is = record {
    wide = f.wide;
    seen = f.seen;
    blind = f.blind;
    touched = f.touched;
    placed = f.placed;
    filled = f.filled;
    few = f.few;
    idle = λ z. absurd (omega arith);
    marked = λ p. is;
  }

off_walk : (start : Table) (ws : List ℕ) (e n : ℕ) → (IsLed (shown start ws) n → ⊥) → IsOnWalk (shown start ws) e → 4 * start.buckets + n ≢ e
off_walk start ws e n off (inl lt) q = absurd (omega arith)
off_walk start ws e n off (inr m) q = let a : e ≡ 4 * start.buckets + m.0 = m.1 in let same : m.0 ≡ n = omega arith in off (subst (IsLed (shown start ws)) same m.2)

-- a key word on a walk was seen
pub fits_found : (start : Table) (ws : List ℕ) (v : SeatState) (k e r : ℕ) → IsWalked start ws → Fits start ws v → 0 < v.part → 0 < k → e < entries_in start → IsOnWalk (shown start ws) e → get_or ws e 0 ≡ r → Fits start ws (found k e r v)
fits_found start ws v k e r w f part some low on is =
    fits_touched start ws (saw e r v)
    (fits_saw start ws v f e r part (omega arith) w.wide is (λ n lt off q. off_walk start ws e n off on q))
    k e r part (λ same. (some, low, on, is ∙ same))
