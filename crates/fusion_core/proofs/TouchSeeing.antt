-- What a seat knows of a walk that it has seen.
use Rattle.std.proofs.Common.{◌≡◌, ◌≢◌, ℕ, zero, suc, ◌+◌, ◌*◌, ◌/◌, ◌%◌, ◌<◌, ◌≤◌, List, [], ◌∷◌, length, get_or, sym, ap, ◌∙◌, arith, inl, inr, subst}
use Rattle.std.proofs.lemmas.Bool.{cases_eq, cases_lt}
use Rattle.spatial_hash.specs.Hash.{home}
use Rattle.spatial_hash.specs.Table.{Table, link_word}
use Rattle.spatial_hash.specs.Sound.{IsStep, Leads}
use Rattle.fusion_core.specs.TouchWords.{shown, counter_at, IsLed, IsOnWalk, Passes, LeadsPast}
use Rattle.fusion_core.specs.TouchRule.{IsWalked, IsDealt}
use Rattle.fusion_core.proofs.TouchGrowing.{walk_node}

-- what was seen is so
abbrev pub Known : Table → List ℕ → List ℕ → Type 0
Known start ws us = (w : ℕ) → w < counter_at start → 0 < get_or us w 0 → get_or ws w 0 ≡ get_or us w 0

-- the entries of a bucket up to a filled one are filled
pub filled_down : (start : Table) (ws : List ℕ) (h i : ℕ) → IsWalked start ws → h < start.buckets → i < 4 → 0 < get_or ws (4 * h + i) 0 → (j : ℕ) → j ≤ i → 0 < get_or ws (4 * h + j) 0
filled_down start ws h zero w lt low f j le = let z : j ≡ 0 = omega arith in rw z f
filled_down start ws h (suc i) w lt low f j le =
    elim (cases_eq j (suc i)) [
      | inl e ↦ rw e f
      | inr ne ↦ filled_down start ws h i w lt (omega arith) (w.prefix h i lt (omega arith) f) j (omega arith)
    ]

module _ (start : Table) (ws us : List ℕ) (w : IsWalked start ws) (known : Known start ws us) where
  pub link_known : (j x : ℕ) → j < start.buckets + start.nodes → link_word (shown start us) j ≡ suc x → link_word (shown start ws) j ≡ suc x
  link_known j x lt e = known (4 * start.buckets + start.nodes + j) (omega arith) (omega arith) ∙ e

  pub sees_leads : (k h : ℕ) (vs : List ℕ) (j l : ℕ) → j < start.buckets + start.nodes → LeadsPast (shown start us) k j vs l
      → (over : List ℕ) (e : ℕ) → Leads (shown start ws) h j over e → link_word (shown start ws) e ≡ 0
      → (rest : List ℕ) × (length over ≡ length vs + length rest) × Leads (shown start ws) h l rest e × Leads (shown start ws) h j vs l × (l < start.buckets + start.nodes)
  sees_leads k h [] j l lt s over e r z =
      let P : ℕ → Type 0 = λ x. Leads (shown start ws) h x over e in
      let Q : ℕ → Type 0 = λ x. x < start.buckets + start.nodes in
      (over, omega arith, subst P s r, s, subst Q s lt)
  sees_leads k h (v ∷ vs) j l lt s [] e r z =
      let f : link_word (shown start ws) j ≡ suc v = link_known j v lt s.0 in
      let y : link_word (shown start ws) j ≡ 0 = ap (link_word (shown start ws)) r ∙ z in
      absurd (omega arith)
  sees_leads k h (v ∷ vs) j l lt s (x ∷ over) e r z =
      let f : link_word (shown start ws) j ≡ suc v = link_known j v lt s.0 in
      let y : link_word (shown start ws) j ≡ suc x = r.0.link in
      let xv : x ≡ v = omega arith in
      let low : x < start.nodes = r.0.low in
      let P : ℕ → Type 0 = λ q. Leads (shown start ws) h (start.buckets + q) over e in
      let S : ℕ → Type 0 = λ q. IsStep (shown start ws) h j q in
      let o = sees_leads k h vs (start.buckets + v) l (omega arith) s.3 over e (subst P xv r.1) z in
      let n : length over ≡ length vs + length o.0 = o.1 in
      (o.0, omega arith, o.2, (subst S xv r.0, o.3), o.4)

  -- a node on the walk that was seen to its end does not have the word
  pub seen_other : (k h n : ℕ) (vs : List ℕ) (j l : ℕ) → j < start.buckets + start.nodes → LeadsPast (shown start us) k j vs l → link_word (shown start ws) l ≡ 0
      → (ns : List ℕ) → Leads (shown start ws) h j ns (start.buckets + n) → j ≢ start.buckets + n → get_or ws (4 * start.buckets + n) 0 ≢ k
  seen_other k h n vs j l lt s z [] r ne = absurd (ne r)
  seen_other k h n [] j l lt s z (x ∷ ns) r ne =
      let y : link_word (shown start ws) j ≡ suc x = r.0.link in
      let f : link_word (shown start ws) j ≡ 0 = ap (link_word (shown start ws)) s ∙ z in
      absurd (omega arith)
  seen_other k h n (v ∷ vs) j l lt s z (x ∷ ns) r ne =
      let f : link_word (shown start ws) j ≡ suc v = link_known j v lt s.0 in
      let y : link_word (shown start ws) j ≡ suc x = r.0.link in
      let xv : x ≡ v = omega arith in
      let low : x < start.nodes = r.0.low in
      elim (cases_eq v n) [
        | inl vn ↦ (λ q.
            let some : 0 < get_or us (4 * start.buckets + v) 0 = s.1 in
            let is : get_or ws (4 * start.buckets + v) 0 ≡ get_or us (4 * start.buckets + v) 0 = known (4 * start.buckets + v) (omega arith) some in
            let here : get_or ws (4 * start.buckets + v) 0 ≡ k = ap (λ (a : ℕ). get_or ws (4 * start.buckets + a) 0) vn ∙ q in
            s.2 (sym is ∙ here))
        | inr other ↦ (
            let P : ℕ → Type 0 = λ q. Leads (shown start ws) h (start.buckets + q) ns (start.buckets + n) in
            seen_other k h n vs (start.buckets + v) l (omega arith) s.3 z ns (subst P xv r.1) (λ q. other (omega arith)))
      ]

-- a key that stands nowhere on the walks
abbrev pub Nowhere : Table → List ℕ → ℕ → Type 0
Nowhere start ws k = (d : ℕ) → IsOnWalk (shown start ws) d → get_or ws d 0 ≢ k

module _ (start : Table) (ws us : List ℕ) (owners : ℕ → ℕ) (k : ℕ) (some : 0 < k) (w : IsWalked start ws) (dealt : IsDealt start ws owners) (known : Known start ws us) (lh : home start.buckets k < start.buckets) where
  abbrev h : ℕ
  h = home start.buckets k

  -- an entry of a bucket with the word is one of the key's bucket
  in_bucket : (d : ℕ) → d < 4 * start.buckets → get_or ws d 0 ≡ k → d / 4 ≡ h
  in_bucket d lt e =
      let split : d ≡ 4 * (d / 4) + d % 4 = omega arith in
      let is : get_or ws (4 * (d / 4) + d % 4) 0 ≡ k = ap (λ (x : ℕ). get_or ws x 0) (sym split) ∙ e in
      sym (w.at_home (d / 4) (d % 4) (omega arith) (omega arith) (omega arith)) ∙ ap (home start.buckets) is

  -- a node with the word is on the chain of the key's bucket
  in_chain : (n : ℕ) → IsLed (shown start ws) n → get_or ws (4 * start.buckets + n) 0 ≡ k → (ns : List ℕ) × Leads (shown start ws) h h ns (start.buckets + n)
  in_chain n l e =
      let o = walk_node start ws owners n w dealt l in
      let P : ℕ → Type 0 = λ x. (ns : List ℕ) × Leads (shown start ws) (home start.buckets x) (home start.buckets x) ns (start.buckets + n) in
      subst P e (o.over, o.leads)

  no_chain : (i : ℕ) → i < 4 → get_or ws (4 * h + i) 0 ≡ 0 → (ns : List ℕ) (m : ℕ) → Leads (shown start ws) h h ns (start.buckets + m) → ⊥
  no_chain i li z [] m r = let r2 : h ≡ start.buckets + m = r in absurd (omega arith)
  no_chain i li z (x ∷ ns) m r =
      let y : link_word (shown start ws) h ≡ suc x = r.0.link in
      let f : 0 < get_or ws (4 * h + i) 0 = filled_down start ws h 3 w lh (omega arith) (w.full h lh (omega arith)) i (omega arith) in
      absurd (omega arith)

  -- the first entries of a bucket were seen, and the next is free
  pub nowhere_free : (i : ℕ) → i < 4 → Passes (shown start us) k h i → get_or ws (4 * h + i) 0 ≡ 0 → Nowhere start ws k
  nowhere_free i li pass z d (inl lt) e =
      let hd : d / 4 ≡ h = in_bucket d lt e in
      let split : d ≡ 4 * h + d % 4 = omega arith in
      let is : get_or ws (4 * h + d % 4) 0 ≡ k = ap (λ (x : ℕ). get_or ws x 0) (sym split) ∙ e in
      elim (cases_lt (d % 4) i) [
        | inl before ↦ (
            let p = pass (d % 4) before in
            let q : get_or ws (4 * h + d % 4) 0 ≡ get_or us (4 * h + d % 4) 0 = known (4 * h + d % 4) (omega arith) p.0 in
            p.1 (sym q ∙ is))
        | inr after ↦ (let f : 0 < get_or ws (4 * h + i) 0 = filled_down start ws h (d % 4) w lh (omega arith) (omega arith) i (omega arith) in absurd (omega arith))
      ]
  nowhere_free i li pass z d (inr n) e =
      let is : get_or ws (4 * start.buckets + n.0) 0 ≡ k = ap (λ (x : ℕ). get_or ws x 0) (sym n.1) ∙ e in
      let c = in_chain n.0 n.2 is in
      no_chain i li z c.0 n.0 c.1

  -- the whole walk of a bucket was seen
  pub nowhere_end : (vs : List ℕ) (l : ℕ) → Passes (shown start us) k h 4 → LeadsPast (shown start us) k h vs l → link_word (shown start ws) l ≡ 0 → Nowhere start ws k
  nowhere_end vs l pass sees z d (inl lt) e =
      let hd : d / 4 ≡ h = in_bucket d lt e in
      let split : d ≡ 4 * h + d % 4 = omega arith in
      let is : get_or ws (4 * h + d % 4) 0 ≡ k = ap (λ (x : ℕ). get_or ws x 0) (sym split) ∙ e in
      let p = pass (d % 4) (omega arith) in
      let q : get_or ws (4 * h + d % 4) 0 ≡ get_or us (4 * h + d % 4) 0 = known (4 * h + d % 4) (omega arith) p.0 in
      p.1 (sym q ∙ is)
  nowhere_end vs l pass sees z d (inr n) e =
      let is : get_or ws (4 * start.buckets + n.0) 0 ≡ k = ap (λ (x : ℕ). get_or ws x 0) (sym n.1) ∙ e in
      let c = in_chain n.0 n.2 is in
      seen_other start ws us w known k h n.0 vs h l (omega arith) sees z c.0 c.1 (λ q. absurd (omega arith)) is
