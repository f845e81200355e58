-- A key on a walk is found there.
use Rattle.std.proofs.Common.{◌≡◌, ◌≢◌, ℕ, suc, ◌+◌, ◌-◌, ◌*◌, ◌/◌, ◌%◌, ◌<◌, ◌≤◌, List, [], ◌∷◌, get_or, refl, sym, ap, ◌∙◌, arith, inl, inr, subst}
use Rattle.std.specs.Prelude.{Some}
use Rattle.std.proofs.lemmas.Bool.{cases_eq}
use Rattle.spatial_hash.specs.Hash.{home}
use Rattle.spatial_hash.specs.Table.{Table, key_word, link_word}
use Rattle.spatial_hash.specs.Walk.{walk_of, first_with, chain_of}
use Rattle.spatial_hash.specs.Sound.{Leads}
use Rattle.spatial_hash.proofs.Places.{passed_up}
use Rattle.spatial_hash.proofs.Walks.{first_here, first_later, chain_is, entries_of, met_entry_by, passed_all}
use Rattle.fusion_core.specs.TouchWords.{shown, IsOnWalk}
use Rattle.fusion_core.specs.TouchRule.{IsWalked, IsDealt}
use Rattle.fusion_core.proofs.TouchGrowing.{walk_node}
use Rattle.fusion_core.proofs.TouchSeeing.{filled_down}

module _ (start : Table) (ws : List ℕ) (w : IsWalked start ws) (k : ℕ) (some : 0 < k) where
  abbrev t : Table
  t = shown start ws

  abbrev h : ℕ
  h = home start.buckets k

  -- a node among those of a chain
  in_chain : (n : ℕ) → IsOnWalk t (4 * start.buckets + n) → get_or ws (4 * start.buckets + n) 0 ≡ k
      → (over : List ℕ) (j e : ℕ) → j < start.buckets + start.nodes → Leads t h j over e → link_word t e ≡ 0 → (ns : List ℕ) → Leads t h j ns (start.buckets + n) → j ≢ start.buckets + n
      → first_with t k (entries_of t over) ≡ Some (4 * start.buckets + n)
  in_chain n on is over j e lt r z [] q ne = absurd (ne q)
  in_chain n on is [] j e lt r z (x ∷ ns) q ne = let a : link_word t j ≡ suc x = q.0.link in let b : link_word t j ≡ 0 = ap (link_word t) r ∙ z in absurd (omega arith)
  in_chain n on is (y ∷ over) j e lt r z (x ∷ ns) q ne =
      let a : link_word t j ≡ suc x = q.0.link in
      let b : link_word t j ≡ suc y = r.0.link in
      let xy : x ≡ y = omega arith in
      let low : y < start.nodes = r.0.low in
      elim (cases_eq (get_or ws (4 * start.buckets + y) 0) k) [
        | inl same ↦ (
            let one : 4 * start.buckets + y ≡ 4 * start.buckets + n = w.differ (4 * start.buckets + y) (4 * start.buckets + n) (inr (y, refl, (j, lt, b))) on (omega arith) (same ∙ sym is) in
            first_here t k (4 * start.buckets + y) (entries_of t over) same ∙ ap Some one)
        | inr other ↦ (
            let P : ℕ → Type 0 = λ a. Leads t h (start.buckets + a) ns (start.buckets + n) in
            first_later t k (4 * start.buckets + y) (entries_of t over) other
            ∙ in_chain n on is over (start.buckets + y) e (omega arith) r.1 z ns (subst P xy q.1) (λ s. (let yn : y ≡ n = omega arith in other (ap (λ (a : ℕ). get_or ws (4 * start.buckets + a) 0) yn ∙ is))))
      ]

  -- the entries of a bucket before a filled one are filled with other words
  others_before : (lh : h < start.buckets) (i d : ℕ) → i ≤ 4 → IsOnWalk t d → get_or ws d 0 ≡ k → (i < 4 → 0 < get_or ws (4 * h + i) 0) → (i ≡ 4 → 0 < get_or ws (4 * h + 3) 0) → ((a : ℕ) → a < i → 4 * h + a ≢ d)
      → (a : ℕ) → a < i → (0 < key_word t (4 * h + a)) × (key_word t (4 * h + a) ≢ k)
  others_before lh i d le on is here full ne a lt = (
    elim (cases_eq i 4) [
      | inl q ↦ filled_down start ws h 3 w lh (omega arith) (full q) a (omega arith)
      | inr nq ↦ filled_down start ws h i w lh (omega arith) (here (omega arith)) a (omega arith)
    ],
    λ q. ne a lt (w.differ (4 * h + a) d (inl (omega arith)) on (omega arith) (q ∙ sym is)),
  )

  some_link : (ns : List ℕ) (j l : ℕ) → Leads t h j ns l → j ≢ l → 0 < link_word t j
  some_link [] j l r ne = absurd (ne r)
  some_link (x ∷ ns) j l r ne = let a : link_word t j ≡ suc x = r.0.link in omega arith

  pub found : (owners : ℕ → ℕ) → IsDealt start ws owners → (lh : h < start.buckets) → (d : ℕ) → IsOnWalk t d → get_or ws d 0 ≡ k → first_with t k (walk_of t h) ≡ Some d
  found owners dealt lh d (inl lt) is =
      let i : ℕ = d % 4 in
      let split : d ≡ 4 * (d / 4) + d % 4 = omega arith in
      let word : get_or ws (4 * (d / 4) + d % 4) 0 ≡ k = ap (λ (x : ℕ). get_or ws x 0) (sym split) ∙ is in
      let hd : d / 4 ≡ h = sym (w.at_home (d / 4) (d % 4) (omega arith) (omega arith) (omega arith)) ∙ ap (home start.buckets) word in
      let at : d ≡ 4 * h + d % 4 = omega arith in
      let here : get_or ws (4 * h + d % 4) 0 ≡ k = ap (λ (x : ℕ). get_or ws x 0) (sym at) ∙ is in
      let p = passed_up t h k (d % 4) (omega arith) (others_before lh (d % 4) d (omega arith) (inl lt) is (λ _. omega arith) (λ q. absurd (omega arith)) (λ a la q. absurd (omega arith))) in
      (met_entry_by t h k (d % 4) (3 - d % 4) (omega arith) (omega arith) p).found here some ∙ ap Some (sym at)
  found owners dealt lh d (inr m) is =
      let n : ℕ = m.0 in
      let word : get_or ws (4 * start.buckets + m.0) 0 ≡ k = ap (λ (x : ℕ). get_or ws x 0) (sym m.1) ∙ is in
      let o = walk_node start ws owners m.0 w dealt m.2 in
      let P : ℕ → Type 0 = λ x. Leads t (home start.buckets x) (home start.buckets x) o.over (start.buckets + m.0) in
      let path : Leads t h h o.over (start.buckets + m.0) = subst P word o.leads in
      let ends = w.ends h lh in
      let on : IsOnWalk t (4 * start.buckets + m.0) = inr (m.0, refl, m.2) in
      let full : 0 < get_or ws (4 * h + 3) 0 = w.full h lh (some_link o.over h (start.buckets + m.0) path (λ q. absurd (omega arith))) in
      let p = passed_up t h k 4 (omega arith) (others_before lh 4 (4 * start.buckets + m.0) (omega arith) on word (λ q. absurd (omega arith)) (λ _. full) (λ a la q. absurd (omega arith))) in
      let chain : chain_of start.nodes t h ≡ entries_of t ends.1.over = chain_is t h start.nodes h ends.1.over ends.0 ends.1.leads ends.1.none ends.1.few in
      sym (passed_all t h k p) ∙ ap (first_with t k) chain ∙ in_chain m.0 on word ends.1.over h ends.0 (omega arith) ends.1.leads ends.1.none o.over path (λ q. absurd (omega arith)) ∙ ap Some (sym m.1)
