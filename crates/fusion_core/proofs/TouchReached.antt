-- Where a walk has come to, in the words as they are.
use Rattle.std.proofs.Common.{◌≡◌, ◌≢◌, ℕ, ◌+◌, ◌*◌, ◌<◌, ◌≤◌, List, [], ◌∷◌, length, ap, ◌∙◌, arith, inl, inr}
use Rattle.spatial_hash.specs.Hash.{home}
use Rattle.spatial_hash.specs.Table.{Table, link_word}
use Rattle.spatial_hash.specs.Sound.{IsSound, Leads}
use Rattle.spatial_hash.proofs.Homes.{home_low}
use Rattle.fusion_core.specs.TouchWords.{shown, IsOnWalk, LeadsPast}
use Rattle.fusion_core.specs.TouchRule.{IsWalked}
use Rattle.fusion_core.specs.TouchSteps.{IsNextKey}
use Rattle.fusion_core.proofs.TouchSeeing.{Known, sees_leads, link_known}

module _ (start : Table) (ws us : List ℕ) (s : IsSound start) (w : IsWalked start ws) (known : Known start ws us) (k : ℕ) where
  abbrev h : ℕ
  h = home start.buckets k

  lh : h < start.buckets
  lh = home_low start.buckets k s.some_buckets

  some_left : {A : Type 0} (rest : List ℕ) (j e : ℕ) → Leads (shown start ws) h j rest e → link_word (shown start ws) e ≡ 0 → link_word (shown start ws) j ≢ 0 → (0 < length rest → A) → A
  some_left [] j e r z ne f = absurd (ne (ap (link_word (shown start ws)) r ∙ z))
  some_left (x ∷ rest) j e r z ne f = f (omega arith)

  -- a seen link is one of the table's, and a node behind it leaves fewer nodes before it than there are
  pub seen_link : (vs : List ℕ) (j : ℕ) → LeadsPast (shown start us) k h vs j → (j < start.buckets + start.nodes) × (link_word (shown start ws) j ≢ 0 → length vs < start.nodes)
  seen_link vs j sees =
      let l = lh in
      let at = w.ends h lh in
      let o = sees_leads start ws us w known k h vs h j (omega arith) sees at.1.over at.0 at.1.leads at.1.none in
      let n : length at.1.over ≡ length vs + length o.0 = o.1 in
      let f : length at.1.over ≤ start.nodes = at.1.few in
      (o.4, λ ne. some_left o.0 j at.0 o.2 at.1.none ne (λ some. omega arith))

  pub next_on : (e : ℕ) → IsNextKey start us k e → IsOnWalk (shown start ws) e
  next_on e (inl i) = let l = lh in let a : i.0 < 4 = i.1 in let b : e ≡ 4 * h + i.0 = i.2 in inl (omega arith)
  next_on e (inr p) =
      let o = seen_link p.3.1.0 p.0 p.3.1.1 in
      inr (p.1, p.2, (p.0, o.0, link_known start ws us w known p.0 p.1 o.0 p.4))
