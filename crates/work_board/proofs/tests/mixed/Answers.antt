use Rattle.std.proofs.Common.{◌≡◌, ℕ, zero, suc, ◌+◌, ◌<◌, ◌≤◌, List, [], ◌∷◌, ◌++◌, sym, refl, ap, ◌∙◌, subst, arith, eqb, cond, true}
use Rattle.std.specs.Prelude.{All}
use Rattle.std.proofs.lemmas.List.Elements.{All-replicate}
use mathlib.Core.Logic.{dite}
use native.Mathlib.Decide.{ℕ_discrete}
use Rattle.voxel_block.specs.declared.key.BlockKey.{BlockKey}
use Rattle.voxel_block.specs.declared.voxel.Voxel.{Voxel}
use Rattle.voxel_block.specs.Blocks.{new_block}
use Rattle.voxel_block.specs.Voxels.{new_voxel}
use Rattle.block_heap.specs.declared.cell.Cell.TheVariants.{Free, Owned}
use Rattle.block_heap.specs.Cells.{is_free_at}
use Rattle.fusion_core.specs.declared.board.dock.Dock.TheVariants.{Bare, Full}
use Rattle.fusion_core.specs.declared.board.job.Job.{Job}
use Rattle.fusion_core.specs.declared.board.job.Job.TheVariants.{Fresh, Stay, Enter, Leave, Check}
use Rattle.fusion_core.specs.declared.board.work.Work.{Work}
use Rattle.fusion_core.specs.Boards.{IsPackedBlock, IsReady, IsSuited, name_count}
use Rattle.fusion_core.specs.Counts.{count_of}
use Rattle.fusion_core.specs.Jobs.{Start, job_at}
use Rattle.fusion_core.specs.Machines.{start_of}
use Rattle.fusion_core.specs.Works.{IsFuse, IsWork, greatest_weight}
use Rattle.fusion_core.proofs.SumLemmas.{count_of-cons, no_test, one_only}
use Rattle.work_board.proofs.tests.mixed.Goals as goal

-- 3 and 4 are different, and so are the slots that the jobs name
drawn_once : (c : ℕ) → cond (eqb 3 c) 1 0 + cond (eqb 4 c) 1 0 ≤ 1
drawn_once c = grind arith

named_once : (k : ℕ) → cond (eqb 0 k) 1 0 + (cond (eqb 5 k) 1 0 + cond (eqb 1 k) 1 0) + cond (eqb 2 k) 1 0 + cond (eqb 6 k) 1 0 ≤ 1
named_once k = grind arith

new_weights : (n : ℕ) → All (λ v. v.w ≤ n) new_block
new_weights n = All-replicate (λ v. v.w ≤ n) 512 new_voxel (omega arith)

module _ (k0 k1 k2 k3 k4 : BlockKey) (b0 b1 b2 b3 b4 : List Voxel) (p q : List ℕ) (w : Work) (fuse : IsFuse w) (packed : IsPackedBlock (greatest_weight w) k3 q) where
  abbrev jobs : List Job
  jobs = Stay 0 ∷ Leave 1 0 ∷ Check 2 ∷ Enter 1 ∷ Fresh k4 ∷ []

  abbrev start : Start
  start = start_of jobs (Owned k0 b0 ∷ Owned k1 b1 ∷ Owned k2 b2 ∷ Free b3 ∷ Free b4 ∷ []) (Bare p ∷ Full k3 q ∷ []) (3 ∷ 4 ∷ []) w

  suited : (j : ℕ) → j < 5 → IsSuited start (job_at start j)
  suited zero h = (omega arith, (k0, b0, refl), fuse)
  suited (suc zero) h = (omega arith, (k1, b1, refl), (p, refl))
  suited (suc (suc zero)) h = (omega arith, (k2, b2, refl))
  suited (suc (suc (suc zero))) h = (k3, q, refl, packed)
  suited (suc (suc (suc (suc zero)))) h = fuse
  suited (suc (suc (suc (suc (suc j))))) h = absurd (omega arith)

  is_free : (c : ℕ) → 0 < count_of c (3 ∷ 4 ∷ []) → is_free_at start.cells c ≡ true
  is_free c more = dite (ℕ_discrete 3 c) (λ e. subst (λ n. is_free_at start.cells n ≡ true) e refl)
      (λ n. subst (λ n. is_free_at start.cells n ≡ true) (one_only c 4 (let z = no_test 3 c n in let a = count_of-cons c 3 (4 ∷ []) in omega arith)) refl)

  named : (k : ℕ) → name_count start k jobs ≤ 1
  named k = let n = named_once k in let a = count_of-cons k 5 (1 ∷ []) in omega arith

  ready : IsWork w → 1 ≤ greatest_weight w → IsReady start
  ready is-work weight = record {
    few_jobs = omega arith;
    few_cells = omega arith;
    few_docks = omega arith;
    distinct = λ c. let d = drawn_once c in let a = count_of-cons c 3 (4 ∷ []) in let b = count_of-cons c 4 [] in omega arith;
    free = is_free;
    suited = suited;
    apart = named;
    enough = omega arith;
    is_work = is-work;
    weight = weight;
  }

pub returns-clause-ready : goal.returns-clause-ready
returns-clause-ready c =
    let w : Work = c.args.work.now in let block : List Voxel = c.in_ok-block.block in
    let k0 : BlockKey = c.key-2.result in let k1 : BlockKey = c.key-3.result in let k2 : BlockKey = c.key-4.result in let k3 : BlockKey = c.key-entering.result in let k4 : BlockKey = c.key.result in
    let b0 : List Voxel = c.in_ok-make.field-0 in let b1 : List Voxel = c.in_ok-make-2.field-0 in let b2 : List Voxel = c.in_ok-make-3.field-0 in let b3 : List Voxel = c.in_ok-make-4.field-0 in
    let p : List ℕ = c.in_ok-make-5.field-0 in let q : List ℕ = c.pack_into.new.out in
    let jobs-are : c.in_ok-from_array.field-0.items ≡ Stay 0 ∷ Leave 1 0 ∷ Check 2 ∷ Enter 1 ∷ Fresh k4 ∷ [] = c.in_ok-from_array.ensures.items in
    let cells-are : c.in_ok-from_array-2.field-0.items ≡ Owned k0 b0 ∷ Owned k1 b1 ∷ Owned k2 b2 ∷ Free b3 ∷ Free block ∷ [] = c.in_ok-from_array-2.ensures.items in
    let docks-are : c.in_ok-from_array-3.field-0.items ≡ Bare p ∷ Full k3 q ∷ [] = c.in_ok-from_array-3.ensures.items in
    let free-is : c.push_reserved-2.new.self.items ≡ 3 ∷ 4 ∷ [] = c.push_reserved-2.ensures.items ∙ ap (λ (l : List ℕ). l ++ 4 ∷ []) (c.push_reserved.ensures.items ∙ ap (λ (l : List ℕ). l ++ 3 ∷ []) c.in_ok-free.ensures.items) in
    let is-packed : IsPackedBlock (greatest_weight w) k3 q = record {
      block = block;
      form = c.pack_into.ensures.value;
      is_key = c.pack_into.ensures.key;
      is_block = c.pack_into.ensures.block;
      weights = subst (λ (l : List Voxel). All (λ v. v.w ≤ greatest_weight w) l) (sym c.in_ok-block.ensures) (new_weights (greatest_weight w));
    } in
    subst IsReady (λ i. start_of (sym jobs-are i) (sym cells-are i) (sym docks-are i) (sym free-is i) w)
    (ready k0 k1 k2 k3 k4 b0 b1 b2 b3 block p q w c.requires.0 is-packed c.requires.1 c.requires.2)
