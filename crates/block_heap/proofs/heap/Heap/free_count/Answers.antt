use Rattle.std.proofs.Common.{◌∙◌, ap, arith}
use Rattle.std.specs.Prelude.{count_by}
use Rattle.block_heap.specs.Cells.{Cells, is_free}
use Rattle.block_heap.proofs.FreeLists.{counted, free_counted}
use Rattle.block_heap.proofs.heap.Heap.free_count.Goals as goal

pub overflow_cast-result : goal.overflow_cast-result
overflow_cast-result c = omega (arith, counted _ _ c.self.invariant.0)

pub returns-clause-cells : goal.returns-clause-cells
returns-clause-cells c = c.len.ensures ∙ c.self.inside.free.ok.0 ∙ free_counted c.self.inside.cells.items c.self.inside.free.items c.self.invariant.0 ∙ ap (λ (h : Cells). count_by is_free h.cells) c.self.view_is
