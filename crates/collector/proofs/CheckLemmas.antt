-- Lists that are made piece by piece, from the cells and from the jobs that are left.
use Rattle.std.proofs.Common.{◌≡◌, ℕ, ◌+◌, ◌<◌, ◌≤◌, List, [], ◌++◌, length, drop, get_or, sym, ap, ◌∙◌, append-nil, append_assoc}
use Rattle.std.specs.Prelude.{ℤ}
use Rattle.std.specs.List.{enumerate_from, flat_map, zip}
use Rattle.std.proofs.lemmas.List.{drop_all, drop_more}
use Rattle.block_heap.specs.declared.cell.Cell.{Cell}
use Rattle.fusion_core.specs.declared.board.done.Done.{Done}
use Rattle.fusion_core.specs.declared.board.job.Job.{Job}
use Rattle.collector.specs.Checks.{check_of, empty_cell}

pub pushed : {X : Type 0} (out new more rest left all : List X) → left ≡ more ++ rest → new ≡ out ++ more → out ++ left ≡ all → new ++ rest ≡ all
pushed out new more rest left all next is h = ap (λ o. o ++ rest) is ∙ append_assoc out more rest ∙ ap (λ xs. out ++ xs) (sym next) ∙ h

pub all_pushed : {X : Type 0} (out left all : List X) → left ≡ [] → out ++ left ≡ all → out ≡ all
all_pushed out left all none h = sym (append-nil out) ∙ ap (λ xs. out ++ xs) (sym none) ∙ h

-- the jobs for the cells from the number n on
abbrev pub checks_from : List Cell → (n : ℕ) → List Job
checks_from cells n = flat_map (λ p. check_of p.0 p.1) (enumerate_from n (drop n cells))

pub checks_next : (cells : List Cell) (n : ℕ) (cell : Cell) → n < length cells → cell ≡ get_or cells n cell → checks_from cells n ≡ check_of n cell ++ checks_from cells (n + 1)
checks_next cells n cell lt is =
    ap (λ (l : List Cell). flat_map (λ p. check_of p.0 p.1) (enumerate_from n l)) (drop_more cells n cell lt)
    ∙ ap (λ (x : Cell). check_of n x ++ checks_from cells (n + 1)) (sym is)

pub checks_none : (cells : List Cell) (n : ℕ) → length cells ≤ n → checks_from cells n ≡ []
checks_none cells n le = ap (λ (l : List Cell). flat_map (λ p. check_of p.0 p.1) (enumerate_from n l)) (drop_all n cells le)

-- the cells of the checks from the number j on
abbrev pub empty_from : (empty_f : ℤ) → List Job → List Done → (j : ℕ) → List ℕ
empty_from empty_f jobs answers j = flat_map (λ p. empty_cell empty_f p.0 p.1) (zip (drop j jobs) (drop j answers))

pub empty_next : (empty_f : ℤ) (jobs : List Job) (answers : List Done) (j : ℕ) (job : Job) (answer : Done) → j < length jobs → j < length answers
    → empty_from empty_f jobs answers j ≡ empty_cell empty_f (get_or jobs j job) (get_or answers j answer) ++ empty_from empty_f jobs answers (j + 1)
empty_next empty_f jobs answers j job answer lt lt' =
    λ i. flat_map (λ p. empty_cell empty_f p.0 p.1) (zip (drop_more jobs j job lt i) (drop_more answers j answer lt' i))

pub empty_none : (empty_f : ℤ) (jobs : List Job) (answers : List Done) (j : ℕ) → length jobs ≤ j → empty_from empty_f jobs answers j ≡ []
empty_none empty_f jobs answers j le = ap (λ (l : List Job). flat_map (λ p. empty_cell empty_f p.0 p.1) (zip l (drop j answers))) (drop_all j jobs le)
