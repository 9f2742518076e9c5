use Rattle.std.specs.Prelude.{ℕ, List, ◌++◌, codes, refl}
use Rattle.std.specs.Fmt.{decimal}
use Rattle.kernel_print.specs.ArrayNames.{IsWord}
use Rattle.kernel_read.specs.Reading.{AreWordsBoth}
use Rattle.kernel_read.proofs.Parts.{none_first, none_second, none_reads, found_both}
use Rattle.kernel_read.proofs.Standing.{tells_behind, tells_numbers}
use Rattle.kernel_read.proofs.arrays.key_at.Goals as goal

abbrev W : ℕ → List ℕ
W n = codes "w" ++ decimal n

abbrev K : ℕ → List ℕ
K k = codes "_key" ++ decimal k

abbrev S : ℕ × ℕ → List ℕ
S n = codes "w" ++ (decimal n.0 ++ (codes "_key" ++ decimal n.1))

pub returns-in_err-workspace : goal.returns-in_err-workspace
returns-in_err-workspace c =
    none_reads (ℕ × ℕ) S AreWordsBoth c.args.line.now c.args.at c.from_residual.result c.from_residual.ensures
    (none_first ℕ ℕ W K IsWord IsWord c.args.line.now c.args.at S c.in_err-workspace.ensures (λ k rest. refl) (λ p. refl))

pub returns-in_err-key : goal.returns-in_err-key
returns-in_err-key c =
    none_reads (ℕ × ℕ) S AreWordsBoth c.args.line.now c.args.at c.from_residual-in_err-key.result c.from_residual-in_err-key.ensures
    (none_second ℕ ℕ W K IsWord IsWord c.args.line.now c.args.at S (tells_behind ℕ decimal IsWord (codes "w") tells_numbers)
    c.in_ok-workspace.workspace c.in_ok-workspace.at c.in_ok-workspace.ensures c.in_err-key.ensures (λ k rest. refl) (λ p. refl))

pub returns : goal.returns
returns c =
    found_both ℕ ℕ W K IsWord IsWord c.args.line.now c.args.at S c.in_ok-workspace.workspace c.in_ok-key.key c.in_ok-workspace.at
    c.in_ok-key.at c.in_ok-workspace.ensures c.in_ok-key.ensures (λ p. refl)
