use Rattle.std.specs.Prelude.{ℕ, List, ◌++◌}
use Rattle.std.specs.Fmt.{decimal}
use Rattle.std.proofs.Common.{append_assoc, sym}
use Rattle.kernel_print.specs.ArrayNames.{IsWord}
use Rattle.kernel_read.proofs.Parts.{none_after, none_before, none_reads, found_after}
use Rattle.kernel_read.proofs.Standing.{tells_behind, tells_numbers}
use Rattle.kernel_read.proofs.digits.numbered_at.Goals as goal

pub returns-in_err-number : goal.returns-in_err-number
returns-in_err-number c =
    let before = c.args.before.now in
    let after = c.args.after.now in
    let S : ℕ → List ℕ = λ n. before ++ (decimal n ++ after) in
    none_reads ℕ S IsWord c.args.line.now c.args.at c.from_residual.result c.from_residual.ensures
    (none_before ℕ (λ n. before ++ decimal n) IsWord c.args.line.now c.args.at S after c.in_err-number.ensures c.requires.plain
    (λ n. sym (append_assoc before (decimal n) after)))

pub returns-in_err-at : goal.returns-in_err-at
returns-in_err-at c =
    let before = c.args.before.now in
    let after = c.args.after.now in
    let S : ℕ → List ℕ = λ n. before ++ (decimal n ++ after) in
    none_reads ℕ S IsWord c.args.line.now c.args.at c.from_residual-in_err-at.result c.from_residual-in_err-at.ensures
    (none_after ℕ (λ n. before ++ decimal n) IsWord c.args.line.now c.args.at S after
    (tells_behind ℕ decimal IsWord before tells_numbers) c.in_ok-number.number c.in_ok-number.at c.in_ok-number.ensures
    c.in_err-at.ensures c.requires.plain (λ n. sym (append_assoc before (decimal n) after)))

pub returns : goal.returns
returns c =
    let before = c.args.before.now in
    let after = c.args.after.now in
    let S : ℕ → List ℕ = λ n. before ++ (decimal n ++ after) in
    found_after ℕ (λ n. before ++ decimal n) IsWord c.args.line.now c.args.at S after c.in_ok-number.number c.in_ok-number.at c.in_ok-at.at
    c.in_ok-number.ensures c.in_ok-at.ensures (λ n. sym (append_assoc before (decimal n) after))
