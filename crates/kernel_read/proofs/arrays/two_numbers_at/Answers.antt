use Rattle.std.specs.Prelude.{ℕ, List, ◌++◌}
use Rattle.std.specs.Fmt.{decimal}
use Rattle.std.proofs.Common.{append_assoc, sym}
use Rattle.kernel_print.specs.ArrayNames.{IsWord}
use Rattle.kernel_read.specs.Reading.{AreWordsBoth}
use Rattle.kernel_read.proofs.Parts.{none_first, none_second, none_reads, found_both}
use Rattle.kernel_read.proofs.Plain.{plain_starts}
use Rattle.kernel_read.proofs.Standing.{tells_behind, tells_numbers}
use Rattle.kernel_read.proofs.arrays.two_numbers_at.Goals as goal

pub returns-in_err-first : goal.returns-in_err-first
returns-in_err-first c =
    let before = c.args.before.now in
    let between = c.args.between.now in
    let T : ℕ → List ℕ = λ n. before ++ decimal n in
    let U : ℕ → List ℕ = λ k. between ++ (decimal k ++ c.args.after.now) in
    let S : ℕ × ℕ → List ℕ = λ n. before ++ (decimal n.0 ++ U n.1) in
    none_reads (ℕ × ℕ) S AreWordsBoth c.args.line.now c.args.at c.from_residual.result c.from_residual.ensures
    (none_first ℕ ℕ T U IsWord IsWord c.args.line.now c.args.at S c.in_err-first.ensures
    (λ k rest. plain_starts between (decimal k ++ c.args.after.now) rest c.requires.parted)
    (λ p. sym (append_assoc before (decimal p.0) (U p.1))))

pub returns-in_err-second : goal.returns-in_err-second
returns-in_err-second c =
    let before = c.args.before.now in
    let between = c.args.between.now in
    let T : ℕ → List ℕ = λ n. before ++ decimal n in
    let U : ℕ → List ℕ = λ k. between ++ (decimal k ++ c.args.after.now) in
    let S : ℕ × ℕ → List ℕ = λ n. before ++ (decimal n.0 ++ U n.1) in
    none_reads (ℕ × ℕ) S AreWordsBoth c.args.line.now c.args.at c.from_residual-in_err-second.result
    c.from_residual-in_err-second.ensures
    (none_second ℕ ℕ T U IsWord IsWord c.args.line.now c.args.at S (tells_behind ℕ decimal IsWord before tells_numbers)
    c.in_ok-first.first c.in_ok-first.at c.in_ok-first.ensures c.in_err-second.ensures
    (λ k rest. plain_starts between (decimal k ++ c.args.after.now) rest c.requires.parted)
    (λ p. sym (append_assoc before (decimal p.0) (U p.1))))

pub returns : goal.returns
returns c =
    let before = c.args.before.now in
    let between = c.args.between.now in
    let T : ℕ → List ℕ = λ n. before ++ decimal n in
    let U : ℕ → List ℕ = λ k. between ++ (decimal k ++ c.args.after.now) in
    let S : ℕ × ℕ → List ℕ = λ n. before ++ (decimal n.0 ++ U n.1) in
    found_both ℕ ℕ T U IsWord IsWord c.args.line.now c.args.at S c.in_ok-first.first c.in_ok-second.second c.in_ok-first.at
    c.in_ok-second.at c.in_ok-first.ensures c.in_ok-second.ensures (λ p. sym (append_assoc before (decimal p.0) (U p.1)))
