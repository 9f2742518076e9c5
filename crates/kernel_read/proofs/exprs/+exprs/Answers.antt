use Rattle.std.specs.Prelude.{List, ℕ, ◌+◌, ◌≡◌, ◌++◌, codes, length, refl}
use Rattle.std.proofs.Common.{append_assoc, arith, sym}
use Rattle.kernel_code.specs.declared.syntax.Arr.{Arr}
use Rattle.kernel_code.specs.declared.syntax.KExpr.{KExpr}
use Rattle.kernel_code.specs.declared.syntax.Op.{Op}
use Rattle.kernel_print.specs.ArrayNames.{HasWords}
use Rattle.kernel_print.specs.ExprTexts.{ExprHasWords}
use Rattle.kernel_print.specs.Text.{array_text, expr_text, operator_text}
use Rattle.kernel_print.proofs.ArrayNames.{names_tell_arrays}
use Rattle.kernel_print.proofs.ExprTexts.{texts_tell_exprs}
use Rattle.kernel_read.proofs.Forms.{found_bin, found_min, found_width, found_at, no_expr, operator_plain}
use Rattle.kernel_read.proofs.Parts.{none_after, none_before, none_behind, none_first, none_second, ok_behind}
use Rattle.kernel_read.proofs.Plain.{plain_end, plain_starts}
use Rattle.kernel_read.proofs.Standing.{moves_by, tells_behind}
use Rattle.kernel_read.proofs.exprs.+exprs.Goals as goal

pub expr_after-returns-in-None : goal.expr_after-returns-in-None
expr_after-returns-in-None t c =
    none_behind KExpr expr_text ExprHasWords c.args.line.now c.args.at c.args.before.now c.in-None.ensures

pub expr_after-returns-in-Some : goal.expr_after-returns-in-Some
expr_after-returns-in-Some t c =
    ok_behind KExpr expr_text ExprHasWords c.args.line.now c.args.at c.args.before.now c.in-Some.at c.in-Some.ensures c.expr_at.result
    c.expr_at.ensures

pub expr_after-expr_at-requires : goal.expr_after-expr_at-requires
expr_after-expr_at-requires t c =
    let stands = c.in-Some.ensures in
    let moved : c.args.at + length c.args.before.now ≡ c.in-Some.at =
    moves_by c.args.line.now c.args.at c.args.before.now c.in-Some.at stands in
    let within = stands.within in
    (omega arith, within)

pub one_at-returns-in_default : goal.one_at-returns-in_default
one_at-returns-in_default t c =
    let before = c.args.before.now in
    let after = c.args.after.now in
    none_before KExpr (λ e. before ++ expr_text e) ExprHasWords c.args.line.now c.args.at (λ e. before ++ (expr_text e ++ after)) after
    (rw c.in_default.is at c.in_ok-e.ensures) (plain_end after c.requires.plain) (λ e. sym (append_assoc before (expr_text e) after))

pub one_at-returns-in-None : goal.one_at-returns-in-None
one_at-returns-in-None t c =
    let before = c.args.before.now in
    let after = c.args.after.now in
    none_after KExpr (λ e. before ++ expr_text e) ExprHasWords c.args.line.now c.args.at (λ e. before ++ (expr_text e ++ after)) after
    (tells_behind KExpr expr_text ExprHasWords before texts_tell_exprs) c.in-Some.e c.in-Some.at (rw c.in-Some.is at c.in_ok-e.ensures)
    c.in-None.ensures (plain_end after c.requires.plain) (λ e. sym (append_assoc before (expr_text e) after))

pub pair_at-returns-in_default : goal.pair_at-returns-in_default
pair_at-returns-in_default t c =
    let before = c.args.before.now in
    let between = c.args.between.now in
    let U : KExpr → List ℕ = λ f. between ++ (expr_text f ++ c.args.after.now) in
    let S : KExpr × KExpr → List ℕ = λ e. before ++ (expr_text e.0 ++ U e.1) in
    none_first KExpr KExpr (λ e. before ++ expr_text e) U ExprHasWords ExprHasWords c.args.line.now c.args.at S
    (rw c.in_default.is at c.in_ok-first.ensures)
    (λ f rest. plain_starts between (expr_text f ++ c.args.after.now) rest c.requires.parted)
    (λ p. sym (append_assoc before (expr_text p.0) (U p.1)))

pub pair_at-returns-in-None : goal.pair_at-returns-in-None
pair_at-returns-in-None t c =
    let before = c.args.before.now in
    let between = c.args.between.now in
    let U : KExpr → List ℕ = λ f. between ++ (expr_text f ++ c.args.after.now) in
    let S : KExpr × KExpr → List ℕ = λ e. before ++ (expr_text e.0 ++ U e.1) in
    none_second KExpr KExpr (λ e. before ++ expr_text e) U ExprHasWords ExprHasWords c.args.line.now c.args.at S
    (tells_behind KExpr expr_text ExprHasWords before texts_tell_exprs) c.in-Some.first c.in-Some.at
    (rw c.in-Some.is at c.in_ok-first.ensures) (rw c.in-None.is at c.in_ok-second.ensures)
    (λ f rest. plain_starts between (expr_text f ++ c.args.after.now) rest c.requires.parted)
    (λ p. sym (append_assoc before (expr_text p.0) (U p.1)))

pub operands_at-returns-in-None : goal.operands_at-returns-in-None
operands_at-returns-in-None t c =
    let U : Op × KExpr → List ℕ = λ f. operator_text f.0 ++ (expr_text f.1 ++ codes ")") in
    let S : KExpr × (Op × KExpr) → List ℕ = λ e. codes "(" ++ (expr_text e.0 ++ U e.1) in
    none_second KExpr (Op × KExpr) (λ e. codes "(" ++ expr_text e) U ExprHasWords (λ f. ExprHasWords f.1) c.args.line.now c.args.at S
    (tells_behind KExpr expr_text ExprHasWords (codes "(") texts_tell_exprs) c.in-Some.first c.in-Some.at
    (rw c.in-Some.is at c.in_ok-first.ensures) (rw c.in-None.is at c.in_ok-second.ensures)
    (λ f rest. operator_plain f.0 (expr_text f.1 ++ codes ")") rest) (λ p. refl)

pub indexed_at-returns-in-None : goal.indexed_at-returns-in-None
indexed_at-returns-in-None t c =
    let U : KExpr → List ℕ = λ e. codes "[" ++ (expr_text e ++ codes "]") in
    let S : Arr × KExpr → List ℕ = λ p. array_text p.0 ++ U p.1 in
    none_second Arr KExpr array_text U HasWords ExprHasWords c.args.line.now c.args.at S names_tell_arrays c.in-Some.array c.in-Some.at
    c.in-Some.ensures (rw c.in-None.is at c.in_ok-index.ensures) (λ e rest. refl) (λ p. refl)

pub expr_at-returns-in-Some-2 : goal.expr_at-returns-in-Some-2
expr_at-returns-in-Some-2 t c =
    found_bin c.args.line.now c.args.at c.in-Some-2.operands c.in-Some-2.next c.in_ok-whole.whole c.in_ok-whole.ensures
    (rw c.in-Some-2.is at c.in_ok-operands.ensures)

pub expr_at-returns-in-Some-3 : goal.expr_at-returns-in-Some-3
expr_at-returns-in-Some-3 t c =
    found_min c.args.line.now c.args.at c.in-Some-3.pair c.in-Some-3.next c.in_ok-lesser.lesser c.in_ok-lesser.ensures
    (rw c.in-Some-3.is at c.in_ok-pair.ensures)

pub expr_at-returns-in-Some-4 : goal.expr_at-returns-in-Some-4
expr_at-returns-in-Some-4 t c =
    found_width c.args.line.now c.args.at c.in-Some-4.inner c.in-Some-4.next c.in_ok-outer.outer c.in_ok-outer.ensures
    (rw c.in-Some-4.is at c.in_ok-inner.ensures)

pub expr_at-returns-in_ok-read-in-Some-5 : goal.expr_at-returns-in_ok-read-in-Some-5
expr_at-returns-in_ok-read-in-Some-5 t c =
    found_at c.args.line.now c.args.at c.in-Some-5.place c.in-Some-5.next c.in_ok-read-in-Some-5.read c.in_ok-read-in-Some-5.ensures
    (rw c.in-Some-5.is at c.in_ok-place.ensures)

pub expr_at-returns-in-None : goal.expr_at-returns-in-None
expr_at-returns-in-None t c =
    no_expr c.args.line.now c.args.at
    (record {
      leaf = c.in_default.ensures;
      operands = rw c.in_default-2.is at c.in_ok-operands.ensures;
      least = rw c.in_default-3.is at c.in_ok-pair.ensures;
      width = rw c.in_default-4.is at c.in_ok-inner.ensures;
    }) (rw c.in-None.is at c.in_ok-place.ensures)
