use Rattle.std.proofs.Common.{◌≡◌, ℕ, List, [], ◌++◌, take, drop, length, ap, sym, ◌∙◌, subst, append_assoc, append-nil, ◌∷◌, refl, arith}
use Rattle.std.proofs.lemmas.Bool.{eqb-true}
use Rattle.std.proofs.lemmas.List.{take-append-drop}
use Rattle.mtx_io.specs.Progress.{IsStage}
use Rattle.mtx_io.specs.MtxReader.{EndsEntry}
use Rattle.mtx_io.specs.Reader.{IsReadSoFar}
use Rattle.mtx_io.proofs.EndedEntries.{ends_behind, on_err}
use Rattle.mtx_io.proofs.ReaderLaws.{bad_passes}
use Rattle.mtx_io.proofs.pieces.take_piece.Goals as goal

pub returns-then-is_bad-clause-read : goal.returns-then-is_bad-clause-read
returns-then-is_bad-clause-read g c = λ fed read.
    let a = g.S.Semiring.arithmetic in
    let has_minus = g.S.Semiring.has_minus in
    let signed = g.S.Semiring.is_signed in
    let order = c.args.entries.now.order in
    let taken = c.loop-rest.invariant.read.0 in
    let rest = c.loop-rest.rest.now in
    let text = c.loop-rest.lines.text in
    let entries = c.loop-rest.entries.list in
    subst (λ (all : List ℕ). IsReadSoFar a has_minus signed order all text entries c.loop-rest.stage)
    (append_assoc fed taken rest ∙ ap (λ (piece : List ℕ). fed ++ piece) (sym c.loop-rest.invariant.read.1))
    (bad_passes a has_minus signed order (fed ++ taken) rest text text entries entries c.loop-rest.stage
    (sym c.is_bad.ensures ∙ c.if-is_bad.true) (c.loop-rest.invariant.read.2 fed read))

pub loop-rest-preserved : goal.loop-rest-preserved
loop-rest-preserved g c =
    let a = g.S.Semiring.arithmetic in
    let has_minus = g.S.Semiring.has_minus in
    let signed = g.S.Semiring.is_signed in
    let order = c.args.entries.now.order in
    let taken = c.loop-rest.invariant.read.0 in
    let rest = c.loop-rest.rest.now in
    let n = c.in_ok-n.n in
    let step = subst (λ (k : ℕ). (fed : List ℕ)
    → IsReadSoFar a has_minus signed k fed c.loop-rest.lines.text c.loop-rest.entries.list c.loop-rest.stage
    → IsReadSoFar a has_minus signed k (fed ++ take n rest) c.take_more.new.lines.text c.take_more.new.entries.list c.in_ok-n.after)
    c.loop-rest.invariant.order c.in_ok-n.ensures.read in
    record {
      order = c.in_ok-n.ensures.order ∙ c.loop-rest.invariant.order;
      stage = subst (λ (k : ℕ). IsStage has_minus k c.take_more.new.entries.list c.in_ok-n.after) c.loop-rest.invariant.order
          c.in_ok-n.ensures.stage;
      read = (
        taken ++ take n rest,
        c.loop-rest.invariant.read.1 ∙ ap (λ (back : List ℕ). taken ++ back) (sym (take-append-drop n rest))
            ∙ sym (append_assoc taken (take n rest) (drop n rest))
            ∙ ap (λ (back : List ℕ). (taken ++ take n rest) ++ back) (sym c.split_at.ensures.back),
        λ fed read. subst (λ
            (all : List ℕ). IsReadSoFar a has_minus signed order all c.take_more.new.lines.text c.take_more.new.entries.list
            c.in_ok-n.after) (append_assoc fed taken (take n rest)) (step (fed ++ taken) (c.loop-rest.invariant.read.2 fed read)),
      );
    }

nothing_left : (xs : List ℕ) → length xs ≡ 0 → xs ≡ []
nothing_left [] h = refl
nothing_left (x ∷ xs) h = absurd (omega arith)

pub returns-clause-read : goal.returns-clause-read
returns-clause-read g c = λ fed read.
    let a = g.S.Semiring.arithmetic in
    let has_minus = g.S.Semiring.has_minus in
    let signed = g.S.Semiring.is_signed in
    let taken = c.loop-rest.invariant.read.0 in
    let rest = c.loop-rest.rest.now in
    let none = nothing_left rest (eqb-true (length rest) 0 (sym c.is_empty.ensures ∙ c.loop-rest-test.false)) in
    let whole : taken ≡ c.args.piece.now =
    sym (c.loop-rest.invariant.read.1 ∙ ap (λ (back : List ℕ). taken ++ back) none ∙ append-nil taken) in
    subst (λ (all : List ℕ). IsReadSoFar a has_minus signed c.args.entries.now.order
    (fed ++ all) c.loop-rest.lines.text c.loop-rest.entries.list
    c.loop-rest.stage) whole
    (c.loop-rest.invariant.read.2 fed read)

pub returns-in_err-n-clause-ended : goal.returns-in_err-n-clause-ended
returns-in_err-n-clause-ended g c =
    let a = g.S.Semiring.arithmetic in
    let has_minus = g.S.Semiring.has_minus in
    let signed = g.S.Semiring.is_signed in
    let order = c.args.entries.now.order in
    let taken = c.loop-rest.invariant.read.0 in
    let rest = c.loop-rest.rest.now in
    let text = c.loop-rest.lines.text in
    let entries = c.loop-rest.entries.list in
    let stage = c.loop-rest.stage in
    let ended : (fed : List ℕ) → IsReadSoFar a has_minus signed order fed c.args.lines.now.text c.args.entries.now.list c.args.stage
    → EndsEntry a has_minus signed order fed c.args.piece.now = λ fed read.
    let step = subst (λ (k : ℕ). IsReadSoFar a has_minus signed k (fed ++ taken) text entries stage
    → EndsEntry a has_minus signed k (fed ++ taken) rest)
    c.loop-rest.invariant.order (c.in_err-n.ensures.ended (fed ++ taken)) in
    let ends = ends_behind a has_minus signed order fed taken rest (step (c.loop-rest.invariant.read.2 fed read)) in
    subst (λ (all : List ℕ). EndsEntry a has_minus signed order fed all) (sym c.loop-rest.invariant.read.1) ends in
    on_err _ _ ended
