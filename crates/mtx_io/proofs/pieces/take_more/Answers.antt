use Rattle.std.proofs.Common.{ℕ, List, ◌++◌, take, ap, sym, ◌∙◌, subst, append_assoc, take-add}
use Rattle.std.proofs.lemmas.List.{take-append-drop}
use Rattle.mtx_io.specs.MtxReader.{EndsEntry}
use Rattle.mtx_io.specs.Reader.{IsReadSoFar}
use Rattle.mtx_io.proofs.EndedEntries.{ends_behind, on_err}
use Rattle.mtx_io.proofs.pieces.take_more.Goals as goal

pub returns-clause-read : goal.returns-clause-read
returns-clause-read g c = λ fed read.
    let a = g.S.Semiring.arithmetic in
    let has_minus = g.S.Semiring.has_minus in
    let signed = g.S.Semiring.is_signed in
    let order = c.args.entries.now.order in
    let piece = c.args.piece.now in
    let n = c.in_ok-n.n in
    let m = c.in_ok-behind.behind in
    let rest = c.split_at.result.1.now in
    let new = c.take_plain_lines.new in
    let step = subst (λ (k : ℕ). (fed : List ℕ)
    → IsReadSoFar a has_minus signed k fed c.take_step.new.lines.text c.take_step.new.entries.list c.in_ok-n.after
    → IsReadSoFar a has_minus signed k (fed ++ take m rest) new.lines.text new.entries.list c.in_ok-behind.last)
    c.in_ok-n.ensures.order c.in_ok-behind.ensures.read in
    subst (λ (all : List ℕ). IsReadSoFar a has_minus signed order all new.lines.text new.entries.list c.in_ok-behind.last)
    (append_assoc fed (take n piece) (take m rest) ∙ ap (λ (back : List ℕ). fed ++ back)
    (ap (λ (r : List ℕ). take n piece ++ take m r) c.split_at.ensures.back ∙ sym (take-add n m piece)))
    (step (fed ++ take n piece) (c.in_ok-n.ensures.read fed read))

pub returns-in_err-behind-clause-ended : goal.returns-in_err-behind-clause-ended
returns-in_err-behind-clause-ended g c =
    let a = g.S.Semiring.arithmetic in
    let has_minus = g.S.Semiring.has_minus in
    let signed = g.S.Semiring.is_signed in
    let order = c.args.entries.now.order in
    let piece = c.args.piece.now in
    let n = c.in_ok-n.n in
    let rest = c.split_at.result.1.now in
    let ended : (fed : List ℕ) → IsReadSoFar a has_minus signed order fed c.args.lines.now.text c.args.entries.now.list c.args.stage
    → EndsEntry a has_minus signed order fed piece = λ fed read.
    let step = subst (λ (k : ℕ). IsReadSoFar a has_minus signed k (fed ++ take n piece) c.take_step.new.lines.text
    c.take_step.new.entries.list c.in_ok-n.after → EndsEntry a has_minus signed k (fed ++ take n piece) rest)
    c.in_ok-n.ensures.order (c.in_err-behind.ensures.ended (fed ++ take n piece)) in
    let ends = ends_behind a has_minus signed order fed (take n piece) rest (step (c.in_ok-n.ensures.read fed read)) in
    subst (λ (all : List ℕ). EndsEntry a has_minus signed order fed all)
    (ap (λ (back : List ℕ). take n piece ++ back) c.split_at.ensures.back ∙ take-append-drop n piece) ends in
    on_err _ _ ended
