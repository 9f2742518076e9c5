use Rattle.std.proofs.Common.{◌≡◌, ◌∙◌, ℕ, Some, sym, arith}
use Rattle.coordinate_lists.proofs.Spans.{group_ends}
use Rattle.coordinate_lists.proofs.indices.Indices.group_end.Goals as goal

some_apart : (x y : ℕ) → (x ≡ y → ⊥) → Some x ≡ Some y → ⊥
some_apart x y h same = h (cc)

-- a position with another coordinate
pub returns-then-get-coord : goal.returns-then-get-coord
returns-then-get-coord c = λ s e same stands.
    group_ends c.args.self.now.items s e c.args.pos c.loop-next.next c.get-coord.result (omega (arith, same, c.requires.inside)) stands
    (omega (arith, c.loop-next.auto.next)) (omega (arith, same, c.loop-next-test.true)) c.loop-next.invariant
    (λ _ other. some_apart c.get.result c.get-coord.result c.if-get-coord.true (sym c.get.ensures ∙ other))

-- no other coordinate up to the end
pub returns : goal.returns
returns c = λ s e same stands.
    group_ends c.args.self.now.items s e c.args.pos c.args.end c.get-coord.result
    (omega (arith, same, c.requires.inside)) stands c.requires.first (omega (arith, same))
    (λ q from before. c.loop-next.invariant q from (omega (arith, before, c.loop-next-test.false)))
    (λ more. absurd (omega (arith, same, more)))
