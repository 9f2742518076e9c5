use Rattle.std.proofs.Common.{◌∙◌, sym, subst}
use Rattle.kernel_code.specs.declared.syntax.KExpr.{Bin}
use Rattle.kernel_code.specs.declared.syntax.KStmt.{Combine, Set}
use Rattle.simplifier.specs.Same.{SameValue}
use Rattle.simplifier.proofs.CodeLemmas.{same_combine, same_words, added, added_simple}
use Rattle.simplifier.proofs.steps.add_combine.Goals as goal

pub returns-in_ok-words-clause-same : goal.returns-in_ok-words-clause-same
returns-in_ok-words-clause-same g c =
    let over = g.S.Semiring.arithmetic in
    let ring_is = g.met.S.Semiring.ring_is (sym c.is_ring.ensures ∙ c.if-is_ring.true) in
    let first = c.in_ok-e in
    let second = c.in_ok-f in
    let words = c.in_ok-words in
    let same = subst (λ op. SameValue words.words (Bin op first.e second.f)) c.operator_for.ensures words.ensures.same in
    added over c.push.result c.push.new.self c.args.out.now (Set c.args.x words.words)
    (Combine c.args.x c.args.op c.args.e.now c.args.f.now) c.push.ensures.ok
    (same_words over c.args.x c.args.op first.e second.f words.words c.args.e.now c.args.f.now ring_is same first.ensures.same
    second.ensures.same)

pub returns-in_ok-words-clause-simple : goal.returns-in_ok-words-clause-simple
returns-in_ok-words-clause-simple g c =
    let words = c.in_ok-words in
    added_simple g.S.Semiring.arithmetic c.push.result c.push.new.self c.args.out.now (Set c.args.x words.words) c.push.ensures.ok
    (words.ensures.folded c.in_ok-e.ensures.folded c.in_ok-f.ensures.folded)

pub returns-else-is_ring-clause-same : goal.returns-else-is_ring-clause-same
returns-else-is_ring-clause-same g c =
    let over = g.S.Semiring.arithmetic in
    let first = c.in_ok-e in
    let second = c.in_ok-f in
    let push = c.push-else-is_ring in
    let new = Combine c.args.x c.args.op first.e second.f in
    let old = Combine c.args.x c.args.op c.args.e.now c.args.f.now in
    added over push.result push.new.self c.args.out.now new old push.ensures.ok
    (same_combine over c.args.x c.args.op first.e second.f c.args.e.now c.args.f.now first.ensures.same second.ensures.same)

pub returns-else-is_ring-clause-simple : goal.returns-else-is_ring-clause-simple
returns-else-is_ring-clause-simple g c =
    let first = c.in_ok-e in
    let second = c.in_ok-f in
    let push = c.push-else-is_ring in
    let alone = g.met.S.Semiring.ring_alone (sym c.is_ring.ensures ∙ c.if-is_ring.false) in
    added_simple g.S.Semiring.arithmetic push.result push.new.self c.args.out.now (Combine c.args.x c.args.op first.e second.f)
    push.ensures.ok (alone, (first.ensures.folded, second.ensures.folded))
