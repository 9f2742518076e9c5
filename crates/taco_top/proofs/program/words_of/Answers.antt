use Rattle.std.proofs.Common.{◌≡◌, List, [], ◌∷◌, ◌++◌, length, ap, sym, ◌∙◌, refl, append_assoc, arith}
use Rattle.std.proofs.lemmas.List.{append-nil}
use Rattle.std.specs.Vec.Iter.{into_iter_items}
use Rattle.taco_top.specs.Program.{words_in}
use Rattle.taco_top.proofs.program.words_of.Goals as goal
use Rattle.taco_top.proofs.program.words_of.Goals.{in-Ok+in-None, in-Err+else-eq}

none_left : {X : Type 0} (xs : List X) → length xs ≡ 0 → xs ≡ []
none_left [] h = refl
none_left (x ∷ xs) h = absurd (omega arith)

pub loop-word-init : goal.loop-word-init
loop-word-init c =
    ap words_in c.in-Ok.is ∙ ap into_iter_items (sym c.into_iter-word-iterator.ensures.into_iter_gives)
    ∙ ap (λ ws. ws ++ into_iter_items c.into_iter-word-iterator.result) (sym c.new-words.ensures.items)

pub loop-word-preserved : goal.loop-word-preserved
loop-word-preserved c =
    c.loop-word.invariant ∙ ap (λ ws. c.loop-word.words.items ++ ws) c.in-Some.ensures.steps.0
    ∙ sym (append_assoc c.loop-word.words.items (c.in-Some.word ∷ []) (into_iter_items c.next.new.self))
    ∙ ap (λ ws. ws ++ into_iter_items c.next.new.self) (sym c.in_ok-push-in-Ok.ensures.items)

pub returns : goal.returns
returns c = elim c.match-args.branch [
  | in-Ok+in-None w ↦ rw w.words-is (sym (w.loop-word.invariant
      ∙ ap (λ ws. w.loop-word.words.items ++ ws)
      (none_left (into_iter_items w.loop-word.word-iterator) (omega
      (arith, w.in-None.ensures.steps.0, w.loop-word.word-iterator.rest.ok.0)))
      ∙ append-nil w.loop-word.words.items))
  | in-Err+else-eq w ↦ rw w.words-is (c.new-words.ensures.items ∙ sym (ap words_in w.in-Err.is))
]
