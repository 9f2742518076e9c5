use Rattle.std.proofs.Common.{◌<◌, sym, ◌∙◌, ap, subst, arith, take, take_all, refl}
use Rattle.std.proofs.lemmas.List.{length-map}
use Rattle.bindings.specs.Tables.{IsBound}
use Rattle.bindings.proofs.Rows.{texts, fault_here, sound_more, texts_more}
use Rattle.bindings.proofs.binding.bind_words.Goals as goal

pub returns-in-Some : goal.returns-in-Some
returns-in-Some c =
    let s = c.args.statement.now in
    let words = c.args.words.now in
    record {
      at = c.loop-at.at;
      word_is = refl;
      within = subst (λ n. c.loop-at.at < n) (sym (length-map words (λ word. word.now))) c.loop-at-test.true;
      before = c.loop-at.invariant.1;
      is = sym (fault_here s words c.loop-at.at _ _ c.in_ok-fault.field-0 c.loop-at-test.true refl
          (c.in_ok-fault.ensures.fault (texts (take c.loop-at.at words)) c.loop-at.invariant.0)) ∙ c.in-Some.is;
    }

pub loop-at-preserved : goal.loop-at-preserved
loop-at-preserved c =
    let s = c.args.statement.now in
    let words = c.args.words.now in
    let bound = c.in_ok-fault.ensures.bound (texts (take c.loop-at.at words)) c.loop-at.invariant.0 c.in_default.is in (
      subst (λ row. IsBound s row c.add.new.self) (texts_more words c.loop-at.at _ _ c.loop-at-test.true refl) bound,
      sound_more s (texts words) c.loop-at.at c.loop-at.invariant.1
          (sym (fault_here s words c.loop-at.at _ _ c.in_ok-fault.field-0 c.loop-at-test.true refl
          (c.in_ok-fault.ensures.fault (texts (take c.loop-at.at words)) c.loop-at.invariant.0)) ∙ c.in_default.is),
    )

pub returns : goal.returns
returns c =
    let words = c.args.words.now in (
      subst (λ row. IsBound c.args.statement.now row c.loop-at.bound)
          (ap texts (take_all c.loop-at.at words c.loop-at-test.false)) c.loop-at.invariant.0,
      λ k lt. c.loop-at.invariant.1 k (omega (arith, lt, c.loop-at-test.false)),
    )
