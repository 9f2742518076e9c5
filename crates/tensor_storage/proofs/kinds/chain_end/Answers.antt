use Rattle.std.specs.Prelude.{◌≡◌, suc, ◌+◌, drop}
use Rattle.std.proofs.Common.{◌∙◌, sym, ap, arith, add-one}
use Rattle.format_spec.specs.declared.format.FormatLevel.{FormatLevel}
use Rattle.level_core.specs.declared.letter.Letter.TheVariants.{Dense}
use Rattle.format_spec.specs.Formats.{letters_of}
use Rattle.tensor_storage.specs.Chains.{chain_length}
use Rattle.tensor_storage.proofs.Chains.{chain_here, chain_more, chain_past}
use Rattle.tensor_storage.proofs.kinds.chain_end.Goals as goal

none : FormatLevel
none = record { letter = Dense; mode = 0 }

pub returns-then-props_of : goal.returns-then-props_of
unfolding none
returns-then-props_of c =
    let k = chain_here c.args.format.now c.loop-end.end none c.loop-end-test.true
    (sym (ap (λ p. p.unique) c.props_of.ensures) ∙ c.if-props_of.true) in
    let i = c.loop-end.invariant.1 in omega (arith, k, i)

pub loop-end-preserved : goal.loop-end-preserved
unfolding none
loop-end-preserved c =
    let k = chain_more c.args.format.now c.loop-end.end none c.loop-end-test.true
    (sym (ap (λ p. p.unique) c.props_of.ensures) ∙ c.if-props_of.false) in
    let i = c.loop-end.invariant.1 in
    let t = c.loop-end-test.true in
    let same : chain_length (drop (c.loop-end.end + 1) (letters_of c.args.format.now))
    ≡ chain_length (drop (suc c.loop-end.end) (letters_of c.args.format.now)) =
    ap (λ n. chain_length (drop n (letters_of c.args.format.now))) (add-one c.loop-end.end) in
    (omega (arith, t), omega (arith, k, i, same))

pub returns : goal.returns
returns c =
    let k = chain_past c.args.format.now c.loop-end.end c.loop-end-test.false in
    let i = c.loop-end.invariant.1 in omega (arith, k, i)
