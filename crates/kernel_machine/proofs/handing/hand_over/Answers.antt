use Rattle.std.proofs.Common.{◌≡◌, ◌∙◌, ◌+◌, ◌-◌, ◌<◌, ◌≤◌, length, sym, ap, subst, arith}
use Rattle.std.specs.Prelude.{slice_set}
use Rattle.storage_builder.specs.Building.{Building, building}
use Rattle.kernel_interpreter.specs.Store.{state_of}
use Rattle.kernel_machine.proofs.HandedParts.{Handing, handing_none, handing_more, handing_done}
use Rattle.kernel_machine.proofs.handing.hand_over.Goals as goal

pub loop-number-init : goal.loop-number-init
loop-number-init c = handing_none c.args.builder.now (state_of c.args.machine.now).arrays

pub loop-number-preserved : goal.loop-number-preserved
loop-number-preserved c =
    let l = c.loop-number in
    let n = l.number in
    let old = c.args.builder.now in
    let b = l.builder in
    let before = (state_of c.args.machine.now).arrays in
    let order = c.requires.order in
    let many = c.requires.long in
    let long = l.invariant.long in
    let minus : n + 1 - 1 ≡ n = omega arith in
    let short : n < length b.parts = omega (arith, order, many, long) in
    let words = c.taken_words-words.result in
    let made : c.hand_over.new.self ≡ building b.format b.sizes (slice_set b.parts n words) =
    c.hand_over.ensures ∙ ap (λ k. building b.format b.sizes (slice_set b.parts k words)) minus in
    subst (λ (x : Building). Handing old before (n + 1) x (state_of c.taken_words-words.new.machine).arrays) (sym made)
    (handing_more old before n b (state_of l.machine).arrays (state_of c.taken_words-words.new.machine).arrays words
    l.invariant short c.taken_words-words.ensures.words c.taken_words-words.ensures.others)

pub returns : goal.returns
returns c =
    let l = c.loop-number in
    let order = c.requires.order in
    let all : length c.args.builder.now.format ≤ l.number = omega (arith, order) in
    handing_done c.args.builder.now (state_of c.args.machine.now).arrays l.number l.builder (state_of l.machine).arrays l.invariant all
