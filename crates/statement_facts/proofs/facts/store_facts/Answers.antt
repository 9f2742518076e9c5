use Rattle.std.proofs.Common.{◌∙◌, []}
use Rattle.statement_facts.proofs.Stores.{any_default, none_true, true_of_all, more_true}
use Rattle.statement_facts.proofs.facts.store_facts.Goals as goal

pub loop-tensor-init : goal.loop-tensor-init
loop-tensor-init c = none_true c.args.statement.now c.args.formats.now c.new-facts.result c.new-facts.ensures

pub loop-tensor-preserved : goal.loop-tensor-preserved
loop-tensor-preserved c =
    let formats = c.args.formats.now in
    let tensor = c.loop-tensor.tensor in
    let format = c.index-formats-tensor.result in
    more_true c.args.statement.now formats tensor format c.loop-tensor.facts c.in_ok-more.more c.append.new.self
    (c.index-formats-tensor.is ∙ any_default formats tensor format [] c.loop-tensor-test.true) c.loop-tensor.invariant
    c.in_ok-more.ensures c.in_ok-append.ensures.ok

pub returns : goal.returns
returns c = true_of_all c.args.statement.now c.args.formats.now c.loop-tensor.facts c.loop-tensor.invariant
