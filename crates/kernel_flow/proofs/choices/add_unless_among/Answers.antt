use Rattle.kernel_flow.proofs.ChoiceLemmas.{gives_added}
use Rattle.kernel_flow.proofs.choices.add_unless_among.Goals as goal

pub returns : goal.returns
returns c = gives_added c.push.result c.args.facts.now c.push.new.self c.args.fact c.push.ensures.ok
