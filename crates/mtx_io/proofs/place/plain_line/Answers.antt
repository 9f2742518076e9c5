use Rattle.std.proofs.Common.{sym}
use Rattle.mtx_io.proofs.PlainLaws.{two_of}
use Rattle.mtx_io.proofs.place.plain_line.Goals as goal

pub returns-clause-numbers : goal.returns-clause-numbers
returns-clause-numbers c = sym (two_of c.args.numbers.now c.requires)
