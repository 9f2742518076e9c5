use Rattle.std.proofs.Common.{below_more, arith, length}
use Rattle.outside.proofs.FilesByName.{told_none, name_found, name_missed}
use Rattle.outside.specs.MemoryFile.{IsNewName}
use Rattle.outside.proofs.memory_list.position.Goals as goal

pub returns-then-eq : goal.returns-then-eq
returns-then-eq c = record {
  named = name_found _ _ c.index-files-i.result _ _ _ c.loop-i-test.true c.index-files-i.is c.as_str.ensures.value c.eq.ensures
      c.if-eq.true;
  before = c.loop-i.invariant;
}

pub loop-i-preserved : goal.loop-i-preserved
loop-i-preserved c =
    below_more _ _ c.loop-i.invariant
    (name_missed _ _ c.index-files-i.result _ _ _ c.loop-i-test.true c.index-files-i.is c.as_str.ensures.value c.eq.ensures c.if-eq.false)

pub returns : goal.returns
returns c =
    let new : IsNewName c.args.files.now (length c.args.files.now) c.args.name.now = λ k b. c.loop-i.invariant k (omega arith) in
    (told_none _ _ new, new)
