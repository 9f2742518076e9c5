use Rattle.std.proofs.Common.{◌≡◌, take, drop, ap, ◌∙◌, refl, rules, arith}
use Rattle.std.proofs.lemmas.List.{take_rest}
use Rattle.std.proofs.lemmas.Grind.{common_steps}
use Rattle.outside.proofs.FilesByName.{rest_of-read}
use Rattle.outside.proofs.memory_files.MemoryFilesFolder.read.Goals as goal

pub returns-clause-read : goal.returns-clause-read
returns-clause-read c =
    let e : take c.copy_front-n.result c.copy_front-n.new.buf ≡ take c.copy_front-n.result
    (drop c.args.self.now.taken c.args.self.now.text.items) =
    c.copy_front-n.ensures.copied
    ∙ ap (take c.copy_front-n.result) (take_rest c.deref.result.now c.args.self.now.taken
    ∙ ap (drop c.args.self.now.taken) c.deref.ensures.value) in
    let rest = rest_of-read c.args.self.now.reading c.args.self.now.text.items c.args.self.now.taken c.copy_front-n.result _ e in
    record {
      within = grind arith;
      rest_is = rest;
      ends = grind (arith, common_steps);
      ended = grind (arith, common_steps);
      taken_is = refl;
      given_is = c.extend.ensures;
      reading_is = refl;
      read_faults_are = refl;
      faulted_is = refl;
      wants_are = refl;
      keeps_writing = search rules;
    }
