use Rattle.jump_threading.proofs.LeadLemmas.{leaves_combine, leaves_set}
use Rattle.jump_threading.proofs.leading.leaves_value.Goals as goal

pub returns-in-Set : goal.returns-in-Set
returns-in-Set c = λ h. leaves_set c.args.s.now c.in-Set.x c.in-Set.field-1 c.args.e.now c.in-Set.is (c.avoids.ensures h)

pub returns-in-Combine : goal.returns-in-Combine
returns-in-Combine c =
    let s = c.in-Combine in
    λ h. leaves_combine c.args.s.now s.x s.field-1 s.field-2 s.field-3 c.args.e.now s.is (c.avoids-in-Combine.ensures h)
