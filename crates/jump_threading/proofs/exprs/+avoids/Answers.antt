use Rattle.jump_threading.proofs.LeadLemmas.{avoids_at, avoids_bin, avoids_min, avoids_width}
use Rattle.jump_threading.proofs.exprs.+avoids.Goals as goal

pub returns-in-At : goal.returns-in-At
returns-in-At t c =
    let s = c.in-At in
    λ h. avoids_at c.args.x c.args.e.now s.i c.get.result.now s.field-0 s.is c.get.ensures (c.avoids.ensures h)

pub returns-then-avoids : goal.returns-then-avoids
returns-then-avoids t c =
    let s = c.in-Bin in
    λ h. avoids_bin c.args.x c.args.e.now s.a s.b c.get-in-Bin.result.now c.get-then-avoids.result.now s.field-0 s.is c.get-in-Bin.ensures
    c.get-then-avoids.ensures (c.avoids-in-Bin.ensures c.if-avoids.true) (c.avoids-then-avoids.ensures h)

pub returns-then-avoids-2 : goal.returns-then-avoids-2
returns-then-avoids-2 t c =
    let s = c.in-Min in
    λ h. avoids_min c.args.x c.args.e.now s.a s.b c.get-in-Min.result.now c.get-then-avoids-2.result.now s.is c.get-in-Min.ensures
    c.get-then-avoids-2.ensures (c.avoids-in-Min.ensures c.if-avoids-2.true) (c.avoids-then-avoids-2.ensures h)

pub returns-in-Width : goal.returns-in-Width
returns-in-Width t c =
    let s = c.in-Width in
    λ h. avoids_width c.args.x c.args.e.now s.e c.get-in-Width.result.now s.is c.get-in-Width.ensures (c.avoids-in-Width.ensures h)
