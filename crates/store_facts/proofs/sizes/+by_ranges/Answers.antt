use Rattle.std.proofs.Common.{◌∙◌, ap, refl, sym}
use Rattle.kernel_code.specs.declared.syntax.KExpr.{At, Bin, Min, Width}
use Rattle.store_facts.specs.Facts.{Becomes}
use Rattle.store_facts.proofs.CodeLemmas.{if_ok_more}
use Rattle.store_facts.proofs.FactLemmas.{becomes_at, becomes_bin, becomes_min, becomes_now, becomes_then, becomes_width}
use Rattle.store_facts.proofs.sizes.+by_ranges.Goals as goal

pub returns-in_ok-index-in-At : goal.returns-in_ok-index-in-At
returns-in_ok-index-in-At t c =
    let fs = c.args.facts.now in
    let s = c.in-At in
    let new = c.in_ok-index-in-At in
    let part = becomes_now fs s.index c.get.result.now new.index new.index (sym c.get.ensures) refl new.ensures in
    let whole = becomes_now fs c.args.e.now (At s.array s.index) (At s.array new.index) (At s.array new.index) s.is refl
    (becomes_at fs s.array s.index new.index part) in
    if_ok_more c.read.result _ (Becomes fs c.args.e.now) c.read.ensures
    (λ r h. becomes_then fs c.args.e.now (At s.array new.index) r whole h)

pub returns-in_ok-b-in-Bin : goal.returns-in_ok-b-in-Bin
returns-in_ok-b-in-Bin t c =
    let fs = c.args.facts.now in
    let s = c.in-Bin in
    let a = c.in_ok-a-in-Bin in
    let b = c.in_ok-b-in-Bin in
    let first = becomes_now fs s.a c.get-in-Bin.result.now a.a a.a (sym c.get-in-Bin.ensures) refl a.ensures in
    let second = becomes_now fs s.b c.get-in-Bin-2.result.now b.b b.b (sym c.get-in-Bin-2.ensures) refl b.ensures in
    if_ok_more c.binary.result _ (Becomes fs c.args.e.now) c.binary.ensures
    (λ r h. becomes_now fs c.args.e.now (Bin s.op s.a s.b) r (Bin s.op a.a b.b) s.is h (becomes_bin fs s.op s.a s.b a.a b.b first second))

pub returns-in_ok-d-in-Min : goal.returns-in_ok-d-in-Min
returns-in_ok-d-in-Min t c =
    let fs = c.args.facts.now in
    let s = c.in-Min in
    let a = c.in_ok-first-in-Min in
    let b = c.in_ok-second-in-Min in
    let x = c.in_ok-c-in-Min in
    let y = c.in_ok-d-in-Min in
    let first = becomes_now fs s.a c.get-in-Min.result.now a.first a.first (sym c.get-in-Min.ensures) refl a.ensures in
    let second = becomes_now fs s.b c.get-in-Min-2.result.now b.second b.second (sym c.get-in-Min-2.ensures) refl b.ensures in
    becomes_now fs c.args.e.now (Min s.a s.b) (Min x.c y.d) (Min a.first b.second) s.is
    (ap (λ v. Min v y.d) x.ensures ∙ ap (Min a.first) y.ensures)
    (becomes_min fs s.a s.b a.first b.second first second)

pub returns-in_ok-boxed-in-Width : goal.returns-in_ok-boxed-in-Width
returns-in_ok-boxed-in-Width t c =
    let fs = c.args.facts.now in
    let s = c.in-Width in
    let new = c.in_ok-new-in-Width in
    let boxed = c.in_ok-boxed-in-Width in
    let inner = becomes_now fs s.e c.get-in-Width.result.now new.new new.new (sym c.get-in-Width.ensures) refl new.ensures in
    becomes_now fs c.args.e.now (Width s.e) (Width boxed.boxed) (Width new.new) s.is (ap Width boxed.ensures)
    (becomes_width fs s.e new.new inner)
