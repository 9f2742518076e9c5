use Rattle.std.proofs.Common.{◌≡◌, ◌∷◌, ◌-◌, length, sym, ◌∙◌, ap, refl}
use Rattle.index_notation.specs.Tokens.{behind_blanks}
use Rattle.notation_reader.proofs.Scanning.{scan_starts, scan_shortens, scan_steps, no_blank_before}
use Rattle.notation_reader.proofs.scanner.symbols_of.Goals as goal

pub loop-first-init : goal.loop-first-init
loop-first-init c = scan_starts
    (length c.args.text.now) c.args.text.now c.skip_blanks-rest.result.now c.new-symbols.result refl c.new-symbols.ensures
    c.skip_blanks-rest.ensures

pub front_token-requires-clause-no_blank : goal.front_token-requires-clause-no_blank
front_token-requires-clause-no_blank c =
    let e : c.loop-first.rest.now ≡ c.in-Some.first.now ∷ c.in-Some.field-0-1.now = c.in-Some.ensures.cases.0 in
    no_blank_before c.in-Some.first.now c.in-Some.field-0-1.now (ap behind_blanks (sym e) ∙ c.loop-first.invariant.no_blank ∙ e)

pub loop-first-smaller : goal.loop-first-smaller
loop-first-smaller c =
    let found = rw c.in-Some-2.is at c.in_ok-token.ensures in
    scan_shortens c.loop-first.rest.now c.skip_blanks-rest-in-Some-2.result.now c.in-Some-2.used found.0 found.1
    c.skip_blanks-rest-in-Some-2.ensures

pub loop-first-preserved : goal.loop-first-preserved
loop-first-preserved c =
    let found = rw c.in-Some-2.is at c.in_ok-token.ensures in
    scan_steps (length c.args.text.now) c.args.text.now c.loop-first.rest.now c.skip_blanks-rest-in-Some-2.result.now c.loop-first.symbols
    c.push.new.self c.in-Some-2.token c.in-Some-2.used
    (length c.args.text.now - length c.loop-first.rest.now) c.loop-first.invariant found.2 refl c.in_ok-push-in-Some-2.ensures.ok
    c.skip_blanks-rest-in-Some-2.ensures
