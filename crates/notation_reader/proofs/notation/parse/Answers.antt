use Rattle.std.proofs.Common.{List, length, ◌≤◌, sym, subst, arith}
use Rattle.limits.specs.Limits.{greatest_text_bytes}
use Rattle.notation_grammar.specs.declared.symbol.PlacedSymbol.{PlacedSymbol}
use Rattle.notation_grammar.specs.Faults.{symbols_of}
use Rattle.notation_reader.specs.Judging.{HasLast}
use Rattle.notation_reader.proofs.NotationLaws.{parsed}
use Rattle.notation_reader.proofs.TreeNumbers.{notation_is_numbered}
use Rattle.notation_reader.proofs.Scanning.{symbols_end}
use Rattle.notation_reader.proofs.notation.parse.Goals as goal

pub read-requires : goal.read-requires
read-requires c =
    subst (λ (ps : List PlacedSymbol). HasLast (symbols_of ps)) (sym c.as_slice-symbols.ensures)
    (symbols_end (length c.as_bytes-bytes.result.now) c.as_bytes-bytes.result.now c.in_ok-placed.placed c.in_ok-placed.ensures)

pub returns-in-Ok-clause-statement : goal.returns-in-Ok-clause-statement
returns-in-Ok-clause-statement c =
    let short : length c.as_bytes-bytes.result.now ≤ greatest_text_bytes =
    omega (arith, c.if-bytes-greatest_bytes_of_text.false, c.greatest_bytes_of_text.ensures) in
    parsed c.args.text.now c.as_bytes-bytes.result.now c.in_ok-placed.placed c.as_slice-symbols.result.now c.in-Ok.reading
    c.accumulates-accumulate.result c.in_ok-number_statement-in-Ok.field-0
    c.as_bytes-bytes.ensures.value short c.in_ok-placed.ensures c.as_slice-symbols.ensures
    (rw c.in-Ok.is at c.in_ok-reading.ensures) c.accumulates-accumulate.ensures c.in_ok-number_statement-in-Ok.ensures

pub returns-in-Ok-clause-numbered : goal.returns-in-Ok-clause-numbered
returns-in-Ok-clause-numbered c =
    let short : length c.as_bytes-bytes.result.now ≤ greatest_text_bytes =
    omega (arith, c.if-bytes-greatest_bytes_of_text.false, c.greatest_bytes_of_text.ensures) in
    notation_is_numbered c.args.text.now c.in_ok-number_statement-in-Ok.field-0
    (parsed c.args.text.now c.as_bytes-bytes.result.now c.in_ok-placed.placed c.as_slice-symbols.result.now c.in-Ok.reading
    c.accumulates-accumulate.result c.in_ok-number_statement-in-Ok.field-0
    c.as_bytes-bytes.ensures.value short c.in_ok-placed.ensures c.as_slice-symbols.ensures
    (rw c.in-Ok.is at c.in_ok-reading.ensures) c.accumulates-accumulate.ensures c.in_ok-number_statement-in-Ok.ensures)
