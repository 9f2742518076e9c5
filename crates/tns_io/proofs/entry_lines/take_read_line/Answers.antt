use Rattle.std.proofs.Common.{◌≡◌, ℕ, ℤ, Bool, false, List, length, Option, Some, Ok, IfSome, sym, subst, rules, w64}
use Rattle.std.proofs.lemmas.Int.{to_z-of_z}
use mir.Val.{SFits}
use Rattle.text_lines.specs.Cutting.{is_long}
use Rattle.text_lines.specs.Plain.{AreNumbers}
use Rattle.text_lines.specs.Tokens.{tokens}
use Rattle.tns_io.specs.Fields.{IsEntryOf}
use Rattle.tns_io.specs.Reading.{Reading, reading}
use Rattle.tns_io.specs.Reading.Reading.{Read}
use Rattle.tns_io.specs.ReadSoFar.{Takes}
use Rattle.tns_io.proofs.PlainLaws.{plain_is_read}
use Rattle.tns_io.proofs.entry_lines.take_read_line.Goals as goal

-- a line whose numbers are those of an entry is read as that
is_read : (signed : Bool) (order : ℕ) (line numbers coords : List ℕ) (told : Option ℤ) (value passed : ℤ) (word : ℕ)
    → is_long line ≡ false → length numbers ≡ order → IfSome told (AreNumbers (tokens line) numbers) → told ≡ Some value → passed ≡ value
    → ((ts : List (List ℕ)) → AreNumbers ts numbers passed → IsEntryOf signed (length numbers) ts coords (Ok word))
    → reading signed order line ≡ Read (record { coords = coords; value = word })
is_read signed order line numbers coords told value passed word short long are told_is same entry =
    let here : AreNumbers (tokens line) numbers value =
    subst (λ (v : Option ℤ). IfSome v (AreNumbers (tokens line) numbers)) told_is are in
    subst (λ (n : ℕ). reading signed n line ≡ Read (record { coords = coords; value = word })) long
    (plain_is_read signed (length numbers) line coords word short
    (entry (tokens line) (subst (λ (z : ℤ). AreNumbers (tokens line) numbers z) (sym same) here)))

pub returns-in-Ok-clause-takes : goal.returns-in-Ok-clause-takes
returns-in-Ok-clause-takes c =
    let fits : SFits w64 c.in-Some.value = search rules in
    let is = is_read c.args.signed c.args.entries.now.order c.args.line.now c.args.numbers.now c.entry_of_numbers.new.numbers c.args.value
    c.in-Some.value _ c.in-Some-entry_of_numbers.word c.requires.short c.requires.order c.requires.numbers c.in-Some.is
    (to_z-of_z w64 c.in-Some.value fits) c.in-Some-entry_of_numbers.ensures in
    subst (λ (r : Reading). Takes r c.args.entries.now.list c.push.new.self.list) (sym is) c.in-Ok.ensures.ok

pub returns-in-Err-clause-fails : goal.returns-in-Err-clause-fails
returns-in-Err-clause-fails c =
    let fits : SFits w64 c.in-Some.value = search rules in (
      record { coords = c.entry_of_numbers.new.numbers; value = c.in-Some-entry_of_numbers.word },
      is_read c.args.signed c.args.entries.now.order c.args.line.now c.args.numbers.now c.entry_of_numbers.new.numbers c.args.value
          c.in-Some.value _ c.in-Some-entry_of_numbers.word c.requires.short c.requires.order c.requires.numbers c.in-Some.is
          (to_z-of_z w64 c.in-Some.value fits) c.in-Some-entry_of_numbers.ensures,
    )
