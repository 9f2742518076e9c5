-- What may be wrong with a line of a `.tns` file.
use Rattle.std.specs.Prelude.{◌≡◌, ℕ, zero, suc, ◌+◌, ℤ, pos, negsuc, Bool, true, false, cond, ◌==◌, nat_lt, List, [], ◌∷◌, length}
use Rattle.std.specs.Prelude.{Option, Some, None}
use Rattle.std.specs.Prelude.{Result, Ok, Err, IfErr, MatchResult, refl}
use Rattle.std.proofs.Common.{subst}
use Rattle.limits.specs.Limits.{greatest_file_coordinate, greatest_line_bytes}
use Rattle.tensor_map.specs.Entries.{Entry, Entries}
use Rattle.text_lines.specs.Lines.{lines}
use Rattle.text_lines.specs.Numbers.{number_of, read_whole_of}
use Rattle.text_lines.specs.Tokens.{tokens}
use Rattle.text_lines.specs.declared.line_kind.LineKind.{LineKind}
use Rattle.text_lines.specs.declared.line_kind.LineKind.TheVariants.{LongLine, Fields, NumRange}
use Rattle.text_lines.specs.declared.num_fault.NumFault.{NumFault}
use Rattle.text_lines.specs.declared.num_fault.NumFault.TheVariants.{NotNumber as NoNumber, NotWhole as NoWhole, NumRange as NoRange}
use Rattle.tns_io.specs.Reading.{is_entry_kind, coordinate_from, coordinate_of, value_from, value_of, value_alone, with_first, entry_of}
use Rattle.tns_io.specs.Reading.{is_comment, Reading, read_or_bad, reading_of_tokens, reading, BadLine, before_others, entries_from}
use Rattle.tns_io.specs.Reading.{entries_of_text}
use Rattle.tns_io.specs.Reading.Reading.{Skipped, Read, Bad}
use Rattle.tns_io.specs.TnsReader.{IsOfEntries, IsRead, Refuses, TnsReader}
use Rattle.tns_io.specs.declared.file_fault.FileFault.{FileFault}
use Rattle.tns_io.specs.declared.file_fault.FileFault.TheVariants.{Line, Memory}

-- a result's kind, if it is refused, is one of a `.tns` line
abbrev kinds : {X : Type 0} → Result X LineKind → Bool
kinds (Ok x) = true
kinds (Err kind) = is_entry_kind kind

abbrev reading_kinds : Reading → Bool
reading_kinds Skipped = true
reading_kinds (Read entry) = true
reading_kinds (Bad kind) = is_entry_kind kind

abbrev list_kinds : Result (List Entry) BadLine → Bool
list_kinds (Ok list) = true
list_kinds (Err bad) = is_entry_kind bad.kind

coordinate_kinds : (number : Option ℕ) → kinds (coordinate_from number) ≡ true
coordinate_kinds None = refl
coordinate_kinds (Some zero) = refl
coordinate_kinds (Some (suc n)) = by (nat_lt n greatest_file_coordinate)
  where
    by : (b : Bool) → kinds (cond b (Ok n) (Err NumRange)) ≡ true
    by true = refl
    by false = refl

value_kinds : (signed : Bool) (value : Result ℤ NumFault) → kinds (value_from signed value) ≡ true
value_kinds signed (Ok (pos n)) = refl
value_kinds true (Ok (negsuc n)) = refl
value_kinds false (Ok (negsuc n)) = refl
value_kinds signed (Err NoNumber) = refl
value_kinds signed (Err NoWhole) = refl
value_kinds signed (Err NoRange) = refl

alone_kinds : (value : Result ℕ LineKind) → kinds value ≡ true → kinds (value_alone value) ≡ true
alone_kinds (Ok v) h = refl
alone_kinds (Err kind) h = h

first_kinds : (first : Result ℕ LineKind) (others : Result Entry LineKind) → kinds first ≡ true → kinds others ≡ true
    → kinds (with_first first others) ≡ true
first_kinds (Err kind) others h g = h
first_kinds (Ok c) (Err kind) h g = g
first_kinds (Ok c) (Ok entry) h g = refl

entry_kinds : (signed : Bool) (ts : List (List ℕ)) → kinds (entry_of signed ts) ≡ true
entry_kinds signed [] = refl
entry_kinds signed (token ∷ []) = alone_kinds (value_of signed token) (value_kinds signed (read_whole_of token))
entry_kinds signed (token ∷ next ∷ more) =
    first_kinds (coordinate_of token) (entry_of signed (next ∷ more)) (coordinate_kinds (number_of token))
    (entry_kinds signed (next ∷ more))

read_kinds : (r : Result Entry LineKind) → kinds r ≡ true → reading_kinds (read_or_bad r) ≡ true
read_kinds (Ok entry) h = refl
read_kinds (Err kind) h = h

tokens_kinds : (signed : Bool) (order : ℕ) (ts : List (List ℕ)) → reading_kinds (reading_of_tokens signed order ts) ≡ true
tokens_kinds signed order [] = refl
tokens_kinds signed order (token ∷ more) = by (is_comment token) (length more == order)
  where
    by : (comment same : Bool)
        → reading_kinds (cond comment Skipped (cond same (read_or_bad (entry_of signed (token ∷ more))) (Bad Fields))) ≡ true
    by true same = refl
    by false true = read_kinds (entry_of signed (token ∷ more)) (entry_kinds signed (token ∷ more))
    by false false = refl

line_kinds : (signed : Bool) (order : ℕ) (line : List ℕ) → reading_kinds (reading signed order line) ≡ true
line_kinds signed order line = by (nat_lt greatest_line_bytes (length line))
  where
    by : (long : Bool) → reading_kinds (cond long (Bad LongLine) (reading_of_tokens signed order (tokens line))) ≡ true
    by true = refl
    by false = tokens_kinds signed order (tokens line)

others_kinds : (number : ℕ) (what : Reading) (others : Result (List Entry) BadLine) → reading_kinds what ≡ true
    → list_kinds others ≡ true → list_kinds (before_others number what others) ≡ true
others_kinds number Skipped others h g = g
others_kinds number (Bad kind) others h g = h
others_kinds number (Read entry) (Ok entries) h g = refl
others_kinds number (Read entry) (Err bad) h g = g

lines_kinds : (signed : Bool) (order number : ℕ) (ls : List (List ℕ)) → list_kinds (entries_from signed order number ls) ≡ true
lines_kinds signed order number [] = refl
lines_kinds signed order number (line ∷ more) =
    others_kinds number (reading signed order line) (entries_from signed order (number + 1) more) (line_kinds signed order line)
    (lines_kinds signed order (number + 1) more)

-- the first bad line of a text is of such a kind
pub bad_kinds : (signed : Bool) (order : ℕ) (text : List ℕ) (number : ℕ) (kind : LineKind)
    → entries_of_text signed order text ≡ Err (record { number = number; kind = kind }) → is_entry_kind kind ≡ true
bad_kinds signed order text number kind is = subst (λ r. list_kinds r ≡ true) is (lines_kinds signed order 1 (lines text))

-- so is that of a refusal
pub refused_kinds : (signed : Bool) (reader : TnsReader) (fault : FileFault) → Refuses signed reader fault → IsOfEntries fault
refused_kinds signed reader (Line line kind) h = bad_kinds signed reader.order reader.text h.1.number kind h.1.bad
refused_kinds signed reader (Memory e) h = tt

pub answered_kinds : (signed : Bool) (reader : TnsReader) (answer : Result Entries FileFault)
    → MatchResult answer (IsRead signed reader) (Refuses signed reader)
    → IfErr answer IsOfEntries
answered_kinds signed reader (Ok entries) h = tt
answered_kinds signed reader (Err fault) h = refused_kinds signed reader fault h
