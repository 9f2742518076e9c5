-- The coordinates of what is read.
use Rattle.std.specs.Prelude.{◌≡◌, ℕ, zero, suc, ◌+◌, ◌<◌, Bool, true, false, cond, ◌==◌, nat_lt, List, [], ◌∷◌, length, All, Option}
use Rattle.std.specs.Prelude.{Some, None, Result, Ok, Err, slice_index_or, refl}
use Rattle.std.proofs.Common.{arith, ap, subst, inl, inr}
use Rattle.std.proofs.lemmas.Bool.{ltb-true}
use Rattle.std.proofs.lemmas.List.Elements.{All-nil, All-cons, All-tail}
use Rattle.limits.specs.Limits.{greatest_file_coordinate}
use Rattle.limits.proofs.Limits.{file_coordinates_are_ranges}
use Rattle.tensor_map.specs.Entries.{Entry, Listed, SameListed}
use Rattle.tensor_map.proofs.Lemmas.{listed_at}
use Rattle.text_lines.specs.Cutting.{is_long}
use Rattle.text_lines.specs.Numbers.{number_of}
use Rattle.text_lines.specs.Tokens.{tokens}
use Rattle.tns_io.specs.Reading.{Reading, coordinate_from, coordinate_of, value_of, value_alone, with_first, entry_of, is_comment}
use Rattle.tns_io.specs.Reading.{read_or_bad, reading_of_tokens, reading, BadLine, before_others, entries_from, entries_of_text}
use Rattle.tns_io.specs.Reading.Reading.{Skipped, Read, Bad}
use Rattle.tns_io.specs.Text.{AreInRange}
use Rattle.tns_io.specs.WrittenLaws.{AreInFile}
use Rattle.text_lines.specs.declared.line_kind.LineKind.{LineKind}
use Rattle.text_lines.specs.declared.line_kind.LineKind.TheVariants.{NumRange, LongLine, Fields}

coordinate_in_file : (number : Option ℕ) (c : ℕ) → coordinate_from number ≡ Ok c → c < greatest_file_coordinate
coordinate_in_file None c e = absurd (cc)
coordinate_in_file (Some zero) c e = absurd (cc)
coordinate_in_file (Some (suc n)) c e = by (nat_lt n greatest_file_coordinate) refl e
  where
    by : (b : Bool) → nat_lt n greatest_file_coordinate ≡ b → cond b (Ok n) (Err NumRange) ≡ Ok c → c < greatest_file_coordinate
    by false t h = absurd (cc)
    by true t h = let same : n ≡ c = cc in let below = ltb-true n greatest_file_coordinate t in omega arith

alone_in_file : (value : Result ℕ LineKind) (entry : Entry) → value_alone value ≡ Ok entry → AreInFile entry.coords
alone_in_file (Err kind) entry e = absurd (cc)
alone_in_file (Ok v) entry e =
    let same : record { coords = []; value = v } ≡ entry = cc in
    subst (λ (x : Entry). AreInFile x.coords) same (All-nil (λ c. c < greatest_file_coordinate))

first_in_file : (first : Result ℕ LineKind) (others : Result Entry LineKind) (entry : Entry) → with_first first others ≡ Ok entry
    → ((c : ℕ) → first ≡ Ok c → c < greatest_file_coordinate) → ((x : Entry) → others ≡ Ok x → AreInFile x.coords) → AreInFile entry.coords
first_in_file (Err kind) others entry e f g = absurd (cc)
first_in_file (Ok c) (Err kind) entry e f g = absurd (cc)
first_in_file (Ok c) (Ok x) entry e f g =
    let same : record { coords = c ∷ x.coords; value = x.value } ≡ entry = cc in
    subst (λ (y : Entry). AreInFile y.coords) same (All-cons (λ n. n < greatest_file_coordinate) c x.coords (f c refl) (g x refl))

entry_in_file : (signed : Bool) (ts : List (List ℕ)) (entry : Entry) → entry_of signed ts ≡ Ok entry → AreInFile entry.coords
entry_in_file signed [] entry e = absurd (cc)
entry_in_file signed (token ∷ []) entry e = alone_in_file (value_of signed token) entry e
entry_in_file signed (token ∷ next ∷ more) entry e =
    first_in_file (coordinate_of token) (entry_of signed (next ∷ more)) entry e (λ c h. coordinate_in_file (number_of token) c h)
    (λ x h. entry_in_file signed (next ∷ more) x h)

read_in_file : (r : Result Entry LineKind) (entry : Entry) → read_or_bad r ≡ Read entry → r ≡ Ok entry
read_in_file (Ok x) entry e = let same : x ≡ entry = cc in ap Ok same
read_in_file (Err kind) entry e = absurd (cc)

tokens_in_file : (signed : Bool) (order : ℕ) (ts : List (List ℕ)) (entry : Entry) → reading_of_tokens signed order ts ≡ Read entry
    → AreInFile entry.coords
tokens_in_file signed order [] entry e = absurd (cc)
tokens_in_file signed order (token ∷ more) entry e = by (is_comment token) (length more == order) e
  where
    by : (comment long : Bool)
        → cond comment Skipped (cond long (read_or_bad (entry_of signed (token ∷ more))) (Bad Fields)) ≡ Read entry
        → AreInFile entry.coords
    by true long h = absurd (cc)
    by false false h = absurd (cc)
    by false true h = entry_in_file signed (token ∷ more) entry (read_in_file (entry_of signed (token ∷ more)) entry h)

line_in_file : (signed : Bool) (order : ℕ) (line : List ℕ) (entry : Entry) → reading signed order line ≡ Read entry → AreInFile entry.coords
line_in_file signed order line entry e = by (is_long line) e
  where
    by : (b : Bool) → cond b (Bad LongLine) (reading_of_tokens signed order (tokens line)) ≡ Read entry → AreInFile entry.coords
    by true h = absurd (cc)
    by false h = tokens_in_file signed order (tokens line) entry h

-- what holds of the entry of each line holds of all entries
pub lines_each : (signed : Bool) (P : Entry → Type 0) (order number : ℕ) (ls : List (List ℕ)) (list : List Entry)
    → ((line : List ℕ) (entry : Entry) → reading signed order line ≡ Read entry → P entry) → entries_from signed order number ls ≡ Ok list
    → All P list
lines_each signed P order number [] list each e = let none : [] ≡ list = cc in subst (All P) none (All-nil P)
lines_each signed P order number (line ∷ ls) list each e =
    by (reading signed order line) (entries_from signed order (number + 1) ls) e (each line)
    (λ found h. lines_each signed P order (number + 1) ls found each h)
  where
    by : (r : Reading) (others : Result (List Entry) BadLine) → before_others number r others ≡ Ok list
        → ((entry : Entry) → r ≡ Read entry → P entry) → ((found : List Entry) → others ≡ Ok found → All P found) → All P list
    by Skipped others h f g = g list h
    by (Bad kind) others h f g = absurd (cc)
    by (Read entry) (Err bad) h f g = absurd (cc)
    by (Read entry) (Ok found) h f g =
        let same : entry ∷ found ≡ list = cc in subst (All P) same (All-cons P entry found (f entry refl) (g found refl))

-- what is read has coordinates that a file may have
pub entries_in_file : (signed : Bool) (order : ℕ) (text : List ℕ) (list : List Entry) → entries_of_text signed order text ≡ Ok list
    → All (λ entry. AreInFile entry.coords) list
entries_in_file signed order text list e = lines_each signed (λ entry. AreInFile entry.coords) order 1 _ list (line_in_file signed order) e

listed_in_file : (entries : List Entry) (coords : List ℕ) → All (λ entry. AreInFile entry.coords) entries → Listed entries coords
    → AreInFile coords
listed_in_file [] coords each listed = absurd listed
listed_in_file (entry ∷ entries) coords each (inl here) = subst AreInFile here (each 0 entry (omega arith))
listed_in_file (entry ∷ entries) coords each (inr more) =
    listed_in_file entries coords (All-tail (λ (e : Entry). AreInFile e.coords) entry entries each) more

-- so entries with no other coordinates may be written
pub read_in_range : (signed : Bool) (order : ℕ) (text : List ℕ) (list others : List Entry) → entries_of_text signed order text ≡ Ok list
    → SameListed list others → AreInRange others
read_in_range signed order text list others e same = λ k d h k' d' h'.
    let below : AreInFile (slice_index_or others k d).coords =
    listed_in_file list (slice_index_or others k d).coords (entries_in_file signed order text list e)
    ((same (slice_index_or others k d).coords).0 (listed_at others k d h)) in
    omega (arith, below k' d' h', file_coordinates_are_ranges)
