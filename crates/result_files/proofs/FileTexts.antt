-- The text of entries is that of the tensor that they stand for, in either kind of file.
use Rattle.std.specs.Prelude.{◌≡◌, ℕ, Bool, true, false, List, [], ◌∷◌, length, All, Option, Some, None, refl}
use Rattle.std.proofs.Common.{sym, subst}
use Rattle.numbers.specs.Arithmetic.{Arithmetic, Laws}
use Rattle.outside.specs.Folder.{FolderState}
use Rattle.outside.specs.Sink.{SinkState}
use Rattle.tensor_map.specs.Entries.{Entries, AreEntries, IsEntry, value_at}
use Rattle.tns_io.specs.Positions.{IsBelow}
use Rattle.tns_io.proofs.EntryTexts.{entries_are_text}
use Rattle.mtx_io.specs.Text.{IsBelow as IsBelowMatrix}
use Rattle.mtx_io.proofs.WrittenLaws.{text_of_entries}
use Rattle.result_files.specs.EntriesText.{result_text, MayBeWritten}
use Rattle.result_files.specs.ResultText.{IsResultText, IsTextIn, asks_matrix}
use Rattle.result_files.specs.Writes.{FailsToFill, FillsFile, Puts, PutsAll, PutsFront, PutsPart, RefusesResult, WritesResult}
use Rattle.result_files.specs.declared.refusal.WriteRefusal.{WriteRefusal}

-- both formats say it in the same words
pub below_matrix : (ranges coords : List ℕ) → IsBelow ranges coords → IsBelowMatrix ranges coords
below_matrix [] [] h = tt
below_matrix [] (c ∷ cs) h = absurd h
below_matrix (n ∷ ns) [] h = absurd h
below_matrix (n ∷ ns) (c ∷ cs) h = (h.0, below_matrix ns cs h.1)

pub are_text : (b : Bool) (a : Arithmetic) (signed : Bool) → Laws a → (ranges : List ℕ) (entries : Entries) → AreEntries entries
    → MayBeWritten b ranges entries → IsTextIn b a signed ranges (value_at a entries.list) (result_text b a signed ranges entries.list)
are_text b a signed laws ranges entries are may = by b
  where
    each : All (IsEntry (length ranges)) entries.list
    each = subst (λ (n : ℕ). All (IsEntry n) entries.list) may.order_is are.each

    by : (b : Bool) → IsTextIn b a signed ranges (value_at a entries.list) (result_text b a signed ranges entries.list)
    by true = record {
      tensor = value_at a entries.list;
      inside = λ coords h. refl;
      text_is = text_of_entries a signed laws ranges entries.list each (λ k d h. below_matrix ranges _ (may.below k d h)) may.increasing;
    }
    by false = entries_are_text a signed laws ranges entries.list may.increasing each may.below

-- a result whose text was put where its path says was written, or refused behind a part of it
module _ (a : Arithmetic) (signed : Bool) (laws : Laws a) (ranges : List ℕ) (entries : Entries) (are : AreEntries entries)
    (path : Option (List ℕ)) (b : Bool) (asked : b ≡ asks_matrix path) (may : MayBeWritten (asks_matrix path) ranges entries)
    (files files' : FolderState) (out out' : SinkState) where
  is_text : IsResultText a signed path ranges (value_at a entries.list) (result_text b a signed ranges entries.list)
  is_text = subst (λ (is_matrix : Bool). IsTextIn is_matrix a signed ranges (value_at a entries.list)
      (result_text b a signed ranges entries.list)) asked
      (are_text b a signed laws ranges entries are (subst (λ (is_matrix : Bool). MayBeWritten is_matrix ranges entries) (sym asked) may))

  pub result_written : Puts path (result_text b a signed ranges entries.list) files files' out out'
      → WritesResult a signed path ranges (value_at a entries.list) files files' out out'
  result_written puts = record { text = result_text b a signed ranges entries.list; text_is = is_text; puts = puts }

  pub result_refused : (why : WriteRefusal) → PutsPart path (result_text b a signed ranges entries.list) files files' out out' why
      → RefusesResult a signed path ranges (value_at a entries.list) files files' out out' why
  result_refused why puts = record { text = result_text b a signed ranges entries.list; text_is = is_text; puts = puts }

-- where a text was put, by the path
module _ (path : Option (List ℕ)) (text : List ℕ) (files files' : FolderState) (out out' : SinkState) where
  pub put_in_file : (name : List ℕ) → path ≡ Some name → FillsFile files files' name text → Puts path text files files' out out
  put_in_file name same fills = subst (λ (o : Option (List ℕ)). Puts o text files files' out out) (sym same) (fills, refl)

  pub part_in_file : (name : List ℕ) (why : WriteRefusal) → path ≡ Some name → FailsToFill files files' name text why
      → PutsPart path text files files' out out why
  part_in_file name why same fails =
      subst (λ (o : Option (List ℕ)). PutsPart o text files files' out out why) (sym same) (fails, refl)

  pub put_out : path ≡ None → PutsAll out out' text → Puts path text files files out out'
  put_out same puts = subst (λ (o : Option (List ℕ)). Puts o text files files out out') (sym same) (refl, puts)

  pub part_put_out : (why : WriteRefusal) → path ≡ None → PutsFront out out' text why → PutsPart path text files files out out' why
  part_put_out why same puts = subst (λ (o : Option (List ℕ)). PutsPart o text files files out out' why) (sym same) (refl, puts)
