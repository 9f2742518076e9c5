-- A folder's file as a sink, and what stands beside the file being written.
use Rattle.std.proofs.Common.{Option, None, Some, List, [], ◌∷◌, ◌≡◌, ◌≢◌, ℕ, Bool, true, false, take, refl, sym, ap, ◌∙◌}
use Rattle.std.specs.Prelude.{IsSome}
use Rattle.std.specs.Borrow.{GName}
use Rattle.std.specs.Str.{bytes_eq}
use Rattle.std.proofs.lemmas.Slice.Eq.{bytes_eq-Decides}
use Rattle.std.proofs.lemmas.Bool.Decides.{not_from_Decides}
use Rattle.outside.specs.Told.{Told, Untold, NoFile, Bytes, told_bytes, grown}
use Rattle.outside.specs.Folder.{FolderState, KeepsReading, KeepsOthers, WritesTo, appended}
use Rattle.outside.specs.Sink.{Takes, Beside, file_written, told_written, told_beside, beside_writing}

told_bytes-grown : (told : Told) (piece : List ℕ) → told_bytes (grown told piece) ≡ appended (told_bytes told) piece
told_bytes-grown Untold piece = refl
told_bytes-grown NoFile piece = refl
told_bytes-grown (Bytes bytes) piece = refl

pub told_written-grown : (old new : FolderState) (piece : List ℕ)
    → ((name : List ℕ) → old.writing ≡ Some name → new.holds name ≡ grown (old.holds name) piece) → (file : Option (List ℕ))
    → old.writing ≡ file → told_written file new.holds ≡ appended (told_written file old.holds) piece
told_written-grown old new piece h None e = refl
told_written-grown old new piece h (Some name) e = ap told_bytes (h name e) ∙ told_bytes-grown (old.holds name) piece

-- what is told of other names is the same
other_told : (b : Bool) (file name : List ℕ) (told told' : Told) → bytes_eq file name ≡ b → (name ≢ file → told' ≡ told)
    → told_beside (Some file) name told' ≡ told_beside (Some file) name told
other_told true file name told told' e h = rw e refl
other_told false file name told told' e h =
    let same : told' ≡ told = h (λ is. not_from_Decides (bytes_eq file name) (bytes_eq-Decides file name) e (sym is)) in rw same refl

pub same_beside : (old new : FolderState) (file : List ℕ) → old.writing ≡ Some file → new.writing ≡ Some file → KeepsOthers file old new
    → KeepsReading old new → beside_writing new ≡ beside_writing old
same_beside old new file w w' others reading =
    let told : (name : List ℕ) → told_beside new.writing name (new.holds name) ≡ told_beside old.writing name (old.holds name) =
    λ name. rw (w, w') (other_told (bytes_eq file name) file name (old.holds name) (new.holds name) refl (others name)) in
    let writing : new.writing ≡ old.writing = w' ∙ sym w in
    λ i. record {
      holds = λ name. told name i;
      reading = reading.reading_is i;
      rest = reading.rest_is i;
      taken = reading.taken_is i;
      given = reading.given_is i;
      writing = writing i;
      unfinished = false;
      read_faults = reading.read_faults_are i;
      write_faults = 0;
      wants = 0;
      faulted = reading.faulted_is i;
    }

abbrev beside_of : GName → FolderState → Beside
beside_of borrow files = record { borrows = borrow ∷ []; folder = Some files }

pub file_takes : (old new : FolderState) (borrow : GName) (piece : List ℕ) (n : ℕ) → IsSome old.writing → WritesTo old new piece n
    → Takes (file_written old borrow) (file_written new borrow) piece n
file_takes old new borrow piece n some h = takes_at old.writing refl some
  where
    takes_at : (file : Option (List ℕ)) → old.writing ≡ file → IsSome file
        → Takes (file_written old borrow) (file_written new borrow) piece n
    takes_at None e s = cc
    takes_at (Some name) e s = record {
      within = h.within;
      progress = h.progress;
      written_is = ap (λ w. told_written w new.holds) h.writing_is ∙ told_written-grown old new (take n piece) h.holds_is old.writing refl;
      unfinished_is = h.unfinished_is;
      faults_are = h.write_faults_are;
      wants_are = h.wants_are;
      beside_is = ap (beside_of borrow) (same_beside old new name e (h.writing_is ∙ e) (h.others name e) h.keeps_reading);
    }
