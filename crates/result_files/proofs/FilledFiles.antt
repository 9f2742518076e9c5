-- What a folder holds after its file was filled, or a part of it.
use Rattle.std.specs.Prelude.{◌≡◌, ◌≢◌, ℕ, Bool, true, false, List, [], ◌++◌, Option, Some, None, refl}
use Rattle.std.specs.Borrow.{GName}
use Rattle.std.specs.Str.{bytes_eq}
use Rattle.std.proofs.Common.{ap, sym, subst, ◌∙◌, append_assoc, inr}
use Rattle.std.proofs.lemmas.Slice.Eq.{bytes_eq-Decides}
use Rattle.outside.specs.Told.{Told, Untold, NoFile, Bytes, told_bytes, emptied}
use Rattle.outside.specs.Folder.{FolderState, KeepsReading, KeepsOthers, StartsFile, appended}
use Rattle.outside.specs.Refusal.{IsCounted}
use Rattle.outside.specs.Sink.{SinkState, Beside, beside_writing, told_beside, told_written, file_written}
use Rattle.outside.specs.declared.refusal.Refusal.{Refusal}
use Rattle.outside.specs.declared.refusal.Refusal.TheVariants.{Failed, Absent, Memory}
use Rattle.result_files.specs.Fills.{FillsPart}
use Rattle.result_files.specs.Refused.{refused_as}
use Rattle.result_files.specs.Writes.{FailsToFill, FillsFile, IsCause, PutsAll}
use Rattle.result_files.proofs.Batches.{counted_from}

-- a counted refusal as a cause
pub cause_of : (why : Refusal) (f f' w w' : ℕ) → IsCounted why f f' w w' → IsCause (refused_as why) f f' w w'
cause_of Failed f f' w w' counted = counted
cause_of Absent f f' w w' counted = absurd counted
cause_of (Memory e) f f' w w' counted = counted

abbrev folder_in : FolderState → Option FolderState → FolderState
folder_in d None = d
folder_in d (Some files) = files

-- what is told of another name
other_is : (b : Bool) (file name : List ℕ) (told told' : Told) → bytes_eq file name ≡ b → name ≢ file
    → told_beside (Some file) name told' ≡ told_beside (Some file) name told → told' ≡ told
other_is true file name told told' e other same = absurd (other (sym ((bytes_eq-Decides file name).0 e)))
other_is false file name told told' e other same = sym (kept told') ∙ same ∙ kept told
  where
    kept : (t : Told) → told_beside (Some file) name t ≡ t
    kept t = rw e refl

-- all but the file being written is as before
pub record StaysBeside (old new : FolderState) (name : List ℕ) : Type 0 where
  pub writing_is : new.writing ≡ Some name
  pub others : KeepsOthers name old new
  pub keeps_reading : KeepsReading old new

stays_in : (old new : FolderState) (name : List ℕ) → old.writing ≡ Some name → beside_writing new ≡ beside_writing old
    → StaysBeside old new name
stays_in old new name is same =
    let writing : new.writing ≡ Some name = ap (λ (f : FolderState). f.writing) same ∙ is in
    record {
      writing_is = writing;
      others = λ other away.
          let told : told_beside new.writing other (new.holds other) ≡ told_beside old.writing other (old.holds other) =
          ap (λ (f : FolderState). f.holds other) same in
          other_is (bytes_eq name other) name other (old.holds other) (new.holds other) refl away
          (ap (λ w. told_beside w other (new.holds other)) (sym writing) ∙ told ∙ ap (λ w. told_beside w other (old.holds other)) is);
      keeps_reading = record {
        reading_is = ap (λ (f : FolderState). f.reading) same;
        rest_is = ap (λ (f : FolderState). f.rest) same;
        taken_is = ap (λ (f : FolderState). f.taken) same;
        given_is = ap (λ (f : FolderState). f.given) same;
        read_faults_are = ap (λ (f : FolderState). f.read_faults) same;
        faulted_is = ap (λ (f : FolderState). f.faulted) same;
      };
    }

pub stays_beside : (old new : FolderState) (name : List ℕ) (γ γ' : GName) → old.writing ≡ Some name
    → (file_written new γ').beside ≡ (file_written old γ).beside → StaysBeside old new name
stays_beside old new name γ γ' is same =
    stays_in old new name is (ap (λ (b : Beside). folder_in (beside_writing old) b.folder) same)

then_reading : (old mid new : FolderState) → KeepsReading old mid → KeepsReading mid new → KeepsReading old new
then_reading old mid new first second = record {
  reading_is = second.reading_is ∙ first.reading_is;
  rest_is = second.rest_is ∙ first.rest_is;
  taken_is = second.taken_is ∙ first.taken_is;
  given_is = second.given_is ∙ first.given_is;
  read_faults_are = second.read_faults_are ∙ first.read_faults_are;
  faulted_is = second.faulted_is ∙ first.faulted_is;
}

-- the file's bytes, where they are told
told_there : (old mid new : FolderState) (name : List ℕ) → StartsFile old mid name → new.writing ≡ Some name
    → told_written new.writing new.holds ≡ told_bytes (new.holds name)
told_there old mid new name starts writing = ap (λ w. told_written w new.holds) writing

emptied_there : (old mid : FolderState) (name : List ℕ) → StartsFile old mid name
    → told_written mid.writing mid.holds ≡ told_bytes (emptied (old.holds name))
emptied_there old mid name starts = ap (λ w. told_written w mid.holds) starts.writing_is ∙ ap told_bytes starts.holds_is

pub file_filled : (old mid new : FolderState) (start : SinkState) (name text : List ℕ) (γ γ' : GName)
    → start ≡ file_written mid γ → StartsFile old mid name
    → PutsAll start (file_written new γ') text → FillsFile old new name text
file_filled old mid new start name text γ γ' at starts all =
    let puts : PutsAll (file_written mid γ) (file_written new γ') text =
    subst (λ (s : SinkState). PutsAll s (file_written new γ') text) at all in
    let stays = stays_beside mid new name γ γ' starts.writing_is puts.beside_is in
    record {
      holds_is = sym (told_there old mid new name starts stays.writing_is) ∙ puts.written_is
          ∙ ap (λ o. appended o text) (emptied_there old mid name starts);
      others = λ other away. stays.others other away ∙ starts.others other away;
      writing_is = stays.writing_is;
      unfinished_is = puts.unfinished_is;
      write_faults_are = puts.faults_are ∙ starts.write_faults_are;
      wants_are = puts.wants_are ∙ starts.wants_are;
      keeps_reading = then_reading old mid new starts.keeps_reading stays.keeps_reading;
    }

-- what was kept back is cut off the front
record IsFront (old new : Option (List ℕ)) (text : List ℕ) : Type 0 where
  front : List ℕ
  rest : List ℕ
  text_is : text ≡ front ++ rest
  is : new ≡ appended old front

abbrev bytes_in : Option (List ℕ) → List ℕ
bytes_in None = []
bytes_in (Some bytes) = bytes

front_behind : (told : Told) (new : Option (List ℕ)) (text front rest kept : List ℕ) → text ≡ front ++ rest
    → appended new kept ≡ appended (told_bytes (emptied told)) front → IsFront (told_bytes (emptied told)) new text
front_behind Untold None text front rest kept is same = record { front = []; rest = text; text_is = refl; is = refl }
front_behind Untold (Some bytes) text front rest kept is same = cc
front_behind NoFile None text front rest kept is same = cc
front_behind NoFile (Some bytes) text front rest kept is same =
    let cut : bytes ++ kept ≡ front = ap bytes_in same in
    record {
      front = bytes;
      rest = kept ++ rest;
      text_is = is ∙ ap (λ (f : List ℕ). f ++ rest) (sym cut) ∙ append_assoc bytes kept rest;
      is = refl;
    }
front_behind (Bytes old) None text front rest kept is same = cc
front_behind (Bytes old) (Some bytes) text front rest kept is same =
    let cut : bytes ++ kept ≡ front = ap bytes_in same in
    record {
      front = bytes;
      rest = kept ++ rest;
      text_is = is ∙ ap (λ (f : List ℕ). f ++ rest) (sym cut) ∙ append_assoc bytes kept rest;
      is = refl;
    }

pub file_part : (old mid new : FolderState) (start : SinkState) (name text : List ℕ) (γ γ' : GName) (why : Refusal)
    → start ≡ file_written mid γ → StartsFile old mid name
    → FillsPart start (file_written new γ') text why → FailsToFill old new name text (refused_as why)
file_part old mid new start name text γ γ' why at starts all =
    let part : FillsPart (file_written mid γ) (file_written new γ') text why =
    subst (λ (s : SinkState). FillsPart s (file_written new γ') text why) at all in
    let stays = stays_beside mid new name γ γ' starts.writing_is part.beside_is in
    let same : appended (told_bytes (new.holds name)) part.kept ≡ appended (told_bytes (emptied (old.holds name))) part.front =
    ap (λ o. appended o part.kept) (sym (told_there old mid new name starts stays.writing_is)) ∙ part.written_is
    ∙ ap (λ o. appended o part.front) (emptied_there old mid name starts) in
    let front = front_behind (old.holds name) (told_bytes (new.holds name)) text part.front part.rest part.kept part.text_is same in
    record {
      stands = inr (record {
        front = front.front;
        rest = front.rest;
        text_is = front.text_is;
        holds_is = front.is;
        writing_is = stays.writing_is;
      });
      cause = cause_of why old.write_faults new.write_faults old.wants new.wants
          (counted_from why old.write_faults mid.write_faults new.write_faults old.wants mid.wants new.wants
          starts.write_faults_are starts.wants_are part.counted);
      others = λ other away. stays.others other away ∙ starts.others other away;
      keeps_reading = then_reading old mid new starts.keeps_reading stays.keeps_reading;
    }
