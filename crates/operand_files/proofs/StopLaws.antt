-- How the reading of a file fails.
use Rattle.std.proofs.Common.{◌≡◌, ◌⊎◌, ℕ, ◌≤◌, List, [], ◌∷◌, ◌++◌, Option, Some, None, length, refl, sym, ◌∙◌, arith, inl, inr}
use Rattle.std.proofs.Common.{append-nil}
use Rattle.limits.specs.Limits.{greatest_file_bytes}
use Rattle.outside.specs.Folder.{FolderState, before_rest}
use Rattle.outside.specs.ReadStop.{StopsAtFault, IsFaultOf, FeedsNone, FeedsFront}
use Rattle.outside.specs.Told.{Told, Untold, NoFile, Bytes, told_bytes}
use Rattle.operand_files.specs.Reads.{IsReadFault, IsFront, MayOpen, AreShort, FailsToRead}

told_front : (told : Told) (bytes : List ℕ) (rest : Option (List ℕ)) → told_bytes told ≡ before_rest bytes rest → IsFront told bytes
told_front Untold bytes rest e = tt
told_front NoFile bytes rest e = tt
told_front (Bytes text) bytes None e = absurd (cc)
told_front (Bytes text) bytes (Some rest) e = (rest, cc)

is_fault : (old new : FolderState) (path : List ℕ) → IsFaultOf path old new ⊎ (old.holds path ≡ NoFile) → IsReadFault old new path
is_fault old new path (inl fault) = inl (fault.rose, fault.faulted_is)
is_fault old new path (inr none) = inr none

-- what was opened until a read failed
pub opened_short : (old new : FolderState) (path eaten eaten' : List ℕ) (budget : ℕ) → budget ≡ greatest_file_bytes → new.taken ≤ budget
    → FeedsNone old new eaten eaten' ⊎ FeedsFront old new path eaten eaten' → (may : MayOpen path old new) × AreShort may.last
opened_short old new path eaten eaten' budget is under (inl none) =
    (record { last = []; given_is = none.given_is ∙ sym (append-nil old.given); last_is = inl refl }, tt)
opened_short old new path eaten eaten' budget is under (inr front) =
    let bytes : List ℕ = front.fed ++ front.more in
    let short : length bytes ≤ greatest_file_bytes = omega (arith, front.taken_is) in (
      record {
        last = (path, bytes) ∷ [];
        given_is = front.given_is;
        last_is = inr (
          bytes,
          refl,
          told_front
              (old.holds path) bytes front.rest front.told_is,
        );
      },
      (short, tt),
    )

pub fault_stops : (old new : FolderState) (path eaten eaten' : List ℕ) (budget : ℕ) → budget ≡ greatest_file_bytes
    → StopsAtFault old new path budget eaten eaten'
    → FailsToRead path old new
fault_stops old new path eaten eaten' budget is stops =
    (is_fault old new path stops.cause, opened_short old new path eaten eaten' budget is stops.under stops.feeds)
