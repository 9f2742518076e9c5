-- What a refusal counts, and why it stops the reading of a file.
use Rattle.std.specs.Prelude.{◌≡◌, ℕ}
use Rattle.outside.specs.Count.{Rises}
use Rattle.outside.specs.declared.refusal.Refusal.{Refusal}
use Rattle.outside.specs.declared.refusal.Refusal.TheVariants.{Failed, Absent, Memory}
use Rattle.outside.specs.declared.refusal.ReadStop.{ReadStop}
use Rattle.outside.specs.declared.refusal.ReadStop.TheVariants as stop

-- Failed counts one more fault, Memory one more want of memory, and the other count is as before. Absent isn't answered.
abbrev pub IsCounted : Refusal → (faults faults' wants wants' : ℕ) → Type 0
IsCounted Failed faults faults' wants wants' = Rises faults faults' × (wants' ≡ wants)
IsCounted Absent faults faults' wants wants' = ⊥
IsCounted (Memory e) faults faults' wants wants' = (faults' ≡ faults) × Rises wants wants'

-- a file that isn't there can't be read
abbrev pub stop_of : Refusal → ReadStop
stop_of Failed = stop.ReadFault
stop_of Absent = stop.ReadFault
stop_of (Memory e) = stop.Memory e
