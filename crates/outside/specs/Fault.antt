-- Which name the last fault of a real folder's reading was about.
use Rattle.std.specs.Prelude.{Option, None, Some, List, ℕ, string_bytes}
use Rattle.outside.specs.declared.fault.Fault.{Fault}
use Rattle.outside.specs.declared.fault.Fault.TheVariants.{Never, Here, Before}

-- the name, where the file named last has this name
abbrev pub faulted_name : Fault → List ℕ → Option (List ℕ)
faulted_name Never here = None
faulted_name Here here = Some here
faulted_name (Before name) here = Some (string_bytes name)

-- the name, where a file is open
abbrev pub open_name : {X : Type 0} → Option X → List ℕ → Option (List ℕ)
open_name None name = None
open_name (Some file) name = Some name
