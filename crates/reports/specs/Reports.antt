-- The texts that are printed: their lines, and what is printed of a kernel and of its run.
use Rattle.std.specs.Prelude.{ℕ, suc, Bool, List, [], ◌∷◌, ◌++◌, codes}
use Rattle.std.specs.List.{flat_map}
use Rattle.std.specs.Fmt.{decimal, signed_decimal}
use Rattle.numbers.specs.Signed.{signed_of}
use Rattle.bindings.specs.Names.{name_at}
use Rattle.index_notation.specs.declared.syntax.Name.{Name}
use Rattle.index_notation.specs.declared.syntax.Statement.{Statement}
use Rattle.format_spec.specs.declared.format.FormatLevel.{FormatLevel}
use Rattle.format_spec.specs.Words.{format_text}
use Rattle.kernel_code.specs.declared.syntax.Kernel.{Kernel}
use Rattle.kernel_code.specs.declared.syntax.Turns.{Turns}
use Rattle.tensor_storage.specs.Storages.{Storage}
use Rattle.text_lines.specs.Pieces.{joined}
use Rattle.kernel_print.specs.Text.{kernel_text}
use Rattle.reports.specs.declared.workload.Workload.{Workload}
use Rattle.storage_text.specs.StoreText.{store_text}

-- how many turns loops of each kind made
abbrev pub turns_line : Turns → List ℕ
turns_line turns = joined (codes "turns merge " ∷ decimal turns.merge ∷ codes " skip " ∷ decimal turns.skip ∷ codes " gather "
    ∷ decimal turns.gather ∷ codes " drain " ∷ decimal turns.drain ∷ codes " probe " ∷ decimal turns.probe ∷ codes "\n" ∷ [])

-- what the run of a generated workload tells
abbrev pub workload_line : Workload → List ℕ
workload_line w = joined (codes "gen " ∷ decimal w.size ∷ codes " entries " ∷ decimal w.first ∷ codes " " ∷ decimal w.second
    ∷ codes " " ∷ decimal w.third ∷ codes " turns merge " ∷ decimal w.turns.merge ∷ codes " skip " ∷ decimal w.turns.skip
    ∷ codes " gather " ∷ decimal w.turns.gather ∷ codes " drain " ∷ decimal w.turns.drain ∷ codes " probe " ∷ decimal w.turns.probe
    ∷ codes " cost " ∷ decimal w.cost ∷ codes " values " ∷ decimal w.values ∷ codes " sum " ∷ signed_decimal (signed_of w.sum)
    ∷ codes "\n" ∷ [])

-- a variable of these, by its number, behind a blank
abbrev pub variable_text : List Name → ℕ → List ℕ
variable_text names number = joined (codes " " ∷ name_at names number ∷ [])

-- the variables in the order of their loops
abbrev pub order_line : List Name → List ℕ → List ℕ
order_line names order = codes "// order" ++ (flat_map (variable_text names) order ++ codes "\n")

-- what a tensor's line begins with: its number and its name
abbrev pub title_text : ℕ → List ℕ → List ℕ
title_text number name = joined (codes "// T" ∷ decimal number ∷ codes " = " ∷ name ∷ codes ":" ∷ [])

-- a tensor of this number and name, with its format
abbrev pub tensor_line : ℕ → List ℕ → List FormatLevel → List ℕ
tensor_line number name format = title_text number name ++ (format_text format ++ codes "\n")

-- a line for each tensor, of which the first has this number
abbrev pub tensor_lines : ℕ → List Name → List (List FormatLevel) → List ℕ
tensor_lines number [] formats = []
tensor_lines number (name ∷ names) [] = []
tensor_lines number (name ∷ names) (format ∷ formats) =
    tensor_line number name.bytes format ++ tensor_lines (suc number) names formats

-- what stands before the kernel of a statement: the order of its loops, and its tensors with their formats
abbrev pub heading_text : Statement → List ℕ → List (List FormatLevel) → List ℕ
heading_text s order formats = order_line s.vars order ++ tensor_lines 0 s.tensors formats

-- ---- whole texts
-- a kernel behind the order of its statement's loops and the formats of its tensors
abbrev pub kernel_report : Statement → List ℕ → List (List FormatLevel) → Kernel → List ℕ
kernel_report statement order formats kernel = heading_text statement order formats ++ kernel_text kernel

-- the turns that loops made, and the storage of the result, which is tensor 0 and whose values have a sign or none
abbrev pub result_report : Bool → Statement → Turns → Storage → List ℕ
result_report signed statement turns tensor = turns_line turns ++ store_text signed 0 (name_at statement.tensors 0) tensor

-- a kernel, the turns that its loops made in a run, and the storage of the result
abbrev pub run_report : Bool → Statement → List ℕ → List (List FormatLevel) → Kernel → Turns → Storage → List ℕ
run_report signed statement order formats kernel turns tensor =
    kernel_report statement order formats kernel ++ result_report signed statement turns tensor
