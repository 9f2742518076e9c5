-- Status 2 is that of words that are no command line.
use Rattle.std.specs.Prelude.{◌≡◌, ℕ, ◌⊎◌, List, Some, None, map, String, string_bytes, refl}
use Rattle.std.specs.Option.{option_map}
use Rattle.std.proofs.Common.{◌∙◌, sym, subst, inl, inr}
use Rattle.std.specs.declared.alloc.Global.{Global}
use Rattle.outside.specs.Folder.{FolderState}
use Rattle.outside.specs.Sink.{SinkState}
use Rattle.notation_grammar.specs.declared.fault.NotationFault.{NotationFault}
use Rattle.notation_grammar.specs.declared.fault.NotationFault.TheVariants as notation
use Rattle.expr_terms.specs.declared.range_fault.RangeFault.TheVariants as range
use Rattle.bindings.specs.declared.fault.WordFault.{WordFault}
use Rattle.bindings.specs.declared.fault.WordFault.TheVariants.{BadBinding, UnknownName, Twice, NotMatrix, RangeLimit}
use Rattle.bindings.specs.declared.fault.BindingFault.TheVariants as binding
use Rattle.refusals.specs.Lines.{kernel_status, named_status, notation_status, status_of, word_status}
use Rattle.refusals.specs.declared.fault.KernelFault.{KernelFault}
use Rattle.refusals.specs.declared.fault.KernelFault.TheVariants as kernel
use Rattle.refusals.specs.declared.fault.NamedFault.{NamedFault}
use Rattle.refusals.specs.declared.fault.NamedFault.TheVariants as named
use Rattle.refusals.specs.declared.fault.Fault.TheVariants as fault
use Rattle.command_line.specs.CommandLine.{CommandLine, command_line_of}
use Rattle.taco_top.specs.Values.{Values, values_in}
use Rattle.taco_top.specs.Asked.{IsRefusedByWords}
use Rattle.taco_top.specs.Told.{Tells}
use Rattle.taco_top.specs.Refused.{FailsToWrite}
use Rattle.taco_top.specs.Ends.{Ends, Ending, Written, Printed, Refused, Executed, Unexecuted, Cause, status_of_end}
use Rattle.taco_top.proofs.ExecLines.{IsExecLine, refuses_line}

apart : {A : Type 0} {x : A} → None ≡ Some x → ⊥
apart h = cc

-- ---- no other fault has this status
notation_not_two : (why : NotationFault) → 2 ≡ notation_status why → ⊥
notation_not_two notation.TextLength is = cc
notation_not_two (notation.BadNotation at) is = cc
notation_not_two (notation.TooDeep at) is = cc
notation_not_two (notation.TooMany what at) is = cc
notation_not_two (notation.LiteralRange at) is = cc
notation_not_two (notation.Memory error) is = cc

word_not_two : (why : WordFault) → 2 ≡ word_status why → ⊥
word_not_two BadBinding is = cc
word_not_two UnknownName is = cc
word_not_two Twice is = cc
word_not_two NotMatrix is = cc
word_not_two RangeLimit is = cc

named_not_two : (why : NamedFault) → 2 ≡ named_status why → ⊥
named_not_two (named.Name why) is = cc
named_not_two (named.Binding (binding.Word word why)) is = word_not_two why is
named_not_two (named.Binding (binding.NoFile tensor)) is = cc
named_not_two (named.Binding (binding.BadFormat tensor why)) is = cc
named_not_two (named.Binding (binding.Memory error)) is = cc
named_not_two (named.Cycle cycle) is = cc
named_not_two (named.Range (range.NoRange var)) is = cc
named_not_two (named.Range (range.RangeConflict var first other)) is = cc
named_not_two (named.Range (range.OutOfRange tensor coordinate exact)) is = cc
named_not_two (named.Range (range.Memory error)) is = cc
named_not_two (named.SizeLimit large) is = cc

kernel_not_two : (why : KernelFault) → 2 ≡ kernel_status why → ⊥
kernel_not_two (kernel.KernelDepth path number) is = cc
kernel_not_two (kernel.BadKernel path number) is = cc
kernel_not_two (kernel.Trap statement) is = cc
kernel_not_two (kernel.Budget turns) is = cc
kernel_not_two kernel.BadStore is = cc

module _ (over : Values) (words : List (List ℕ)) (files files' : FolderState) (out out' : SinkState) where
  told : (ended : Ending) → 2 ≡ status_of_end ended → Cause over words files files' out out' ended → command_line_of words ≡ None
  told (Written turns) is cause = absurd cc
  told Printed is cause = absurd cc
  told (Refused fault.Usage) is cause = cause.stops.refused
  told (Refused (fault.Notation why)) is cause = absurd (notation_not_two why is)
  told (Refused (fault.NoMinus name)) is cause = absurd cc
  told (Refused (fault.Named s why)) is cause = absurd (named_not_two why is)
  told (Refused (fault.WorkspaceLimit count)) is cause = absurd cc
  told (Refused (fault.ReadFault path)) is cause = absurd cc
  told (Refused (fault.FileBytes path)) is cause = absurd cc
  told (Refused (fault.BadFile path line kind)) is cause = absurd cc
  told (Refused (fault.Kernel why)) is cause = absurd (kernel_not_two why is)
  told (Refused (fault.WriteFault path)) is cause = absurd cc
  told (Refused fault.Memory) is cause = absurd cc
  told (Executed turns) is cause = absurd cc
  told (Unexecuted fault.Usage) is cause = absurd cause.stops
  told (Unexecuted (fault.Notation why)) is cause = absurd (notation_not_two why is)
  told (Unexecuted (fault.NoMinus name)) is cause = absurd cc
  told (Unexecuted (fault.Named s why)) is cause = absurd (named_not_two why is)
  told (Unexecuted (fault.WorkspaceLimit count)) is cause = absurd cc
  told (Unexecuted (fault.ReadFault path)) is cause = absurd cc
  told (Unexecuted (fault.FileBytes path)) is cause = absurd cc
  told (Unexecuted (fault.BadFile path line kind)) is cause = absurd cc
  told (Unexecuted (fault.Kernel why)) is cause = absurd (kernel_not_two why is)
  told (Unexecuted (fault.WriteFault path)) is cause = absurd cc
  told (Unexecuted fault.Memory) is cause = absurd cc

  -- ---- no other cause has words that are no command line
  module _ (none : command_line_of words ≡ None) where
    never : {line : CommandLine} → command_line_of words ≡ Some line → ⊥
    never is = apart (sym none ∙ is)

    -- there is no text for them
    nothing_told : {text : List ℕ} → Tells over words files files' text → ⊥
    nothing_told (inl is) = never is.accepted.asks.names.line
    nothing_told (inr (inl is)) = never is.values.operands.accepted.asks.names.line
    nothing_told (inr (inr (inl is))) = never is.line
    nothing_told (inr (inr (inr is))) = never is.asks.names.line

    found : (ended : Ending) → Cause over words files files' out out' ended
        → (status_of_end ended ≡ 2) ⊎ (status_of_end ended ≡ 5)
    found (Written turns) cause = absurd (never cause.written.values.operands.accepted.asks.names.line)
    found Printed cause = absurd (nothing_told cause.tells)
    found (Refused fault.Usage) cause = inl refl
    found (Refused (fault.Notation why)) cause = by cause.stops.refused
      where
        by : IsRefusedByWords words (fault.Notation why) → (notation_status why ≡ 2) ⊎ (notation_status why ≡ 5)
        by (task, o, text, rest, line, is) = absurd (never line)
    found (Refused (fault.NoMinus name)) cause = by cause.stops.refused
      where
        by : IsRefusedByWords words (fault.NoMinus name) → (status_of (fault.NoMinus name) ≡ 2) ⊎ (status_of (fault.NoMinus name) ≡ 5)
        by (task, o, text, rest, line, s, names, is) = absurd (never line)
    found (Refused (fault.Named s (named.Name why))) cause = by cause.stops.refused
      where
        by : IsRefusedByWords words (fault.Named s (named.Name why))
            → (named_status (named.Name why) ≡ 2) ⊎ (named_status (named.Name why) ≡ 5)
        by (task, o, text, rest, line, is) = absurd (never line)
    found (Refused (fault.Named s (named.Binding why))) cause = by cause.stops.refused
      where
        by : IsRefusedByWords words (fault.Named s (named.Binding why))
            → (named_status (named.Binding why) ≡ 2) ⊎ (named_status (named.Binding why) ≡ 5)
        by (task, o, rest, names, is) = absurd (never names.line)
    found (Refused (fault.Named s (named.Cycle cycle))) cause = absurd (never cause.stops.1.asks.names.line)
    found (Refused (fault.Named s (named.Range why))) cause = absurd (never cause.stops.operands.accepted.asks.names.line)
    found (Refused (fault.Named s (named.SizeLimit large))) cause =
        absurd (never cause.stops.operands.accepted.asks.names.line)
    found (Refused (fault.WorkspaceLimit count)) cause = absurd (never cause.stops.operands.accepted.asks.names.line)
    found (Refused (fault.ReadFault path)) cause = absurd (never cause.stops.accepted.asks.names.line)
    found (Refused (fault.FileBytes path)) cause = absurd (never cause.stops.accepted.asks.names.line)
    found (Refused (fault.BadFile path line kind)) cause = absurd (never cause.stops.accepted.asks.names.line)
    found (Refused (fault.Kernel why)) cause = absurd cause.stops.refused
    found (Refused (fault.WriteFault path)) cause = absurd (by cause)
      where
        by : FailsToWrite over words files files' out out' (option_map (λ p. p.now) path) → ⊥
        by (inl is) = never is.values.operands.accepted.asks.names.line
        by (inr is) = nothing_told is.1.tells
    found (Refused fault.Memory) cause = inr refl
    found (Executed turns) cause = absurd (never cause.execution.input.asks.names.line)
    found (Unexecuted why) cause = absurd (by (refuses_line words files files' out out' why cause))
      where
        by : IsExecLine words → ⊥
        by (path, budget, text, rest, line) = never line

pub usage_told : (words : List (String Global)) (files files' : FolderState) (out out' err err' : SinkState)
    → Ends words files files' out out' err err' 2 → command_line_of (map string_bytes words) ≡ None
usage_told words files files' out out' err err' ends =
    told (values_in (map string_bytes words)) (map string_bytes words) files files' out out' ends.ended ends.status_is ends.cause

pub usage_found : (words : List (String Global)) (files files' : FolderState) (out out' err err' : SinkState) (status : ℕ)
    → command_line_of (map string_bytes words) ≡ None → Ends words files files' out out' err err' status
    → (status ≡ 2) ⊎ (status ≡ 5)
usage_found words files files' out out' err err' status none ends =
    subst (λ n. (n ≡ 2) ⊎ (n ≡ 5)) (sym ends.status_is)
    (found (values_in (map string_bytes words)) (map string_bytes words) files files' out out' none ends.ended ends.cause)
