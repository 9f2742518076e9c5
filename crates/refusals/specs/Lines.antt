-- The status of a fault, and its line.
use Rattle.std.specs.Prelude.{ℕ, List, [], ◌∷◌, ◌++◌, codes, Some, None}
use Rattle.std.specs.Fmt.{decimal}
use Rattle.limits.specs.Limits.{greatest_order, greatest_variables, greatest_accesses, greatest_operands, greatest_nesting}
use Rattle.limits.specs.Limits.{greatest_literal, greatest_text_bytes, greatest_range_word, greatest_file_bytes}
use Rattle.index_notation.specs.declared.syntax.Name.{Name}
use Rattle.index_notation.specs.declared.syntax.Statement.{Statement}
use Rattle.notation_grammar.specs.declared.fault.Counted.{Counted}
use Rattle.notation_grammar.specs.declared.fault.Counted.TheVariants.{Order, Variables, Accesses, Operands}
use Rattle.notation_grammar.specs.declared.fault.NotationFault.{NotationFault}
use Rattle.notation_grammar.specs.declared.fault.NotationFault.TheVariants as notation
use Rattle.format_spec.specs.declared.fault.FormatFault.{FormatFault}
use Rattle.format_spec.specs.declared.fault.FormatFault.TheVariants.{BadLetter, BadLength, BadOrder, BadChain, BelowHashed}
use Rattle.expr_terms.specs.declared.names.NameFault.{NameFault}
use Rattle.expr_terms.specs.declared.names.NameFault.TheVariants.{ResultRead, Arity, RepeatedVariable, BadSum}
use Rattle.expr_terms.specs.declared.range_fault.RangeFault.{RangeFault}
use Rattle.expr_terms.specs.declared.range_fault.RangeFault.TheVariants as range
use Rattle.bindings.specs.Names.{name_at}
use Rattle.bindings.specs.declared.fault.WordFault.{WordFault}
use Rattle.bindings.specs.declared.fault.WordFault.TheVariants.{BadBinding, UnknownName, Twice, NotMatrix, RangeLimit}
use Rattle.bindings.specs.declared.fault.BindingFault.{BindingFault}
use Rattle.bindings.specs.declared.fault.BindingFault.TheVariants as binding
use Rattle.text_lines.specs.declared.line_kind.LineKind.{LineKind}
use Rattle.text_lines.specs.declared.line_kind.LineKind.TheVariants as line
use Rattle.refusals.specs.declared.fault.NamedFault.{NamedFault}
use Rattle.refusals.specs.declared.fault.NamedFault.TheVariants as named
use Rattle.refusals.specs.declared.fault.KernelFault.{KernelFault}
use Rattle.refusals.specs.declared.fault.KernelFault.TheVariants as kernel
use Rattle.refusals.specs.declared.fault.Fault.{Fault}
use Rattle.refusals.specs.declared.fault.Fault.TheVariants as fault
use Rattle.text_lines.specs.Pieces.{joined}

-- ---- statuses: 1 refused input, 2 usage, 3 read fault, 4 write fault, 5 want of memory, 6 a limit
abbrev pub notation_status : NotationFault → ℕ
notation_status notation.TextLength = 6
notation_status (notation.BadNotation at) = 1
notation_status (notation.TooDeep at) = 6
notation_status (notation.TooMany what at) = 6
notation_status (notation.LiteralRange at) = 6
notation_status (notation.Memory error) = 5

abbrev pub word_status : WordFault → ℕ
word_status BadBinding = 1
word_status UnknownName = 1
word_status Twice = 1
word_status NotMatrix = 1
word_status RangeLimit = 6

abbrev pub named_status : NamedFault → ℕ
named_status (named.Name name) = 1
named_status (named.Binding (binding.Word word why)) = word_status why
named_status (named.Binding (binding.NoFile tensor)) = 1
named_status (named.Binding (binding.BadFormat tensor why)) = 1
named_status (named.Binding (binding.Memory error)) = 5
named_status (named.Cycle cycle) = 1
named_status (named.Range (range.NoRange var)) = 1
named_status (named.Range (range.RangeConflict var first other)) = 1
named_status (named.Range (range.OutOfRange tensor coordinate exact)) = 1
named_status (named.Range (range.Memory error)) = 5
named_status (named.SizeLimit large) = 6

abbrev pub kernel_status : KernelFault → ℕ
kernel_status (kernel.KernelDepth path number) = 6
kernel_status (kernel.BadKernel path number) = 1
kernel_status (kernel.Trap statement) = 1
kernel_status (kernel.Budget turns) = 6
kernel_status kernel.BadStore = 1

abbrev pub status_of : Fault → ℕ
status_of fault.Usage = 2
status_of (fault.Notation why) = notation_status why
status_of (fault.Named s why) = named_status why
status_of (fault.NoMinus over) = 1
status_of (fault.WorkspaceLimit count) = 6
status_of (fault.ReadFault path) = 3
status_of (fault.FileBytes path) = 6
status_of (fault.BadFile path number kind) = 1
status_of (fault.Kernel why) = kernel_status why
status_of (fault.WriteFault path) = 4
status_of fault.Memory = 5

-- ---- lines
abbrev pub memory_line : List ℕ
memory_line = codes "taco: out of memory\n"

-- what is said of a word of the command line, counted from 1; of a variable; and of a tensor or a file
abbrev pub of_word : ℕ → List (List ℕ) → List ℕ
of_word word pieces = joined (codes "taco: word " ∷ decimal word ∷ pieces)

abbrev pub of_variable : List ℕ → List (List ℕ) → List ℕ
of_variable name pieces = joined (codes "taco: variable " ∷ name ∷ pieces)

abbrev pub of_name : List ℕ → List (List ℕ) → List ℕ
of_name name pieces = joined (codes "taco: " ∷ name ∷ pieces)

-- a limit that a text passes, between the words around it, and the byte at which it does
abbrev pub limit_at : List ℕ → ℕ → List ℕ → ℕ → List ℕ
limit_at before limit behind at =
    joined (codes "taco: " ∷ before ∷ decimal limit ∷ behind ∷ codes " at byte " ∷ decimal at ∷ codes "\n" ∷ [])

-- what a text has too many of
abbrev pub too_many_at : Counted → ℕ → List ℕ
too_many_at Order at = limit_at (codes "order above ") greatest_order [] at
too_many_at Variables at = limit_at (codes "more than ") greatest_variables (codes " variables") at
too_many_at Accesses at = limit_at (codes "more than ") greatest_accesses (codes " accesses") at
too_many_at Operands at = limit_at (codes "more than ") greatest_operands (codes " operands") at

abbrev pub notation_line : NotationFault → List ℕ
notation_line notation.TextLength = joined (codes "taco: expression longer than " ∷ decimal greatest_text_bytes ∷ codes " bytes\n" ∷ [])
notation_line (notation.BadNotation at) = joined (codes "taco: bad notation at byte " ∷ decimal at ∷ codes "\n" ∷ [])
notation_line (notation.TooDeep at) = limit_at (codes "nesting deeper than ") greatest_nesting [] at
notation_line (notation.TooMany what at) = too_many_at what at
notation_line (notation.LiteralRange at) = limit_at (codes "literal above ") greatest_literal [] at
notation_line (notation.Memory error) = memory_line

abbrev pub name_line : Statement → NameFault → List ℕ
name_line s (ResultRead tensor) = of_name (name_at s.tensors tensor) (codes ": the result is read\n" ∷ [])
name_line s (Arity tensor) = of_name (name_at s.tensors tensor) (codes ": accesses of different order\n" ∷ [])
name_line s (RepeatedVariable tensor var) =
    of_name (name_at s.tensors tensor) (codes ": variable " ∷ name_at s.vars var ∷ codes " stands twice\n" ∷ [])
name_line s (BadSum var) = of_variable (name_at s.vars var) (codes ": bound and free\n" ∷ [])

-- the line of a word that is refused
abbrev pub word_line : ℕ → WordFault → List ℕ
word_line word BadBinding = of_word word (codes ": not a binding\n" ∷ [])
word_line word UnknownName = of_word word (codes ": no such name\n" ∷ [])
word_line word Twice = of_word word (codes ": bound twice\n" ∷ [])
word_line word NotMatrix = of_word word (codes ": .mtx needs order 1 or 2\n" ∷ [])
word_line word RangeLimit = of_word word (codes ": range above " ∷ decimal greatest_range_word ∷ codes "\n" ∷ [])

-- what is wrong with a format
abbrev pub bad_format_text : FormatFault → List ℕ
bad_format_text BadLetter = codes ": bad format: letter\n"
bad_format_text BadLength = codes ": bad format: length\n"
bad_format_text BadOrder = codes ": bad format: order\n"
bad_format_text BadChain = codes ": bad format: chain\n"
bad_format_text BelowHashed = codes ": bad format: below h\n"

abbrev pub binding_line : Statement → BindingFault → List ℕ
binding_line s (binding.Word word why) = word_line word why
binding_line s (binding.NoFile tensor) = of_name (name_at s.tensors tensor) (codes ": no file\n" ∷ [])
binding_line s (binding.BadFormat tensor why) = of_name (name_at s.tensors tensor) (bad_format_text why ∷ [])
binding_line s (binding.Memory error) = memory_line

-- a variable has no range, or two; or a tensor has a coordinate above a range
abbrev pub no_range_text : List ℕ → List ℕ
no_range_text var = of_variable var (codes ": no range\n" ∷ [])

abbrev pub conflict_text : List ℕ → ℕ → ℕ → List ℕ
conflict_text var first other =
    of_variable var (codes ": ranges " ∷ decimal first ∷ codes " and " ∷ decimal other ∷ codes "\n" ∷ [])

abbrev pub above_text : List ℕ → ℕ → ℕ → List ℕ
above_text tensor coordinate range =
    of_name tensor (codes ": coordinate " ∷ decimal coordinate ∷ codes " above range " ∷ decimal range ∷ codes "\n" ∷ [])

abbrev pub range_line : Statement → RangeFault → List ℕ
range_line s (range.NoRange var) = no_range_text (name_at s.vars var)
range_line s (range.RangeConflict var first other) = conflict_text (name_at s.vars var) first other
range_line s (range.OutOfRange tensor coordinate exact) = above_text (name_at s.tensors tensor) coordinate exact
range_line s (range.Memory error) = memory_line

abbrev pub size_text : List ℕ → ℕ → ℕ → List ℕ
size_text tensor level count = joined (codes "taco: size limit: " ∷ tensor ∷ codes " level " ∷ decimal level
    ∷ codes " needs " ∷ decimal count ∷ codes " positions\n" ∷ [])

abbrev pub workspace_text : ℕ → List ℕ
workspace_text count = joined (codes "taco: size limit: workspace needs " ∷ decimal count ∷ codes " pairs\n" ∷ [])

-- a blank and a name for each of these variables, and then the end of the line
abbrev pub names_behind : List Name → List ℕ → List ℕ
names_behind names [] = codes "\n"
names_behind names (var ∷ vars) = joined (codes " " ∷ name_at names var ∷ []) ++ names_behind names vars

abbrev pub cycle_text : Statement → List ℕ → List ℕ
cycle_text s cycle = codes "taco: cycle" ++ names_behind s.vars cycle

abbrev pub named_line : Statement → NamedFault → List ℕ
named_line s (named.Name why) = name_line s why
named_line s (named.Binding why) = binding_line s why
named_line s (named.Cycle cycle) = cycle_text s cycle
named_line s (named.Range why) = range_line s why
named_line s (named.SizeLimit large) = size_text (name_at s.tensors large.tensor) large.level large.count

-- a minus stands on the right, over a semiring that has none
abbrev pub no_minus_text : List ℕ → List ℕ
no_minus_text over = joined (codes "taco: minus has no meaning over " ∷ over ∷ codes "\n" ∷ [])

abbrev pub kind_text : LineKind → List ℕ
kind_text line.LongLine = codes ": LongLine\n"
kind_text line.BadBanner = codes ": BadBanner\n"
kind_text line.NoMinus = codes ": NoMinus\n"
kind_text line.BadSize = codes ": BadSize\n"
kind_text line.Extra = codes ": Extra\n"
kind_text line.Fields = codes ": Fields\n"
kind_text line.NotNumber = codes ": NotNumber\n"
kind_text line.NotWhole = codes ": NotWhole\n"
kind_text line.NumRange = codes ": NumRange\n"
kind_text line.ZeroCoordinate = codes ": ZeroCoordinate\n"
kind_text line.CoordRange = codes ": CoordRange\n"
kind_text line.SkewDiagonal = codes ": SkewDiagonal\n"
kind_text line.Negative = codes ": Negative\n"
kind_text line.Truncated = codes ": Truncated\n"

-- a file has too many bytes, or a bad line
abbrev pub file_bytes_text : List ℕ → ℕ → List ℕ
file_bytes_text path limit = of_name path (codes ": more than " ∷ decimal limit ∷ codes " bytes\n" ∷ [])

abbrev pub bad_line_text : List ℕ → ℕ → LineKind → List ℕ
bad_line_text path number kind = of_name path (codes ": line " ∷ decimal number ∷ kind_text kind ∷ [])

-- a line of a kernel's file is bad; its run can't go on at a statement, wants more turns than it was given, or leaves no storage
abbrev pub kernel_line_text : List ℕ → ℕ → List ℕ → List ℕ
kernel_line_text path number text = of_name path (codes ": line " ∷ decimal number ∷ text ∷ [])

abbrev pub trap_text : ℕ → List ℕ
trap_text statement = joined (codes "taco: trap at statement " ∷ decimal statement ∷ codes "\n" ∷ [])

abbrev pub budget_text : ℕ → List ℕ
budget_text turns = joined (codes "taco: budget of " ∷ decimal turns ∷ codes " turns used\n" ∷ [])

abbrev pub kernel_line : KernelFault → List ℕ
kernel_line (kernel.KernelDepth path number) = kernel_line_text path.now number (codes ": KernelDepth\n")
kernel_line (kernel.BadKernel path number) = kernel_line_text path.now number (codes ": BadKernel\n")
kernel_line (kernel.Trap statement) = trap_text statement
kernel_line (kernel.Budget turns) = budget_text turns
kernel_line kernel.BadStore = codes "taco: the kernel left no storage\n"

-- how a command line may be
abbrev pub usage_line : List ℕ
usage_line = codes "usage: taco run [--over S] EXPR WORD.. | taco kernel [--over S] EXPR WORD.. | "
    ++ codes "taco report [--over S] EXPR WORD.. | taco gen N | taco auto [--over S] EXPR WORD.. | taco plan EXPR WORD.. | "
    ++ codes "taco exec PATH N EXPR WORD..\n"

abbrev pub line_of : Fault → List ℕ
line_of fault.Usage = usage_line
line_of (fault.Notation why) = notation_line why
line_of (fault.Named s why) = named_line s why
line_of (fault.NoMinus over) = no_minus_text over.now
line_of (fault.WorkspaceLimit count) = workspace_text count
line_of (fault.ReadFault path) = of_name path.now (codes ": read fault\n" ∷ [])
line_of (fault.FileBytes path) = file_bytes_text path.now greatest_file_bytes
line_of (fault.BadFile path number kind) = bad_line_text path.now number kind
line_of (fault.Kernel why) = kernel_line why
line_of (fault.WriteFault None) = codes "taco: standard output: write fault\n"
line_of (fault.WriteFault (Some path)) = of_name path.now (codes ": write fault\n" ∷ [])
line_of fault.Memory = memory_line
