-- What reading the operands leaves, told of what the words ask for.
use Rattle.std.specs.Prelude.{◌≡◌, ℕ, true, List, Option, length, map, Vec, refl}
use Rattle.std.proofs.Common.{◌∙◌, sym, ap, subst, inr}
use Rattle.std.specs.declared.alloc.Global.{Global}
use Rattle.outside.specs.Folder.{FolderState}
use Rattle.tensor_map.specs.Entries.{Entries}
use Rattle.format_spec.specs.declared.format.FormatLevel.{FormatLevel}
use Rattle.index_notation.specs.Statement.{IsNumberedWithSums, IsWellNamed}
use Rattle.expr_terms.specs.declared.bound.Bound.{Bound}
use Rattle.taco_top.proofs.WellNamed.{notation_well_named}
use Rattle.operand_files.specs.Decoded.{AreReadable}
use Rattle.operand_files.specs.Reads.{HaveRead, IsRefused}
use Rattle.operand_files.specs.declared.fault.OperandFault.{OperandFault}
use Rattle.operand_files.specs.declared.fault.OperandFault.TheVariants as operand
use Rattle.kernel_code.specs.declared.syntax.Kernel.{Kernel}
use Rattle.kernel_code.specs.declared.syntax.Turns.{Turns}
use Rattle.tensor_storage.specs.Storages.{Storage}
use Rattle.mode_planner.specs.declared.planned.Planned.{Planned}
use Rattle.operand_packing.specs.Runnable.{IsRunnable}
use Rattle.taco_top.proofs.NamesRead.{text_read, text_keeps_orders}
use Rattle.operand_packing.proofs.Runnable.{read_is_runnable}
use Rattle.refusals.specs.declared.fault.Fault.{Fault}
use Rattle.refusals.specs.declared.fault.Fault.TheVariants as fault
use Rattle.taco_top.specs.Values.{Values}
use Rattle.taco_top.specs.Asked.{Names, needs_files}
use Rattle.taco_top.specs.Run.{Request}
use Rattle.taco_top.specs.Written.{means, IsAccepted, HasOperands, asked_orders, asked_paths}
use Rattle.taco_top.specs.Refused.{Stops}
use Rattle.taco_top.specs.Prepared.{IsStoredRun, IsUncomputed}
use Rattle.taco_top.proofs.Accepted.{well_named}
use Rattle.taco_top.proofs.Paths.{paths_readable}

-- a fault of the operands as the program's
abbrev pub fault_of : OperandFault → Fault
fault_of (operand.ReadFault path) = fault.ReadFault path
fault_of (operand.FileBytes path) = fault.FileBytes path
fault_of (operand.BadFile path line kind) = fault.BadFile path line kind
fault_of operand.Memory = fault.Memory

pub request_readable : (words : List (List ℕ)) (r : Request) → needs_files r.task ≡ true → IsAccepted words r
    → IsNumberedWithSums r.statement → AreReadable (asked_orders r) (asked_paths r)
request_readable words r reads accepted numbered =
    paths_readable r.statement accepted.asks.rest (needs_files r.task) reads r.formats r.files r.given accepted.asks.binds numbered
    (text_keeps_orders names.text names.named.written r.statement names.named.notation written.result names.named.stands_for)
  where
    names : Names words r.task r.over r.statement accepted.asks.rest
    names = accepted.asks.names

    written : IsWellNamed names.named.written
    written = notation_well_named names.text names.named.written names.named.notation names.named.names

module _ (over : Values) where
  -- the orders and paths that were handed in are those of the request
  module _ (words : List (List ℕ)) (old new : FolderState) (r : Request) (orders : List ℕ) (paths : List (List ℕ))
      (orders_are : orders ≡ asked_orders r) (paths_are : paths ≡ asked_paths r) (reads : needs_files r.task ≡ true) where
    pub readable : IsAccepted words r → IsNumberedWithSums r.statement → AreReadable orders paths
    readable accepted numbered =
        subst (λ os. AreReadable os paths) (sym orders_are)
        (subst (λ ps. AreReadable (asked_orders r) ps) (sym paths_are) (request_readable words r reads accepted numbered))

    pub have_operands : (count : ℕ) (entries : List Entries) (bounds : List (Vec Bound Global)) → count ≡ length paths → IsAccepted words r
        → HaveRead (means over) old new orders paths count entries (map (λ b. b.items) bounds)
        → HasOperands over words old new r entries bounds
    have_operands count entries bounds many accepted read = record {
      accepted = accepted;
      reads = reads;
      read = subst (λ n. HaveRead (means over) old new (asked_orders r) (asked_paths r) n entries (map (λ b. b.items) bounds))
          (many ∙ ap length paths_are)
          (subst (λ os. HaveRead (means over) old new os (asked_paths r) count entries (map (λ b. b.items) bounds)) orders_are
          (subst (λ ps. HaveRead (means over) old new orders ps count entries (map (λ b. b.items) bounds)) paths_are read));
    }

    refused_at : (why : OperandFault) → IsRefused (means over) old new orders paths why
        → IsRefused (means over) old new (asked_orders r) (asked_paths r) why
    refused_at why is =
        subst (λ os. IsRefused (means over) old new os (asked_paths r) why) orders_are
        (subst (λ ps. IsRefused (means over) old new orders ps why) paths_are is)

    stops : (why : OperandFault) → IsAccepted words r → IsRefused (means over) old new orders paths why
        → Stops over words old new (fault_of why)
    stops (operand.ReadFault path) accepted is = record {
      request = r;
      accepted = accepted;
      reads = reads;
      why = refused_at (operand.ReadFault path) is;
    }
    stops (operand.FileBytes path) accepted is = record {
      request = r;
      accepted = accepted;
      reads = reads;
      why = refused_at (operand.FileBytes path) is;
    }
    stops (operand.BadFile path line kind) accepted is = record {
      request = r;
      accepted = accepted;
      reads = reads;
      why = refused_at (operand.BadFile path line kind) is;
    }
    stops operand.Memory accepted is =
        let here = refused_at operand.Memory is in
        inr (record { request = r; accepted = accepted; reads = reads; opens = here.0; no_fault = here.1 })

    pub stops_reading : (told why : OperandFault) → told ≡ why → IsAccepted words r → IsRefused (means over) old new orders paths told
        → Stops over words old new (fault_of why)
    stops_reading told why same accepted is = stops why accepted (subst (λ w. IsRefused (means over) old new orders paths w) same is)

  -- a statement can be computed over the operands that were read for it
  request_runnable : (words : List (List ℕ)) (old new : FolderState) (r : Request) (entries : List Entries)
      (bounds : List (Vec Bound Global)) → HasOperands over words old new r entries bounds → IsNumberedWithSums r.statement
      → IsRunnable r.statement r.formats r.given entries bounds
  request_runnable words old new r entries bounds operands numbered =
      let names = operands.accepted.asks.names in
      let each_read = text_read names.text names.named.written r.statement names.named.notation names.named.stands_for in
      read_is_runnable over.arithmetic over.has_minus over.is_signed r.statement numbered
      (well_named words r operands.accepted.asks) each_read operands.accepted.asks.rest
      (needs_files r.task) r.formats r.files r.given operands.accepted.asks.binds old new (asked_paths r) (length (asked_paths r)) entries
      bounds
      (request_readable words r operands.reads operands.accepted numbered) refl operands.read

  -- the formats and ranges that were handed in are those of the request
  module _ (r : Request) (formats : List (List FormatLevel)) (formats_are : formats ≡ r.formats) (given : List (Option ℕ))
      (given_are : given ≡ r.given) (entries : List Entries) (bounds : List (Vec Bound Global)) where
    as_handed : (P : List (List FormatLevel) → List (Option ℕ) → Type 0) → P r.formats r.given → P formats given
    as_handed P h = subst (λ fs. P fs given) (sym formats_are) (subst (P r.formats) (sym given_are) h)

    as_asked : (P : List (List FormatLevel) → List (Option ℕ) → Type 0) → P formats given → P r.formats r.given
    as_asked P h = subst (P r.formats) given_are (subst (λ fs. P fs given) formats_are h)

    pub runnable : (words : List (List ℕ)) (old new : FolderState) → HasOperands over words old new r entries bounds
        → IsNumberedWithSums r.statement
        → IsRunnable r.statement formats given entries bounds
    runnable words old new operands numbered =
        as_handed (λ fs gs. IsRunnable r.statement fs gs entries bounds)
        (request_runnable words old new r entries bounds operands numbered)

    pub run_of_request : (plan : Option Planned) (kernel : Kernel) (shape : List ℕ) (result : Entries) (tensor : Storage) (turns : Turns)
        → IsStoredRun over r.statement formats plan kernel given entries bounds shape result tensor turns
        → IsStoredRun over r.statement r.formats plan kernel r.given entries bounds shape result tensor turns
    run_of_request plan kernel shape result tensor turns run =
        as_asked (λ fs gs. IsStoredRun over r.statement fs plan kernel gs entries bounds shape result tensor turns) run

    pub uncomputed_of_request : (plan : Option Planned) (kernel : Kernel) (why : Fault)
        → IsUncomputed over r.statement formats plan kernel given entries bounds why
        → IsUncomputed over r.statement r.formats plan kernel r.given entries bounds why
    uncomputed_of_request plan kernel why is = as_asked (λ fs gs. IsUncomputed over r.statement fs plan kernel gs entries bounds why) is
