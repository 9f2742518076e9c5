use Rattle.std.proofs.Common.{◌≡◌, ap, ◌∙◌}
use Rattle.bindings.specs.Tables.{paths_in}
use Rattle.operand_files.specs.declared.fault.OperandFault.TheVariants as operand
use Rattle.taco_top.specs.Values.{semiring}
use Rattle.taco_top.specs.Run.{request_of}
use Rattle.taco_top.proofs.Reading.{readable, stops_reading}
use Rattle.taco_top.proofs.operands.operands_of.Goals as goal

pub read_operands-requires : goal.read_operands-requires
read_operands-requires g c =
    readable (semiring g.S.Semiring.arithmetic g.S.Semiring.has_minus g.S.Semiring.is_ring g.S.Semiring.is_signed g.S.Semiring.name)
    c.requires.accepted.0 (g.F.Folder.state c.args.files.now) (g.F.Folder.state c.args.files.now) (request_of c.args.asked.now)
    c.as_slice.result.now (paths_in c.as_slice-2.result.now)
    (c.as_slice.ensures.value ∙ c.in_ok-orders.ensures)
    (ap paths_in c.as_slice-2.ensures.value ∙ c.in_ok-sources.ensures) c.requires.reads
    c.requires.accepted.1 c.requires.numbered

pub returns-in-Err-ReadFault-clause-refused : goal.returns-in-Err-ReadFault-clause-refused
returns-in-Err-ReadFault-clause-refused g c = λ words accepted.
    let over = semiring g.S.Semiring.arithmetic g.S.Semiring.has_minus g.S.Semiring.is_ring g.S.Semiring.is_signed g.S.Semiring.name in
    let told = c.in-Err-ReadFault.field-0-is in
    let same : c.in-Err-ReadFault.field-0 ≡ (operand.ReadFault c.in-Err-ReadFault.path) = cc in
    stops_reading over words (g.F.Folder.state c.args.files.now) (g.F.Folder.state c.read_operands.new.files) (request_of c.args.asked.now)
    c.as_slice.result.now (paths_in c.as_slice-2.result.now)
    (c.as_slice.ensures.value ∙ c.in_ok-orders.ensures)
    (ap paths_in c.as_slice-2.ensures.value ∙ c.in_ok-sources.ensures) c.requires.reads
    c.in-Err-ReadFault.field-0 (operand.ReadFault c.in-Err-ReadFault.path) same accepted c.in-Err-ReadFault.ensures.refused

pub returns-in-Err-FileBytes-clause-refused : goal.returns-in-Err-FileBytes-clause-refused
returns-in-Err-FileBytes-clause-refused g c = λ words accepted.
    let over = semiring g.S.Semiring.arithmetic g.S.Semiring.has_minus g.S.Semiring.is_ring g.S.Semiring.is_signed g.S.Semiring.name in
    let told = c.in-Err-FileBytes.field-0-is in
    let same : c.in-Err-FileBytes.field-0 ≡ (operand.FileBytes c.in-Err-FileBytes.path) = cc in
    stops_reading over words (g.F.Folder.state c.args.files.now) (g.F.Folder.state c.read_operands.new.files) (request_of c.args.asked.now)
    c.as_slice.result.now (paths_in c.as_slice-2.result.now)
    (c.as_slice.ensures.value ∙ c.in_ok-orders.ensures)
    (ap paths_in c.as_slice-2.ensures.value ∙ c.in_ok-sources.ensures) c.requires.reads
    c.in-Err-FileBytes.field-0 (operand.FileBytes c.in-Err-FileBytes.path) same accepted c.in-Err-FileBytes.ensures.refused

pub returns-in-Err-BadFile-clause-refused : goal.returns-in-Err-BadFile-clause-refused
returns-in-Err-BadFile-clause-refused g c = λ words accepted.
    let over = semiring g.S.Semiring.arithmetic g.S.Semiring.has_minus g.S.Semiring.is_ring g.S.Semiring.is_signed g.S.Semiring.name in
    let told = c.in-Err-BadFile.field-0-is in
    let same : c.in-Err-BadFile.field-0 ≡ (operand.BadFile c.in-Err-BadFile.path c.in-Err-BadFile.line c.in-Err-BadFile.kind) = cc in
    stops_reading over words (g.F.Folder.state c.args.files.now) _ (request_of c.args.asked.now)
    c.as_slice.result.now (paths_in c.as_slice-2.result.now)
    (c.as_slice.ensures.value ∙ c.in_ok-orders.ensures)
    (ap paths_in c.as_slice-2.ensures.value ∙ c.in_ok-sources.ensures) c.requires.reads
    c.in-Err-BadFile.field-0 (operand.BadFile c.in-Err-BadFile.path c.in-Err-BadFile.line c.in-Err-BadFile.kind)
    same accepted c.in-Err-BadFile.ensures.refused

pub returns-clause-refused : goal.returns-clause-refused
returns-clause-refused g c = λ words accepted.
    let over = semiring g.S.Semiring.arithmetic g.S.Semiring.has_minus g.S.Semiring.is_ring g.S.Semiring.is_signed g.S.Semiring.name in
    let told = c.in-Err-Memory.field-0-is in
    let same : c.in-Err-Memory.field-0 ≡ operand.Memory = cc in
    stops_reading over words (g.F.Folder.state c.args.files.now) (g.F.Folder.state c.read_operands.new.files) (request_of c.args.asked.now)
    c.as_slice.result.now (paths_in c.as_slice-2.result.now)
    (c.as_slice.ensures.value ∙ c.in_ok-orders.ensures)
    (ap paths_in c.as_slice-2.ensures.value ∙ c.in_ok-sources.ensures) c.requires.reads
    c.in-Err-Memory.field-0 operand.Memory same accepted c.in-Err-Memory.ensures.refused
