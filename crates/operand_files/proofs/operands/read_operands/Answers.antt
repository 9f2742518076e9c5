use Rattle.std.proofs.Common.{◌<◌, ℕ, List, [], ◌∷◌, ◌++◌, length, map, refl, ap, ◌∙◌, ◌+◌, arith}
use Rattle.std.proofs.lemmas.List.{length-map}
use Rattle.std.specs.Prelude.{slice_index_or}
use Rattle.std.proofs.lemmas.Result.{err_from_is_err_and}
use Rattle.bindings.specs.Tables.{paths_in}
use Rattle.bindings.specs.declared.tensor_file.TensorFile.{TensorFile}
use Rattle.operand_files.specs.Decoded.{operand_of}
use Rattle.operand_files.proofs.RowLaws.{only_reads_trans, order_there, row_at, map_push, read_more, opened_for, refused_next}
use Rattle.operand_files.proofs.operands.read_operands.Goals as goal

pub bounds-orders-n : goal.bounds-orders-n
bounds-orders-n g c =
    let path : TensorFile → List ℕ = λ f. f.path.now in
    let below : c.loop-n.n < length (paths_in c.args.sources.now) = omega (arith, length-map c.args.sources.now path) in
    order_there c.args.orders.now (paths_in c.args.sources.now) c.loop-n.n c.requires below

pub read_file-requires : goal.read_file-requires
read_file-requires g c =
    let file = c.index-sources-n.result in
    (row_at c.args.orders.now c.args.sources.now c.loop-n.n file c.requires c.loop-n-test.true c.index-sources-n.is).readable

pub returns-in-Err-clause-refused : goal.returns-in-Err-clause-refused
returns-in-Err-clause-refused g c =
    let file = c.index-sources-n.result in
    let row = row_at c.args.orders.now c.args.sources.now c.loop-n.n file c.requires c.loop-n-test.true c.index-sources-n.is in
    refused_next (operand_of g.S.Semiring.arithmetic g.S.Semiring.has_minus g.S.Semiring.is_signed) (g.F.Folder.state c.args.files.now)
    (g.F.Folder.state c.loop-n.files) (g.F.Folder.state c.read_file.new.files)
    c.args.orders.now (paths_in c.args.sources.now) c.loop-n.n c.loop-n.operands.entries.items (map
    (λ bounds. bounds.items) c.loop-n.operands.bounds.items)
    (slice_index_or c.args.orders.now c.loop-n.n 0) file.path.now c.in-Err.fault
    c.loop-n.invariant.only c.loop-n.invariant.have row.order_at row.path_at c.in-Err.ensures.refused

pub loop-n-preserved : goal.loop-n-preserved
loop-n-preserved g c =
    let file = c.index-sources-n.result in
    let row = row_at c.args.orders.now c.args.sources.now c.loop-n.n file c.requires c.loop-n-test.true c.index-sources-n.is in
    record {
      only = only_reads_trans (g.F.Folder.state c.args.files.now) (g.F.Folder.state c.loop-n.files)
          (g.F.Folder.state c.read_file.new.files) c.loop-n.invariant.only c.in-Ok.ensures.only_reads;
      have = read_more (operand_of g.S.Semiring.arithmetic g.S.Semiring.has_minus g.S.Semiring.is_signed)
          (g.F.Folder.state c.args.files.now)
          (g.F.Folder.state c.loop-n.files) (g.F.Folder.state c.read_file.new.files)
          c.args.orders.now (paths_in c.args.sources.now) c.loop-n.n c.loop-n.operands.entries.items (map
          (λ bounds. bounds.items) c.loop-n.operands.bounds.items)
          (slice_index_or c.args.orders.now c.loop-n.n 0) file.path.now
          (record { entries = c.in-Ok.entries; bounds = c.in-Ok.bounds.items })
          c.push.new.self.entries.items (map (λ bounds. bounds.items) c.push.new.self.bounds.items)
          c.loop-n.invariant.only c.loop-n.invariant.have row.order_at row.path_at (rw
          (c.in-Ok.entries-is, c.in-Ok.bounds-is) at c.in-Ok.ensures.operand)
          c.in_ok-push-in-Ok.ensures.entries
          (ap (λ w. map (λ bounds. bounds.items) w) c.in_ok-push-in-Ok.ensures.bounds ∙ map_push
          (λ bounds. bounds.items) c.loop-n.operands.bounds.items c.in-Ok.bounds);
    }

pub returns-in_err-push-in-Ok-clause-refused : goal.returns-in_err-push-in-Ok-clause-refused
returns-in_err-push-in-Ok-clause-refused g c =
    let file = c.index-sources-n.result in
    let row = row_at c.args.orders.now c.args.sources.now c.loop-n.n file c.requires c.loop-n-test.true c.index-sources-n.is in
    let more = read_more (operand_of g.S.Semiring.arithmetic g.S.Semiring.has_minus g.S.Semiring.is_signed)
    (g.F.Folder.state c.args.files.now)
    (g.F.Folder.state c.loop-n.files) (g.F.Folder.state c.read_file.new.files)
    c.args.orders.now (paths_in c.args.sources.now) c.loop-n.n c.loop-n.operands.entries.items (map
    (λ bounds. bounds.items) c.loop-n.operands.bounds.items)
    (slice_index_or c.args.orders.now c.loop-n.n 0) file.path.now
    (record { entries = c.in-Ok.entries; bounds = c.in-Ok.bounds.items })
    (c.loop-n.operands.entries.items ++ c.in-Ok.entries ∷ []) (map (λ bounds. bounds.items) c.loop-n.operands.bounds.items ++
    c.in-Ok.bounds.items ∷ [])
    c.loop-n.invariant.only c.loop-n.invariant.have row.order_at row.path_at (rw
    (c.in-Ok.entries-is, c.in-Ok.bounds-is) at c.in-Ok.ensures.operand)
    refl refl in
    let p = err_from_is_err_and c.from_residual.result c.from_residual.ensures.1 in
    rw (p.1, p.2) (opened_for _ _ _ c.args.orders.now (paths_in c.args.sources.now) (c.loop-n.n + 1) _ _ more)
