use Rattle.std.proofs.Common.{◌≡◌, ℕ, List, [], ◌+◌, ◌∷◌, ◌++◌, map, ap, sym, ◌∙◌, arith}
use Rattle.std.specs.List.{range_with_len}
use Rattle.std.proofs.lemmas.List.{map-append}
use Rattle.std.proofs.lemmas.List.FromFn.{map-range_with_len_more}
use Rattle.bindings.specs.Tables.{file_in}
use Rattle.bindings.specs.declared.tensor_file.TensorFile.{TensorFile}
use Rattle.taco_top.specs.Run.{operand_path}
use Rattle.taco_top.proofs.operands.files_of.Goals as goal

pub loop-n-preserved : goal.loop-n-preserved
loop-n-preserved c =
    let path : ℕ → List ℕ = operand_path c.args.statement.now (map file_in c.args.bindings.now.files.entries) in
    let now : TensorFile → List ℕ = λ f. f.path.now in
    let n : ℕ = c.loop-n.n in
    let next : 1 + n ≡ n + 1 = omega arith in
    let more = map-range_with_len_more path 1 n (n + 1) next in
    ap (map now) c.in_ok-push.ensures.items ∙ map-append now c.loop-n.files.items (c.operand_file.result ∷ [])
    ∙ ap (λ (w : List (List ℕ)). w ++ c.operand_file.result.path.now ∷ []) c.loop-n.invariant
    ∙ ap (λ r. map path (range_with_len 1 n) ++ r ∷ []) c.operand_file.ensures ∙ sym more
