use Rattle.std.proofs.Common.{◌≡◌, ℕ, List, [], ◌+◌, ◌∷◌, ◌++◌, map, ap, sym, ◌∙◌, arith}
use Rattle.std.specs.List.{range_with_len}
use Rattle.std.proofs.lemmas.List.FromFn.{map-range_with_len_more}
use Rattle.bindings.specs.Bindings.{order_of}
use Rattle.taco_top.proofs.operands.orders_of.Goals as goal

pub loop-n-preserved : goal.loop-n-preserved
loop-n-preserved c =
    let order : ℕ → ℕ = order_of c.args.statement.now in
    let n : ℕ = c.loop-n.n in
    let next : 1 + n ≡ n + 1 = omega arith in
    let more = map-range_with_len_more order 1 n (n + 1) next in
    c.in_ok-push.ensures.items ∙ ap (λ (w : List ℕ). w ++ c.order_of.result ∷ []) c.loop-n.invariant
    ∙ ap (λ r. map order (range_with_len 1 n) ++ r ∷ []) c.order_of.ensures ∙ sym more
