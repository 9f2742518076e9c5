-- A loop order has each variable, and none twice.
use Rattle.std.specs.Prelude.{◌≡◌, ◌≢◌, ℕ, zero, suc, ◌<◌, true, nat_eq, List, [], ◌∷◌, length, slice_index, refl}
use Rattle.std.proofs.Common.{◌∙◌, ap, arith}
use Rattle.std.proofs.lemmas.Bool.{eq-eqb}
use Rattle.lists.specs.Each.{Each}
use Rattle.index_notation.specs.Statement.{IsDistinct}
use Rattle.expr_terms.specs.Terms.{contains}
use Rattle.format_spec.specs.Formats.{IsOrder}
use Rattle.format_spec.proofs.Pigeonholes.{each_mode_stands}
use Rattle.iteration_graph.specs.Graphs.{IsLoopOrder}
use Rattle.iteration_graph.proofs.OrderLaws.{each_once, each_below}
use Rattle.concrete_notation.specs.Nests.{IsOrderOf}
use Rattle.concrete_notation.proofs.Points.{or_first, or_second}

each_at : (P : ℕ → Type 0) (xs : List ℕ) → ((k : ℕ) → k < length xs → P (slice_index xs k)) → Each P xs
each_at P [] h = tt
each_at P (x ∷ xs) h = (h 0 (omega arith), each_at P xs (λ k below. h (suc k) (omega arith)))

distinct_at : (xs : List ℕ) → ((j k : ℕ) → j < k → k < length xs → slice_index xs j ≢ slice_index xs k) → IsDistinct xs
distinct_at [] h = tt
distinct_at (x ∷ xs) h = (
  each_at (λ y. x ≢ y) xs (λ k below. h 0 (suc k) (omega arith) (omega arith)),
  distinct_at xs (λ j k before below. h (suc j) (suc k) (omega arith) (omega arith)),
)

contains_at : (xs : List ℕ) (k v : ℕ) → k < length xs → slice_index xs k ≡ v → contains xs v ≡ true
contains_at [] k v below is = absurd (omega arith)
contains_at (x ∷ xs) zero v below is = or_first (nat_eq x v) (contains xs v) (ap (λ y. nat_eq y v) is ∙ eq-eqb v v refl)
contains_at (x ∷ xs) (suc k) v below is = or_second (nat_eq x v) (contains xs v) (contains_at xs k v (omega arith) is)

pub is_order_of : (n : ℕ) (edges : List (ℕ × ℕ)) (loops : List ℕ) → IsLoopOrder n edges loops → IsOrderOf n loops
is_order_of n edges loops ordered =
    let count : length loops ≡ n = ordered.count in
    let all : IsOrder n loops = record {
      count = ordered.count;
      below = λ k d h. each_below n edges loops k d ordered (omega arith);
      once = λ j k d before h. each_once n edges loops j k d ordered (omega arith) (omega arith);
    } in
    record {
      once = distinct_at loops (λ j k before below. each_once n edges loops j k 0 ordered before (omega arith));
      all = λ v h. let there = each_mode_stands n loops v all h in contains_at loops there.0 v (omega (arith, there.1)) there.2;
    }
