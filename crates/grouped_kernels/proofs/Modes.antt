-- The left variables in loop order are the modes of the result's levels, from the top, where not all of those are dense.
use Rattle.std.specs.Prelude.{◌≡◌, ℕ, suc, ◌<◌, List, [], ◌∷◌, All, length, map, slice_index, slice_index_or, refl}
use Rattle.std.proofs.Common.{◌∙◌, sym, ap, arith}
use Rattle.std.proofs.lemmas.List.{map-id}
use Rattle.format_spec.specs.declared.format.FormatLevel.{FormatLevel}
use Rattle.format_spec.specs.Formats.{modes_of}
use Rattle.index_notation.specs.Statement.{numbers_from}
use Rattle.index_notation.specs.declared.syntax.Statement.{Statement}
use Rattle.iteration_graph.specs.Edges.{format_of, statement_edges}
use Rattle.iteration_graph.specs.Graphs.{IsLoopOrder}
use Rattle.concrete_notation.specs.Nests.{left_in_order}
use Rattle.dense_results.proofs.Modes.{number_at}
use Rattle.sparse_results.specs.Keys.{HasOrderedResult}
use Rattle.sparse_results.proofs.Keys.{level_keys}

-- numbers that a function leaves
unmoved : (f : ℕ → ℕ) (ms : List ℕ) → All (λ m. f m ≡ m) ms → map f ms ≡ ms
unmoved f [] same = refl
unmoved f (m ∷ ms) same =
    let here : f m ≡ m = same 0 0 (omega arith) in
    let rest = unmoved f ms (λ k d inside. same (suc k) d (omega (arith, inside))) in
    λ i. here i ∷ rest i

module _ (s : Statement) (formats : List (List FormatLevel)) (h : HasOrderedResult s formats) where
  -- each left variable is numbered as its mode
  numbered : (m : ℕ) → m < length s.left.vars → slice_index s.left.vars m ≡ m
  numbered m inside =
      ap (λ (vs : List ℕ). slice_index vs m) (h.named.standing ∙ sym (map-id (numbers_from 0 (length s.left.vars))))
      ∙ number_at (λ v. v) 0 (length s.left.vars) m inside ∙ omega arith

  many : length (format_of formats 0) ≡ length s.left.vars
  many = ap (λ t. length (format_of formats t)) (sym h.named.result) ∙ h.left.order

  each_numbered : All (λ m. slice_index s.left.vars m ≡ m) (modes_of (format_of formats 0))
  each_numbered k d inside =
      let below = h.format.order.below k d inside in
      numbered (slice_index_or (modes_of (format_of formats 0)) k d) (omega (arith, below, many))

  pub keys_are_modes : (order : List ℕ) → IsLoopOrder (length s.vars) (statement_edges s formats) order
      → left_in_order s order ≡ modes_of (format_of formats 0)
  keys_are_modes order loops =
      (level_keys s formats h order loops).order
      ∙ unmoved (slice_index s.left.vars) (modes_of (format_of formats 0)) each_numbered
