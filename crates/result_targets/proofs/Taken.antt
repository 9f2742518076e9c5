-- Rows that a sink takes one behind another.
use Rattle.std.specs.Prelude.{ℕ, List, [], ◌∷◌, ◌++◌, All}
use Rattle.std.proofs.Common.{sym, subst}
use Rattle.std.proofs.lemmas.List.{append-nil, append_assoc}
use Rattle.std.proofs.lemmas.List.Elements.{All-head, All-tail}
use Rattle.tensor_map.specs.Entries.{Entry}
use Rattle.result_targets.specs.Sinks.{Sink, TakesAll}

module _ {K : Type 0} (sink : Sink K) (k : K) (ranges : List ℕ) where
  -- of two lists the first is taken, and then the second
  pub takes_first : (before xs ys : List Entry) → TakesAll sink k ranges before (xs ++ ys) → TakesAll sink k ranges before xs
  takes_first before [] ys h = tt
  takes_first before (x ∷ xs) ys h = (h.0, takes_first (before ++ x ∷ []) xs ys h.1)

  pub takes_second : (before xs ys : List Entry) → TakesAll sink k ranges before (xs ++ ys) → TakesAll sink k ranges (before ++ xs) ys
  takes_second before [] ys h = subst (λ rows. TakesAll sink k ranges rows ys) (sym (append-nil before)) h
  takes_second before (x ∷ xs) ys h =
      subst (λ rows. TakesAll sink k ranges rows ys) (append_assoc before (x ∷ []) xs)
      (takes_second (before ++ x ∷ []) xs ys h.1)

  -- rows are taken of which each is, whatever is held
  pub takes_each : (P : Entry → Type 0) → ((before : List Entry) (row : Entry) → P row → sink.takes k ranges before row)
      → (before rows : List Entry) → All P rows → TakesAll sink k ranges before rows
  takes_each P each before [] all = tt
  takes_each P each before (row ∷ rows) all =
      (each before row (All-head P row rows all), takes_each P each (before ++ row ∷ []) rows (All-tail P row rows all))
