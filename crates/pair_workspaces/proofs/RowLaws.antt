-- A row that is pushed is held with those before it.
use Rattle.std.specs.Prelude.{ℕ, List, [], ◌∷◌}
use Rattle.lists.proofs.Each.{each_append}
use Rattle.kernel_code.specs.declared.syntax.KStmt.{KStmt}
use Rattle.kernel_code.proofs.Does.{does_weaker}
use Rattle.result_targets.specs.Sinks.{AddsTo}
use Rattle.term_code.specs.WorkspaceSinks.{workspace_sink}
use Rattle.sparse_results.specs.Tables.{IsRow}
use Rattle.pair_workspaces.specs.Sinks.{PairSink, pair_sink}

pub adds_pairs : (k : PairSink) (keys : List ℕ) (value free : ℕ) (code : List KStmt)
    → AddsTo workspace_sink (record { number = k.number; keys = k.keys }) keys value free code → AddsTo pair_sink k keys value free code
adds_pairs k keys value free code adds c laws mine ranges rows row takes s vars value_is holds =
    does_weaker c code s _ _ _ _
    (adds c laws (λ y none. absurd none) ranges rows row takes.many s vars value_is holds.held)
    (λ t h. (h.0, record { held = h.1; each = each_append (IsRow k.keys) rows (row ∷ []) holds.each (takes, tt) })) (λ t b count r. r)
