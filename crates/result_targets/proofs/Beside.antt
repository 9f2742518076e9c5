-- The laws of sinks beside scratch lists.
use Rattle.std.specs.Prelude.{ℕ}
use Rattle.result_targets.specs.Beside.{beside}
use Rattle.result_targets.specs.Sinks.{Sink, SinkLaws}
use Rattle.result_targets.proofs.Scratch.{list_stays}

-- they are those of the sinks
pub beside_laws : {K W : Type 0} (of : W → K) (first past : W → ℕ) (sink : Sink K) → SinkLaws sink → SinkLaws (beside of first past sink)
beside_laws of first past sink laws = record {
  long = λ w ranges rows row h. laws.long (of w) ranges rows row h;
  same = λ w a ranges rows s t f same h. (
    laws.same (of w) a ranges rows s t f same h.0,
    λ list l m. list_stays list s t same.there (h.1 list l m),
  );
  more = λ w ranges rows others b count r. laws.more (of w) ranges rows others b count r;
}
