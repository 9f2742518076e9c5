-- The laws of a workspace of pairs as a sink.
use Rattle.std.specs.Prelude.{refl}
use Rattle.std.proofs.Common.{◌∙◌}
use Rattle.kernel_code.specs.declared.syntax.Arr.TheVariants.{Key, Sums}
use Rattle.result_targets.specs.Sinks.{SinkLaws}
use Rattle.term_code.specs.SinkLaws.{workspace_laws}
use Rattle.pair_workspaces.specs.Sinks.{pair_sink}

pub pair_laws : SinkLaws pair_sink
pair_laws = record {
  long = λ k ranges rows row h. h.many;
  same = λ k a ranges rows s t f g h. record {
    held = record {
      key = λ j l. g.same (Key k.number j) refl ∙ h.held.key j l;
      sums = g.same (Sums k.number) refl ∙ h.held.sums;
      few = h.held.few;
    };
    each = h.each;
  };
  more = λ k ranges rows others b count r. workspace_laws.more (record { number = k.number; keys = k.keys }) ranges rows others b count r;
}
