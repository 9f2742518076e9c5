-- The laws of a workspace of one key as a sink.
use Rattle.std.specs.Prelude.{refl}
use Rattle.std.proofs.Common.{◌∙◌, arith}
use Rattle.std.proofs.lemmas.List.{length-append}
use Rattle.kernel_code.specs.declared.syntax.Arr.TheVariants.{Range}
use Rattle.tns_io.proofs.PositionLaws.{below_long}
use Rattle.result_targets.specs.Sinks.{SinkLaws}
use Rattle.touched_workspaces.specs.DrainedLaws.{not_scratch, rows_held}
use Rattle.touched_workspaces.specs.Sinks.{touched_sink}

pub touched_laws : SinkLaws touched_sink
touched_laws = record {
  long = λ k ranges rows row h. below_long ranges row.coords h.below ∙ h.one;
  same = λ k a ranges rows s t f g h.
      rows_held k a s t (λ b of. g.same b (not_scratch k b of)) (g.same Range refl) ranges rows h;
  more = λ k ranges rows others b count r. record {
    large = r.large;
    passes = record {
      array = r.passes.array;
      above = r.passes.above;
      within = let l = length-append rows others in let w = r.passes.within in omega (arith, l, w);
    };
  };
}
