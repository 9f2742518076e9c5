-- The laws of sinks.
use Rattle.std.specs.Prelude.{ℕ, ◌+◌, List, [], ◌∷◌, refl}
use Rattle.std.proofs.Common.{◌∙◌, arith}
use Rattle.std.proofs.lemmas.List.{length-append}
use Rattle.kernel_code.specs.declared.syntax.Arr.TheVariants.{Values, Dimension, Key, Sums}
use Rattle.kernel_code.specs.Meaning.{State}
use Rattle.tns_io.proofs.PositionLaws.{below_long}
use Rattle.result_targets.specs.Scratch.{SameButLists}
use Rattle.result_targets.specs.Sinks.{SinkLaws}
use Rattle.term_code.specs.DenseSinks.{HasSizes, by_level, dense_sink}
use Rattle.term_code.specs.SumSinks.{sum_sink}
use Rattle.term_code.specs.WorkspaceSinks.{workspace_sink}

pub workspace_laws : SinkLaws workspace_sink
workspace_laws = record {
  long = λ k ranges rows row h. h;
  same = λ k a ranges rows s t f g h. record {
    key = λ j l. g.same (Key k.number j) refl ∙ h.key j l;
    sums = g.same (Sums k.number) refl ∙ h.sums;
    few = h.few;
  };
  more = λ k ranges rows others b count r. record {
    array = r.array;
    above = r.above;
    within = let l = length-append rows others in
        let b = r.within in omega (arith, l, b);
  };
}

sizes_kept : (level : ℕ) (ns : List ℕ) (s t : State) → SameButLists s t → HasSizes level ns s.arrays → HasSizes level ns t.arrays
sizes_kept level [] s t g h = tt
sizes_kept level (n ∷ ns) s t g h = (g.same (Dimension 0 level) refl ∙ h.0, sizes_kept (level + 1) ns s t g h.1)

pub dense_laws : SinkLaws dense_sink
dense_laws = record {
  long = λ k ranges rows row h. below_long ranges row.coords h.below ∙ h.many;
  same = λ k a ranges rows s t f g h. record {
    sizes = sizes_kept 1 (by_level k.modes ranges) s t g h.sizes;
    words = h.words;
    held = g.same (Values 0) refl ∙ h.held;
    long = h.long;
    few = h.few;
    each = h.each;
  };
  more = λ k ranges rows others b count r. r;
}

pub sum_laws : SinkLaws sum_sink
sum_laws = record {
  long = λ k ranges rows row h. h;
  same = λ k a ranges rows s t f g h. record {
    there = f k.at (omega arith, omega arith) ∙ h.there;
    total = f (k.at + 1) (omega arith, omega arith) ∙ h.total;
  };
  more = λ k ranges rows others b count r. r;
}
