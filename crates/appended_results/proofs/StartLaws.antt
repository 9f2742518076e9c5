-- Before the first row a result holds no rows.
use Rattle.std.specs.Prelude.{◌≡◌, ℕ, suc, List, [], length, replicate, slice_index}
use Rattle.std.specs.Prelude.{refl}
use Rattle.std.proofs.Common.{◌∙◌, sym, subst, arith}
use Rattle.std.proofs.lemmas.List.{length-replicate}
use Rattle.numbers.specs.Arithmetic.{Arithmetic}
use Rattle.kernel_code.specs.Meaning.{State}
use Rattle.kernel_code.specs.declared.syntax.Arr.TheVariants.{Values}
use Rattle.level_core.specs.declared.letter.Letter.{Letter}
use Rattle.level_core.specs.Kinds.{parents_below}
use Rattle.tensor_storage.specs.Storages.{in_level_order}
use Rattle.appended_results.specs.Heads.{letter_at}
use Rattle.appended_results.specs.Rows.{all_positions}
use Rattle.appended_results.specs.Begins.{Beginning}
use Rattle.appended_results.specs.Results.{HoldsRows}
use Rattle.appended_results.specs.Sink.{AppendedSink, letters_in, appended_sink}
use Rattle.appended_results.specs.SinkLaws.{many_letters}
use Rattle.appended_results.specs.Starts.{starting, MayStart, StartsResult}
use Rattle.appended_results.proofs.BeginLaws.{nothing_appended}

-- how many positions there are from level to level, as a kernel counts them
pub starting_below : (letters : List Letter) (sizes : List ℕ) (d : ℕ)
    → starting letters sizes (suc d) ≡ parents_below (letter_at letters d) (slice_index sizes d) (starting letters sizes d)
starting_below letters sizes d = refl

pub holds_none : (a : Arithmetic) (letters : List Letter) (sizes : List ℕ) (head base nothing top : ℕ) (s0 s : State)
    → MayStart letters sizes head → a.zero ≡ nothing → StartsResult letters sizes nothing s0.arrays
    → Beginning letters (length letters) base top (length letters) s0 s → HoldsRows a letters sizes head base nothing [] s
holds_none a letters sizes head base nothing top s0 s may zeros starts b = record {
  heads = [];
  are = record {
    rise = λ i h. absurd (omega (arith, h));
    long = tt;
    each = λ i h. absurd (omega (arith, h));
    some = λ j h. absurd (omega (arith, h));
    last = λ i j is js. absurd (omega (arith, is));
  };
  may = record {
    is_head = may.is_head;
    appended = may.appended;
    chained = may.chained;
    each = may.each;
    small = may.small;
    rise = λ i h. absurd (omega (arith, h));
    below = λ d j h l. absurd (omega (arith, l));
  };
  holds = nothing_appended letters sizes head base top s0 s may.appended may.each may.small may.few starts.levels b;
  words = replicate (all_positions letters sizes []) nothing;
  held = b.leaves.arrays (Values 0) tt ∙ starts.values;
  sums = record { many = length-replicate (all_positions letters sizes []) nothing; each = λ j xs h below. absurd (omega (arith, h)) };
  zeros = zeros;
}

-- so does the sink, once the variables of its levels are set
pub sink_holds_none : (k : AppendedSink) (a : Arithmetic) (ranges : List ℕ) (top : ℕ) (s0 s : State)
    → MayStart (letters_in k) (in_level_order k.levels ranges) k.head → a.zero ≡ k.zero
    → StartsResult (letters_in k) (in_level_order k.levels ranges) k.zero s0.arrays
    → Beginning (letters_in k) (length k.levels) k.base top (length k.levels) s0 s → appended_sink.holds k a ranges [] s
sink_holds_none k a ranges top s0 s may zeros starts b =
    holds_none a (letters_in k) (in_level_order k.levels ranges) k.head k.base k.zero top s0 s may zeros starts
    (subst (λ m. Beginning (letters_in k) m k.base top m s0 s) (sym (many_letters k.levels)) b)
