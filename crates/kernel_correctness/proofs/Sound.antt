-- Right kernels are sound.
use Rattle.std.specs.Prelude.{◌≡◌, ◌+◌, ◌<◌, ℕ, suc, List, [], ◌∷◌, All}
use Rattle.std.proofs.Common.{◌∙◌, sym, ap, subst, arith}
use Rattle.std.proofs.lemmas.List.Elements.{All-cons}
use Rattle.numbers.specs.Arithmetic.{Arithmetic}
use Rattle.kernel_code.specs.declared.syntax.Kernel.{Kernel}
use Rattle.kernel_code.specs.Kernels.{KernelOutcome, Finished, GotStuck, TooLong, NotFinished}
use Rattle.level_core.specs.Meaning.{Arrays}
use Rattle.level_core.specs.declared.letter.Letter.{Letter}
use Rattle.level_rows.specs.Stacks.{Column}
use Rattle.level_rows.proofs.StackLaws.{place_within}
use Rattle.format_spec.specs.Formats.{letters_of, IsFormat}
use Rattle.format_spec.specs.declared.format.FormatLevel.{FormatLevel}
use Rattle.expr_terms.specs.Nested.{flat}
use Rattle.index_notation.specs.declared.syntax.Statement.{Statement}
use Rattle.concrete_notation.specs.Contributions.{Inputs}
use Rattle.tensor_storage.specs.Built.{counts_of, AreBuilt}
use Rattle.tensor_storage.specs.Chains.{chain_length}
use Rattle.tensor_storage.specs.Counts.{positions_at, positions_from, last_of}
use Rattle.tensor_storage.specs.Laws.{laws}
use Rattle.tensor_storage.specs.declared.level.StorageLevel.{StorageLevel}
use Rattle.tensor_storage.specs.Levels.{meaning}
use Rattle.tensor_storage.specs.Stands.{row_from}
use Rattle.tensor_storage.specs.Storages.{storage_of}
use Rattle.tensor_storage.specs.Tables.{Table}
use Rattle.storage_arrays.specs.Arrays.{positions_in}
use Rattle.storage_arrays.proofs.Packed.{packed_are_done, positions_same, heads, tails}
use Rattle.kernel_correctness.specs.Laws.{RightIsSound}
use Rattle.kernel_correctness.specs.Kernels.{IsRightFor, IsRightOutcome, IsRightOutcomeFor, IsSoundKernel, IsSoundOutcome}
use Rattle.kernel_correctness.specs.Results.{LeavesResult, LeavesStorage, positions_below}
use Rattle.kernel_correctness.specs.Stores.{Store, told_by, result_sizes}

-- the last level has as many positions as the rows tell
many_below : (table : Table) (letters : List Letter) (sizes : List ℕ) (ls : List StorageLevel) (cs : List Column) (d : ℕ)
    (parent : ℕ → ℕ) (parents : ℕ) → AreBuilt meaning table d parent parents letters ls cs
    → counts_of cs ≡ positions_from table d parents letters sizes → ((i : ℕ) → i < table.count → parent i < parents)
    → last_of parents (positions_from table d parents letters sizes) ≡ positions_below parents ls
many_below table letters sizes [] [] d parent parents built counts within = none_behind letters sizes counts
  where
    none_behind : (letters : List Letter) (sizes : List ℕ) → [] ≡ positions_from table d parents letters sizes
        → last_of parents (positions_from table d parents letters sizes) ≡ parents
    none_behind letters sizes none = ap (last_of parents) (sym none)
many_below table letters sizes [] (c ∷ cs) d parent parents built counts within = absurd built
many_below table letters sizes (l ∷ ls) [] d parent parents built counts within = absurd built
many_below table [] sizes (l ∷ ls) (c ∷ cs) d parent parents built counts within = absurd built
many_below table (letter ∷ letters) [] (l ∷ ls) (c ∷ cs) d parent parents built counts within = absurd (cc)
many_below table (letter ∷ letters) (size ∷ sizes) (l ∷ ls) (c ∷ cs) d parent parents built counts within =
    let n : ℕ = d + chain_length (letter ∷ letters) in
    let positions : ℕ = positions_at table d parents letter letters size in
    let rest : List ℕ = positions_from table (suc d) positions letters sizes in
    let is : c.positions ≡ positions = heads c.positions positions (counts_of cs) rest counts in
    let others : counts_of cs ≡ rest = tails c.positions positions (counts_of cs) rest counts in
    let same = positions_same table l d n parent parents c letter letters size built.0 is within in
    let below = many_below table letters sizes ls cs (suc d) c.place c.positions built.1
    (subst (λ (k : ℕ). counts_of cs ≡ positions_from table (suc d) k letters sizes) (sym is) others)
    (place_within meaning laws table.count l c parent parents built.0.stores within) in
    subst (λ (k : ℕ). last_of k (positions_from table (suc d) k letters sizes) ≡ positions_below (positions_in parents l) ls) is
    (below ∙ ap (λ (k : ℕ). positions_below k ls) same)

-- each level that is built keeps the rules of its kind
all_keep : (table : Table) (d : ℕ) (parent : ℕ → ℕ) (parents : ℕ) (letters : List Letter) (ls : List StorageLevel) (cs : List Column)
    → AreBuilt meaning table d parent parents letters ls cs → All meaning.keeps ls
all_keep table d parent parents letters [] cs built = λ k l below. absurd (omega (arith, below))
all_keep table d parent parents letters (l ∷ ls) [] built = absurd built
all_keep table d parent parents [] (l ∷ ls) (c ∷ cs) built = absurd built
all_keep table d parent parents (letter ∷ letters) (l ∷ ls) (c ∷ cs) built =
    All-cons meaning.keeps l ls built.0.keeps (all_keep table (suc d) c.place c.positions letters ls cs built.1)

keeps_rules : (a : Arithmetic) (s : Statement) (inputs : Inputs) (store : Store) (arrays : Arrays) → IsFormat store.format
    → LeavesResult a s inputs store arrays → LeavesStorage a.zero store arrays
keeps_rules a s inputs store arrays is_format left = record {
  levels = left.levels;
  values = left.values;
  is_left = left.is_left;
  storage = record { format = is_format; letters = left.letters; opened = left.packed.stands.opened };
  keeps = all_keep left.table 0 (λ i. 0) 1 (letters_of store.format) left.levels left.packed.stands.columns left.packed.stands.built;
  sizes = left.packed.sizes;
  done = packed_are_done a.zero store.format store.ranges left.table (storage_of store.format left.levels left.values) left.packed;
  many = left.packed.stands.many
      ∙ many_below left.table (letters_of store.format) (result_sizes store) left.levels left.packed.stands.columns 0 (λ i. 0) 1
      left.packed.stands.built left.packed.stands.counted (λ i l. omega arith);
  zeros = λ pos below none.
      left.packed.stands.zeros pos below (λ i l p. none (row_from left.table.coords i 0 (letters_of store.format)) p);
}

sound_outcome : (a : Arithmetic) (s : Statement) (inputs : Inputs) (store : Store) (o : KernelOutcome)
    → IsFormat store.format → IsRightOutcome a s inputs store o → IsSoundOutcome a.zero store o
sound_outcome a s inputs store (Finished arrays turns) is_format r = keeps_rules a s inputs store arrays is_format r
sound_outcome a s inputs store (GotStuck statement) is_format r = absurd r
sound_outcome a s inputs store (TooLong place count) is_format r = tt
sound_outcome a s inputs store NotFinished is_format r = absurd r

pub right_is_sound : RightIsSound
right_is_sound a s formats kernel right store is arrays given =
    let e = right store is arrays given in
    record {
      turns = e.turns;
      outcome = e.outcome;
      is = e.is;
      appends = e.appends;
      so = sound_outcome a s (told_by a s store) store e.outcome is.format e.so;
    }

-- so is one that is right for a written statement
outcome_for : (a : Arithmetic) (s : Statement) (formats : List (List FormatLevel)) (store : Store) (o : KernelOutcome)
    → IsFormat store.format → IsRightOutcomeFor a s formats store o → IsSoundOutcome a.zero store o
outcome_for a s formats store (Finished arrays turns) is_format r =
    keeps_rules a (flat s) (told_by a (flat s) store) store arrays is_format r
outcome_for a s formats store (GotStuck statement) is_format r = absurd r
outcome_for a s formats store (TooLong place count) is_format r = tt
outcome_for a s formats store NotFinished is_format r = absurd r

pub right_for_is_sound : (a : Arithmetic) (s : Statement) (formats : List (List FormatLevel)) (kernel : Kernel)
    → IsRightFor a s formats kernel → IsSoundKernel a (flat s) formats kernel
right_for_is_sound a s formats kernel right store is arrays given =
    let e = right store is arrays given in
    record {
      turns = e.turns;
      outcome = e.outcome;
      is = e.is;
      appends = e.appends;
      so = outcome_for a s formats store e.outcome is.format e.so;
    }
