-- What is left where a storage could be made of what was handed over.
use Rattle.std.specs.Prelude.{◌≡◌, ℕ, List, length, map, replicate, Option, Some, None, MatchOption, Result, Ok, Err, MatchResult}
use Rattle.std.proofs.Common.{◌∙◌, sym, ap, subst, inr}
use Rattle.std.proofs.lemmas.List.{length-map}
use Rattle.numbers.specs.Arithmetic.{Arithmetic}
use Rattle.kernel_code.specs.declared.syntax.Arr.TheVariants.{Values}
use Rattle.kernel_code.specs.declared.syntax.Kernel.{Kernel}
use Rattle.kernel_code.specs.declared.syntax.Turns.{Turns}
use Rattle.kernel_code.specs.Kernels.{Finished, go}
use Rattle.level_core.specs.Meaning.{Arrays}
use Rattle.format_spec.specs.Formats.{letters_of}
use Rattle.tensor_storage.specs.Handed.{no_words}
use Rattle.tensor_storage.specs.Storages.{Storage}
use Rattle.storage_builder.specs.Building.{Building, building}
use Rattle.storage_builder.specs.Checked.{IsWhole}
use Rattle.storage_builder.proofs.Wholes.{handed_done}
use Rattle.kernel_interpreter.specs.Store.{count_of}
use Rattle.kernel_correctness.specs.Results.{summed}
use Rattle.kernel_correctness.specs.Stores.{Store, result_sizes}
use Rattle.kernel_machine.specs.declared.checked_fault.CheckedFault.{CheckedFault}
use Rattle.kernel_machine.specs.declared.checked_fault.CheckedFault.TheVariants.{Trap, Budget, SizeLimit, BadStore, Memory}
use Rattle.kernel_machine.specs.declared.prepared.Prepared.{Prepared}
use Rattle.kernel_machine.specs.Begins.{IsReadyFor}
use Rattle.kernel_machine.specs.Checked.{HasStarted, LeavesWhole, AreTheArrays, IsEndOf, IsRunFault, IsCheckedRun, IsFaultOfRun}
use Rattle.kernel_machine.specs.Checked.{IsCheckedFault}
use Rattle.kernel_machine.specs.Runs.{WasHanded, AreThese, IsMadeFrom}
use Rattle.kernel_machine.proofs.Finishes.{many}
use Rattle.kernel_machine.proofs.Held.{levels_held, values_there, handed_keep, handed_sizes}
use Rattle.kernel_machine.proofs.Tensors.{new_building, new_parts}

pub leaves_whole : (nothing : ℕ) (store : Store) (before after : Arrays) (old new : Building) (values : List ℕ)
    → HasStarted nothing store before → old ≡ building store.format (result_sizes store) (replicate (length store.format) no_words)
    → WasHanded old before new after → ((xs : List ℕ) → after (Values 0) ≡ Some xs → xs ≡ values) → IsWhole nothing new values
    → LeavesWhole nothing store before
leaves_whole nothing store before after old new values started is handed words w =
    let k = subst (λ b. IsWhole nothing b values) (new_building store before after old new is handed) w in
    let letters = letters_of store.format in
    let sizes = result_sizes store in
    let long : length sizes ≡ length letters =
    length-map store.format (λ level. _) ∙ sym (length-map store.format (λ level. level.letter)) in
    let there = values_there letters sizes 1 1 nothing started.given before started.is_given.result started.kept in
    let same = words there.0 (handed.others (Values 0) (λ n h. h) ∙ there.1) in
    record {
      left = record {
        levels = k.levels;
        values = values;
        is_left = record {
          held = levels_held letters sizes new.parts k.levels 1 1 1 nothing started.given before k.handed
              (new_parts store before after old new is handed) started.is_given.result started.kept;
          values_held = there.1 ∙ ap Some same;
        };
        storage = k.whole;
        keeps = handed_keep letters sizes new.parts 1 k.levels k.handed;
        sizes = handed_sizes letters sizes new.parts 1 k.levels long k.handed;
        done = handed_done letters sizes new.parts 1 k.levels k.handed;
        many = k.many ∙ sym (many k.levels 1);
        zeros = k.zeros;
      };
      widths = k.widths;
    }

-- what is said of an answer that is there or isn't, and what follows of it
pub match_both : {X : Type 0} (o : Option X) (A B : Type 0) (P Q : X → Type 0) → (A → B) → ((x : X) → P x → Q x) → MatchOption o A P
    → MatchOption o B Q
match_both None A B P Q f g h = f h
match_both (Some x) A B P Q f g h = g x h

pub told_some : {X : Type 0} (o : Option X) (x : X) (A : Type 0) (P : X → Type 0) → o ≡ Some x → MatchOption o A P → P x
told_some o x A P is m = subst (λ p. MatchOption p A P) is m

pub told_none : {X : Type 0} (o : Option X) (A : Type 0) (P : X → Type 0) → o ≡ None → MatchOption o A P → A
told_none o A P is m = subst (λ p. MatchOption p A P) is m

pub match_results : {X E : Type 0} (r : Result X E) (P Q : X → Type 0) (F G : E → Type 0) → ((x : X) → P x → Q x)
    → ((e : E) → F e → G e) → MatchResult r P F → MatchResult r Q G
match_results (Ok x) P Q F G f g m = f x m
match_results (Err e) P Q F G f g m = g e m

-- the run ends so
pub end_of : (a : Arithmetic) (kernel : Kernel) (store : Store) (given arrays : Arrays) (budget : ℕ) (builder : Building) (t : Storage)
    (turns : Turns) → go a (length store.format) kernel given budget ≡ Finished arrays (count_of turns)
    → builder ≡ building store.format (result_sizes store) (replicate (length store.format) no_words)
    → IsMadeFrom builder.format builder.sizes arrays t → LeavesWhole a.zero store arrays → IsEndOf a kernel store given budget t turns
end_of a kernel store given arrays budget builder t turns ends is made whole = record {
  run = record {
    arrays = arrays;
    ends = ends;
    format_is = made.format_is ∙ ap (λ (b : Building). b.format) is;
    is_left = record { held = made.held; values_held = made.values };
    storage = made.storage;
    done = made.done;
    keeps = made.keeps;
    sizes = made.sizes_are ∙ ap (λ (b : Building). b.sizes) is;
    alike = subst (λ (b : Building). AreThese (letters_of b.format) b.sizes (summed arrays) t.levels) is made.alike;
  };
  whole = whole;
}

-- what a run comes to, of a kernel that stands ready on a store
module _ (a : Arithmetic) (kernel : Kernel) (store : Store) (budget : ℕ) (p : Prepared) (ready : IsReadyFor a kernel store p) where
  are_these : AreTheArrays a.zero store ready.starts.given
  are_these = record { is_given = ready.starts.is_given; no_more = ready.starts.no_more }

  pub checked_run : (t : Storage) (turns : Turns) → IsEndOf a kernel store ready.starts.given budget t turns
      → IsCheckedRun a kernel store budget t turns
  checked_run t turns e = record { few = ready.few; given = ready.starts.given; are = are_these; ends = e }

  fault_of : (f : CheckedFault) → IsRunFault a kernel store ready.starts.given budget f → IsFaultOfRun a kernel store budget f
  fault_of f is = record { few = ready.few; given = ready.starts.given; are = are_these; fault_is = is }

  pub checked_fault : (f : CheckedFault) → IsRunFault a kernel store ready.starts.given budget f → IsCheckedFault a kernel store budget f
  checked_fault (Trap statement) is = fault_of (Trap statement) is
  checked_fault Budget is = fault_of Budget is
  checked_fault (SizeLimit place count) is = inr (fault_of (SizeLimit place count) is)
  checked_fault BadStore is = fault_of BadStore is
  checked_fault Memory is = tt

-- the kernel that stands ready is the one that was given
pub ready_itself : (a : Arithmetic) (kernel : Kernel) (store : Store) (p : Prepared) → IsReadyFor a kernel store p
    → IsReadyFor a p.kernel.now store p
ready_itself a kernel store p ready = subst (λ k. IsReadyFor a k store p) (sym ready.kernel_is) ready

pub checked_answer : (a : Arithmetic) (kernel : Kernel) (store : Store) (budget : ℕ) (p : Prepared)
    (r : Result (Storage × Turns) CheckedFault)
    → IsReadyFor a kernel store p
    → ((store : Store) (ready : IsReadyFor a p.kernel.now store p) → MatchResult r
    (λ x. IsEndOf a p.kernel.now store ready.starts.given budget x.0 x.1) (IsRunFault a p.kernel.now store ready.starts.given budget))
    → MatchResult r (λ x. IsCheckedRun a kernel store budget x.0 x.1) (IsCheckedFault a kernel store budget)
checked_answer a kernel store budget p r ready ran =
    let own = ready_itself a kernel store p ready in
    subst (λ k. MatchResult r (λ x. IsCheckedRun a k store budget x.0 x.1) (IsCheckedFault a k store budget)) ready.kernel_is
    (match_results r _ _ _ _ (λ x e. checked_run a p.kernel.now store budget p own x.0 x.1 e)
    (λ f e. checked_fault a p.kernel.now store budget p own f e) (ran store own))
