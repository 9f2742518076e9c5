-- Places before all loops, and the loops of a statement, are such as code of loops is made from.
use Rattle.std.specs.Prelude.{◌≡◌, ◌≢◌, ℕ, zero, suc, ◌+◌, ◌^◌, ◌≤◌, ◌<◌, Bool, false, List, [], ◌∷◌, length, All, Some, map}
use Rattle.std.specs.Prelude.{replicate, slice_get, refl}
use Rattle.std.proofs.Common.{◌∙◌, sym, ap, subst, arith}
use Rattle.format_spec.specs.declared.format.FormatLevel.{FormatLevel}
use Rattle.format_spec.specs.Formats.{modes_of}
use Rattle.index_notation.specs.Statement.{IsNumbered, IsWellNamed}
use Rattle.index_notation.specs.declared.syntax.Access.{Access}
use Rattle.index_notation.specs.declared.syntax.Statement.{Statement}
use Rattle.iteration_graph.specs.Edges.{HasFormat, format_of}
use Rattle.limits.specs.Limits.{greatest_order}
use Rattle.lists.specs.Each.{Each}
use Rattle.nested_sums.specs.Pieces.{HasMeaningWithSums}
use Rattle.nested_sums.proofs.MeaningOfSums.{parts_meant}
use Rattle.lowering.specs.Sums.{SuitsFormats}
use Rattle.kernel_correctness.specs.Stores.{IsFlat}
use Rattle.kernel_correctness.proofs.FlatStores.{flat_sums}
use Rattle.loop_code.specs.declared.loops.LoopCode.{LoopCode}
use Rattle.term_code.specs.declared.places.AccessPlace.{AccessPlace}
use Rattle.term_code.specs.declared.places.Places.{Places}
use Rattle.term_code.specs.Places.{new_access}
use Rattle.dense_results.specs.Kernels.{AreAtBase}
use Rattle.dense_results.specs.Operands.{first_summed}
use Rattle.dense_results.proofs.Loops.{lowered_loops_go_through}
use Rattle.kernel_emit.specs.Given.{LoopsFit, PlacesFit}
use Rattle.taco_compiler.specs.Loops.{AreLoopsOf}
use Rattle.taco_compiler.proofs.Others.{seeks_others}

each_all : {X : Type 0} (P : X → Type 0) (xs : List X) → Each P xs → All P xs
each_all P [] h k d l = absurd (omega (arith, l))
each_all P (x ∷ xs) h zero d l = h.0
each_all P (x ∷ xs) h (suc k) d l = each_all P xs h.1 k d (omega (arith, l))

pub map_long : {X Y : Type 0} (f : X → Y) (xs : List X) → length (map f xs) ≡ length xs
map_long f [] = refl
map_long f (x ∷ xs) = ap suc (map_long f xs)

replicate_long : (n x : ℕ) → length (replicate n x) ≡ n
replicate_long zero x = refl
replicate_long (suc n) x = ap suc (replicate_long n x)

replicate_below : (n x y : ℕ) → x < y → All (λ z. z < y) (replicate n x)
replicate_below zero x y l k d h = absurd (omega (arith, h))
replicate_below (suc n) x y l zero d h = l
replicate_below (suc n) x y l (suc k) d h = replicate_below n x y l k d (omega (arith, h))

some_same : (p q : AccessPlace) → Some p ≡ Some q → p ≡ q
some_same p q h = cc

-- variables of the statement, as many as there are keys
pub record IsTarget (s : Statement) (target : List ℕ) (keys : ℕ) : Type 0 where
  pub within : All (λ v. v < length s.vars) target
  pub short : length target ≤ greatest_order
  pub many : length target ≡ keys

-- the place of each access before all loops is at the base, of its tensor
record IsPlace (base : ℕ) (p : AccessPlace) : Type 0 where
  operand : 0 < p.tensor
  base_is : p.cursor ≡ base

place_is : (base real : ℕ) (accesses : List Access) → Each (λ (a : Access). a.tensor ≢ 0) accesses → (k : ℕ) (p : AccessPlace)
    → slice_get (map (new_access base real) (map (λ (a : Access). a.tensor) accesses)) k ≡ Some p → IsPlace base p
place_is base real [] each k p is = absurd (cc is)
place_is base real (a ∷ accesses) each zero p is =
    let same = some_same (new_access base real a.tensor) p is in
    subst (IsPlace base) same (record { operand = positive a.tensor each.0; base_is = refl })
  where
    positive : (n : ℕ) → n ≢ 0 → 0 < n
    positive n other = omega (arith, other)
place_is base real (a ∷ accesses) each (suc k) p is = place_is base real accesses each.1 k p is

pub places_fit : (s : Statement) (formats : List (List FormatLevel)) (places : Places) (base : ℕ) (target : List ℕ) (keys : ℕ)
    → IsNumbered s → IsWellNamed s → Each (SuitsFormats formats) s.accesses → places.variables ≡ replicate (length s.vars) base
    → AreAtBase s base places → base + 3 ≤ 2 ^ 62 → IsTarget s target keys → PlacesFit s formats places target keys (base + 3)
places_fit s formats places base target keys numbered named right variables at room t = record {
  numbered = numbered;
  have_formats = right;
  accesses = ap length at ∙ map_long (new_access base (first_summed s)) (map (λ (a : Access). a.tensor) s.accesses)
      ∙ map_long (λ (a : Access). a.tensor) s.accesses;
  variables = ap length variables ∙ replicate_long (length s.vars) base;
  operands = λ k p is. (place k p is).operand;
  target_within = t.within;
  short = t.short;
  many = t.many;
  below = record {
    variables = subst (All (λ y. y < base + 3)) (sym variables) (replicate_below (length s.vars) base (base + 3) (omega arith));
    accesses = λ k p is. let at_base = (place k p is).base_is in omega (arith, at_base);
  };
  room = room;
}
  where
    place : (k : ℕ) (p : AccessPlace) → slice_get places.accesses k ≡ Some p → IsPlace base p
    place k p is = place_is base (first_summed s) s.accesses named.unread k p (ap (λ ps. slice_get ps k) (sym at) ∙ is)

-- the left variables are the target of a dense result, which has a mode for each
pub left_is_target : (s : Statement) (formats : List (List FormatLevel)) (modes : List ℕ) → IsNumbered s → HasFormat formats s.left
    → modes ≡ modes_of (format_of formats s.left.tensor) → IsTarget s s.left.vars (length modes)
left_is_target s formats modes numbered left modes_are = record {
  within = each_all (λ v. v < length s.vars) s.left.vars numbered.left.vars_stand;
  short = numbered.left.order;
  many = sym left.order ∙ sym (ap length modes_are ∙ map_long (λ (l : FormatLevel). l.mode) (format_of formats s.left.tensor));
}

pub loops_fit : (has_minus : Bool) (s : Statement) (formats : List (List FormatLevel)) (order : List ℕ) (loops : LoopCode)
    → IsNumbered s → IsFlat s formats → HasMeaningWithSums has_minus s → AreLoopsOf s formats order loops
    → LoopsFit has_minus s formats loops
loops_fit has_minus s formats order loops numbered flat meaning l =
    let sums = flat_sums s formats flat in
    let parts = parts_meant has_minus s meaning in
    let through = lowered_loops_go_through s numbered formats sums l.concrete
    (record { order = order; is_order = l.is_order; terms = l.terms; inner = l.inner }) loops l.shape l.starts has_minus in
    record {
      bound = [];
      depth = λ k. 0;
      placed = l.placed;
      variables = through.variables;
      meant = through.meant parts.0 parts.1;
      sums = seeks_others s formats sums [] [] (λ k. 0) (λ k. false) loops l.placed l.starts;
    }
