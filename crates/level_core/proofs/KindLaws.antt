-- What the tables of kinds say: the one place that goes kind by kind, with a line for each in every list.
use Rattle.std.specs.Prelude.{◌≡◌, ℕ, ◌*◌, ◌≤◌, not, Bool, true, false, if◌then◌else◌, None, refl}
use Rattle.std.proofs.Common.{◌∙◌, ap, arith}
use Rattle.std.proofs.Math.Nat.{zero-mul, mul-le-mul_right}
use Rattle.kernel_code.specs.Widths.{slot_width}
use Rattle.kernel_code.specs.declared.syntax.Arr.{Arr}
use Rattle.kernel_code.specs.declared.syntax.Arr.TheVariants.{Dimension}
use Rattle.level_core.specs.Arrays.{LevelArray, OfSize, OfEnds, OfCoordinates, OfWidth, array_of}
use Rattle.level_core.specs.Fragments.{IsOf}
use Rattle.level_core.specs.Kinds.{Letter, Dense, Compressed, CompressedGroups, Singleton, SingletonGroups, Hashed}
use Rattle.level_core.specs.Kinds.{Properties, Capabilities, properties, capabilities, AreOfAKind, positions_for}
use Rattle.level_core.specs.Kinds.{parents_below, zeros_at_start}
use Rattle.level_core.specs.Laws.{AreAtStart}
use Rattle.level_core.specs.Meaning.{Arrays}

-- the second is true where the first is
abbrev gives : Bool → Bool → Bool
gives true b = b
gives false b = true

given : (a b : Bool) → gives a b ≡ true → a ≡ true → b ≡ true
given true b h is = h
given false b h is = cc

isnt : (b : Bool) → not b ≡ true → b ≡ false
isnt true h = cc
isnt false h = refl

-- what AreOfAKind says, field by field, as tests of which each is true of a kind
abbrev Tests : Properties → Capabilities → Type 0
Tests p c =
    (gives p.full p.ordered ≡ true) × (gives p.full (not p.branchless) ≡ true) × (gives p.full c.locate ≡ true)
    × (gives p.full c.insert ≡ true) × (gives (not p.full) c.position_iteration ≡ true) × (gives p.full (not c.position_iteration) ≡ true)
    × (gives p.ordered p.compact ≡ true) × (gives (not p.ordered) c.insert ≡ true) × (gives (not p.ordered) c.locate ≡ true)
    × (gives (not c.insert) c.append ≡ true) × (gives c.insert (not c.append) ≡ true) × (gives c.insert p.unique ≡ true)
    × (gives c.insert (not p.branchless) ≡ true) × (gives c.locate p.unique ≡ true)
    × (gives c.locate (not p.branchless) ≡ true) × (gives c.insert (gives (not p.full) (not p.ordered)) ≡ true)

-- every kind passes the tests
tests : (letter : Letter) → Tests (properties letter) (capabilities letter)
tests Dense = (refl, refl, refl, refl, refl, refl, refl, refl, refl, refl, refl, refl, refl, refl, refl, refl)
tests Compressed = (refl, refl, refl, refl, refl, refl, refl, refl, refl, refl, refl, refl, refl, refl, refl, refl)
tests CompressedGroups = (refl, refl, refl, refl, refl, refl, refl, refl, refl, refl, refl, refl, refl, refl, refl, refl)
tests Singleton = (refl, refl, refl, refl, refl, refl, refl, refl, refl, refl, refl, refl, refl, refl, refl, refl)
tests SingletonGroups = (refl, refl, refl, refl, refl, refl, refl, refl, refl, refl, refl, refl, refl, refl, refl, refl)
tests Hashed = (refl, refl, refl, refl, refl, refl, refl, refl, refl, refl, refl, refl, refl, refl, refl, refl)

-- one kind alone is full
pub full_is_dense : (letter : Letter) → (properties letter).full ≡ true → letter ≡ Dense
full_is_dense Dense h = refl
full_is_dense Compressed h = cc
full_is_dense CompressedGroups h = cc
full_is_dense Singleton h = cc
full_is_dense SingletonGroups h = cc
full_is_dense Hashed h = cc

-- and one alone stores coordinates that are inserted
pub inserted_is_hashed : (letter : Letter) → (capabilities letter).insert ≡ true → (properties letter).full ≡ false → letter ≡ Hashed
inserted_is_hashed Dense h g = cc
inserted_is_hashed Compressed h g = cc
inserted_is_hashed CompressedGroups h g = cc
inserted_is_hashed Singleton h g = cc
inserted_is_hashed SingletonGroups h g = cc
inserted_is_hashed Hashed h g = refl

-- a run makes no array of the size of a level
pub no_size : (letter : Letter) (parents : ℕ) → zeros_at_start letter OfSize parents ≡ None
no_size Dense parents = refl
no_size Compressed parents = refl
no_size CompressedGroups parents = refl
no_size Singleton parents = refl
no_size SingletonGroups parents = refl
no_size Hashed parents = refl

-- what follows for every kind, without asking which
pub are_of_a_kind : (letter : Letter) → AreOfAKind (properties letter) (capabilities letter)
are_of_a_kind letter =
    let p = properties letter in let c = capabilities letter in let t = tests letter in
    record {
      full_ordered = given p.full p.ordered t.0;
      full_branches = λ is. isnt p.branchless (given p.full (not p.branchless) t.1 is);
      full_located = given p.full c.locate t.2;
      full_inserted = given p.full c.insert t.3;
      stored = λ is. given (not p.full) c.position_iteration t.4 (ap not is);
      unstored = λ is. isnt c.position_iteration (given p.full (not c.position_iteration) t.5 is);
      ordered_compact = given p.ordered p.compact t.6;
      unordered_inserted = λ is. given (not p.ordered) c.insert t.7 (ap not is);
      unordered_located = λ is. given (not p.ordered) c.locate t.8 (ap not is);
      appended = λ is. given (not c.insert) c.append t.9 (ap not is);
      not_both = λ is. isnt c.append (given c.insert (not c.append) t.10 is);
      inserted_unique = given c.insert p.unique t.11;
      inserted_branches = λ is. isnt p.branchless (given c.insert (not p.branchless) t.12 is);
      located_unique = given c.locate p.unique t.13;
      inserted_unordered = λ inserts stored. isnt p.ordered (given (not p.full) (not p.ordered)
          (given c.insert (gives (not p.full) (not p.ordered)) t.15 inserts) (ap not stored));
      located_branches = λ is. isnt p.branchless (given c.locate (not p.branchless) t.14 is);
    }

clash : {A : Type 0} (b : Bool) → b ≡ true → b ≡ false → A
clash {A} b h g = absurd (no h g)
  where
    no : b ≡ true → b ≡ false → ⊥
    no h g = cc

-- what coordinates aren't appended to they are inserted into, and a level that they are appended to isn't full
pub inserted_else : (letter : Letter) → (capabilities letter).append ≡ false → (capabilities letter).insert ≡ true
inserted_else letter is = by (capabilities letter).insert refl
  where
    by : (b : Bool) → (capabilities letter).insert ≡ b → (capabilities letter).insert ≡ true
    by true e = e
    by false e = clash (capabilities letter).append ((are_of_a_kind letter).appended e) is

pub appended_stored : (letter : Letter) → (capabilities letter).append ≡ true → (properties letter).full ≡ false
appended_stored letter is = by (properties letter).full refl
  where
    by : (b : Bool) → (properties letter).full ≡ b → (properties letter).full ≡ false
    by true e = clash (capabilities letter).append is ((are_of_a_kind letter).not_both ((are_of_a_kind letter).full_inserted e))
    by false e = e

-- what coordinates are appended to they aren't inserted into, and stand in order
pub never_inserted : (letter : Letter) → (capabilities letter).append ≡ true → (capabilities letter).insert ≡ true → ⊥
never_inserted letter appends inserts = clash (capabilities letter).append appends ((are_of_a_kind letter).not_both inserts)

pub appended_ordered : (letter : Letter) → (capabilities letter).append ≡ true → (properties letter).ordered ≡ true
appended_ordered letter is = by (properties letter).ordered refl
  where
    by : (b : Bool) → (properties letter).ordered ≡ b → (properties letter).ordered ≡ true
    by true e = e
    by false e = absurd (never_inserted letter is ((are_of_a_kind letter).unordered_inserted e))

-- a level without order isn't full
pub unordered_stored : (letter : Letter) → (properties letter).ordered ≡ false → (properties letter).full ≡ false
unordered_stored letter is = by (properties letter).full refl
  where
    by : (b : Bool) → (properties letter).full ≡ b → (properties letter).full ≡ false
    by true e = clash (properties letter).ordered ((are_of_a_kind letter).full_ordered e) is
    by false e = e

-- the positions of prepared parents, of a full level, and of one that stores coordinates
pub full_positions : (letter : Letter) (n parents most : ℕ) → (properties letter).full ≡ true
    → positions_for letter n parents most ≡ parents * n
full_positions letter n parents most is =
    ap (λ full. if full then parents * n else if (capabilities letter).insert then parents * slot_width most else 0) is

pub stored_positions : (letter : Letter) (n parents most : ℕ) → (properties letter).full ≡ false → (capabilities letter).insert ≡ true
    → positions_for letter n parents most ≡ parents * slot_width most
stored_positions letter n parents most is inserts =
    ap (λ full. if full then parents * n else if (capabilities letter).insert then parents * slot_width most else 0) is
    ∙ ap (λ insert. if insert then parents * slot_width most else 0) inserts

-- where there are no parents there are no positions, neither once they are prepared nor as a run starts
pub no_positions : (letter : Letter) (n most : ℕ) → positions_for letter n 0 most ≡ 0
no_positions letter n most = by (properties letter).full (capabilities letter).insert
  where
    by : (full insert : Bool) → (if full then 0 * n else if insert then 0 * slot_width most else 0) ≡ 0
    by true insert = zero-mul n
    by false true = zero-mul (slot_width most)
    by false false = refl

pub no_parents_below : (letter : Letter) (size : ℕ) → parents_below letter size 0 ≡ 0
no_parents_below letter size = by (properties letter).full
  where
    by : (full : Bool) → (if full then 0 * size else 0) ≡ 0
    by true = zero-mul size
    by false = refl

-- a level of a kernel's result has no positions as the run starts unless it is full, and no more than once its parents are prepared
pub stored_none_below : (letter : Letter) (size parents : ℕ) → (properties letter).full ≡ false → parents_below letter size parents ≡ 0
stored_none_below letter size parents is = ap (λ full. if full then parents * size else 0) is

pub starts_within : (letter : Letter) (size starts parents most : ℕ) → starts ≤ parents
    → parents_below letter size starts ≤ positions_for letter size parents most
starts_within letter size starts parents most few = by (properties letter).full (capabilities letter).insert
  where
    by : (full insert : Bool) → (if full then starts * size else 0)
        ≤ (if full then parents * size else if insert then parents * slot_width most else 0)
    by true insert = mul-le-mul_right size few
    by false insert = omega arith

-- an array of a level is one of that level
pub of_level : (array : LevelArray) (tensor level : ℕ) → IsOf tensor level (array_of array tensor level)
of_level OfSize tensor level = (refl, refl)
of_level OfEnds tensor level = (refl, refl)
of_level OfCoordinates tensor level = (refl, refl)
of_level OfWidth tensor level = (refl, refl)

-- how a level starts depends on the arrays of that level of that tensor alone
pub starts_there : (letter : Letter) (n parents tensor level : ℕ) (a b : Arrays) → ((x : Arr) → IsOf tensor level x → b x ≡ a x)
    → AreAtStart letter n parents tensor level a → AreAtStart letter n parents tensor level b
starts_there letter n parents tensor level a b same at = record {
  size = λ full. same (Dimension tensor level) (refl, refl) ∙ at.size full;
  zeros = λ array count is. same (array_of array tensor level) (of_level array tensor level) ∙ at.zeros array count is;
}
