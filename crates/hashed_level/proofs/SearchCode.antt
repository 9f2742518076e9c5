-- What the code of a search does.
use Rattle.std.specs.Prelude.{◌≡◌, ◌≢◌, ◌⊎◌, ℕ, zero, suc, ◌+◌, ◌-◌, ◌%◌, ◌^◌, ◌≤◌, ◌<◌, ◌==◌, true, false, not, if◌then◌else◌, [], ◌∷◌}
use Rattle.std.specs.Prelude.{Option, Some, None, slice_index, bit_and, refl, slice_set}
use Rattle.std.proofs.Common.{◌∙◌, sym, ap, subst, arith, inl, inr}
use Rattle.std.proofs.lemmas.Nat.{and_mask, mod_below}
use Rattle.std.proofs.lemmas.Option.{slice_get-get_or}
use Rattle.std.proofs.lemmas.Bool.Decides.{nat_tests, eqb_tells}
use Rattle.limits.proofs.Limits.{positions_are_small}
use Rattle.kernel_code.specs.declared.syntax.Arr.TheVariants.{Coordinates, Width as WidthArray}
use Rattle.kernel_code.specs.declared.syntax.LoopKind.{LoopKind}
use Rattle.kernel_code.specs.declared.syntax.LoopKind.TheVariants.{Probe}
use Rattle.kernel_code.specs.declared.syntax.Op.TheVariants.{Add, Sub, BitAnd, NotEqual, And}
use Rattle.kernel_code.specs.declared.syntax.KExpr.{KExpr, Num, Var, At, Bin}
use Rattle.kernel_code.specs.declared.syntax.KStmt.{Set, While, Put, If}
use Rattle.kernel_code.specs.Meaning.{Setting, State, value, apply_both, word_of, set_var, one_turn, same_kind, set_array}
use Rattle.kernel_code.proofs.Equations.{value_bin}
use Rattle.kernel_code.specs.Does.{Does, Never, Turn, Ends, Goes}
use Rattle.kernel_code.proofs.Does.{does_set, does_while, does_nothing, does_append, does_if_yes, does_if_no, does_put}
use Rattle.kernel_code.specs.Keeps.{Below, Leaves, NoVariable, EveryArray, turn_of}
use Rattle.kernel_code.proofs.Keeps.{this_var, other_var, leaves_none, leaves_set, leaves_turn, leaves_then, leaves_wider, leaves_array}
use Rattle.kernel_code.proofs.Keeps.{this_array}
use Rattle.level_core.specs.Entries.{one, position_of}
use Rattle.kernel_code.proofs.ArrayNames.{same_arr_self}
use Rattle.level_core.specs.Fragments.{turns_of, OptionLeft, IsOutside}
use Rattle.level_core.proofs.FragmentLaws.{outside_apart, below_kept}
use Rattle.kernel_code.proofs.Words.{word_is, binary_is, product_is, sum_is, difference_is, less_yes, less_no}
use Rattle.level_core.specs.FragmentLaws.{one_code}
use Rattle.hashed_level.specs.Slots.{empty_slot, place, Stops, Passes, FirstEmpty}
use Rattle.hashed_level.specs.SearchLaws.{place_inside}
use Rattle.hashed_level.proofs.SearchLaws.{place_next, place_first, passes_more, not_there, found_filled, nowhere}
use Rattle.hashed_level.specs.Hashed.{Hashed, block_width, base_of, width_words, width_or_two, Holds, IsAllowed, segment_of, entries_of}
use Rattle.hashed_level.specs.Hashed.{with_coordinate, meaning}
use Rattle.hashed_level.specs.Laws.{block_within, block_small, inserted_keeps}
use Rattle.hashed_level.proofs.Laws.{stops_first, never_passes}
use Rattle.hashed_level.specs.Code.{width_word, base_word, wrapped_word, slot_word, filled_test, other_test, more_test, search_test}
use Rattle.hashed_level.specs.Code.{search_step, search_code, found_test, found_code, locate_code, insert_code}
use Rattle.kernel_code.specs.Arrays.{may_write}
use Rattle.level_core.specs.declared.letter.Letter.TheVariants.{Hashed as HashedLetter}
use Rattle.level_core.specs.Kinds.{MayInsert}
use Rattle.level_core.specs.Codes.{HoldsInserted}

words_of : (o : Option ℕ) → (o ≡ None → ⊥) → width_words o ≡ width_or_two o ∷ []
words_of None n = absurd (n refl)
words_of (Some w) n = refl

-- where a parent is prepared, the width is stored
pub width_stored : (l : Hashed) (p : ℕ) → IsAllowed l (one p) → width_words l.width ≡ block_width l ∷ []
width_stored l p ok = words_of l.width (λ h. let none = ok.rules.fresh h in let some = ok.prepared in omega (arith, none, some))

pub width_small : (l : Hashed) (p : ℕ) → IsAllowed l (one p) → block_width l < 2 ^ 62
width_small l p ok = let inside = block_small l p ok.rules ok.prepared in let small = positions_are_small in omega (arith, inside, small)

pub width_is : (l : Hashed) (p tensor level : ℕ) (t : State) → IsAllowed l (one p) → Holds l tensor level t.arrays
    → value (width_word tensor level) t ≡ Some (block_width l)
width_is l p tensor level t ok held = word_is (WidthArray tensor level) (Num 0) (block_width l ∷ []) 0 (block_width l) t (held.width
    ∙ ap Some (width_stored l p ok)) refl refl

-- the mask of a power of two
masked : (n w : ℕ) → (k : ℕ) × (w ≡ 2 ^ k) → bit_and n (w - 1) ≡ n % w
masked n w power = subst (λ v. bit_and n (v - 1) ≡ n % v) (sym power.1) (and_mask n power.0)

pub wrapped_is : (l : Hashed) (p tensor level n : ℕ) (e : KExpr) (t : State) → IsAllowed l (one p) → Holds l tensor level t.arrays
    → value e t ≡ Some n → value (wrapped_word tensor level e) t ≡ Some (n % block_width l)
wrapped_is l p tensor level n e t ok held is =
    let small = width_small l p ok in
    let wide = ok.rules.wide in
    let mask = difference_is (width_word tensor level) (Num 1) (block_width l) 1 t (width_is l p tensor level t ok held) refl
    (omega (arith, small)) (omega (arith, wide)) in
    binary_is BitAnd e (Bin Sub (width_word tensor level) (Num 1)) n (block_width l - 1) t is mask
    ∙ ap Some (masked n (block_width l) ok.rules.power)

pub base_is : (l : Hashed) (p tensor level : ℕ) (e : KExpr) (t : State) → IsAllowed l (one p) → Holds l tensor level t.arrays
    → value e t ≡ Some p → value (base_word tensor level e) t ≡ Some (base_of l p)
base_is l p tensor level e t ok held is =
    let inside = block_small l p ok.rules ok.prepared in
    let small = positions_are_small in
    product_is e (width_word tensor level) p (block_width l) t is (width_is l p tensor level t ok held) (omega (arith, inside, small))

-- a slot read
pub slot_read : (l : Hashed) (p tensor level q : ℕ) (e : KExpr) (t : State) → IsAllowed l (one p) → Holds l tensor level t.arrays
    → value e t ≡ Some q → q < base_of l p + block_width l → value (At (Coordinates tensor level) e) t ≡ Some (slice_index l.slots q)
slot_read l p tensor level q e t ok held is below =
    let inside = block_within l p ok.rules ok.prepared in
    word_is (Coordinates tensor level) e l.slots q (slice_index l.slots q) t held.slots is
    (slice_get-get_or l.slots q 0 (omega (arith, inside, below)))

pub differ_yes : (e f : KExpr) (x y : ℕ) (t : State) → value e t ≡ Some x → value f t ≡ Some y → x ≢ y → value (Bin NotEqual e f) t ≡ Some 1
differ_yes e f x y t h g n = let is : (x == y) ≡ false = grind (arith, nat_tests) in binary_is NotEqual e f x y t h g
    ∙ ap (λ b. Some (word_of (not b))) is

pub differ_no : (e f : KExpr) (x y : ℕ) (t : State) → value e t ≡ Some x → value f t ≡ Some y → x ≡ y → value (Bin NotEqual e f) t ≡ Some 0
differ_no e f x y t h g n = let is : (x == y) ≡ true = grind (arith, nat_tests) in binary_is NotEqual e f x y t h g
    ∙ ap (λ b. Some (word_of (not b))) is

pub both_yes : (e f : KExpr) (t : State) → value e t ≡ Some 1 → value f t ≡ Some 1 → value (Bin And e f) t ≡ Some 1
both_yes e f t h g = binary_is And e f 1 1 t h g

pub first_no : (e f : KExpr) (t : State) → value e t ≡ Some 0 → value (Bin And e f) t ≡ Some 0
first_no e f t h = value_bin And e f t ∙ ap (λ v. apply_both And v (value f t)) h

pub second_no : (e f : KExpr) (t : State) → value e t ≡ Some 1 → value f t ≡ Some 0 → value (Bin And e f) t ≡ Some 0
second_no e f t h g = binary_is And e f 1 0 t h g

pub held_kept : (l : Hashed) (tensor level free : ℕ) (most : LoopKind → ℕ) (s t : State) → Leaves NoVariable EveryArray free most s t
    → Holds l tensor level s.arrays → Holds l tensor level t.arrays
held_kept l tensor level free most s t leaves held = record {
  width = leaves.arrays (WidthArray tensor level) tt
      ∙ held.width;
  slots = leaves.arrays (Coordinates tensor level) tt ∙ held.slots;
}

pub turns_more : (a b : ℕ) → a ≤ b → (k : LoopKind) → turns_of Probe a k ≤ turns_of Probe b k
turns_more a b h k = elim (same_kind Probe k) as (λ t. (if t then a else 0) ≤ (if t then b else 0)) [ true ↦ h | false ↦ omega arith ]

turns_add : (a : ℕ) (k : LoopKind) → turns_of Probe a k + turn_of Probe k ≤ turns_of Probe (a + 1) k
turns_add a k = elim (same_kind Probe k) as
    (λ t. (if t then a else 0) + (if t then 1 else 0) ≤ (if t then a + 1 else 0)) [ true ↦ omega arith | false ↦ omega arith ]

-- a search from the state s on that has made so many steps, without an end
pub record Seeking (l : Hashed) (free p x : ℕ) (s : State) (steps : ℕ) (t : State) : Type 0 where
  pub leaves : Leaves NoVariable EveryArray free (turns_of Probe steps) s t
  pub base : t.vars free ≡ Some (base_of l p)
  pub at : t.vars (free + 1) ≡ Some ((x + steps) % block_width l)
  pub count : t.vars (free + 2) ≡ Some steps
  pub few : steps ≤ block_width l
  pub passes : Passes (slice_index l.slots) (block_width l) (base_of l p) x steps

-- one that has stopped at a slot
pub record Found (l : Hashed) (free p x : ℕ) (s t : State) : Type 0 where
  pub slot : ℕ
  pub leaves : Leaves NoVariable EveryArray free (turns_of Probe (block_width l)) s t
  pub base : t.vars free ≡ Some (base_of l p)
  pub within : ℕ
  pub at : t.vars (free + 1) ≡ Some within
  pub position : base_of l p + within ≡ slot
  pub inside : slot < base_of l p + block_width l
  pub steps : ℕ
  pub count : t.vars (free + 2) ≡ Some steps
  pub few : steps < block_width l
  pub stops : Stops (slice_index l.slots) (block_width l) (base_of l p) x slot

-- one that has met all slots without an end
pub record Missed (l : Hashed) (free p x : ℕ) (s t : State) : Type 0 where
  pub leaves : Leaves NoVariable EveryArray free (turns_of Probe (block_width l)) s t
  pub count : t.vars (free + 2) ≡ Some (block_width l)
  pub passes : Passes (slice_index l.slots) (block_width l) (base_of l p) x (block_width l)

abbrev pub Sought : Hashed → ℕ → ℕ → ℕ → State → State → Type 0
Sought l free p x s t = Found l free p x s t ⊎ Missed l free p x s t

module _ (c : Setting) (l : Hashed) (tensor level free p x : ℕ) (e : KExpr) (s : State) (ok : IsAllowed l (one p))
    (held : Holds l tensor level s.arrays) (xv : value e s ≡ Some x) (xb : Below free e) where
  abbrev pub w : ℕ
  w = block_width l

  abbrev pub f : ℕ → ℕ
  f = slice_index l.slots

  x_kept : (most : LoopKind → ℕ) (t : State) → Leaves NoVariable EveryArray free most s t → value e t ≡ Some x
  x_kept most t leaves = below_kept free e s t xb (λ y h. leaves.below y h (λ z. z)) (λ a. leaves.arrays a tt) ∙ xv

  abbrev q : ℕ → ℕ
  q steps = place w (base_of l p) x steps

  below_q : (steps : ℕ) → q steps < base_of l p + w
  below_q steps = let wide = ok.rules.wide in (place_inside w (base_of l p) x steps (omega (arith, wide))).1

  slot_is : (steps : ℕ) (t : State) → Seeking l free p x s steps t → value (slot_word free) t ≡ Some (q steps)
  slot_is steps t h =
      let below = below_q steps in
      let inside = block_small l p ok.rules ok.prepared in
      let small = positions_are_small in
      sum_is (Var free) (Var (free + 1)) (base_of l p) ((x + steps) % w) t h.base h.at (omega (arith, below, inside, small))

  filled_yes : (n : ℕ) (g : KExpr) (t : State) → Holds l tensor level t.arrays → value g t ≡ Some n → n < base_of l p + w
      → f n ≢ empty_slot → value (filled_test tensor level g) t ≡ Some 1
  filled_yes n g t stored is below e =
      differ_yes (At (Coordinates tensor level) g) (Num empty_slot) (f n) empty_slot t
      (slot_read l p tensor level n g t ok stored is below) refl e

  filled_no : (n : ℕ) (g : KExpr) (t : State) → Holds l tensor level t.arrays → value g t ≡ Some n → n < base_of l p + w
      → f n ≡ empty_slot → value (filled_test tensor level g) t ≡ Some 0
  filled_no n g t stored is below e =
      differ_no (At (Coordinates tensor level) g) (Num empty_slot) (f n) empty_slot t
      (slot_read l p tensor level n g t ok stored is below) refl e

  more_yes : (steps : ℕ) (t : State) → Holds l tensor level t.arrays → t.vars (free + 2) ≡ Some steps → steps < w
      → value (more_test tensor level free) t ≡ Some 1
  more_yes steps t stored count less =
      less_yes (Var (free + 2)) (width_word tensor level) steps w t count (width_is l p tensor level t ok stored) less

  more_no : (steps : ℕ) (t : State) → Holds l tensor level t.arrays → t.vars (free + 2) ≡ Some steps → w ≤ steps
      → value (more_test tensor level free) t ≡ Some 0
  more_no steps t stored count less =
      less_no (Var (free + 2)) (width_word tensor level) steps w t count (width_is l p tensor level t ok stored) less

  -- what a step finds at its slot
  abbrev Looks : ℕ → State → Type 0
  Looks steps t = ((value (search_test tensor level e free) t ≡ Some 0)
      × Found l free p x s t) ⊎ ((value (search_test tensor level e free) t ≡ Some 1) × Passes f w (base_of l p) x (steps + 1))

  found_at : (steps : ℕ) (t : State) → steps < w → Seeking l free p x s steps t → (f (q steps) ≡ empty_slot) ⊎ (f (q steps) ≡ x)
      → Found l free p x s t
  found_at steps t less h stop = record {
    slot = q steps;
    leaves = leaves_wider NoVariable NoVariable EveryArray EveryArray free (turns_of Probe steps) (turns_of Probe w) s t (λ y m. m)
        (λ a m. m) (turns_more steps w h.few) h.leaves;
    base = h.base;
    within = (x + steps) % w;
    at = h.at;
    position = refl;
    inside = below_q steps;
    steps = steps;
    count = h.count;
    few = less;
    stops = record { steps = steps; few = less; at = refl; stop = stop; filled = h.passes.filled; passed = h.passes.passed };
  }

  look : (steps : ℕ) (t : State) → steps < w → Seeking l free p x s steps t → Looks steps t
  look steps t less h =
      let stored = held_kept l tensor level free (turns_of Probe steps) s t h.leaves held in
      let slot = slot_is steps t h in
      let more = more_yes steps t stored h.count less in
      let read = slot_read l p tensor level (q steps) (slot_word free) t ok stored slot (below_q steps) in
      let coordinate = x_kept (turns_of Probe steps) t h.leaves in
      let other = other_test tensor level (slot_word free) e in
      let filled = filled_test tensor level (slot_word free) in
      elim (eqb_tells (f (q steps)) empty_slot) [
        | inl k ↦ inl (
          second_no (more_test tensor level free) (Bin And filled other) t more
              (first_no filled other t (filled_no (q steps) (slot_word free) t stored slot (below_q steps) k.1)),
          found_at steps t less h
              (inl k.1),
        )
        | inr k ↦
            let yes = filled_yes (q steps) (slot_word free) t stored slot (below_q steps) k.1 in
            elim (eqb_tells (f (q steps)) x) [
              | inl m ↦ inl (
                second_no (more_test tensor level free) (Bin And filled other) t more
                    (second_no filled other t yes
                    (differ_no (At (Coordinates tensor level) (slot_word free)) e (f (q steps)) x t read coordinate m.1)),
                found_at
                    steps t less h (inr m.1),
              )
              | inr m ↦ inr (
                both_yes (more_test tensor level free) (Bin And filled other) t more
                    (both_yes filled other t yes
                    (differ_yes (At (Coordinates tensor level) (slot_word free)) e (f (q steps)) x t read coordinate m.1)),
                passes_more
                    f w (base_of l p) x steps h.passes k.1 m.1,
              )
            ]
      ]

  after_step : (steps : ℕ) (t : State) → steps < w → Seeking l free p x s steps t → Passes f w (base_of l p) x (steps + 1)
      → Seeking l free p x s (steps + 1) (set_var (set_var (one_turn t Probe) (free + 1) ((x + (steps + 1)) % w)) (free + 2) (steps + 1))
  after_step steps t less h passes =
      let t1 = one_turn t Probe in
      let v = (x + (steps + 1)) % w in
      let t2 = set_var t1 (free + 1) v in
      let turned = leaves_wider NoVariable NoVariable EveryArray EveryArray free (λ k. turns_of Probe steps k + turn_of Probe k)
      (turns_of Probe (steps + 1)) s t1 (λ y m. m) (λ a m. m) (turns_add steps)
      (leaves_then NoVariable EveryArray free (turns_of Probe steps) (turn_of Probe) s t t1 h.leaves
      (leaves_turn NoVariable EveryArray free t Probe)) in
      record {
        leaves = leaves_set NoVariable EveryArray free (turns_of Probe (steps + 1)) s t2 (free + 2) (steps + 1)
            (λ y g is. omega (arith, g, is))
            (leaves_set NoVariable EveryArray free (turns_of Probe (steps + 1)) s t1 (free + 1) v
            (λ y g is. omega (arith, g, is)) turned);
        base = other_var t2 (free + 2) free (steps + 1) (λ is. omega (arith, is))
            ∙ other_var t1 (free + 1) free v (λ is. omega (arith, is)) ∙ h.base;
        at = other_var t2 (free + 2) (free + 1) (steps + 1) (λ is. omega (arith, is)) ∙ this_var t1 (free + 1) v;
        count = this_var t2 (free + 2) (steps + 1);
        few = omega (arith, less);
        passes = passes;
      }

  step_does : (steps : ℕ) (t : State) (P : State → Type 0) → steps < w → Seeking l free p x s steps t
      → P (set_var (set_var (one_turn t Probe) (free + 1) ((x + (steps + 1)) % w)) (free + 2) (steps + 1))
      → Does c (search_step tensor level free) (one_turn t Probe) P Never
  step_does steps t P less h done =
      let t1 = one_turn t Probe in
      let v = (x + (steps + 1)) % w in
      let t2 = set_var t1 (free + 1) v in
      let stored : Holds l tensor level t1.arrays = held_kept l tensor level free (turns_of Probe steps) s t h.leaves held in
      let small = width_small l p ok in
      let wide = ok.rules.wide in
      let within : (x + steps) % w < w = mod_below (x + steps) w (omega (arith, wide)) in
      let next = sum_is (Var (free + 1)) (Num 1) ((x + steps) % w) 1 t1 h.at refl (omega (arith, within, small)) in
      let wrapped = wrapped_is l p tensor level ((x + steps) % w + 1) (Bin Add (Var (free + 1)) (Num 1)) t1 ok stored next
      ∙ ap Some (place_next w x steps) in
      let counted = sum_is (Var (free + 2)) (Num 1) steps 1 t2 (other_var t1 (free + 1) (free + 2) v (λ is. omega (arith, is))
      ∙ h.count) refl (omega (arith, less, small)) in
      does_set c (free + 1) (wrapped_word tensor level (Bin Add (Var (free + 1)) (Num 1)))
      (Set (free + 2) (Bin Add (Var (free + 2)) (Num 1)) ∷ []) t1 v P Never wrapped
      (does_set c (free + 2) (Bin Add (Var (free + 2)) (Num 1)) [] t2 (steps + 1) P Never counted
      (does_nothing c (set_var t2 (free + 2) (steps + 1)) P Never done))

  -- with so many turns left
  record Left (n : ℕ) (t : State) : Type 0 where
    steps : ℕ
    all : steps + n ≡ w
    seeking : Seeking l free p x s steps t

  one_is_none : (v : Option ℕ) → v ≡ Some 1 → v ≡ Some 0 → ⊥
  one_is_none v h g = cc

  ends_none : (t : State) → Left 0 t → value (search_test tensor level e free) t ≡ Some 0
  ends_none t i =
      let h = i.seeking in
      let all = i.all in
      let stored = held_kept l tensor level free (turns_of Probe i.steps) s t h.leaves held in
      first_no (more_test tensor level free)
      (Bin And (filled_test tensor level (slot_word free)) (other_test tensor level (slot_word free) e)) t
      (more_no i.steps t stored h.count (omega (arith, all)))

  missed_at : (steps : ℕ) (t : State) → steps ≡ w → Seeking l free p x s steps t → Missed l free p x s t
  missed_at steps t is h = record {
    leaves = subst (λ n. Leaves NoVariable EveryArray free (turns_of Probe n) s t) is h.leaves;
    count = h.count ∙ ap Some is;
    passes = subst (Passes f w (base_of l p) x) is h.passes;
  }

  ends : (n : ℕ) (t : State) → Left n t → value (search_test tensor level e free) t ≡ Some 0 → Sought l free p x s t
  ends zero t i v = let all = i.all in inr (missed_at i.steps t (omega (arith, all)) i.seeking)
  ends (suc n) t i v = let all =
      i.all in elim (look i.steps t (omega (arith, all)) i.seeking)
      [ inl k ↦ inl k.1 | inr k ↦ absurd (one_is_none (value (search_test tensor level e free) t) k.0 v) ]

  turns : (n : ℕ) (t : State) → Left (suc n) t
      → Turn c Probe (search_test tensor level e free) (search_step tensor level free) t (Left n) (Sought l free p x s) Never
  turns n t i = let all = i.all in elim (look i.steps t (omega (arith, all)) i.seeking) [
    | inl k ↦ Ends k.0 (inl k.1)
    | inr k ↦ Goes 0 k.0 (step_does i.steps t (Left n) (omega (arith, all)) i.seeking
        (record { steps = i.steps + 1; all = omega (arith, all); seeking = after_step i.steps t (omega (arith, all)) i.seeking k.1 }))
  ]

  -- the search ends at a slot or has met all
  pub search_does : (g : KExpr) → value g s ≡ Some p → Does c (search_code tensor level g e free) s (Sought l free p x s) Never
  search_does g gv =
      let s1 = set_var s free (base_of l p) in
      let s2 = set_var s1 (free + 1) (x % w) in
      let s3 = set_var s2 (free + 2) 0 in
      let most = turns_of Probe 0 in
      let left1 = leaves_set NoVariable EveryArray free most s s free (base_of l p) (λ y h is. omega (arith, h, is))
      (leaves_none NoVariable EveryArray free most s) in
      let left2 = leaves_set NoVariable EveryArray free most s s1 (free + 1) (x % w) (λ y h is. omega (arith, h, is)) left1 in
      let left3 = leaves_set NoVariable EveryArray free most s s2 (free + 2) 0 (λ y h is. omega (arith, h, is)) left2 in
      let start : Seeking l free p x s 0 s3 = record {
        leaves = left3;
        base = other_var s2 (free + 2) free 0 (λ is. omega (arith, is)) ∙ other_var s1 (free + 1) free (x % w) (λ is. omega (arith, is))
            ∙ this_var s free (base_of l p);
        at = other_var s2 (free + 2) (free + 1) 0 (λ is. omega (arith, is)) ∙ this_var s1 (free + 1) (x % w) ∙ ap Some (place_first w x);
        count = this_var s2 (free + 2) 0;
        few = omega arith;
        passes = record { filled = λ k h. absurd (omega (arith, h)); passed = λ k h. absurd (omega (arith, h)) };
      } in
      does_set c free (base_word tensor level g) (Set (free + 1) (wrapped_word tensor level e) ∷ Set (free + 2) (Num 0)
      ∷ While Probe (search_test tensor level e free) (search_step tensor level free)
      ∷ []) s (base_of l p) _ Never (base_is l p tensor level g s ok held gv)
      (does_set c (free + 1) (wrapped_word tensor level e) (Set (free + 2) (Num 0)
      ∷ While Probe (search_test tensor level e free) (search_step tensor level free)
      ∷ []) s1 (x % w) _ Never (wrapped_is l p tensor level x e s1 ok held (x_kept most s1 left1))
      (does_set c (free + 2) (Num 0) (While Probe (search_test tensor level e free) (search_step tensor level free) ∷ []) s2 0 _ Never refl
      (does_while c Probe (search_test tensor level e free) (search_step tensor level free) [] Left (Sought l free p x s)
      (Sought l free p x s) Never ends_none ends turns w s3 (record { steps = 0; all = omega arith; seeking = start })
      (λ t h. does_nothing c t (Sought l free p x s) Never h))))

  slot_found : (t : State) (h : Found l free p x s t) → (u : State) → u.vars free ≡ t.vars free → u.vars (free + 1) ≡ t.vars (free + 1)
      → value (slot_word free) u ≡ Some h.slot
  slot_found t h u first second =
      let inside = block_small l p ok.rules ok.prepared in
      let small = positions_are_small in
      let below = h.inside in
      let position = h.position in
      sum_is (Var free) (Var (free + 1)) (base_of l p) h.within u (first ∙ h.base) (second
      ∙ h.at) (omega (arith, inside, small, below, position)) ∙ ap Some h.position

  abbrev pub Located : State → Type 0
  Located u = Leaves NoVariable EveryArray free (turns_of Probe (base_of l p + w - base_of l p)) s u
      × OptionLeft free (position_of (entries_of l (one p)) x) u

  wider : (t : State) → Leaves NoVariable EveryArray free (turns_of Probe w) s t
      → Leaves NoVariable EveryArray free (turns_of Probe (base_of l p + w - base_of l p)) s t
  wider t leaves = leaves_wider NoVariable NoVariable EveryArray EveryArray free (turns_of Probe w)
      (turns_of Probe (base_of l p + w - base_of l p)) s t (λ y m. m) (λ a m. m)
      (turns_more w (base_of l p + w - base_of l p) (omega arith)) leaves

  none_left : (t : State) → Leaves NoVariable EveryArray free (turns_of Probe w) s t → position_of (entries_of l (one p)) x ≡ None
      → Does c (one_code free (Num 0)) t Located Never
  none_left t leaves none =
      let most = turns_of Probe (base_of l p + w - base_of l p) in
      let u = set_var t free 0 in
      does_set c free (Num 0) [] t 0 Located Never refl
      (does_nothing c u Located Never (
        leaves_set NoVariable EveryArray free most s t free 0 (λ y h is. omega (arith, h, is)) (wider t leaves),
        subst
            (λ o. OptionLeft free o u) (sym none) (this_var t free 0),
      ))

  some_left : (t : State) (h : Found l free p x s t) → position_of (entries_of l (one p)) x ≡ Some h.slot
      → Does c (found_code free) t Located Never
  some_left t h some =
      let most = turns_of Probe (base_of l p + w - base_of l p) in
      let t1 = set_var t (free + 1) h.slot in
      let u = set_var t1 free 1 in
      does_set c (free + 1) (slot_word free) (Set free (Num 1) ∷ []) t h.slot Located Never (slot_found t h t refl refl)
      (does_set c free (Num 1) [] t1 1 Located Never refl
      (does_nothing c u Located Never (
        leaves_set NoVariable EveryArray free most s t1 free 1 (λ y g is. omega (arith, g, is))
            (leaves_set NoVariable EveryArray free most s t (free + 1) h.slot (λ y g is. omega (arith, g, is)) (wider t h.leaves)),
        subst (λ o. OptionLeft free o u) (sym some) (
          this_var t1 free 1,
          other_var t1 free (free + 1) 1 (λ is. omega (arith, is))
              ∙ this_var t (free + 1) h.slot,
        ),
      )))

  located_end : (t : State) → Sought l free p x s t
      → Does c (If (found_test tensor level free) (found_code free) (one_code free (Num 0)) ∷ []) t Located Never
  located_end t (inl h) =
      let stored = held_kept l tensor level free (turns_of Probe w) s t h.leaves held in
      let slot = slot_found t h t refl refl in
      let more = more_yes h.steps t stored h.count h.few in
      elim (eqb_tells (f h.slot) empty_slot) [
        | inl k ↦ does_if_no c (found_test tensor level free) (found_code free) (one_code free (Num 0)) [] t Located Located Never
            (second_no (more_test tensor level free) (filled_test tensor level (slot_word free)) t more
            (filled_no h.slot (slot_word free) t stored slot h.inside k.1))
            (none_left t h.leaves (not_there f l.size w (base_of l p) x h.slot (ok.rules.blocks p ok.prepared) h.stops k.1))
            (λ u g. does_nothing c u Located Never g)
        | inr k ↦ does_if_yes c (found_test tensor level free) (found_code free) (one_code free (Num 0)) [] t 0 Located Located Never
            (both_yes (more_test tensor level free) (filled_test tensor level (slot_word free)) t more
            (filled_yes h.slot (slot_word free) t stored slot h.inside k.1))
            (some_left t h (found_filled f l.size w (base_of l p) x h.slot (ok.rules.blocks p ok.prepared) h.stops k.1))
            (λ u g. does_nothing c u Located Never g)
      ]
  located_end t (inr h) =
      let stored = held_kept l tensor level free (turns_of Probe w) s t h.leaves held in
      does_if_no c (found_test tensor level free) (found_code free) (one_code free (Num 0)) [] t Located Located Never
      (first_no (more_test tensor level free) (filled_test tensor level (slot_word free)) t
      (more_no w t stored h.count (omega arith))) (none_left t h.leaves (nowhere f w (base_of l p) x h.passes))
      (λ u g. does_nothing c u Located Never g)

  -- the code of `locate` leaves the position
  pub locate_runs : (g : KExpr) → value g s ≡ Some p → Does c (locate_code tensor level g e free) s Located Never
  locate_runs g gv = does_append c (search_code tensor level g e free)
      (If (found_test tensor level free) (found_code free) (one_code free (Num 0))
      ∷ []) s (Sought l free p x s) Located Never (search_does g gv) located_end

  abbrev pub Stored : State → Type 0
  Stored u = Leaves NoVariable (IsOutside tensor level) free (turns_of Probe (base_of l p + w - base_of l p)) s u
      × HoldsInserted meaning l p x tensor level free u

  put_end : (t : State) → tensor ≡ 0 → MayInsert HashedLetter l.size (segment_of l (one p)) (entries_of l (one p)) x
      → (h : Found l free p x s t) → FirstEmpty f w (base_of l p) x h.slot
      → Does c (Put (Coordinates tensor level) (slot_word free) e ∷ Set free (slot_word free) ∷ []) t Stored Never
  put_end t result may h first =
      let most = turns_of Probe (base_of l p + w - base_of l p) in
      let stored = held_kept l tensor level free (turns_of Probe w) s t h.leaves held in
      let written : may_write (Coordinates tensor level) ≡ true = grind (arith, nat_tests) in
      let inside = block_within l p ok.rules ok.prepared in
      let below = h.inside in
      let xs = slice_set l.slots h.slot x in
      let t1 = set_array t (Coordinates tensor level) xs in
      let u = set_var t1 free h.slot in
      does_put c (Coordinates tensor level) (slot_word free) e (Set free (slot_word free)
      ∷ []) t h.slot x l.slots Stored Never (slot_found t h t refl refl) (x_kept (turns_of Probe w) t h.leaves) written stored.slots
      (omega (arith, inside, below))
      (does_set c free (slot_word free) [] t1 h.slot Stored Never (slot_found t h t1 refl refl)
      (does_nothing c u Stored Never (
        leaves_set NoVariable (IsOutside tensor level) free most s t1 free h.slot (λ y g is. omega (arith, g, is))
            (leaves_array NoVariable (IsOutside tensor level) free most s t (Coordinates tensor level) xs
            (λ b out. outside_apart tensor level (Coordinates tensor level) b (refl, refl) out)
            (leaves_wider NoVariable NoVariable EveryArray (IsOutside tensor level) free most most s t (λ y m. m) (λ a m. tt)
            (λ k. omega arith) (wider t h.leaves))),
        record {
          left = with_coordinate l x h.slot;
          slot = h.slot;
          keeps = inserted_keeps l p x h.slot ok may first;
          inserted = record { first = first; level = refl };
          held = record {
            width = stored.width;
            slots =
                this_array t (Coordinates tensor level) (Coordinates tensor level) xs (same_arr_self (Coordinates tensor level));
          };
          answer = this_var t1 free h.slot;
        },
      )))

  inserted_end : (t : State) → tensor ≡ 0 → MayInsert HashedLetter l.size (segment_of l (one p)) (entries_of l (one p)) x
      → Sought l free p x s t → Does c (Put (Coordinates tensor level) (slot_word free) e ∷ Set free (slot_word free) ∷ []) t Stored Never
  inserted_end t result may (inl h) =
      put_end t result may h (stops_first l p x h.slot l.slots w (base_of l p) refl refl refl ok may h.stops)
  inserted_end t result may (inr h) = absurd (never_passes l p x l.slots w (base_of l p) refl refl refl may h.passes)

  -- the code of `insert_coord` puts the coordinate where it belongs
  pub insert_runs : (g : KExpr) → value g s ≡ Some p → tensor ≡ 0
      → MayInsert HashedLetter l.size (segment_of l (one p)) (entries_of l (one p)) x
      → Does c (insert_code tensor level g e free) s Stored Never
  insert_runs g gv result may =
      does_append c (search_code tensor level g e free) (Put (Coordinates tensor level) (slot_word free) e ∷ Set free (slot_word free)
      ∷ []) s (Sought l free p x s) Stored Never (search_does g gv) (λ t h. inserted_end t result may h)
