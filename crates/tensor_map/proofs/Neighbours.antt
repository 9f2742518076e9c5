-- The loop that adds equal neighbours in place.
use Rattle.std.proofs.Common.{◌≡◌, ℕ, ◌+◌, ◌<◌, ◌≤◌, List, [], ◌∷◌, ◌++◌, length, get_or, take, drop, true, false, refl, sym, ◌∙◌, ap}
use Rattle.std.proofs.Common.{arith, append_assoc}
use Rattle.std.specs.Prelude.{nat_eq}
use Rattle.std.specs.List.{SwappedAt}
use Rattle.std.specs.Cmp.Lexicographic.{pointwise}
use Rattle.std.proofs.Math.ListN.{length-set, set}
use Rattle.std.proofs.lemmas.List.{take-set, take-set-le, take_more, drop-set-lt, drop_more, get_or-set_same, drop_all}
use Rattle.numbers.specs.Arithmetic.{Arithmetic}
use Rattle.tensor_map.specs.Entries.{Entry}
use Rattle.tensor_map.specs.Summed.{joined, summed_from, summed}
use Rattle.tensor_map.proofs.Summed.{summed_same, summed_other}

-- read only past the end of a list
blank : Entry
blank = record { coords = []; value = 0 }

-- below `last` entries are done, the one there takes up what comes, and from `next` on they are as they were
pub record Adds (a : Arithmetic) (initial current : List Entry) (last next : ℕ) : Type 0 where
  pub long : length current ≡ length initial
  pub behind : last < next
  pub within : next ≤ length initial
  pub is : (d : Entry) → summed a initial ≡ take last current ++ summed_from a (get_or current last d) (drop next current)

module _ (a : Arithmetic) where
  pub adds_first : (initial : List Entry) → 0 < length initial → Adds a initial initial 0 1
  adds_first [] h = absurd (omega arith)
  adds_first (entry ∷ others) h = record { long = refl; behind = omega arith; within = omega arith; is = λ d. refl }

  pub adds_same : (initial current new : List Entry) (last next : ℕ) → Adds a initial current last next → next < length initial
      → ((d : Entry) → pointwise nat_eq (get_or current next d).coords (get_or current last d).coords ≡ true)
      → ((d : Entry) → new ≡ set current last (joined a (get_or current last d) (get_or current next d)))
      → Adds a initial new last (next + 1)
  adds_same initial current new last next so h tested set_is = record {
    long = ap length (set_is blank) ∙ length-set current last (joined a (get_or current last blank) (get_or current next blank)) ∙ so.long;
    behind = omega (arith, so.behind);
    within = omega arith;
    is = λ d.
        let x : Entry = get_or current last d in
        let y : Entry = get_or current next d in
        let now : List Entry = set current last (joined a x y) in
        let last_in : last < length current = omega (arith, so.behind, so.long) in
        let next_in : next < length current = omega (arith, so.long) in
        so.is d
        ∙ ap (λ es. take last current ++ summed_from a x es) (drop_more current next d next_in)
        ∙ ap (λ es. take last current ++ es) (summed_same a x y (drop (next + 1) current) (tested d))
        ∙ sym (ap (λ es. take last es ++ summed_from a (get_or es last d) (drop (next + 1) es)) (set_is d)
        ∙ ap (λ es. es ++ summed_from a (get_or now last d) (drop (next + 1) now)) (take-set current last (joined a x y))
        ∙ ap (λ e. take last current ++ summed_from a e (drop (next + 1) now)) (get_or-set_same current last (joined a x y) d last_in)
        ∙ ap (λ es. take last current
        ++ summed_from a (joined a x y) es) (drop-set-lt (next + 1) current last (joined a x y) (omega (arith, so.behind))));
  }

  pub adds_other : (initial current new : List Entry) (last next : ℕ) → Adds a initial current last next → next < length initial
      → ((d : Entry) → pointwise nat_eq (get_or current next d).coords (get_or current last d).coords ≡ false)
      → length new ≡ length current
      → SwappedAt current new (last + 1) next
      → Adds a initial new (last + 1) (next + 1)
  adds_other initial current new last next so h tested long swapped = record {
    long = long ∙ so.long;
    behind = omega (arith, so.behind);
    within = omega arith;
    is = λ d.
        let x : Entry = get_or current last d in
        let y : Entry = get_or current next d in
        let w : Entry = get_or current (last + 1) d in
        let once : List Entry = set current (last + 1) y in
        let rest : List Entry = summed_from a y (drop (next + 1) current) in
        let last_in : last < length current = omega (arith, so.behind, so.long) in
        let next_in : next < length current = omega (arith, so.long) in
        let front : take (last + 1) new ≡ take last current ++ x ∷ [] =
        ap (take (last + 1)) (swapped.3 d) ∙ take-set-le (last + 1) once next w (omega (arith, so.behind))
        ∙ take-set-le (last + 1) current (last + 1) y (omega arith) ∙ take_more current last d last_in in
        let back : drop (next + 1) new ≡ drop (next + 1) current =
        ap (drop (next + 1)) (swapped.3 d) ∙ drop-set-lt (next + 1) once next w (omega arith)
        ∙ drop-set-lt (next + 1) current (last + 1) y (omega (arith, so.behind)) in
        so.is d
        ∙ ap (λ es. take last current ++ summed_from a x es) (drop_more current next d next_in)
        ∙ ap (λ es. take last current ++ es) (summed_other a x y (drop (next + 1) current) (tested d))
        ∙ sym (append_assoc (take last current) (x ∷ []) rest)
        ∙ sym (ap (λ es. es ++ summed_from a (get_or new (last + 1) d) (drop (next + 1) new)) front
        ∙ ap (λ e. (take last current ++ x ∷ []) ++ summed_from a e (drop (next + 1) new)) (swapped.0 d)
        ∙ ap (λ es. (take last current ++ x ∷ []) ++ summed_from a y es) back);
  }

  -- the next entry stands where it goes already
  pub adds_here : (initial current : List Entry) (last next : ℕ) → Adds a initial current last next → next < length initial
      → ((d : Entry) → pointwise nat_eq (get_or current next d).coords (get_or current last d).coords ≡ false)
      → last + 1 ≡ next
      → Adds a initial current (last + 1) (next + 1)
  adds_here initial current last next so h tested here = record {
    long = so.long;
    behind = omega arith;
    within = omega arith;
    is = λ d.
        let x : Entry = get_or current last d in
        let y : Entry = get_or current next d in
        let last_in : last < length current = omega (arith, so.behind, so.long) in
        let next_in : next < length current = omega (arith, so.long) in
        let rest : List Entry = summed_from a y (drop (next + 1) current) in
        so.is d
        ∙ ap (λ es. take last current ++ summed_from a x es) (drop_more current next d next_in)
        ∙ ap (λ es. take last current ++ es) (summed_other a x y (drop (next + 1) current) (tested d))
        ∙ sym (append_assoc (take last current) (x ∷ []) rest)
        ∙ sym (ap (λ es. es ++ summed_from a (get_or current (last + 1) d) (drop (next + 1) current)) (take_more current last d last_in)
        ∙ ap (λ k. (take last current ++ x ∷ []) ++ summed_from a (get_or current k d) (drop (next + 1) current)) here);
  }

  -- at the end
  pub adds_all : (initial current : List Entry) (last next : ℕ) → Adds a initial current last next → length initial ≤ next
      → take (last + 1) current ≡ summed a initial
  adds_all initial current last next so h =
      let last_in : last < length current = omega (arith, so.behind, so.long, so.within) in
      take_more current last blank last_in
      ∙ sym (so.is blank ∙ ap (λ es. take last current
      ++ summed_from a (get_or current last blank) es) (drop_all next current (omega (arith, so.long))))
