-- Entries drawn one after another, and what stands of them once they are sorted and added.
use Rattle.std.specs.Prelude.{◌≡◌, ℕ, zero, suc, ◌+◌, ◌*◌, ◌%◌, ◌<◌, ◌≤◌, List, [], ◌∷◌, ◌++◌, length, All, slice_index_or}
use Rattle.std.specs.List.{range_with_len}
use Rattle.std.proofs.Common.{◌∙◌, ap, sym, subst, arith, inl, inr, add-zero, zero-add, lit≤}
use Rattle.std.proofs.lemmas.List.Elements.{All-nil, All-cons, All-tail, All-map}
use Rattle.std.proofs.lemmas.List.FromFn.{map-range_with_len_more, length-map-range_with_len}
use Rattle.std.proofs.Math.Nat.{mod-lt}
use Rattle.limits.specs.Limits.{greatest_order}
use Rattle.numbers.specs.Ring.{ring}
use Rattle.tensor_map.specs.Entries.{Entry, Entries, Listed, SameValues, SameListed, StrictlyIncreasing}
use Rattle.tensor_map.proofs.Lemmas.{listed_at}
use Rattle.generated_runs.specs.Draws.{next_state, state_after, draw}
use Rattle.generated_runs.specs.Generated.{entry_at, first_drawn, drawn, AreSummed, IsGenerated}

pub matrices_are_tensors : 2 ≤ greatest_order
unfolding greatest_order
matrices_are_tensors = lit≤ tt

-- draws behind draws
pub state_behind : (x a b : ℕ) → state_after (state_after x a) b ≡ state_after x (a + b)
state_behind x a zero = ap (state_after x) (sym (add-zero a))
state_behind x a (suc b) =
    let more : suc (a + b) ≡ a + suc b = omega arith in
    ap next_state (state_behind x a b) ∙ ap (state_after x) more

pub three_more : (x i s t : ℕ) → s ≡ state_after x (3 * i) → t ≡ state_after s 3 → t ≡ state_after x (3 * (i + 1))
three_more x i s t before after =
    let more : 3 * i + 3 ≡ 3 * (i + 1) = omega arith in
    after ∙ ap (λ (y : ℕ). state_after y 3) before ∙ state_behind x (3 * i) 3 ∙ ap (state_after x) more

-- one more entry is drawn
pub one_more : (n x i s : ℕ) (before after : List Entry) → before ≡ first_drawn n x i → s ≡ state_after x (3 * i)
    → after ≡ before ++ entry_at n s ∷ [] → after ≡ first_drawn n x (i + 1)
one_more n x i s before after drawn_is state_is pushed =
    pushed ∙ ap (λ (l : List Entry). l ++ entry_at n s ∷ []) drawn_is
    ∙ ap (λ (y : ℕ). first_drawn n x i ++ entry_at n y ∷ []) state_is
    ∙ sym (map-range_with_len_more (λ (k : ℕ). entry_at n (state_after x (3 * k))) 0 i i (zero-add i))

-- each coordinate of an entry is below n
abbrev pub IsInside : ℕ → Entry → Type 0
IsInside n entry = All (λ coordinate. coordinate < n) entry.coords

entry_inside : (m x : ℕ) → IsInside (suc m) (entry_at (suc m) x)
entry_inside m x =
    let rest = All-cons (λ (c : ℕ). c < suc m) (draw x 1 % suc m) [] (mod-lt (draw x 1) (omega arith)) (All-nil (λ (c : ℕ). c < suc m)) in
    All-cons (λ (c : ℕ). c < suc m) (draw x 0 % suc m) (draw x 1 % suc m ∷ []) (mod-lt (draw x 0) (omega arith)) rest

drawn_inside : (n x : ℕ) → All (IsInside n) (drawn n x)
drawn_inside zero x = All-nil (IsInside zero)
drawn_inside (suc m) x = All-map (IsInside (suc m)) (λ (i : ℕ). entry_at (suc m) (state_after x (3 * i))) (range_with_len 0 (suc m))
    (λ k d h. entry_inside m (state_after x (3 * slice_index_or (range_with_len 0 (suc m)) k d)))

listed_inside : (n : ℕ) (entries : List Entry) (coords : List ℕ) → All (IsInside n) entries → Listed entries coords
    → All (λ coordinate. coordinate < n) coords
listed_inside n [] coords each listed = absurd listed
listed_inside n (entry ∷ entries) coords each (inl here) =
    subst (λ (cs : List ℕ). All (λ coordinate. coordinate < n) cs) here (each 0 entry (omega arith))
listed_inside n (entry ∷ entries) coords each (inr more) =
    listed_inside n entries coords (All-tail (IsInside n) entry entries each) more

-- drawn entries, once they are sorted and added
pub summed_are : (n x : ℕ) (raw new : Entries) → raw.order ≡ 2 → raw.list ≡ drawn n x → new.order ≡ raw.order
    → SameValues ring raw.list new.list → SameListed raw.list new.list → StrictlyIncreasing new.list
    → length new.list ≤ length raw.list → AreSummed n (drawn n x) new
summed_are n x raw new order drawn_is order_is values listed increasing shorter =
    let same : SameListed (drawn n x) new.list = subst (λ (l : List Entry). SameListed l new.list) drawn_is listed in
    let long : length raw.list ≡ n =
    ap length drawn_is ∙ length-map-range_with_len (λ (i : ℕ). entry_at n (state_after x (3 * i))) 0 n in
    record {
      order = order_is ∙ order;
      values = subst (λ (l : List Entry). SameValues ring l new.list) drawn_is values;
      listed = same;
      increasing = increasing;
      inside = λ k d h. listed_inside n (drawn n x) (slice_index_or new.list k d).coords (drawn_inside n x)
          ((same (slice_index_or new.list k d).coords).0 (listed_at new.list k d h));
      few = omega (arith, shorter, long);
    }

-- the operands of a workload, one after another
pub generated_are : (n s t : ℕ) (first second third : Entries) → AreSummed n (drawn n n) first → s ≡ state_after n (3 * n)
    → AreSummed n (drawn n s) second → t ≡ state_after s (3 * n) → AreSummed n (drawn n t) third
    → IsGenerated n 0 first × IsGenerated n 1 second × IsGenerated n 2 third
generated_are n s t first second third one then two after three =
    let none : 0 ≡ 0 * (3 * n) = omega arith in
    let once : 3 * n ≡ 1 * (3 * n) = omega arith in
    let twice : 3 * n + 3 * n ≡ 2 * (3 * n) = omega arith in
    let at_second : s ≡ state_after n (1 * (3 * n)) = then ∙ ap (state_after n) once in
    let at_third : t ≡ state_after n (2 * (3 * n)) =
    after ∙ ap (λ (y : ℕ). state_after y (3 * n)) then ∙ state_behind n (3 * n) (3 * n) ∙ ap (state_after n) twice in (
      subst (λ (k : ℕ). AreSummed n (drawn n (state_after n k)) first) none one,
      subst (λ (x : ℕ). AreSummed n (drawn n x) second) at_second two,
      subst (λ (x : ℕ). AreSummed n (drawn n x) third) at_third three,
    )
