-- The positions of a table's rows level by level, as their coordinates alone tell them.
use Rattle.std.specs.Prelude.{◌≡◌, ◌⊎◌, ℕ, suc, ◌+◌, ◌*◌, ◌≤◌, ◌<◌, not, Bool, true, false, refl}
use Rattle.std.proofs.Common.{◌∙◌, sym, ap, subst, arith, inl, inr}
use Rattle.std.proofs.Math.Nat.{mul-le-mul_right}
use Rattle.std.proofs.lemmas.Bool.{cases_order}
use Rattle.level_core.specs.declared.letter.Letter.{Letter}
use Rattle.level_core.specs.Kinds.{properties}
use Rattle.level_rows.specs.Rows.{Rows, begun, place, MayAppendRows}
use Rattle.level_rows.specs.Growing.{IsNext}
use Rattle.level_rows.specs.Tables.{Increase, Begins, ShareBy, NeverFall, AllPlaced, AreRowsOf}
use Rattle.level_rows.proofs.PlaceLaws.{may_append_rows, appended_share, appended_never_fall, appended_all_placed}
use Rattle.level_rows.proofs.TableLaws.{agree_more, agree_less, coords_upto}

-- rows have positions at the level that stands above the one numbered d, which they share by their first coordinates; the level may
-- have groups
pub record PlacedAt (coords : ℕ → ℕ → ℕ) (count d above parents : ℕ) (groups : Bool) (place : ℕ → ℕ) : Type 0 where
  pub share : ShareBy coords above count parents place
  pub never_fall : NeverFall count place
  pub level : groups ≡ false → above ≡ d
  pub deep : groups ≡ true → d < above
  pub all_placed : groups ≡ true → AllPlaced count parents place

apart : {A : Type 0} → true ≡ false → A
apart e = absurd (never e)
  where
    never : true ≡ false → ⊥
    never e = cc

pub placed_none : (coords : ℕ → ℕ → ℕ) (count : ℕ) → PlacedAt coords count 0 0 1 false (λ i. 0)
placed_none coords count = record {
  share = record { within = λ i h. omega arith; agree = λ i j less h same d l. absurd (omega (arith, l)); share = λ i j less h a. refl };
  never_fall = λ i h. omega arith;
  level = λ _. refl;
  deep = λ e. apart (sym e);
  all_placed = λ e. apart (sym e);
}

pub deeper : (letter : Letter) (d n above : ℕ) (groups : Bool) → IsNext letter d n above groups → d < n
deeper letter d n above groups next = by_case (properties letter).unique refl
  where
    by_case : (b : Bool) → (properties letter).unique ≡ b → d < n
    by_case true is = let k = next.unique is in omega (arith, k)
    by_case false is = let k = next.more is in omega (arith, k)

upto_next : (coords : ℕ → ℕ → ℕ) (count parents : ℕ) (place : ℕ → ℕ) (letter : Letter) (d n above : ℕ) (groups : Bool)
    → PlacedAt coords count d above parents groups place → IsNext letter d n above groups → above ≤ n
upto_next coords count parents place letter d n above groups p next = by_case groups refl
  where
    by_case : (b : Bool) → groups ≡ b → above ≤ n
    by_case true is = let k = next.chained is in omega (arith, k)
    by_case false is = let k = p.level is in let l = deeper letter d n above groups next in omega (arith, k, l)

-- the rows may be appended to the level
pub may_append : (coords : ℕ → ℕ → ℕ) (order d n above size parents : ℕ) (groups : Bool) (letter : Letter) (rows : Rows)
    → Increase coords order rows.count → PlacedAt coords rows.count d above parents groups rows.parent → IsNext letter d n above groups
    → AreRowsOf coords d n size rows → MayAppendRows letter size parents rows
may_append coords order d n above size parents groups letter rows up p next are =
    may_append_rows letter coords order d n above size parents rows up are p.share p.never_fall (deeper letter d n above groups next)
    (upto_next coords rows.count parents rows.parent letter d n above groups p next) next.unique
    (λ b. p.level (sym next.branchless ∙ b))
    (λ b. let with_groups = sym next.branchless ∙ b in (next.chained with_groups, p.all_placed with_groups))

-- and where they are, each has its position there
pub placed_appended : (coords : ℕ → ℕ → ℕ) (order d n above : ℕ) (groups : Bool) (letter : Letter) (rows : Rows)
    → Increase coords order rows.count → IsNext letter d n above groups → Begins coords n rows.count rows.first
    → PlacedAt coords rows.count (suc d) n (begun rows.first rows.count) (not (properties letter).unique) (place rows.first)
placed_appended coords order d n above groups letter rows up next begins = record {
  share = appended_share coords order n rows (place rows.first) up begins (λ i h. refl);
  never_fall = appended_never_fall rows (place rows.first) (λ i h. refl);
  level = λ b. by_unique (properties letter).unique refl b;
  deep = λ b. by_groups (properties letter).unique refl b;
  all_placed = λ _. appended_all_placed rows (place rows.first) (λ i h. refl);
}
  where
    by_unique : (u : Bool) → (properties letter).unique ≡ u → not (properties letter).unique ≡ false → n ≡ suc d
    by_unique true is b = next.unique is
    by_unique false is b = apart (sym (ap not is) ∙ b)

    by_groups : (u : Bool) → (properties letter).unique ≡ u → not (properties letter).unique ≡ true → suc d < n
    by_groups true is b = apart (sym b ∙ ap not is)
    by_groups false is b = next.more is

-- two positions of a full level are one only at one coordinate below one parent
pub one_place : (size p q x y : ℕ) → x < size → y < size → p * size + x ≡ q * size + y → (p ≡ q) × (x ≡ y)
one_place size p q x y h g e = by_order (cases_order p q)
  where
    less_apart : (p q x y : ℕ) → x < size → p < q → p * size + x ≡ q * size + y → ⊥
    less_apart p q x y h less e =
        let more : (p + 1) * size ≤ q * size = mul-le-mul_right size (omega (arith, less)) in
        let next : (p + 1) * size ≡ p * size + size = grind arith in
        omega (arith, more, next, h, e)

    by_order : (p ≡ q) ⊎ ((p < q) ⊎ (q < p)) → (p ≡ q) × (x ≡ y)
    by_order (inl same) = (same, (let k = ap (λ r. r * size) same in omega (arith, k, e)))
    by_order (inr (inl less)) = absurd (less_apart p q x y h less e)
    by_order (inr (inr more)) = absurd (less_apart q p y x g more (sym e))

pub full_within : (size p parents x : ℕ) → x < size → p < parents → p * size + x < parents * size
full_within size p parents x h less =
    let more : (p + 1) * size ≤ parents * size = mul-le-mul_right size (omega (arith, less)) in
    let next : (p + 1) * size ≡ p * size + size = grind arith in
    omega (arith, more, next, h)

-- a full level below one without groups stores nothing
pub placed_full : (coords : ℕ → ℕ → ℕ) (order count d above parents size : ℕ) (groups : Bool) (place : ℕ → ℕ)
    → Increase coords order count → PlacedAt coords count d above parents groups place → groups ≡ false
    → ((i : ℕ) → i < count → coords d i < size)
    → PlacedAt coords count (suc d) (suc d) (parents * size) false (λ i. place i * size + coords d i)
placed_full coords order count d above parents size groups place up p none below = record {
  share = record {
    within = λ i h. full_within size (place i) parents (coords d i) (below i h) (share.within i h);
    agree = λ i j less h e.
        let one = one_place size (place i) (place j) (coords d i) (coords d j) (below i (omega (arith, less, h))) (below j h) e in
        agree_more coords d i j (share.agree i j less h one.0) one.1;
    share = λ i j less h a.
        ap (λ q. q * size + coords d i) (share.share i j less h (agree_less coords d (suc d) i j (omega arith) a))
        ∙ ap (λ x. place j * size + x) (a d (omega arith));
  };
  never_fall = λ i h. never i h (cases_order (place i) (place (suc i)));
  level = λ _. refl;
  deep = λ e. apart (sym e);
  all_placed = λ e. apart (sym e);
}
  where
    share : ShareBy coords d count parents place
    share = subst (λ n. ShareBy coords n count parents place) (p.level none) p.share

    never : (i : ℕ) → suc i < count → (place i ≡ place (suc i)) ⊎ ((place i < place (suc i)) ⊎ (place (suc i) < place i))
        → place i * size + coords d i ≤ place (suc i) * size + coords d (suc i)
    never i h (inl same) =
        let upto = coords_upto coords order count d i (suc i) up (omega arith) h (share.agree i (suc i) (omega arith) h same) in
        let equal = ap (λ q. q * size) same in
        omega (arith, upto, equal)
    never i h (inr (inl less)) =
        let b = below i (omega (arith, h)) in
        let more : (place i + 1) * size ≤ place (suc i) * size = mul-le-mul_right size (omega (arith, less)) in
        let next : (place i + 1) * size ≡ place i * size + size = grind arith in
        omega (arith, more, next, b)
    never i h (inr (inr more)) = let k = p.never_fall i h in absurd (omega (arith, k, more))
