-- Lemmas about what is live.
use Rattle.std.specs.Prelude.{◌≡◌, ◌≢◌, ℕ, ◌<◌, Bool, true, false, nat_lt, ◌==◌, if◌then◌else◌, List, []}
use Rattle.std.specs.Prelude.{Option, Some, None, slice_get, refl}
use Rattle.std.specs.Prelude.{length, slice_set, unwrap_or, ◌+◌, ◌≤◌}
use Rattle.std.proofs.Common.{◌∙◌, ap, sym, subst, get_or, get_or-set_same, get_or-set_other, arith}
use Rattle.std.proofs.lemmas.Bool.Decides.{nat_tests}
use Rattle.std.proofs.lemmas.Option.{slice_get_past, unwrap_or-slice_get}
use Rattle.kernel_code.specs.declared.syntax.Arr.{Arr}
use Rattle.kernel_code.specs.declared.syntax.Op.{Op}
use Rattle.kernel_code.specs.declared.syntax.KExpr.{KExpr, At, Bin, Min, Width}
use Rattle.kernel_code.specs.Keeps.{Mentions, EveryArray}
use Rattle.kernel_code.proofs.Keeps.{mentions_at, mentions_bin, mentions_min, mentions_more, mentions_width, value_kept}
use Rattle.lists.proofs.Tests.{number_same, same_number}
use Rattle.dead_code.specs.Follows.{Vars, with_vars, ReadsAs}
use Rattle.dead_code.specs.Live.{told_live, is_live, Covers, CoversBut, CoversBelow, ReadsLive, Agree}
use Rattle.dead_code.proofs.Following.{given}

pub covers_same : (live : List Bool) → Covers live live
covers_same live = record { at = λ x h. h }

pub covers_then : (a b c : List Bool) → Covers a b → Covers b c → Covers a c
covers_then a b c h g = record { at = λ x k. h.at x (g.at x k) }

pub all_cover : (live : List Bool) → Covers [] live
all_cover live = record { at = λ x h. refl }

pub reads_more : (a b : List Bool) (e : KExpr) → Covers a b → ReadsLive b e → ReadsLive a e
reads_more a b e h r = record {
  mentions = mentions_more (λ x. is_live b x ≡ true) (λ x. is_live a x ≡ true) EveryArray EveryArray e (λ y k. h.at y k) (λ d k. k)
      r.mentions;
}

pub agree_less : (a b : List Bool) → Covers a b → (v w : Vars) → Agree a v w → Agree b v w
agree_less a b h v w g = record { at = λ x k. g.at x (h.at x k) }

pub reads_as : (live : List Bool) (e : KExpr) → ReadsLive live e → ReadsAs (Agree live) e e
reads_as live e r = record {
  at = λ s w h. value_kept (λ x. is_live live x ≡ true) EveryArray e s (with_vars s w) r.mentions (λ y k. h.at y k) (λ a k. refl);
}

same_choice : (b : Bool) (n : ℕ) (p q : Option ℕ) → (b ≡ false → q ≡ p) → (if b then Some n else q) ≡ (if b then Some n else p)
same_choice true n p q h = refl
same_choice false n p q h = h refl

apart_of : (x y : ℕ) → (x == y) ≡ false → x ≢ y
apart_of x y h is = let one : (x == x) ≡ true = number_same x in let other : (x == x) ≡ false = ap (λ z. x == z) is ∙ h in cc

-- a variable that is set holds one value in both
pub agree_set : (live before : List Bool) (x : ℕ) → CoversBut x before live → (v w : Vars) (n : ℕ) → Agree before v w
    → Agree live (given v x n) (given w x n)
agree_set live before x h v w n g = record {
  at = λ y k. same_choice (x == y) n (v y) (w y) (λ other. g.at y (h.at y (apart_of x y other) k));
}

not_live : (b : Bool) (x y : ℕ) (live : List Bool) (n : ℕ) (p q : Option ℕ) → (x == y) ≡ b → is_live live x ≡ false → is_live live y ≡ true
    → q ≡ p → q ≡ (if b then Some n else p)
not_live true x y live n p q is dead k h =
    let same : x ≡ y = same_number x y is in let wrong : is_live live x ≡ true = ap (is_live live) same ∙ k in cc
not_live false x y live n p q is dead k h = h

-- a variable that isn't live may hold another
pub agree_dead : (live : List Bool) (x : ℕ) → is_live live x ≡ false → (v w : Vars) (n : ℕ) → Agree live v w → Agree live (given v x n) w
agree_dead live x dead v w n g = record { at = λ y k. not_live (x == y) x y live n (v y) (w y) refl dead k (g.at y k) }

-- lists of tests, one of which changes
told_or : (o : Option Bool) → told_live o ≡ unwrap_or o true
told_or None = refl
told_or (Some b) = refl

live_or : (live : List Bool) (x : ℕ) → is_live live x ≡ get_or live x true
live_or live x = told_or (slice_get live x) ∙ unwrap_or-slice_get live x true

set_here : (live : List Bool) (x : ℕ) (b : Bool) → x < length live → is_live (slice_set live x b) x ≡ b
set_here live x b l = live_or (slice_set live x b) x ∙ get_or-set_same live x b true l

set_apart : (live : List Bool) (x y : ℕ) (b : Bool) → x ≢ y → is_live (slice_set live x b) y ≡ is_live live y
set_apart live x y b h = live_or (slice_set live x b) y ∙ get_or-set_other live x y b true (λ e. h (sym e)) ∙ sym (live_or live y)

past_end : (live : List Bool) (x : ℕ) → length live ≤ x → is_live live x ≡ true
past_end live x l = ap told_live (slice_get_past live x l)

pub added : (live new : List Bool) (x : ℕ) → x < length live → new ≡ slice_set live x true → is_live new x ≡ true
added live new x l is = ap (λ xs. is_live xs x) is ∙ set_here live x true l

pub added_past : (live : List Bool) (x : ℕ) → length live ≤ x → is_live live x ≡ true
added_past live x l = past_end live x l

covers_added : (live : List Bool) (x : ℕ) → x < length live → Covers (slice_set live x true) live
covers_added live x l = record { at = λ y k. by (x == y) y refl k }
  where
    by : (b : Bool) (y : ℕ) → (x == y) ≡ b → is_live live y ≡ true → is_live (slice_set live x true) y ≡ true
    by true y is k = subst (λ z. is_live (slice_set live x true) z ≡ true) (same_number x y is) (set_here live x true l)
    by false y is k = set_apart live x y true (apart_of x y is) ∙ k

pub covers_set : (live new : List Bool) (x : ℕ) → x < length live → new ≡ slice_set live x true → Covers new live
covers_set live new x l is = subst (λ xs. Covers xs live) (sym is) (covers_added live x l)

pub but_set : (live new : List Bool) (x : ℕ) → new ≡ slice_set live x false → CoversBut x new live
but_set live new x is = subst (λ xs. CoversBut x xs live) (sym is) (record { at = λ y h k. set_apart live x y false h ∙ k })

pub but_same : (live : List Bool) (x : ℕ) → CoversBut x live live
but_same live x = record { at = λ y h k. k }

pub but_then : (a b c : List Bool) (x : ℕ) → Covers a b → CoversBut x b c → CoversBut x a c
but_then a b c x h g = record { at = λ y ne k. h.at y (g.at y ne k) }

-- the first so many variables
pub below_none : (live other : List Bool) → CoversBelow 0 live other
below_none live other = record { at = λ y l k. absurd (omega (arith, l)) }

below_more : (n : ℕ) (live other : List Bool) → CoversBelow n live other → (is_live other n ≡ true → is_live live n ≡ true)
    → CoversBelow (n + 1) live other
below_more n live other h g = record { at = λ y l k. by (n == y) y refl l k }
  where
    by : (b : Bool) (y : ℕ) → (n == y) ≡ b → y < n + 1 → is_live other y ≡ true → is_live live y ≡ true
    by true y is l k = let same = same_number n y is in
        subst (λ z. is_live live z ≡ true) same (g (subst (λ z. is_live other z ≡ true) (sym same) k))
    by false y is l k = let ne = apart_of n y is in h.at y (omega (arith, l, ne)) k

pub below_kept : (n : ℕ) (live other : List Bool) → CoversBelow n live other → is_live other n ≡ false → CoversBelow (n + 1) live other
below_kept n live other h g = below_more n live other h (λ k. cc (g, k))

pub below_held : (n : ℕ) (live other : List Bool) → CoversBelow n live other → is_live live n ≡ true → CoversBelow (n + 1) live other
below_held n live other h g = below_more n live other h (λ k. g)

pub below_set : (n : ℕ) (live new other : List Bool) → n < length live → new ≡ slice_set live n true → CoversBelow n live other
    → CoversBelow (n + 1) new other
below_set n live new other l is h =
    below_more n new other (record { at = λ y b k. (covers_set live new n l is).at y (h.at y b k) }) (λ k. added live new n l is)

pub below_all : (live other : List Bool) (n : ℕ) → length live ≤ n → CoversBelow n live other → Covers live other
below_all live other n l h = record { at = λ y k. by (nat_lt y n) y refl k }
  where
    by : (b : Bool) (y : ℕ) → nat_lt y n ≡ b → is_live other y ≡ true → is_live live y ≡ true
    by true y is k = let small : y < n = grind (arith, nat_tests) in h.at y small k
    by false y is k = let great : n ≤ y = grind (arith, nat_tests) in past_end live y (omega (arith, l, great))

-- expressions made of parts whose variables are live
module _ (live : List Bool) where
  abbrev V : ℕ → Type 0
  V x = is_live live x ≡ true

  pub reads_at : (e i j : KExpr) (a : Arr) → e ≡ At a i → j ≡ i → ReadsLive live j → ReadsLive live e
  reads_at e i j a is same r = record {
    mentions = subst (Mentions V EveryArray) (sym is) (mentions_at V EveryArray a i tt (subst (Mentions V EveryArray) same r.mentions));
  }

  pub reads_bin : (e a b c d : KExpr) (o : Op) → e ≡ Bin o a b → c ≡ a → d ≡ b → ReadsLive live c → ReadsLive live d → ReadsLive live e
  reads_bin e a b c d o is first second r q = record {
    mentions = subst (Mentions V EveryArray) (sym is)
        (mentions_bin V EveryArray o a b (subst (Mentions V EveryArray) first r.mentions)
        (subst (Mentions V EveryArray) second q.mentions));
  }

  pub reads_min : (e a b c d : KExpr) → e ≡ Min a b → c ≡ a → d ≡ b → ReadsLive live c → ReadsLive live d → ReadsLive live e
  reads_min e a b c d is first second r q = record {
    mentions = subst (Mentions V EveryArray) (sym is)
        (mentions_min V EveryArray a b (subst (Mentions V EveryArray) first r.mentions)
        (subst (Mentions V EveryArray) second q.mentions));
  }

  pub reads_width : (e a c : KExpr) → e ≡ Width a → c ≡ a → ReadsLive live c → ReadsLive live e
  reads_width e a c is same r = record {
    mentions = subst (Mentions V EveryArray) (sym is) (mentions_width V EveryArray a (subst (Mentions V EveryArray) same r.mentions));
  }
