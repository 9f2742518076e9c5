-- A sum over variables of what is counted at one choice of their coordinates alone.
use Rattle.std.specs.Prelude.{◌≡◌, ◌≢◌, ℕ, zero, suc, ◌<◌, ◌^◌, true, false, cond, nat_eq, ◌||◌, ◌&&◌, List, [], ◌∷◌, ◌++◌, map, refl}
use Rattle.std.specs.Cmp.Lexicographic.{pointwise}
use Rattle.std.proofs.Common.{◌∙◌, sym, ap, arith, inl, inr}
use Rattle.std.proofs.lemmas.Bool.{cases_eq, eqb-false, eq-eqb}
use Rattle.numbers.specs.Arithmetic.{Arithmetic, Laws}
use Rattle.numbers.specs.Sums.{sum_below, total_of}
use Rattle.numbers.proofs.Sums.{sum_fits, sum_same, sum_zeros, total_fits, zero_before}
use Rattle.index_notation.specs.Statement.{IsDistinct}
use Rattle.expr_terms.specs.Points.{with_coordinate, sum_over}
use Rattle.expr_terms.specs.Result.{AreBelow}
use Rattle.expr_terms.specs.Terms.{contains}
use Rattle.expr_terms.proofs.PointLaws.{unequal, coordinate_same, coordinate_other, not_contained}
use Rattle.concrete_notation.specs.Contributions.{with_coordinates}
use Rattle.concrete_notation.proofs.Points.{neither, or_first, or_second, contains_both, coordinate_first}

module _ (a : Arithmetic) (laws : Laws a) where
  -- a value as it counts in a sum
  abbrev pub counted : ℕ → ℕ
  counted x = a.plus x a.zero

  pub counted_fits : (x : ℕ) → x < 2 ^ 64 → counted x ≡ x
  counted_fits x fits = laws.plus_zero x fits

  pub counts_in : (x y r : ℕ) → r < 2 ^ 64 → counted x ≡ counted y → a.plus x r ≡ a.plus y r
  counts_in x y r fits same =
      ap (a.plus x) (sym (zero_before a laws r fits)) ∙ sym (laws.plus_assoc x a.zero r)
      ∙ ap (λ z. a.plus z r) same
      ∙ laws.plus_assoc y a.zero r ∙ ap (a.plus y) (zero_before a laws r fits)

  pub sum_one : (n c : ℕ) (g : ℕ → ℕ) → c < n → ((x : ℕ) → x < n → x ≢ c → g x ≡ a.zero) → sum_below a n g ≡ counted (g c)
  sum_one zero c g below none = absurd (omega (arith, below))
  sum_one (suc n) c g below none = elim (cases_eq n c) [
    | inl is ↦ ap (a.plus (g n))
        (sum_same a n g (λ x. a.zero) (λ x h. none x (omega (arith, h)) (λ same. absurd (omega (arith, h, is, same))))
        ∙ sum_zeros a laws n) ∙ ap (λ k. counted (g k)) is
    | inr apart ↦ ap (λ y. a.plus y (sum_below a n g)) (none n (omega arith) apart)
        ∙ zero_before a laws (sum_below a n g) (sum_fits a laws n g)
        ∙ sum_one n c g (omega (arith, below, apart)) (λ x h. none x (omega (arith, h)))
  ]

  -- totals of what counts the same
  pub same_totals : {X : Type 0} (f g : X → ℕ) (xs : List X) → ((x : X) → counted (f x) ≡ counted (g x))
      → total_of a (map f xs) ≡ total_of a (map g xs)
  same_totals f g [] same = refl
  same_totals f g (x ∷ xs) same =
      counts_in (f x) (g x) (total_of a (map f xs)) (total_fits a laws (map f xs)) (same x)
      ∙ ap (a.plus (g x)) (same_totals f g xs same)

  module _ (ranges : ℕ → ℕ) where
    pub zeros_over : (vs : List ℕ) (p : ℕ → ℕ) → sum_over a ranges vs (λ q. a.zero) p ≡ a.zero
    zeros_over [] p = refl
    zeros_over (v ∷ vs) p =
        sum_same a (ranges v) (λ x. sum_over a ranges vs (λ q. a.zero) (with_coordinate p v x)) (λ x. a.zero)
        (λ x h. zeros_over vs (with_coordinate p v x)) ∙ sum_zeros a laws (ranges v)

    -- what is summed matters at the points alone that differ from the given one at the summed variables
    sum_reached : (vs : List ℕ) (f g : (ℕ → ℕ) → ℕ) (p : ℕ → ℕ)
        → ((q : ℕ → ℕ) → ((w : ℕ) → contains vs w ≡ false → q w ≡ p w) → f q ≡ g q) → sum_over a ranges vs f p ≡ sum_over a ranges vs g p
    sum_reached [] f g p same = same p (λ w h. refl)
    sum_reached (v ∷ vs) f g p same =
        sum_same a (ranges v) (λ x. sum_over a ranges vs f (with_coordinate p v x)) (λ x. sum_over a ranges vs g (with_coordinate p v x))
        (λ x h. sum_reached vs f g (with_coordinate p v x) (λ q others. same q (λ w there.
        let apart = neither (nat_eq v w) (contains vs w) there in
        others w apart.1 ∙ coordinate_other p v x w (eqb-false v w apart.0))))

    module _ (f : (ℕ → ℕ) → ℕ) (own : List ℕ) where
      -- it counts where the keys have these coordinates
      abbrev pub pinned_at : List ℕ → List ℕ → (ℕ → ℕ) → ℕ
      pinned_at keys coords q = cond (pointwise nat_eq (map q keys) coords) (f q) a.zero

      module _ (k : ℕ) (ks : List ℕ) (c : ℕ) (cs : List ℕ) (p : ℕ → ℕ) (free : contains (ks ++ own) k ≡ false) where
        there : (x : ℕ) (q : ℕ → ℕ) → ((w : ℕ) → contains (ks ++ own) w ≡ false → q w ≡ with_coordinate p k x w) → q k ≡ x
        there x q others = others k free ∙ coordinate_same p k x

        pinned_elsewhere : (x : ℕ) → x ≢ c → sum_over a ranges (ks ++ own) (pinned_at (k ∷ ks) (c ∷ cs)) (with_coordinate p k x) ≡ a.zero
        pinned_elsewhere x apart =
            sum_reached (ks ++ own) (pinned_at (k ∷ ks) (c ∷ cs)) (λ q. a.zero) (with_coordinate p k x) (λ q others.
            let test : nat_eq (q k) c ≡ false = ap (λ y. nat_eq y c) (there x q others) ∙ unequal x c apart in
            ap (λ b. cond (b && pointwise nat_eq (map q ks) cs) (f q) a.zero) test)
            ∙ zeros_over (ks ++ own) (with_coordinate p k x)

        pinned_here : sum_over a ranges (ks ++ own) (pinned_at (k ∷ ks) (c ∷ cs)) (with_coordinate p k c)
            ≡ sum_over a ranges (ks ++ own) (pinned_at ks cs) (with_coordinate p k c)
        pinned_here =
            sum_reached (ks ++ own) (pinned_at (k ∷ ks) (c ∷ cs)) (pinned_at ks cs) (with_coordinate p k c) (λ q others.
            let test : nat_eq (q k) c ≡ true = ap (λ y. nat_eq y c) (there c q others) ∙ eq-eqb c c refl in
            ap (λ b. cond (b && pointwise nat_eq (map q ks) cs) (f q) a.zero) test)

      pub pinned : (keys coords : List ℕ) → AreBelow coords (map ranges keys) → IsDistinct keys
          → ((w : ℕ) → contains keys w ≡ true → contains own w ≡ false) → (p : ℕ → ℕ)
          → counted (sum_over a ranges (keys ++ own) (pinned_at keys coords) p)
          ≡ counted (sum_over a ranges own f (with_coordinates p keys coords))
      pinned [] [] below distinct apart p = refl
      pinned [] (c ∷ cs) below distinct apart p = absurd below
      pinned (k ∷ ks) [] below distinct apart p = absurd below
      pinned (k ∷ ks) (c ∷ cs) below distinct apart p =
          let free : contains (ks ++ own) k ≡ false = contains_both ks own k
          ∙ ap (λ b. b || contains own k) (not_contained k ks distinct.0)
          ∙ apart k (or_first (nat_eq k k) (contains ks k) (eq-eqb k k refl)) in
          let at : ℕ → ℕ = λ x. sum_over a ranges (ks ++ own) (pinned_at (k ∷ ks) (c ∷ cs)) (with_coordinate p k x) in
          let rest : counted (sum_over a ranges (ks ++ own) (pinned_at ks cs) (with_coordinate p k c))
          ≡ counted (sum_over a ranges own f (with_coordinates (with_coordinate p k c) ks cs)) =
          pinned ks cs below.1 distinct.1 (λ w h. apart w (or_second (nat_eq k w) (contains ks w) h)) (with_coordinate p k c) in
          ap counted (sum_one (ranges k) c at below.0 (λ x h other. pinned_elsewhere k ks c cs p free x other))
          ∙ counted_fits (counted (at c)) (laws.plus_fits (at c) a.zero)
          ∙ ap counted (pinned_here k ks c cs p free)
          ∙ rest
          ∙ ap (λ q. counted (sum_over a ranges own f q)) (coordinate_first p k c ks cs distinct.0)
