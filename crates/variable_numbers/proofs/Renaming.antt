-- Lemmas about runs whose variables have other numbers.
use Rattle.std.specs.Prelude.{◌≡◌, ℕ, ◌+◌, ◌<◌, ◌≤◌, min, Bool, true, false, ◌==◌, if◌then◌else◌, List, [], ◌∷◌, ◌++◌, length, Option, Some}
use Rattle.std.specs.Prelude.{slice_get, take, refl}
use Rattle.std.proofs.Common.{◌∙◌, ap, sym, subst, get_or}
use Rattle.std.proofs.lemmas.Bool.{false≢true}
use Rattle.std.proofs.lemmas.List.{take_all, take_more}
use Rattle.std.proofs.lemmas.Option.{same_Some}
use Rattle.lists.proofs.Tests.{number_same, same_number}
use Rattle.kernel_code.specs.declared.syntax.Arr.{Arr}
use Rattle.kernel_code.specs.declared.syntax.LoopKind.{LoopKind}
use Rattle.kernel_code.specs.declared.syntax.Op.{Op}
use Rattle.kernel_code.specs.declared.syntax.ValueOp.{ValueOp}
use Rattle.kernel_code.specs.declared.syntax.KExpr.{KExpr, Num, Var, At, Len, Bin, Min, Width}
use Rattle.kernel_code.specs.declared.syntax.KStmt.{KStmt, Set, Combine, If, While}
use Rattle.kernel_code.specs.Meaning.{value, word_at, width_of, apply_each, apply_both}
use Rattle.kernel_code.proofs.Equations.{value_at, value_bin, value_min, value_width}
use Rattle.dead_code.specs.Follows.{Vars, Tie, with_vars, Follows, ReadsAs}
use Rattle.dead_code.proofs.Following.{follows_choice, follows_combine, follows_loop, follows_none, follows_now, follows_set}
use Rattle.dead_code.proofs.Following.{follows_then, given}
use Rattle.variable_numbers.specs.Numbers.{IsTable, Renamed}
use Rattle.variable_numbers.proofs.Tables.{one_name}

-- expressions
module _ (tie : Tie) (e f : KExpr) where
  reads_now : (d g : KExpr) → e ≡ d → f ≡ g → ReadsAs tie d g → ReadsAs tie e f
  reads_now d g is same r = subst (λ k. ReadsAs tie k f) (sym is) (subst (ReadsAs tie d) (sym same) r)

  pub reads_num : (n : ℕ) → e ≡ Num n → f ≡ Num n → ReadsAs tie e f
  reads_num n is same = reads_now (Num n) (Num n) is same (record { at = λ s w h. refl })

  pub reads_len : (a : Arr) → e ≡ Len a → f ≡ Len a → ReadsAs tie e f
  reads_len a is same = reads_now (Len a) (Len a) is same (record { at = λ s w h. refl })

  pub reads_at : (a : Arr) (i held j box : KExpr) → e ≡ At a i → held ≡ i → ReadsAs tie held j → box ≡ j → f ≡ At a box → ReadsAs tie e f
  reads_at a i held j box is here r there same = reads_now (At a held) (At a j) (is ∙ ap (At a) (sym here)) (same ∙ ap (At a) there)
      (record { at = λ s w h. value_at a j (with_vars s w) ∙ ap (word_at (s.arrays a)) (r.at s w h) ∙ sym (value_at a held s) })

  pub reads_width : (i held j box : KExpr) → e ≡ Width i → held ≡ i → ReadsAs tie held j → box ≡ j → f ≡ Width box → ReadsAs tie e f
  reads_width i held j box is here r there same = reads_now (Width held) (Width j) (is ∙ ap Width (sym here)) (same ∙ ap Width there)
      (record { at = λ s w h. value_width j (with_vars s w) ∙ ap width_of (r.at s w h) ∙ sym (value_width held s) })

  pub reads_bin : (o : Op) (a b c d g h one other : KExpr) → e ≡ Bin o a b → c ≡ a → d ≡ b → ReadsAs tie c g → ReadsAs tie d h → one ≡ g
      → other ≡ h → f ≡ Bin o one other → ReadsAs tie e f
  reads_bin o a b c d g h one other is first second r q left right same =
      reads_now (Bin o c d) (Bin o g h) (is ∙ ap (λ k. Bin o k b) (sym first) ∙ ap (Bin o c) (sym second))
      (same ∙ ap (λ k. Bin o k other) left ∙ ap (Bin o g) right)
      (record {
        at = λ s w t.
            value_bin o g h (with_vars s w) ∙ ap (λ v. apply_both o v (value h (with_vars s w))) (r.at s w t)
            ∙ ap (apply_both o (value c s)) (q.at s w t) ∙ sym (value_bin o c d s);
      })

  pub reads_min : (a b c d g h one other : KExpr) → e ≡ Min a b → c ≡ a → d ≡ b → ReadsAs tie c g → ReadsAs tie d h → one ≡ g
      → other ≡ h → f ≡ Min one other → ReadsAs tie e f
  reads_min a b c d g h one other is first second r q left right same =
      reads_now (Min c d) (Min g h) (is ∙ ap (λ k. Min k b) (sym first) ∙ ap (Min c) (sym second))
      (same ∙ ap (λ k. Min k other) left ∙ ap (Min g) right)
      (record {
        at = λ s w t.
            value_min g h (with_vars s w) ∙ ap (λ v. apply_each min v (value h (with_vars s w))) (r.at s w t)
            ∙ ap (apply_each min (value c s)) (q.at s w t) ∙ sym (value_min c d s);
      })

-- variables
module _ (table : List (Option ℕ)) (names : List ℕ) (t : IsTable table names) where
  pub reads_var : (x i : ℕ) → slice_get names i ≡ Some x → ReadsAs (Renamed names) (Var x) (Var i)
  reads_var x i is = record { at = λ s w h. h.at x i is }

  set_one : (x i y j n : ℕ) (p q : Option ℕ) (b d : Bool) → slice_get names i ≡ Some x → slice_get names j ≡ Some y → (i == j) ≡ b
      → (x == y) ≡ d → q ≡ p → (if b then Some n else q) ≡ (if d then Some n else p)
  set_one x i y j n p q true true h g is same k = refl
  set_one x i y j n p q false false h g is same k = k
  set_one x i y j n p q true false h g is same k =
      let there = subst (λ m. slice_get names m ≡ Some y) (sym (same_number i j is)) g in
      let one = same_Some x y (sym h ∙ there) in
      absurd (false≢true (sym same ∙ ap (λ z. x == z) (sym one) ∙ number_same x))
  set_one x i y j n p q false true h g is same k =
      let one = one_name table names x i j t h (g ∙ ap Some (sym (same_number x y same))) in
      absurd (false≢true (sym is ∙ ap (λ z. i == z) (sym one) ∙ number_same i))

  -- a variable that is set holds one value in both
  pub renamed_set : (x i : ℕ) → slice_get names i ≡ Some x → (v w : Vars) (n : ℕ) → Renamed names v w
      → Renamed names (given v x n) (given w i n)
  renamed_set x i is v w n r = record {
    at = λ y j h. set_one x i y j n (v y) (w j) (i == j) (x == y) is h refl refl (r.at y j h);
  }

  pub numbered_set : (k : KStmt) (x i : ℕ) (e f : KExpr) → k ≡ Set x e → slice_get names i ≡ Some x → ReadsAs (Renamed names) e f
      → Follows (Renamed names) (k ∷ []) (Set i f ∷ []) (Renamed names)
  numbered_set k x i e f is place r =
      follows_now (Renamed names) (Renamed names) (k ∷ []) (Set x e ∷ []) (Set i f ∷ []) (Set i f ∷ []) (ap (λ s. s ∷ []) is) refl
      (follows_set (Renamed names) (Renamed names) x i e f r (renamed_set x i place))

  pub numbered_combine : (k : KStmt) (x i : ℕ) (o : ValueOp) (e f g h : KExpr) → k ≡ Combine x o e f → slice_get names i ≡ Some x
      → ReadsAs (Renamed names) e g → ReadsAs (Renamed names) f h
      → Follows (Renamed names) (k ∷ []) (Combine i o g h ∷ []) (Renamed names)
  numbered_combine k x i o e f g h is place r q =
      follows_now (Renamed names) (Renamed names) (k ∷ []) (Combine x o e f ∷ []) (Combine i o g h ∷ []) (Combine i o g h ∷ [])
      (ap (λ s. s ∷ []) is) refl
      (follows_combine (Renamed names) (Renamed names) x i o e f g h r q (renamed_set x i place))

-- statements and code, over any tie
module _ (tie : Tie) where
  pub follows_here : (k s : KStmt) (new : List KStmt) → k ≡ s → Follows tie (s ∷ []) new tie → Follows tie (k ∷ []) new tie
  follows_here k s new is p = subst (λ j. Follows tie (j ∷ []) new tie) (sym is) p

  pub numbered_choice : (k : KStmt) (e d : KExpr) (first second held last one other : List KStmt) → k ≡ If e first second → held ≡ first
      → last ≡ second → ReadsAs tie e d → Follows tie held one tie → Follows tie last other tie
      → Follows tie (k ∷ []) (If d one other ∷ []) tie
  numbered_choice k e d first second held last one other is same end r p q =
      follows_here k (If e first second) (If d one other ∷ []) is
      (follows_choice tie tie tie tie e d first second one other r (λ v w h. h) (λ v w h. h)
      (subst (λ xs. Follows tie xs one tie) same p) (subst (λ xs. Follows tie xs other tie) end q))

  pub numbered_loop : (s : KStmt) (k : LoopKind) (e d : KExpr) (body held turned : List KStmt) → s ≡ While k e body → held ≡ body
      → ReadsAs tie e d → Follows tie held turned tie → Follows tie (s ∷ []) (While k d turned ∷ []) tie
  numbered_loop s k e d body held turned is same r p =
      follows_here s (While k e body) (While k d turned ∷ []) is
      (follows_loop tie tie k e d body turned r (subst (λ xs. Follows tie xs turned tie) same p) (λ v w h. h))

  pub code_none : (code : List KStmt) → Follows tie (take 0 code) [] tie
  code_none code = follows_none tie tie (λ v w h. h)

  pub code_more : (code numbered new : List KStmt) (n : ℕ) (s t : KStmt) → n < length code → s ≡ get_or code n s
      → Follows tie (take n code) numbered tie → Follows tie (s ∷ []) (t ∷ []) tie → new ≡ numbered ++ t ∷ []
      → Follows tie (take (n + 1) code) new tie
  code_more code numbered new n s t l is p q same =
      follows_now tie tie (take (n + 1) code) (take n code ++ s ∷ []) new (numbered ++ t ∷ [])
      (take_more code n s l ∙ ap (λ x. take n code ++ x ∷ []) (sym is)) same
      (follows_then tie tie tie (take n code) (s ∷ []) numbered (t ∷ []) p q)

  pub code_all : (code new : List KStmt) (n : ℕ) → length code ≤ n → Follows tie (take n code) new tie → Follows tie code new tie
  code_all code new n l p = subst (λ xs. Follows tie xs new tie) (take_all n code l) p
