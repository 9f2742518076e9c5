-- A workspace of pairs is emptied.
use Rattle.std.specs.Prelude.{◌≡◌, ◌≢◌, ℕ, zero, suc, ◌≤◌, ◌<◌, Bool, true, false, List, [], ◌∷◌, ◌++◌, Some, refl}
use Rattle.std.proofs.Common.{◌∙◌, sym, subst, arith, inl, inr}
use Rattle.std.proofs.lemmas.Bool.Decides.{nat_tests, eqb_tells}
use Rattle.kernel_code.specs.Arrays.{same_arr}
use Rattle.kernel_code.specs.declared.syntax.Arr.{Arr}
use Rattle.kernel_code.specs.declared.syntax.Arr.TheVariants.{Key, Sums}
use Rattle.kernel_code.specs.declared.syntax.KExpr.{Num}
use Rattle.kernel_code.specs.declared.syntax.KStmt.{Cut}
use Rattle.kernel_code.specs.Does.{Does, Never}
use Rattle.kernel_code.specs.Keeps.{Leaves, NoVariable, no_turns}
use Rattle.kernel_code.specs.Meaning.{Setting, State, set_array}
use Rattle.kernel_code.proofs.ArrayNames.{same_arr_self, same_arr_is}
use Rattle.kernel_code.proofs.Does.{does_nothing, does_append, does_cut}
use Rattle.kernel_code.proofs.Keeps.{this_array, other_array, leaves_none, leaves_array}
use Rattle.tensor_map.specs.Entries.{Entry}
use Rattle.term_code.specs.WorkspaceSinks.{IsOfWorkspace, column, values}
use Rattle.drained_workspaces.specs.Draining as drained
use Rattle.pair_workspaces.specs.Codes.{cut_code, empty_code}
use Rattle.pair_workspaces.specs.Drained.{IsDraining, pair_draining}
use Rattle.pair_workspaces.specs.Sinks.{PairSink, IsOther, HoldsPairs, pair_sink}

other_key : (w j n : ℕ) → n ≢ j → same_arr (Key w n) (Key w j) ≡ false
other_key w j n h = grind (arith, nat_tests, h)

not_other : (k : PairSink) (b other : Arr) → IsOfWorkspace k.number b → IsOther k other → same_arr b other ≡ false
not_other k b other of out = by (same_arr b other) refl
  where
    by : (t : Bool) → same_arr b other ≡ t → t ≡ false
    by true is = absurd (out (subst (IsOfWorkspace k.number) (same_arr_is b other is) of))
    by false is = refl

module _ (k : PairSink) (c : Setting) (taken : List Entry) (s : State) (d : IsDraining k taken [] s) (top : ℕ) where
  -- the first n columns of coordinates are empty
  record AreCut (n : ℕ) (t : State) : Type 0 where
    cut : (j : ℕ) → j < n → t.arrays (Key k.number j) ≡ Some []
    due : (j : ℕ) → n ≤ j → t.arrays (Key k.number j) ≡ s.arrays (Key k.number j)
    sums : t.arrays (Sums k.number) ≡ s.arrays (Sums k.number)
    leaves : Leaves NoVariable (IsOther k) top no_turns s t

  one_more : (n : ℕ) (t : State) → AreCut n t → AreCut (suc n) (set_array t (Key k.number n) [])
  one_more n t r = record {
    cut = λ j l. elim (eqb_tells j n) [
      | inl equal ↦ subst (λ m. (set_array t (Key k.number n) []).arrays (Key k.number m) ≡ Some []) (sym equal.1)
          (this_array t (Key k.number n) (Key k.number n) [] (same_arr_self (Key k.number n)))
      | inr apart ↦ let other = apart.1 in
          other_array t (Key k.number n) (Key k.number j) [] (other_key k.number j n (λ e. other (sym e)))
          ∙ r.cut j (omega (arith, l, other))
    ];
    due = λ j l. other_array t (Key k.number n) (Key k.number j) [] (other_key k.number j n (λ e. omega (arith, l, e)))
        ∙ r.due j (omega (arith, l));
    sums = other_array t (Key k.number n) (Sums k.number) [] refl ∙ r.sums;
    leaves = leaves_array NoVariable (IsOther k) top no_turns s t (Key k.number n) [] (λ b out. not_other k (Key k.number n) b refl out)
        r.leaves;
  }

  cuts : (n : ℕ) → n ≤ k.keys → Does c (cut_code k.number n) s (AreCut n) Never
  cuts zero h = does_nothing c s (AreCut 0) Never (record {
    cut = λ j l. absurd (omega (arith, l));
    due = λ j l. refl;
    sums = refl;
    leaves = leaves_none NoVariable (IsOther k) top no_turns s;
  })
  cuts (suc n) h =
      does_append c (cut_code k.number n) (Cut (Key k.number n) (Num 0) ∷ []) s (AreCut n) (AreCut (suc n)) Never
      (cuts n (omega (arith, h)))
      (λ t r. does_cut c (Key k.number n) (Num 0) [] t 0 (column n (taken ++ [])) (AreCut (suc n)) Never refl refl
      (r.due n (omega arith) ∙ d.held.key n (omega (arith, h)))
      (does_nothing c (set_array t (Key k.number n) []) (AreCut (suc n)) Never (one_more n t r)))

  abbrev IsEmpty : State → Type 0
  IsEmpty t = Leaves NoVariable (IsOther k) top no_turns s t × HoldsPairs k [] t

  is_empty : (t : State) → AreCut k.keys t → IsEmpty (set_array t (Sums k.number) [])
  is_empty t r = (
    leaves_array NoVariable (IsOther k) top no_turns s t (Sums k.number) [] (λ b out. not_other k (Sums k.number) b refl out) r.leaves,
    record {
      held = record {
        key = λ j l. other_array t (Sums k.number) (Key k.number j) [] refl ∙ r.cut j l;
        sums = this_array t (Sums k.number) (Sums k.number) [] (same_arr_self (Sums k.number));
        few = omega arith;
      };
      each = tt;
    },
  )

  empties : Does c (empty_code k.number k.keys) s IsEmpty Never
  empties =
      does_append c (cut_code k.number k.keys) (Cut (Sums k.number) (Num 0) ∷ []) s (AreCut k.keys) IsEmpty Never
      (cuts k.keys (omega arith))
      (λ t r. does_cut c (Sums k.number) (Num 0) [] t 0 (values (taken ++ [])) IsEmpty Never refl refl (r.sums ∙ d.held.sums)
      (does_nothing c (set_array t (Sums k.number) []) IsEmpty Never (is_empty t r)))

pub empties_pairs : (k : PairSink) → drained.Empties pair_sink pair_draining k (empty_code k.number k.keys)
empties_pairs k c ranges taken s d top = empties k c taken s d top
