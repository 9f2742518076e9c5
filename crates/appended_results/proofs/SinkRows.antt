-- The code of a row adds it to those that the sink holds.
use Rattle.std.specs.Prelude.{◌≡◌, ◌⊎◌, ℕ, zero, suc, ◌+◌, ◌*◌, ◌≤◌, ◌<◌, List, [], ◌∷◌, ◌++◌, length, slice_index}
use Rattle.std.specs.Prelude.{All, Option}
use Rattle.std.specs.Prelude.{Some}
use Rattle.std.specs.List.{range_with_len}
use Rattle.std.proofs.Common.{◌∙◌, sym, ap, subst, arith, inl, inr}
use Rattle.std.proofs.lemmas.Bool.{cases_lt}
use Rattle.std.proofs.lemmas.List.{append_assoc}
use Rattle.std.proofs.lemmas.List.FromFn.{length-range_with_len, get_or-range_with_len}
use Rattle.kernel_code.specs.Does.{Does, Never}
use Rattle.kernel_code.proofs.Does.{does_weaker, does_nothing, does_append, does_set}
use Rattle.kernel_code.specs.Keeps.{Leaves, NoVariable, EveryArray, no_turns}
use Rattle.kernel_code.proofs.Keeps.{this_var, other_var, leaves_set, leaves_none}
use Rattle.kernel_code.specs.Meaning.{Setting, State, set_var}
use Rattle.kernel_code.specs.declared.syntax.KExpr.{Var}
use Rattle.kernel_code.specs.declared.syntax.KStmt.{KStmt, Set}
use Rattle.level_core.specs.Fragments.{RefusedWithin}
use Rattle.tensor_storage.specs.Storages.{in_level_order}
use Rattle.result_targets.specs.Scratch.{IsThere}
use Rattle.result_targets.specs.Sinks.{Adds, AddsTo, VarsAre}
use Rattle.appended_results.specs.Levels.{IsMine, IsKept}
use Rattle.appended_results.specs.Codes.{AreKeys, IsOutsideResult}
use Rattle.appended_results.specs.Sink.{AppendedSink, letters_in, appended_sink, IsRowCode, IsCopiedRow, copy_code}
use Rattle.appended_results.specs.SinkLaws.{appended_laws, many_letters}
use Rattle.appended_results.specs.Values.{add_code}
use Rattle.appended_results.proofs.WholeRows.{adds_row}

var_at : (keys xs : List ℕ) (s : State) (e : ℕ) → VarsAre keys xs s → e < length keys
    → s.vars (slice_index keys e) ≡ Some (slice_index xs e)
var_at [] xs s e v h = absurd (omega (arith, h))
var_at (y ∷ ys) [] s e v h = absurd v
var_at (y ∷ ys) (x ∷ xs) s zero v h = v.0
var_at (y ∷ ys) (x ∷ xs) s (suc e) v h = var_at ys xs s e v.1 (omega (arith, h))

vars_from : (keys xs : List ℕ) (s : State) → length keys ≡ length xs
    → ((e : ℕ) → e < length keys → s.vars (slice_index keys e) ≡ Some (slice_index xs e)) → VarsAre keys xs s
vars_from [] [] s many h = tt
vars_from [] (x ∷ xs) s many h = absurd (omega (arith, many))
vars_from (y ∷ ys) [] s many h = absurd (omega (arith, many))
vars_from (y ∷ ys) (x ∷ xs) s many h =
    (h 0 (omega arith), vars_from ys xs s (omega (arith, many)) (λ e l. h (suc e) (omega (arith, l))))

-- keys beside the sink's variables
pub are_keys : (levels base free : ℕ) (keys : List ℕ) → length keys ≡ levels → All (λ y. y < free) keys
    → ((e : ℕ) → e < length keys → IsMine base levels (slice_index keys e) → ⊥) → AreKeys levels base free keys
are_keys levels base free keys many low other = record {
  many = many;
  outside = λ e h.
      record { below = low e 0 (omega (arith, h, many)); other = other e (omega (arith, h, many)) };
}

pub row_adds : (k : AppendedSink) (keys : List ℕ) (value free : ℕ) (code : List KStmt) → AreKeys (length k.levels) k.base free keys
    → IsOutsideResult (length k.levels) k.base free value → IsRowCode k keys value free code
    → AddsTo appended_sink k keys value free code
row_adds k keys value free code are outside row c laws mine ranges rows one comes s vars value_is holds =
    let many = many_letters k.levels in
    let letters = letters_in k in
    let sizes = in_level_order k.levels ranges in
    let keyed = are.many in
    subst (λ body. Adds appended_sink k c ranges body free no_turns rows (one ∷ []) s) (sym row.is)
    (does_weaker c (row.opening ++ add_code k.base k.head keys value) s _ _ _ _
    (adds_row letters k.head k.base free k.zero keys value row.opening row.opens
    (subst (λ m. AreKeys m k.base free keys) (sym many) are) (subst (λ m. IsOutsideResult m k.base free value) (sym many) outside)
    c laws sizes rows one comes s holds (λ e h. var_at keys one.coords s e vars (omega (arith, h, many, keyed))) value_is)
    (λ t r. (subst (λ m. Leaves (IsMine k.base m) IsKept free no_turns s t) many r.leaves, r.holds))
    (λ turns b count z. (z.0, record { front = rows ++ one ∷ []; rest = []; is = nothing_more; refuses = z.1 })))
  where
    nothing_more : rows ++ one ∷ [] ≡ (rows ++ one ∷ []) ++ []
    nothing_more = sym (append_assoc rows (one ∷ []) [])

-- where variables are copied
record AreCopied (free n : ℕ) (xs : List ℕ) (s t : State) : Type 0 where
  vars : (e : ℕ) → e < n → t.vars (free + e) ≡ Some (slice_index xs e)
  leaves : Leaves NoVariable EveryArray free no_turns s t

copies : (c : Setting) (free : ℕ) (keys xs : List ℕ) (s : State) → All (λ y. y < free) keys
    → ((e : ℕ) → e < length keys → s.vars (slice_index keys e) ≡ Some (slice_index xs e)) → (n : ℕ) → n ≤ length keys
    → Does c (copy_code free keys n) s (AreCopied free n xs s) Never
copies c free keys xs s low now zero h =
    does_nothing c s _ _
    (record { vars = λ e l. absurd (omega (arith, l)); leaves = leaves_none NoVariable EveryArray free no_turns s })
copies c free keys xs s low now (suc n) h =
    does_append c (copy_code free keys n) (Set (free + n) (Var (slice_index keys n)) ∷ []) s _ _ _
    (copies c free keys xs s low now n (omega (arith, h)))
    (λ t k.
    let y = low n 0 (omega (arith, h)) in
    does_set c (free + n) (Var (slice_index keys n)) [] t (slice_index xs n) _ _
    (k.leaves.below (slice_index keys n) y (λ never. never) ∙ now n (omega (arith, h)))
    (does_nothing c (set_var t (free + n) (slice_index xs n)) _ _ (record {
      vars = λ e l. by_order t k e l (cases_lt e n);
      leaves = leaves_set NoVariable EveryArray free no_turns s t (free + n) (slice_index xs n) (λ z l e. omega (arith, l, e)) k.leaves;
    })))
  where
    by_order : (t : State) → AreCopied free n xs s t → (e : ℕ) → e < suc n → (e < n) ⊎ (n ≤ e)
        → (set_var t (free + n) (slice_index xs n)).vars (free + e) ≡ Some (slice_index xs e)
    by_order t k e l (inl less) =
        other_var t (free + n) (free + e) (slice_index xs n) (λ same. omega (arith, same, less)) ∙ k.vars e less
    by_order t k e l (inr from) =
        let same : e ≡ n = omega (arith, l, from) in
        subst (λ m. (set_var t (free + n) (slice_index xs n)).vars (free + m) ≡ Some (slice_index xs m)) (sym same)
        (this_var t (free + n) (slice_index xs n))

pub range_more : (from n : ℕ) → range_with_len from (suc n) ≡ range_with_len from n ++ (from + n) ∷ []
range_more from zero = let same : from ≡ from + 0 = omega arith in ap (λ k. k ∷ []) same
range_more from (suc n) =
    let same : from + 1 + n ≡ from + suc n = omega arith in
    ap (λ ks. from ∷ ks) (range_more (from + 1) n ∙ ap (λ k. range_with_len (from + 1) n ++ k ∷ []) same)

-- variables behind the sink's
pub range_keys : (levels base free n : ℕ) → n ≡ levels → base + 4 * levels ≤ free
    → AreKeys levels base (free + n + 1) (range_with_len free n)
range_keys levels base free n many below = record {
  many = length-range_with_len free n ∙ many;
  outside = λ e h.
      let at = get_or-range_with_len free n e 0 (omega (arith, h, many)) in
      record {
        below = omega (arith, at, h, many);
        other = λ mine. let b = mine.before in omega (arith, b, at, below);
      };
}

there_still : (old new : Option (List ℕ)) → new ≡ old → IsThere old → IsThere new
there_still old new same h = subst IsThere (sym same) h

module _ (k : AppendedSink) (keys : List ℕ) (value free : ℕ) (code : List KStmt) (many : length keys ≡ length k.levels)
    (below : k.base + 4 * length k.levels ≤ free) (low : All (λ y. y < free) keys) (under : value < free)
    (copied : IsCopiedRow k keys value free code) where
  moved_adds : AddsTo appended_sink k (range_with_len free (length keys)) (free + length keys) (free + length keys + 1) copied.row
  moved_adds =
      row_adds k (range_with_len free (length keys)) (free + length keys) (free + length keys + 1) copied.row
      (range_keys (length k.levels) k.base free (length keys) many below)
      (record { below = omega arith; other = λ mine. let b = mine.before in omega (arith, b, below) }) copied.adds

  pub copied_adds : AddsTo appended_sink k keys value free code
  copied_adds c laws mine ranges rows one comes s vars value_is holds =
      subst (λ body. Adds appended_sink k c ranges body free no_turns rows (one ∷ []) s)
      (sym (copied.is ∙ append_assoc (copy_code free keys (length keys)) (Set (free + length keys) (Var value) ∷ []) copied.row))
      (does_append c (copy_code free keys (length keys)) (Set (free + length keys) (Var value) ∷ copied.row) s
      (λ t. AreCopied free (length keys) one.coords s t) _ _
      (does_weaker c (copy_code free keys (length keys)) s _ _ _ _
      (copies c free keys one.coords s low (λ e h. var_at keys one.coords s e vars h) (length keys) (omega arith)) (λ t k. k)
      (λ turns b count never. absurd never))
      (λ t at.
      does_set c (free + length keys) (Var value) copied.row t one.value _ _
      (at.leaves.below value under (λ never. never) ∙ value_is)
      (added (set_var t (free + length keys) one.value)
      (λ e h. other_var t (free + length keys) (free + e) one.value (λ same. omega (arith, same, h)) ∙ at.vars e h)
      (this_var t (free + length keys) one.value)
      (leaves_set NoVariable EveryArray free no_turns s t (free + length keys) one.value (λ z l e. omega (arith, l, e)) at.leaves))))
    where
      long : length one.coords ≡ length keys
      long = appended_laws.long k ranges rows one comes ∙ sym many

      added : (t : State) → ((e : ℕ) → e < length keys → t.vars (free + e) ≡ Some (slice_index one.coords e))
          → t.vars (free + length keys) ≡ Some one.value → Leaves NoVariable EveryArray free no_turns s t
          → Does c copied.row t
          (λ u. Leaves (appended_sink.mine k) (appended_sink.kept k) free no_turns s u
          × appended_sink.holds k c.arithmetic ranges (rows ++ one ∷ []) u)
          (RefusedWithin no_turns s (appended_sink.refused k ranges (rows ++ one ∷ [])))
      added t now told l =
          does_weaker c copied.row t _ _ _ _
          (moved_adds c laws (λ y m. let f = mine y m in omega (arith, f)) ranges rows one comes t
          (vars_from (range_with_len free (length keys)) one.coords t (length-range_with_len free (length keys) ∙ sym long)
          (λ e h.
          let l = length-range_with_len free (length keys) in
          ap (λ y. t.vars y) (get_or-range_with_len free (length keys) e 0 (omega (arith, h, l))) ∙ now e (omega (arith, h, l)))) told
          (appended_laws.same k c.arithmetic ranges rows s t (λ y m. l.below y (mine y m) (λ never. never))
          (record {
            same = λ b h. l.arrays b tt;
            there = λ b h. there_still (s.arrays b) (t.arrays b) (l.arrays b tt);
          }) holds))
          (λ u r. (
            record {
              below = λ y h m. (r.0).below y (omega (arith, h)) m ∙ l.below y h (λ never. never);
              arrays = λ b h. (r.0).arrays b h ∙ l.arrays b tt;
              turns = λ j. let x = (r.0).turns j in let z = l.turns j in omega (arith, x, z);
            },
            r.1,
          ))
          (λ turns b count z. ((λ j. let x = z.0 j in let w = l.turns j in omega (arith, x, w)), z.1))
