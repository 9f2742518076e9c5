-- One head more at all levels of a result, one below another.
use Rattle.std.specs.Prelude.{◌≡◌, ◌⊎◌, ℕ, suc, ◌+◌, ◌-◌, ◌*◌, ◌≤◌, ◌<◌, List, [], ◌∷◌, ◌++◌, length}
use Rattle.std.specs.Prelude.{slice_index, Some, refl}
use Rattle.std.proofs.Common.{◌∙◌, sym, ap, subst, arith, inl, inr}
use Rattle.std.proofs.lemmas.Bool.{cases_lt}
use Rattle.kernel_code.specs.Does.{Does}
use Rattle.kernel_code.proofs.Does.{does_weaker, does_nothing, does_append}
use Rattle.kernel_code.specs.Keeps.{no_turns}
use Rattle.kernel_code.specs.Meaning.{State, value, word_of}
use Rattle.kernel_code.specs.declared.syntax.KExpr.{KExpr}
use Rattle.kernel_code.specs.declared.syntax.KStmt.{KStmt}
use Rattle.level_core.specs.declared.letter.Letter.{Letter}
use Rattle.level_core.specs.Fragments.{RefusedWithin}
use Rattle.level_rows.specs.Rows.{begun}
use Rattle.level_rows.proofs.RowLaws.{begun_some}
use Rattle.tensor_storage.specs.Levels.{meaning}
use Rattle.level_appends.specs.Appended.{LevelAt}
use Rattle.appended_results.specs.Heads.{letter_at, key_in}
use Rattle.appended_results.specs.Places.{through, first_at, positions_above, rows_above}
use Rattle.appended_results.specs.Levels.{cursor_at, MayHold, PassesPlace, Between}
use Rattle.appended_results.specs.Codes.{begins_code, AppendsLevel, AppendsFirst, KeysTell, AreKeys}
use Rattle.appended_results.proofs.HeadLaws.{key_last}
use Rattle.appended_results.proofs.TestLaws.{begins_told, all_begin}

pub none_appended : (letters : List Letter) (head base free : ℕ) (keys : List ℕ) → AppendsFirst letters head base free keys 0 []
none_appended letters head base free keys c sizes heads key may old_few values few s0 s held tell b = does_nothing c s _ _ b

module _ (letters : List Letter) (head base free : ℕ) (keys : List ℕ) (are : AreKeys (length letters) base free keys)
    (above : base + 4 * length letters ≤ free) (sizes : List ℕ) (heads : List (List ℕ)) (key : List ℕ)
    (may : MayHold letters sizes head (heads ++ key ∷ [])) (s0 t : State) (tell : KeysTell base head heads key keys s0) (d : ℕ)
    (b : Between letters sizes head base free heads key d s0 t) where
  -- the variables of coordinates stay
  key_now : (e : ℕ) → e < length letters → t.vars (slice_index keys e) ≡ s0.vars (slice_index keys e)
  key_now e h = let o = are.outside e h in b.leaves.below (slice_index keys e) o.below (λ mine. o.other mine)

  tell_now : KeysTell base head heads key keys t
  tell_now = record {
    now = λ e h. let w = may.is_head.within in key_now e (omega (arith, h, w)) ∙ tell.now e h;
    last = λ e j h is. let w = may.is_head.within in b.keys e (omega (arith, h, w)) ∙ tell.last e j h is;
  }

  coord_now : d < head → t.vars (slice_index keys d) ≡ Some (key_in (heads ++ key ∷ []) d (length heads))
  coord_now h = tell_now.now d h ∙ ap Some (sym (key_last heads key d))

  -- the last level of the head tells whether there are heads
  last_level : d < head → LevelAt meaning (letter_at letters (head - 1)) (slice_index sizes (head - 1)) (suc (head - 1))
      (cursor_at base (head - 1)) (positions_above letters sizes (key_in heads) (length heads) (head - 1)) (length heads)
      (rows_above letters sizes (key_in heads) (length heads) (head - 1)) t
  last_level h =
      let w = may.is_head.within in
      (b.below (head - 1) (omega (arith, h)) (omega (arith, h, w))).appended
      (may.is_head.last (head - 1) (let e : suc (head - 1) ≡ head = omega (arith, h) in e))

  pub test_now : value (begins_code base head keys (through letters d)) t
      ≡ Some (word_of (first_at letters (key_in (heads ++ key ∷ [])) d (length heads)))
  test_now = by_depth (cases_lt (through letters d) head)
    where
      by_depth : (through letters d < head) ⊎ (head ≤ through letters d) → value (begins_code base head keys (through letters d)) t
          ≡ Some (word_of (first_at letters (key_in (heads ++ key ∷ [])) d (length heads)))
      by_depth (inr past) = all_begin base head heads key keys t (through letters d) may.rise past
      by_depth (inl less) =
          let at = last_level (omega (arith, less)) in
          let many = at.progress.appended.many in
          begins_told base head heads key keys t tell_now (length at.log.coords) at.count_is
          (λ some. let k = begun_some (rows_above letters sizes (key_in heads) (length heads) (head - 1)) (length heads) refl some in
          omega (arith, k, many))
          (λ none. many ∙ ap (begun (first_at letters (key_in heads) (head - 1))) none) (through letters d) less

-- one level more
pub next_appended : (letters : List Letter) (head base free d : ℕ) (keys : List ℕ) → AreKeys (length letters) base free keys
    → base + 4 * length letters ≤ free → (test : KExpr) (coord : ℕ) (code more all : List KStmt)
    → test ≡ begins_code base head keys (through letters d) → coord ≡ slice_index keys d
    → AppendsFirst letters head base free keys d code → AppendsLevel letters head base free d test coord more → all ≡ code ++ more
    → AppendsFirst letters head base free keys (suc d) all
next_appended letters head base free d keys are above test coord code more all tests coords first next is
    c sizes heads key may old_few values few s0 s held tell b =
    subst (λ k. Does c k s (Between letters sizes head base free heads key (suc d) s0)
    (RefusedWithin no_turns s0 (λ a count. (e : ℕ) × (e < suc d) × PassesPlace letters sizes (heads ++ key ∷ []) e a count))) (sym is)
    (does_append c code more s (Between letters sizes head base free heads key d s0) _ _
    (does_weaker c code s _ _ _ _ (first c sizes heads key may old_few values few s0 s held tell b) (λ t k. k)
    (λ turns a count z. (z.0, (z.1.0, (let l = z.1.1 in omega (arith, l)), z.1.2))))
    (λ t k.
    does_weaker c more t _ _ _ _
    (next c sizes heads key may old_few values few s0 t held k
    (ap (λ e. value e t) tests ∙ test_now letters head base free keys are above sizes heads key may s0 t tell d k)
    (λ h. ap t.vars coords ∙ coord_now letters head base free keys are above sizes heads key may s0 t tell d k h)) (λ u l. l)
    (λ turns a count z. (z.0, (d, omega arith, z.1)))))
