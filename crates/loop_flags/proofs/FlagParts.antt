-- Flags that tell whether a part remains, and whether an access is live in it, by the flags of the parts that were read of a whole.
use Rattle.std.specs.Prelude.{◌≡◌, ℕ, nat_eq, Bool, true, false, ◌||◌, ◌&&◌, if◌then◌else◌, List, [], ◌∷◌, Some, None, refl}
use Rattle.std.proofs.Common.{◌∙◌, sym, ap, subst, arith}
use Rattle.std.proofs.lemmas.Bool.Decides.{nat_tests}
use Rattle.kernel_code.specs.declared.syntax.KExpr.{KExpr, Num as NumberOf}
use Rattle.index_notation.specs.declared.operator.Operator.{Operator}
use Rattle.index_notation.specs.declared.syntax.Expr.{Expr, Num as Number, Access as AccessOf, Binary}
use Rattle.index_notation.specs.Operators.{is_there}
use Rattle.loop_code.specs.declared.loops.LoopCode.{LoopCode, Sum}
use Rattle.loop_code.specs.declared.loops.Seek.{Seek}
use Rattle.loop_code.specs.Loops.{Env}
use Rattle.loop_code.specs.Parts.{here, given, is_full, is_other, remains, is_live, remains_below, is_live_below}
use Rattle.term_code.specs.declared.places.Places.{Places}
use Rattle.term_code.specs.Presence.{Tells}
use Rattle.term_code.proofs.PresenceLaws.{tells_number, tells_same}
use Rattle.loop_flags.specs.Flags.{TellsEither, TellsBoth, TellsSides}
use Rattle.loop_flags.specs.Told.{Told, ArePresent, TellsOf, flag_of}
use Rattle.loop_flags.proofs.LiveLaws.{live_remains, live_binary, live_sum, remains_sum}
use Rattle.loop_flags.proofs.FlagLaws.{tells_kept}

-- whether a part of an expression or of loops remains, or an access is live there, where loops are
abbrev pub remains_at : (Env → ℕ → Bool) → Expr → Env → Bool
remains_at P e env = remains (P env) e

abbrev pub remains_at_below : (Env → ℕ → Bool) → LoopCode → Env → Bool
remains_at_below P c env = remains_below (P env) c

abbrev pub live_at : (Env → ℕ → Bool) → ℕ → Expr → Env → Bool
live_at P k e env = is_live (P env) e k

abbrev pub live_at_below : (Env → ℕ → Bool) → ℕ → LoopCode → Env → Bool
live_at_below P k c env = is_live_below (P env) c k

itself : (k : ℕ) (b : Bool) → b ≡ (nat_eq k k && b)
itself k b = sym (ap (λ c. c && b) (same k))
  where
    same : (k : ℕ) → nat_eq k k ≡ true
    same k = grind (arith, nat_tests)

some_is : (x y : KExpr) → Some x ≡ Some y → x ≡ y
some_is x y h = cc

module _ (places : Places) where
  -- where no flag is given
  pub none_told : (seeks : List Seek) → ArePresent places [] seeks (λ env k. is_other seeks k && here env k)
  none_told seeks = record { given = λ k flag is. absurd (cc is); others = λ k none env. refl }

  -- where the flag of one access more is given
  pub told_more : (told : List Told) (seeks : List Seek) (P : Env → ℕ → Bool) (k : ℕ) (flag : KExpr) (f : Env → Bool) → Tells places f flag
      → ArePresent places told seeks P
      → ArePresent places (record { access = k; flag = flag } ∷ told) seeks (λ env. given (P env) k (f env))
  told_more told seeks P k flag f tells are = record {
    given = λ j other is. one j other (nat_eq k j) refl is;
    others = λ j none env. rest j env (nat_eq k j) refl none;
  }
    where
      one : (j : ℕ) (other : KExpr) (b : Bool) → nat_eq k j ≡ b → (if b then Some flag else flag_of told j) ≡ Some other
          → Tells places (λ env. given (P env) k (f env) j) other
      one j other true at is =
          subst (λ b. Tells places (λ env. if b then f env else P env j) other) (sym at)
          (subst (Tells places f) (some_is flag other is) tells)
      one j other false at is =
          subst (λ b. Tells places (λ env. if b then f env else P env j) other) (sym at) (are.given j other is)

      rest : (j : ℕ) (env : Env) (b : Bool) → nat_eq k j ≡ b → (if b then Some flag else flag_of told j) ≡ None
          → given (P env) k (f env) j ≡ (is_other seeks j && here env j)
      rest j env true at none = absurd (cc none)
      rest j env false at none =
          subst (λ b. (if b then f env else P env j) ≡ (is_other seeks j && here env j)) (sym at) (are.others j none env)

  module _ (told : List Told) where
    -- an access of which a flag is given, and one of which none is
    pub told_given : (seeks : List Seek) (k : ℕ) (flag : KExpr) → flag_of told k ≡ Some flag
        → TellsOf places told seeks (λ P. remains P (AccessOf k)) flag
    told_given seeks k flag is P are = are.given k flag is

    pub told_other : (seeks : List Seek) (k : ℕ) (flag : KExpr) → flag_of told k ≡ None
        → Tells places (λ env. is_other seeks k && here env k) flag → TellsOf places told seeks (λ P. remains P (AccessOf k)) flag
    told_other seeks k flag none tells P are =
        tells_same places (λ env. is_other seeks k && here env k) (λ env. P env k) flag (λ env. sym (are.others k none env)) tells

    pub told_number : (seeks : List Seek) (e : Expr) (n : ℕ) (flag : KExpr) → e ≡ Number n
        → Tells places (λ env. is_full (is_other seeks) (here env) e) flag → TellsOf places told seeks (λ P. remains P e) flag
    told_number seeks e n flag is tells =
        subst (λ f. TellsOf places told seeks (λ P. remains P f) flag) (sym is)
        (λ P are. subst (λ f. Tells places (λ env. is_full (is_other seeks) (here env) f) flag) is tells)

    pub live_given : (k : ℕ) (flag : KExpr) → flag_of told k ≡ Some flag → TellsOf places told [] (λ P. is_live P (AccessOf k) k) flag
    live_given k flag is P are =
        tells_same places (λ env. P env k) (λ env. nat_eq k k && P env k) flag (λ env. itself k (P env k)) (are.given k flag is)

    pub live_there : (k : ℕ) (flag : KExpr) → flag_of told k ≡ None → Tells places (λ env. here env k) flag
        → TellsOf places told [] (λ P. is_live P (AccessOf k) k) flag
    live_there k flag none tells P are =
        tells_same places (λ env. here env k) (λ env. nat_eq k k && P env k) flag
        (λ env. sym (are.others k none env) ∙ itself k (P env k)) tells

    pub live_apart : (j k : ℕ) → nat_eq j k ≡ false → TellsOf places told [] (λ P. is_live P (AccessOf j) k) (NumberOf 0)
    live_apart j k apart P are =
        tells_same places (λ env. false) (λ env. nat_eq j k && P env j) (NumberOf 0) (λ env. sym (ap (λ b. b && P env j) apart))
        (tells_number places false)

    pub flag_sides : (k : ℕ) (whole : Expr) (o : Operator) (e f e' f' : Expr) (x y flag : KExpr) → whole ≡ Binary o e f → e' ≡ e → f' ≡ f
        → TellsOf places told [] (λ P. is_live P e' k) x → TellsOf places told [] (λ P. is_live P f' k) y
        → TellsSides places told o e' f' x y flag → TellsOf places told [] (λ P. is_live P whole k) flag
    flag_sides k whole o e f e' f' x y flag is first second one two made P are =
        let sides : TellsSides places told o e f x y flag =
        subst (λ w. TellsSides places told o w f x y flag) first (subst (λ w. TellsSides places told o e' w x y flag) second made) in
        subst (λ w. Tells places (live_at P k w) flag) (sym is)
        (tells_kept places (λ env. is_there o (remains (P env) e) (remains (P env) f) && (live_at P k e env || live_at P k f env))
        (live_at P k (Binary o e f)) flag (λ bound env s at. sym (live_binary (P env) o e f k))
        (sides P are (live_at P k e) (live_at P k f) (λ env h. live_remains (P env) e k h) (λ env h. live_remains (P env) f k h)
        (subst (λ w. Tells places (live_at P k w) x) first (one P are)) (subst (λ w. Tells places (live_at P k w) y) second (two P are))))

    -- at a sum, by the flag of what is summed
    module _ (whole : LoopCode) (k : ℕ) (f g f' g' : LoopCode) (is : whole ≡ Sum k f g) (first : f' ≡ f) (second : g' ≡ g) where
      pub remains_summed : (seeks : List Seek) (within flag : KExpr) (more : List Told) → more ≡ record { access = k; flag = within } ∷ told
          → TellsOf places told seeks (λ P. remains_below P f') within → TellsOf places more seeks (λ P. remains_below P g') flag
          → TellsOf places told seeks (λ P. remains_below P whole) flag
      remains_summed seeks within flag more made inner outer P are =
          let Q : Env → ℕ → Bool = λ env. given (P env) k (remains_below (P env) f) in
          let inside = subst (λ w. Tells places (remains_at_below P w) within) first (inner P are) in
          let all = subst (λ m. TellsOf places m seeks (λ P. remains_below P g') flag) made outer in
          subst (λ w. Tells places (remains_at_below P w) flag) (sym is)
          (tells_kept places (remains_at_below Q g) (remains_at_below P (Sum k f g)) flag
          (λ bound env s at. sym (remains_sum (P env) k f g))
          (subst (λ w. Tells places (remains_at_below Q w) flag) second
          (all Q (told_more told seeks P k within (remains_at_below P f) inside are))))

      pub live_summed : (j : ℕ) (within direct summed inner through flag : KExpr) (more : List Told)
          → more ≡ record { access = k; flag = within } ∷ told → TellsOf places told [] (λ P. remains_below P f') within
          → TellsOf places more [] (λ P. is_live_below P g' j) direct → TellsOf places more [] (λ P. is_live_below P g' k) summed
          → TellsOf places told [] (λ P. is_live_below P f' j) inner → TellsBoth summed inner through → TellsEither direct through flag
          → TellsOf places told [] (λ P. is_live_below P whole j) flag
      live_summed j within direct summed inner through flag more made remains one two three join meet P are =
          let Q : Env → ℕ → Bool = λ env. given (P env) k (remains_below (P env) f) in
          let inside = subst (λ w. Tells places (remains_at_below P w) within) first (remains P are) in
          let told_here = told_more told [] P k within (remains_at_below P f) inside are in
          let a = subst (λ w. Tells places (live_at_below Q j w) direct) second
          (subst (λ m. TellsOf places m [] (λ P. is_live_below P g' j) direct) made one Q told_here) in
          let b = subst (λ w. Tells places (live_at_below Q k w) summed) second
          (subst (λ m. TellsOf places m [] (λ P. is_live_below P g' k) summed) made two Q told_here) in
          let c = subst (λ w. Tells places (live_at_below P j w) inner) first (three P are) in
          subst (λ w. Tells places (live_at_below P j w) flag) (sym is)
          (tells_kept places (λ env. live_at_below Q j g env || (live_at_below Q k g env && live_at_below P j f env))
          (live_at_below P j (Sum k f g)) flag (λ bound env s at. sym (live_sum (P env) k f g j))
          (meet places (live_at_below Q j g) (λ env. live_at_below Q k g env && live_at_below P j f env) a
          (join places (live_at_below Q k g) (live_at_below P j f) b c)))
