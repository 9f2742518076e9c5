-- Lemmas about what specs/Keeps.antt defines.
use Rattle.std.specs.Prelude.{◌≡◌, ◌≢◌, ℕ, min, ◌+◌, ◌≤◌, ◌<◌, Bool, true, false, if◌then◌else◌, List, Some, refl}
use Rattle.std.proofs.Common.{◌∙◌, ap, arith}
use denote.Hole.Carrier.{hidden}
use Rattle.kernel_code.specs.declared.syntax.Arr.{Arr}
use Rattle.kernel_code.specs.declared.syntax.LoopKind.{LoopKind}
use Rattle.kernel_code.specs.declared.syntax.Op.{Op}
use Rattle.kernel_code.specs.declared.syntax.KExpr.TheBlock.{hidden-the_row-KExpr-0}
use Rattle.kernel_code.specs.declared.syntax.KExpr.{KExpr, Num, Var, At, At', Len, Bin, Bin', Min, Min', Width, Width', Row_of-KExpr}
use Rattle.kernel_code.specs.declared.syntax.KExpr.{end_of-KExpr, more_of-KExpr}
use Rattle.kernel_code.specs.Arrays.{same_arr}
use Rattle.kernel_code.specs.Meaning.{State, value, value_in, word_at, length_of, apply_both, apply_each, width_of, set_var, set_array}
use Rattle.kernel_code.specs.Meaning.{one_turn, same_kind}
use Rattle.kernel_code.specs.Keeps.{Mentions, Mentions_in, Leaves, turn_of}
use Rattle.lists.proofs.Tests.{number_same, number_apart}

pub mentions_at : (V : ℕ → Type 0) (A : Arr → Type 0) (a : Arr) (i : KExpr) → A a → Mentions V A i → Mentions V A (At a i)
unfolding hidden-the_row-KExpr-0 hidden
mentions_at V A a i h g = (h, g)

pub mentions_bin : (V : ℕ → Type 0) (A : Arr → Type 0) (o : Op) (a b : KExpr) → Mentions V A a → Mentions V A b → Mentions V A (Bin o a b)
unfolding hidden-the_row-KExpr-0 hidden
mentions_bin V A o a b h g = (h, g)

pub mentions_min : (V : ℕ → Type 0) (A : Arr → Type 0) (a b : KExpr) → Mentions V A a → Mentions V A b → Mentions V A (Min a b)
unfolding hidden-the_row-KExpr-0 hidden
mentions_min V A a b h g = (h, g)

pub mentions_width : (V : ℕ → Type 0) (A : Arr → Type 0) (e : KExpr) → Mentions V A e → Mentions V A (Width e)
unfolding hidden-the_row-KExpr-0 hidden
mentions_width V A e h = h

mutual
  pub mentions_more : (V W : ℕ → Type 0) (A B : Arr → Type 0) (e : KExpr) → ((y : ℕ) → V y → W y) → ((a : Arr) → A a → B a)
      → Mentions V A e → Mentions W B e
  mentions_more V W A B (Num n) f g h = tt
  mentions_more V W A B (Var x) f g h = f x h
  mentions_more V W A B (At' a p i) f g h = (g a h.0, mentions_more_in V W A B i f g h.1)
  mentions_more V W A B (Len a) f g h = g a h
  mentions_more V W A B (Bin' o p a q b) f g h = (mentions_more_in V W A B a f g h.0, mentions_more_in V W A B b f g h.1)
  mentions_more V W A B (Min' p a q b) f g h = (mentions_more_in V W A B a f g h.0, mentions_more_in V W A B b f g h.1)
  mentions_more V W A B (Width' p e) f g h = mentions_more_in V W A B e f g h

  mentions_more_in : {m : _} (V W : ℕ → Type 0) (A B : Arr → Type 0) (row : Row_of-KExpr m) → ((y : ℕ) → V y → W y)
      → ((a : Arr) → A a → B a) → Mentions_in V A row → Mentions_in W B row
  mentions_more_in V W A B end_of-KExpr f g h = tt
  mentions_more_in V W A B (more_of-KExpr e rest) f g h = mentions_more V W A B e f g h

mutual
  -- an expression depends on what it mentions alone
  pub value_kept : (V : ℕ → Type 0) (A : Arr → Type 0) (e : KExpr) (s s' : State) → Mentions V A e
      → ((y : ℕ) → V y → s'.vars y ≡ s.vars y) → ((a : Arr) → A a → s'.arrays a ≡ s.arrays a) → value e s' ≡ value e s
  value_kept V A (Num n) s s' h f g = refl
  value_kept V A (Var x) s s' h f g = f x h
  value_kept V A (At' a p i) s s' h f g = ap (λ xs. word_at xs (value_in i s')) (g a h.0)
      ∙ ap (word_at (s.arrays a)) (value_in_kept V A i s s' h.1 f g)
  value_kept V A (Len a) s s' h f g = ap length_of (g a h)
  value_kept V A (Bin' o p a q b) s s' h f g = ap (λ v. apply_both o v (value_in b s')) (value_in_kept V A a s s' h.0 f g)
      ∙ ap (apply_both o (value_in a s)) (value_in_kept V A b s s' h.1 f g)
  value_kept V A (Min' p a q b) s s' h f g = ap (λ v. apply_each min v (value_in b s')) (value_in_kept V A a s s' h.0 f g)
      ∙ ap (apply_each min (value_in a s)) (value_in_kept V A b s s' h.1 f g)
  value_kept V A (Width' p e) s s' h f g = ap width_of (value_in_kept V A e s s' h f g)

  value_in_kept : {m : _} (V : ℕ → Type 0) (A : Arr → Type 0) (row : Row_of-KExpr m) (s s' : State) → Mentions_in V A row
      → ((y : ℕ) → V y → s'.vars y ≡ s.vars y) → ((a : Arr) → A a → s'.arrays a ≡ s.arrays a) → value_in row s' ≡ value_in row s
  value_in_kept V A end_of-KExpr s s' h f g = refl
  value_in_kept V A (more_of-KExpr e rest) s s' h f g = value_kept V A e s s' h f g

pub this_var : (s : State) (x v : ℕ) → (set_var s x v).vars x ≡ Some v
this_var s x v = ap (λ b. if b then Some v else s.vars x) (number_same x)

pub other_var : (s : State) (x y v : ℕ) → x ≢ y → (set_var s x v).vars y ≡ s.vars y
other_var s x y v h = ap (λ b. if b then Some v else s.vars y) (number_apart x y h)

pub other_array : (s : State) (a b : Arr) (xs : List ℕ) → same_arr a b ≡ false → (set_array s a xs).arrays b ≡ s.arrays b
other_array s a b xs h = ap (λ t. if t then Some xs else s.arrays b) h

pub this_array : (s : State) (a b : Arr) (xs : List ℕ) → same_arr a b ≡ true → (set_array s a xs).arrays b ≡ Some xs
this_array s a b xs h = ap (λ t. if t then Some xs else s.arrays b) h

pub leaves_none : (mine : ℕ → Type 0) (kept : Arr → Type 0) (top : ℕ) (most : LoopKind → ℕ) (s : State) → Leaves mine kept top most s s
leaves_none mine kept top most s = record { below = λ y l g. refl; arrays = λ a h. refl; turns = λ k. omega arith }

pub leaves_set : (mine : ℕ → Type 0) (kept : Arr → Type 0) (top : ℕ) (most : LoopKind → ℕ) (s t : State) (x v : ℕ)
    → ((y : ℕ) → y < top → x ≡ y → mine y) → Leaves mine kept top most s t → Leaves mine kept top most s (set_var t x v)
leaves_set mine kept top most s t x v m l = record {
  below = λ y b g. other_var t x y v (λ e. g (m y b e)) ∙ l.below y b g;
  arrays = l.arrays;
  turns = l.turns;
}

pub leaves_array : (mine : ℕ → Type 0) (kept : Arr → Type 0) (top : ℕ) (most : LoopKind → ℕ) (s t : State) (a : Arr) (xs : List ℕ)
    → ((b : Arr) → kept b → same_arr a b ≡ false) → Leaves mine kept top most s t → Leaves mine kept top most s (set_array t a xs)
leaves_array mine kept top most s t a xs m l = record {
  below = l.below;
  arrays = λ b h. other_array t a b xs (m b h) ∙ l.arrays b h;
  turns = l.turns;
}

one_more : (b : Bool) (n : ℕ) → (if b then n + 1 else n) ≤ n + (if b then 1 else 0)
one_more true n = omega arith
one_more false n = omega arith

pub leaves_turn : (mine : ℕ → Type 0) (kept : Arr → Type 0) (top : ℕ) (s : State) (k : LoopKind)
    → Leaves mine kept top (turn_of k) s (one_turn s k)
leaves_turn mine kept top s k = record { below = λ y l g. refl; arrays = λ a h. refl; turns = λ j. one_more (same_kind k j) (s.turns j) }

pub leaves_then : (mine : ℕ → Type 0) (kept : Arr → Type 0) (top : ℕ) (p q : LoopKind → ℕ) (s t u : State) → Leaves mine kept top p s t
    → Leaves mine kept top q t u → Leaves mine kept top (λ k. p k + q k) s u
leaves_then mine kept top p q s t u a b = record {
  below = λ y l m. b.below y l m ∙ a.below y l m;
  arrays = λ y h. b.arrays y h ∙ a.arrays y h;
  turns = λ k. omega (arith, a.turns k, b.turns k);
}

pub leaves_wider : (mine yours : ℕ → Type 0) (kept still : Arr → Type 0) (top : ℕ) (p q : LoopKind → ℕ) (s t : State)
    → ((y : ℕ) → mine y → yours y) → ((a : Arr) → still a → kept a) → ((k : LoopKind) → p k ≤ q k) → Leaves mine kept top p s t
    → Leaves yours still top q s t
leaves_wider mine yours kept still top p q s t f g h a = record {
  below = λ y l m. a.below y l (λ n. m (f y n));
  arrays = λ y k. a.arrays y (g y k);
  turns = λ k. omega (arith, a.turns k, h k);
}
