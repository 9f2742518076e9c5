-- Loops without sums: in the places of a sum stands what is summed for it, as an expression. Which parts remain, and are full, is the same,
-- so what is done at a coordinate may be told by these.
use Rattle.std.specs.Prelude.{◌≡◌, ℕ, nat_eq, false, if◌then◌else◌}
use Rattle.index_notation.specs.declared.operator.Operator.TheVariants as op
use Rattle.index_notation.specs.declared.syntax.Expr.{Expr, Num, Access as AccessOf, Binary, Neg, Binary', Neg', Row_of-Expr, end_of-Expr}
use Rattle.index_notation.specs.declared.syntax.Expr.{more_of-Expr}
use Rattle.loop_code.specs.Loops.{LoopCode, Add, Both', Loop', Sum', Row_of-LoopCode, end_of-LoopCode, more_of-LoopCode}
use Rattle.loop_code.specs.declared.loops.LoopCode.{Loop, Both}

abbrev mutual
  -- an expression with others in the places of its accesses
  pub put_in : (ℕ → Expr) → Expr → Expr
  put_in others (Num n) = Num n
  put_in others (AccessOf k) = others k
  put_in others (Binary' o p e q f) = Binary o (put_inside others e) (put_inside others f)
  put_in others (Neg' p e) = Neg (put_inside others e)

  -- the same of the one expression in a box
  pub put_inside : {m : _} → (ℕ → Expr) → Row_of-Expr m → Expr
  put_inside others end_of-Expr = Num 0
  put_inside others (more_of-Expr e rest) = put_in others e

-- others, but of one access so
abbrev pub put_at : (ℕ → Expr) → ℕ → Expr → ℕ → Expr
put_at others k e j = if nat_eq k j then e else others j

abbrev mutual
  -- the sum of the terms of loops, as an expression
  pub whole : (ℕ → Expr) → LoopCode → Expr
  whole others (Loop' v seeks p body) = whole_in others body
  whole others (Both' p f q g) = Binary op.Add (whole_in others f) (whole_in others g)
  whole others (Add t) = put_in others t.expr
  whole others (Sum' k p inside q body) = whole_in (put_at others k (whole_in others inside)) body

  -- the same of the one loop code in a box
  pub whole_in : {m : _} → (ℕ → Expr) → Row_of-LoopCode m → Expr
  whole_in others end_of-LoopCode = Num 0
  whole_in others (more_of-LoopCode c rest) = whole others c

-- what stands where nothing stands: a box always holds one
abbrev nothing : LoopCode
nothing = Add (record { negated = false; expr = Num 0 })

abbrev mutual
  -- loops with other expressions in the places of accesses, and so in those of sums
  pub opened_by : (ℕ → Expr) → LoopCode → LoopCode
  opened_by others (Loop' v seeks p body) = Loop v seeks (opened_in others body)
  opened_by others (Both' p f q g) = Both (opened_in others f) (opened_in others g)
  opened_by others (Add t) = Add (record { negated = t.negated; expr = put_in others t.expr })
  opened_by others (Sum' k p inside q body) = opened_in (put_at others k (whole_in others inside)) body

  -- the same of the one loop code in a box
  pub opened_in : {m : _} → (ℕ → Expr) → Row_of-LoopCode m → LoopCode
  opened_in others end_of-LoopCode = nothing
  opened_in others (more_of-LoopCode c rest) = opened_by others c

abbrev pub opened : LoopCode → LoopCode
opened c = opened_by (λ k. AccessOf k) c

abbrev mutual
  -- no sum has this number
  pub HasNoSum : ℕ → LoopCode → Type 0
  HasNoSum j (Loop' v seeks p body) = HasNoSum_in j body
  HasNoSum j (Both' p f q g) = HasNoSum_in j f × HasNoSum_in j g
  HasNoSum j (Add t) = Unit {0}
  HasNoSum j (Sum' k p inside q body) = (nat_eq k j ≡ false) × HasNoSum_in j inside × HasNoSum_in j body

  -- the same of the one loop code in a box
  pub HasNoSum_in : {m : _} → ℕ → Row_of-LoopCode m → Type 0
  HasNoSum_in j end_of-LoopCode = Unit {0}
  HasNoSum_in j (more_of-LoopCode c rest) = HasNoSum j c

abbrev mutual
  -- no sum starts twice, one inside the other
  pub AreOnce : LoopCode → Type 0
  AreOnce (Loop' v seeks p body) = AreOnce_in body
  AreOnce (Both' p f q g) = AreOnce_in f × AreOnce_in g
  AreOnce (Add t) = Unit {0}
  AreOnce (Sum' k p inside q body) = HasNoSum_in k body × AreOnce_in inside × AreOnce_in body

  -- the same of the one loop code in a box
  pub AreOnce_in : {m : _} → Row_of-LoopCode m → Type 0
  AreOnce_in end_of-LoopCode = Unit {0}
  AreOnce_in (more_of-LoopCode c rest) = AreOnce c
