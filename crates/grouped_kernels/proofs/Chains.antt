-- Where the loops around all terms begin with those over some variables, and loops over one variable are shared, those stand alone inside
-- one another.
use Rattle.std.specs.Prelude.{◌≡◌, ℕ, nat_eq, Bool, true, false, ◌||◌, List, [], ◌∷◌, ◌++◌, length, refl}
use Rattle.std.proofs.Common.{◌∙◌, sym, ap, inl}
use Rattle.std.proofs.lemmas.Bool.{eqb-true, eqb-false}
use denote.Hole.Carrier.{hidden}
use Rattle.lists.specs.Each.{Each}
use Rattle.format_spec.specs.declared.format.FormatLevel.{FormatLevel}
use Rattle.index_notation.specs.Statement.{IsDistinct, IsNumbered}
use Rattle.index_notation.specs.declared.syntax.Statement.{Statement}
use Rattle.iteration_graph.specs.Edges.{statement_edges}
use Rattle.expr_terms.specs.Terms.{contains}
use Rattle.expr_terms.proofs.PointLaws.{not_contained}
use Rattle.concrete_notation.specs.declared.concrete.Concrete.{Concrete}
use Rattle.concrete_notation.specs.declared.concrete.Concrete.TheBlock.{hidden-the_row-Concrete-0}
use Rattle.concrete_notation.specs.Nests.{Nest, inside, left_in_order, nests, next_loops, SharesLoops, workspaces}
use Rattle.concrete_notation.proofs.Orders.{is_order_of}
use Rattle.concrete_notation.proofs.Points.{contains_both, or_first, or_second}
use Rattle.loop_code.specs.declared.loops.LoopCode.{LoopCode, Add, Both', Loop', Sum', Row_of-LoopCode, end_of-LoopCode}
use Rattle.loop_code.specs.declared.loops.LoopCode.{more_of-LoopCode}
use Rattle.lowering.specs.Lowered.{IsInOrder, concrete_of, concrete_in, plain}
use Rattle.row_orders.specs.Orders.{AreOutsideSums}
use Rattle.row_orders.proofs.FrontRows.{led}
use Rattle.row_orders.proofs.Lists.{clash, each_parts, each_unmapped, each_weaker}
use Rattle.row_orders.proofs.Loops.{loops_are, shared_outermost}
use Rattle.row_orders.proofs.Rising.{IsLed}
use Rattle.grouped_loops.specs.Chains.{IsChain, IsChain_in}

mutual
  unfolding hidden-the_row-Concrete-0 hidden

  -- what each nest tells is so, since there is one
  common : (P : Type 0) (c : LoopCode) → Each (λ (n : Nest). P) (nests (concrete_of c)) → P
  common P (Loop' w seeks p body) h = common_in P body (each_unmapped (λ (n : Nest). P) (inside w) (nests (concrete_in body)) h)
  common P (Both' p f q g) h = common_in P f (each_parts (λ (n : Nest). P) (nests (concrete_in f)) (nests (concrete_in g)) h).0
  common P (Add t) h = h.0
  common P (Sum' k p inside q body) h = common_in P body h

  common_in : {m : _} (P : Type 0) (row : Row_of-LoopCode m) → Each (λ (n : Nest). P) (nests (concrete_in row)) → P
  common_in P end_of-LoopCode h = h.0
  common_in P (more_of-LoopCode c rest) h = common P c h

itself : (w v : ℕ) → w ≡ v → nat_eq w v ≡ true
itself w v is = by (nat_eq w v) refl
  where
    by : (b : Bool) → nat_eq w v ≡ b → b ≡ true
    by true e = refl
    by false e = absurd (eqb-false w v e is)

module _ (v : ℕ) (front : List ℕ) where
  same_first : {m : _} (w : ℕ) (body : Row_of-LoopCode m)
      → Each (λ (n : Nest). IsLed (v ∷ front) (inside w n)) (nests (concrete_in body)) → w ≡ v
  same_first w body h =
      common_in (w ≡ v) body (each_weaker (λ (n : Nest). IsLed (v ∷ front) (inside w n)) (λ (n : Nest). w ≡ v)
      (nests (concrete_in body)) (λ n led. sym led.starts.0) h)

  mutual
    unfolding hidden-the_row-Concrete-0 hidden

    -- where all terms' loops begin with one, it stands there
    stands_next : (c : LoopCode) → Each (IsLed (v ∷ front)) (nests (concrete_of c)) → contains (next_loops (concrete_of c)) v ≡ true
    stands_next (Loop' w seeks p body) h =
        or_first (nat_eq w v) false
        (itself w v (same_first w body (each_unmapped (IsLed (v ∷ front)) (inside w) (nests (concrete_in body)) h)))
    stands_next (Both' p f q g) h =
        let parts = each_parts (IsLed (v ∷ front)) (nests (concrete_in f)) (nests (concrete_in g)) h in
        contains_both (next_loops (concrete_in f)) (next_loops (concrete_in g)) v
        ∙ or_first (contains (next_loops (concrete_in f)) v) (contains (next_loops (concrete_in g)) v) (stands_next_in f parts.0)
    stands_next (Add t) h = absurd h.0.starts
    stands_next (Sum' k p inside q body) h = stands_next_in body h

    stands_next_in : {m : _} (row : Row_of-LoopCode m) → Each (IsLed (v ∷ front)) (nests (concrete_in row))
        → contains (next_loops (concrete_in row)) v ≡ true
    stands_next_in end_of-LoopCode h = absurd h.0.starts
    stands_next_in (more_of-LoopCode c rest) h = stands_next c h

-- a number that stands twice
twice : (v : ℕ) (vs ws : List ℕ) → contains vs v ≡ true → contains ws v ≡ true → IsDistinct (vs ++ ws) → ⊥
twice v [] ws h g distinct = clash false h refl
twice v (u ∷ vs) ws h g distinct = by (nat_eq u v) refl h (twice v vs ws)
  where
    by : (b : Bool) → nat_eq u v ≡ b → (b || contains vs v) ≡ true
        → (contains vs v ≡ true → contains ws v ≡ true → IsDistinct (vs ++ ws) → ⊥) → ⊥
    by true e here rest =
        clash (contains (vs ++ ws) v)
        (contains_both vs ws v ∙ or_second (contains vs v) (contains ws v) g)
        (ap (contains (vs ++ ws)) (sym (eqb-true u v e)) ∙ not_contained u (vs ++ ws) distinct.0)
    by false e here rest = rest here g distinct.1

mutual
  unfolding hidden-the_row-Concrete-0 hidden

  pub chain_of : (front : List ℕ) (c : LoopCode) → Each (IsLed front) (nests (concrete_of c)) → SharesLoops (concrete_of c)
      → IsChain front c
  chain_of [] c led shared = tt
  chain_of (v ∷ front) (Loop' w seeks p body) led shared =
      let inner = each_unmapped (IsLed (v ∷ front)) (inside w) (nests (concrete_in body)) led in (
        same_first v front w body inner,
        chain_in front body
            (each_weaker (λ (n : Nest). IsLed (v ∷ front) (inside w n)) (IsLed front) (nests (concrete_in body))
            (λ n h. record { starts = h.starts.1; once = h.once.1 }) inner) shared,
      )
  chain_of (v ∷ front) (Both' p f q g) led shared =
      let parts = each_parts (IsLed (v ∷ front)) (nests (concrete_in f)) (nests (concrete_in g)) led in
      absurd (twice v (next_loops (concrete_in f)) (next_loops (concrete_in g)) (stands_next_in v front f parts.0)
      (stands_next_in v front g parts.1) shared.0)
  chain_of (v ∷ front) (Add t) led shared = absurd led.0.starts
  chain_of (v ∷ front) (Sum' k p inside q body) led shared = chain_in (v ∷ front) body led shared

  chain_in : {m : _} (front : List ℕ) (row : Row_of-LoopCode m) → Each (IsLed front) (nests (concrete_in row))
      → SharesLoops (concrete_in row) → IsChain_in front row
  chain_in [] end_of-LoopCode led shared = tt
  chain_in (v ∷ front) end_of-LoopCode led shared = absurd led.0.starts
  chain_in front (more_of-LoopCode c rest) led shared = chain_of front c led shared

-- so do the loops of a statement over the left variables with which these begin in loop order, where no summed variable stands before one
-- of them
pub lowered_chain : (s : Statement) (formats : List (List FormatLevel)) → IsNumbered s → (c : Concrete) (in_order : IsInOrder s formats c)
    → SharesLoops c → workspaces c ≡ [] → (loops : LoopCode) → concrete_of loops ≡ plain c → (front rest : List ℕ)
    → left_in_order s in_order.order ≡ front ++ rest → AreOutsideSums s in_order.order front → IsChain front loops
lowered_chain s formats numbered c in_order shares none loops shape front rest parted outer =
    let ordered = is_order_of (length s.vars) (statement_edges s formats) in_order.order in_order.is_order in
    let are = loops_are s formats c in_order loops shape (shared_outermost c (inl none) shares) in
    chain_of front loops (led s numbered in_order.order ordered front rest parted outer loops are) are.shared
