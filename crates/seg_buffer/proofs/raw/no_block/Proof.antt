-- `no_block` makes the rights to no places, at the address of a local. Assumes `Logic`.
use Rattle.seg_buffer.proofs.Steps.{◌≡◌, refl, sym, subst, List, [], ◌∷◌, ◌++◌, ℕ, ◌*◌, ◌<◌, ◌^◌, lit<, Ura, SProp, ent, Lft, Share, ftrue}
use Rattle.seg_buffer.proofs.Steps.{flft, Fn, named, inst_fn, Val, vptr, Memory, Routine, Calls, Loops, WpFn, Tables, Fun, ◌⊑◌, tables}
use Rattle.seg_buffer.proofs.Steps.{tables_of, WpFn-mono, Logic, Item, ⋆, ‵, ◌⊛◌, ◌$◌, ◌∵◌, !, qed, by, move, keep, use0, use3, split}
use Rattle.seg_buffer.proofs.Steps.{join, frame, fsplit, fjoin, feq_l, flt_i, suffices, done, agg, stop, from, addr, and_then, no_more}
use Rattle.seg_buffer.proofs.Steps.{returns, enter, alloc_all, pass_all, free_all, look_at, get, sets, yes, RattleType, owns, layout, Ptr}
use Rattle.seg_buffer.proofs.Steps.{block_ptr, Bor, ShrRef, RefOf, plain, nothing, Tuple, Clauses, Ended, closing, on_entry, Meets}
use Rattle.seg_buffer.proofs.Steps.{triple_of, entered, says, Stays, stay_dropped, walk_of, ends_at, Goes-dropped, walk_Meets, Al, El, R}
use Rattle.seg_buffer.proofs.Steps.{P, Good, word, word-Good, type_size}
use native.Mathlib.Nat.{zero-mul}
use base.Logic.{via, fst∗}
use Rattle.core.proofs.slots.Leases.{args}
use Rattle.seg_buffer.proofs.Parts.{Pl, Bs, Mark, mark, mark_made, base_made, three_val, three_made}
use Rattle.seg_buffer.specs.contracts.raw.Deed as D-type
use Rattle.seg_buffer.specs.contracts.raw.no_block as F
use Rattle.seg_buffer.specs.contracts.raw.no_block.Key.{name as #self}
use Rattle.seg_buffer.proofs.raw.no_block.Statement as stated
use Rattle.seg_buffer.proofs.raw.no_block.Code as code

module _ (E : El) (Z : Al) where
  abbrev function : Fn
  function = inst_fn (args E Z) code.function

  abbrev ended : Ended
  ended = F.ended E.row Z.row Z.g Z.d Z.drops

  abbrev clauses : {M : Type 1} {𝓤 : Ura M} (𝓛 : Logic 𝓤) → (Memory → SProp 𝓤) → (Routine → Fun 𝓤) → Clauses 𝓤 ended
  clauses 𝓛 = F.clauses E.row Z.row Z.g Z.d Z.drops 𝓛

  abbrev Dd : RattleType
  Dd = D-type.the_row (R E) (P E Z) Z.g

  abbrev stayed : Stays ended.signature.params ended.kept
  stayed = (stay_dropped (RefOf (0 ∷ []) tt (plain (λ _. P E Z)) (λ _. tt)) yes, tt)

  abbrev Three : RattleType
  Three = Tuple (Bs E ∷ Pl E ∷ Dd ∷ [])

module _ (E : El) (Z : Al) {M : Type 1} {𝓤 : Ura M} (𝓛 : Logic 𝓤) (at_mem : Memory → SProp 𝓤) (run : Routine
    → Fun 𝓤) (C : Calls 𝓤 𝓛.H) (Λ : Loops 𝓤 𝓛.H)
    (κ κ₁ κ₂ : Lft) (q q₁ q₂ : Share) (short : κ ⊑ κ₂) (rb ro : ℕ) (a : Z.row.Denot) (us0 : List Val) where
  open 𝓛 use {H, A}

  abbrev self : Bor Z.row.Denot
  self = record { ref_ptr = (rb, ro); now = a }

  abbrev others : Item 𝓤
  others = ‵ (flft κ₁ q₁) ⊛ ‵ (flft κ₂ q₂) ⊛ ‵ ftrue

  abbrev bound : (walk_of 𝓛 (ended E Z) (stayed E Z) (clauses E Z 𝓛 at_mem run)).Ghost
  bound = (((κ, (κ₁, (κ₂, tt))), (q, (q₁, (q₂, tt))), (short, tt), (self, tt), (us0, tt)), tt)

  abbrev Post : Val → SProp 𝓤
  Post = (walk_of 𝓛 (ended E Z) (stayed E Z) (clauses E Z 𝓛 at_mem run)).post bound

  exits : (r : (Three E Z).Denot) (v : Val)
      → (r.1.at ≡ r.0.ptr) × (r.1.room ≡ 0) × (r.1.values ≡ []) × (r.2.at ≡ r.0.ptr) × (r.2.room ≡ 0) × (r.2.alloc ≡ a)
      → ent 𝓤 (⋆ 𝓛 (‵ ((Three E Z).own_val r (v ∷ [])) ∷ ‵ (flft κ q) ∷ others ∷ [])) (Post v)
  exits r v g =
      qed 𝓛 (‵ ((Three E Z).own_val r (v ∷ [])) ∷ ‵ (flft κ q) ∷ others ∷ []) ∵
      suffices ! _ (ends_at 𝓛 (ended E Z) (stayed E Z) (clauses E Z 𝓛 at_mem run) bound v r (tt, tt) (tt, tt)) $ says ! g $
      move ! (1 ∷ 2 ∷ []) $ join ! $ frame ! $ nothing ! $ nothing ! $ fjoin ! $ done !

  abbrev Had : List (Item 𝓤)
  Had = ‵ (flft κ q) ∷ others ∷ []

  walk : ent 𝓤 (⋆ 𝓛 Had) (WpFn 𝓤 H C Λ (function E Z) (vptr rb ro ∷ []) Post)
  walk =
      let s = type_size (R E) in
      qed 𝓛 Had ∵ enter ! C Λ (function E Z) (vptr rb ro ∷ []) _ $ alloc_all ! (λ l. pass_all ! refl ((tt, tt), tt) $
      let p : Ptr = block_ptr (l 2) 0 in
      let base : (Bs E).Denot = record { ptr = p } in
      let places : (Pl E).Denot = record { mark = record {}; at = p; room = 0; values = [] } in
      let deed : (Dd E Z).Denot = record { mark = record {}; at = p; room = 0; alloc = a } in
      let made : Val = three_val (word p) mark mark in
      let typed : Good (layout (Three E Z)) made = (tt, ((tt, tt), ((tt, tt), ((tt, tt), tt)))) in
      sets ! (agg ! (no_more !)) refl (tt, tt) $ sets ! (addr ! (from ! (stop !))) refl (tt, tt) $
      sets ! (agg ! (and_then ! (get ! refl) (no_more !))) refl (word-Good [] p) $
      sets ! (agg ! (no_more !)) refl (tt, tt) $ sets ! (agg ! (and_then ! (get ! refl) (no_more !))) refl (tt, (tt, tt)) $
      sets ! (agg ! (no_more !)) refl (tt, tt) $ sets ! (agg ! (and_then ! (get ! refl) (no_more !))) refl (tt, (tt, tt)) $
      sets ! (agg ! (and_then ! (get ! refl) (and_then ! (get ! refl) (and_then ! (get ! refl) (no_more !))))) refl typed $
      nothing ! $ use0 𝓛 (‵ ((Mark E).own_val (tt, tt) (mark ∷ []))) (mark_made E 𝓛) $ fjoin ! $
      nothing ! $ flt_i ! (0 * s) (2 ^ 63) (subst (λ (k : ℕ). k < 2 ^ 63) (sym (zero-mul s)) (lit< tt)) $ fjoin ! $ use0 𝓛
      (‵ ((Mark E).own_val (tt, tt) (mark ∷ []))) (mark_made E 𝓛) $ fjoin ! $ base_made ! p $
      use3 𝓛 (‵ ((Three E Z).own_val (base, places, deed) (made ∷ [])))
      (three_made 𝓛 (Bs E) (Pl E) (Dd E Z) base places deed (word p) mark mark) $
      returns ! (look_at ! 0 refl) $ free_all ! refl $ keep ! (0 ∷ 1 ∷ 2
      ∷ []) $ by ! (exits (base, places, deed) made (refl, refl, refl, refl, refl, refl)))

  entry : ent 𝓤 (on_entry 𝓛 (ended E Z).signature (κ, (κ₁, (κ₂, tt))) (q, (q₁, (q₂, tt))) (self, tt) (us0, tt))
      (WpFn 𝓤 H C Λ (function E Z) (us0 ++ []) Post)
  entry =
      qed 𝓛 ((‵ (flft κ q) ⊛ others) ∷ ‵ (owns (ShrRef (named 0) κ (P E Z) ∷ []) (self, tt) (us0, tt)) ∷ []) ∵ split ! $ move ! (2
      ∷ []) $ fsplit ! $ fsplit ! $ feq_l ! (λ e0.
      keep ! (2 ∷ 3 ∷ []) $
      by ! (subst (λ (ws : List Val). ent 𝓤 (⋆ 𝓛 Had) (WpFn 𝓤 H C Λ (function E Z) (ws ++ []) Post)) (sym e0) walk))

meets : (E : El) (Z : Al) {M : Type 1} {𝓤 : Ura M} (𝓛 : Logic 𝓤) (at_mem : Memory → SProp 𝓤) (run : Routine → Fun 𝓤) (𝓣 : Tables 𝓤 𝓛.H)
    → Meets 𝓛 (ended E Z).signature (WpFn 𝓤 𝓛.H 𝓣.C 𝓣.Λ (function E Z)) (closing 𝓛 (ended E Z) (clauses E Z 𝓛 at_mem run))
meets E Z {𝓤 = 𝓤} 𝓛 at_mem run 𝓣 =
    walk_Meets 𝓛 (ended E Z) (stayed E Z) (Goes-dropped 𝓛 3 (RefOf (0 ∷ []) tt (plain (λ _. P E Z)) (λ _. tt)) yes (λ κs x f. refl), tt)
    (clauses E Z 𝓛 at_mem run) (WpFn 𝓤 𝓛.H 𝓣.C 𝓣.Λ (function E Z)) (WpFn-mono 𝓤 𝓛.H 𝓛.laws 𝓣 (function E Z))
    (λ z. let κs = z.0.0 in let qs = z.0.1 in let a = z.0.3 in let vss = z.0.4 in
    via 𝓤 _ (fst∗ 𝓤 (on_entry 𝓛 (ended E Z).signature κs qs a vss) ((clauses E Z 𝓛 at_mem run κs a).requires z.1))
    (entry E Z 𝓛 at_mem run 𝓣.C 𝓣.Λ κs.0 κs.1.0 κs.1.1.0 qs.0 qs.1.0 qs.1.1.0 z.0.2.0 a.0.ref_ptr.0 a.0.ref_ptr.1 a.0.now vss.0))

pub no_block_spec : {M : Type 1} → stated.statement M
unfolding tables_of
no_block_spec 𝓤 𝓛 𝓜 𝓡 wired X W LX LW g d dd met md =
    let E : El = record { row = X; laws = LX } in
    let Z : Al = record { row = W; laws = LW; g = g; d = d; drops = dd } in
    let 𝓣 : Tables 𝓤 𝓛.H = tables_of 𝓤 𝓛.H 𝓜 (tables 𝓤 𝓛.H 𝓜 𝓡 𝓡.env) in
    entered 𝓤 𝓛.H (triple_of 𝓛 (ended E Z).signature (F.spec X W g d dd 𝓛 𝓜.mem 𝓡.returns)) 𝓣.C 𝓣.Λ (#self (args E Z)) (function E Z)
    (code.unfolded 𝓤 𝓛.H 𝓜 𝓡 wired (X, (W, tt)) d dd)
    (meets E Z 𝓛 𝓜.mem 𝓡.returns 𝓣)
