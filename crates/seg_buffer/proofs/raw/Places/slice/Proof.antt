-- `slice` makes a slice of the first values that the places lend. Assumes `Logic`.
use Rattle.seg_buffer.proofs.Steps.{◌≡◌, refl, sym, ap, subst, ◌∙◌, List, [], ◌∷◌, ◌++◌, ℕ, ◌*◌, ◌≤◌, ◌<◌, ◌^◌, arith, length, take}
use Rattle.seg_buffer.proofs.Steps.{length-take, Ura, full_share, SProp, ent, never, id⊢, Lft, Share, ftrue, fat, flft, Fn, named, w64}
use Rattle.seg_buffer.proofs.Steps.{inst_fn, Val, vptr, vint, Env, Calls, Loops, WpFn, Tables, fact, tables, tables_of, WpFn-mono, Logic}
use Rattle.seg_buffer.proofs.Steps.{Item, ⋆, ‵, ◌⊛◌, at_ret, ◌$◌, ◌∵◌, !, qed, by, move, keep, use1, split, join, frame, fsplit, fjoin}
use Rattle.seg_buffer.proofs.Steps.{feq_i, feq_l, flt_i, flt_l, rewrite, skip, suffices, done, whole, sub, agg, stop, fld, of_opd}
use Rattle.seg_buffer.proofs.Steps.{and_then, no_more, first, blocks, exec, returns, enter, alloc_all, pass_all, free_all, look_at}
use Rattle.seg_buffer.proofs.Steps.{take_at, give_at, get, get_in, sets, sets_last, env, yes, no, owns, hidden_shr, hide, unhide, layout}
use Rattle.seg_buffer.proofs.Steps.{Ptr, in_a_block, Bor, ShrRef, ShrSlice, slice_val, elements_shared, RefOf, SliceRefOf, usize, plain}
use Rattle.seg_buffer.proofs.Steps.{nothing, spared, Clauses, Ended, closing, on_entry, Meets, triple_of, entered, run_framed, says, needs}
use Rattle.seg_buffer.proofs.Steps.{Stays, stay_dropped, walk_of, ends_at, Goes-dropped, walk_Meets, after, El, R, el_x, args, times_below}
use Rattle.seg_buffer.proofs.Steps.{word, word-Good, type_size}
use Rattle.seg_buffer.specs.Memory.{places_lent}
use Rattle.seg_buffer.proofs.Parts.{Pl, Bs, base_had}
use Rattle.seg_buffer.proofs.Rows.{first_lent}
use Rattle.seg_buffer.specs.contracts.raw.Places.slice.Key.{name as #self}
use Rattle.seg_buffer.proofs.raw.Places.slice.Statement as stated
use Rattle.seg_buffer.proofs.raw.Places.slice.Code as code

module _ (E : El) where
  abbrev function : Fn
  function = inst_fn (args E) code.function

  abbrev ended : Ended
  ended = record {
    signature =
        record {
          lifetimes = 1;
          outlives = [];
          params = RefOf (0 ∷ []) tt (plain (λ _. Pl E)) (λ _. tt) ∷ plain (λ _. Bs E)
              ∷ plain (λ _. usize) ∷ [];
          result = SliceRefOf (0 ∷ []) tt (plain (λ _. R E)) (λ _. tt);
        };
    kept = (yes, (no, (no, tt)));
  }

  abbrev stayed : Stays ended.signature.params ended.kept
  stayed = (
    stay_dropped (RefOf (0 ∷ []) tt (plain (λ _. Pl E)) (λ _. tt)) yes,
    (stay_dropped (plain (λ _. Bs E)) no, (stay_dropped (plain (λ _. usize)) no, tt)),
  )

  abbrev Asks : (Pl E).Denot → (Bs E).Denot → ℕ → Type 0
  Asks d base len = (base.ptr ≡ d.at) × (len ≤ length d.values) × (length d.values ≤ d.room)

  abbrev spec : {M : Type 1} {𝓤 : Ura M} (𝓛 : Logic 𝓤) → Clauses 𝓤 ended
  spec {𝓤 = 𝓤} 𝓛 κs a = record {
    ghost = Unit {0};
    requires = λ _. fact 𝓤 (Asks a.0.now a.1.0 a.1.1.0);
    ensures =
        λ _ r w. fact 𝓤 (r.now ≡ take a.1.1.0 a.0.now.values);
  }

module _ (E : El) {M : Type 1} {𝓤 : Ura M} (𝓛 : Logic 𝓤) (C : Calls 𝓤 𝓛.H) (Λ : Loops 𝓤 𝓛.H) (κ : Lft) (q : Share) (rb ro : ℕ)
    (d : (Pl E).Denot) (base : (Bs E).Denot) (len : ℕ) (us0 us1 us2 : List Val) where
  open 𝓛 use {H, A}

  abbrev self : Bor (Pl E).Denot
  self = record { ref_ptr = (rb, ro); now = d }

  abbrev bound : (walk_of 𝓛 (ended E) (stayed E) (spec E 𝓛)).Ghost
  bound = (((κ, tt), (q, tt), tt, (self, (base, (len, tt))), (us0, (us1, (us2, tt)))), tt)

  abbrev Post : Val → SProp 𝓤
  Post = (walk_of 𝓛 (ended E) (stayed E) (spec E 𝓛)).post bound

  exits : (r : Bor (List (el_x E))) (v : Val) → r.now ≡ take len d.values
      → ent 𝓤 (⋆ 𝓛 (‵ (flft κ q) ∷ ‵ ((ShrSlice (named 0) κ (R E)).own_val r (v ∷ [])) ∷ [])) (Post v)
  exits r v e =
      qed 𝓛 (‵ (flft κ q) ∷ ‵ ((ShrSlice (named 0) κ (R E)).own_val r (v ∷ [])) ∷ []) ∵
      suffices ! _ (ends_at 𝓛 (ended E) (stayed E) (spec E 𝓛) bound v r (tt, (tt, (tt, tt))) (tt, (tt, (tt, tt)))) $ says ! e $
      nothing ! $ move ! (1 ∷ 0
      ∷ []) $ join ! $ frame ! $ nothing ! $ nothing ! $ fjoin ! $ nothing ! $ fjoin ! $ nothing ! $ fjoin ! $ done !

  abbrev Had : List (Item 𝓤)
  Had = ‵ (hidden_shr (Pl E) κ d rb ro) ∷ ‵ (flft κ q) ∷ []

  walk : Asks E d base len → len < 2 ^ 64
      → ent 𝓤 (⋆ 𝓛 Had) (WpFn 𝓤 H C Λ (function E) (vptr rb ro ∷ word base.ptr ∷ vint w64 len ∷ []) Post)
  walk asked fits =
      let s = type_size (R E) in let xs = take len d.values in let long : length xs ≡ len = omega (arith, length-take len d.values) in
      qed 𝓛 Had ∵ enter ! C Λ (function E) (vptr rb ro ∷ word base.ptr ∷ vint w64 len
      ∷ []) _ $ alloc_all ! (λ l. pass_all ! refl ((tt, tt), (word-Good [] base.ptr, ((tt, record { fits = fits }), tt))) $
      let En : Env 𝓤 H = env (function E).locals l in
      unhide ! $ fsplit ! $ skip ! $ in_a_block ! d.at (λ p. places_lent (R E) p d.room d.values κ) (id⊢ 𝓤 (never 𝓤))
      (λ b o e. fsplit ! $ flt_l ! (λ small.
      take_at ! 2 $ rewrite ! 0 (λ (p : Ptr). ‵ (fat full_share (layout (Bs E)) (l 2) 0 (word p))) (asked.0
      ∙ e) refl $ give_at ! 2 $ first ! $ blocks ! $
      use1 𝓛 (‵ (elements_shared (R E) xs b o κ)) (first_lent E 𝓛 b κ len o d.values) $ hide ! $
      sets_last ! (agg ! (and_then ! (get_in ! (fld ! refl (stop !)) (sub ! 0 refl (whole !))) (and_then ! (get ! refl) (no_more !))))
      refl (tt, (tt, (record { fits = fits }, tt))) $
      exec ! C Λ En (after 1 (function E).body) (at_ret En Post) $ sets ! (of_opd ! (get ! refl)) refl
      (tt, (tt, (record { fits = fits }, tt))) $
      flt_i ! (length xs * s) (2 ^ 63) (times_below (length xs) d.room s (2 ^ 63) (omega arith) small) $ flt_i ! (length xs) (2 ^ 64)
      (omega arith) $ fjoin ! $
      feq_i ! (List Val) (slice_val (b, o) len ∷ []) (slice_val (b, o) (length xs)
      ∷ []) (ap (λ j. slice_val (b, o) j ∷ []) (sym long)) $ fjoin ! $ fjoin ! $
      returns ! (look_at ! 0 refl) $ free_all ! refl $ keep ! (1 ∷ 0
      ∷ []) $ by ! (exits (record { ref_ptr = (b, o); now = xs }) (slice_val (b, o) len) refl))))

  entry : Asks E d base len
      → ent 𝓤 (on_entry 𝓛 (ended E).signature (κ, tt) (q, tt) (self, (base, (len, tt))) (us0, (us1, (us2, tt))))
      (WpFn 𝓤 H C Λ (function E) (us0 ++ (us1 ++ (us2 ++ []))) Post)
  entry asked =
      qed 𝓛 ((‵ (flft κ q) ⊛ ‵ ftrue)
      ∷ ‵ (owns (ShrRef (named 0) κ (Pl E) ∷ Bs E ∷ usize ∷ []) (self, (base, (len, tt))) (us0, (us1, (us2, tt)))) ∷ []) ∵
      split ! $ move ! (2 ∷ []) $ fsplit ! $ fsplit ! $ feq_l ! (λ e0. move ! (1 ∷ []) $ fsplit ! $ base_had ! base.ptr us1 (λ e1.
      fsplit ! $ fsplit ! $ feq_l ! (λ e2. flt_l ! (λ fits. keep ! (1 ∷ 2 ∷ []) $
      by ! (subst (λ (ws : List Val × List Val
      × List Val). ent 𝓤 (⋆ 𝓛 Had) (WpFn 𝓤 H C Λ (function E) (ws.0 ++ (ws.1 ++ (ws.2 ++ []))) Post))
      (λ j. (sym e0 j, sym e1 j, sym e2 j)) (walk asked fits))))))

meets : (E : El) {M : Type 1} {𝓤 : Ura M} (𝓛 : Logic 𝓤) (𝓣 : Tables 𝓤 𝓛.H)
    → Meets 𝓛 (ended E).signature (WpFn 𝓤 𝓛.H 𝓣.C 𝓣.Λ (function E)) (closing 𝓛 (ended E) (spec E 𝓛))
meets E {𝓤 = 𝓤} 𝓛 𝓣 =
    walk_Meets 𝓛 (ended E) (stayed E) (
      Goes-dropped 𝓛 1 (RefOf (0 ∷ []) tt (plain (λ _. Pl E)) (λ _. tt)) yes (λ κs x f. refl),
      (Goes-dropped 𝓛 1 (plain (λ _. Bs E)) no (λ κs x f. refl), (Goes-dropped 𝓛 1 (plain (λ _. usize)) no (λ κs x f. refl), tt)),
    )
    (spec E 𝓛)
    (WpFn 𝓤 𝓛.H 𝓣.C 𝓣.Λ (function E)) (WpFn-mono 𝓤 𝓛.H 𝓛.laws 𝓣 (function E))
    (λ z. let κ = z.0.0.0 in let q = z.0.1.0 in let a = z.0.3 in let us = z.0.4 in
    needs 𝓤 (Asks E a.0.now a.1.0 a.1.1.0) _ (entry E 𝓛 𝓣.C 𝓣.Λ κ q a.0.ref_ptr.0 a.0.ref_ptr.1 a.0.now a.1.0 a.1.1.0 us.0 us.1.0 us.1.1.0))

pub slice_spec : {M : Type 1} → stated.statement M
unfolding tables_of
slice_spec 𝓤 𝓛 𝓜 𝓡 wired X LX y =
    let E : El = record { row = X; laws = LX } in
    let 𝓣 : Tables 𝓤 𝓛.H = tables_of 𝓤 𝓛.H 𝓜 (tables 𝓤 𝓛.H 𝓜 𝓡 𝓡.env) in
    let key = #self (args E) in
    spared 𝓛 (ended E).signature (𝓡.run (𝓡.env key)) (run_framed 𝓤 𝓛.H 𝓜 𝓡 (𝓡.env key)) 1 (X.lives, tt) (closing 𝓛 (ended E) (spec E 𝓛))
    (entered 𝓤 𝓛.H (triple_of 𝓛 (ended E).signature (closing 𝓛 (ended E) (spec E 𝓛))) 𝓣.C 𝓣.Λ key (function E)
    (code.unfolded 𝓤 𝓛.H 𝓜 𝓡 wired (X, tt)) (meets E 𝓛 𝓣))
    ((y.0.0, y.0.1, tt, y.0.3, y.0.4), y.1)
