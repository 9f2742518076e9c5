-- `slice_mut` lends the first values, and the places follow what is written to them. Assumes `Logic`.
use Rattle.seg_buffer.proofs.Steps.{◌≡◌, refl, sym, subst, ◌∙◌, List, [], ◌∷◌, ◌++◌, ℕ, ◌*◌, ◌≤◌, ◌<◌, ◌^◌, arith, length, take, drop}
use Rattle.seg_buffer.proofs.Steps.{length-take, Ura, full_share, SProp, ent, sep, never, id⊢, Fml, Lft, GName, Share, ftrue, fsep, fat}
use Rattle.seg_buffer.proofs.Steps.{flft, fobs, fbor, Fn, named, w64, inst_fn, Val, vptr, vint, Env, Calls, Loops, WpFn, Tables, fact}
use Rattle.seg_buffer.proofs.Steps.{tables, tables_of, WpFn-mono, Logic, sem, cells, Borrowed, Item, ⋆, ‵, raw, some, later, ◌⊛◌, at_ret}
use Rattle.seg_buffer.proofs.Steps.{◌$◌, ◌∵◌, !, qed, by, move, keep, use1, use2, pick, await, split, join, group, frame, fsplit, fsplit3}
use Rattle.seg_buffer.proofs.Steps.{fjoin, fjoin3, fpack, feq_l, flt_i, flt_l, rewrite, suffices, done, whole, sub, agg, stop, fld, of_opd}
use Rattle.seg_buffer.proofs.Steps.{and_then, no_more, first, blocks, exec, returns, enter, alloc_all, pass_all, free_all, look_at}
use Rattle.seg_buffer.proofs.Steps.{take_at, give_at, get, get_in, sets, sets_last, env, no, owns, mem, cell_at, part_of, layout, Ptr}
use Rattle.seg_buffer.proofs.Steps.{block_ptr, in_a_block, MutBor, MutRef, MutSlice, slice_val, Array, RefMutOf, SliceRefMutOf, usize}
use Rattle.seg_buffer.proofs.Steps.{plain, mut_ref_to, nothing, opens, spared, Clauses, Ended, closing, on_entry, Meets, triple_of}
use Rattle.seg_buffer.proofs.Steps.{entered, run_framed, says, needs, Stays, stay_dropped, walk_of, ends_at, Goes-dropped, Goes-spent_ref}
use Rattle.seg_buffer.proofs.Steps.{walk_Meets, after, El, R, el_x, args, times_below, word, word-Good, type_size}
use lib.Seq.{take_at as take_front}
use denote.Follow.{follows}
use denote.FollowSlice.{Elements, lends_Elements}
use Rattle.std.specs.List.{refill}
use Rattle.seg_buffer.specs.Memory.{row, spread, places_own}
use Rattle.seg_buffer.specs.PlacesLend.{with_first}
use Rattle.seg_buffer.proofs.Parts.{Pl, Bs, Mark, base_had}
use Rattle.seg_buffer.proofs.Rows.{After_first, first_out, first_in}
use Rattle.seg_buffer.specs.contracts.raw.Places.slice_mut.Key.{name as #self}
use Rattle.seg_buffer.proofs.raw.Places.slice_mut.Statement as stated
use Rattle.seg_buffer.proofs.raw.Places.slice_mut.Code as code

module _ (E : El) where
  abbrev function : Fn
  function = inst_fn (args E) code.function

  abbrev ended : Ended
  ended = record {
    signature =
        record {
          lifetimes = 1;
          outlives = [];
          params = RefMutOf (0 ∷ []) tt (plain (λ _. Pl E)) (λ _. tt) ∷ plain (λ _. Bs E)
              ∷ plain (λ _. usize) ∷ [];
          result = SliceRefMutOf (0 ∷ []) tt (plain (λ _. R E)) (λ _. tt);
        };
    kept = (no, (no, (no, tt)));
  }

  abbrev stayed : Stays ended.signature.params ended.kept
  stayed = (
    stay_dropped (mut_ref_to (0 ∷ []) tt (plain (λ _. Pl E))) no,
    (stay_dropped (plain (λ _. Bs E)) no, (stay_dropped (plain (λ _. usize)) no, tt)),
  )

  abbrev Asks : (Pl E).Denot → (Bs E).Denot → ℕ → Type 0
  Asks d base len = (base.ptr ≡ d.at) × (len ≤ length d.values) × (length d.values ≤ d.room)

  abbrev spec : {M : Type 1} {𝓤 : Ura M} (𝓛 : Logic 𝓤) → Clauses 𝓤 ended
  spec {𝓤 = 𝓤} 𝓛 κs a = record {
    ghost = Unit {0};
    requires = λ _. fact 𝓤 (Asks a.0.now a.1.0 a.1.1.0);
    ensures =
        λ _ r w. sep 𝓤 (sem 𝓛 (follows (Pl E) (Array (R E) 0) a.0.ghost_name r.ghost_name (with_first a.0.now a.1.1.0)))
        (fact 𝓤 (r.now ≡ take a.1.1.0 a.0.now.values));
  }

module _ (E : El) {M : Type 1} {𝓤 : Ura M} (𝓛 : Logic 𝓤) (C : Calls 𝓤 𝓛.H) (Λ : Loops 𝓤 𝓛.H) (κ : Lft) (q : Share) (rb ro : ℕ) (γ : GName)
    (d : (Pl E).Denot) (base : (Bs E).Denot) (len : ℕ) (us0 us1 us2 : List Val) where
  open 𝓛 use {H, A}

  abbrev self : MutBor (Pl E).Denot
  self = record { ref_ptr = (rb, ro); ghost_name = γ; now = d }

  abbrev bound : (walk_of 𝓛 (ended E) (stayed E) (spec E 𝓛)).Ghost
  bound = (((κ, tt), (q, tt), tt, (self, (base, (len, tt))), (us0, (us1, (us2, tt)))), tt)

  abbrev Post : Val → SProp 𝓤
  Post = (walk_of 𝓛 (ended E) (stayed E) (spec E 𝓛)).post bound

  abbrev new : List (el_x E) → (Pl E).Denot
  new = with_first d len

  abbrev xs : List (el_x E)
  xs = take len d.values

  module _ (asked : Asks E d base len) (vs : List Val) (b o : ℕ) where
    -- all but the values that are lent
    abbrev Rest : Fml
    Rest = fsep (After_first E 𝓛 b o len d.room d.values asked.1 asked.2)
        (fsep ((Mark E).own_val (tt, tt) vs) (cell_at full_share (Pl E).mir vs rb ro))

    back : d.at ≡ block_ptr b o → d.room * type_size (R E) < 2 ^ 63 → length xs ≡ len → (ws : List (el_x E)) → length ws ≡ length xs
        → ent 𝓤 (sep 𝓤 (sem 𝓛 (cells (mem (R E)) ws b o)) (sem 𝓛 Rest)) (sem 𝓛 ((mem (Pl E)).own_at (new ws) rb ro))
    unfolding part_of
    back e small count ws same =
        let all : refill len xs ws ≡ ws = take_front ws (drop (length ws) xs) len (same ∙ count) in
        qed 𝓛 (‵ (cells (mem (R E)) ws b o) ∷ ‵ Rest ∷ []) ∵ move ! (1 ∷ []) $ fsplit3 ! $ move ! (3 ∷ 0 ∷ []) $
        use2 𝓛 (‵ (row (R E) b o (spread d.room (ws ++ drop len d.values))))
        (first_in E 𝓛 b o len d.room d.values asked.1 asked.2 ws (same ∙ count)) $
        rewrite ! 0 (λ (l : List (el_x E)). ‵ (row (R E) b o (spread d.room (l ++ drop len d.values)))) (sym all) refl $
        flt_i ! (d.room * type_size (R E)) (2 ^ 63) small $ fjoin ! $
        rewrite ! 0 (λ (p : Ptr). ‵ (places_own (R E) p d.room (new ws).values)) (sym e) refl $ move ! (1 ∷ 0 ∷ []) $ fjoin ! $ move ! (1
        ∷ 0 ∷ []) $ fjoin ! $
        fpack ! (List Val) (λ us. fsep (cell_at full_share (Pl E).mir us rb ro) ((Pl E).own_val (new ws) us)) vs $ done !

  exits : (v : Val) (r : MutBor (List (el_x E))) → r.now ≡ xs
      → ent 𝓤 (sep 𝓤 (sem 𝓛 ((MutSlice (named 0) κ (R E)).own_val r (v ∷ [])))
      (sep 𝓤 (A.lft κ q) (sem 𝓛 (follows (Pl E) (Array (R E) 0) γ r.ghost_name new)))) (Post v)
  exits v r e =
      qed 𝓛 (‵ ((MutSlice (named 0) κ (R E)).own_val r (v ∷ [])) ∷ ‵ (flft κ q) ∷ ‵ (follows (Pl E) (Array (R E) 0) γ r.ghost_name new)
      ∷ []) ∵
      suffices ! _ (ends_at 𝓛 (ended E) (stayed E) (spec E 𝓛) bound v r (tt, (tt, (tt, tt))) (tt, (tt, (tt, tt)))) $
      nothing ! $ nothing ! $ fjoin ! $ nothing ! $ fjoin ! $ nothing ! $ fjoin ! $ join ! $ nothing ! $ move ! (2 ∷ 0
      ∷ []) $ join ! $ join ! $ frame ! $ says ! e $ done !

  abbrev Had : List (Item 𝓤)
  Had = ‵ (fobs γ ((Pl E).coded.code d)) ∷ ‵ (fbor κ (Borrowed (mem (Pl E)) rb ro γ)) ∷ ‵ (flft κ q) ∷ []

  walk : Asks E d base len → len < 2 ^ 64
      → ent 𝓤 (⋆ 𝓛 Had) (WpFn 𝓤 H C Λ (function E) (vptr rb ro ∷ word base.ptr ∷ vint w64 len ∷ []) Post)
  walk asked fits =
      let s = type_size (R E) in let long : length xs ≡ len = omega (arith, length-take len d.values) in let code = (Pl E).coded.code d in
      qed 𝓛 Had ∵ enter ! C Λ (function E) (vptr rb ro ∷ word base.ptr ∷ vint w64 len
      ∷ []) _ $ alloc_all ! (λ l. pass_all ! refl ((tt, tt), (word-Good [] base.ptr, ((tt, record { fits = fits }), tt))) $
      let En : Env 𝓤 H = env (function E).locals l in
      opens ! tt (Pl E) {h = d} rb ro (λ vs. move ! (1 ∷ []) $ fsplit ! $ move ! (1 ∷ []) $
      in_a_block ! d.at (λ p. places_own (R E) p d.room d.values) (id⊢ 𝓤 (never 𝓤)) (λ b o e. fsplit ! $ flt_l ! (λ small.
      take_at ! 2 $ rewrite ! 0 (λ (p : Ptr). ‵ (fat full_share (layout (Bs E)) (l 2) 0 (word p))) (asked.0
      ∙ e) refl $ give_at ! 2 $ first ! $ blocks ! $
      let way = back asked vs b o e small long in let roomy : length xs < 2 ^ 64 = omega arith in let fitting =
      times_below (length xs) d.room s (2 ^ 63) (omega arith) small in
      use1 𝓛 (‵ (cells (mem (R E)) xs b o) ⊛ ‵ (After_first E 𝓛 b o len d.room d.values asked.1 asked.2))
      (first_out E 𝓛 b o len d.room d.values asked.1 asked.2) $ split ! $
      sets_last ! (agg ! (and_then ! (get_in ! (fld ! refl (stop !)) (sub ! 0 refl (whole !))) (and_then ! (get ! refl) (no_more !))))
      refl (tt, (tt, (record { fits = fits }, tt))) $
      exec ! C Λ En (after 1 (function E).body) (at_ret En Post) $ sets ! (of_opd ! (get ! refl)) refl
      (tt, (tt, (record { fits = fits }, tt))) $
      move ! (1 ∷ 2 ∷ 3 ∷ []) $ fjoin3 ! $ move ! (2 ∷ 3 ∷ 4 ∷ 1 ∷ 0 ∷ []) $ group ! 5 $
      use1 𝓛 (later (some (λ (δ : GName). raw
      (Elements 𝓛 (Pl E) (R E) new (named 0) κ q rb ro b o γ xs (roomy, fitting) (sem 𝓛 (Rest asked vs b o)) way δ))))
      (lends_Elements 𝓛 (Pl E) (R E) new (named 0) κ q rb ro b o γ xs (roomy, fitting) (sem 𝓛 (Rest asked vs b o)) way code code) $ await
      ! tt $ pick ! (λ δ.
      let r : MutBor (List (el_x E)) = record { ref_ptr = (b, o); ghost_name = δ; now = xs } in
      returns ! (look_at ! 0 refl) $ free_all ! refl $ keep ! (0 ∷ []) $
      by ! (subst (λ (j : ℕ). ent 𝓤
      (Elements 𝓛 (Pl E) (R E) new (named 0) κ q rb ro b o γ xs (roomy, fitting) (sem 𝓛 (Rest asked vs b o)) way δ)
      (Post (slice_val (b, o) j))) long
      (exits (slice_val (b, o) (length xs)) r refl)))))))

  entry : Asks E d base len
      → ent 𝓤 (on_entry 𝓛 (ended E).signature (κ, tt) (q, tt) (self, (base, (len, tt))) (us0, (us1, (us2, tt))))
      (WpFn 𝓤 H C Λ (function E) (us0 ++ (us1 ++ (us2 ++ []))) Post)
  entry asked =
      qed 𝓛 ((‵ (flft κ q) ⊛ ‵ ftrue)
      ∷ ‵ (owns (MutRef (named 0) κ (Pl E) ∷ Bs E ∷ usize ∷ []) (self, (base, (len, tt))) (us0, (us1, (us2, tt)))) ∷ []) ∵
      split ! $ move ! (2 ∷ []) $ fsplit ! $ fsplit3 ! $ feq_l ! (λ e0. move ! (2 ∷ []) $ fsplit ! $ base_had ! base.ptr us1 (λ e1.
      fsplit ! $ fsplit ! $ feq_l ! (λ e2. flt_l ! (λ fits. keep ! (1 ∷ 2 ∷ 3 ∷ []) $
      by ! (subst (λ (ws : List Val × List Val
      × List Val). ent 𝓤 (⋆ 𝓛 Had) (WpFn 𝓤 H C Λ (function E) (ws.0 ++ (ws.1 ++ (ws.2 ++ []))) Post))
      (λ j. (sym e0 j, sym e1 j, sym e2 j)) (walk asked fits))))))

meets : (E : El) {M : Type 1} {𝓤 : Ura M} (𝓛 : Logic 𝓤) (𝓣 : Tables 𝓤 𝓛.H)
    → Meets 𝓛 (ended E).signature (WpFn 𝓤 𝓛.H 𝓣.C 𝓣.Λ (function E)) (closing 𝓛 (ended E) (spec E 𝓛))
meets E {𝓤 = 𝓤} 𝓛 𝓣 =
    walk_Meets 𝓛 (ended E) (stayed E) (
      Goes-spent_ref 𝓛 1 (0
          ∷ []) tt (plain (λ _. Pl E)),
      (
        Goes-dropped 𝓛 1 (plain (λ _. Bs E)) no (λ κs x f. refl),
        (Goes-dropped 𝓛 1 (plain (λ _. usize)) no (λ κs x f. refl), tt),
      ),
    ) (spec E 𝓛)
    (WpFn 𝓤 𝓛.H 𝓣.C 𝓣.Λ (function E)) (WpFn-mono 𝓤 𝓛.H 𝓛.laws 𝓣 (function E))
    (λ z. let κ = z.0.0.0 in let q = z.0.1.0 in let a = z.0.3 in let us = z.0.4 in
    needs 𝓤 (Asks E a.0.now a.1.0 a.1.1.0) _
    (entry E 𝓛 𝓣.C 𝓣.Λ κ q a.0.ref_ptr.0 a.0.ref_ptr.1 a.0.ghost_name a.0.now a.1.0 a.1.1.0 us.0 us.1.0 us.1.1.0))

pub slice_mut_spec : {M : Type 1} → stated.statement M
unfolding tables_of
slice_mut_spec 𝓤 𝓛 𝓜 𝓡 wired X LX y =
    let E : El = record { row = X; laws = LX } in
    let 𝓣 : Tables 𝓤 𝓛.H = tables_of 𝓤 𝓛.H 𝓜 (tables 𝓤 𝓛.H 𝓜 𝓡 𝓡.env) in
    let key = #self (args E) in
    spared 𝓛 (ended E).signature (𝓡.run (𝓡.env key)) (run_framed 𝓤 𝓛.H 𝓜 𝓡 (𝓡.env key)) 1 (X.lives, tt) (closing 𝓛 (ended E) (spec E 𝓛))
    (entered 𝓤 𝓛.H (triple_of 𝓛 (ended E).signature (closing 𝓛 (ended E) (spec E 𝓛))) 𝓣.C 𝓣.Λ key (function E)
    (code.unfolded 𝓤 𝓛.H 𝓜 𝓡 wired (X, tt)) (meets E 𝓛 𝓣))
    ((y.0.0, y.0.1, tt, y.0.3, y.0.4), y.1)
