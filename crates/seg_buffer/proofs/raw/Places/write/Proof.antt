-- `write` forgets what lies in the place at `index` and after it, and fills that place. Assumes `Logic`.
use Rattle.seg_buffer.proofs.Steps.{◌≡◌, refl, sym, subst, ◌∙◌, List, [], ◌∷◌, ◌++◌, ℕ, ◌+◌, ◌*◌, ◌≤◌, ◌<◌, ◌^◌, arith, length, take, Ura}
use Rattle.seg_buffer.proofs.Steps.{full_share, SProp, ent, never, id⊢, Lft, GName, Share, ftrue, fat, flft, fobs, fbor, Fn, named, w64}
use Rattle.seg_buffer.proofs.Steps.{inst_fn, Val, vptr, vint, vunit, Env, Calls, Loops, WpFn, Tables, fact, tables, tables_of, WpFn-mono}
use Rattle.seg_buffer.proofs.Steps.{Logic, Borrowed, Item, ⋆, ‵, ◌⊛◌, at_ret, ◌$◌, ◌∵◌, !, qed, by, move, keep, use1, use2, split, join}
use Rattle.seg_buffer.proofs.Steps.{frame, fsplit, fsplit3, fjoin, fjoin3, feq_i, feq_l, flt_i, flt_l, rewrite, suffices, done, whole, sub}
use Rattle.seg_buffer.proofs.Steps.{init, stop, fld, unit_lit, size_lit, of_opd, bin, assigns_last, first, blocks, exec, returns, enter}
use Rattle.seg_buffer.proofs.Steps.{alloc_all, pass_all, free_all, look_at, take_at, give_at, get, get_in, through, sets, env, yes, no}
use Rattle.seg_buffer.proofs.Steps.{owns, mem, layout, Ptr, in_a_block, MutBor, MutRef, RefMutOf, usize, unit, plain, nothing, opens}
use Rattle.seg_buffer.proofs.Steps.{closes, spared, Clauses, Ended, closing, on_entry, Meets, triple_of, entered, run_framed, says, needs}
use Rattle.seg_buffer.proofs.Steps.{Stays, stay_dropped, stay_ref, walk_of, ends_at, Goes-dropped, Goes-ref, walk_Meets, after, El, R, elτ}
use Rattle.seg_buffer.proofs.Steps.{args, times_below, one_below, as_written, Good, word, word-Good, Some, None, type_size}
use Rattle.seg_buffer.specs.Memory.{place, row, spread, places_own}
use Rattle.seg_buffer.proofs.Parts.{Pl, Bs, base_had, element_had}
use Rattle.seg_buffer.proofs.Rows.{value_in, Beside, open_at, put_at}
use Rattle.seg_buffer.specs.contracts.raw.Places.write.Key.{name as #self}
use Rattle.seg_buffer.proofs.raw.Places.write.Statement as stated
use Rattle.seg_buffer.proofs.raw.Places.write.Code as code

module _ (E : El) where
  abbrev function : Fn
  function = inst_fn (args E) code.function

  abbrev ended : Ended
  ended = record {
    signature =
        record {
          lifetimes = 1;
          outlives = [];
          params = RefMutOf (0 ∷ []) tt (plain (λ _. Pl E)) (λ _. tt) ∷ plain (λ _. Bs E)
              ∷ plain (λ _. usize) ∷ plain (λ _. R E) ∷ [];
          result = plain (λ _. unit);
        };
    kept = (yes, (no, (no, (no, tt))));
  }

  abbrev stayed : Stays ended.signature.params ended.kept
  stayed = (
    stay_ref (0
        ∷ []) tt (plain (λ _. Pl E)),
    (stay_dropped (plain (λ _. Bs E)) no, (stay_dropped (plain (λ _. usize)) no, (stay_dropped (plain (λ _. R E)) no, tt))),
  )

  abbrev Asks : (Pl E).Denot → (Bs E).Denot → ℕ → Type 0
  Asks d base k = (base.ptr ≡ d.at) × (k < d.room) × (k ≤ length d.values) × (length d.values ≤ d.room)

  abbrev Ensures : (Pl E).Denot → ℕ → (R E).Denot → (Pl E).Denot → Type 0
  Ensures d k x new = (new.at ≡ d.at) × (new.room ≡ d.room) × (new.values ≡ take k d.values ++ x ∷ [])

  abbrev spec : {M : Type 1} {𝓤 : Ura M} (𝓛 : Logic 𝓤) → Clauses 𝓤 ended
  spec {𝓤 = 𝓤} 𝓛 κs a = record {
    ghost = Unit {0};
    requires = λ _. fact 𝓤 (Asks a.0.now a.1.0 a.1.1.0);
    ensures =
        λ _ r w. fact 𝓤 (Ensures a.0.now a.1.1.0 a.1.1.1.0 w.0.now);
  }

module _ (E : El) {M : Type 1} {𝓤 : Ura M} (𝓛 : Logic 𝓤) (C : Calls 𝓤 𝓛.H) (Λ : Loops 𝓤 𝓛.H) (κ : Lft) (q : Share) (rb ro : ℕ) (γ : GName)
    (d : (Pl E).Denot) (base : (Bs E).Denot) (k : ℕ) (x : (R E).Denot) (us0 us1 us2 us3 : List Val) where
  open 𝓛 use {H, A}

  abbrev self : MutBor (Pl E).Denot
  self = record { ref_ptr = (rb, ro); ghost_name = γ; now = d }

  abbrev bound : (walk_of 𝓛 (ended E) (stayed E) (spec E 𝓛)).Ghost
  bound = (((κ, tt), (q, tt), tt, (self, (base, (k, (x, tt)))), (us0, (us1, (us2, (us3, tt))))), tt)

  abbrev Post : Val → SProp 𝓤
  Post = (walk_of 𝓛 (ended E) (stayed E) (spec E 𝓛)).post bound

  exits : us0 ≡ vptr rb ro ∷ [] → (new : (Pl E).Denot) → Ensures E d k x new
      → ent 𝓤 (⋆ 𝓛 (‵ (fobs γ ((Pl E).coded.code new)) ∷ ‵ (fbor κ (Borrowed (mem (Pl E)) rb ro γ)) ∷ ‵ (flft κ q) ∷ [])) (Post vunit)
  exits passed new e =
      qed 𝓛 (‵ (fobs γ ((Pl E).coded.code new)) ∷ ‵ (fbor κ (Borrowed (mem (Pl E)) rb ro γ)) ∷ ‵ (flft κ q) ∷ []) ∵
      suffices ! _ (ends_at 𝓛 (ended E) (stayed E) (spec E 𝓛) bound vunit tt (new, (tt, (tt, (tt, tt)))) (tt, (tt, (tt, (tt, tt))))) $
      says ! e $
      nothing ! $ move ! (3 ∷ 0 ∷ []) $ join ! $ frame ! $ feq_i ! (List Val) us0 (vptr rb ro ∷ []) passed $ fjoin3 ! $
      nothing ! $ nothing ! $ fjoin ! $ nothing ! $ fjoin ! $ nothing ! $ fjoin ! $ move ! (1 ∷ 0
      ∷ []) $ fjoin ! $ feq_i ! (List Val) (vunit ∷ []) (vunit ∷ []) refl $ move ! (1 ∷ 0 ∷ []) $ done !

  abbrev Had : Val → List (Item 𝓤)
  Had v = ‵ (fobs γ ((Pl E).coded.code d)) ∷ ‵ (fbor κ (Borrowed (mem (Pl E)) rb ro γ)) ∷ ‵ (flft κ q) ∷ ‵ ((R E).own_val x (v ∷ [])) ∷ []

  walk : us0 ≡ vptr rb ro ∷ [] → Asks E d base k → k < 2 ^ 64 → (v : Val) → Good (layout (R E)) v
      → ent 𝓤 (⋆ 𝓛 (Had v)) (WpFn 𝓤 H C Λ (function E) (vptr rb ro ∷ word base.ptr ∷ vint w64 k ∷ v ∷ []) Post)
  walk passed asked fits v good =
      let xs = d.values in let n = d.room in let s = type_size (R E) in
      let new : (Pl E).Denot = record { mark = d.mark; at = d.at; room = n; values = take k xs ++ x ∷ [] } in
      qed 𝓛 (Had v) ∵ enter ! C Λ (function E) (vptr rb ro ∷ word base.ptr ∷ vint w64 k ∷ v
      ∷ []) _ $ alloc_all ! (λ l. pass_all ! refl ((tt, tt), (word-Good [] base.ptr, ((tt, record { fits = fits }), (good, tt)))) $
      let En : Env 𝓤 H = env (function E).locals l in
      opens ! tt (Pl E) {h = d} rb ro (λ vs. move ! (1 ∷ []) $ fsplit ! $ move ! (1 ∷ []) $
      in_a_block ! d.at (λ p. places_own (R E) p n xs) (id⊢ 𝓤 (never 𝓤)) (λ b o e. fsplit ! $ flt_l ! (λ small.
      let tiny : s < 2 ^ 64 = omega (arith, one_below n s (2 ^ 63) (omega arith) small) in
      let far : k * s < 2 ^ 64 = omega (arith, times_below k n s (2 ^ 63) (omega arith) small) in
      take_at ! 2 $ rewrite ! 0 (λ (p : Ptr). ‵ (fat full_share (layout (Bs E)) (l 2) 0 (word p))) (asked.0
      ∙ e) refl $ give_at ! 2 $ first ! $ blocks ! $
      sets ! (bin ! (get ! refl) (size_lit ! (record { fits = tiny })) (record { fits = far })) refl (tt, record { fits = far }) $
      sets ! (bin ! (get_in ! (fld ! refl (stop !)) (sub ! 0 refl (whole !))) (get ! refl) tt) refl (tt, tt) $
      use1 𝓛 (‵ (place (R E) b (k * s + o) None) ⊛ ‵ (Beside E 𝓛 b o k n xs asked.2 asked.3))
      (open_at E 𝓛 b o k n xs asked.2 asked.3 asked.1) $ split ! $ as_written ! (elτ E) b (k * s + o) $
      -- [the room; the other places; the mark; its cell; the open borrow, in three; what x owns]
      sets ! (of_opd ! (get ! refl)) refl good $ assigns_last ! (of_opd ! (get ! refl)) (through ! refl (stop !)) (init ! 0 refl good) $
      exec ! C Λ En (after 1 (function E).body) (at_ret En Post) $ sets ! (of_opd ! (unit_lit !)) refl (tt, tt) $
      move ! (0 ∷ 7 ∷ []) $ use2 𝓛 (‵ (place (R E) b (k * s + o) (Some x))) (value_in 0 E.row E.laws 𝓛 x b (k * s + o) v) $
      use2 𝓛 (‵ (row (R E) b o (spread n new.values))) (put_at E 𝓛 b o k n xs asked.2 asked.3 x) $
      flt_i ! (n * s) (2 ^ 63) small $ fjoin ! $ rewrite ! 0 (λ (p : Ptr). ‵ (places_own (R E) p n new.values)) (sym e) refl $
      move ! (1 ∷ 0 ∷ []) $ fjoin ! $ move ! (1 ∷ 0 ∷ []) $ closes ! tt (Pl E) new vs rb ro $
      returns ! (look_at ! 0 refl) $ free_all ! refl $ keep ! (0 ∷ 1 ∷ 2 ∷ []) $ by ! (exits passed new (refl, refl, refl))))))

  entry : Asks E d base k
      → ent 𝓤 (on_entry 𝓛 (ended E).signature (κ, tt) (q, tt) (self, (base, (k, (x, tt)))) (us0, (us1, (us2, (us3, tt)))))
      (WpFn 𝓤 H C Λ (function E) (us0 ++ (us1 ++ (us2 ++ (us3 ++ [])))) Post)
  entry asked =
      qed 𝓛 ((‵ (flft κ q) ⊛ ‵ ftrue)
      ∷ ‵ (owns (MutRef (named 0) κ (Pl E) ∷ Bs E ∷ usize ∷ R E ∷ []) (self, (base, (k, (x, tt)))) (us0, (us1, (us2, (us3, tt)))))
      ∷ []) ∵
      split ! $ move ! (2 ∷ []) $ fsplit ! $ fsplit3 ! $ feq_l ! (λ e0. move ! (2 ∷ []) $ fsplit ! $ base_had ! base.ptr us1 (λ e1.
      fsplit ! $ fsplit ! $ feq_l ! (λ e2. flt_l ! (λ fits. fsplit ! $ element_had E ! x us3 (λ v e3 good. keep ! (2 ∷ 3 ∷ 4 ∷ 0 ∷ []) $
      by ! (subst (λ (ws : List Val × List Val × List Val
      × List Val). ent 𝓤 (⋆ 𝓛 (Had v)) (WpFn 𝓤 H C Λ (function E) (ws.0 ++ (ws.1 ++ (ws.2 ++ (ws.3 ++ [])))) Post))
      (λ j. (sym e0 j, sym e1 j, sym e2 j, sym e3 j)) (walk e0 asked fits v good)))))))

meets : (E : El) {M : Type 1} {𝓤 : Ura M} (𝓛 : Logic 𝓤) (𝓣 : Tables 𝓤 𝓛.H)
    → Meets 𝓛 (ended E).signature (WpFn 𝓤 𝓛.H 𝓣.C 𝓣.Λ (function E)) (closing 𝓛 (ended E) (spec E 𝓛))
meets E {𝓤 = 𝓤} 𝓛 𝓣 =
    walk_Meets 𝓛 (ended E) (stayed E) (
      Goes-ref 𝓛 1 0 tt (plain (λ _. Pl E)),
      (
        Goes-dropped 𝓛 1 (plain (λ _. Bs E)) no (λ κs x f. refl),
        (
          Goes-dropped 𝓛 1 (plain (λ _. usize)) no (λ κs x f. refl),
          (Goes-dropped 𝓛 1 (plain (λ _. R E)) no (λ κs x f. refl), tt),
        ),
      ),
    ) (spec E 𝓛)
    (WpFn 𝓤 𝓛.H 𝓣.C 𝓣.Λ (function E)) (WpFn-mono 𝓤 𝓛.H 𝓛.laws 𝓣 (function E))
    (λ z. let κ = z.0.0.0 in let q = z.0.1.0 in let a = z.0.3 in let us = z.0.4 in
    needs 𝓤 (Asks E a.0.now a.1.0 a.1.1.0) _
    (entry E 𝓛 𝓣.C 𝓣.Λ κ q a.0.ref_ptr.0 a.0.ref_ptr.1 a.0.ghost_name a.0.now a.1.0 a.1.1.0 a.1.1.1.0 us.0 us.1.0 us.1.1.0 us.1.1.1.0))

pub write_spec : {M : Type 1} → stated.statement M
unfolding tables_of
write_spec 𝓤 𝓛 𝓜 𝓡 wired X LX y =
    let E : El = record { row = X; laws = LX } in
    let 𝓣 : Tables 𝓤 𝓛.H = tables_of 𝓤 𝓛.H 𝓜 (tables 𝓤 𝓛.H 𝓜 𝓡 𝓡.env) in
    let key = #self (args E) in
    spared 𝓛 (ended E).signature (𝓡.run (𝓡.env key)) (run_framed 𝓤 𝓛.H 𝓜 𝓡 (𝓡.env key)) 1 (X.lives, tt) (closing 𝓛 (ended E) (spec E 𝓛))
    (entered 𝓤 𝓛.H (triple_of 𝓛 (ended E).signature (closing 𝓛 (ended E) (spec E 𝓛))) 𝓣.C 𝓣.Λ key (function E)
    (code.unfolded 𝓤 𝓛.H 𝓜 𝓡 wired (X, tt)) (meets E 𝓛 𝓣))
    ((y.0.0, y.0.1, tt, y.0.3, y.0.4), y.1)
