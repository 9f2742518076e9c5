use Rattle.std.specs.Prelude.{◌≡◌, ◌⊎◌, ℕ, suc, ◌+◌, ◌-◌, ◌≤◌, ◌<◌, slice_index_or}
use Rattle.std.specs.declared.cmp.Ordering.TheVariants.{Less}
use Rattle.std.proofs.Common.{◌∙◌, sym, subst, arith, inl, inr}
use Rattle.std.proofs.lemmas.Bool.{cases_lt}
use Rattle.tensor_map.specs.Entries.{Entry}
use Rattle.tensor_map.specs.Order.{IsBefore}
use Rattle.tensor_map.proofs.OrderLaws.{compared_as}
use Rattle.tensor_storage.proofs.AppendSteps.{increasing_from, is_less}
use Rattle.tensor_storage.proofs.listing.are_increasing.Goals as goal

pub loop-next-preserved : goal.loop-next-preserved
loop-next-preserved c = λ k d less. by_order k d less
    (compared_as c.as_slice.result.now c.as_slice-in-loop-next.result.now Less
    (sym c.cmp.ensures ∙ is_less c.cmp.result (sym c.ne.ensures ∙ c.if-ne.false)))
    (cases_lt (suc k) c.loop-next.next)
  where
    by_order : (k : ℕ) (d : Entry) → suc k < c.loop-next.next + 1 → IsBefore c.as_slice.result.now c.as_slice-in-loop-next.result.now
        → (suc k < c.loop-next.next) ⊎ (c.loop-next.next ≤ suc k)
        → IsBefore (slice_index_or c.args.entries.now.list k d).coords (slice_index_or c.args.entries.now.list (suc k) d).coords
    by_order k d less here (inl before) = c.loop-next.invariant k d before
    by_order k d less here (inr from) =
        let next : c.loop-next.next ≡ suc k = omega (arith, less, from) in
        let last : c.loop-next.next - 1 ≡ k = omega (arith, next) in
        let P : ℕ → ℕ → Type 0 = λ m n. IsBefore (slice_index_or c.args.entries.now.list m d).coords
        (slice_index_or c.args.entries.now.list n d).coords in
        subst (λ m. P m (suc k)) last (subst (P (c.loop-next.next - 1)) next
        (subst (λ ys. IsBefore (slice_index_or c.args.entries.now.list (c.loop-next.next - 1) d).coords ys)
        (c.as_slice-in-loop-next.ensures.value ∙ c.coords-later.ensures.value d)
        (subst (λ xs. IsBefore xs c.as_slice-in-loop-next.result.now) (c.as_slice.ensures.value ∙ c.coords-earlier.ensures.value d) here)))

pub returns-clause-increasing : goal.returns-clause-increasing
returns-clause-increasing c = λ _. increasing_from c.args.entries.now.list
    (λ k d h. let all = c.loop-next-test.false in let long = c.len-next-end.ensures.value in
    c.loop-next.invariant k d (omega (arith, h, all, long)))
