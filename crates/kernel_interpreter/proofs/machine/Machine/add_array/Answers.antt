use Rattle.std.proofs.Common.{◌≡◌, ◌∙◌, ◌++◌, ◌∷◌, [], if◌then◌else◌, Some, length, ap, refl, arith}
use Rattle.kernel_code.specs.Arrays.{same_arr}
use Rattle.machine_parts.specs.declared.words.OwnArray.{OwnArray}
use Rattle.machine_parts.specs.ArrayPlaces.{held, place_in}
use Rattle.machine_parts.proofs.PlaceLemmas.{HasPlace}
use Rattle.kernel_interpreter.specs.declared.machine.Machine.{Machine}
use Rattle.kernel_interpreter.specs.Store.{count_of}
use Rattle.kernel_interpreter.proofs.StoreLemmas.{array_added}
use Rattle.kernel_interpreter.proofs.machine.Machine.add_array.Goals as goal

pub returns : goal.returns
returns c =
    let old = c.args.self.now in
    let a = c.args.a in
    let array : OwnArray = record { name = a; words = c.args.words } in
    let new : Machine = record old { places = c.set.new.self; arrays = c.push_reserved.new.self } in
    let same : length c.reserve.new.self.items ≡ length old.arrays.items = ap length c.reserve.ensures.items in
    let count : c.len.result ≡ length old.arrays.items = omega (arith, same) in
    let places : HasPlace old.places new.places a (length old.arrays.items) =
    λ b. c.in_ok-set.ensures b ∙ ap (λ n. if same_arr a b then Some n else place_in old.places b) count in
    let items : new.arrays.items ≡ old.arrays.items ++ array ∷ [] =
    c.push_reserved.ensures.items ∙ ap (λ ws. ws ++ array ∷ []) c.reserve.ensures.items in
    λ i. record {
      vars = held old.variables;
      arrays = array_added old new a array c.requires refl places items refl i;
      turns = count_of old.turns.counts;
    }
