-- How many values have a property.
use Rattle.hash_laws.specs.Common.{◌≡◌, sym, lit<, arith}
use Rattle.hash_laws.specs.Exactly.{Exactly}

-- one has it, and no other
pub Exactly-one : {A : Type 0} (has : A → Type 0) (x : A) → has x → ((y : A) → has y → y ≡ x) → Exactly 1 has
Exactly-one has x here alone = record {
  value = λ i. x;
  number = λ y. 0;
  value_has = λ i below. here;
  number_below = λ y known. lit< tt;
  number_of_value = λ i below. omega arith;
  value_of_number = λ y known. sym (alone y known);
}
