use Rattle.std.proofs.lemmas.Grind.{common_steps}
use Rattle.std.proofs.lemmas.Bool.Decides.{nat_tests}
use Rattle.hash_map_keys.proofs.Common.{ℕ, List, ap₂, wides, ◌∷◌, ◌≡◌, arith}
use Rattle.hash_map_keys.proofs.keys.MapKeys.from_words.Goals as goal

next : {a b : ℕ} {l m : List ℕ} → a ≡ b → l ≡ m → (a ∷ l) ≡ (b ∷ m)
next same others = ap₂ (λ (x : ℕ) (xs : List ℕ). x ∷ xs) same others

pub returns : goal.returns
unfolding wides
returns c = grind (arith, nat_tests, common_steps, next)
