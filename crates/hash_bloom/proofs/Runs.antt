-- Changes one after another, and what they leave to be found.
use Rattle.hash_bloom.proofs.Common.{ℕ, ◌≡◌, ◌⊎◌, ◌↔◌, List, [], ◌∷◌, ◌++◌, sym, ap, ◌∙◌, subst, ⊎_elim, inl, inr, length, append_assoc, arith, nil_from_length, Filter, IsProbe, Passes, Fits, Adds, SetsBit, AnySetsBit, Inserts, rules, common_steps, nat_tests}
use Rattle.std.proofs.lemmas.List.{append-nil}
use Rattle.hash_bloom.specs.declared.commands.Command.{Command}
use Rattle.hash_bloom.specs.declared.commands.Command.TheVariants.{Insert, Union, Store}
use Rattle.hash_bloom.proofs.Found.{passes_added}

-- where a list that is gone over is split, one item later and at the end
pub split_more : {X : Type 0} (all done rest after : List X) (x : X) → all ≡ done ++ rest → rest ≡ x ∷ after
    → all ≡ (done ++ x ∷ []) ++ after
split_more all done rest after x split next = split ∙ ap (λ t. done ++ t) next ∙ sym (append_assoc done (x ∷ []) after)

pub split_end : {X : Type 0} (all done rest : List X) → all ≡ done ++ rest → length rest ≡ 0 → done ≡ all
split_end all done rest split none = sym (split ∙ ap (λ t. done ++ t) (nil_from_length rest none) ∙ append-nil done)

module _ (f g : List ℕ → ℕ) where
  module _ {F G : Type 0} where
    -- which bits a command sets depends on the number of bits and probes alone
    sets_same : (a b : Filter) → Fits a b → (command : Command F G) (j : ℕ) → SetsBit f g b command j ↔ SetsBit f g a command j
    sets_same a b fits (Insert key) j = grind (arith, nat_tests, common_steps)
    sets_same a b fits (Union other) j = (λ set. set, λ set. set)
    sets_same a b fits Store j = (λ set. set, λ set. set)

    any_more : (a : Filter) (done : List (Command F G)) (command : Command F G) (j : ℕ)
        → AnySetsBit f g a (done ++ command ∷ []) j ↔ (AnySetsBit f g a done j ⊎ SetsBit f g a command j)
    any_more a [] command j =
        (λ set. ⊎_elim (λ here. inr here) (λ none. absurd none) set, λ set. ⊎_elim (λ none. absurd none) (λ here. inl here) set)
    any_more a (first ∷ done) command j = grind (arith, nat_tests, common_steps, any_more a done command j)

    -- one command more
    pub run_more : (a mid new : Filter) (done : List (Command F G)) (command : Command F G)
        → Adds a mid (AnySetsBit f g a done) → Adds mid new (SetsBit f g mid command)
        → Adds a new (AnySetsBit f g a (done ++ command ∷ []))
    run_more a mid new done command before step = search (rules, sets_same, any_more)

    inserts_set : (a : Filter) (commands : List (Command F G)) (key : List ℕ) → Inserts commands key
        → (j : ℕ) → IsProbe f g a key j → AnySetsBit f g a commands j
    inserts_set a [] key none j probe = absurd none
    inserts_set a (Insert inserted ∷ commands) key inserts j probe = ⊎_elim
        (λ is. inl (subst (λ (k : List ℕ). IsProbe f g a k j) (sym is) probe))
        (λ later. inr (inserts_set a commands key later j probe))
        inserts
    inserts_set a (Union other ∷ commands) key inserts j probe = inr (inserts_set a commands key inserts j probe)
    inserts_set a (Store ∷ commands) key inserts j probe = inr (inserts_set a commands key inserts j probe)

    -- each key that was inserted is found
    pub inserted_found : (a new : Filter) (commands : List (Command F G)) → Adds a new (AnySetsBit f g a commands)
        → (key : List ℕ) → Inserts commands key → Passes f g new key
    inserted_found a new commands adds key inserts =
        passes_added f g a new (AnySetsBit f g a commands) key adds (λ j probe. inserts_set a commands key inserts j probe)
