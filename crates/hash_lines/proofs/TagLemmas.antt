-- Kinds whose names are tags.
use Rattle.hash_lines.proofs.Common.{◌≡◌, ◌⊎◌, inl, inr, ℕ, zero, suc, ◌||◌, not, Bool, true, List, [], ◌∷◌, refl, ap, sym, ◌∙◌, arith, Contains, map, bytes_eq, AreTags, IsTag, are_tags, is_tag, Sum, nat_tests, list_any, name_in, common_steps, and_parts}
use Rattle.std.proofs.lemmas.Slice.Eq.{bytes_eq-Decides}
use Rattle.std.proofs.lemmas.List.Folds.{list_any_at}

tag_seen : (name : List ℕ) → is_tag name ≡ true → IsTag name
tag_seen [] seen = tt
tag_seen (byte ∷ more) seen = grind (arith, nat_tests, tag_seen more)

-- an element that holds is seen
any_of : {X : Type 0} (p : X → Bool) (xs : List X) (x : X) → Contains xs x → p x ≡ true → list_any p xs ≡ true
any_of p xs x (k, below, is) holds = list_any_at p xs k x below (ap p is ∙ holds)

any_mapped : {X Y : Type 0} (p : Y → Bool) (f : X → Y) (xs : List X) → list_any p (map f xs) ≡ list_any (λ x. p (f x)) xs
any_mapped p f [] = refl
any_mapped p f (x ∷ xs) = ap (λ b. p (f x) || b) (any_mapped p f xs)

none_there : {X : Type 0} (x : X) → Contains [] x → ⊥
none_there x (k, below, is) = omega (arith, below)

-- an element is the first one, or one of the others
first_or_later : {X : Type 0} (first : X) (more : List X) (x : X) → Contains (first ∷ more) x → (first ≡ x) ⊎ Contains more x
first_or_later first more x (zero, below, is) = inl is
first_or_later first more x (suc k, below, is) = inr (k, omega (arith, below), is)

-- the names of kinds
abbrev names_of : List Sum → List (List ℕ)
names_of kinds = map name_in kinds

each_tag : (kinds : List Sum) → are_tags (names_of kinds) ≡ true → (kind : Sum) → Contains kinds kind → IsTag (name_in kind)
each_tag [] seen kind there = absurd (none_there kind there)
each_tag (first ∷ more) seen kind there = grind (arith, nat_tests, common_steps, and_parts, first_or_later, tag_seen)

-- the name of the first kind is no other's
not_later : (first : Sum) (more : List Sum) (kind : Sum)
    → not (list_any (bytes_eq (name_in first)) (names_of more)) ≡ true → Contains more kind
    → name_in first ≡ name_in kind → ⊥
not_later first more kind none later same = grind (arith, nat_tests, common_steps, any_mapped, any_of, bytes_eq-Decides)

names_apart : (kinds : List Sum) → are_tags (names_of kinds) ≡ true → (kind other : Sum) → Contains kinds kind → Contains kinds other
    → name_in kind ≡ name_in other → kind ≡ other
names_apart [] seen kind other there too same = absurd (none_there kind there)
names_apart (first ∷ more) seen kind other there too same =
    let parts = and_parts (is_tag (name_in first)) _ seen in
    let others = and_parts (not (list_any (bytes_eq (name_in first)) (names_of more))) (are_tags (names_of more)) parts.1 in
    elim (first_or_later first more kind there) [
      | inl is ↦ elim (first_or_later first more other too) [
        | inl also ↦ sym is ∙ also
        | inr later ↦ absurd (not_later first more other others.0 later (ap name_in is ∙ same))
      ]
      | inr later ↦ elim (first_or_later first more other too) [
        | inl also ↦ absurd (not_later first more kind others.0 later (ap name_in also ∙ sym same))
        | inr last ↦ names_apart more others.1 kind other later last same
      ]
    ]

pub tags_seen : (kinds : List Sum) (default : Sum) → are_tags (names_of kinds) ≡ true → AreTags kinds default
tags_seen kinds default seen = record { each = each_tag kinds seen; apart = names_apart kinds seen }
