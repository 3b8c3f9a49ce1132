-- Each hash that a line can tell is found by its name.
use Rattle.hashsum_core.proofs.Common.{ℕ, ◌≡◌, Bool, true, false, List, [], ◌∷◌, map, Some, Contains, refl, sym, ap, ◌∙◌, bytes_eq, unwrap_or, to_ascii_lowercase, AllByRecursion, bytes_decides, All-contains, All-from_recursion, Sum, is_named, kind_of, kinds, name_in, find}

abbrev IsFound : List Sum → Sum → Type 0
IsFound sums sum = find (λ kind. is_named (name_in sum) (name_in kind)) sums ≡ Some sum

-- by computing
names_are_found : (keyed : Bool) → AllByRecursion (IsFound (kinds keyed)) (kinds keyed)
unfolding kinds
names_are_found false = (refl, (refl, (refl, (refl, (refl, (refl, (refl, (refl, (refl, (refl, (refl, (refl, (refl, (refl, (refl, (refl, (refl, (refl, (refl, (refl, (refl, (refl, (refl, (refl, (refl, (refl, (refl, (refl, tt))))))))))))))))))))))))))))
names_are_found true = (refl, (refl, (refl, (refl, (refl, (refl, (refl, (refl, (refl, (refl, (refl, (refl, (refl, (refl, (refl, (refl, (refl, (refl, (refl, (refl, (refl, (refl, (refl, (refl, (refl, (refl, (refl, (refl, (refl, (refl, tt))))))))))))))))))))))))))))))

pub some_same : {X : Type 0} {x y : X} → Some x ≡ Some y → x ≡ y
some_same {x = x} is = ap (λ o. unwrap_or o x) is

pub kind_of_named : (sums : List Sum) (name : List ℕ) → kind_of sums (Some name) ≡ find (λ kind. is_named name (name_in kind)) sums
kind_of_named [] name = refl
kind_of_named (kind ∷ sums) name = refl

-- a name in other letters finds the same
pub found_alike : (sums : List Sum) (name word : List ℕ) → is_named word name ≡ true
    → kind_of sums (Some word) ≡ find (λ kind. is_named name (name_in kind)) sums
found_alike sums name word named =
    let letters : map to_ascii_lowercase name ≡ map to_ascii_lowercase word =
    (bytes_decides (map to_ascii_lowercase name) (map to_ascii_lowercase word)).0 named in
    kind_of_named sums word ∙ ap (λ n. find (λ (kind : Sum). bytes_eq (map to_ascii_lowercase (name_in kind)) n) sums) (sym letters)

pub name_found : (keyed : Bool) (sum : Sum) → Contains (kinds keyed) sum → (word : List ℕ) → is_named word (name_in sum) ≡ true
    → kind_of (kinds keyed) (Some word) ≡ Some sum
name_found keyed sum has word named =
    found_alike (kinds keyed) (name_in sum) word named
    ∙ All-contains (IsFound (kinds keyed)) (kinds keyed) sum
    (All-from_recursion (IsFound (kinds keyed)) (kinds keyed) (names_are_found keyed)) has
