-- The parts of a line.
use Rattle.hash_lines.proofs.Common.{◌≡◌, ◌≢◌, ◌⊎◌, inl, inr, ℕ, suc, true, false, All, List, [], ◌∷◌, refl, ◌++◌, Option, Some, None, MatchOption, length, take, drop, codes, sym, ap, ◌∙◌, subst, append_assoc, arith, bytes_eq, ShowsNumber, ShowsTagged, ShowsUntagged, hex_value, append_cancel_left, length-append, All-head, All-tail, Bor, bytes_decides, rules, nat_tests, common_steps}
use Rattle.std.proofs.Math.Seq.{take-append_seam, drop-append_seam}

-- two texts with the first byte behind them of which P does not hold are cut at the same place
pub first_one : (P : ℕ → Type 0) (m n : ℕ) → ¬ (P m) → ¬ (P n) → (xs ys us vs : List ℕ) → All P xs → All P us
    → xs ++ m ∷ ys ≡ us ++ n ∷ vs → (xs ≡ us) × (ys ≡ vs)
first_one P m n not_m not_n [] ys [] vs here there same = (refl, cc)
first_one P m n not_m not_n [] ys (u ∷ us) vs here there same =
    let is : u ≡ m = cc in absurd (not_m (subst P is (All-head P u us there)))
first_one P m n not_m not_n (x ∷ xs) ys [] vs here there same =
    let is : x ≡ n = cc in absurd (not_n (subst P is (All-head P x xs here)))
first_one P m n not_m not_n (x ∷ xs) ys (u ∷ us) vs here there same =
    let head : x ≡ u = cc in
    let more : xs ++ m ∷ ys ≡ us ++ n ∷ vs = cc in
    let rest = first_one P m n not_m not_n xs ys us vs (All-tail P x xs here) (All-tail P u us there) more in
    (ap (λ b. b ∷ xs) head ∙ ap (λ t. u ∷ t) rest.0, rest.1)

-- two texts that are told apart are not the same
pub told_apart : (xs ys : List ℕ) → false ≡ bytes_eq xs ys → xs ≢ ys
told_apart xs ys apart same = let clash : false ≡ true = apart ∙ (bytes_decides xs ys).1 same in cc

-- a text that is cut at the same place from its end in two ways
pub same_ends : (xs ys us vs : List ℕ) → xs ++ ys ≡ us ++ vs → length ys ≡ length vs → (xs ≡ us) × (ys ≡ vs)
same_ends xs ys us vs same ends =
    let begins : length xs ≡ length us = omega (arith, length-append xs ys, length-append us vs, ap length same) in (
      sym (take-append_seam xs ys) ∙ ap (take (length xs)) same ∙ ap (λ n. take n (us ++ vs)) begins ∙ take-append_seam us vs,
      sym (drop-append_seam xs ys) ∙ ap (drop (length xs)) same ∙ ap (λ n. drop n (us ++ vs)) begins ∙ drop-append_seam us vs,
    )

-- the same from its beginning
pub same_begins : (xs ys us vs : List ℕ) → xs ++ ys ≡ us ++ vs → length xs ≡ length us → (xs ≡ us) × (ys ≡ vs)
same_begins xs ys us vs same begins =
    same_ends xs ys us vs same (omega (arith, length-append xs ys, length-append us vs, ap length same))

-- the front of a text that begins with another
pub front_is : (front rest bytes : List ℕ) → front ++ rest ≡ bytes → take (length front) bytes ≡ front
front_is front rest bytes is = ap (take (length front)) (sym is) ∙ take-append_seam front rest

-- what stands behind two texts, one behind the other
pub behind_both : (result : Option (Bor (List ℕ))) (front next middle bytes : List ℕ) → front ++ middle ≡ bytes
    → MatchOption result ((rest : List ℕ) → next ++ rest ≢ middle) (λ rest. next ++ rest.now ≡ middle)
    → MatchOption result ((rest : List ℕ) → front ++ (next ++ rest) ≢ bytes) (λ rest. front ++ (next ++ rest.now) ≡ bytes)
behind_both None front next middle bytes begins none =
    λ rest is. none rest (append_cancel_left front (next ++ rest) middle (is ∙ sym begins))
behind_both (Some rest) front next middle bytes begins is = ap (λ t. front ++ t) is ∙ begins

-- three texts that are joined in two steps
pub joined_three : (xs ys zs front rest : List ℕ) → xs ++ ys ≡ front → front ++ zs ≡ rest → xs ++ (ys ++ zs) ≡ rest
joined_three xs ys zs front rest first second = sym (append_assoc xs ys zs) ∙ ap (λ t. t ++ zs) first ∙ second

-- the middle of three texts, where the last two have their lengths
pub middle_is : (xs ys zs us vs ws rest : List ℕ) → xs ++ (ys ++ zs) ≡ rest → us ++ (vs ++ ws) ≡ rest → length ys ≡ length vs
    → length zs ≡ length ws → ys ≡ vs
middle_is xs ys zs us vs ws rest one other middles ends = grind (arith, nat_tests, common_steps, same_ends, append_assoc)

-- the last of three texts
pub last_is : (xs ys zs us vs ws rest : List ℕ) → xs ++ (ys ++ zs) ≡ rest → us ++ (vs ++ ws) ≡ rest → length zs ≡ length ws → zs ≡ ws
last_is xs ys zs us vs ws rest one other ends =
    (same_ends (xs ++ ys) zs (us ++ vs) ws (append_assoc xs ys zs ∙ one ∙ sym (append_assoc us vs ws ∙ other)) ends).1

pub inner_is : (tag mark inner rest body : List ℕ) → tag ++ (mark ++ inner) ≡ body → tag ++ (mark ++ rest) ≡ body → inner ≡ rest
inner_is tag mark inner rest body one other =
    append_cancel_left mark inner rest (append_cancel_left tag (mark ++ inner) (mark ++ rest) (one ∙ sym other))

-- no tagged line, without the mark in front of the digits
pub no_mark : (tag : List ℕ) (count : ℕ) (rest body : List ℕ) → tag ++ (codes " (" ++ rest) ≡ body
    → ((shown digits : List ℕ) → length digits ≡ count → shown ++ (codes ") = " ++ digits) ≢ rest)
    → (shown : List ℕ) (number : ℕ) → ¬ (ShowsTagged tag count shown number body)
no_mark tag count rest body begins none shown number (digits, shows, is) =
    none shown digits shows.0 (inner_is tag (codes " (") (shown ++ (codes ") = " ++ digits)) rest body is begins)

-- no tagged line, where the last bytes are no digits
pub no_digits : (tag : List ℕ) (count : ℕ) (rest body front last : List ℕ) → tag ++ (codes " (" ++ rest) ≡ body → length last ≡ count
    → front ++ (codes ") = " ++ last) ≡ rest → ((number : ℕ) → ¬ (ShowsNumber count number last))
    → (shown : List ℕ) (number : ℕ) → ¬ (ShowsTagged tag count shown number body)
no_digits tag count rest body front last begins whole ends none shown number (digits, shows, is) =
    let here = inner_is tag (codes " (") (shown ++ (codes ") = " ++ digits)) rest body is begins in
    none number (subst (ShowsNumber count number)
    (last_is shown (codes ") = ") digits front (codes ") = ") last rest here ends (shows.0 ∙ sym whole)) shows)

-- the digits in front of an untagged line
pub front_digits : (count n : ℕ) (shown body : List ℕ) → ShowsUntagged count shown n body
    → (digits : List ℕ) × (rest : List ℕ) × (length digits ≡ count) × (hex_value digits ≡ Some n) × (digits ++ rest ≡ body)
    × ((rest ≡ 32 ∷ 32 ∷ shown) ⊎ (rest ≡ 32 ∷ 42 ∷ shown))
front_digits count n shown body (digits, shows, inl is) = (digits, codes "  " ++ shown, shows.0, shows.1, is, inl refl)
front_digits count n shown body (digits, shows, inr is) = (digits, codes " *" ++ shown, shows.0, shows.1, is, inr refl)

-- no untagged line, without the spaces behind the digits
pub no_spaces : (count : ℕ) (first rest body : List ℕ) → first ++ rest ≡ body → length first ≡ count
    → ((shown : List ℕ) → ¬ ((codes "  " ++ shown ≡ rest) ⊎ (codes " *" ++ shown ≡ rest)))
    → (shown : List ℕ) (number : ℕ) → ¬ (ShowsUntagged count shown number body)
no_spaces count first rest body begins whole none shown number shows =
    let (digits, more, long, tell, is, behind) = front_digits count number shown body shows in
    let same = (same_begins digits more first rest (is ∙ sym begins) (long ∙ sym whole)).1 in
    none shown (grind (arith, same, behind))

-- no untagged line, where the first bytes are no digits
pub no_first_digits : (count : ℕ) (first rest body : List ℕ) → first ++ rest ≡ body → length first ≡ count
    → ((number : ℕ) → ¬ (ShowsNumber count number first)) → (shown : List ℕ) (number : ℕ) → ¬ (ShowsUntagged count shown number body)
no_first_digits count first rest body begins whole none shown number shows = search (rules, front_digits, same_begins)

-- the name that a tagged line shows
pub tagged_shown : (tag : List ℕ) (count number other : ℕ) (shown more body : List ℕ) → ShowsTagged tag count shown number body
    → ShowsTagged tag count more other body → shown ≡ more
tagged_shown tag count number other shown more body (digits, shows, is) (others, same, also) =
    let inner = inner_is tag (codes " (") (shown ++ (codes ") = " ++ digits)) (more ++ (codes ") = " ++ others)) body is also in
    (same_ends shown (codes ") = " ++ digits) more (codes ") = " ++ others) inner
    (ap (λ n. suc (suc (suc (suc n)))) (shows.0 ∙ sym same.0))).0

-- the name that an untagged line shows
pub untagged_shown : (count number other : ℕ) (shown more body : List ℕ) → ShowsUntagged count shown number body
    → ShowsUntagged count more other body → shown ≡ more
untagged_shown count number other shown more body one two = grind (arith, nat_tests, common_steps, front_digits, same_begins)
