-- Names with escapes.
use Rattle.hash_lines.proofs.Common.{◌≡◌, ◌≢◌, ℕ, ◌+◌, ◌<◌, List, [], ◌∷◌, ◌++◌, length, take, get_or, ap, sym, ◌∙◌, append_assoc, append-nil, arith, escape, escaped_byte, nat_tests, take_more, common_steps}

pub escape-append : (name more : List ℕ) → escape (name ++ more) ≡ escape name ++ escape more
escape-append [] more = grind arith
escape-append (byte ∷ name) more = grind (arith, append_assoc (escaped_byte byte) (escape name) (escape more), escape-append name more)

-- one byte more
pub escape-take : (name : List ℕ) (i : ℕ) → i < length name
    → escape (take (i + 1) name) ≡ escape (take i name) ++ escaped_byte (get_or name i 0)
escape-take name i within = grind (arith, nat_tests, common_steps, take_more, escape-append, append-nil)

-- texts that begin alike begin with the same byte, and go on alike
pub first_same : (byte other : ℕ) (xs ys : List ℕ) → escaped_byte byte ++ xs ≡ escaped_byte other ++ ys → byte ≡ other
first_same byte other xs ys same = grind (arith, nat_tests)

pub first_rest : (byte other : ℕ) (xs ys : List ℕ) → escaped_byte byte ++ xs ≡ escaped_byte other ++ ys → xs ≡ ys
first_rest byte other xs ys same = grind (arith, nat_tests)

pub nothing_first : (byte : ℕ) (more : List ℕ) → escaped_byte byte ++ more ≢ []
nothing_first byte more none = grind (arith, nat_tests)

-- a name that goes on as another begins
goes_on : (done rest name : List ℕ) → escape done ++ rest ≡ escape name → (tail : List ℕ) × (escape tail ≡ rest)
goes_on [] rest name is = (name, sym is)
goes_on (byte ∷ done) rest [] is =
    absurd (nothing_first byte (escape done ++ rest) (sym (append_assoc (escaped_byte byte) (escape done) rest) ∙ is))
goes_on (byte ∷ done) rest (other ∷ name) is =
    goes_on done rest name (first_rest byte other (escape done ++ rest) (escape name)
    (sym (append_assoc (escaped_byte byte) (escape done) rest) ∙ is))

-- no name is escaped so, where what is left begins with no byte
pub no_name : (done rest shown name : List ℕ) → escape done ++ rest ≡ shown → 0 < length rest
    → ((byte : ℕ) (more : List ℕ) → escaped_byte byte ++ more ≢ rest) → escape name ≢ shown
no_name done rest shown name begins some none is = at (goes_on done rest name (begins ∙ sym is))
  where
    at : (tail : List ℕ) × (escape tail ≡ rest) → ⊥
    at ([], is_rest) = let nothing : length rest ≡ 0 = ap length (sym is_rest) in omega arith
    at (byte ∷ more, is_rest) = none byte (escape more) is_rest

-- one byte more of what is shown
pub escape_more : (done : List ℕ) (byte : ℕ) (more rest shown : List ℕ) → escaped_byte byte ++ more ≡ rest → escape done ++ rest ≡ shown
    → escape (done ++ byte ∷ []) ++ more ≡ shown
escape_more done byte more rest shown first begins =
    grind (arith, append_assoc, escape-append done (byte ∷ []), append-nil (escaped_byte byte), first, begins)
