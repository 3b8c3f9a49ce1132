-- What a piece does to the state of an Xxh3Pieces, and what it keeps.
use Rattle.hash_map_keys.proofs.Common.{ℕ, List, UndoesWords, [], arith, bit_xor, byte_step, le_bytes, length, length-le_bytes, lit≤, multiplied, piece_step, refl, shifted, told, xor_cancel_left, xored, xored_64, xorshift, xxh3_64_of, ◌%◌, ◌*◌, ◌<◌, ◌^◌, ◌∷◌, ◌≡◌, ◌≢◌, ◌▷◌}

pub of_bytes : (state : ℕ) (piece : List ℕ) → length piece ≢ 1 → xxh3_64_of state piece ≡ piece_step state piece
unfolding piece_step
of_bytes state [] some = refl
of_bytes state (byte ∷ []) some = absurd (some refl)
of_bytes state (a ∷ b ∷ more) some = refl

pub of_number : (state count number : ℕ) → count ≢ 1 → xxh3_64_of state (le_bytes count number) ≡ piece_step state (le_bytes count number)
of_number state count number many = of_bytes state (le_bytes count number) (λ one. many (omega (arith, one, length-le_bytes count number)))

pub of_byte : (state byte : ℕ) → byte_step state byte ≡ piece_step state (byte ∷ [])
unfolding piece_step
of_byte state byte = refl

-- ---- a byte's step loses nothing

mixes : UndoesWords 64 (λ x. xorshift (x * 0x9e3779b185ebca87 % 2 ^ 64) 32) (λ x. xorshift x 32 * 0x887493432badb37 % 2 ^ 64)
mixes = multiplied 64 0x9e3779b185ebca87 0x887493432badb37 refl ▷ shifted 64 32 (lit≤ tt)

pub same_xored : (s t a b : ℕ) → s < 2 ^ 64 → t < 2 ^ 64 → a < 256 → b < 256 → byte_step s a ≡ byte_step t b → bit_xor s a ≡ bit_xor t b
same_xored s t a b s_in t_in a_in b_in = told mixes (bit_xor s a) (bit_xor t b) (xored_64 s a s_in a_in) (xored_64 t b t_in b_in)

pub same_state : (s t byte : ℕ) → s < 2 ^ 64 → t < 2 ^ 64 → byte < 256 → byte_step s byte ≡ byte_step t byte → s ≡ t
same_state s t byte s_in t_in byte_in same =
    told (xored 64 byte (let l : byte < 2 ^ 64 = omega (arith, byte_in) in l)) s t s_in t_in (same_xored s t byte byte s_in t_in byte_in byte_in same)

pub same_byte : (state a b : ℕ) → state < 2 ^ 64 → a < 256 → b < 256 → byte_step state a ≡ byte_step state b → a ≡ b
same_byte state a b state_in a_in b_in same = xor_cancel_left state a b (same_xored state state a b state_in state_in a_in b_in same)
