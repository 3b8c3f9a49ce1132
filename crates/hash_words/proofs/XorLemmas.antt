-- What `^` does to a word, and how it is undone.
use Rattle.hash_words.proofs.Common.{◌≡◌, ℕ, ◌/◌, ◌^◌, ◌<◌, bit_xor, sym, ap, ◌∙◌, arith, div-eq_of_lt, xor_lt, xor_shr, xor_comm, xor_assoc, xor_self, xor_zero_r}

-- `^` undoes itself
pub xor_twice : (x y : ℕ) → bit_xor (bit_xor x y) y ≡ x
xor_twice x y = xor_assoc x y y ∙ ap (bit_xor x) (xor_self y) ∙ xor_zero_r x

pub xor_cancel : (h k b : ℕ) → bit_xor h b ≡ bit_xor k b → h ≡ k
xor_cancel h k b e = sym (xor_twice h b) ∙ ap (λ x. bit_xor x b) e ∙ xor_twice k b

pub xor_cancel_left : (h a b : ℕ) → bit_xor h a ≡ bit_xor h b → a ≡ b
xor_cancel_left h a b e = xor_cancel a b h (xor_comm a h ∙ e ∙ xor_comm h b)

-- a number of k bits changes the low k bits alone
pub xor_block_kept : (k h b : ℕ) → b < 2 ^ k → bit_xor h b / 2 ^ k ≡ h / 2 ^ k
xor_block_kept k h b small =
    xor_shr h b k ∙ ap (bit_xor (h / 2 ^ k)) (div-eq_of_lt small) ∙ xor_zero_r (h / 2 ^ k)

-- a word with a byte xored in is a word
pub xored_32 : (h b : ℕ) → h < 2 ^ 32 → b < 256 → bit_xor h b < 2 ^ 32
xored_32 h b hs sb = xor_lt 32 h b hs (omega arith)

pub xored_64 : (h b : ℕ) → h < 2 ^ 64 → b < 256 → bit_xor h b < 2 ^ 64
xored_64 h b hs sb = xor_lt 64 h b hs (omega arith)
