-- CRCs of 32 bits by the polynomial, whose bits and the word's are in reverse order, as all programs keep them: CRC-32
-- (RFC 1952, section 8) and CRC-32C (RFC 3720, sections 12.1 and B.4).
use Rattle.std.specs.Prelude.{ℕ, zero, suc, ◌*◌, ◌/◌, ◌%◌, List, bit_xor}
use Rattle.hash_laws.specs.Recurrence.{recurrence}

-- the polynomials: of IEEE 802.3, and of Castagnoli
abbrev pub ieee : ℕ
ieee = 0xEDB88320

abbrev pub castagnoli : ℕ
castagnoli = 0x82F63B78

-- the state before the first byte, and what the answer is xored with
abbrev pub all_ones : ℕ
all_ones = 0xFFFFFFFF

-- the low bit goes out; where it was set, the polynomial is xored in
abbrev pub bit_out : ℕ → ℕ → ℕ
bit_out p word = bit_xor (word / 2) (word % 2 * p)

-- so many bits, one after the other
abbrev pub bits_out : ℕ → ℕ → ℕ → ℕ
bits_out p zero word = word
bits_out p (suc n) word = bits_out p n (bit_out p word)

-- one byte: it is xored in, and then eight bits go out
abbrev pub crc_step : ℕ → ℕ → ℕ → ℕ
crc_step p h b = bits_out p 8 (bit_xor h b)

-- the state after a text, from a start, by default all ones
abbrev pub crc_from : ℕ → ℕ → List ℕ → ℕ
crc_from p = recurrence (crc_step p)

-- the answer of a state: all its bits inverted
abbrev pub crc_answer : ℕ → ℕ
crc_answer h = bit_xor h all_ones

-- the hash of a text, by each polynomial
abbrev pub crc32_of : List ℕ → ℕ
crc32_of text = crc_answer (crc_from ieee all_ones text)

abbrev pub crc32c_of : List ℕ → ℕ
crc32c_of text = crc_answer (crc_from castagnoli all_ones text)
