-- The mixes of a word, and what undoes them.
use Rattle.hash_theorems.proofs.Xxh3Common.{◌≡◌, ℕ, ◌+◌, ◌/◌, ◌^◌, ◌<◌, refl, lit≤, arith, xor_lt, rotl, xorshift, UndoesWords, ◌▷◌, multiplied, shifted, shifted_less, times, turned, length_in, avalanche, avalanche_64, three_turns, length_mix}
use Rattle.hash_words.proofs.XorLemmas.{xor_twice, xor_block_kept}
use Rattle.hash_theorems.proofs.TurnLemmas.{of_turns}

abbrev pub un_avalanche : ℕ → ℕ
un_avalanche h = xorshift (times (xorshift h 32) 0x8da8ee41d6df849) 37

pub of_avalanche : UndoesWords 64 avalanche un_avalanche
unfolding avalanche
of_avalanche = shifted 64 37 (lit≤ tt) ▷ multiplied 64 0x165667919e3779f9 0x8da8ee41d6df849 refl ▷ shifted 64 32 (lit≤ tt)

abbrev pub un_avalanche_64 : ℕ → ℕ
un_avalanche_64 h = xorshift (times (xorshift (xorshift (times (xorshift h 32) 0xe9e9f4c41d6df849) 29) 58) 0xba79078168d4baf) 33

pub of_avalanche_64 : UndoesWords 64 avalanche_64 un_avalanche_64
unfolding avalanche_64
of_avalanche_64 =
    shifted 64 33 (lit≤ tt) ▷ multiplied 64 0xc2b2ae3d27d4eb4f 0xba79078168d4baf refl ▷ shifted_less 64 29 (lit≤ tt)
    ▷ multiplied 64 0x165667b19e3779f9 0xe9e9f4c41d6df849 refl ▷ shifted 64 32 (lit≤ tt)

abbrev pub un_three_turns : ℕ → ℕ
un_three_turns x = rotl 64 (turned 4 32 (turned 34 48 (turned 49 24 x))) 56

pub of_three_turns : UndoesWords 64 three_turns un_three_turns
unfolding three_turns
of_three_turns = of_turns

-- what is folded on leaves the bits behind 35 alone
module _ (len : ℕ) (len_in : len < 16) where
  length_in-lt : (h : ℕ) → h < 2 ^ 64 → length_in len h < 2 ^ 64
  unfolding length_in
  length_in-lt h h_in = xor_lt 64 h (h / 2 ^ 35 + len) h_in (omega arith)

  length_in-twice : (h : ℕ) → h < 2 ^ 64 → length_in len (length_in len h) ≡ h
  unfolding length_in
  length_in-twice h h_in =
      let few : h / 2 ^ 35 + len < 2 ^ 35 = omega arith in
      rw (xor_block_kept 35 h (h / 2 ^ 35 + len) few) (xor_twice h (h / 2 ^ 35 + len))

  of_length_in : UndoesWords 64 (length_in len) (length_in len)
  of_length_in = record { there_in = length_in-lt; back_in = length_in-lt; back = length_in-twice; there = length_in-twice }

abbrev pub un_length_mix : ℕ → ℕ → ℕ
un_length_mix len h =
    un_three_turns (times (length_in len (times (xorshift (xorshift h 28) 56) 0x2ab9c720d1024ad)) 0x2ab9c720d1024ad)

pub of_length_mix : (len : ℕ) → len < 16 → UndoesWords 64 (length_mix len) (un_length_mix len)
unfolding length_mix
of_length_mix len len_in =
    of_three_turns ▷ multiplied 64 0x9fb21c651e98df25 0x2ab9c720d1024ad refl ▷ of_length_in len len_in
    ▷ multiplied 64 0x9fb21c651e98df25 0x2ab9c720d1024ad refl ▷ shifted_less 64 28 (lit≤ tt)
