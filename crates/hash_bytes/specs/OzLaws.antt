-- The steps of djb2, SDBM and LoseLose stay in range and are injective, and what undoes them.
use Rattle.std.proofs.Common.{◌≡◌, ℕ, ◌+◌, ◌-◌, ◌*◌, ◌%◌, ◌^◌, ◌<◌, bit_xor, ap, ◌∙◌, arith}
use Rattle.hash_laws.specs.StepFacts.{StepFacts}
use Rattle.hash_rounds.specs.Sums.{sdbm_step, loselose_step}
use Rattle.hash_words.proofs.XorLemmas.{xor_twice, xor_cancel, xor_cancel_left, xored_32}
use Rattle.hash_bytes.specs.Oz.{djb2_step}

pub djb2_facts : StepFacts djb2_step (2 ^ 32) 256
djb2_facts = record {
  in_range = λ h b hs sb. xored_32 (33 * h % 2 ^ 32) b (omega arith) sb;
  state_injective = λ h k b hs ks sb e. omega (arith, xor_cancel (33 * h % 2 ^ 32) (33 * k % 2 ^ 32) b e);
  item_injective = λ h a b hs sa sb e. xor_cancel_left (33 * h % 2 ^ 32) a b e;
}

pub djb2_back : (h b : ℕ) → h < 2 ^ 32 → b < 256 → djb2_step (bit_xor h b * 1041204193 % 2 ^ 32) b ≡ h
djb2_back h b hs sb =
    let small = xored_32 h b hs sb in
    let undone : 33 * (bit_xor h b * 1041204193 % 2 ^ 32) % 2 ^ 32 ≡ bit_xor h b = omega arith in
    ap (λ y. bit_xor y b) undone ∙ xor_twice h b

pub sdbm_facts : StepFacts sdbm_step (2 ^ 32) 256
sdbm_facts = record {
  in_range = λ h b hs sb. omega arith;
  state_injective = λ h k b hs ks sb e. omega arith;
  item_injective = λ h a b hs sa sb e. omega arith;
}

pub sdbm_back : (h b : ℕ) → h < 2 ^ 32 → b < 256 → sdbm_step ((h + (2 ^ 32 - b)) % 2 ^ 32 * 2390421439 % 2 ^ 32) b ≡ h
sdbm_back h b hs sb = omega arith

pub loselose_facts : StepFacts loselose_step (2 ^ 64) 256
loselose_facts = record {
  in_range = λ h b hs sb. omega arith;
  state_injective = λ h k b hs ks sb e. omega arith;
  item_injective = λ h a b hs sa sb e. omega arith;
}

pub loselose_back : (h b : ℕ) → h < 2 ^ 64 → b < 256 → loselose_step ((h + (2 ^ 64 - b)) % 2 ^ 64) b ≡ h
loselose_back h b hs sb = omega arith
