-- Both words of each hash of 128 bits are below 2^64, and so is a hash by XXH3.
use Rattle.std.proofs.lemmas.Grind.{common_steps}
use Rattle.std.proofs.lemmas.Bool.Decides.{nat_tests}
use Rattle.std.proofs.Common.{ℕ, ◌*◌, ◌^◌, ◌<◌, Bool, true, false, if◌then◌else◌, nat_lt, List, length, slice_index, refl, sym, lit<, subst, arith}
use Rattle.std.proofs.lemmas.Nat.{mod_below}
use Rattle.hash_words.specs.Pieces.{le_words}
use Rattle.hash_words.proofs.XorshiftLemmas.{xorshift-lt}
use Rattle.hash_words.proofs.WordLemmas.{AreWords-at}
use Rattle.hash_rounds.specs.Blocks.{spooky_blocks}
use Rattle.hash_rounds.specs.Rounds as rounds
use Rattle.hash_rounds.specs.Spooky.{short_end, spooky_end}
use Rattle.hash_rounds.specs.Steps.{AreSteps}
use Rattle.hash_rounds.proofs.BlockLemmas.{spooky_blocks-words}
use Rattle.hash_rounds.proofs.RoundLemmas.{AreFourWords, short_end-steps, stepped-AreFourWords}
use Rattle.hash_rounds.proofs.StepLemmas.{apply-words}
use Rattle.hash_jenkins.specs.Spooky as of
use Rattle.hash_jenkins.specs.SpookyLaws.{long_start-words}
use Rattle.hash_jenkins.proofs.ZeroLemmas.{add_at-AreFourWords, short_start-AreFourWords}
use Rattle.hash_blocks.specs.Murmur3x128 as murmur3_wide
use Rattle.hash_xxh3.specs.Words.{avalanche, avalanche_64, length_mix}
use Rattle.hash_xxh3.specs.Short.{of_none, of_sixteen}
use Rattle.hash_xxh3.specs.Middle.{of_128, of_240}
use Rattle.hash_xxh3.specs.Long as long
use Rattle.hash_xxh3.specs.Wide as wide
use Rattle.hash_xxh3.specs.Xxh3.{xxh3_64_of}

-- what holds of both holds of either
either : {A : Type 0} (P : A → Type 0) (b : Bool) {x y : A} → P x → P y → P (if b then x else y)
either P true first second = first
either P false first second = second

abbrev IsWord : ℕ → Type 0
IsWord n = n < 2 ^ 64

-- two words
abbrev AreBoth : ℕ × ℕ → Type 0
AreBoth words = IsWord words.0 × IsWord words.1

avalanche_below : (h : ℕ) → avalanche h < 2 ^ 64
unfolding avalanche
avalanche_below h = xorshift-lt 64 _ 32 (mod_below _ (2 ^ 64) (lit< tt))

avalanche_64_below : (h : ℕ) → avalanche_64 h < 2 ^ 64
unfolding avalanche_64
avalanche_64_below h = xorshift-lt 64 _ 32 (mod_below _ (2 ^ 64) (lit< tt))

length_mix_below : (len h : ℕ) → length_mix len h < 2 ^ 64
unfolding length_mix
length_mix_below len h = xorshift-lt 64 _ 28 (mod_below _ (2 ^ 64) (lit< tt))

-- ---- XXH3

pub xxh3_below : (seed : ℕ) (text : List ℕ) → xxh3_64_of seed text < 2 ^ 64
unfolding xxh3_64_of of_none of_sixteen of_128 of_240 long.long_under long.end_long long.merge
xxh3_below seed text = grind (arith, nat_tests, common_steps, either, avalanche_64_below, length_mix_below, avalanche_below)

pub xxh128_below : (seed : ℕ) (text : List ℕ) → AreBoth (wide.xxh3_128_of seed text)
unfolding wide.xxh3_128_of wide.wide_none wide.eight_low wide.sixteen_end wide.wide_128 wide.wide_240 wide.wide_end wide.wide_under
    wide.wide_end_long long.merge
xxh128_below seed text =
    let len = length text in
    either AreBoth (nat_lt len 241)
    (either AreBoth (nat_lt len 17)
    (either AreBoth (nat_lt len 1) (avalanche_64_below _, avalanche_64_below _)
    (either AreBoth (nat_lt len 4) (avalanche_64_below _, avalanche_64_below _)
    (either AreBoth (nat_lt len 9) (xorshift-lt 64 _ 28 (mod_below _ (2 ^ 64) (lit< tt)), avalanche_below _)
    (avalanche_below _, avalanche_below _))))
    (either AreBoth (nat_lt len 129) (avalanche_below _, mod_below _ (2 ^ 64) (lit< tt)) (avalanche_below _, mod_below _ (2 ^ 64) (lit< tt))))
    (avalanche_below _, avalanche_below _)

-- ---- MurmurHash3 of 128 bits

pub murmur3_below : (seed : ℕ) (text : List ℕ) → AreBoth (murmur3_wide.murmur3_128 seed text)
murmur3_below seed text = (mod_below _ (2 ^ 64) (lit< tt), mod_below _ (2 ^ 64) (lit< tt))

-- ---- SpookyHash

long_end-steps : AreSteps 64 12 12 rounds.spooky_end_steps
unfolding rounds.spooky_end_steps rounds.spooky_end_partial_steps rounds.data_sums
long_end-steps = refl

short_end_in : (h : List ℕ) → AreFourWords h → AreFourWords (short_end h)
short_end_in h are = stepped-AreFourWords h are rounds.short_end_steps short_end-steps

twelve_in : (seed1 seed2 : ℕ) (text : List ℕ) (i : ℕ) → seed1 < 2 ^ 64 → seed2 < 2 ^ 64
    → slice_index (of.twelve_words seed1 seed2 text) i < 2 ^ 64
twelve_in seed1 seed2 text i in1 in2 =
    let start = spooky_blocks-words (of.long_start seed1 seed2) text refl (long_start-words seed1 seed2 in1 in2) in
    let s = spooky_blocks (of.long_start seed1 seed2) text in
    let d = le_words (of.padded (of.tail text)) in
    AreWords-at 64 (spooky_end d s)
    (apply-words 64 12 rounds.spooky_end_steps d s (subst (λ n. AreSteps 64 n 12 rounds.spooky_end_steps) (sym start.0) long_end-steps)
    start.1).1 i

pub spooky_below : (seed1 seed2 : ℕ) (text : List ℕ) → seed1 < 2 ^ 64 → seed2 < 2 ^ 64 → AreBoth (of.spooky seed1 seed2 text)
spooky_below seed1 seed2 text in1 in2 =
    let start = short_start-AreFourWords seed1 seed2 text in1 in2 in
    let short = (short_end_in _ (add_at-AreFourWords _ 3 (length text * 2 ^ 56) start)).1 in
    let b = nat_lt (length text) 192 in (
      either (λ (words : List ℕ). IsWord (slice_index words 0)) b (short 0) (twelve_in seed1 seed2 text 0 in1 in2),
      either (λ (words : List ℕ). IsWord (slice_index words 1)) b (short 1) (twelve_in seed1 seed2 text 1 in1 in2),
    )

pub spooky_v1_below : (seed1 seed2 : ℕ) (text : List ℕ) → seed1 < 2 ^ 64 → seed2 < 2 ^ 64 → AreBoth (of.spooky_v1 seed1 seed2 text)
spooky_v1_below seed1 seed2 text in1 in2 =
    grind (arith, nat_tests, common_steps, short_end_in, short_start-AreFourWords, either, twelve_in)
