-- Where a text is cut into chunks by what it says (A. Muthitacharoen, B. Chen, D. Mazières, "A Low-bandwidth Network File System", 2001).
use Rattle.std.specs.Prelude.{ℕ, zero, suc, ◌+◌, ◌-◌, ◌*◌, ◌^◌, ◌≤◌, Bool, not, nat_lt, List, [], ◌∷◌, length, take, drop, min}
use Rattle.std.specs.List.{prefix_len, range_with_len}
use Rattle.hash_cuts.specs.Gear.{gear, gear_at}

-- the least and the most bytes of a chunk, how many places have one cut on average, and the seeds of the gear hash
pub record Cutting : Type 0 where
  pub least : ℕ
  pub average : ℕ
  pub most : ℕ
  pub seed1 : ℕ
  pub seed2 : ℕ

abbrev pub cutting : ℕ → ℕ → ℕ → ℕ → ℕ → Cutting
cutting least average most seed1 seed2 = record { least = least; average = average; most = most; seed1 = seed1; seed2 = seed2 }

-- the sizes that may be
abbrev pub AreSizes : ℕ → ℕ → ℕ → Type 0
AreSizes least average most = (64 ≤ least) × (least ≤ average) × (average ≤ most)

abbrev pub HasSizes : Cutting → Type 0
HasSizes cuts = AreSizes cuts.least cuts.average cuts.most

-- whether a place of a text is a cut: the gear hash there is below 2 ^ 64 / average
abbrev pub is_cut : Cutting → List ℕ → ℕ → Bool
is_cut cuts text n = nat_lt (gear_at (gear cuts.seed1 cuts.seed2) text n * cuts.average) (2 ^ 64)

-- how many bytes the first chunk of a text has: up to the first cut from `least` bytes on, but no more than `most`
unfoldable pub first_cut : Cutting → List ℕ → ℕ
first_cut cuts text =
    let end = min cuts.most (length text) in
    min end (cuts.least + prefix_len (λ n. not (is_cut cuts text n)) (range_with_len cuts.least (end - cuts.least)))

-- the chunks of a text, at most so many
unfoldable pub chunks_upto : ℕ → Cutting → List ℕ → List (List ℕ)
chunks_upto zero cuts text = []
chunks_upto (suc n) cuts [] = []
chunks_upto (suc n) cuts (byte ∷ text) =
    let cut = first_cut cuts (byte ∷ text) in
    take cut (byte ∷ text) ∷ chunks_upto n cuts (drop cut (byte ∷ text))

-- the chunks of a text: the first one, and those of the rest
abbrev pub chunks : Cutting → List ℕ → List (List ℕ)
chunks cuts text = chunks_upto (length text) cuts text

-- where chunks end that begin at a place
unfoldable pub ends_from : ℕ → List (List ℕ) → List ℕ
ends_from place [] = []
ends_from place (chunk ∷ chunks) = (place + length chunk) ∷ ends_from (place + length chunk) chunks

-- where the chunks of a text end
abbrev pub chunk_ends : Cutting → List ℕ → List ℕ
chunk_ends cuts text = ends_from 0 (chunks cuts text)
