-- The numbers of the chunks so far.
use Rattle.std.specs.Prelude.{ℕ, ◌≡◌, ◌≤◌, ◌+◌, ◌^◌, ◌⊎◌, ◌==◌, ◌++◌, Bool, List, None, length}
use Rattle.std.specs.List.{list_any}
use Rattle.std.specs.Ordering.{nat_cmp}
use Rattle.std.specs.BTreeSet.{contains}
use Rattle.cli.specs.Files.{Opens}
use Rattle.cuts_core.specs.Cut.{Cut, IsCut, Opening}
use Rattle.cuts_core.specs.Tally.{AreCut, all_given, bytes_of, firsts}
use Rattle.cuts_core.specs.declared.tally.Tally.{Tally}
use Rattle.hash_cuts.specs.Cuts.{Cutting}
use Rattle.hash_cuts.specs.Reading.{Taken}
use Rattle.hash_lines.specs.Sums.{sum_by}

-- these are the numbers of these chunks
pub record IsCounted (hash : List ℕ → ℕ) (given : List (List ℕ)) (tally : Tally) : Type 0 where
  pub chunks : tally.chunks ≡ length given
  pub bytes : tally.bytes ≡ bytes_of given
  pub first : tally.first ≡ bytes_of (firsts hash given)
  pub seen : (number : ℕ) → contains nat_cmp tally.hashes number ≡ list_any (λ chunk. number == hash chunk) given

-- one chunk more, or its bytes, pass the greatest number
abbrev pub AreTooMany : Tally → (chunk : List ℕ) → Type 0
AreTooMany tally chunk = (2 ^ 64 ≤ tally.chunks + 1) ⊎ (2 ^ 64 ≤ tally.bytes + length chunk) ⊎ (2 ^ 64 ≤ tally.first + length chunk)

-- where these were the numbers of some chunks, they are now those of more
abbrev pub CountsMore : (hash : List ℕ → ℕ) (old new : Tally) (given : List (List ℕ)) → Type 0
CountsMore hash old new given = (before : List (List ℕ)) → IsCounted hash before old → IsCounted hash (before ++ given) new

-- the same of a sink that counts, unless it refused a chunk
abbrev pub CountsChunks : Taken Tally
CountsChunks start now given refused = (now.kind ≡ start.kind) × (refused ≡ None → CountsMore (sum_by start.kind) start now given)

-- the chunks of a file are counted
abbrev pub CountsFile : (hash : List ℕ → ℕ) → Cutting → Opening → (old new : Tally) (whole : Bool) → Type 0
CountsFile hash cuts opens old new whole = (given : List (List ℕ)) × IsCut cuts opens given whole × CountsMore hash old new given

-- those of all files are, and no others
abbrev pub CountsFiles : (hash : List ℕ → ℕ) → Cutting → Opens → (names : List (List ℕ)) → Tally → (all : Bool) → Type 0
CountsFiles hash cuts opens names tally all = (files : List Cut) × AreCut cuts opens names files all × IsCounted hash (all_given files) tally
