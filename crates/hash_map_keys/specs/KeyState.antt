-- Where a MapHasher stands.
use Rattle.std.specs.Prelude.{ℕ, suc, ◌+◌, ◌-◌, ◌*◌, ◌/◌, ◌^◌, ◌%◌, List, [], ◌∷◌, length, take, drop, min, nat_lt, if◌then◌else◌, slice_index}
use Rattle.std.specs.Borrow.{Bor}
use Rattle.std.specs.declared.option.Option.{Option}
use Rattle.std.specs.declared.option.Option.TheVariants.{None, Some}
use Rattle.hash_keyed.specs.Poly61.{prime61}
use Rattle.hash_keyed.specs.Poly61State.{Position, after, as_word, poly_end, start_at}
use Rattle.hash_map_keys.specs.declared.hasher.MapHasher.{MapHasher}
use Rattle.hash_map_keys.specs.declared.keys.MapKeys.{MapKeys}

-- what bytes add to the sum from a place on: each stands at its place in a word, and each word has a multiplier
unfoldable pub share : (multipliers : List ℕ) (at : ℕ) → List ℕ → ℕ
share multipliers at [] = 0
share multipliers at (byte ∷ bytes) =
    slice_index multipliers (at / 8) * (byte * 2 ^ (8 * (at % 8))) + share multipliers (suc at) bytes

-- the bytes behind the first 128, with more of them
unfoldable pub rest_after : (text_key : ℕ) → Option Position → List ℕ → Option Position
rest_after text_key rest [] = rest
rest_after text_key None (byte ∷ bytes) = Some (after (start_at (text_key % prime61)) (byte ∷ bytes))
rest_after text_key (Some at) (byte ∷ bytes) = Some (after at (byte ∷ bytes))

-- before the first byte
abbrev pub fresh_at : Bor MapKeys → MapHasher
fresh_at keys = record { keys = keys; sum = keys.now.addend; held = 0; rest = None }

-- after bytes more, which are counted up to 129
abbrev pub after_write : MapHasher → List ℕ → MapHasher
after_write h bytes =
    (let room = 128 - h.held in
    record h {
      sum = (h.sum + share h.keys.now.multipliers h.held (take room bytes)) % 2 ^ 128;
      held = min 129 (h.held + length bytes);
      rest = rest_after h.keys.now.text_key h.rest (drop room bytes);
    })

-- the word that the bytes behind the first 128 are
unfoldable pub word_of : Option Position → ℕ
word_of None = 0
word_of (Some at) = as_word (poly_end at)

-- the answer
abbrev pub answer_of : MapHasher → ℕ
answer_of h =
    (h.sum + slice_index h.keys.now.multipliers 16 * (if nat_lt 128 h.held then word_of h.rest else 0)) % 2 ^ 128 / 2 ^ 64
